use Rattle.std.proofs.Common.{◌≡◌, pos, neg_ℤ, Some, None, sym, ap, ◌∙◌, subst, arith, w32, SFits, to_z, of_z, rules}
use Rattle.std.proofs.lemmas.Int.{to_z-of_z, to_z_pos}
use Rattle.ports.specs.Words.{magnitude_of}
use Rattle.ports.proofs.Magnitudes.{magnitude_of_below}
use Rattle.ports.proofs.Numerals.{number_minus, number_plain, fits_signed, seen_neg}
use Rattle.ports.proofs.words.number.Goals as goal

pub returns-in_err-n : goal.returns-in_err-n
returns-in_err-n c =
    let none : c.from_residual.result ≡ None = search rules in
    let bad : None ≡ magnitude_of 2147483648 c.in-Some.digits.now = search rules in
    none ∙ number_minus c.args.word.now c.in-Some.digits.now None c.in-Some.ensures.cases.0 c.in-Some.ensures.cases.1 bad

pub overflow_cast-result : goal.overflow_cast-result
overflow_cast-result c =
    let told : Some c.in_ok-n.n ≡ magnitude_of 2147483648 c.in-Some.digits.now = search rules in
    let m = magnitude_of_below 2147483648 c.in-Some.digits.now c.in_ok-n.n (sym told) in
    subst (SFits w32) (sym (seen_neg c.in_ok-n.n c.from.result c.from.ensures m)) (fits_signed c.in_ok-n.n m)

pub returns-in-Some : goal.returns-in-Some
returns-in-Some c =
    let told : Some c.in_ok-n.n ≡ magnitude_of 2147483648 c.in-Some.digits.now = search rules in
    let m = magnitude_of_below 2147483648 c.in-Some.digits.now c.in_ok-n.n (sym told) in
    ap (λ z. Some (to_z w32 (of_z w32 z))) (seen_neg c.in_ok-n.n c.from.result c.from.ensures m)
    ∙ ap Some (to_z-of_z w32 (neg_ℤ (pos c.in_ok-n.n)) (fits_signed c.in_ok-n.n m))
    ∙ number_minus c.args.word.now c.in-Some.digits.now (Some c.in_ok-n.n) c.in-Some.ensures.cases.0 c.in-Some.ensures.cases.1 told

pub returns-in_err-n-2 : goal.returns-in_err-n-2
returns-in_err-n-2 c =
    let none : c.from_residual-in_err-n-2.result ≡ None = search rules in
    let bad : None ≡ magnitude_of 2147483647 c.args.word.now = search rules in
    none ∙ number_plain c.args.word.now None c.in_default.ensures.cases bad

pub overflow_cast-result-2 : goal.overflow_cast-result-2
overflow_cast-result-2 c =
    let told : Some c.in_ok-n-2.n ≡ magnitude_of 2147483647 c.args.word.now = search rules in
    let m = magnitude_of_below 2147483647 c.args.word.now c.in_ok-n-2.n (sym told) in
    record { sfits = omega arith }

pub returns : goal.returns
returns c =
    let told : Some c.in_ok-n-2.n ≡ magnitude_of 2147483647 c.args.word.now = search rules in
    let m = magnitude_of_below 2147483647 c.args.word.now c.in_ok-n-2.n (sym told) in
    ap Some (to_z_pos w32 c.in_ok-n-2.n (omega arith))
    ∙ number_plain c.args.word.now (Some c.in_ok-n-2.n) c.in_default.ensures.cases told
