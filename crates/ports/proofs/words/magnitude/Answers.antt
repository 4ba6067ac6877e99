use Rattle.std.proofs.Common.{◌≡◌, ◌+◌, ◌-◌, ◌*◌, ◌<◌, ◌≤◌, true, length, get_or, drop, None, sym, refl, ◌∙◌, arith, rules}
use Rattle.ports.specs.Words.{digit}
use Rattle.ports.proofs.Magnitudes.{magnitude_more, magnitude_large, magnitude_some}
use Rattle.ports.proofs.words.magnitude.Goals as goal

pub returns-then-value-most : goal.returns-then-value-most
returns-then-value-most c =
    let ds = c.args.digits.now in
    let i = c.loop-b.b-index in
    let one : digit (get_or ds i 0) ≡ true = search rules in
    let some : 0 < length ds = search rules in
    let more = magnitude_more c.args.most c.loop-b.value (get_or ds i 0 - 48) ds i c.loop-b-test.true one refl in
    sym (magnitude_some c.args.most ds some ∙ sym c.loop-b.invariant ∙ sym more ∙ magnitude_large c.args.most _ (drop (i + 1) ds) (omega arith))

pub returns-in_err-value : goal.returns-in_err-value
returns-in_err-value c =
    let ds = c.args.digits.now in
    let i = c.loop-b.b-index in
    let most = c.ranges.most.fits in
    let none : c.from_residual.result ≡ None = search rules in
    let big : 4294967296 ≤ c.loop-b.value * 10 + c.from.result = search rules in
    let one : digit (get_or ds i 0) ≡ true = search rules in
    let some : 0 < length ds = search rules in
    let more = magnitude_more c.args.most c.loop-b.value c.from.result ds i c.loop-b-test.true one c.from.ensures in
    none ∙ sym (magnitude_some c.args.most ds some ∙ sym c.loop-b.invariant ∙ sym more ∙ magnitude_large c.args.most _ (drop (i + 1) ds) (omega arith))
