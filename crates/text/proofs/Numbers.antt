-- The value of decimal digits, digit by digit.
use Rattle.std.proofs.Common.{◌≡◌, ℕ, ◌+◌, ◌-◌, ◌*◌, ◌<◌, ◌≤◌, Bool, cond, leb, List, [], ◌∷◌, length, get_or, drop, Some, None, Option, sym, ap, ◌∙◌, arith}
use Rattle.std.proofs.lemmas.List.{at_drop_more, at_drop_all}
use Rattle.std.proofs.lemmas.Bool.{le-leb, lt-leb}
use Rattle.text.specs.Lexemes.{value_from, magnitude_of}

-- one digit on
pub value_more : (n d : ℕ) (ds : List ℕ) (i : ℕ) → i < length ds → d ≡ get_or ds i 0 - 48 → value_from (n * 10 + d) (drop (i + 1) ds) ≡ value_from n (drop i ds)
value_more n d ds i h e = sym (at_drop_more (value_from n) ds i 0 h ∙ ap (λ x. value_from (n * 10 + x) (drop (i + 1) ds)) (sym e))

pub value_all : (n : ℕ) (ds : List ℕ) (i : ℕ) → length ds ≤ i → value_from n (drop i ds) ≡ n
value_all n ds i h = at_drop_all (value_from n) ds i h

-- more digits never make a number smaller
pub value_grows : (n : ℕ) (ds : List ℕ) → n ≤ value_from n ds
value_grows n [] = omega arith
value_grows n (d ∷ ds) = let h = value_grows (n * 10 + (d - 48)) ds in omega arith

abbrev judged : Bool → ℕ → Option ℕ
judged b v = cond b (Some v) None

pub magnitude_small : (n : ℕ) (ds : List ℕ) → n ≡ value_from 0 ds → n ≤ 2147483648 → Some n ≡ magnitude_of ds
magnitude_small n ds e h = ap (λ b. judged b n) (sym (le-leb n 2147483648 h)) ∙ ap (λ v. judged (leb v 2147483648) v) e

pub magnitude_large : (n : ℕ) (ds rest : List ℕ) → value_from n rest ≡ value_from 0 ds → 2147483648 < n → None ≡ magnitude_of ds
magnitude_large n ds rest e h =
    let g = value_grows n rest in
    let l : 2147483648 < value_from 0 ds = omega arith in
    ap (λ b. judged b (value_from 0 ds)) (sym (lt-leb (value_from 0 ds) 2147483648 l))
