-- The number that a word spells, in std's words for numerals.
use Rattle.std.proofs.Common.{◌≡◌, ℕ, zero, suc, ◌+◌, ◌-◌, ◌*◌, ◌<◌, ◌≤◌, Bool, true, false, cond, eqb, leb, List, [], ◌∷◌, take, drop, ℤ, pos, ◌-ℤ◌, neg_ℤ, Some, None, Option, sym, refl, ap, ◌∙◌, subst, arith, w32, w64, SFits, to_z, of_z}
use Rattle.std.specs.Char.{digit_value}
use Rattle.std.specs.Prelude.{bytes_eq}
use Rattle.std.specs.Option.{option_map}
use Rattle.std.specs.Str.Parse.{AllDigits, IsNumeral, digits_value, digits_value_after, without_leading_plus, without_leading_sign, signed_digits_value}
use Rattle.std.proofs.lemmas.Bool.{le-leb, leb-true, eq-eqb, ne_eqb, and_parts, and_from, both_ways}
use Rattle.std.proofs.lemmas.Int.{ints}
use Rattle.std.proofs.lemmas.Option.{cond_some}
use Rattle.std.proofs.lemmas.Str.{digit_value_digit}
use Rattle.std.proofs.lemmas.Str.Parse.{digit_from_value}
use Rattle.std.proofs.lemmas.Slice.Eq.{bytes_eq-Decides}
use Rattle.ports.specs.Words.{digit, magnitude_from, magnitude_of, number_of}

digit_bounds : (d : ℕ) → digit d ≡ true → (48 ≤ d) × (d ≤ 57)
digit_bounds d h = let p = and_parts (leb 48 d) (leb d 57) h in (leb-true 48 d p.0, leb-true d 57 p.1)

digit_is : (d : ℕ) → digit_value d < 10 → (digit d ≡ true) × (digit_value d ≡ d - 48)
digit_is d h =
    let p = digit_from_value d h in
    (and_from (leb 48 d) (leb d 57) (le-leb 48 d p.0) (le-leb d 57 p.1), omega (arith, digit_value_digit d p))

-- What digits spell after those of n, both ways.
magnitude_reads : (most n : ℕ) (ds : List ℕ) (v : ℕ) → magnitude_from most n ds ≡ Some v → AllDigits 10 ds × (digits_value_after 10 n ds ≡ v) × (v ≤ most)
magnitude_reads most n [] v e = let c = cond_some (leb n most) n v e in (tt, c.1, omega (arith, c.1, leb-true n most c.0))
magnitude_reads most n (d ∷ ds) v e = go (digit d) refl (magnitude_reads most (n * 10 + (d - 48)) ds v) e
  where
    go : (t : Bool) → digit d ≡ t → (magnitude_from most (n * 10 + (d - 48)) ds ≡ Some v → AllDigits 10 ds × (digits_value_after 10 (n * 10 + (d - 48)) ds ≡ v) × (v ≤ most)) → cond t (magnitude_from most (n * 10 + (d - 48)) ds) None ≡ Some v → AllDigits 10 (d ∷ ds) × (digits_value_after 10 n (d ∷ ds) ≡ v) × (v ≤ most)
    go true t k e =
        let p = digit_bounds d t in
        let same : digit_value d ≡ d - 48 = omega (arith, digit_value_digit d p) in
        let r = k e in
        ((omega (arith, same), r.0), ap (λ x. digits_value_after 10 (n * 10 + x) ds) same ∙ r.1, r.2)
    go false t k e = absurd (cc)

magnitude_gives : (most n : ℕ) (ds : List ℕ) → AllDigits 10 ds → digits_value_after 10 n ds ≤ most → magnitude_from most n ds ≡ Some (digits_value_after 10 n ds)
magnitude_gives most n [] h k = ap (λ (b : Bool). cond b (Some n) None) (le-leb n most k)
magnitude_gives most n (d ∷ ds) (h, hs) k =
    let p = digit_is d h in
    ap (λ (b : Bool). cond b (magnitude_from most (n * 10 + (d - 48)) ds) None) p.0
    ∙ ap (λ x. magnitude_from most (n * 10 + x) ds) (sym p.1)
    ∙ magnitude_gives most (n * 10 + digit_value d) ds hs k

magnitude_of_reads : (most : ℕ) (ds : List ℕ) (v : ℕ) → magnitude_of most ds ≡ Some v → IsNumeral 10 ds × (digits_value 10 ds ≡ v) × (v ≤ most)
magnitude_of_reads most [] v e = absurd (cc)
magnitude_of_reads most (d ∷ ds) v e = let r = magnitude_reads most 0 (d ∷ ds) v e in ((omega arith, r.0), r.1, r.2)

magnitude_of_gives : (most : ℕ) (ds : List ℕ) → IsNumeral 10 ds → digits_value 10 ds ≤ most → magnitude_of most ds ≡ Some (digits_value 10 ds)
magnitude_of_gives most [] h k = absurd (omega (arith, h.0))
magnitude_of_gives most (d ∷ ds) h k = magnitude_gives most 0 (d ∷ ds) h.1 k

-- A word of digits, and one of `-` and digits.
abbrev signed : ℕ → ℤ
signed n = neg_ℤ (pos n)

abbrev by_minus : Bool → List ℕ → List ℕ → Option ℤ
by_minus t bs w = cond t (option_map signed (magnitude_of 2147483648 bs)) (option_map pos (magnitude_of 2147483647 w))

pub number_digits : (ds : List ℕ) → IsNumeral 10 ds → digits_value 10 ds ≤ 2147483647 → number_of ds ≡ Some (pos (digits_value 10 ds))
unfolding number_of
number_digits [] h k = absurd (omega (arith, h.0))
number_digits (d ∷ ds) h k =
    let p = digit_from_value d h.1.0 in
    ap (λ t. by_minus t ds (d ∷ ds)) (ne_eqb d 45 (λ q. omega arith))
    ∙ ap (option_map pos) (magnitude_of_gives 2147483647 (d ∷ ds) h k)

pub number_negative : (ds : List ℕ) → IsNumeral 10 ds → digits_value 10 ds ≤ 2147483648 → number_of (45 ∷ ds) ≡ Some (signed (digits_value 10 ds))
unfolding number_of
number_negative ds h k = ap (option_map signed) (magnitude_of_gives 2147483648 ds h k)

pub fits_signed : (n : ℕ) → n ≤ 2147483648 → SFits w32 (signed n)
fits_signed zero h = record { sfits = omega arith }
fits_signed (suc n) h = record { sfits = omega arith }

-- What a word spells, in std's words.
abbrev signless : Bool → ℕ → List ℕ → List ℕ
signless t b bs = cond t bs (without_leading_plus (b ∷ bs))

abbrev value : Bool → ℕ → List ℕ → ℤ
value t b bs = cond t (signed (digits_value 10 (signless t b bs))) (pos (digits_value 10 (signless t b bs)))

no_plus : (b : ℕ) (bs : List ℕ) → (b ≡ 43 → ⊥) → without_leading_plus (b ∷ bs) ≡ b ∷ bs
no_plus b bs n = ap (λ (t : Bool). drop (cond t 1 0) (b ∷ bs)) (ne_eqb b 43 n)

pub record Reads (w : List ℕ) (z : ℤ) : Type 0 where
  pub numeral : IsNumeral 10 (without_leading_sign w)
  pub fits : SFits w32 z
  pub same : signed_digits_value 10 w ≡ z

mapped_some : (f : ℕ → ℤ) (o : Option ℕ) (z : ℤ) (P : Type 0) → ((v : ℕ) → o ≡ Some v → f v ≡ z → P) → option_map f o ≡ Some z → P
mapped_some f None z P h e = absurd (cc)
mapped_some f (Some v) z P h e = h v refl (cc)

pub number_reads : (w : List ℕ) (z : ℤ) → number_of w ≡ Some z → Reads w z
unfolding number_of
number_reads [] z e = absurd (cc)
number_reads (b ∷ bs) z e = let k = go (eqb b 45) e in record { numeral = k.0; fits = k.1; same = k.2 }
  where
    go : (t : Bool) → by_minus t bs (b ∷ bs) ≡ Some z → IsNumeral 10 (signless t b bs) × SFits w32 z × (value t b bs ≡ z)
    go true e =
        mapped_some signed (magnitude_of 2147483648 bs) z _
        (λ v m k. let r = magnitude_of_reads 2147483648 bs v m in (r.0, subst (SFits w32) k (fits_signed v r.2), ap signed r.1 ∙ k)) e
    go false e =
        mapped_some pos (magnitude_of 2147483647 (b ∷ bs)) z _
        (λ v m k.
        let r = magnitude_of_reads 2147483647 (b ∷ bs) v m in
        let d = digit_from_value b r.0.1.0 in
        let plus = no_plus b bs (λ q. omega arith) in
        (subst (IsNumeral 10) (sym plus) r.0, subst (SFits w32) k (record { sfits = omega (arith, r.2) }), ap (λ l. pos (digits_value 10 l)) plus ∙ ap pos r.1 ∙ k))
        e

-- The word as the code takes it apart: by a `-` in front.
pub number_minus : (w ds : List ℕ) (o : Option ℕ) → bytes_eq (take 1 w) (45 ∷ []) ≡ true → ds ≡ drop 1 w → o ≡ magnitude_of 2147483648 ds → option_map signed o ≡ number_of w
unfolding number_of
number_minus [] ds o h k e = absurd (let same : [] ≡ 45 ∷ [] = (bytes_eq-Decides [] (45 ∷ [])).0 h in cc)
number_minus (b ∷ bs) ds o h k e =
    let same : b ∷ [] ≡ 45 ∷ [] = (bytes_eq-Decides (b ∷ []) (45 ∷ [])).0 h in
    let minus : b ≡ 45 = cc in
    ap (option_map signed) (e ∙ ap (magnitude_of 2147483648) k)
    ∙ ap (λ t. by_minus t bs (b ∷ bs)) (sym (eq-eqb b 45 minus))

pub number_plain : (w : List ℕ) (o : Option ℕ) → bytes_eq (take 1 w) (45 ∷ []) ≡ false → o ≡ magnitude_of 2147483647 w → option_map pos o ≡ number_of w
unfolding number_of
number_plain [] o h e = ap (option_map pos) e
number_plain (b ∷ bs) o h e =
    let other : b ≡ 45 → ⊥ = λ is. both_ways _ h ((bytes_eq-Decides (b ∷ []) (45 ∷ [])).1 (ap (λ x. x ∷ []) is)) in
    ap (option_map pos) e ∙ ap (λ t. by_minus t bs (b ∷ bs)) (sym (ne_eqb b 45 other))

pub seen_neg : (n : ℕ) (z : ℤ) → z ≡ pos n → n ≤ 2147483648 → to_z w64 (of_z w64 (pos 0 -ℤ to_z w64 (of_z w64 z))) ≡ neg_ℤ (pos n)
seen_neg n z e h = omega (arith, ints)
