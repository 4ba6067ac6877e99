-- What was spelled is read back.
use Rattle.std.proofs.Common.{◌≡◌, ℕ, suc, ◌≤◌, true, leb, List, [], ◌∷◌, ◌++◌, false, ℤ, pos, negsuc, neg_ℤ, nat_abs, Some, None, decimal, Option, sym, refl, ap, ◌∙◌, arith}
use Rattle.std.specs.Int.{IsInRange}
use Rattle.std.specs.List.{AllByRecursion}
use Rattle.std.specs.Str.Parse.{AllDigits}
use Rattle.std.proofs.lemmas.Fmt.{decimal_is_IsNumeral}
use Rattle.std.proofs.lemmas.List.{append_assoc, append-nil}
use Rattle.std.proofs.lemmas.List.Elements.{All-from_recursion}
use Rattle.std.proofs.lemmas.List.Splits.{slice_split_at}
use Rattle.std.proofs.lemmas.Bool.{leb-true, and_parts}
use Rattle.std.proofs.lemmas.Str.Parse.{digit_from_value}
use Rattle.ports.specs.Spellings.{sign_of, spelled, spellings, fits32, ReadBack}
use Rattle.ports.specs.Words.{blank, pieces, number_of, leading, numbers_of, numbers_in}
use Rattle.ports.proofs.Numerals.{number_digits, number_negative, number_reads}
use Rattle.ports.proofs.Ranges.{all_within}

-- a digit is no blank
digit_solid : (d : ℕ) → IsInRange 48 57 d → blank d ≡ false
digit_solid d p = grind arith

-- a word, and then a line feed
abbrev Whole : List ℕ → Type 0
Whole w = AllByRecursion (λ b. blank b ≡ false) w

word_split : (w rest : List ℕ) → Whole w → pieces (w ++ (10 ∷ rest)) ≡ w ∷ pieces rest
word_split w rest h = slice_split_at blank w 10 rest (All-from_recursion (λ b. blank b ≡ false) w h) refl

digits_whole : (ds : List ℕ) → AllDigits 10 ds → Whole ds
digits_whole [] h = tt
digits_whole (d ∷ ds) (h, hs) = (digit_solid d (digit_from_value d h), digits_whole ds hs)

numbers_of_word : (w : List ℕ) (n : ℤ) (ps : List (List ℕ)) → number_of w ≡ Some n → numbers_of (w ∷ ps) ≡ n ∷ numbers_of ps
unfolding number_of
numbers_of_word [] n ps e = absurd (cc)
numbers_of_word (b ∷ w) n ps e = ap (λ o. leading o (numbers_of ps)) e

-- what a number's range says of its digits
fits_pos : (n : ℕ) → fits32 (pos n) ≡ true → n ≤ 2147483647
fits_pos n h = leb-true n 2147483647 h

fits_neg : (n : ℕ) → fits32 (negsuc n) ≡ true → n ≤ 2147483647
fits_neg n h = leb-true n 2147483647 (and_parts (leb n 2147483647) true h).0

abbrev word_of : ℤ → List ℕ
word_of n = sign_of n ++ decimal (nat_abs n)

word_number : (n : ℤ) → fits32 n ≡ true → number_of (word_of n) ≡ Some n
word_number (pos n) h =
    let k = fits_pos n h in
    let d = decimal_is_IsNumeral n (omega arith) in
    number_digits (decimal n) d.0 (omega (arith, d.1)) ∙ ap (λ v. Some (pos v)) d.1
word_number (negsuc n) h =
    let k = fits_neg n h in
    let d = decimal_is_IsNumeral (suc n) (omega arith) in
    number_negative (decimal (suc n)) d.0 (omega (arith, d.1)) ∙ ap (λ v. Some (neg_ℤ (pos v))) d.1

word_whole : (n : ℤ) → fits32 n ≡ true → Whole (word_of n)
word_whole (pos n) h = let k = fits_pos n h in digits_whole (decimal n) (decimal_is_IsNumeral n (omega arith)).0.1
word_whole (negsuc n) h = let k = fits_neg n h in (refl, digits_whole (decimal (suc n)) (decimal_is_IsNumeral (suc n) (omega arith)).0.1)

-- one number before others
read_one : (n : ℤ) (rest : List ℕ) → fits32 n ≡ true → numbers_in (spelled n ++ rest) ≡ n ∷ numbers_in rest
unfolding numbers_in spelled
read_one n rest h =
    ap (λ bs. numbers_of (pieces bs)) (append_assoc (word_of n) (10 ∷ []) rest)
    ∙ ap numbers_of (word_split (word_of n) rest (word_whole n h))
    ∙ numbers_of_word (word_of n) n (pieces rest) (word_number n h)

nothing_waits : numbers_in [] ≡ []
unfolding numbers_in
nothing_waits = refl

pub read_back : ReadBack
read_back [] h = nothing_waits
read_back (n ∷ ns) (h, hs) = read_one n (spellings ns) h ∙ ap (λ l. n ∷ l) (read_back ns hs)

-- every number that a word spells fits
number_fits : (w : List ℕ) (n : ℤ) → number_of w ≡ Some n → fits32 n ≡ true
number_fits w n e = all_within n (number_reads w n e).fits

abbrev Fit : List ℤ → Type 0
Fit ns = AllByRecursion (λ n. fits32 n ≡ true) ns

leading_fits : (o : Option ℤ) (ns : List ℤ) → ((n : ℤ) → o ≡ Some n → fits32 n ≡ true) → Fit ns → Fit (leading o ns)
leading_fits None ns h k = tt
leading_fits (Some n) ns h k = (h n refl, k)

numbers_of_fit : (ps : List (List ℕ)) → Fit (numbers_of ps)
numbers_of_fit [] = tt
numbers_of_fit ([] ∷ ps) = numbers_of_fit ps
numbers_of_fit ((b ∷ w) ∷ ps) = leading_fits (number_of (b ∷ w)) (numbers_of ps) (number_fits (b ∷ w)) (numbers_of_fit ps)

numbers_fit : (bs : List ℕ) → Fit (numbers_in bs)
unfolding numbers_in
numbers_fit bs = numbers_of_fit (pieces bs)

-- one number more after those that fill the bytes
fit_push : (ns : List ℤ) (n : ℤ) → Fit ns → fits32 n ≡ true → Fit (ns ++ (n ∷ []))
fit_push [] n h k = (k, tt)
fit_push (m ∷ ns) n (h, hs) k = (h, fit_push ns n hs k)

spellings_push : (ns : List ℤ) (n : ℤ) → spellings (ns ++ (n ∷ [])) ≡ spellings ns ++ spelled n
spellings_push [] n = append-nil (spelled n)
spellings_push (m ∷ ns) n = ap (λ bs. spelled m ++ bs) (spellings_push ns n) ∙ sym (append_assoc (spelled m) (spellings ns) (spelled n))

pub numbers_push : (bs : List ℕ) (n : ℤ) → spellings (numbers_in bs) ≡ bs → fits32 n ≡ true → numbers_in (bs ++ spelled n) ≡ numbers_in bs ++ (n ∷ [])
numbers_push bs n e h =
    ap (λ l. numbers_in (l ++ spelled n)) (sym e)
    ∙ ap numbers_in (sym (spellings_push (numbers_in bs) n))
    ∙ read_back (numbers_in bs ++ (n ∷ [])) (fit_push (numbers_in bs) n (numbers_fit bs) h)

pub spellings_kept : (bs : List ℕ) (n : ℤ) → spellings (numbers_in bs) ≡ bs → fits32 n ≡ true → spellings (numbers_in (bs ++ spelled n)) ≡ bs ++ spelled n
spellings_kept bs n e h =
    ap spellings (numbers_push bs n e h) ∙ spellings_push (numbers_in bs) n ∙ ap (λ l. l ++ spelled n) e
