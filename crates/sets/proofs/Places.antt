-- What the search of a rising list finds: where a number stands, or belongs.
use Rattle.std.proofs.Common.{◌≡◌, ℕ, zero, suc, ◌+◌, ◌<◌, ◌≤◌, true, false, List, [], ◌∷◌, length, get_or, ℤ, pos, Ok, Err, Result, MatchResult, refl, arith}
use Rattle.std.specs.Int.Signed.{lt_z}
use Rattle.std.specs.List.Sorted.{IsBinarySearchResult, IsSearchInRange, IsSortedBy}
use Rattle.std.specs.Ordering.{int_cmp, is_lt}
use Rattle.std.specs.declared.cmp.Ordering.TheVariants.{Less, Greater}
use Rattle.std.proofs.lemmas.Cmp.{int_cmp_total}
use Rattle.std.proofs.lemmas.Int.{ints}
use Rattle.std.proofs.lemmas.List.Sorted.{searchable_from_sorted}
use Rattle.std.proofs.lemmas.Map.Lookups.{exact_signed}
use Rattle.sets.specs.Searches.{Found, Missing}
use Rattle.sets.specs.Sets.{rising, has}
use Rattle.sets.proofs.Members.{cut_absent}
use Rattle.sets.proofs.Ordering.{not_under}

-- the first number of a rising list is below each of the others
first_below : (x : ℤ) (xs : List ℤ) (i : ℕ) → rising (x ∷ xs) ≡ true → i < length xs → lt_z x (get_or xs i (pos 0)) ≡ true
first_below x [] i r h = absurd (omega arith)
first_below x (y ∷ ys) zero r h = grind arith
first_below x (y ∷ ys) (suc i) r h = grind (arith, ints, first_below y ys i)

pub found : (n : ℤ) (xs : List ℤ) (p : ℕ) → rising xs ≡ true → p < length xs → get_or xs p (pos 0) ≡ n → Found n xs p
found n [] p r h e = absurd (omega arith)
found n (x ∷ xs) zero r h e = grind arith
found n (x ∷ xs) (suc p) r h e =
    let l = first_below x xs p r (omega arith) in
    let f = found n xs p (grind arith) (omega arith) e in
    record { within = h; there = grind (arith, f.there); puts = grind (arith, f.puts); cuts = grind (arith, f.cuts) }

-- each number before the place is below n, and the one at the place above it
pub missing : (n : ℤ) (xs : List ℤ) (p : ℕ) → rising xs ≡ true → p ≤ length xs → ((k : ℕ) → k < p → lt_z (get_or xs k (pos 0)) n ≡ true) → (p < length xs → lt_z n (get_or xs p (pos 0)) ≡ true) → Missing n xs p
missing n [] zero r h below above = record { within = h; lacks = refl; puts = refl; cuts = refl }
missing n [] (suc p) r h below above = absurd (omega arith)
missing n (x ∷ xs) zero r h below above =
    let a = above (omega arith) in
    let lacks = not_under n (x ∷ xs) r a in
    record { within = h; lacks = lacks; puts = grind arith; cuts = cut_absent n (x ∷ xs) lacks }
missing n (x ∷ xs) (suc p) r h below above =
    let l = below 0 (omega arith) in
    let m = missing n xs p (grind arith) (omega arith) (λ k i. below (suc k) (omega arith)) (λ i. above (omega arith)) in
    let lacks : has n (x ∷ xs) ≡ false = grind (arith, m.lacks) in
    record { within = h; lacks = lacks; puts = grind (arith, m.puts); cuts = cut_absent n (x ∷ xs) lacks }

less : (x y : ℤ) → int_cmp x y ≡ Less → lt_z x y ≡ true
less x y e = grind arith

greater : (x y : ℤ) → int_cmp x y ≡ Greater → lt_z y x ≡ true
greater x y e = grind arith

sorted : (xs : List ℤ) → rising xs ≡ true → IsSortedBy (λ a b. is_lt (int_cmp a b)) xs
sorted [] r k d z h = absurd (omega arith)
sorted (x ∷ []) r k d z h = absurd (omega arith)
sorted (x ∷ y ∷ ys) r zero d z h = grind (arith, ints)
sorted (x ∷ y ∷ ys) r (suc k) d z h =
    let e : suc k + 1 ≡ suc (k + 1) = omega arith in
    rw e (sorted (y ∷ ys) (grind arith) k d (omega arith) (omega arith))

pub searched : (n : ℤ) (xs : List ℤ) (r : Result ℕ ℕ) → rising xs ≡ true → IsSearchInRange r (length xs) → IsBinarySearchResult (λ y. int_cmp y n) xs r → MatchResult r (Found n xs) (Missing n xs)
searched n xs (Ok p) r b s = found n xs p r b (exact_signed (get_or xs p (pos 0)) n (s (pos 0)))
searched n xs (Err p) r b s =
    let w = s (searchable_from_sorted int_cmp_total (λ y. y) xs n (sorted xs r)) in
    missing n xs p r b
    (λ k h. less (get_or xs k (pos 0)) n (w.0 k (pos 0) (omega arith) h))
    (λ h. greater (get_or xs p (pos 0)) n (w.1 p (pos 0) (omega arith) h))
