-- The order of signed numbers, and what it says of a rising list.
use Rattle.std.proofs.Common.{◌≡◌, true, false, List, [], ◌∷◌, ℤ, refl, subst, arith, w32, SFits, to_z, of_z}
use Rattle.std.proofs.lemmas.Int.{to_z-of_z, ints}
use Rattle.sets.specs.Sets.{under, rising, has}

-- a signed number is what its bits say
pub seen : (P : ℤ → Type 0) (a : ℤ) → SFits w32 a → P (to_z w32 (of_z w32 a)) → P a
seen P a f h = subst P (to_z-of_z w32 a f) h

-- a number below the first of a rising list is not in it
pub not_under : (n : ℤ) (xs : List ℤ) → rising xs ≡ true → under n xs ≡ true → has n xs ≡ false
not_under n [] r u = refl
not_under n (x ∷ []) r u = grind (arith, ints)
not_under n (x ∷ y ∷ ys) r u = grind (arith, ints, not_under n (y ∷ ys))
