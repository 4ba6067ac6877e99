-- What stands last in a list.
use Rattle.std.proofs.Common.{◌≡◌, ◌-◌, List, [], ◌∷◌, length, ℤ, refl, sub-one}
use Rattle.std.specs.List.{slice_get}
use Rattle.sets.specs.Sets.{greatest}

pub greatest_last : (xs : List ℤ) → slice_get xs (length xs - 1) ≡ greatest xs
greatest_last [] = refl
greatest_last (x ∷ []) = refl
greatest_last (x ∷ y ∷ ys) = simp sub-one (simp sub-one at (greatest_last (y ∷ ys)))
