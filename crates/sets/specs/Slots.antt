-- What each call of a store answers and leaves, where S is the list of its 32 sets.
use Rattle.std.specs.Prelude.{◌≡◌, ℕ, ◌-◌, ◌≤◌, Bool, true, cond, ◌&&◌, List, [], length, ℤ, Ok, Err, Result, nat_le, nat_lt, slice_index_or, slice_set}
use Rattle.std.specs.List.{AllByRecursion}
use Rattle.sets.specs.declared.faults.SetFault.{SetFault}
use Rattle.sets.specs.declared.faults.SetFault.TheVariants.{NoSlot, Full}
use Rattle.sets.specs.Sets.{rising, takes}

abbrev pub is_slot : ℕ → Bool
is_slot slot = nat_lt 0 slot && nat_le slot 32

-- the set in a slot
abbrev pub at : List (List ℤ) → ℕ → List ℤ
at S slot = slice_index_or S (slot - 1) []

-- an answer, where there is such a slot
abbrev pub within : {X : Type 0} → ℕ → Result X SetFault → Result X SetFault
within slot r = cond (is_slot slot) r (Err (NoSlot slot))

-- the sets, with one of them changed where there is such a slot
abbrev pub change : ℕ → (List ℤ → List ℤ) → List (List ℤ) → List (List ℤ)
change slot f S = cond (is_slot slot) (slice_set S (slot - 1) (f (at S slot))) S

-- whether the set in a slot takes n
abbrev pub add_gives : ℕ → ℤ → List (List ℤ) → Result Unit SetFault
add_gives slot n S = within slot (cond (takes n (at S slot)) (Ok tt) (Err (Full slot)))

-- a set of a store: in rising order, of at most 64
pub record Sound (xs : List ℤ) : Type 0 where
  pub rises : rising xs ≡ true
  pub fits : length xs ≤ 64

-- 32 sets
pub record Shaped (S : List (List ℤ)) : Type 0 where
  pub full : length S ≡ 32
  pub each : AllByRecursion Sound S
