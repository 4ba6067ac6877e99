-- What a store over rows answers and leaves, where there is such a slot.
use Rattle.std.proofs.Common.{◌≡◌, ℕ, ◌-◌, ◌≤◌, true, false, ◌≢◌, ◌↔◌, List, [], length, get_or, set, ℤ, Ok, Err, Result, arith}
use Rattle.std.proofs.lemmas.Grind.{common_steps}
use Rattle.std.proofs.lemmas.List.{get_or-map, map-set}
use Rattle.sets.specs.declared.faults.SetFault.{SetFault}
use Rattle.sets.specs.declared.faults.SetFault.TheVariants.{Full}
use Rattle.sets.specs.declared.rows.Row.{Row}
use Rattle.sets.specs.Held.{items, held}
use Rattle.sets.specs.Laws.{SlotLaws}
use Rattle.sets.specs.Sets.{has, put_in}
use Rattle.sets.specs.Slots.{is_slot, within, at, change, add_gives}

-- the sets after a change of the row in the place that `place_of` finds, whatever is read past the end of the rows
pub changed : (slot i : ℕ) (f : List ℤ → List ℤ) (rows : List Row) (r past : Row) → ◌≡◌ {A = Result ℕ SetFault} (Ok i) (within slot (Ok (slot - 1))) → length rows ≡ 32 → items r ≡ f (items (get_or rows i past)) → held (set rows i r) ≡ change slot f (held rows)
changed slot i f rows r past e full h =
    let m = map-set items rows i r in
    let g = get_or-map items rows i past [] in
    grind (arith, common_steps)

-- ---- the laws of slots

change_here : (slot : ℕ) (f : List ℤ → List ℤ) (S : List (List ℤ)) → is_slot slot ≡ true → length S ≡ 32 → at (change slot f S) slot ≡ f (at S slot)
change_here slot f S t full = grind (arith, common_steps)

change_others : (slot other : ℕ) (f : List ℤ → List ℤ) (S : List (List ℤ)) → is_slot other ≡ true → other ≢ slot → at (change slot f S) other ≡ at S other
change_others slot other f S o ne = grind (arith, common_steps)

change_none : (slot : ℕ) (f : List ℤ → List ℤ) (S : List (List ℤ)) → is_slot slot ≡ false → change slot f S ≡ S
change_none slot f S g = simp g

add_full : (slot : ℕ) (n : ℤ) (S : List (List ℤ)) → is_slot slot ≡ true → length (at S slot) ≤ 64 → (add_gives slot n S ≡ Err (Full slot)) ↔ ((has n (at S slot) ≡ false) × (length (at S slot) ≡ 64))
add_full slot n S t l = grind (arith, common_steps)

add_refused : (slot : ℕ) (n : ℤ) (S : List (List ℤ)) (fault : SetFault) → add_gives slot n S ≡ Err fault → change slot (put_in n) S ≡ S
add_refused slot n S fault e = grind (arith, common_steps)

pub slot_laws : SlotLaws
slot_laws = record {
  change_here = change_here;
  change_others = change_others;
  change_none = change_none;
  add_full = add_full;
  add_refused = add_refused;
}
