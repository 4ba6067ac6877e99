-- The laws of sets and of slots: what the definitions come to, in the words of members.
use Rattle.std.specs.Prelude.{◌≡◌, ℕ, ◌+◌, ◌-◌, ◌≤◌, true, false, cond, ◌≢◌, ◌↔◌, List, [], length, ℤ, ◌≤ℤ◌, Some, None, Err}
use Rattle.sets.specs.declared.faults.SetFault.{SetFault}
use Rattle.sets.specs.declared.faults.SetFault.TheVariants.{Full}
use Rattle.sets.specs.Sets.{rising, has, put, cut, least, greatest, put_in}
use Rattle.sets.specs.Slots.{is_slot, at, change, add_gives}

pub record SetLaws : Type 0 where
  -- with n, the members are n and those before, each once
  pub put_has : (n : ℤ) (xs : List ℤ) → has n (put n xs) ≡ true
  pub put_others : (m n : ℤ) (xs : List ℤ) → m ≢ n → has m (put n xs) ≡ has m xs
  pub put_rises : (n : ℤ) (xs : List ℤ) → rising xs ≡ true → rising (put n xs) ≡ true
  pub put_size : (n : ℤ) (xs : List ℤ) → rising xs ≡ true → length (put n xs) ≡ cond (has n xs) (length xs) (length xs + 1)
  pub put_member : (n : ℤ) (xs : List ℤ) → rising xs ≡ true → has n xs ≡ true → put n xs ≡ xs
  -- without n, the members are those before but n
  pub cut_lacks : (n : ℤ) (xs : List ℤ) → rising xs ≡ true → has n (cut n xs) ≡ false
  pub cut_others : (m n : ℤ) (xs : List ℤ) → m ≢ n → has m (cut n xs) ≡ has m xs
  pub cut_rises : (n : ℤ) (xs : List ℤ) → rising xs ≡ true → rising (cut n xs) ≡ true
  pub cut_size : (n : ℤ) (xs : List ℤ) → length (cut n xs) ≡ cond (has n xs) (length xs - 1) (length xs)
  pub cut_absent : (n : ℤ) (xs : List ℤ) → has n xs ≡ false → cut n xs ≡ xs
  -- the least and the greatest are members that no member passes, and only the empty set has none
  pub least_none : (xs : List ℤ) → (least xs ≡ None) ↔ (xs ≡ [])
  pub least_has : (x : ℤ) (xs : List ℤ) → least xs ≡ Some x → has x xs ≡ true
  pub least_bound : (x y : ℤ) (xs : List ℤ) → rising xs ≡ true → least xs ≡ Some x → has y xs ≡ true → x ≤ℤ y
  pub greatest_none : (xs : List ℤ) → (greatest xs ≡ None) ↔ (xs ≡ [])
  pub greatest_has : (x : ℤ) (xs : List ℤ) → greatest xs ≡ Some x → has x xs ≡ true
  pub greatest_bound : (x y : ℤ) (xs : List ℤ) → rising xs ≡ true → greatest xs ≡ Some x → has y xs ≡ true → y ≤ℤ x
  -- sets with the same members are the same
  pub alike : (xs ys : List ℤ) → rising xs ≡ true → rising ys ≡ true → ((n : ℤ) → has n xs ≡ has n ys) → xs ≡ ys

pub record SlotLaws : Type 0 where
  -- a change is of one slot, and of none where there is no such slot
  pub change_here : (slot : ℕ) (f : List ℤ → List ℤ) (S : List (List ℤ)) → is_slot slot ≡ true → length S ≡ 32 → at (change slot f S) slot ≡ f (at S slot)
  pub change_others : (slot other : ℕ) (f : List ℤ → List ℤ) (S : List (List ℤ)) → is_slot other ≡ true → other ≢ slot → at (change slot f S) other ≡ at S other
  pub change_none : (slot : ℕ) (f : List ℤ → List ℤ) (S : List (List ℤ)) → is_slot slot ≡ false → change slot f S ≡ S
  -- an addition is refused as full where the number is absent and the set has 64, and only there
  pub add_full : (slot : ℕ) (n : ℤ) (S : List (List ℤ)) → is_slot slot ≡ true → length (at S slot) ≤ 64 → (add_gives slot n S ≡ Err (Full slot)) ↔ ((has n (at S slot) ≡ false) × (length (at S slot) ≡ 64))
  -- an addition that is refused changes nothing
  pub add_refused : (slot : ℕ) (n : ℤ) (S : List (List ℤ)) (fault : SetFault) → add_gives slot n S ≡ Err fault → change slot (put_in n) S ≡ S
