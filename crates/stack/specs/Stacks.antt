-- What each call of a stack answers and leaves. The slots are a list, and the first so many of them are the entries.
use Rattle.std.specs.Prelude.{◌≡◌, ℕ, ◌+◌, ◌<◌, ◌≤◌, Bool, true, false, ◌⊎◌, List, [], ◌∷◌, ◌++◌, length, take, Some, None, Ok, Err, Option, Result, slice_index_or, slice_set}
use Rattle.stack.specs.declared.stacks.Overflow.{Overflow}

-- the entries, from the lowest
abbrev pub entries_of : {E : Type 0} → List E → ℕ → List E
entries_of slots h = take h slots

-- an entry put on leaves these slots and this height, or is refused by its kind's number
abbrev pub Pushed : {E : Type 0} → ℕ → ℕ → List E → ℕ → E → Result (Unit {0}) Overflow → List E → ℕ → Type 0
Pushed limit number xs h e (Ok _) ys k = (h < limit) × (h < length xs) × (ys ≡ slice_set xs h e) × (k ≡ h + 1)
Pushed limit number xs h e (Err o) ys k = (h < limit → length xs ≤ h) × (o.number ≡ number) × (ys ≡ xs) × (k ≡ h)

-- it stands on top of the entries that there were
abbrev pub Grown : {E : Type 0} → List E → ℕ → E → Result (Unit {0}) Overflow → List E → ℕ → Type 0
Grown xs h e (Ok _) ys k = entries_of ys k ≡ entries_of xs h ++ (e ∷ [])
Grown xs h e (Err _) ys k = entries_of ys k ≡ entries_of xs h

-- no entry is there, or the height says more than there are slots; else the topmost comes off
abbrev pub Popped : {E : Type 0} → List E → ℕ → Option E → ℕ → Type 0
Popped xs h None k = ((h ≡ 0) ⊎ (length xs < h)) × (k ≡ h)
Popped xs h (Some e) k = (h ≤ length xs) × (k + 1 ≡ h) × (e ≡ slice_index_or xs k e)

abbrev pub Shrunk : {E : Type 0} → List E → ℕ → Option E → ℕ → Type 0
Shrunk xs h None k = entries_of xs k ≡ entries_of xs h
Shrunk xs h (Some e) k = entries_of xs h ≡ entries_of xs k ++ (e ∷ [])

-- the entry at i, if there is one
abbrev pub Looked : {E : Type 0} → List E → ℕ → ℕ → Option E → Type 0
Looked xs h i None = (i < h → length xs ≤ i)
Looked xs h i (Some e) = (i < h) × (i < length xs) × (e ≡ slice_index_or xs i e) × (e ≡ slice_index_or (entries_of xs h) i e)

abbrev pub Changed : {E : Type 0} → List E → ℕ → ℕ → E → Bool → List E → Type 0
Changed xs h i e true ys = (i < h) × (i < length xs) × (ys ≡ slice_set xs i e)
Changed xs h i e false ys = (i < h → length xs ≤ i) × (ys ≡ xs)

abbrev pub ChangedEntries : {E : Type 0} → List E → ℕ → ℕ → E → Bool → List E → Type 0
ChangedEntries xs h i e true ys = entries_of ys h ≡ slice_set (entries_of xs h) i e
ChangedEntries xs h i e false ys = entries_of ys h ≡ entries_of xs h
