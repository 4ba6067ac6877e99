-- The number that digits spell, digit by digit.
use Rattle.std.proofs.Common.{◌≡◌, ℕ, ◌+◌, ◌-◌, ◌*◌, ◌<◌, ◌≤◌, Bool, true, false, cond, leb, List, [], ◌∷◌, length, get_or, drop, Some, None, sym, refl, ap, ◌∙◌, arith}
use Rattle.std.proofs.lemmas.List.{at_drop_more, at_drop_all}
use Rattle.std.proofs.lemmas.Bool.{le-leb, lt-leb, leb-true}
use Rattle.ports.specs.Words.{digit, magnitude_from, magnitude_of}

-- one digit on
pub magnitude_more : (most n d : ℕ) (ds : List ℕ) (i : ℕ) → i < length ds → digit (get_or ds i 0) ≡ true → d ≡ get_or ds i 0 - 48 → magnitude_from most (n * 10 + d) (drop (i + 1) ds) ≡ magnitude_from most n (drop i ds)
magnitude_more most n d ds i h t e =
    sym (at_drop_more (magnitude_from most n) ds i 0 h
    ∙ ap (λ (b : Bool). cond b (magnitude_from most (n * 10 + (get_or ds i 0 - 48)) (drop (i + 1) ds)) None) t
    ∙ ap (λ x. magnitude_from most (n * 10 + x) (drop (i + 1) ds)) (sym e))

-- no digit here
pub magnitude_stop : (most n : ℕ) (ds : List ℕ) (i : ℕ) → i < length ds → digit (get_or ds i 0) ≡ false → magnitude_from most n (drop i ds) ≡ None
magnitude_stop most n ds i h t =
    at_drop_more (magnitude_from most n) ds i 0 h
    ∙ ap (λ (b : Bool). cond b (magnitude_from most (n * 10 + (get_or ds i 0 - 48)) (drop (i + 1) ds)) None) t

-- more digits never make a number smaller
pub magnitude_large : (most n : ℕ) (ds : List ℕ) → most < n → magnitude_from most n ds ≡ None
magnitude_large most n [] h = ap (λ (b : Bool). cond b (Some n) None) (lt-leb n most h)
magnitude_large most n (d ∷ ds) h = go (digit d) (magnitude_large most (n * 10 + (d - 48)) ds (omega arith))
  where
    go : (b : Bool) → magnitude_from most (n * 10 + (d - 48)) ds ≡ None → cond b (magnitude_from most (n * 10 + (d - 48)) ds) None ≡ None
    go true e = e
    go false e = refl

pub magnitude_end : (most n : ℕ) (ds : List ℕ) (i : ℕ) → length ds ≤ i → n ≤ most → magnitude_from most n (drop i ds) ≡ Some n
magnitude_end most n ds i h k = at_drop_all (magnitude_from most n) ds i h ∙ ap (λ (b : Bool). cond b (Some n) None) (le-leb n most k)

pub magnitude_some : (most : ℕ) (ds : List ℕ) → 0 < length ds → magnitude_of most ds ≡ magnitude_from most 0 ds
magnitude_some most [] h = absurd (omega arith)
magnitude_some most (d ∷ ds) h = refl

-- what is spelled is at most `most`
pub magnitude_below : (most n : ℕ) (ds : List ℕ) (v : ℕ) → magnitude_from most n ds ≡ Some v → v ≤ most
magnitude_below most n [] v e = go (leb n most) refl e
  where
    go : (b : Bool) → leb n most ≡ b → cond b (Some n) None ≡ Some v → v ≤ most
    go true t e = let same : n ≡ v = cc in omega (arith, leb-true n most t)
    go false t e = let z : ◌≡◌ {A = ℕ} 0 1 = cc in omega arith
magnitude_below most n (d ∷ ds) v e = go (digit d) (magnitude_below most (n * 10 + (d - 48)) ds v) e
  where
    go : (b : Bool) → (magnitude_from most (n * 10 + (d - 48)) ds ≡ Some v → v ≤ most) → cond b (magnitude_from most (n * 10 + (d - 48)) ds) None ≡ Some v → v ≤ most
    go true h e = h e
    go false h e = let z : ◌≡◌ {A = ℕ} 0 1 = cc in omega arith

pub magnitude_of_below : (most : ℕ) (ds : List ℕ) (v : ℕ) → magnitude_of most ds ≡ Some v → v ≤ most
magnitude_of_below most [] v e = let z : ◌≡◌ {A = ℕ} 0 1 = cc in omega arith
magnitude_of_below most (d ∷ ds) v e = magnitude_below most 0 (d ∷ ds) v e
