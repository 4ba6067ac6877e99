-- What a write gives and leaves.
use Rattle.std.proofs.Common.{◌≡◌, ◌<◌, Bool, true, false, cond, not, ◌&&◌, eqb, ℤ, refl, arith}
use Rattle.std.proofs.lemmas.Bool.{ne_eqb}
use Rattle.ports.specs.declared.fences.Range.{Range}
use Rattle.ports.specs.Fences.{fenced}
use Rattle.ports.specs.Meanings.{Meaning, within, write_gives, write_leaves, added}

pub room_leaves : (m : Meaning) (n : ℤ) → within m.low m.high n ≡ true → 0 < m.room → write_leaves m n ≡ added m n
room_leaves m n e h = let f = ne_eqb m.room 0 (λ z. omega arith) in simp (e, f)

-- where the two ranges agree on n, a fence changes nothing
pub fenced_gives : (g : Range) (m : Meaning) (n : ℤ) → within (fenced g m).low (fenced g m).high n ≡ within m.low m.high n → write_gives m n ≡ write_gives (fenced g m) n
fenced_gives g m n e = simp e

pub fenced_leaves : (g : Range) (m : Meaning) (n : ℤ) → within (fenced g m).low (fenced g m).high n ≡ within m.low m.high n → fenced g (write_leaves m n) ≡ write_leaves (fenced g m) n
fenced_leaves g m n e = simp e (go (within m.low m.high n && not (eqb m.room 0)))
  where
    go : (b : Bool) → fenced g (cond b (added m n) m) ≡ cond b (added (fenced g m) n) (fenced g m)
    go true = refl
    go false = refl
