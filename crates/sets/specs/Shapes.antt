-- Rows hold sets of the shape that a store asks for.
use Rattle.std.specs.Prelude.{◌≡◌, ℕ, ◌≤◌, List, [], ◌∷◌, length}
use Rattle.std.specs.List.{AllByRecursion}
use Rattle.std.proofs.Common.{◌∙◌, sym, subst}
use Rattle.std.proofs.Math.Nat.{le_trans, min-le_left}
use Rattle.std.proofs.lemmas.List.{length-map, length-take}
use Rattle.sets.specs.declared.rows.Row.{Row}
use Rattle.sets.specs.Held.{items, held}
use Rattle.sets.specs.Slots.{Sound, Shaped}

sound : (r : Row) → Sound (items r)
sound r =
    let AtMost64 : ℕ → Type 0 = λ m. m ≤ 64 in
    record {
      rises = r.rises;
      fits = subst AtMost64 (sym (length-take r.count r.cells)) (le_trans (min-le_left r.count (length r.cells)) r.fit);
    }

each : (rows : List Row) → AllByRecursion Sound (held rows)
each [] = tt
each (r ∷ rs) = (sound r, each rs)

pub shaped : (rows : List Row) → length rows ≡ 32 → Shaped (held rows)
shaped rows e = record { full = length-map rows items ∙ e; each = each rows }
