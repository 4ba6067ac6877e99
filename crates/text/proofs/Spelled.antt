-- A search for what a piece of text spells: one entry on, and its ends.
use Rattle.std.proofs.Common.{◌≡◌, ℕ, Bool, true, false, cond, List, [], ◌∷◌, Some, sym, refl, ap, ◌∙◌}
use Rattle.std.specs.Str.{bytes_eq}
use Rattle.std.proofs.lemmas.Option.{same_Some, none-some}
use Rattle.std.proofs.lemmas.Slice.Eq.{bytes_eq-Decides}
use Rattle.text.specs.Spellings.{whose}

-- what is found is spelled so
pub whose_spells : {K : Type 0} (f : K → List ℕ) (ks : List K) (w : List ℕ) (k : K) → whose f ks w ≡ Some k → f k ≡ w
whose_spells f [] w k e = absurd (none-some k e)
whose_spells f (j ∷ ks) w k e = go (bytes_eq (f j) w) refl e (whose_spells f ks w k)
  where
    go : (t : Bool) → bytes_eq (f j) w ≡ t → cond t (Some j) (whose f ks w) ≡ Some k → (whose f ks w ≡ Some k → f k ≡ w) → f k ≡ w
    go true h e ih = ap f (sym (same_Some j k e)) ∙ (bytes_eq-Decides (f j) w).0 h
    go false h e ih = ih e
