-- Lists of classes.
use Rattle.std.proofs.Common.{◌≡◌, ℕ, Bool, true, false, not, ◌||◌, eqb, List, [], ◌∷◌, ◌++◌, sym, refl, subst}
use Rattle.std.proofs.lemmas.Bool.{and_parts, or_right, eqb-true, both_ways, not-true}
use Rattle.grammar.specs.Firsts.{apart, within, when}
use Rattle.grammar.specs.TokenClasses.{among}

pub among_left : (xs ys : List ℕ) (c : ℕ) → among xs c ≡ true → among (xs ++ ys) c ≡ true
among_left [] ys c e = absurd (both_ways false refl e)
among_left (x ∷ xs) ys c e = go (eqb c x) e (among_left xs ys c)
  where
    go : (b : Bool) → (b || among xs c) ≡ true → (among xs c ≡ true → among (xs ++ ys) c ≡ true) → (b || among (xs ++ ys) c) ≡ true
    go true e ih = refl
    go false e ih = ih e

pub among_right : (xs ys : List ℕ) (c : ℕ) → among ys c ≡ true → among (xs ++ ys) c ≡ true
among_right [] ys c e = e
among_right (x ∷ xs) ys c e = or_right (eqb c x) (among (xs ++ ys) c) (among_right xs ys c e)

pub among_when : (b : Bool) (xs ys : List ℕ) (c : ℕ) → b ≡ true → among ys c ≡ true → among (xs ++ when b ys) c ≡ true
among_when true xs ys c h e = among_right xs ys c e
among_when false xs ys c h e = absurd (both_ways false refl h)

pub among_apart : (xs ys : List ℕ) (c : ℕ) → apart xs ys ≡ true → among ys c ≡ true → among xs c ≡ false
among_apart [] ys c h e = refl
among_apart (x ∷ xs) ys c h e =
    let p = and_parts (not (among ys x)) (apart xs ys) h in
    go (eqb c x) refl (not-true (among ys x) p.0) (among_apart xs ys c p.1 e)
  where
    go : (b : Bool) → eqb c x ≡ b → among ys x ≡ false → among xs c ≡ false → (b || among xs c) ≡ false
    go true k n ih = absurd (both_ways (among ys x) n (subst (λ z. among ys z ≡ true) (eqb-true c x k) e))
    go false k n ih = ih

pub among_within : (xs ys : List ℕ) (c : ℕ) → within xs ys ≡ true → among xs c ≡ true → among ys c ≡ true
among_within [] ys c h e = absurd (both_ways false refl e)
among_within (x ∷ xs) ys c h e =
    let p = and_parts (among ys x) (within xs ys) h in
    go (eqb c x) refl e p.0 (among_within xs ys c p.1)
  where
    go : (b : Bool) → eqb c x ≡ b → (b || among xs c) ≡ true → among ys x ≡ true → (among xs c ≡ true → among ys c ≡ true) → among ys c ≡ true
    go true k e n ih = subst (λ z. among ys z ≡ true) (sym (eqb-true c x k)) n
    go false k e n ih = ih e
