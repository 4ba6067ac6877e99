-- How what a tree spells begins.
use Rattle.std.proofs.Common.{◌≡◌, ℕ, Bool, true, false, eqb, ◌⊎◌, List, [], ◌∷◌, ◌++◌, Ok, sym, refl, ap, ◌∙◌, subst, inl, inr, ⊎_elim}
use Rattle.std.proofs.lemmas.Bool.{and_from, or_left, or_right, both_ways}
use Rattle.text.specs.declared.places.Placed.{Placed}
use Rattle.text.specs.Tokens.{Lexeme, Verdict}
use Rattle.grammar.specs.Firsts.{nullable, when, firsts}
use Rattle.grammar.specs.Grammars.{Gram, tok, joint, nil, seq, alt, many, ahead, nest, Of, Tree, Yield, yield, each_yield}
use Rattle.grammar.specs.Parsers.{front_class}
use Rattle.grammar.specs.Streams.{from}
use Rattle.grammar.specs.TokenClasses.{class_of, among}
use Rattle.grammar.proofs.Classes.{among_left, among_right, among_when}

-- nothing, where that may be; or a token that may be first
pub record Begun (cs : List ℕ) (ts : List (Placed Lexeme)) : Type 0 where
  pub first : Placed Lexeme
  pub more : List (Placed Lexeme)
  pub are : ts ≡ first ∷ more
  pub may : among cs (class_of first.item) ≡ true

abbrev pub Headed : Bool → List ℕ → List (Placed Lexeme) → Type 0
Headed null cs ts = ((ts ≡ []) × (null ≡ true)) ⊎ Begun cs ts

pub one_class : (c : ℕ) (cs : List ℕ) (x : Of c) → among (c ∷ cs) (class_of x.0.item) ≡ true
one_class c cs x = or_left (eqb (class_of x.0.item) c) (among cs (class_of x.0.item)) x.1

begun_more : (cs ds : List ℕ) (a b : List (Placed Lexeme)) → Begun cs a → Begun (cs ++ ds) (a ++ b)
begun_more cs ds a b h =
    record { first = h.first; more = h.more ++ b; are = ap (λ l. l ++ b) h.are; may = among_left cs ds _ h.may }

each_headed : {X : Type 0} (y : Yield X) (null : Bool) (cs : List ℕ) → ((x : X) → Headed null cs (y x)) → (xs : List X) → Headed true cs (each_yield y xs)
each_headed y null cs h [] = inl (refl, refl)
each_headed y null cs h (x ∷ xs) =
    ⊎_elim
    (λ k.
    ⊎_elim
    (λ l. inl (ap (λ r. r ++ each_yield y xs) k.0 ∙ l.0, refl))
    (λ l. inr (record { first = l.first; more = l.more; are = ap (λ r. r ++ each_yield y xs) k.0 ∙ l.are; may = l.may }))
    (each_headed y null cs h xs))
    (λ k. inr (record { first = k.first; more = k.more ++ each_yield y xs; are = ap (λ r. r ++ each_yield y xs) k.are; may = k.may }))
    (h x)

module _ {N : Type 0} {In : N → Type 0} (yIn : (n : N) → Yield (In n)) where
  pub headed : (g : Gram N) (x : Tree In g) → Headed (nullable g) (firsts g) (yield yIn g x)
  unfolding Tree yield
  headed (tok c) x = inr (record { first = x.0; more = []; are = refl; may = one_class c [] x })
  headed (joint c cs) x = inr (record { first = x.0.0; more = x.1.0 ∷ []; are = refl; may = one_class c [] x.0 })
  headed nil x = inl (refl, refl)
  headed (seq a b) x =
      ⊎_elim
      (λ h.
      ⊎_elim
      (λ k. inl (ap (λ l. l ++ yield yIn b x.1) h.0 ∙ k.0, and_from (nullable a) (nullable b) h.1 k.1))
      (λ k.
      inr (record {
        first = k.first;
        more = k.more;
        are = ap (λ l. l ++ yield yIn b x.1) h.0 ∙ k.are;
        may = among_when (nullable a) (firsts a) (firsts b) _ h.1 k.may;
      }))
      (headed b x.1))
      (λ h. inr (begun_more (firsts a) (when (nullable a) (firsts b)) (yield yIn a x.0) (yield yIn b x.1) h))
      (headed a x.0)
  headed (alt a b) (inl x) =
      ⊎_elim
      (λ h. inl (h.0, or_left (nullable a) (nullable b) h.1))
      (λ h. inr (record { first = h.first; more = h.more; are = h.are; may = among_left (firsts a) (firsts b) _ h.may }))
      (headed a x)
  headed (alt a b) (inr x) =
      ⊎_elim
      (λ h. inl (h.0, or_right (nullable a) (nullable b) h.1))
      (λ h. inr (record { first = h.first; more = h.more; are = h.are; may = among_right (firsts a) (firsts b) _ h.may }))
      (headed b x)
  headed (many g) x = each_headed (yield yIn g) (nullable g) (firsts g) (headed g) x
  headed (ahead c e g h) (inl x) = inr (record { first = x.0.0; more = x.1.0 ∷ yield yIn g x.2; are = refl; may = one_class c (firsts h) x.0 })
  headed (ahead c e g h) (inr x) =
      ⊎_elim
      (λ k. inl (k.0, k.1))
      (λ k. inr (record { first = k.first; more = k.more; are = k.are; may = or_right (eqb (class_of k.first.item) c) _ k.may }))
      (headed h x)
  headed (nest c n) x = inr (record { first = x.0.0; more = yIn n x.1; are = refl; may = one_class c [] x.0 })

-- what follows is alive, and may follow
pub record Fits (fs : List ℕ) (ts : List (Placed Lexeme)) (v : Verdict) : Type 0 where
  pub alive : from ts v ≡ Ok (record { tokens = ts; verdict = v })
  pub may : among fs (front_class ts v) ≡ true

begun_fits : (cs : List ℕ) (ts rest : List (Placed Lexeme)) (v : Verdict) → Begun cs ts → Fits cs (ts ++ rest) v
begun_fits cs ts rest v h =
    subst (λ l. Fits cs (l ++ rest) v) (sym h.are) (record { alive = refl; may = h.may })

fits_left : (cs ds : List ℕ) (ts : List (Placed Lexeme)) (v : Verdict) → Fits cs ts v → Fits (cs ++ ds) ts v
fits_left cs ds ts v h = record { alive = h.alive; may = among_left cs ds _ h.may }

pub fits_right : (cs ds : List ℕ) (ts : List (Placed Lexeme)) (v : Verdict) → Fits ds ts v → Fits (cs ++ ds) ts v
fits_right cs ds ts v h = record { alive = h.alive; may = among_right cs ds _ h.may }

-- a tree and what may follow it
pub fits_headed : (null : Bool) (cs fs : List ℕ) (ts rest : List (Placed Lexeme)) (v : Verdict) → Headed null cs ts → Fits fs rest v → Fits (cs ++ when null fs) (ts ++ rest) v
fits_headed null cs fs ts rest v (inl (e, n)) h =
    subst (λ l. Fits (cs ++ when null fs) (l ++ rest) v) (sym e)
    (record { alive = h.alive; may = among_when null cs fs _ n h.may })
fits_headed null cs fs ts rest v (inr b) h = fits_left cs (when null fs) (ts ++ rest) v (begun_fits cs ts rest v b)

-- a tree that cannot be nothing
pub fits_some : (cs : List ℕ) (ts rest : List (Placed Lexeme)) (v : Verdict) → Headed false cs ts → Fits cs (ts ++ rest) v
fits_some cs ts rest v (inl (e, n)) = absurd (both_ways false refl n)
fits_some cs ts rest v (inr b) = begun_fits cs ts rest v b
