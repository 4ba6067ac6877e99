-- Tokens that begin nothing of some classes.
use Rattle.std.proofs.Common.{◌≡◌, ℕ, Bool, true, false, ◌&&◌, ◌||◌, eqb, List, [], ◌∷◌, ◌++◌, Ok, Err, sym, refl, ap, ◌∙◌, subst}
use Rattle.std.proofs.lemmas.Bool.{and_parts, and_left, and_right, or_from, or_parts, both_ways, eqb-true}
use Rattle.text.specs.declared.places.Placed.{Placed}
use Rattle.text.specs.Tokens.{Lexeme, Verdict}
use Rattle.grammar.specs.Firsts.{when}
use Rattle.grammar.specs.Parsers.{two, front_class}
use Rattle.grammar.specs.TokenClasses.{class_of, is_class, among}
use Rattle.grammar.specs.Viable.{Tokens, SameFront}

-- no token at hand is of these classes
abbrev pub Quiet : List ℕ → Tokens → Type 0
Quiet cs [] = Unit {0}
Quiet cs (t ∷ ts) = among cs (class_of t.item) ≡ false

-- and something is to be read
abbrev pub Unmet : Bool → List ℕ → Tokens → Type 0
Unmet null cs [] = Unit {0}
Unmet null cs (t ∷ ts) = (null ≡ false) × (among cs (class_of t.item) ≡ false)

pub unmet_quiet : (null : Bool) (cs : List ℕ) (ts : Tokens) → Unmet null cs ts → Quiet cs ts
unmet_quiet null cs [] h = tt
unmet_quiet null cs (t ∷ ts) h = h.1

-- classes that are not among two lists
among_none : (xs ys : List ℕ) (c : ℕ) → among xs c ≡ false → among ys c ≡ false → among (xs ++ ys) c ≡ false
among_none [] ys c h k = k
among_none (x ∷ xs) ys c h k =
    let p = or_parts (eqb c x) (among xs c) h in
    or_from (eqb c x) (among (xs ++ ys) c) p.0 (among_none xs ys c p.1 k)

when_none : (b : Bool) (ys : List ℕ) (c : ℕ) → among ys c ≡ false → among (when b ys) c ≡ false
when_none true ys c h = h
when_none false ys c h = refl

when_not : (b : Bool) (ys : List ℕ) (c : ℕ) → b ≡ false → among (when b ys) c ≡ false
when_not true ys c h = absurd (both_ways true h refl)
when_not false ys c h = refl

-- one after the other
pub quiet_seq : (b : Bool) (xs ys : List ℕ) (ts : Tokens) → Quiet xs ts → Quiet ys ts → Quiet (xs ++ when b ys) ts
quiet_seq b xs ys [] h k = tt
quiet_seq b xs ys (t ∷ ts) h k = among_none xs (when b ys) _ h (when_none b ys _ k)

pub unmet_seq_left : (a b : Bool) (xs ys : List ℕ) (ts : Tokens) → Unmet a xs ts → Unmet (a && b) (xs ++ when a ys) ts
unmet_seq_left a b xs ys [] h = tt
unmet_seq_left a b xs ys (t ∷ ts) h = (and_left a b h.0, among_none xs (when a ys) _ h.1 (when_not a ys _ h.0))

pub unmet_seq_right : (a b : Bool) (xs ys : List ℕ) (ts : Tokens) → Quiet xs ts → Unmet b ys ts → Unmet (a && b) (xs ++ when a ys) ts
unmet_seq_right a b xs ys [] h k = tt
unmet_seq_right a b xs ys (t ∷ ts) h k = (and_right a b k.0, among_none xs (when a ys) _ h (when_none a ys _ k.1))

-- one or the other
pub quiet_alt : (xs ys : List ℕ) (ts : Tokens) → Quiet xs ts → Quiet ys ts → Quiet (xs ++ ys) ts
quiet_alt xs ys [] h k = tt
quiet_alt xs ys (t ∷ ts) h k = among_none xs ys _ h k

pub unmet_alt : (a b : Bool) (xs ys : List ℕ) (ts : Tokens) → a ≡ false → Quiet xs ts → Unmet b ys ts → Unmet (a || b) (xs ++ ys) ts
unmet_alt a b xs ys [] n h k = tt
unmet_alt a b xs ys (t ∷ ts) n h k = (or_from a b n k.0, among_none xs ys _ h k.1)

-- a token that begins something is not quiet
pub quiet_begun : (T : Tokens → Type 0) → T [] → (cs : List ℕ) (ts : Tokens) (v : Verdict) → among cs (front_class ts v) ≡ true → Quiet cs ts → T ts
quiet_begun T e cs [] v h q = e
quiet_begun T e cs (t ∷ ts) v h q = absurd (both_ways (among cs (class_of t.item)) q h)

-- a class among others tells no more
pub quiet_more : (c : ℕ) (cs : List ℕ) (ts : Tokens) → among cs c ≡ true → Quiet cs ts → Quiet (c ∷ cs) ts
quiet_more c cs [] h q = tt
quiet_more c cs (t ∷ ts) h q = or_from (is_class c t) (among cs (class_of t.item)) (go (is_class c t) refl) q
  where
    go : (b : Bool) → is_class c t ≡ b → b ≡ false
    go false k = refl
    go true k = absurd (both_ways (among cs c) (subst (λ z. among cs z ≡ false) (eqb-true (class_of t.item) c k) q) h)

pub unmet_more : (b : Bool) (c : ℕ) (cs : List ℕ) (ts : Tokens) → among cs c ≡ true → Unmet b cs ts → Unmet b (c ∷ cs) ts
unmet_more b c cs [] h u = tt
unmet_more b c cs (t ∷ ts) h u = (u.0, quiet_more c cs (t ∷ ts) h u.1)

-- two tokens of which the first is of the class
pub two_begun : (c e : ℕ) (cs : List ℕ) (ts : Tokens) → two c e ts ≡ true → Quiet (c ∷ cs) ts → ⊥
two_begun c e cs [] h q = both_ways false refl h
two_begun c e cs (t ∷ []) h q = both_ways false refl h
two_begun c e cs (t ∷ (u ∷ ts)) h q =
    both_ways (is_class c t) (or_parts (is_class c t) (among cs (class_of t.item)) q).0 (and_parts (is_class c t) (is_class e u) h).0

-- two tokens ahead are the same before the same front, unless the first is at the front and of the class
two_not : (c e : ℕ) (t : Placed Lexeme) (ts : Tokens) → is_class c t ≡ false → two c e (t ∷ ts) ≡ false
two_not c e t [] n = refl
two_not c e t (u ∷ ts) n = and_left (is_class c t) (is_class e u) n

pub two_same : (c e : ℕ) (cs : List ℕ) (u rest : Tokens) (v : Verdict) (ts : Tokens) → SameFront rest v ts → (u ≡ [] → Quiet (c ∷ cs) (u ++ rest)) → two c e (u ++ ts) ≡ two c e (u ++ rest)
two_same c e cs [] (t ∷ rest) v (t' ∷ ts) h q =
    let n = (or_parts (is_class c t) (among cs (class_of t.item)) (q refl)).0 in
    two_not c e t' ts (ap (λ k. eqb k c) (sym h) ∙ n) ∙ sym (two_not c e t rest n)
two_same c e cs [] (t ∷ rest) v [] h q = absurd h
two_same c e cs [] [] (Ok p) (t' ∷ ts) h q = absurd h
two_same c e cs [] [] (Ok p) [] h q = refl
two_same c e cs [] [] (Err f) ts h q = absurd h
two_same c e cs (t ∷ []) (w ∷ rest) v (w' ∷ ts) h q = ap (λ k. is_class c t && eqb k e) (sym h)
two_same c e cs (t ∷ []) (w ∷ rest) v [] h q = absurd h
two_same c e cs (t ∷ []) [] (Ok p) (w' ∷ ts) h q = absurd h
two_same c e cs (t ∷ []) [] (Ok p) [] h q = refl
two_same c e cs (t ∷ []) [] (Err f) ts h q = absurd h
two_same c e cs (t ∷ (w ∷ u)) rest v ts h q = refl
