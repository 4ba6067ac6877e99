-- The outcomes of reading a token, two tokens as one, and what a token opens.
use Rattle.std.proofs.Common.{◌≡◌, ℕ, zero, suc, Bool, true, false, cond, eqb, List, [], ◌∷◌, ◌++◌, Ok, Err, sym, refl, ap, ◌∙◌, inl, inr, arith}
use Rattle.std.proofs.lemmas.Bool.{or_from, both_ways}
use Rattle.text.specs.declared.places.Placed.{Placed}
use Rattle.text.specs.declared.tokens.LexFault.{LexFault}
use Rattle.text.specs.declared.tokens.LexFault.TheVariants.{NoToken, CommentOpen, NumberTooLarge, NameTooLong}
use Rattle.text.specs.Tokens.{Lexeme, Verdict}
use Rattle.grammar.specs.declared.faults.GrammarFault.TheVariants.{Lexical, Misfit}
use Rattle.grammar.specs.Grammars.{Of, OneOf, Yield}
use Rattle.grammar.specs.Parsers.{Read, passed, misfit, take_by, take, blame, second_by, second, take_joint_by, take_joint, open_by, opening, front_class}
use Rattle.grammar.specs.Streams.{Stream, Refusal, from, place_in}
use Rattle.grammar.specs.TokenClasses.{class_of, is_class, among}
use Rattle.grammar.specs.Viable.{Tokens, Alive, SameFront, token_in}
use Rattle.grammar.proofs.Completeness.{at_hand, take_is, joint_is}
use Rattle.grammar.proofs.Outcomes.{whole, Reads, Stuck, OnMisfit, Outcome, and_then}
use Rattle.grammar.proofs.Quiets.{Unmet}

abbrev Refused : {X : Type 0} → Read X → Type 0
Refused r = (f : Refusal) × (r ≡ Err f)

pub alive : (ts : Tokens) (e : ℕ) → from ts (Ok e) ≡ Ok (whole ts e)
alive [] e = refl
alive (t ∷ ts) e = refl

-- a fault is a misfit, or else says nothing here
misfits : {S : Type 0} (b : Bool) → S → OnMisfit (cond b (Lexical NumberTooLarge) Misfit) S
misfits true h = tt
misfits false h = h

-- the token at hand does not fit
stuck_here : {X : Type 0} (y : Yield X) (r : Stream → Read X) (U : Tokens → Type 0) (ts : Tokens) (v : Verdict) → U ts → ((ts' : Tokens) (e : ℕ) → SameFront ts v ts' → Refused (r (whole ts' e))) → OnMisfit (misfit ts v).item (Stuck y r U (at_hand ts v) (place_in ts v))
stuck_here y r U ts v u again =
    misfits (eqb (front_class ts v) 53) (record {
      before = [];
      rest = ts;
      tokens = refl;
      place = refl;
      live = λ a. a;
      on = inl refl;
      again = again;
      fresh = λ n. u;
    })

-- at the end
stuck_end : {X : Type 0} (y : Yield X) (r : Stream → Read X) (U : Tokens → Type 0) (v : Verdict) → U [] → ((e : ℕ) → Refused (r (whole [] e))) → OnMisfit (misfit [] v).item (Stuck y r U (at_hand [] v) (place_in [] v))
stuck_end y r U v u again = stuck_here y r U [] v u (go v)
  where
    go : (v : Verdict) (ts : Tokens) (e : ℕ) → SameFront [] v ts → Refused (r (whole ts e))
    go (Ok p) [] e h = again e
    go (Ok p) (t ∷ ts) e h = absurd h
    go (Err f) ts e h = absurd h

-- at a token that is not of a class
stuck_token : {X : Type 0} (y : Yield X) (r : Stream → Read X) (c : ℕ) (t : Placed Lexeme) (ts : Tokens) (v : Verdict) → is_class c t ≡ false → ((t : Placed Lexeme) (ts : Tokens) (e : ℕ) → is_class c t ≡ false → Refused (r (whole (t ∷ ts) e))) → OnMisfit (misfit (t ∷ ts) v).item (Stuck y r (Unmet false (c ∷ [])) (at_hand (t ∷ ts) v) (place_in (t ∷ ts) v))
stuck_token y r c t ts v n again =
    stuck_here y r (Unmet false (c ∷ [])) (t ∷ ts) v (refl, or_from (is_class c t) false n refl) go
  where
    go : (ts' : Tokens) (e : ℕ) → SameFront (t ∷ ts) v ts' → Refused (r (whole ts' e))
    go [] e h = absurd h
    go (t' ∷ ts') e h = again t' ts' e (ap (λ k. eqb k c) (sym h) ∙ n)

-- what is passed on is read again before the same front
outcome_passed : {X : Type 0} (y : Yield X) (r : Stream → Read X) (I U : Tokens → Type 0) (x : X) (ts : Tokens) (before : Tokens) (v : Verdict) → y x ≡ before → (before ≡ [] → ⊥) → ((ts : Tokens) (e : ℕ) → r (whole (y x ++ ts) e) ≡ Ok (x, whole ts e)) → Outcome y r I U (at_hand (before ++ ts) v) (passed x (from ts v))
outcome_passed y r I U x ts before v is some again = go ts v
  where
    read : (ts : Tokens) (v : Verdict) → Alive ts v → Reads y r I (at_hand (before ++ ts) v) (x, at_hand ts v)
    read ts v a = record {
      took = record { tokens = ap (λ l. l ++ ts) (sym is); verdict = refl };
      live = λ b. a;
      again = λ ts e h. again ts e;
      idle = λ n. absurd (some (sym is ∙ n));
    }

    go : (ts : Tokens) (v : Verdict) → Outcome y r I U (at_hand (before ++ ts) v) (passed x (from ts v))
    go (t ∷ ts) v = read (t ∷ ts) v tt
    go [] (Ok p) = read [] (Ok p) tt
    go [] (Err f) = tt

some_token : (t : Placed Lexeme) (ts : Tokens) → t ∷ ts ≡ [] → ⊥
some_token t ts e = let z : ◌≡◌ {A = ℕ} 0 1 = cc in omega arith

-- a token
abbrev pub takes : (c : ℕ) → Stream → Read (Of c)
takes c s = take c s.tokens s.verdict

abbrev pub one : (c : ℕ) → Yield (Of c)
one c x = x.0 ∷ []

-- a token and then something
abbrev pub token_then : {X : Type 0} (c : ℕ) → Yield X → Yield (Of c × X)
token_then c y x = x.0.0 ∷ y x.1

take_not : (c : ℕ) (t : Placed Lexeme) (ts : Tokens) (v : Verdict) → is_class c t ≡ false → Refused (take c (t ∷ ts) v)
take_not c t ts v n = go (is_class c t) refl n
  where
    go : (b : Bool) (k : is_class c t ≡ b) → b ≡ false → Refused (take_by c t ts v b k)
    go true k h = absurd (both_ways true h refl)
    go false k h = (misfit (t ∷ ts) v, refl)

pub outcome_take : (I : Tokens → Type 0) (c : ℕ) (ts : Tokens) (v : Verdict) → Outcome (one c) (takes c) I (Unmet false (c ∷ [])) (at_hand ts v) (take c ts v)
outcome_take I c [] v = stuck_end (one c) (takes c) (Unmet false (c ∷ [])) v tt (λ e. (misfit [] (Ok e), refl))
outcome_take I c (t ∷ ts) v = go (is_class c t) refl
  where
    go : (b : Bool) (k : is_class c t ≡ b) → Outcome (one c) (takes c) I (Unmet false (c ∷ [])) (at_hand (t ∷ ts) v) (take_by c t ts v b k)
    go true k = outcome_passed (one c) (takes c) I (Unmet false (c ∷ [])) (t, k) ts (t ∷ []) v refl (some_token t []) (λ ts e. take_is c (t, k) ts (Ok e) (alive ts e))
    go false k = stuck_token (one c) (takes c) c t ts v k (λ t ts e. take_not c t ts (Ok e))

-- two tokens as one
abbrev pub pair : (c : ℕ) (cs : List ℕ) → Yield (Of c × OneOf cs)
pair c cs x = x.0.0 ∷ (x.1.0 ∷ [])

abbrev pub takes_joint : (c : ℕ) (cs : List ℕ) → Stream → Read (Of c × OneOf cs)
takes_joint c cs s = take_joint c cs s.tokens s.verdict

joint_not : (c : ℕ) (cs : List ℕ) (t : Placed Lexeme) (ts : Tokens) (v : Verdict) → is_class c t ≡ false → Refused (take_joint c cs (t ∷ ts) v)
joint_not c cs t ts v n = go (is_class c t) refl n
  where
    go : (b : Bool) (k : is_class c t ≡ b) → b ≡ false → Refused (take_joint_by c cs t ts v b k)
    go true k h = absurd (both_ways true h refl)
    go false k h = (misfit (t ∷ ts) v, refl)

-- the second does not fit
second_not : (c : ℕ) (cs : List ℕ) (x : Of c) (ts : Tokens) (v : Verdict) → ((o : Of c) → Refused (second c cs o ts v)) → Refused (take_joint c cs (x.0 ∷ ts) v)
second_not c cs (t, e) ts v h = go (is_class c t) refl
  where
    go : (b : Bool) (k : is_class c t ≡ b) → Refused (take_joint_by c cs t ts v b k)
    go true k = h (t, k)
    go false k = (misfit (t ∷ ts) v, refl)

second_other : (c : ℕ) (cs : List ℕ) (x : Of c) (t : Placed Lexeme) (ts : Tokens) (v : Verdict) → among cs (class_of t.item) ≡ false → Refused (second c cs x (t ∷ ts) v)
second_other c cs x t ts v n = go (among cs (class_of t.item)) refl n
  where
    go : (b : Bool) (k : among cs (class_of t.item) ≡ b) → b ≡ false → Refused (second_by c cs x t ts v b k)
    go true k h = absurd (both_ways true h refl)
    go false k h = (misfit (t ∷ ts) v, refl)

stuck_second : (U : Tokens → Type 0) (c : ℕ) (cs : List ℕ) → among cs (class_of (token_in cs).item) ≡ true → (x : Of c) (ts : Tokens) (v : Verdict) → Alive ts v → ((o : Of c) (ts' : Tokens) (e : ℕ) → SameFront ts v ts' → Refused (second c cs o ts' (Ok e))) → OnMisfit (misfit ts v).item (Stuck (pair c cs) (takes_joint c cs) U (at_hand (x.0 ∷ ts) v) (place_in ts v))
stuck_second U c cs h x ts v a again =
    misfits (eqb (front_class ts v) 53) (record {
      before = x.0 ∷ [];
      rest = ts;
      tokens = refl;
      place = refl;
      live = λ b. a;
      on = inr (token_in cs ∷ [], (x, (token_in cs, h)), refl);
      again = λ ts' e q. second_not c cs x ts' (Ok e) (λ o. again o ts' e q);
      fresh = λ n. absurd (some_token x.0 [] n);
    })

blamed : (S : Type 0) (p : ℕ) (f : LexFault) (q : ℕ) → OnMisfit (blame p f q).item S
blamed S p NoToken q = tt
blamed S p CommentOpen q = tt
blamed S p NumberTooLarge q = tt
blamed S p NameTooLong q = tt

outcome_second : (I U : Tokens → Type 0) (c : ℕ) (cs : List ℕ) → among cs (class_of (token_in cs).item) ≡ true → (x : Of c) (ts : Tokens) (v : Verdict) → Outcome (pair c cs) (takes_joint c cs) I U (at_hand (x.0 ∷ ts) v) (second c cs x ts v)
outcome_second I U c cs h x [] (Ok p) = stuck_second U c cs h x [] (Ok p) tt go
  where
    go : (o : Of c) (ts : Tokens) (e : ℕ) → SameFront [] (Ok p) ts → Refused (second c cs o ts (Ok e))
    go o [] e q = (misfit [] (Ok e), refl)
    go o (t ∷ ts) e q = absurd q
outcome_second I U c cs h x [] (Err f) = blamed _ x.0.place f.item f.place
outcome_second I U c cs h x (t ∷ ts) v = go (among cs (class_of t.item)) refl
  where
    other : among cs (class_of t.item) ≡ false → (o : Of c) (ts' : Tokens) (e : ℕ) → SameFront (t ∷ ts) v ts' → Refused (second c cs o ts' (Ok e))
    other n o [] e q = absurd q
    other n o (t' ∷ ts') e q = second_other c cs o t' ts' (Ok e) (ap (among cs) (sym q) ∙ n)

    go : (b : Bool) (k : among cs (class_of t.item) ≡ b) → Outcome (pair c cs) (takes_joint c cs) I U (at_hand (x.0 ∷ (t ∷ ts)) v) (second_by c cs x t ts v b k)
    go true k = outcome_passed (pair c cs) (takes_joint c cs) I U (x, (t, k)) ts (x.0 ∷ (t ∷ [])) v refl (some_token x.0 (t ∷ [])) (λ ts e. joint_is c cs x (t, k) ts (Ok e) (alive ts e))
    go false k = stuck_second U c cs h x (t ∷ ts) v tt (other k)

pub outcome_joint : (I : Tokens → Type 0) (c : ℕ) (cs : List ℕ) → among cs (class_of (token_in cs).item) ≡ true → (ts : Tokens) (v : Verdict) → Outcome (pair c cs) (takes_joint c cs) I (Unmet false (c ∷ [])) (at_hand ts v) (take_joint c cs ts v)
outcome_joint I c cs h [] v = stuck_end (pair c cs) (takes_joint c cs) (Unmet false (c ∷ [])) v tt (λ e. (misfit [] (Ok e), refl))
outcome_joint I c cs h (t ∷ ts) v = go (is_class c t) refl
  where
    go : (b : Bool) (k : is_class c t ≡ b) → Outcome (pair c cs) (takes_joint c cs) I (Unmet false (c ∷ [])) (at_hand (t ∷ ts) v) (take_joint_by c cs t ts v b k)
    go true k = outcome_second I (Unmet false (c ∷ [])) c cs h (t, k) ts v
    go false k = stuck_token (pair c cs) (takes_joint c cs) c t ts v k (λ t ts e. joint_not c cs t ts (Ok e))

-- what a token opens: where something may be opened, the token and then what it opens
pub open_then : {X : Type 0} (d c : ℕ) (inner : Stream → Read X) (ts : Tokens) (v : Verdict) → opening (suc d) c inner ts v ≡ and_then (λ o x. (o, x)) (take c ts v) inner
open_then d c inner [] v = refl
open_then {X} d c inner (t ∷ ts) v = go (is_class c t) refl
  where
    go : (b : Bool) (k : is_class c t ≡ b) → open_by (suc d) c inner t ts v b k ≡ and_then {W = Of c × X} (λ o x. (o, x)) (take_by c t ts v b k) inner
    go true k = refl
    go false k = refl

-- and where nothing may
abbrev pub opens : {X : Type 0} (d c : ℕ) → (Stream → Read X) → Stream → Read (Of c × X)
opens d c inner s = opening d c inner s.tokens s.verdict

pub outcome_closed : {X : Type 0} (c : ℕ) (y : Yield (Of c × X)) (I : Tokens → Type 0) (inner : Stream → Read X) (ts : Tokens) (v : Verdict) → Outcome y (opens zero c inner) I (Unmet false (c ∷ [])) (at_hand ts v) (opening zero c inner ts v)
outcome_closed c y I inner [] v = stuck_end y (opens zero c inner) (Unmet false (c ∷ [])) v tt (λ e. (misfit [] (Ok e), refl))
outcome_closed {X} c y I inner (t ∷ ts) v = go (is_class c t) refl
  where
    closed_not : (t : Placed Lexeme) (ts : Tokens) (v : Verdict) (b : Bool) (k : is_class c t ≡ b) → b ≡ false → Refused (open_by zero c inner t ts v b k)
    closed_not t ts v true k h = absurd (both_ways true h refl)
    closed_not t ts v false k h = (misfit (t ∷ ts) v, refl)

    go : (b : Bool) (k : is_class c t ≡ b) → Outcome y (opens zero c inner) I (Unmet false (c ∷ [])) (at_hand (t ∷ ts) v) (open_by zero c inner t ts v b k)
    go true k = tt
    go false k = stuck_token y (opens zero c inner) c t ts v k (λ t ts e n. closed_not t ts (Ok e) (is_class c t) refl n)
