-- A token of one of several classes.
use Rattle.std.proofs.Common.{◌≡◌, ℕ, Bool, true, false, cond, ◌||◌, eqb, List, [], ◌∷◌, map, Ok, Err, Result, sym, refl, ap, ◌∙◌, inl, inr}
use Rattle.std.specs.List.{list_any}
use Rattle.std.proofs.lemmas.Bool.{both_ways, eq-eqb, eqb-true}
use Rattle.table.specs.declared.nodes.Node.{Node}
use Rattle.text.specs.declared.places.Placed.{Placed}
use Rattle.text.specs.Tokens.{Lexeme, Verdict}
use Rattle.grammar.specs.Grammars.{seq, tok, Of, Tree, TreeAt, Inner}
use Rattle.grammar.specs.Parsers.{Read, bind, passed, take_by, misfit, parse, parse_at}
use Rattle.grammar.specs.Streams.{Stream, Refusal, from}
use Rattle.grammar.specs.TokenClasses.{class_of, is_class, among}
use Rattle.syntax.specs.Nodes.{Makes, chosen}
use Rattle.syntax.specs.Syntax.{G, rule, any_of}
use Rattle.reading.specs.declared.readers.Reader.{Reader}
use Rattle.reading.specs.States.{State, stream_of, state_of, Answer, applied, written, Reads, Takes}
use Rattle.reading.specs.Steps.{front_of, misfit_of, taken, any_taken, token_made, mark_made}
use Rattle.reading.proofs.Sequences.{Silent, Left, Past, past, stop, got, refused, refuse_as}

-- the class and the place of the token that was chosen
abbrev pub chosen_made : (d c : ℕ) (cs : List ℕ) → Makes (TreeAt rule d (any_of c cs))
chosen_made d c cs x n = mark_made (chosen (Inner rule d) c cs x) n

told : (d c : ℕ) (cs : List ℕ) → Read (TreeAt rule d (any_of c cs)) → Read (Placed Lexeme)
told d c cs (Ok p) = Ok (chosen (Inner rule d) c cs p.0, p.1)
told d c cs (Err e) = Err e

bared : (c : ℕ) → Read (Of c) → Read (Placed Lexeme)
bared c (Ok p) = Ok (p.0.0, p.1)
bared c (Err e) = Err e

passed_of : (c : ℕ) (x : Of c) (r : Result Stream Refusal) → passed x.0 r ≡ bared c (passed x r)
unfolding bared
passed_of c x (Ok s) = refl
passed_of c x (Err e) = refl

one_by : (c : ℕ) (t : Placed Lexeme) (ts : List (Placed Lexeme)) (v : Verdict) (b : Bool) (e : is_class c t ≡ b) → cond (b || false) (passed t (from ts v)) (Err (misfit (t ∷ ts) v)) ≡ bared c (take_by c t ts v b e)
unfolding bared
one_by c t ts v true e = passed_of c (t, e) (from ts v)
one_by c t ts v false e = refl

unfoldable as_leaf : (d c : ℕ) → Read (Of c) → Read (TreeAt rule d (tok c))
unfolding Tree
as_leaf d c r = r

told_leaf : (d c : ℕ) (r : Read (Of c)) → bared c r ≡ told d c [] (as_leaf d c r)
unfolding Tree told chosen as_leaf bared
told_leaf d c (Ok p) = refl
told_leaf d c (Err e) = refl

one_taken : (c : ℕ) (ts : List (Placed Lexeme)) (v : Verdict) → any_taken (c ∷ []) (record { tokens = ts; verdict = v }) ≡ bared c (taken c (record { tokens = ts; verdict = v }))
unfolding bared
one_taken c [] v = refl
one_taken c (t ∷ ts) v = one_by c t ts v (is_class c t) refl

parse_tok : (d c : ℕ) (s : Stream) → as_leaf d c (taken c s) ≡ parse_at rule d (tok c) s
unfolding Tree parse as_leaf
parse_tok d c s = refl

one_is : (d c : ℕ) (ts : List (Placed Lexeme)) (v : Verdict) → any_taken (c ∷ []) (record { tokens = ts; verdict = v }) ≡ told d c [] (parse_at rule d (tok c) (record { tokens = ts; verdict = v }))
one_is d c ts v = one_taken c ts v ∙ told_leaf d c (taken c (record { tokens = ts; verdict = v })) ∙ ap (told d c []) (parse_tok d c (record { tokens = ts; verdict = v }))

unfoldable in_left : (d c e : ℕ) (es : List ℕ) → TreeAt rule d (tok c) → TreeAt rule d (any_of c (e ∷ es))
unfolding Tree
in_left d c e es x = inl x

unfoldable in_right : (d c e : ℕ) (es : List ℕ) → TreeAt rule d (any_of e es) → TreeAt rule d (any_of c (e ∷ es))
unfolding Tree
in_right d c e es x = inr x

parse_any : (d c e : ℕ) (es : List ℕ) (s : Stream) → parse_at rule d (any_of c (e ∷ es)) s ≡ cond (among (c ∷ []) (front_of s)) (bind (parse_at rule d (tok c) s) (λ x t. Ok (in_left d c e es x, t))) (bind (parse_at rule d (any_of e es) s) (λ x t. Ok (in_right d c e es x, t)))
unfolding Tree parse in_left in_right
parse_any d c e es s = refl

told_left : (d c e : ℕ) (es : List ℕ) (r : Read (TreeAt rule d (tok c))) → told d c [] r ≡ told d c (e ∷ es) (bind r (λ x s. Ok (in_left d c e es x, s)))
unfolding Tree told chosen in_left
told_left d c e es (Ok p) = refl
told_left d c e es (Err q) = refl

told_right : (d c e : ℕ) (es : List ℕ) (r : Read (TreeAt rule d (any_of e es))) → told d e es r ≡ told d c (e ∷ es) (bind r (λ x s. Ok (in_right d c e es x, s)))
unfolding Tree told chosen in_right
told_right d c e es (Ok p) = refl
told_right d c e es (Err q) = refl

-- by whether the first fits
by_first : (d c e : ℕ) (es : List ℕ) (ts : List (Placed Lexeme)) (v : Verdict) (b : Bool) → any_taken (c ∷ (e ∷ es)) (record { tokens = ts; verdict = v }) ≡ cond b (any_taken (c ∷ []) (record { tokens = ts; verdict = v })) (any_taken (e ∷ es) (record { tokens = ts; verdict = v }))
    → any_taken (e ∷ es) (record { tokens = ts; verdict = v }) ≡ told d e es (parse_at rule d (any_of e es) (record { tokens = ts; verdict = v }))
    → any_taken (c ∷ (e ∷ es)) (record { tokens = ts; verdict = v }) ≡ told d c (e ∷ es) (cond b (bind (parse_at rule d (tok c) (record { tokens = ts; verdict = v })) (λ x s. Ok (in_left d c e es x, s))) (bind (parse_at rule d (any_of e es) (record { tokens = ts; verdict = v })) (λ x s. Ok (in_right d c e es x, s))))
by_first d c e es ts v true h k = h ∙ one_is d c ts v ∙ told_left d c e es (parse_at rule d (tok c) (record { tokens = ts; verdict = v }))
by_first d c e es ts v false h k = h ∙ k ∙ told_right d c e es (parse_at rule d (any_of e es) (record { tokens = ts; verdict = v }))

no_token : (c e : ℕ) (es : List ℕ) (v : Verdict) (b : Bool) → any_taken (c ∷ (e ∷ es)) (record { tokens = []; verdict = v }) ≡ cond b (any_taken (c ∷ []) (record { tokens = []; verdict = v })) (any_taken (e ∷ es) (record { tokens = []; verdict = v }))
no_token c e es v true = refl
no_token c e es v false = refl

split : (c e : ℕ) (es : List ℕ) (ts : List (Placed Lexeme)) (v : Verdict) → any_taken (c ∷ (e ∷ es)) (record { tokens = ts; verdict = v }) ≡ cond (among (c ∷ []) (front_of (record { tokens = ts; verdict = v }))) (any_taken (c ∷ []) (record { tokens = ts; verdict = v })) (any_taken (e ∷ es) (record { tokens = ts; verdict = v }))
split c e es [] v = no_token c e es v (among (c ∷ []) (front_of (record { tokens = []; verdict = v })))
split c e es (t ∷ ts) v = whether (eqb (class_of t.item) c)
  where
    whether : (b : Bool) → cond (b || among (e ∷ es) (class_of t.item)) (passed t (from ts v)) (Err (misfit (t ∷ ts) v)) ≡ cond (b || false) (cond (b || false) (passed t (from ts v)) (Err (misfit (t ∷ ts) v))) (cond (among (e ∷ es) (class_of t.item)) (passed t (from ts v)) (Err (misfit (t ∷ ts) v)))
    whether true = refl
    whether false = refl

any_is : (d c : ℕ) (cs : List ℕ) (ts : List (Placed Lexeme)) (v : Verdict) → any_taken (c ∷ cs) (record { tokens = ts; verdict = v }) ≡ told d c cs (parse_at rule d (any_of c cs) (record { tokens = ts; verdict = v }))
any_is d c [] ts v = one_is d c ts v
any_is d c (e ∷ es) ts v = by_first d c e es ts v (among (c ∷ []) (front_of (record { tokens = ts; verdict = v }))) (split c e es ts v) (any_is d e es ts v) ∙ ap (told d c (e ∷ es)) (sym (parse_any d c e es (record { tokens = ts; verdict = v })))

told_written : (d c : ℕ) (cs : List ℕ) (st : State) (r : Read (TreeAt rule d (any_of c cs))) → written mark_made st (told d c cs r) ≡ written (chosen_made d c cs) st r
unfolding told
told_written d c cs st (Ok p) = refl
told_written d c cs st (Err e) = refl

pub take_mark : (d c : ℕ) (cs : List ℕ) {a b : Reader} {r : Answer} → Takes mark_made (any_taken (c ∷ cs) (stream_of a)) a r b → Takes (chosen_made d c cs) (parse_at rule d (any_of c cs) (stream_of a)) a r b
take_mark d c cs {a} t =
    record {
      reads = record { lends = t.reads.lends; goes = t.reads.goes; reads = t.reads.reads ∙ ap (written mark_made (state_of a)) (any_is d c cs (stream_of a).tokens (stream_of a).verdict) ∙ told_written d c cs (state_of a) (parse_at rule d (any_of c cs) (stream_of a)) };
      keeps = t.keeps;
      steps = t.steps;
    }

silent_chosen : (d c : ℕ) (cs : List ℕ) → Silent (chosen_made d c cs)
silent_chosen d c cs = record { nodes = λ x n. refl; number = λ x n. refl; place = λ x n. refl }

pub past_mark : {Y : Type 0} {R : Read Y} {a m b : Reader} {d : ℕ} {h : G} {ms : List Node} {k i p : ℕ} (c : ℕ) (cs : List ℕ) {f : TreeAt rule d (seq (any_of c cs) h) → Y} → Left R a m d (seq (any_of c cs) h) f ms k → Takes mark_made (any_taken (c ∷ cs) (stream_of m)) m (Ok (i, p)) b → Past R a b d (any_of c cs) h (chosen_made d c cs) f ms k i p
past_mark {d = d} c cs s r = past s (silent_chosen d c cs) (take_mark d c cs r)

pub stop_mark : {Y : Type 0} {out : Makes Y} {R : Read Y} {a m b : Reader} {d : ℕ} {h : G} {ms : List Node} {k : ℕ} {e : Refusal} (c : ℕ) (cs : List ℕ) {f : TreeAt rule d (seq (any_of c cs) h) → Y} → Left R a m d (seq (any_of c cs) h) f ms k → Takes mark_made (any_taken (c ∷ cs) (stream_of m)) m (Err e) b → Reads out R a (Err e) b
stop_mark {d = d} c cs s r = stop s (take_mark d c cs r).reads

-- ---- a token of one of several, as the code takes it

-- whether any of several asks for a class
pub among_any : {X : Type 0} (asked : X → ℕ) (n : ℕ) (xs : List X) → list_any (λ x. eqb n (asked x)) xs ≡ among (map asked xs) n
among_any asked n [] = refl
among_any asked n (x ∷ xs) = ap (λ b. eqb n (asked x) || b) (among_any asked n xs)

-- none of them stands there
pub not_any : (cs : List ℕ) (a : Reader) {f : Refusal} → f ≡ misfit_of (stream_of a) → among cs (front_of (stream_of a)) ≡ false → Takes mark_made (any_taken cs (stream_of a)) a (Err f) a
not_any cs a m n =
    let read = go (stream_of a).tokens (stream_of a).verdict n ∙ ap Err (sym m) in
    record { reads = record { lends = refl; goes = tt; reads = sym (ap (written mark_made (state_of a)) read) }; keeps = (refl, refl); steps = tt }
  where
    go : (ts : List (Placed Lexeme)) (v : Verdict) → among cs (front_of (record { tokens = ts; verdict = v })) ≡ false → any_taken cs (record { tokens = ts; verdict = v }) ≡ Err (misfit ts v)
    go [] v n = refl
    go (t ∷ ts) v n = ap (λ b. cond b (passed t (from ts v)) (Err (misfit (t ∷ ts) v))) n

any_by : (cs : List ℕ) (c : ℕ) (t : Placed Lexeme) (ts : List (Placed Lexeme)) (v : Verdict) (b : Bool) (e : is_class c t ≡ b) → b ≡ true → among cs (class_of t.item) ≡ true → any_taken cs (record { tokens = t ∷ ts; verdict = v }) ≡ bared c (take_by c t ts v b e)
unfolding bared
any_by cs c t ts v true e h among_them = ap (λ b. cond b (passed t (from ts v)) (Err (misfit (t ∷ ts) v))) among_them ∙ passed_of c (t, e) (from ts v)
any_by cs c t ts v false e h among_them = absurd (both_ways false refl h)

-- the class that stands there is one of them
any_of_class : (cs : List ℕ) (c : ℕ) (ts : List (Placed Lexeme)) (v : Verdict) → front_of (record { tokens = ts; verdict = v }) ≡ c → among cs c ≡ true → any_taken cs (record { tokens = ts; verdict = v }) ≡ bared c (taken c (record { tokens = ts; verdict = v }))
unfolding bared
any_of_class cs c [] v f h = refl
any_of_class cs c (t ∷ ts) v f h = any_by cs c t ts v (is_class c t) refl (eq-eqb (class_of t.item) c f) (ap (among cs) f ∙ h)

pub any_refused : (cs : List ℕ) (c : ℕ) {a b : Reader} {f : Refusal} → front_of (stream_of a) ≡ c → among cs c ≡ true → Takes (token_made c) (taken c (stream_of a)) a (Err f) b → Reads mark_made (any_taken cs (stream_of a)) a (Err f) b
unfolding bared
any_refused cs c {a} f h t = refuse_as t.reads (any_of_class cs c _ _ f h ∙ ap (bared c) (refused t.reads))

pub any_took : (cs : List ℕ) (c : ℕ) {a b : Reader} {i p : ℕ} → front_of (stream_of a) ≡ c → among cs c ≡ true → Takes (token_made c) (taken c (stream_of a)) a (Ok (i, p)) b → Takes mark_made (any_taken cs (stream_of a)) a (Ok (c, p)) b
unfolding bared
any_took cs c {a} {b} {p = p} f h t =
    let g = got t.reads in
    let read = any_of_class cs c _ _ f h ∙ ap (bared c) g.read in
    let class = eqb-true (class_of g.tree.0.item) c g.tree.1 in
    record {
      reads = record { lends = t.reads.lends; goes = t.reads.goes; reads = ap (λ s. Ok (c, p, s)) g.state ∙ ap (λ q. Ok (c, q, applied [] (stream_of b) (state_of a))) g.place ∙ ap (λ k. Ok (k, g.tree.0.place, applied [] (stream_of b) (state_of a))) (sym class) ∙ sym (ap (written mark_made (state_of a)) read) };
      keeps = t.keeps;
      steps = t.steps;
    }
