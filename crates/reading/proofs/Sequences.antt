-- A production read piece by piece: what is read and written so far, and what is left to read.
use Rattle.std.proofs.Common.{◌≡◌, ℕ, suc, ◌+◌, ◌<◌, ◌≤◌, List, [], ◌∷◌, ◌++◌, length, set, ℤ, IsErrAnd, Ok, Err, Result, sym, refl, ap, ◌∙◌, subst, arith}
use lib.Seq.{sets}
use Rattle.std.proofs.lemmas.List.{length-append}
use Rattle.std.proofs.lemmas.Result.{err_from_is_err_and}
use Rattle.table.specs.declared.kinds.Kind.{Kind}
use Rattle.table.specs.declared.kinds.Kind.TheVariants as kind
use Rattle.table.specs.declared.nodes.Node.{Node}
use Rattle.text.specs.Lexings.{lexed_from}
use Rattle.text.specs.Tokens.{lexeme}
use Rattle.grammar.specs.Grammars.{seq, tok, Of, Tree, TreeAt}
use Rattle.grammar.specs.Parsers.{Read, bind, parse, parse_at}
use Rattle.grammar.specs.Streams.{Stream, Refusal}
use Rattle.grammar.proofs.Inversions.{same_ok, never_ok}
use Rattle.syntax.specs.Nodes.{Made, Makes, with, over, titled, valued}
use Rattle.syntax.specs.Syntax.{G, rule}
use Rattle.reading.specs.declared.readers.Reader.{Reader}
use Rattle.reading.specs.Steps.{taken, token_made, name_made}
use Rattle.reading.specs.States.{State, stream_by, stream_of, state_of, Stays, Lends, Keeps, Recorded, Answer, shown, applied, done, written, Reads, Takes, Builds}

-- ---- states

-- what is to be read stays
pub same_stream : (a b : Reader) → Stays a b → stream_of b ≡ stream_of a
same_stream a b s =
    ap (λ t. stream_by (lexeme t) b.place (lexed_from (suc (length b.lexer.source.now)) b.lexer.source.now b.lexer.place)) s.token
    ∙ ap (λ p. stream_by (lexeme a.token) p (lexed_from (suc (length b.lexer.source.now)) b.lexer.source.now b.lexer.place)) s.place
    ∙ ap (λ l. stream_by (lexeme a.token) a.place (lexed_from (suc (length l.source.now)) l.source.now l.place)) s.lexer

unfoldable pub count_is : (r : Reader) → (state_of r).count ≡ r.count
unfolding state_of
count_is r = refl

unfoldable pub recorded_state : (a b : Reader) (node : Node) (r : ℕ × ℕ) → Recorded a b node r → state_of b ≡ applied (node ∷ []) (stream_of b) (state_of a)
unfolding state_of
recorded_state a b node r m =
    ap (λ k. record { stream = stream_of b; count = k; table = b.table.now }) m.count
    ∙ ap (λ t. record { stream = stream_of b; count = a.count + 1; table = t }) m.table

-- nodes, and then nodes
sets_append : (t : List Node) (i : ℕ) (ms ns : List Node) → sets t i (ms ++ ns) ≡ sets (sets t i ms) (i + length ms) ns
sets_append t i [] ns = ap (λ k. sets t k ns) (let z : i ≡ i + 0 = omega arith in z)
sets_append t i (m ∷ ms) ns = sets_append (set t i m) (suc i) ms ns ∙ ap (λ k. sets (sets (set t i m) (suc i) ms) k ns) (let z : suc i + length ms ≡ i + suc (length ms) = omega arith in z)

pub applied_append : (ms ns : List Node) (s r : Stream) (st : State) → applied ns s (applied ms r st) ≡ applied (ms ++ ns) s st
applied_append ms ns s r st =
    let sum = length-append ms ns in
    let at_end : st.count + length ms + 1 ≡ st.count + 1 + length ms = omega arith in
    ap (λ k. record { stream = s; count = k; table = sets (sets st.table (st.count + 1) ms) (st.count + length ms + 1) ns }) (let z : st.count + length ms + length ns ≡ st.count + length (ms ++ ns) = omega arith in z)
    ∙ ap (λ t. record { stream = s; count = st.count + length (ms ++ ns); table = t }) (ap (λ k. sets (sets st.table (st.count + 1) ms) k ns) at_end ∙ sym (sets_append st.table (st.count + 1) ms ns))

-- ---- what a call has read

-- a tree is read, and this is what it comes to
pub record Got {X : Type 0} (act : Makes X) (R : Read X) (a : Reader) (n p : ℕ) (b : Reader) : Type 0 where
  pub tree : X
  pub read : R ≡ Ok (tree, stream_of b)
  pub number : n ≡ (act tree a.count).number
  pub place : p ≡ (act tree a.count).place
  pub state : state_of b ≡ applied (act tree a.count).nodes (stream_of b) (state_of a)

unfoldable got_from : {X : Type 0} (act : Makes X) (R : Read X) (a : Reader) (n p : ℕ) (b : Reader) → Ok (n, p, state_of b) ≡ written act (state_of a) R → Got act R a n p b
unfolding state_of
got_from act (Ok q) a n p b e =
    let z = same_ok (n, p, state_of b) _ e in
    let s = ap (λ x. x.2.stream) z in
    record { tree = q.0; read = ap (λ x. Ok (q.0, x)) (sym s); number = ap (λ x. x.0) z; place = ap (λ x. x.1) z; state = ap (λ x. x.2) z ∙ ap (λ x. applied (act q.0 a.count).nodes x (state_of a)) (sym s) }
got_from act (Err f) a n p b e = absurd (never_ok _ f (sym e))

pub got : {X : Type 0} {act : Makes X} {R : Read X} {a : Reader} {n p : ℕ} {b : Reader} → Reads act R a (Ok (n, p)) b → Got act R a n p b
got {X} {act} {R} {a} {n} {p} {b} r = got_from act R a n p b r.reads

refused_from : {X : Type 0} (act : Makes X) (R : Read X) (st : State) (f : Refusal) → Err f ≡ written act st R → R ≡ Err f
refused_from act (Ok q) st f e = absurd (never_ok _ f e)
refused_from act (Err g) st f e = let q : ◌≡◌ {A = Refusal} g f = cc in ap Err q

pub refused : {X : Type 0} {act : Makes X} {R : Read X} {a : Reader} {f : Refusal} {b : Reader} → Reads act R a (Err f) b → R ≡ Err f
refused {X} {act} {R} {a} {f} {b} r = refused_from act R (state_of a) f r.reads

-- ---- so far

-- From a on, R is to be read. At m the nodes ms are written, k tokens are passed that no node is written for yet, and rest is left.
pub record Partly {Y : Type 0} (R : Read Y) (a m : Reader) (rest : Read Y) (ms : List Node) (k : ℕ) : Type 0 where
  pub left : R ≡ rest
  pub lends : Lends a m
  pub source : m.lexer.source ≡ a.lexer.source
  pub onward : a.place ≤ m.place
  pub state : state_of m ≡ applied ms (stream_of m) (state_of a)
  pub paced : m.count + a.place + k ≤ a.count + m.place

unfoldable pub start : {Y : Type 0} {R : Read Y} (a : Reader) {rest : Read Y} → R ≡ rest → Partly R a a rest [] 0
unfolding state_of
start a e =
    record {
      left = e;
      lends = refl;
      source = refl;
      onward = omega arith;
      state = ap (λ k. record { stream = stream_of a; count = k; table = a.table.now }) (let z : a.count ≡ a.count + 0 = omega arith in z);
      paced = omega arith;
    }

unfoldable pub so_many : {Y : Type 0} {R : Read Y} {a m : Reader} {rest : Read Y} {ms : List Node} {k : ℕ} → Partly R a m rest ms k → m.count ≡ a.count + length ms
unfolding state_of
so_many p = ap (λ (z : State). z.count) p.state

-- a call goes on from m to b
pub call_on : {X Y : Type 0} {act : Makes X} {q : Read X} {R rest : Read Y} {a m b : Reader} {ms : List Node} {k i p : ℕ} (c : ℕ) (e : m.count ≡ c) (s : Partly R a m rest ms k) (r : Reads act q m (Ok (i, p)) b) (more : Read Y) → rest ≡ more → Partly R a b more (ms ++ (act (got r).tree c).nodes) k
call_on {act = act} {a = a} {m} {b} {ms} c e s r more is =
    let g = got r in
    let t = g.tree in
    let goes = r.goes in
    let on = goes.onward in
    let pace = goes.paced in
    let on' = s.onward in
    let pace' = s.paced in
    record {
      left = s.left ∙ is;
      lends = r.lends ∙ s.lends;
      source = goes.source ∙ s.source;
      onward = omega arith;
      state = g.state ∙ ap (λ n. applied (act t n).nodes (stream_of b) (state_of m)) e ∙ ap (applied (act t c).nodes (stream_of b)) s.state ∙ applied_append ms (act t c).nodes (stream_of b) (stream_of m) (state_of a);
      paced = omega arith;
    }

no_nodes : (ms : List Node) (s r : Stream) (st : State) → applied [] s (applied ms r st) ≡ applied ms s st
no_nodes ms s r st = ap (λ k. record { stream = s; count = k; table = sets st.table (st.count + 1) ms }) (let z : st.count + length ms + 0 ≡ st.count + length ms = omega arith in z)

-- a token goes on from m to b
pub token_on : {X Y : Type 0} {act : Makes X} {q : Read X} {R rest : Read Y} {a m b : Reader} {ms : List Node} {k i p : ℕ} → ((x : X) (c : ℕ) → (act x c).nodes ≡ []) → Partly R a m rest ms k → Takes act q m (Ok (i, p)) b → (more : Read Y) → rest ≡ more → Partly R a b more ms (suc k)
token_on {act = act} {a = a} {m} {b} {ms} silent s r more is =
    let g = got r.reads in
    let same = r.steps.0 in
    let on = r.steps.1 in
    let on' = s.onward in
    let pace = s.paced in
    record {
      left = s.left ∙ is;
      lends = r.reads.lends ∙ s.lends;
      source = r.reads.goes.source ∙ s.source;
      onward = omega arith;
      state = g.state ∙ ap (λ ns. applied ns (stream_of b) (state_of m)) (silent g.tree m.count) ∙ ap (applied [] (stream_of b)) s.state ∙ no_nodes ms (stream_of b) (stream_of m) (state_of a);
      paced = omega arith;
    }

-- ---- the ways out

-- a call refuses
refuse : {X Y : Type 0} {act : Makes X} {out : Makes Y} {q : Read X} {R rest : Read Y} {a m b : Reader} {ms : List Node} {k : ℕ} {f : Refusal} → Partly R a m rest ms k → Reads act q m (Err f) b → rest ≡ Err f → Reads out R a (Err f) b
refuse {out = out} {a = a} s r e =
    record { lends = r.lends ∙ s.lends; goes = tt; reads = sym (ap (written out (state_of a)) (s.left ∙ e)) }

-- what the exit of a `?` returns
pub exit : {T X : Type 0} {act : Makes X} {R : Read X} {a b : Reader} {f : Refusal} (view : T → ℕ × ℕ) (r : Result T Refusal) → IsErrAnd r (λ y. y ≡ f) → Reads act R a (Err f) b → Reads act R a (shown view r) b
exit {act = act} {R} {a} {b} view r e t = let p = err_from_is_err_and r e in subst (λ x. Reads act R a x b) (sym (ap (shown view) (p.1 ∙ ap Err p.2))) t

pub exit_node : {T X : Type 0} {act : Makes X} {R : Read X} {a b : Reader} {f : Refusal} (view : T → ℕ × ℕ) (r : Result T Refusal) → IsErrAnd r (λ y. y ≡ f) → Reads act R a (Err f) b → Builds act R a (shown view r) b
exit_node {act = act} {R} {a} {b} view r e t = let p = err_from_is_err_and r e in subst (λ x. Builds act R a x b) (sym (ap (shown view) (p.1 ∙ ap Err p.2))) (record { reads = t; last = tt })

pub exit_token : {T X : Type 0} {act : Makes X} {R : Read X} {a b : Reader} {f : Refusal} (view : T → ℕ × ℕ) (r : Result T Refusal) → IsErrAnd r (λ y. y ≡ f) → Reads act R a (Err f) b → Keeps a b → Takes act R a (shown view r) b
exit_token {act = act} {R} {a} {b} view r e t k = let p = err_from_is_err_and r e in subst (λ x. Takes act R a x b) (sym (ap (shown view) (p.1 ∙ ap Err p.2))) (record { reads = t; keeps = k; steps = tt })

-- a token's answer, where the result is known in other words
pub as_result : {T X : Type 0} {act : Makes X} {R : Read X} {a b : Reader} (view : T → ℕ × ℕ) {r s : Result T Refusal} → r ≡ s → Takes act R a (shown view r) b → Takes act R a (shown view s) b
as_result {act = act} {R} {a} {b} view e t = subst (λ x. Takes act R a (shown view x) b) e t

-- ---- a grammar that is left

-- what has no nodes, wherever it stands
pub record Silent {X : Type 0} (act : Makes X) : Type 0 where
  pub nodes : (x : X) (c : ℕ) → (act x c).nodes ≡ []
  pub number : (x : X) (c : ℕ) → (act x c).number ≡ (act x 0).number
  pub place : (x : X) (c : ℕ) → (act x c).place ≡ (act x 0).place

-- what is left is g, and with its tree f makes all of it
pub record Left {Y : Type 0} (R : Read Y) (a m : Reader) (d : ℕ) (g : G) (f : TreeAt rule d g → Y) (ms : List Node) (k : ℕ) : Type 0 where
  pub part : Partly R a m (bind (parse_at rule d g (stream_of m)) (λ x s. Ok (f x, s))) ms k

-- nothing is left
pub record Whole {Y : Type 0} (R : Read Y) (a m : Reader) (y : Y) (ms : List Node) (k : ℕ) : Type 0 where
  pub part : Partly R a m (Ok (y, stream_of m)) ms k

pub unit : {X : Type 0} (r : Read X) → r ≡ bind r (λ x s. Ok (x, s))
unit (Ok p) = refl
unit (Err e) = refl

pub begin : (d : ℕ) (g : G) (a : Reader) → Left (parse_at rule d g (stream_of a)) a a d g (λ x. x) [] 0
begin d g a = record { part = start a (unit (parse_at rule d g (stream_of a))) }

-- two trees one after the other; the tree of a token; that of one of several
unfoldable pub pair : (d : ℕ) (g h : G) → TreeAt rule d g → TreeAt rule d h → TreeAt rule d (seq g h)
unfolding Tree
pair d g h x y = (x, y)

-- what a token's tree stands for, as the tree of a grammar
unfoldable pub leaf_made : (d c : ℕ) → Makes (Of c) → Makes (TreeAt rule d (tok c))
unfolding Tree
leaf_made d c act x = act x

unfoldable pub as_leaf_lem : (d c : ℕ) {act : Makes (Of c)} {a b : Reader} {r : Answer} → Reads act (taken c (stream_of a)) a r b → Reads (leaf_made d c act) (parse_at rule d (tok c) (stream_of a)) a r b
unfolding Tree parse leaf_made
as_leaf_lem d c r = r

unfoldable take_leaf : (d c : ℕ) {act : Makes (Of c)} {a b : Reader} {r : Answer} → Takes act (taken c (stream_of a)) a r b → Takes (leaf_made d c act) (parse_at rule d (tok c) (stream_of a)) a r b
unfolding Tree parse leaf_made
take_leaf d c r = r

unfoldable silent_leaf : (d c : ℕ) (act : Makes (Of c)) → Silent act → Silent (leaf_made d c act)
unfolding Tree leaf_made
silent_leaf d c act s = s

pub silent_token : (c : ℕ) → Silent (token_made c)
silent_token c = record { nodes = λ x n. refl; number = λ x n. refl; place = λ x n. refl }

pub silent_name : Silent name_made
silent_name = record { nodes = λ x n. refl; number = λ x n. refl; place = λ x n. refl }

seq_ok : {Y : Type 0} (d : ℕ) (g h : G) (f : TreeAt rule d (seq g h) → Y) (s : Stream) (x : TreeAt rule d g) (t : Stream) → parse_at rule d g s ≡ Ok (x, t) → bind (parse_at rule d (seq g h) s) (λ z u. Ok (f z, u)) ≡ bind (parse_at rule d h t) (λ y u. Ok (f (pair d g h x y), u))
unfolding Tree parse pair
seq_ok d g h f s x t e = ap (λ r. bind (bind r (λ x s₁. bind (parse_at rule d h s₁) (λ y s₂. Ok ((x, y), s₂)))) (λ z u. Ok (f z, u))) e ∙ rest (parse_at rule d h t)
  where
    rest : (r : Read (TreeAt rule d h)) → bind (bind r (λ y s₂. Ok ((x, y), s₂))) (λ z u. Ok (f z, u)) ≡ bind r (λ y u. Ok (f (pair d g h x y), u))
    rest (Ok p) = refl
    rest (Err q) = refl

seq_err : {Y : Type 0} (d : ℕ) (g h : G) (f : TreeAt rule d (seq g h) → Y) (s : Stream) (e : Refusal) → parse_at rule d g s ≡ Err e → bind (parse_at rule d (seq g h) s) (λ z u. Ok (f z, u)) ≡ Err e
unfolding Tree parse
seq_err d g h f s e q = ap (λ r. bind (bind r (λ x s₁. bind (parse_at rule d h s₁) (λ y s₂. Ok ((x, y), s₂)))) (λ z u. Ok (f z, u))) q

-- a call has read the next piece
pub record Next {Y : Type 0} (R : Read Y) (a b : Reader) (d : ℕ) (g h : G) (act : Makes (TreeAt rule d g)) (f : TreeAt rule d (seq g h) → Y) (c : ℕ) (before : List Node) (k i p : ℕ) : Type 0 where
  pub tree : TreeAt rule d g
  pub number : i ≡ (act tree c).number
  pub place : p ≡ (act tree c).place
  pub more : Left R a b d h (λ y. f (pair d g h tree y)) (before ++ (act tree c).nodes) k

next_at : {Y : Type 0} {R : Read Y} {a m b : Reader} {d : ℕ} {g h : G} {act : Makes (TreeAt rule d g)} {f : TreeAt rule d (seq g h) → Y} {ms : List Node} {k i p : ℕ} (c : ℕ) → m.count ≡ c → Left R a m d (seq g h) f ms k → Reads act (parse_at rule d g (stream_of m)) m (Ok (i, p)) b → Next R a b d g h act f c ms k i p
next_at {m = m} {b} {d} {g} {h} {act} {f} c e s r =
    let q = got r in
    record {
      tree = q.tree;
      number = q.number ∙ ap (λ n. (act q.tree n).number) e;
      place = q.place ∙ ap (λ n. (act q.tree n).place) e;
      more = record { part = call_on c e s.part r _ (seq_ok d g h f (stream_of m) q.tree (stream_of b) q.read) };
    }

-- the first that may have nodes, and one after others
pub first : {Y : Type 0} {R : Read Y} {a m b : Reader} {d : ℕ} {g h : G} {act : Makes (TreeAt rule d g)} {f : TreeAt rule d (seq g h) → Y} {k i p : ℕ} → Left R a m d (seq g h) f [] k → Reads act (parse_at rule d g (stream_of m)) m (Ok (i, p)) b → Next R a b d g h act f a.count [] k i p
first {a = a} s r = let n = so_many s.part in next_at a.count (omega arith) s r

pub later : {Y : Type 0} {R : Read Y} {a m b : Reader} {d : ℕ} {g h : G} {act : Makes (TreeAt rule d g)} {f : TreeAt rule d (seq g h) → Y} {ms : List Node} {k i p : ℕ} → Left R a m d (seq g h) f ms k → Reads act (parse_at rule d g (stream_of m)) m (Ok (i, p)) b → Next R a b d g h act f (a.count + length ms) ms k i p
later {a = a} {ms = ms} s r = next_at (a.count + length ms) (so_many s.part) s r

-- a call has read the last piece
pub record Last {Y : Type 0} (R : Read Y) (a b : Reader) (d : ℕ) (g : G) (act : Makes (TreeAt rule d g)) (f : TreeAt rule d g → Y) (c : ℕ) (before : List Node) (k i p : ℕ) : Type 0 where
  pub tree : TreeAt rule d g
  pub number : i ≡ (act tree c).number
  pub place : p ≡ (act tree c).place
  pub whole : Whole R a b (f tree) (before ++ (act tree c).nodes) k

last_at : {Y : Type 0} {R : Read Y} {a m b : Reader} {d : ℕ} {g : G} {act : Makes (TreeAt rule d g)} {f : TreeAt rule d g → Y} {ms : List Node} {k i p : ℕ} (c : ℕ) → m.count ≡ c → Left R a m d g f ms k → Reads act (parse_at rule d g (stream_of m)) m (Ok (i, p)) b → Last R a b d g act f c ms k i p
last_at {act = act} {f} c e s r =
    let q = got r in
    record {
      tree = q.tree;
      number = q.number ∙ ap (λ n. (act q.tree n).number) e;
      place = q.place ∙ ap (λ n. (act q.tree n).place) e;
      whole = record { part = call_on c e s.part r _ (ap (λ z. bind z (λ x u. Ok (f x, u))) q.read) };
    }

pub only : {Y : Type 0} {R : Read Y} {a m b : Reader} {d : ℕ} {g : G} {act : Makes (TreeAt rule d g)} {f : TreeAt rule d g → Y} {k i p : ℕ} → Left R a m d g f [] k → Reads act (parse_at rule d g (stream_of m)) m (Ok (i, p)) b → Last R a b d g act f a.count [] k i p
only {a = a} s r = let n = so_many s.part in last_at a.count (omega arith) s r

pub last : {Y : Type 0} {R : Read Y} {a m b : Reader} {d : ℕ} {g : G} {act : Makes (TreeAt rule d g)} {f : TreeAt rule d g → Y} {ms : List Node} {k i p : ℕ} → Left R a m d g f ms k → Reads act (parse_at rule d g (stream_of m)) m (Ok (i, p)) b → Last R a b d g act f (a.count + length ms) ms k i p
last {a = a} {ms = ms} s r = last_at (a.count + length ms) (so_many s.part) s r

-- a token was passed that has no node
pub record Past {Y : Type 0} (R : Read Y) (a b : Reader) (d : ℕ) (g h : G) (act : Makes (TreeAt rule d g)) (f : TreeAt rule d (seq g h) → Y) (ms : List Node) (k i p : ℕ) : Type 0 where
  pub tree : TreeAt rule d g
  pub number : i ≡ (act tree 0).number
  pub place : p ≡ (act tree 0).place
  pub more : Left R a b d h (λ y. f (pair d g h tree y)) ms (suc k)

pub past : {Y : Type 0} {R : Read Y} {a m b : Reader} {d : ℕ} {g h : G} {act : Makes (TreeAt rule d g)} {f : TreeAt rule d (seq g h) → Y} {ms : List Node} {k i p : ℕ} → Left R a m d (seq g h) f ms k → Silent act → Takes act (parse_at rule d g (stream_of m)) m (Ok (i, p)) b → Past R a b d g h act f ms k i p
past {m = m} {b} {d} {g} {h} {act} {f} s silent r =
    let q = got r.reads in
    record {
      tree = q.tree;
      number = q.number ∙ silent.number q.tree m.count;
      place = q.place ∙ silent.place q.tree m.count;
      more = record { part = token_on silent.nodes s.part r _ (seq_ok d g h f (stream_of m) q.tree (stream_of b) q.read) };
    }

pub past_token : {Y : Type 0} {R : Read Y} {a m b : Reader} {d c : ℕ} {h : G} {f : TreeAt rule d (seq (tok c) h) → Y} {ms : List Node} {k i p : ℕ} → Left R a m d (seq (tok c) h) f ms k → Takes (token_made c) (taken c (stream_of m)) m (Ok (i, p)) b → Past R a b d (tok c) h (leaf_made d c (token_made c)) f ms k i p
past_token {d = d} {c} s r = past s (silent_leaf d c _ (silent_token c)) (take_leaf d c r)

pub past_name : {Y : Type 0} {R : Read Y} {a m b : Reader} {d : ℕ} {h : G} {f : TreeAt rule d (seq (tok 51) h) → Y} {ms : List Node} {k i p : ℕ} → Left R a m d (seq (tok 51) h) f ms k → Takes name_made (taken 51 (stream_of m)) m (Ok (i, p)) b → Past R a b d (tok 51) h (leaf_made d 51 name_made) f ms k i p
past_name {d = d} s r = past s (silent_leaf d 51 _ silent_name) (take_leaf d 51 r)

-- the last token was passed
pub record Closed {Y : Type 0} (R : Read Y) (a b : Reader) (d : ℕ) (g : G) (f : TreeAt rule d g → Y) (ms : List Node) (k : ℕ) : Type 0 where
  pub tree : TreeAt rule d g
  pub whole : Whole R a b (f tree) ms (suc k)

pub closed : {Y : Type 0} {R : Read Y} {a m b : Reader} {d : ℕ} {g : G} {act : Makes (TreeAt rule d g)} {f : TreeAt rule d g → Y} {ms : List Node} {k i p : ℕ} → Left R a m d g f ms k → Silent act → Takes act (parse_at rule d g (stream_of m)) m (Ok (i, p)) b → Closed R a b d g f ms k
closed {f = f} s silent r =
    let q = got r.reads in
    record { tree = q.tree; whole = record { part = token_on silent.nodes s.part r _ (ap (λ z. bind z (λ x u. Ok (f x, u))) q.read) } }

pub closed_token : {Y : Type 0} {R : Read Y} {a m b : Reader} {d c : ℕ} {f : TreeAt rule d (tok c) → Y} {ms : List Node} {k i p : ℕ} → Left R a m d (tok c) f ms k → Takes (token_made c) (taken c (stream_of m)) m (Ok (i, p)) b → Closed R a b d (tok c) f ms k
closed_token {d = d} {c} s r = closed s (silent_leaf d c _ (silent_token c)) (take_leaf d c r)

-- a piece is refused, and with it all
pub stop : {Y : Type 0} {out : Makes Y} {R : Read Y} {a m b : Reader} {d : ℕ} {g h : G} {act : Makes (TreeAt rule d g)} {f : TreeAt rule d (seq g h) → Y} {ms : List Node} {k : ℕ} {e : Refusal} → Left R a m d (seq g h) f ms k → Reads act (parse_at rule d g (stream_of m)) m (Err e) b → Reads out R a (Err e) b
stop {m = m} {d = d} {g} {h} {f = f} {e = e} s r = refuse s.part r (seq_err d g h f (stream_of m) e (refused r))

pub stop_last : {Y : Type 0} {out : Makes Y} {R : Read Y} {a m b : Reader} {d : ℕ} {g : G} {act : Makes (TreeAt rule d g)} {f : TreeAt rule d g → Y} {ms : List Node} {k : ℕ} {e : Refusal} → Left R a m d g f ms k → Reads act (parse_at rule d g (stream_of m)) m (Err e) b → Reads out R a (Err e) b
stop_last {f = f} s r = refuse s.part r (ap (λ z. bind z (λ x u. Ok (f x, u))) (refused r))

pub stop_token : {Y : Type 0} {out : Makes Y} {R : Read Y} {a m b : Reader} {d c : ℕ} {h : G} {act : Makes (Of c)} {f : TreeAt rule d (seq (tok c) h) → Y} {ms : List Node} {k : ℕ} {e : Refusal} → Left R a m d (seq (tok c) h) f ms k → Takes act (taken c (stream_of m)) m (Err e) b → Reads out R a (Err e) b
stop_token {d = d} {c} s r = stop s (as_leaf_lem d c r.reads)

pub stop_last_token : {Y : Type 0} {out : Makes Y} {R : Read Y} {a m b : Reader} {d c : ℕ} {act : Makes (Of c)} {f : TreeAt rule d (tok c) → Y} {ms : List Node} {k : ℕ} {e : Refusal} → Left R a m d (tok c) f ms k → Takes act (taken c (stream_of m)) m (Err e) b → Reads out R a (Err e) b
stop_last_token {d = d} {c} s r = stop_last s (as_leaf_lem d c r.reads)

-- all is read
pub pass : {Y : Type 0} {out : Makes Y} {R : Read Y} {a m : Reader} {y : Y} {ms : List Node} {k i p : ℕ} → Whole R a m y ms k → record { nodes = ms; number = i; place = p } ≡ out y a.count → Reads out R a (Ok (i, p)) m
pass {out = out} {a = a} {m} {y} {ms} {k} {i} {p} w e =
    let s = w.part in
    let pace = s.paced in
    record {
      lends = s.lends;
      goes = record { source = s.source; onward = s.onward; paced = omega arith };
      reads = ap (λ st. Ok (i, p, st)) s.state ∙ ap (λ (z : Made). done (state_of a) z (stream_of m)) (e ∙ ap (out y) (sym (count_is a))) ∙ sym (ap (written out (state_of a)) s.left);
    }

-- all is read, and the node of it is written
pub node : {Y : Type 0} {out : Makes Y} {R : Read Y} {a m d : Reader} {y : Y} {ms : List Node} {k : ℕ} {raw top : Node} {r : ℕ × ℕ} → Whole R a m y ms (suc k) → Recorded m d raw r → raw ≡ top → with ms top a.count ≡ out y a.count → Builds out R a (Ok r) d
node {out = out} {R} {a} {m} {d} {y} {ms} {k} {raw} {top} {r} whole w is e =
    let s = whole.part in
    let many = so_many s in
    let on = s.onward in
    let pace = s.paced in
    let here = w.stays.place in
    let count = w.count in
    let numbered = w.numbered in
    let num : r.0 ≡ a.count + length ms + 1 = omega arith in
    let here' = same_stream m d w.stays in
    let after : Whole R a d y (ms ++ (top ∷ [])) k =
    record {
      part =
          record {
            left = s.left ∙ ap (λ z. Ok (y, z)) (sym here');
            lends = w.stays.lender ∙ s.lends;
            source = ap (λ l. l.source) w.stays.lexer ∙ s.source;
            onward = omega arith;
            state = recorded_state m d raw r w ∙ ap (λ x. applied (x ∷ []) (stream_of d) (state_of m)) is ∙ ap (applied (top ∷ []) (stream_of d)) s.state ∙ applied_append ms (top ∷ []) (stream_of d) (stream_of m) (state_of a);
            paced = omega arith;
          };
    } in
    record {
      reads = pass after (ap (λ (z : ℕ × ℕ). record { nodes = ms ++ (top ∷ []); number = z.0; place = z.1 }) (ap (λ n. (n, r.1)) num ∙ ap (λ p. (a.count + length ms + 1, p)) (w.placed ∙ ap (λ (x : Node). x.place) is)) ∙ e);
      last = (numbered ∙ sym count, omega arith);
    }

-- there is room for a node after a token
pub roomy : {Y : Type 0} {R : Read Y} {a m : Reader} {y : Y} {ms : List Node} {k : ℕ} → Whole R a m y ms (suc k) → m.count < m.place
roomy {a = a} w = let p = w.part.paced in let few = a.few in omega arith

-- ---- one token, and no more

pub record Single {X : Type 0} (act : Makes X) (R : Read X) (a b : Reader) (i p : ℕ) : Type 0 where
  pub tree : X
  pub number : i ≡ (act tree 0).number
  pub place : p ≡ (act tree 0).place
  pub read : R ≡ Ok (tree, stream_of b)
  pub whole : Whole R a b tree [] 1

pub single : {X : Type 0} {act : Makes X} {R : Read X} {a b : Reader} {i p : ℕ} → Silent act → Takes act R a (Ok (i, p)) b → Single act R a b i p
single {a = a} silent r =
    let q = got r.reads in
    record { tree = q.tree; number = q.number ∙ silent.number q.tree a.count; place = q.place ∙ silent.place q.tree a.count; read = q.read; whole = record { part = token_on silent.nodes (start a refl) r _ q.read } }

pub refuse_as : {X Y : Type 0} {act : Makes X} {out : Makes Y} {q : Read X} {R : Read Y} {a b : Reader} {f g : Refusal} → Reads act q a (Err f) b → R ≡ Err g → Reads out R a (Err g) b
refuse_as {out = out} {a = a} r e = record { lends = r.lends; goes = tt; reads = sym (ap (written out (state_of a)) e) }

pub refused_as : {X : Type 0} {act out : Makes X} {R : Read X} {a b : Reader} {f : Refusal} → Takes act R a (Err f) b → Reads out R a (Err f) b
refused_as r = refuse_as r.reads (refused r.reads)

-- ---- the same node in other words

pub over_is : {raw : Node} (k : Kind) {p q f g s t u v : ℕ} → raw ≡ over k p f s u → p ≡ q → f ≡ g → s ≡ t → u ≡ v → raw ≡ over k q g t v
over_is k e hp hf hs hu = e ∙ (λ i. over k (hp i) (hf i) (hs i) (hu i))

pub titled_is : {raw : Node} (k : Kind) {l m p q f g s t u v w x : ℕ} → raw ≡ titled k l p f s u w → l ≡ m → p ≡ q → f ≡ g → s ≡ t → u ≡ v → w ≡ x → raw ≡ titled k m q g t v x
titled_is k e hl hp hf hs hu hw = e ∙ (λ i. titled k (hl i) (hp i) (hf i) (hs i) (hu i) (hw i))

pub valued_is : {raw : Node} {p q : ℕ} {x y : ℤ} → raw ≡ valued kind.Number p x → p ≡ q → x ≡ y → raw ≡ valued kind.Number q y
valued_is e hp hx = e ∙ (λ i. valued kind.Number (hp i) (hx i))

pub over_as : {raw : Node} (k l : Kind) {p q f g s t u v : ℕ} → raw ≡ over k p f s u → k ≡ l → p ≡ q → f ≡ g → s ≡ t → u ≡ v → raw ≡ over l q g t v
over_as k l e hk hp hf hs hu = e ∙ (λ i. over (hk i) (hp i) (hf i) (hs i) (hu i))
