-- What is read and written makes up one answer, and what an answer comes to; items that are still to be read, after the nodes so far.
use Rattle.std.proofs.Common.{◌≡◌, ℕ, ◌+◌, ◌≤◌, List, ◌∷◌, Ok, Err, refl, sym, ap, ◌∙◌, arith}
use Rattle.table.specs.declared.nodes.Node.{Node}
use Rattle.grammar.specs.Parsers.{Read, bind}
use Rattle.grammar.specs.Streams.{Stream, Refusal}
use Rattle.grammar.proofs.Inversions.{same_ok, never_ok}
use Rattle.grammar.proofs.Unrolling.{then_more}
use Rattle.syntax.specs.Nodes.{Made, Makes, with, folded}
use Rattle.reading.specs.declared.readers.Reader.{Reader}
use Rattle.reading.specs.States.{State, Done, stream_of, state_of, Goes, Lends, Recorded, applied, done, written, Reads}
use Rattle.reading.proofs.Sequences.{Whole, node}

-- a tree is read, and this is what it comes to, whatever the states
pub record Got {X : Type 0} (act : Makes X) (R : Read X) (st : State) (n p : ℕ) (after : State) : Type 0 where
  pub tree : X
  pub rest : Stream
  pub read : R ≡ Ok (tree, rest)
  pub number : n ≡ (act tree st.count).number
  pub place : p ≡ (act tree st.count).place
  pub state : after ≡ applied (act tree st.count).nodes rest st

pub got : {X : Type 0} (act : Makes X) (R : Read X) (st : State) (n p : ℕ) (after : State) → Ok (n, p, after) ≡ written act st R → Got act R st n p after
got act (Ok q) st n p after e =
    let z = same_ok (n, p, after) _ e in
    record { tree = q.0; rest = q.1; read = refl; number = ap (λ x. x.0) z; place = ap (λ x. x.1) z; state = ap (λ x. x.2) z }
got act (Err f) st n p after e = absurd (never_ok _ f (sym e))

pub refused : {X : Type 0} (act : Makes X) (R : Read X) (st : State) (f : Refusal) → Err f ≡ written act st R → R ≡ Err f
refused act (Ok q) st f e = absurd (never_ok _ f e)
refused act (Err g) st f e = let q : ◌≡◌ {A = Refusal} g f = cc in ap Err q

-- what was read has nodes, and one more is written over them
pub with_node : {X : Type 0} (act : Makes X) (R : Read X) (x : X) (s : Stream) (a b d : Reader) (ms : List Node) (raw top : Node) (r : ℕ × ℕ) → R ≡ Ok (x, s)
    → state_of b ≡ applied ms s (state_of a) → Lends a b → Goes a b → b.count + 1 + a.place ≤ a.count + b.place
    → Recorded b d raw r → raw ≡ top → act x a.count ≡ with ms top a.count
    → Reads act R a (Ok r) d
unfolding state_of
with_node act R x s a b d ms raw top r e f l g h m is k =
    let here : s ≡ stream_of b = sym (ap (λ (z : State). z.stream) f) in
    let whole : Whole R a b x ms 1 =
    record { part = record { left = e ∙ ap (λ z. Ok (x, z)) here; lends = l; source = g.source; onward = g.onward; state = f ∙ ap (λ z. applied ms z (state_of a)) here; paced = omega arith } } in
    let built = node {out = act} whole m is (sym k) in
    built.reads

-- nothing is read
pub no_node : {X : Type 0} (act : Makes X) (R : Read X) (f : Refusal) (a b : Reader) → R ≡ Err f → Lends a b → Reads act R a (Err f) b
no_node act R f a b e l = record { lends = l; goes = tt; reads = sym (ap (written act (state_of a)) e) }

-- what is to come of nodes so far and the items that are still to be read
abbrev pub continued : {X : Type 0} → (Made → X → Made) → State → Made → Read (List X) → Done
continued turn st m (Ok p) = done st (folded turn m p.0) p.1
continued turn st m (Err f) = Err f

after_item : {X : Type 0} (turn : Made → X → Made) (st : State) (m : Made) (x : X) (r : Read (List X)) → continued turn st m (bind r (λ xs s. Ok (x ∷ xs, s))) ≡ continued turn st (turn m x) r
after_item turn st m x (Ok p) = refl
after_item turn st m x (Err f) = refl

-- one item more
pub item_read : {X : Type 0} (turn : Made → X → Made) (st : State) (m : Made) (r : Read X) (more : Stream → Read (List X)) (x : X) (s : Stream) → r ≡ Ok (x, s) → continued turn st m (then_more r more) ≡ continued turn st (turn m x) (more s)
item_read turn st m r more x s e = ap (λ z. continued turn st m (then_more z more)) e ∙ after_item turn st m x (more s)

pub item_refused : {X : Type 0} (turn : Made → X → Made) (st : State) (m : Made) (r : Read X) (more : Stream → Read (List X)) (f : Refusal) → r ≡ Err f → continued turn st m (then_more r more) ≡ Err f
item_refused turn st m r more f e = ap (λ z. continued turn st m (then_more z more)) e
