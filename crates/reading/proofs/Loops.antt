-- Any number of items, one after another.
use Rattle.std.proofs.Common.{◌≡◌, ℕ, zero, suc, ◌+◌, ◌<◌, ◌≤◌, Bool, true, false, cond, leb, List, [], ◌∷◌, ◌++◌, length, get_or, set, Ok, Err, sym, refl, ap, ◌∙◌, subst, arith, get_or-set_other, get_or-set_same, set-set}
use lib.Seq.{sets, set_out, set_comm}
use Rattle.std.proofs.lemmas.List.{length-append}
use Rattle.std.proofs.lemmas.Bool.{leb-true, leb-false}
use Rattle.table.specs.declared.nodes.Node.{Node}
use Rattle.table.specs.Records.{zero as zeros}
use Rattle.grammar.specs.Firsts.{nullable, firsts, apart}
use Rattle.grammar.specs.Grammars.{many, Tree, TreeAt, inner_yield}
use Rattle.grammar.specs.Parsers.{Read, bind, parse_in, parse_at}
use Rattle.grammar.specs.Streams.{Stream, Refusal}
use Rattle.grammar.specs.TokenClasses.{among}
use Rattle.grammar.proofs.Soundness.{sound_in}
use Rattle.grammar.proofs.Unrolling.{many_again, one_more, none as no_more}
use Rattle.syntax.specs.Nodes.{Made, Makes, folded, with_next, next_last, first_or, linked, none}
use Rattle.syntax.specs.Syntax.{G, rule}
use Rattle.reading.specs.declared.readers.Reader.{Reader}
use Rattle.reading.specs.States.{State, stream_of, state_of, Lends, Written, Chained, linked_at, applied, written, Reads}
use Rattle.reading.specs.Steps.{front_of}
use Rattle.reading.proofs.Sequences.{got, refused, Left, Whole, so_many, same_stream, applied_append, pass}

-- a grammar of which any number may be read
pub record Item (g : G) : Type 0 where
  pub some : nullable g ≡ false
  pub begun : apart (firsts g) (0 ∷ 99 ∷ []) ≡ true

unfoldable pub items : (d : ℕ) (g : G) → List (TreeAt rule d g) → TreeAt rule d (many g)
unfolding Tree
items d g xs = xs

unfoldable pub cons : (d : ℕ) (g : G) → TreeAt rule d g → TreeAt rule d (many g) → TreeAt rule d (many g)
unfolding Tree
cons d g x xs = x ∷ xs

-- with the nodes made so far, and what the items to come make of them
pub record Going {Y : Type 0} (out : Makes Y) (R : Read Y) (a m : Reader) (d : ℕ) (g : G) (turn : Made → TreeAt rule d g → Made) (i p : ℕ) : Type 0 where
  pub made : Made
  pub rest : TreeAt rule d (many g) → Y
  pub left : Left R a m d (many g) rest made.nodes 0
  pub folds : (xs : List (TreeAt rule d g)) → out (rest (items d g xs)) a.count ≡ folded turn made xs
  pub number : i ≡ made.number
  pub place : p ≡ made.place

-- ---- what comes of one turn

again : (d : ℕ) (g : G) → Item g → (s : Stream) → parse_at rule d (many g) s ≡ cond (among (firsts g) (front_of s)) (one_more _ g (parse_at rule d g s) (parse_at rule d (many g))) (no_more _ g s)
again d g h s = many_again _ (inner_yield rule d) d (parse_in rule d) (sound_in rule d) g h.some h.begun s

more_ok : {Y : Type 0} (d : ℕ) (g : G) → Item g → (f : TreeAt rule d (many g) → Y) (s m : Stream) (x : TreeAt rule d g) → among (firsts g) (front_of s) ≡ true → parse_at rule d g s ≡ Ok (x, m) → bind (parse_at rule d (many g) s) (λ z u. Ok (f z, u)) ≡ bind (parse_at rule d (many g) m) (λ z u. Ok (f (cons d g x z), u))
unfolding Tree one_more cons
more_ok d g h f s m x b e =
    ap (λ r. bind r (λ z u. Ok (f z, u))) (again d g h s ∙ ap (λ c. cond c (one_more _ g (parse_at rule d g s) (parse_at rule d (many g))) (no_more _ g s)) b ∙ ap (λ r. one_more _ g r (parse_at rule d (many g))) e)
    ∙ rest (parse_at rule d (many g) m)
  where
    rest : (r : Read (TreeAt rule d (many g))) → bind (bind r (λ xs s₂. Ok (x ∷ xs, s₂))) (λ z u. Ok (f z, u)) ≡ bind r (λ z u. Ok (f (cons d g x z), u))
    rest (Ok p) = refl
    rest (Err q) = refl

more_err : {Y : Type 0} (d : ℕ) (g : G) → Item g → (f : TreeAt rule d (many g) → Y) (s : Stream) (q : Refusal) → among (firsts g) (front_of s) ≡ true → parse_at rule d g s ≡ Err q → bind (parse_at rule d (many g) s) (λ z u. Ok (f z, u)) ≡ Err q
unfolding Tree one_more
more_err d g h f s q b e =
    ap (λ r. bind r (λ z u. Ok (f z, u))) (again d g h s ∙ ap (λ c. cond c (one_more _ g (parse_at rule d g s) (parse_at rule d (many g))) (no_more _ g s)) b ∙ ap (λ r. one_more _ g r (parse_at rule d (many g))) e)

no_more_lem : {Y : Type 0} (d : ℕ) (g : G) → Item g → (f : TreeAt rule d (many g) → Y) (s : Stream) → among (firsts g) (front_of s) ≡ false → bind (parse_at rule d (many g) s) (λ z u. Ok (f z, u)) ≡ Ok (f (items d g []), s)
unfolding Tree no_more items
no_more_lem d g h f s b =
    ap (λ r. bind r (λ z u. Ok (f z, u))) (again d g h s ∙ ap (λ c. cond c (one_more _ g (parse_at rule d g s) (parse_at rule d (many g))) (no_more _ g s)) b)

-- an item is read, and what is written for it makes up what the turn makes
going_on : {Y : Type 0} {out : Makes Y} {R : Read Y} {a m : Reader} {d : ℕ} {g : G} {turn : Made → TreeAt rule d g → Made} {i p : ℕ} (b : Reader) (j q : ℕ) → Item g → (w : Going out R a m d g turn i p) (x : TreeAt rule d g)
    → among (firsts g) (front_of (stream_of m)) ≡ true → parse_at rule d g (stream_of m) ≡ Ok (x, stream_of b)
    → Lends m b → b.lexer.source ≡ m.lexer.source → a.place ≤ b.place → b.count + a.place ≤ a.count + b.place
    → state_of b ≡ applied (turn w.made x).nodes (stream_of b) (state_of a)
    → j ≡ (turn w.made x).number → q ≡ (turn w.made x).place
    → Going out R a b d g turn j q
unfolding cons items
going_on {d = d} {g} {turn} b j q h w x begins e lends same_text on pace state number place =
    record {
      made = turn w.made x;
      rest = λ z. w.rest (cons d g x z);
      left =
          record {
            part =
                record {
                  left = w.left.part.left ∙ more_ok d g h w.rest _ (stream_of b) x begins e;
                  lends = lends ∙ w.left.part.lends;
                  source = same_text ∙ w.left.part.source;
                  onward = on;
                  state = state;
                  paced = omega arith;
                };
          };
      folds = λ xs. w.folds (x ∷ xs);
      number = number;
      place = place;
    }

-- no item is begun: all is read
pub ends : {Y : Type 0} {out : Makes Y} {R : Read Y} {a m : Reader} {d : ℕ} {g : G} {turn : Made → TreeAt rule d g → Made} {i p : ℕ} → Item g → (w : Going out R a m d g turn i p) → among (firsts g) (front_of (stream_of m)) ≡ false → Reads out R a (Ok (i, p)) m
ends {out = out} {a = a} {m} {d} {g} {turn} {i} {p} h w stops =
    let s = w.left.part in
    let pace = s.paced in
    let y : Whole _ a m (w.rest (items d g [])) w.made.nodes 0 = record { part = record { left = s.left ∙ no_more_lem d g h w.rest (stream_of m) stops; lends = s.lends; source = s.source; onward = s.onward; state = s.state; paced = s.paced } } in
    pass y ((λ k. record { nodes = w.made.nodes; number = w.number k; place = w.place k }) ∙ sym (w.folds []))

-- an item is refused
pub fails : {Y : Type 0} {out : Makes Y} {R : Read Y} {a m b : Reader} {d : ℕ} {g : G} {turn : Made → TreeAt rule d g → Made} {i p : ℕ} {f : Refusal} {item : Makes (TreeAt rule d g)} → Item g → Going out R a m d g turn i p → among (firsts g) (front_of (stream_of m)) ≡ true → Reads item (parse_at rule d g (stream_of m)) m (Err f) b → Reads out R a (Err f) b
fails {out = out} {a = a} {m} {b} {d} {g} {f = f} h w begins r =
    record { lends = r.lends ∙ w.left.part.lends; goes = tt; reads = sym (ap (written out (state_of a)) (w.left.part.left ∙ more_err d g h w.rest (stream_of m) f begins (refused r))) }

-- ---- items that are nodes over what is there so far

-- more nodes, and another answer
abbrev pub extended : Made → Made → Made
extended m n = record { nodes = m.nodes ++ n.nodes; number = n.number; place = n.place }

pub turns : {Y : Type 0} {out : Makes Y} {R : Read Y} {a m b : Reader} {d : ℕ} {g : G} {turn : Made → TreeAt rule d g → Made} {i p j q : ℕ} {act : Makes (TreeAt rule d g)} → Item g → (w : Going out R a m d g turn i p)
    → among (firsts g) (front_of (stream_of m)) ≡ true → Reads act (parse_at rule d g (stream_of m)) m (Ok (j, q)) b
    → ((x : TreeAt rule d g) → extended w.made (act x (a.count + length w.made.nodes)) ≡ turn w.made x)
    → Going out R a b d g turn j q
turns {a = a} {m} {b} {j = j} {q} {act} h w begins r is =
    let g = got r in
    let x = g.tree in
    let s = w.left.part in
    let many = so_many s in
    let on = s.onward in
    let pace = s.paced in
    let on' = r.goes.onward in
    let pace' = r.goes.paced in
    let k = is x in
    going_on b j q h w x begins g.read r.lends r.goes.source (omega arith) (omega arith)
    (g.state ∙ ap (λ n. applied (act x n).nodes (stream_of b) (state_of m)) many ∙ ap (applied (act x _).nodes (stream_of b)) s.state ∙ applied_append w.made.nodes (act x _).nodes (stream_of b) (stream_of m) (state_of a) ∙ ap (λ (z : Made). applied z.nodes (stream_of b) (state_of a)) k)
    (g.number ∙ ap (λ n. (act x n).number) many ∙ ap (λ (z : Made). z.number) k)
    (g.place ∙ ap (λ n. (act x n).place) many ∙ ap (λ (z : Made). z.place) k)

-- ---- items that make a list

-- the last of the nodes so far gets its next
before_sets : (t : List Node) (i j : ℕ) (x : Node) (ns : List Node) → i < j → set (sets t j ns) i x ≡ sets (set t i x) j ns
before_sets t i j x [] h = refl
before_sets t i j x (n ∷ ns) h = before_sets (set t j n) i (suc j) x ns (omega arith) ∙ ap (λ u. sets u (suc j) ns) (set_comm t j i n x (omega arith))

get_d_sets : (t : List Node) (i j : ℕ) (ns : List Node) → i < j → get_or (sets t j ns) i zeros ≡ get_or t i zeros
get_d_sets t i j [] h = refl
get_d_sets t i j (n ∷ ns) h = get_d_sets (set t j n) i (suc j) ns (omega arith) ∙ get_or-set_other t j i n zeros (omega arith)

set_once : (t : List Node) (i n : ℕ) (x : Node) → linked_at i n (set t i x) ≡ set t i (with_next n x)
set_once t i n x = set-set t i x _ ∙ go (leb (length t) i) refl
  where
    go : (b : Bool) → leb (length t) i ≡ b → set t i (with_next n (get_or (set t i x) i zeros)) ≡ set t i (with_next n x)
    go true e = let h = leb-true (length t) i e in set_out t i _ h ∙ sym (set_out t i _ h)
    go false e = let h = leb-false (length t) i e in ap (λ y. set t i (with_next n y)) (get_or-set_same t i x zeros (omega arith))

linked_before : (t : List Node) (i j n : ℕ) (ns : List Node) → i < j → linked_at i n (sets t j ns) ≡ sets (linked_at i n t) j ns
linked_before t i j n ns h = ap (λ x. set (sets t j ns) i (with_next n x)) (get_d_sets t i j ns h) ∙ before_sets t i j _ ns h

-- the last of ms, which stand from k + 1 on
linked_sets : (t : List Node) (k n : ℕ) (ms ns : List Node) → 0 < length ms → linked_at (k + length ms) n (sets t (k + 1) (ms ++ ns)) ≡ sets t (k + 1) (next_last n ms ++ ns)
linked_sets t k n [] ns h = absurd (omega arith)
linked_sets t k n (x ∷ []) ns h = linked_before (set t (k + 1) x) (k + 1) (suc (k + 1)) n ns (omega arith) ∙ ap (λ u. sets u (suc (k + 1)) ns) (set_once t (k + 1) n x)
linked_sets t k n (x ∷ (y ∷ ms)) ns h =
    ap (λ i. linked_at i n (sets (set t (k + 1) x) (suc (k + 1)) ((y ∷ ms) ++ ns))) (let z : k + suc (suc (length ms)) ≡ k + 1 + suc (length ms) = omega arith in z)
    ∙ ap (λ j. linked_at (k + 1 + suc (length ms)) n (sets (set t (k + 1) x) j ((y ∷ ms) ++ ns))) (let z : suc (k + 1) ≡ k + 1 + 1 = omega arith in z)
    ∙ linked_sets (set t (k + 1) x) (k + 1) n (y ∷ ms) ns (omega arith)
    ∙ ap (λ j. sets (set t (k + 1) x) j (next_last n (y ∷ ms) ++ ns)) (let z : k + 1 + 1 ≡ suc (k + 1) = omega arith in z)

next_length : (n : ℕ) (ms : List Node) → length (next_last n ms) ≡ length ms
next_length n [] = refl
next_length n (x ∷ []) = refl
next_length n (x ∷ (y ∷ ms)) = ap suc (next_length n (y ∷ ms))

linked_state : (a b e : Reader) (k n : ℕ) (ms ns : List Node) → state_of b ≡ applied (ms ++ ns) (stream_of b) (state_of a) → Written b e (linked_at k n b.table.now) → k ≡ a.count + length ms → 0 < length ms → state_of e ≡ applied (next_last n ms ++ ns) (stream_of e) (state_of a)
unfolding state_of
linked_state a b e k n ms ns s w is some =
    let count = ap (λ (z : State). z.count) s in
    let table = ap (λ (z : State). z.table) s in
    let before = length-append ms ns in
    let after = length-append (next_last n ms) ns in
    let same = next_length n ms in
    let stays = w.count in
    let many : e.count ≡ a.count + length (next_last n ms ++ ns) = omega arith in
    ap (λ c. record { stream = stream_of e; count = c; table = e.table.now }) many
    ∙ ap (λ t. record { stream = stream_of e; count = a.count + length (next_last n ms ++ ns); table = t }) (w.table ∙ ap (linked_at k n) table ∙ ap (λ i. linked_at i n (sets a.table.now (a.count + 1) (ms ++ ns))) is ∙ linked_sets a.table.now a.count n ms ns some)

-- a list has nodes exactly where it has a first
pub record Listed (m : Made) : Type 0 where
  pub without : m.number ≡ 0 → m.nodes ≡ []
  pub with_some : 0 < m.number → 0 < length m.nodes

pub record Listing {Y : Type 0} (out : Makes Y) (R : Read Y) (a m : Reader) (d : ℕ) (g : G) (turn : Made → TreeAt rule d g → Made) (i : ℕ) : Type 0 where
  pub going : Going out R a m d g turn i 0
  pub listed : Listed going.made

first_some : (f n : ℕ) → 0 < n → 0 < first_or f n
first_some zero n h = h
first_some (suc f) n h = omega arith

linked_listed : (l m : Made) → 0 < m.number → 0 < length m.nodes → Listed (linked l m)
linked_listed l m some more =
    let h = first_some l.number m.number some in
    let k = length-append (next_last m.number l.nodes) m.nodes in
    record { without = λ e. absurd (omega arith); with_some = λ _. omega arith }

joined_at : {Y : Type 0} {out : Makes Y} {R : Read Y} {a m b : Reader} {d : ℕ} {g : G} {turn : Made → TreeAt rule d g → Made} {p : ℕ} {act : Makes (TreeAt rule d g)} (e : Reader) (first last next r : ℕ) → Item g → (w : Listing out R a m d g turn first)
    → among (firsts g) (front_of (stream_of m)) ≡ true → Reads act (parse_at rule d g (stream_of m)) m (Ok (next, p)) b
    → next ≡ b.count → m.count < b.count → last ≡ m.count → Chained b e first last next r
    → ((x : TreeAt rule d g) → linked w.going.made (act x (a.count + length w.going.made.nodes)) ≡ turn w.going.made x)
    → Listing out R a e d g turn r
unfolding state_of going_on
joined_at {out = out} {R} {a} {m} {b} {d} {g} {turn} {p} {act} e zero last next r h w begins s top more is c same =
    let q = got s in
    let x = q.tree in
    let made = w.going.made in
    let part = w.going.left.part in
    let many = so_many part in
    let on = part.onward in
    let pace = part.paced in
    let on' = s.goes.onward in
    let pace' = s.goes.paced in
    let k = same x in
    let none = w.listed.without (sym w.going.number) in
    let count = ap (λ (z : State). z.count) q.state in
    let number = q.number ∙ ap (λ n. (act x n).number) many in
    let sized = ap (λ n. length (act x n).nodes) many in
    let item = act x (a.count + length made.nodes) in
    let there : Going out R a b d g turn next 0 =
    going_on b next 0 h w.going x begins q.read s.lends s.goes.source (omega arith) (omega arith)
    (q.state ∙ ap (λ n. applied (act x n).nodes (stream_of b) (state_of m)) many ∙ ap (applied item.nodes (stream_of b)) part.state ∙ applied_append made.nodes item.nodes (stream_of b) (stream_of m) (state_of a) ∙ ap (λ ms. applied (ms ++ item.nodes) (stream_of b) (state_of a)) (none ∙ sym (ap (next_last item.number) none)) ∙ ap (λ (z : Made). applied z.nodes (stream_of b) (state_of a)) k)
    (number ∙ ap (λ f. first_or f item.number) w.going.number ∙ ap (λ (z : Made). z.number) k)
    (ap (λ (z : Made). z.place) k) in
    subst (λ (z : Reader × ℕ). Listing out R a z.0 d g turn z.1) (ap (λ z. (z, next)) (sym c.1) ∙ ap (λ n. (e, n)) (sym c.0))
    (record { going = there; listed = subst Listed k (linked_listed made item (omega arith) (omega arith)) })
joined_at {out = out} {R} {a} {m} {b} {d} {g} {turn} {p} {act} e (suc f) last next r h w begins s top more is c same =
    let q = got s in
    let x = q.tree in
    let made = w.going.made in
    let part = w.going.left.part in
    let many = so_many part in
    let on = part.onward in
    let pace = part.paced in
    let on' = s.goes.onward in
    let pace' = s.goes.paced in
    let k = same x in
    let item = act x (a.count + length made.nodes) in
    let count = ap (λ (z : State). z.count) q.state in
    let sized = ap (λ n. length (act x n).nodes) many in
    let number = q.number ∙ ap (λ n. (act x n).number) many in
    let first = w.going.number in
    let some = w.listed.with_some (omega arith) in
    let stays = c.1.stays in
    let here = stays.place in
    let kept = c.1.count in
    let stream = same_stream b e stays in
    let there = q.state ∙ ap (λ n. applied (act x n).nodes (stream_of b) (state_of m)) many ∙ ap (applied item.nodes (stream_of b)) part.state ∙ applied_append made.nodes item.nodes (stream_of b) (stream_of m) (state_of a) in
    record {
      going =
          going_on e r 0 h w.going x begins (q.read ∙ ap (λ z. Ok (x, z)) (sym stream)) (stays.lender ∙ s.lends) (ap (λ l. l.source) stays.lexer ∙ s.goes.source) (omega arith) (omega arith)
          (linked_state a b e last next made.nodes item.nodes there c.1 (is ∙ many) some ∙ ap (λ n. applied (next_last n made.nodes ++ item.nodes) (stream_of e) (state_of a)) number ∙ ap (λ (z : Made). applied z.nodes (stream_of e) (state_of a)) k)
          (c.0 ∙ ap (λ n. first_or n item.number) first ∙ ap (λ (z : Made). z.number) k)
          (ap (λ (z : Made). z.place) k);
      listed = subst Listed k (linked_listed made item (omega arith) (omega arith));
    }

-- an item is read and joined to the list
pub joins : {Y : Type 0} {out : Makes Y} {R : Read Y} {a m b : Reader} {d : ℕ} {g : G} {turn : Made → TreeAt rule d g → Made} {p : ℕ} {act : Makes (TreeAt rule d g)} {e : Reader} {first last next r : ℕ} → Item g → (w : Listing out R a m d g turn first)
    → among (firsts g) (front_of (stream_of m)) ≡ true → Reads act (parse_at rule d g (stream_of m)) m (Ok (next, p)) b
    → next ≡ b.count → m.count < b.count → last ≡ m.count → Chained b e first last next r
    → ((x : TreeAt rule d g) → linked w.going.made (act x (a.count + length w.going.made.nodes)) ≡ turn w.going.made x)
    → Listing out R a e d g turn r
joins {e = e} {first} {last} {next} {r} h w begins s top more is c same = joined_at e first last next r h w begins s top more is c same

-- before the first turn
unfoldable pub goes_from : {Y : Type 0} {out : Makes Y} {R : Read Y} {a m : Reader} {d : ℕ} {g : G} {turn : Made → TreeAt rule d g → Made} {f : TreeAt rule d (many g) → Y} {k i p : ℕ} (made : Made) → Left R a m d (many g) f made.nodes k → ((xs : List (TreeAt rule d g)) → out (f (items d g xs)) a.count ≡ folded turn made xs) → i ≡ made.number → p ≡ made.place → Going out R a m d g turn i p
goes_from {f = f} made s folds number place =
    let p = s.part in
    let pace = p.paced in
    record { made = made; rest = f; left = record { part = record { left = p.left; lends = p.lends; source = p.source; onward = p.onward; state = p.state; paced = omega arith } }; folds = folds; number = number; place = place }

-- a list before its first member, and one of its first
pub lists_from : {Y : Type 0} {out : Makes Y} {R : Read Y} {a m : Reader} {d : ℕ} {g : G} {turn : Made → TreeAt rule d g → Made} {f : TreeAt rule d (many g) → Y} {k : ℕ} → Left R a m d (many g) f [] k → ((xs : List (TreeAt rule d g)) → out (f (items d g xs)) a.count ≡ folded turn none xs) → Listing out R a m d g turn 0
unfolding goes_from
lists_from s folds = record { going = goes_from none s folds refl refl; listed = record { without = λ _. refl; with_some = λ h. absurd (omega arith) } }

unfoldable pub lists_on : {Y : Type 0} {out : Makes Y} {R : Read Y} {a m : Reader} {d : ℕ} {g : G} {turn : Made → TreeAt rule d g → Made} {f : TreeAt rule d (many g) → Y} {k i : ℕ} (made : Made) → Left R a m d (many g) f made.nodes k → ((xs : List (TreeAt rule d g)) → out (f (items d g xs)) a.count ≡ folded turn made xs) → i ≡ made.number → 0 ≡ made.place → 0 < i → a.count < m.count → Listing out R a m d g turn i
unfolding goes_from state_of
lists_on made s folds number place some more =
    let many = so_many s.part in
    record { going = goes_from made s folds number place; listed = record { without = λ e. absurd (omega arith); with_some = λ _. omega arith } }
