-- Several pieces that one call reads.
use Rattle.std.proofs.Common.{◌≡◌, ℕ, List, [], Ok, Err, sym, refl, ap, ◌∙◌}
use Rattle.table.specs.declared.nodes.Node.{Node}
use Rattle.grammar.specs.Grammars.{tok, joint, nil, seq, alt, many, ahead, nest, Tree, TreeAt}
use Rattle.grammar.specs.Parsers.{Read, bind, parse, parse_at}
use Rattle.grammar.specs.Streams.{Stream}
use Rattle.syntax.specs.Nodes.{Makes}
use Rattle.syntax.specs.Syntax.{G, rule}
use Rattle.reading.specs.declared.readers.Reader.{Reader}
use Rattle.reading.specs.States.{stream_of, Answer, Reads}
use Rattle.reading.proofs.Branches.{then_part}
use Rattle.reading.proofs.Sequences.{Left, unit, only, pass, pair, stop_last}

-- the pieces of g, one by one, and then k
abbrev pub then : G → G → G
then (tok c) k = seq (tok c) k
then (joint c cs) k = seq (joint c cs) k
then nil k = seq nil k
then (seq g h) k = seq g (then h k)
then (alt g h) k = seq (alt g h) k
then (many g) k = seq (many g) k
then (ahead c e g h) k = seq (ahead c e g h) k
then (nest c n) k = seq (nest c n) k

unfoldable pub left_of : (d : ℕ) (g h k : G) → TreeAt rule d (seq (seq g h) k) → TreeAt rule d g
unfolding Tree
left_of d g h k x = x.0.0

unfoldable pub right_of : (d : ℕ) (g h k : G) → TreeAt rule d (seq (seq g h) k) → TreeAt rule d (seq h k)
unfolding Tree
right_of d g h k x = (x.0.1, x.1)

unfoldable pub apiece : (d : ℕ) (g k : G) → TreeAt rule d (seq g k) → TreeAt rule d (then g k)
apiece d (tok c) k x = x
apiece d (joint c cs) k x = x
apiece d nil k x = x
apiece d (seq g h) k x = pair d g (then h k) (left_of d g h k x) (apiece d h k (right_of d g h k x))
apiece d (alt g h) k x = x
apiece d (many g) k x = x
apiece d (ahead c e g h) k x = x
apiece d (nest c n) k x = x

of_two : (d : ℕ) (g h k : G) (s : Stream) → ((t : Stream) → parse_at rule d (then h k) t ≡ bind (parse_at rule d (seq h k) t) (λ x u. Ok (apiece d h k x, u))) → parse_at rule d (seq g (then h k)) s ≡ bind (parse_at rule d (seq (seq g h) k) s) (λ x t. Ok (apiece d (seq g h) k x, t))
unfolding Tree parse pair apiece left_of right_of
of_two d g h k s e = by (parse_at rule d g s)
  where
    last : (x : TreeAt rule d g) (y : TreeAt rule d h) (r : Read (TreeAt rule d k)) → bind (bind (bind r (λ z t. Ok ((y, z), t))) (λ q t. Ok (apiece d h k q, t))) (λ q t. Ok ((x, q), t)) ≡ bind (bind r (λ z t. Ok (((x, y), z), t))) (λ q t. Ok (apiece d (seq g h) k q, t))
    last x y (Ok p) = refl
    last x y (Err f) = refl

    then_by : (x : TreeAt rule d g) (r : Read (TreeAt rule d h)) → bind (bind (bind r (λ y s₂. bind (parse_at rule d k s₂) (λ z t. Ok ((y, z), t)))) (λ q t. Ok (apiece d h k q, t))) (λ q t. Ok ((x, q), t)) ≡ bind (bind (bind r (λ y t. Ok ((x, y), t))) (λ y s₂. bind (parse_at rule d k s₂) (λ z t. Ok ((y, z), t)))) (λ q t. Ok (apiece d (seq g h) k q, t))
    then_by x (Ok p) = last x p.0 (parse_at rule d k p.1)
    then_by x (Err f) = refl

    by : (r : Read (TreeAt rule d g)) → bind r (λ x s₁. bind (parse_at rule d (then h k) s₁) (λ y t. Ok ((x, y), t))) ≡ bind (bind (bind r (λ x s₁. bind (parse_at rule d h s₁) (λ y t. Ok ((x, y), t)))) (λ y s₂. bind (parse_at rule d k s₂) (λ z t. Ok ((y, z), t)))) (λ q t. Ok (apiece d (seq g h) k q, t))
    by (Ok p) = ap (λ r. bind r (λ y t. Ok ((p.0, y), t))) (e p.1) ∙ then_by p.0 (parse_at rule d h p.1)
    by (Err f) = refl

grouping : (d : ℕ) (g k : G) (s : Stream) → parse_at rule d (then g k) s ≡ bind (parse_at rule d (seq g k) s) (λ x t. Ok (apiece d g k x, t))
unfolding apiece
grouping d (tok c) k s = unit (parse_at rule d (seq (tok c) k) s)
grouping d (joint c cs) k s = unit (parse_at rule d (seq (joint c cs) k) s)
grouping d nil k s = unit (parse_at rule d (seq nil k) s)
grouping d (seq g h) k s = of_two d g h k s (grouping d h k)
grouping d (alt g h) k s = unit (parse_at rule d (seq (alt g h) k) s)
grouping d (many g) k s = unit (parse_at rule d (seq (many g) k) s)
grouping d (ahead c e g h) k s = unit (parse_at rule d (seq (ahead c e g h) k) s)
grouping d (nest c n) k s = unit (parse_at rule d (seq (nest c n) k) s)

-- one call reads them
pub grouped : {Y : Type 0} {R : Read Y} {a m : Reader} {d : ℕ} {ms : List Node} {n : ℕ} (g k : G) {f : TreeAt rule d (then g k) → Y} → Left R a m d (then g k) f ms n → Left R a m d (seq g k) (λ x. f (apiece d g k x)) ms n
grouped {m = m} {d = d} g k s = then_part (apiece d g k) s (grouping d g k (stream_of m))

-- a call reads all that is left, and answers for it
pub passes_on : {Y : Type 0} {out : Makes Y} {R : Read Y} {a m b : Reader} {d : ℕ} {g : G} {act : Makes (TreeAt rule d g)} {f : TreeAt rule d g → Y} {k : ℕ} (r : Answer) → Left R a m d g f [] k → ((x : TreeAt rule d g) → out (f x) a.count ≡ act x a.count) → Reads act (parse_at rule d g (stream_of m)) m r b → Reads out R a r b
passes_on {a = a} {act = act} (Ok (i, p)) s same r =
    let u = only s r in
    pass u.whole ((λ k. record { nodes = (act u.tree a.count).nodes; number = u.number k; place = u.place k }) ∙ sym (same u.tree))
passes_on (Err e) s same r = stop_last s r
