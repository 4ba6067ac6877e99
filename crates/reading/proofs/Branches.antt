-- One of several alternatives, told by the token ahead.
use Rattle.std.proofs.Common.{◌≡◌, ℕ, Bool, true, false, cond, ◌||◌, eqb, List, [], ◌∷◌, ◌++◌, Ok, Err, sym, refl, ap, ◌∙◌, inl, inr}
use Rattle.std.proofs.lemmas.Bool.{ne_eqb, both_ways}
use Rattle.table.specs.declared.nodes.Node.{Node}
use Rattle.grammar.specs.Firsts.{firsts}
use Rattle.grammar.specs.Grammars.{tok, joint, nil, seq, alt, many, ahead, nest, Of, Tree, TreeAt}
use Rattle.grammar.specs.Parsers.{Read, bind, parse, parse_at}
use Rattle.grammar.specs.Streams.{Stream}
use Rattle.grammar.specs.TokenClasses.{among}
use Rattle.syntax.specs.Nodes.{Made, Makes}
use Rattle.syntax.specs.Syntax.{G, rule}
use Rattle.reading.specs.declared.readers.Reader.{Reader}
use Rattle.reading.specs.States.{State, stream_of, state_of, Answer, done, written, Reads, Builds}
use Rattle.reading.specs.Steps.{front_of, taken}
use Rattle.reading.proofs.Sequences.{Left, Whole, unit, pair, leaf_made}

-- ---- the same, read as a part of something

map_reads : {X Y : Type 0} (act : Makes X) (out : Makes Y) (f : X → Y) (st : State) → ((x : X) (n : ℕ) → out (f x) n ≡ act x n) → (q : Read X) → written act st q ≡ written out st (bind q (λ x s. Ok (f x, s)))
map_reads act out f st h (Ok p) = ap (λ (m : Made). done st m p.1) (sym (h p.0 st.count))
map_reads act out f st h (Err e) = refl

pub reads_as : {X Y : Type 0} {act : Makes X} {q : Read X} {a b : Reader} {r : Answer} (out : Makes Y) (R : Read Y) (f : X → Y) → R ≡ bind q (λ x s. Ok (f x, s)) → ((x : X) (n : ℕ) → out (f x) n ≡ act x n) → Reads act q a r b → Reads out R a r b
reads_as {act = act} {q} {a} out R f e h r =
    record { lends = r.lends; goes = r.goes; reads = r.reads ∙ map_reads act out f (state_of a) h q ∙ sym (ap (written out (state_of a)) e) }

pub builds_as : {X Y : Type 0} {act : Makes X} {q : Read X} {a b : Reader} {r : Answer} (out : Makes Y) (R : Read Y) (f : X → Y) → R ≡ bind q (λ x s. Ok (f x, s)) → ((x : X) (n : ℕ) → out (f x) n ≡ act x n) → Builds act q a r b → Builds out R a r b
builds_as out R f e h r = record { reads = reads_as out R f e h r.reads; last = r.last }

unfoldable pub build_leaf : (d c : ℕ) {act : Makes (Of c)} {a b : Reader} {r : Answer} → Builds act (taken c (stream_of a)) a r b → Builds (leaf_made d c act) (parse_at rule d (tok c) (stream_of a)) a r b
unfolding Tree parse leaf_made
build_leaf d c r = r

-- ---- alternatives

-- the one that a token of a class begins, if any but the last
abbrev pub branch_of : ℕ → G → G
branch_of cl (tok c) = tok c
branch_of cl (joint c cs) = joint c cs
branch_of cl nil = nil
branch_of cl (seq g h) = seq g h
branch_of cl (alt g h) = cond (among (firsts g) cl) g (branch_of cl h)
branch_of cl (many g) = many g
branch_of cl (ahead c e g h) = ahead c e g h
branch_of cl (nest c n) = nest c n

unfoldable pub left_tree : (d : ℕ) (g h : G) → TreeAt rule d g → TreeAt rule d (alt g h)
unfolding Tree
left_tree d g h x = inl x

unfoldable pub right_tree : (d : ℕ) (g h : G) → TreeAt rule d h → TreeAt rule d (alt g h)
unfolding Tree
right_tree d g h x = inr x

unfoldable pub inject_by : (d : ℕ) (b : Bool) (g h k : G) → (TreeAt rule d k → TreeAt rule d h) → TreeAt rule d (cond b g k) → TreeAt rule d (alt g h)
inject_by d true g h k f x = left_tree d g h x
inject_by d false g h k f x = right_tree d g h (f x)

unfoldable pub inject : (d cl : ℕ) (g : G) → TreeAt rule d (branch_of cl g) → TreeAt rule d g
inject d cl (tok c) x = x
inject d cl (joint c cs) x = x
inject d cl nil x = x
inject d cl (seq g h) x = x
inject d cl (alt g h) x = inject_by d (among (firsts g) cl) g h (branch_of cl h) (inject d cl h) x
inject d cl (many g) x = x
inject d cl (ahead c e g h) x = x
inject d cl (nest c n) x = x

twice : {X Y Z : Type 0} (f : X → Y) (g : Y → Z) (r : Read X) → bind (bind r (λ x s. Ok (f x, s))) (λ y s. Ok (g y, s)) ≡ bind r (λ x s. Ok (g (f x), s))
twice f g (Ok p) = refl
twice f g (Err e) = refl

pick : (d : ℕ) (b : Bool) (g h k : G) (s : Stream) (f : TreeAt rule d k → TreeAt rule d h) → parse_at rule d h s ≡ bind (parse_at rule d k s) (λ x t. Ok (f x, t)) → cond b (bind (parse_at rule d g s) (λ x t. Ok (left_tree d g h x, t))) (bind (parse_at rule d h s) (λ x t. Ok (right_tree d g h x, t))) ≡ bind (parse_at rule d (cond b g k) s) (λ x t. Ok (inject_by d b g h k f x, t))
unfolding inject_by
pick d true g h k s f e = refl
pick d false g h k s f e = ap (λ r. bind r (λ x t. Ok (right_tree d g h x, t))) e ∙ twice f (right_tree d g h) (parse_at rule d k s)

alternatives : (d : ℕ) (g h : G) (s : Stream) → parse_at rule d (alt g h) s ≡ cond (among (firsts g) (front_of s)) (bind (parse_at rule d g s) (λ x t. Ok (left_tree d g h x, t))) (bind (parse_at rule d h s) (λ x t. Ok (right_tree d g h x, t)))
unfolding Tree parse left_tree right_tree
alternatives d g h s = refl

branched_by : (d cl : ℕ) (g : G) (s : Stream) → front_of s ≡ cl → parse_at rule d g s ≡ bind (parse_at rule d (branch_of cl g) s) (λ x t. Ok (inject d cl g x, t))
unfolding inject
branched_by d cl (tok c) s e = unit (parse_at rule d (tok c) s)
branched_by d cl (joint c cs) s e = unit (parse_at rule d (joint c cs) s)
branched_by d cl nil s e = unit (parse_at rule d nil s)
branched_by d cl (seq g h) s e = unit (parse_at rule d (seq g h) s)
branched_by d cl (alt g h) s e =
    alternatives d g h s
    ∙ ap (λ k. cond (among (firsts g) k) (bind (parse_at rule d g s) (λ x t. Ok (left_tree d g h x, t))) (bind (parse_at rule d h s) (λ x t. Ok (right_tree d g h x, t)))) e
    ∙ pick d (among (firsts g) cl) g h (branch_of cl h) s (inject d cl h) (branched_by d cl h s e)
branched_by d cl (many g) s e = unit (parse_at rule d (many g) s)
branched_by d cl (ahead c k g h) s e = unit (parse_at rule d (ahead c k g h) s)
branched_by d cl (nest c n) s e = unit (parse_at rule d (nest c n) s)

pub as_branch : (d cl : ℕ) (g : G) (out : Makes (TreeAt rule d g)) {act : Makes (TreeAt rule d (branch_of cl g))} {a b : Reader} {r : Answer} → front_of (stream_of a) ≡ cl → ((x : TreeAt rule d (branch_of cl g)) (n : ℕ) → out (inject d cl g x) n ≡ act x n) → Builds act (parse_at rule d (branch_of cl g) (stream_of a)) a r b → Builds out (parse_at rule d g (stream_of a)) a r b
as_branch d cl g out {a = a} e h r = builds_as out (parse_at rule d g (stream_of a)) (inject d cl g) (branched_by d cl g (stream_of a) e) h r

-- ---- the last alternative

abbrev pub last_of : G → G
last_of (tok c) = tok c
last_of (joint c cs) = joint c cs
last_of nil = nil
last_of (seq g h) = seq g h
last_of (alt g h) = last_of h
last_of (many g) = many g
last_of (ahead c e g h) = ahead c e g h
last_of (nest c n) = nest c n

-- what begins those before it
abbrev pub earlier : G → List ℕ
earlier (tok c) = []
earlier (joint c cs) = []
earlier nil = []
earlier (seq g h) = []
earlier (alt g h) = firsts g ++ earlier h
earlier (many g) = []
earlier (ahead c e g h) = []
earlier (nest c n) = []

unfoldable pub inject_last : (d : ℕ) (g : G) → TreeAt rule d (last_of g) → TreeAt rule d g
inject_last d (tok c) x = x
inject_last d (joint c cs) x = x
inject_last d nil x = x
inject_last d (seq g h) x = x
inject_last d (alt g h) x = right_tree d g h (inject_last d h x)
inject_last d (many g) x = x
inject_last d (ahead c e g h) x = x
inject_last d (nest c n) x = x

among_by : (b : Bool) (cs ds : List ℕ) (c : ℕ) → (b || among (cs ++ ds) c) ≡ false → (among (cs ++ ds) c ≡ false → (among cs c ≡ false) × (among ds c ≡ false)) → ((b || among cs c) ≡ false) × (among ds c ≡ false)
among_by true cs ds c k h = absurd (both_ways true k refl)
among_by false cs ds c k h = h k

among_left : (cs ds : List ℕ) (c : ℕ) → among (cs ++ ds) c ≡ false → (among cs c ≡ false) × (among ds c ≡ false)
among_left [] ds c e = (refl, e)
among_left (x ∷ cs) ds c e = among_by (eqb c x) cs ds c e (λ k. among_left cs ds c k)

lasting : (d : ℕ) (g : G) (s : Stream) → among (earlier g) (front_of s) ≡ false → parse_at rule d g s ≡ bind (parse_at rule d (last_of g) s) (λ x t. Ok (inject_last d g x, t))
unfolding inject_last
lasting d (tok c) s e = unit (parse_at rule d (tok c) s)
lasting d (joint c cs) s e = unit (parse_at rule d (joint c cs) s)
lasting d nil s e = unit (parse_at rule d nil s)
lasting d (seq g h) s e = unit (parse_at rule d (seq g h) s)
lasting d (alt g h) s e =
    let k = among_left (firsts g) (earlier h) (front_of s) e in
    alternatives d g h s
    ∙ ap (λ b. cond b (bind (parse_at rule d g s) (λ x t. Ok (left_tree d g h x, t))) (bind (parse_at rule d h s) (λ x t. Ok (right_tree d g h x, t)))) k.0
    ∙ ap (λ r. bind r (λ x t. Ok (right_tree d g h x, t))) (lasting d h s k.1)
    ∙ twice (inject_last d h) (right_tree d g h) (parse_at rule d (last_of h) s)
lasting d (many g) s e = unit (parse_at rule d (many g) s)
lasting d (ahead c k g h) s e = unit (parse_at rule d (ahead c k g h) s)
lasting d (nest c n) s e = unit (parse_at rule d (nest c n) s)

pub as_last : (d : ℕ) (g : G) (out : Makes (TreeAt rule d g)) {act : Makes (TreeAt rule d (last_of g))} {a b : Reader} {r : Answer} → among (earlier g) (front_of (stream_of a)) ≡ false → ((x : TreeAt rule d (last_of g)) (n : ℕ) → out (inject_last d g x) n ≡ act x n) → Builds act (parse_at rule d (last_of g) (stream_of a)) a r b → Builds out (parse_at rule d g (stream_of a)) a r b
as_last d g out {a = a} e h r = builds_as out (parse_at rule d g (stream_of a)) (inject_last d g) (lasting d g (stream_of a) e) h r

-- a class that is none of several
abbrev pub Others : ℕ → List ℕ → Type 0
Others c [] = Unit {0}
Others c (x ∷ cs) = (c ≡ x → ⊥) × Others c cs

pub none_of : (c : ℕ) (cs : List ℕ) → Others c cs → among cs c ≡ false
none_of c [] h = refl
none_of c (x ∷ cs) h = ap (λ b. b || among cs c) (ne_eqb c x h.0) ∙ none_of c cs h.1

-- ---- alternatives further on

pub then_part : {Y : Type 0} {R : Read Y} {a m : Reader} {d : ℕ} {g h : G} {f : TreeAt rule d g → Y} {ms : List Node} {k : ℕ} (j : TreeAt rule d h → TreeAt rule d g) → Left R a m d g f ms k → parse_at rule d g (stream_of m) ≡ bind (parse_at rule d h (stream_of m)) (λ x t. Ok (j x, t)) → Left R a m d h (λ x. f (j x)) ms k
then_part {m = m} {d = d} {h = h} {f = f} j s e =
    let p = s.part in
    record { part = record { left = p.left ∙ ap (λ r. bind r (λ x t. Ok (f x, t))) e ∙ twice j f (parse_at rule d h (stream_of m)); lends = p.lends; source = p.source; onward = p.onward; state = p.state; paced = p.paced } }

pub on_branch : {Y : Type 0} {R : Read Y} {a m : Reader} {d : ℕ} {g : G} {f : TreeAt rule d g → Y} {ms : List Node} {k : ℕ} (cl : ℕ) → Left R a m d g f ms k → front_of (stream_of m) ≡ cl → Left R a m d (branch_of cl g) (λ x. f (inject d cl g x)) ms k
on_branch {m = m} {d = d} {g = g} cl s e = then_part (inject d cl g) s (branched_by d cl g (stream_of m) e)

pub on_last : {Y : Type 0} {R : Read Y} {a m : Reader} {d : ℕ} {g : G} {f : TreeAt rule d g → Y} {ms : List Node} {k : ℕ} → Left R a m d g f ms k → among (earlier g) (front_of (stream_of m)) ≡ false → Left R a m d (last_of g) (λ x. f (inject_last d g x)) ms k
on_last {m = m} {d = d} {g = g} s e = then_part (inject_last d g) s (lasting d g (stream_of m) e)

-- nothing is left
unfoldable pub nothing : (d : ℕ) → TreeAt rule d nil
unfolding Tree
nothing d = tt

pub on_nil : {Y : Type 0} {R : Read Y} {a m : Reader} {d : ℕ} {f : TreeAt rule d nil → Y} {ms : List Node} {k : ℕ} → Left R a m d nil f ms k → Whole R a m (f (nothing d)) ms k
unfolding Tree parse nothing
on_nil s = let p = s.part in record { part = record { left = p.left; lends = p.lends; source = p.source; onward = p.onward; state = p.state; paced = p.paced } }

pub past_nil : {Y : Type 0} {R : Read Y} {a m : Reader} {d : ℕ} {h : G} {f : TreeAt rule d (seq nil h) → Y} {ms : List Node} {k : ℕ} → Left R a m d (seq nil h) f ms k → Left R a m d h (λ x. f (pair d nil h (nothing d) x)) ms k
unfolding Tree parse nothing pair
past_nil {m = m} {d = d} {h = h} {f = f} s =
    let p = s.part in
    record { part = record { left = p.left ∙ twice (λ x. pair d nil h (nothing d) x) f (parse_at rule d h (stream_of m)); lends = p.lends; source = p.source; onward = p.onward; state = p.state; paced = p.paced } }

-- the first alternative is begun
first_of : (d : ℕ) (g h : G) (s : Stream) → among (firsts g) (front_of s) ≡ true → parse_at rule d (alt g h) s ≡ bind (parse_at rule d g s) (λ x t. Ok (left_tree d g h x, t))
first_of d g h s e = alternatives d g h s ∙ ap (λ b. cond b (bind (parse_at rule d g s) (λ x t. Ok (left_tree d g h x, t))) (bind (parse_at rule d h s) (λ x t. Ok (right_tree d g h x, t)))) e

pub on_first : {Y : Type 0} {R : Read Y} {a m : Reader} {d : ℕ} {g h : G} {f : TreeAt rule d (alt g h) → Y} {ms : List Node} {k : ℕ} → Left R a m d (alt g h) f ms k → among (firsts g) (front_of (stream_of m)) ≡ true → Left R a m d g (λ x. f (left_tree d g h x)) ms k
on_first {m = m} {d = d} {g = g} {h} s e = then_part (left_tree d g h) s (first_of d g h (stream_of m) e)
