-- Two tokens ahead tell what comes.
use Rattle.std.proofs.Common.{◌≡◌, ℕ, true, false, cond, Ok, Err, refl, ap, ◌∙◌, inl, inr}
use Rattle.grammar.specs.Grammars.{tok, seq, ahead, Of, Tree, TreeAt}
use Rattle.grammar.specs.Parsers.{Read, bind, take, two, parse, parse_at}
use Rattle.grammar.specs.Streams.{Stream}
use Rattle.syntax.specs.Nodes.{Makes}
use Rattle.syntax.specs.Syntax.{G, rule}
use Rattle.reading.specs.declared.readers.Reader.{Reader}
use Rattle.reading.specs.States.{stream_of, Answer, Builds}
use Rattle.reading.proofs.Branches.{builds_as}

-- both tokens are there
unfoldable pub with_two : (d c e : ℕ) (g h : G) → TreeAt rule d (seq (tok c) (seq (tok e) g)) → TreeAt rule d (ahead c e g h)
unfolding Tree
with_two d c e g h x = inl (x.0, x.1.0, x.1.1)

-- or not
unfoldable pub without_two : (d c e : ℕ) (g h : G) → TreeAt rule d h → TreeAt rule d (ahead c e g h)
unfolding Tree
without_two d c e g h x = inr x

there : (d c e : ℕ) (g h : G) (s : Stream) → two c e s.tokens ≡ true → parse_at rule d (ahead c e g h) s ≡ bind (parse_at rule d (seq (tok c) (seq (tok e) g)) s) (λ x t. Ok (with_two d c e g h x, t))
unfolding Tree parse with_two
there d c e g h s is =
    ap (λ b. cond b (bind (take c s.tokens s.verdict) (λ x s₁. bind (take e s₁.tokens s₁.verdict) (λ y s₂. bind (parse_at rule d g s₂) (λ z s₃. Ok (inl (x, y, z), s₃))))) (bind (parse_at rule d h s) (λ x s₁. Ok (inr x, s₁)))) is
    ∙ first (take c s.tokens s.verdict)
  where
    third : (x : Of c) (y : Of e) (r : Read (TreeAt rule d g)) → bind r (λ z s₃. Ok (inl (x, y, z), s₃)) ≡ bind (bind (bind r (λ z s₃. Ok ((y, z), s₃))) (λ q s₂. Ok ((x, q), s₂))) (λ x t. Ok (with_two d c e g h x, t))
    third x y (Ok p) = refl
    third x y (Err f) = refl

    second : (x : Of c) (r : Read (Of e)) → bind r (λ y s₂. bind (parse_at rule d g s₂) (λ z s₃. Ok (inl (x, y, z), s₃))) ≡ bind (bind (bind r (λ y s₂. bind (parse_at rule d g s₂) (λ z s₃. Ok ((y, z), s₃)))) (λ q s₂. Ok ((x, q), s₂))) (λ x t. Ok (with_two d c e g h x, t))
    second x (Ok p) = third x p.0 (parse_at rule d g p.1)
    second x (Err f) = refl

    first : (r : Read (Of c)) → bind r (λ x s₁. bind (take e s₁.tokens s₁.verdict) (λ y s₂. bind (parse_at rule d g s₂) (λ z s₃. Ok (inl (x, y, z), s₃)))) ≡ bind (bind r (λ x s₁. bind (bind (take e s₁.tokens s₁.verdict) (λ y s₂. bind (parse_at rule d g s₂) (λ z s₃. Ok ((y, z), s₃)))) (λ q s₂. Ok ((x, q), s₂)))) (λ x t. Ok (with_two d c e g h x, t))
    first (Ok p) = second p.0 (take e p.1.tokens p.1.verdict)
    first (Err f) = refl

missing : (d c e : ℕ) (g h : G) (s : Stream) → two c e s.tokens ≡ false → parse_at rule d (ahead c e g h) s ≡ bind (parse_at rule d h s) (λ x t. Ok (without_two d c e g h x, t))
unfolding Tree parse without_two
missing d c e g h s is =
    ap (λ b. cond b (bind (take c s.tokens s.verdict) (λ x s₁. bind (take e s₁.tokens s₁.verdict) (λ y s₂. bind (parse_at rule d g s₂) (λ z s₃. Ok (inl (x, y, z), s₃))))) (bind (parse_at rule d h s) (λ x s₁. Ok (inr x, s₁)))) is

pub as_two : (d c e : ℕ) (g h : G) (out : Makes (TreeAt rule d (ahead c e g h))) {act : Makes (TreeAt rule d (seq (tok c) (seq (tok e) g)))} {a b : Reader} {r : Answer} → two c e (stream_of a).tokens ≡ true → ((x : TreeAt rule d (seq (tok c) (seq (tok e) g))) (n : ℕ) → out (with_two d c e g h x) n ≡ act x n) → Builds act (parse_at rule d (seq (tok c) (seq (tok e) g)) (stream_of a)) a r b → Builds out (parse_at rule d (ahead c e g h) (stream_of a)) a r b
as_two d c e g h out {a = a} is same r = builds_as out _ (with_two d c e g h) (there d c e g h (stream_of a) is) same r

pub as_else : (d c e : ℕ) (g h : G) (out : Makes (TreeAt rule d (ahead c e g h))) {act : Makes (TreeAt rule d h)} {a b : Reader} {r : Answer} → two c e (stream_of a).tokens ≡ false → ((x : TreeAt rule d h) (n : ℕ) → out (without_two d c e g h x) n ≡ act x n) → Builds act (parse_at rule d h (stream_of a)) a r b → Builds out (parse_at rule d (ahead c e g h) (stream_of a)) a r b
as_else d c e g h out {a = a} is same r = builds_as out _ (without_two d c e g h) (missing d c e g h (stream_of a) is) same r
