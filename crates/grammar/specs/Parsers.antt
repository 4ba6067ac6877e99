-- The reader of a grammar: it sees one token ahead.
use Rattle.std.specs.Prelude.{◌≡◌, ℕ, zero, suc, Bool, true, false, cond, ◌&&◌, List, [], ◌∷◌, length, Ok, Err, Result, ◌==◌, refl}
use Rattle.std.proofs.Common.{inl, inr}
use Rattle.text.specs.declared.places.Placed.{Placed}
use Rattle.text.specs.declared.tokens.LexFault.{LexFault}
use Rattle.text.specs.declared.tokens.LexFault.TheVariants.{NoToken, CommentOpen, NumberTooLarge, NameTooLong}
use Rattle.text.specs.Steps.{at}
use Rattle.text.specs.Tokens.{Lexeme, Verdict}
use Rattle.grammar.specs.declared.faults.GrammarFault.TheVariants.{Lexical, Misfit, TooDeep}
use Rattle.grammar.specs.Firsts.{firsts}
use Rattle.grammar.specs.Grammars.{Gram, tok, joint, nil, seq, alt, many, ahead, nest, Of, OneOf, Tree, Inner, TreeAt}
use Rattle.grammar.specs.Streams.{Stream, Refusal, from, place_in}
use Rattle.grammar.specs.TokenClasses.{class_of, is_class, among}

abbrev pub Read : Type 0 → Type 0
Read X = Result (X × Stream) Refusal

abbrev pub bind : {X Y : Type 0} → Read X → (X → Stream → Read Y) → Read Y
bind (Ok p) k = k p.0 p.1
bind (Err e) k = Err e

abbrev pub passed : {X : Type 0} → X → Result Stream Refusal → Read X
passed x (Ok s) = Ok (x, s)
passed x (Err e) = Err e

-- the class of the token at hand: 0 at the end, 99 at a fault
abbrev pub front_class : List (Placed Lexeme) → Verdict → ℕ
front_class (t ∷ ts) v = class_of t.item
front_class [] (Ok p) = 0
front_class [] (Err f) = 99

-- The token at hand does not fit; a number that needs a `-` before it is too large instead.
abbrev pub misfit : List (Placed Lexeme) → Verdict → Refusal
misfit ts v = at (cond (front_class ts v == 53) (Lexical NumberTooLarge) Misfit) (place_in ts v)

abbrev pub take_by : (c : ℕ) (t : Placed Lexeme) (ts : List (Placed Lexeme)) (v : Verdict) (b : Bool) → is_class c t ≡ b → Read (Of c)
take_by c t ts v true e = passed (t, e) (from ts v)
take_by c t ts v false e = Err (misfit (t ∷ ts) v)

abbrev pub take : (c : ℕ) → List (Placed Lexeme) → Verdict → Read (Of c)
take c [] v = Err (misfit [] v)
take c (t ∷ ts) v = take_by c t ts v (is_class c t) refl

-- a fault right after the first of two tokens that are read as one: a number too large is placed at the first
abbrev pub blame : ℕ → LexFault → ℕ → Refusal
blame p NoToken q = at (Lexical NoToken) q
blame p CommentOpen q = at (Lexical CommentOpen) q
blame p NumberTooLarge q = at (Lexical NumberTooLarge) p
blame p NameTooLong q = at (Lexical NameTooLong) q

abbrev pub second_by : (c : ℕ) (cs : List ℕ) → Of c → (t : Placed Lexeme) (ts : List (Placed Lexeme)) (v : Verdict) (b : Bool) → among cs (class_of t.item) ≡ b → Read (Of c × OneOf cs)
second_by c cs x t ts v true e = passed (x, (t, e)) (from ts v)
second_by c cs x t ts v false e = Err (misfit (t ∷ ts) v)

abbrev pub second : (c : ℕ) (cs : List ℕ) → Of c → List (Placed Lexeme) → Verdict → Read (Of c × OneOf cs)
second c cs x (t ∷ ts) v = second_by c cs x t ts v (among cs (class_of t.item)) refl
second c cs x [] (Ok p) = Err (misfit [] (Ok p))
second c cs x [] (Err f) = Err (blame x.0.place f.item f.place)

abbrev pub take_joint_by : (c : ℕ) (cs : List ℕ) (t : Placed Lexeme) (ts : List (Placed Lexeme)) (v : Verdict) (b : Bool) → is_class c t ≡ b → Read (Of c × OneOf cs)
take_joint_by c cs t ts v true e = second c cs (t, e) ts v
take_joint_by c cs t ts v false e = Err (misfit (t ∷ ts) v)

abbrev pub take_joint : (c : ℕ) (cs : List ℕ) → List (Placed Lexeme) → Verdict → Read (Of c × OneOf cs)
take_joint c cs [] v = Err (misfit [] v)
take_joint c cs (t ∷ ts) v = take_joint_by c cs t ts v (is_class c t) refl

-- the next two tokens are of these classes
abbrev pub two : ℕ → ℕ → List (Placed Lexeme) → Bool
two c e [] = false
two c e (t ∷ []) = false
two c e (t ∷ (u ∷ ts)) = is_class c t && is_class e u

-- items for as long as one may begin; there are no more than tokens
unfoldable pub loop : {X : Type 0} → (Stream → Bool) → (Stream → Read X) → ℕ → Stream → Read (List X)
loop more item zero s = Ok ([], s)
loop more item (suc k) s =
    cond (more s) (bind (item s) (λ x s₁. bind (loop more item k s₁) (λ xs s₂. Ok (x ∷ xs, s₂)))) (Ok ([], s))

-- what the token at hand opens, unless no more may be open
abbrev pub open_by : {X : Type 0} → ℕ → (c : ℕ) → (Stream → Read X) → (t : Placed Lexeme) (ts : List (Placed Lexeme)) (v : Verdict) (b : Bool) → is_class c t ≡ b → Read (Of c × X)
open_by zero c inner t ts v true e = Err (at TooDeep t.place)
open_by (suc d) c inner t ts v true e = bind (passed (t, e) (from ts v)) (λ o s. bind (inner s) (λ x s₁. Ok ((o, x), s₁)))
open_by zero c inner t ts v false e = Err (misfit (t ∷ ts) v)
open_by (suc d) c inner t ts v false e = Err (misfit (t ∷ ts) v)

abbrev pub opening : {X : Type 0} → ℕ → (c : ℕ) → (Stream → Read X) → List (Placed Lexeme) → Verdict → Read (Of c × X)
opening d c inner [] v = Err (misfit [] v)
opening d c inner (t ∷ ts) v = open_by d c inner t ts v (is_class c t) refl

abbrev pub begins : {N : Type 0} → Gram N → Stream → Bool
begins g s = among (firsts g) (front_class s.tokens s.verdict)

-- the reader of a grammar, over those of the rules one level further in
unfoldable pub parse : {N : Type 0} {In : N → Type 0} → ℕ → ((n : N) → Stream → Read (In n)) → (g : Gram N) → Stream → Read (Tree In g)
unfolding Tree
parse d inner (tok c) s = take c s.tokens s.verdict
parse d inner (joint c cs) s = take_joint c cs s.tokens s.verdict
parse d inner nil s = Ok (tt, s)
parse d inner (seq a b) s = bind (parse d inner a s) (λ x s₁. bind (parse d inner b s₁) (λ y s₂. Ok ((x, y), s₂)))
parse d inner (alt a b) s =
    cond (begins a s) (bind (parse d inner a s) (λ x s₁. Ok (inl x, s₁))) (bind (parse d inner b s) (λ x s₁. Ok (inr x, s₁)))
parse d inner (many g) s = loop (begins g) (parse d inner g) (length s.tokens) s
parse d inner (ahead c e g h) s =
    cond (two c e s.tokens)
    (bind (take c s.tokens s.verdict) (λ x s₁. bind (take e s₁.tokens s₁.verdict) (λ y s₂. bind (parse d inner g s₂) (λ z s₃. Ok (inl (x, y, z), s₃)))))
    (bind (parse d inner h s) (λ x s₁. Ok (inr x, s₁)))
parse d inner (nest c n) s = opening d c (inner n) s.tokens s.verdict

-- the rules where d constructs may still be opened, this one included
unfoldable pub parse_in : {N : Type 0} (rule : N → Gram N) (d : ℕ) (n : N) → Stream → Read (Inner rule d n)
unfolding Inner
parse_in rule zero n s = Err (at TooDeep (place_in s.tokens s.verdict))
parse_in rule (suc d) n s = parse d (parse_in rule d) (rule n) s

abbrev pub parse_at : {N : Type 0} (rule : N → Gram N) (d : ℕ) (g : Gram N) → Stream → Read (TreeAt rule d g)
parse_at rule d g = parse d (parse_in rule d) g
