-- Where a token does not fit: what stands before it can go on, and not with that token.
use Rattle.std.specs.Prelude.{◌≡◌, ℕ, zero, suc, Bool, true, false, cond, not, ◌&&◌, ◌||◌, List, [], ◌∷◌, ◌++◌, map, Ok, Err, ◌==◌, ◌≢◌}
use Rattle.text.specs.declared.places.Placed.{Placed}
use Rattle.text.specs.declared.tokens.Token.TheVariants as token
use Rattle.text.specs.Spellings.{every_keyword, every_sign}
use Rattle.text.specs.Steps.{at}
use Rattle.text.specs.Tokens.{Lexeme, Verdict}
use Rattle.grammar.specs.Firsts.{nullable, firsts, apart}
use Rattle.grammar.specs.Grammars.{Gram, tok, joint, nil, seq, alt, many, ahead, nest, TreeAt, spelled}
use Rattle.grammar.specs.Parsers.{front_class}
use Rattle.grammar.specs.Streams.{Stream, place_in}
use Rattle.grammar.specs.TokenClasses.{class_of, is_class, among}

abbrev pub Tokens : Type 0
Tokens = List (Placed Lexeme)

-- a token is at hand or the text ends, and no fault is met
abbrev pub Alive : Tokens → Verdict → Type 0
Alive (t ∷ ts) v = Unit {0}
Alive [] (Ok p) = Unit {0}
Alive [] (Err f) = ⊥

-- other tokens begin with one of the same class, or there are none where the text ends
abbrev pub SameFront : Tokens → Verdict → Tokens → Type 0
SameFront (t ∷ ts) v (t' ∷ ts') = class_of t.item ≡ class_of t'.item
SameFront (t ∷ ts) v [] = ⊥
SameFront [] (Ok p) (t' ∷ ts') = ⊥
SameFront [] (Ok p) [] = Unit {0}
SameFront [] (Err f) ts' = ⊥

-- some tree begins with these tokens
pub record Continues {N : Type 0} (rule : N → Gram N) (d : ℕ) (g : Gram N) (before : Tokens) : Type 0 where
  pub more : Tokens
  pub tree : TreeAt rule d g
  pub spells : spelled rule d g tree ≡ before ++ more

-- no tree and what may follow it are these tokens, with the text's end after them
abbrev pub Blocked : {N : Type 0} (rule : N → Gram N) (d : ℕ) (g : Gram N) → List ℕ → Tokens → Type 0
Blocked rule d g fs ts =
    (x : TreeAt rule d g) (after : Tokens) (e : ℕ) → among fs (front_class after (Ok e)) ≡ true → spelled rule d g x ++ after ≢ ts

-- The tokens before place p can go on, and not with a token of the class at p, nor with the end where it is at p.
-- A fault is at p only where s begins with it.
pub record Viable {N : Type 0} (rule : N → Gram N) (d : ℕ) (g : Gram N) (fs : List ℕ) (s : Stream) (p : ℕ) : Type 0 where
  pub before : Tokens
  pub rest : Tokens
  pub tokens : s.tokens ≡ before ++ rest
  pub place : p ≡ place_in rest s.verdict
  pub alive : Alive s.tokens s.verdict → Alive rest s.verdict
  pub continues : Continues rule d g before
  pub blocked : (ts : Tokens) → SameFront rest s.verdict ts → Blocked rule d g fs (before ++ ts)

-- a token of each class
abbrev pub every_lexeme : List Lexeme
every_lexeme =
    token.Name (97 ∷ []) ∷ token.Number 0 ∷ token.Number 2147483648 ∷ (map (λ k. token.Word k) every_keyword ++ map (λ s. token.Sign s) every_sign)

abbrev pub first_of : ℕ → List Lexeme → Lexeme
first_of c [] = token.End
first_of c (l ∷ ls) = cond (class_of l == c) l (first_of c ls)

abbrev pub token_of : ℕ → Placed Lexeme
token_of c = at (first_of c every_lexeme) 0

abbrev pub token_in : List ℕ → Placed Lexeme
token_in [] = token_of 0
token_in (c ∷ cs) = token_of c

-- some tree is easily made, with rules further in only if they may be opened
abbrev pub easy : {N : Type 0} → Bool → Gram N → Bool
easy deep (tok c) = is_class c (token_of c)
easy deep (joint c cs) = is_class c (token_of c) && among cs (class_of (token_in cs).item)
easy deep nil = true
easy deep (seq a b) = easy deep a && easy deep b
easy deep (alt a b) = easy deep a || easy deep b
easy deep (many g) = true
easy deep (ahead c e g h) = easy deep h
easy deep (nest c n) = deep && is_class c (token_of c)

-- What is begun can go on: what comes next is easily made. Items spell something, and none begins at
-- the end (0) or a fault (99); and what two tokens tell apart begins alike.
abbrev pub goes_on : {N : Type 0} → Bool → Gram N → Bool
goes_on deep (tok c) = true
goes_on deep (joint c cs) = among cs (class_of (token_in cs).item)
goes_on deep nil = true
goes_on deep (seq a b) = easy deep b && (goes_on deep a && goes_on deep b)
goes_on deep (alt a b) = not (nullable a) && (goes_on deep a && goes_on deep b)
goes_on deep (many g) = not (nullable g) && (apart (firsts g) (0 ∷ 99 ∷ []) && goes_on deep g)
goes_on deep (ahead c e g h) = among (firsts h) c && (is_class e (token_of e) && (easy deep g && (goes_on deep g && goes_on deep h)))
goes_on deep (nest c n) = true

-- whether a construct may be opened
abbrev pub may_open : ℕ → Bool
may_open zero = false
may_open (suc d) = true

-- the rules can go on and are easily made, without opening more
pub record Ready {N : Type 0} (rule : N → Gram N) : Type 0 where
  pub goes : (n : N) → goes_on false (rule n) ≡ true
  pub made : (n : N) → easy false (rule n) ≡ true
