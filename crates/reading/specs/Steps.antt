-- Tokens, one by one.
use Rattle.std.specs.Prelude.{ℕ, zero, suc, cond, List, [], ◌∷◌, pos, Ok, Err, Result}
use Rattle.text.specs.declared.places.Placed.{Placed}
use Rattle.text.specs.Steps.{at}
use Rattle.text.specs.Tokens.{Lexeme, Verdict}
use Rattle.table.specs.declared.kinds.Kind.{Kind}
use Rattle.table.specs.declared.kinds.Kind.TheVariants as kind
use Rattle.table.specs.Records.{bare}
use Rattle.grammar.specs.declared.faults.GrammarFault.TheVariants.{Lexical, Misfit, TooDeep}
use Rattle.grammar.specs.Grammars.{seq, tok, Of, OneOf, Tree, TreeAt}
use Rattle.grammar.specs.Parsers.{Read, passed, front_class, misfit, take, take_joint, blame}
use Rattle.grammar.specs.Streams.{Stream, Refusal, from}
use Rattle.grammar.specs.TokenClasses.{class_of, is_class, among}
use Rattle.syntax.specs.Nodes.{Makes, name_length, alone, upon, variable, valued, magnitude, minus}
use Rattle.syntax.specs.Syntax.{rule}

abbrev pub advanced : Result (Unit {0}) Refusal → Stream → Result Stream Refusal
advanced (Ok u) s = Ok s
advanced (Err e) s = Err e

abbrev pub tail_in : List (Placed Lexeme) → Verdict → Result Stream Refusal
tail_in [] v = from [] v
tail_in (t ∷ ts) v = from ts v

-- what is to be read after the token ahead
abbrev pub tail_of : Stream → Result Stream Refusal
tail_of s = tail_in s.tokens s.verdict

abbrev pub front_of : Stream → ℕ
front_of s = front_class s.tokens s.verdict

abbrev pub misfit_of : Stream → Refusal
misfit_of s = misfit s.tokens s.verdict

-- a token of a class
abbrev pub taken : (c : ℕ) → Stream → Read (Of c)
taken c s = take c s.tokens s.verdict

-- a token that opens a construct, where d more may be open
abbrev pub opened_in : (d c : ℕ) → List (Placed Lexeme) → Verdict → Read (Of c)
opened_in zero c [] v = Err (misfit [] v)
opened_in zero c (t ∷ ts) v = cond (is_class c t) (Err (at TooDeep t.place)) (take c (t ∷ ts) v)
opened_in (suc d) c ts v = take c ts v

abbrev pub opened : (d c : ℕ) → Stream → Read (Of c)
opened d c s = opened_in d c s.tokens s.verdict

-- a token of one of several classes
abbrev pub any_in : List ℕ → List (Placed Lexeme) → Verdict → Read (Placed Lexeme)
any_in cs [] v = Err (misfit [] v)
any_in cs (t ∷ ts) v = cond (among cs (class_of t.item)) (passed t (from ts v)) (Err (misfit (t ∷ ts) v))

abbrev pub any_taken : List ℕ → Stream → Read (Placed Lexeme)
any_taken cs s = any_in cs s.tokens s.verdict

-- tokens stand for no nodes; their place, the length of a name, or their class is told
abbrev pub token_made : (c : ℕ) → Makes (Of c)
token_made c t n = record { nodes = []; number = 0; place = t.0.place }

abbrev pub name_made : Makes (Of 51)
name_made t n = record { nodes = []; number = name_length t.0.item; place = t.0.place }

abbrev pub mark_made : Makes (Placed Lexeme)
mark_made t n = record { nodes = []; number = class_of t.item; place = t.place }

-- ---- nodes of one or two tokens

abbrev pub variable_made : Makes (Of 51)
variable_made t n = variable t.0 n

abbrev pub bare_made : (c : ℕ) → Kind → Makes (Of c)
bare_made c k t n = alone (bare k t.0.place) n

-- a token, and a variable under a node at the token
unfoldable pub of_variable_made : (d c : ℕ) → Kind → Makes (TreeAt rule d (seq (tok c) (tok 51)))
unfolding Tree
of_variable_made d c k x n = upon k x.0.0.place (variable x.1.0 n) n

-- a number that stands alone, and one behind a `-`
abbrev pub positive_made : Makes (Of 52)
positive_made t n = alone (valued kind.Number t.0.place (pos (magnitude t.0.item))) n

abbrev pub negative_made : Makes (Of 41 × OneOf (52 ∷ (53 ∷ [])))
negative_made t n = alone (valued kind.Number t.0.0.place (minus (magnitude t.1.0.item))) n

abbrev pub jointly : Stream → Read (Of 41 × OneOf (52 ∷ (53 ∷ [])))
jointly s = take_joint 41 (52 ∷ (53 ∷ [])) s.tokens s.verdict

-- a refusal right behind a `-` at p
abbrev pub blamed : ℕ → Refusal → Refusal
blamed p f = elim f.item [ Lexical l ↦ blame p l f.place | Misfit ↦ f | TooDeep ↦ f ]
