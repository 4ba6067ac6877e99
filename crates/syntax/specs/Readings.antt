-- What a text is read as.
use Rattle.std.specs.Prelude.{ℕ, Bool, true, false, cond, List, [], ◌∷◌, Ok, Err, Result}
use Rattle.table.specs.declared.nodes.Node.{Node}
use Rattle.text.specs.declared.places.Placed.{Placed}
use Rattle.text.specs.Lexings.{lexed}
use Rattle.text.specs.Tokens.{Lexeme, Verdict}
use Rattle.grammar.specs.Parsers.{Read, misfit, parse_at}
use Rattle.grammar.specs.Streams.{Stream, Refusal, from}
use Rattle.syntax.specs.Nodes.{Makes, inner_made, program_made, expression_made}
use Rattle.syntax.specs.Syntax.{rule, program, expression}

abbrev pub ended : List (Placed Lexeme) → Verdict → Bool
ended (t ∷ ts) v = false
ended [] (Ok p) = true
ended [] (Err f) = false

-- a text of which all belongs to a grammar
abbrev pub judged : {X : Type 0} → Read X → Result X Refusal
judged (Ok p) = cond (ended p.1.tokens p.1.verdict) (Ok p.0) (Err (misfit p.1.tokens p.1.verdict))
judged (Err e) = Err e

abbrev pub wholly : {X : Type 0} → (Stream → Read X) → Stream → Result X Refusal
wholly parse s = judged (parse s)

-- where the text does not begin with a fault
abbrev pub begun : {X : Type 0} → (Stream → Result X Refusal) → Result Stream Refusal → Result X Refusal
begun k (Ok s) = k s
begun k (Err e) = Err e

abbrev pub read_whole : {X : Type 0} → (Stream → Read X) → List ℕ → Result X Refusal
read_whole parse text = begun (wholly parse) (from (lexed text).tokens (lexed text).verdict)

abbrev pub nodes_in : {X : Type 0} → Makes X → Result X Refusal → Result (List Node) Refusal
nodes_in act r = elim r [ Ok x ↦ Ok (act x 0).nodes | Err e ↦ Err e ]

-- the nodes of a script, and those of an expression
unfoldable pub read_script : List ℕ → Result (List Node) Refusal
read_script text = nodes_in (program_made (inner_made 32)) (read_whole (parse_at rule 32 program) text)

unfoldable pub read_expression : List ℕ → Result (List Node) Refusal
read_expression text = nodes_in (expression_made (inner_made 32)) (read_whole (parse_at rule 32 expression) text)
