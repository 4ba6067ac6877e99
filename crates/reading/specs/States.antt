-- A reader as what is still to be read and what is written.
use Rattle.std.specs.Prelude.{◌≡◌, ℕ, zero, suc, ◌+◌, ◌<◌, ◌≤◌, false, cond, List, [], ◌∷◌, length, IfOk, Ok, Err, Result, slice_index_or, slice_set}
use Rattle.std.proofs.lemmas.List.Edits.{sets}
use Rattle.table.specs.declared.nodes.Node.{Node}
use Rattle.table.specs.Records.{zero as zeros}
use Rattle.text.specs.Lexings.{Lexing, lexed_from}
use Rattle.text.specs.Steps.{at}
use Rattle.text.specs.Tokens.{Lexeme, lexeme, is_end}
use Rattle.grammar.specs.Parsers.{Read}
use Rattle.grammar.specs.Streams.{Stream, Refusal}
use Rattle.grammar.specs.TokenClasses.{class_number, class_of}
use Rattle.syntax.specs.Nodes.{Made, Makes, with_next}
use Rattle.reading.specs.declared.readers.Reader.{Reader}
use Rattle.reading.specs.declared.readers.Numbered.{Numbered}
use Rattle.reading.specs.declared.readers.Name.{Name}
use Rattle.reading.specs.declared.readers.Mark.{Mark}

pub record State : Type 0 where
  pub stream : Stream
  pub count : ℕ
  pub table : List Node

-- the token ahead and those after it
abbrev pub stream_by : Lexeme → ℕ → Lexing → Stream
stream_by t p l =
    cond (is_end t) (record { tokens = []; verdict = Ok p }) (record { tokens = at t p ∷ l.tokens; verdict = l.verdict })

abbrev pub stream_of : Reader → Stream
stream_of r =
    stream_by (lexeme r.token) r.place (lexed_from (suc (length r.lexer.source.now)) r.lexer.source.now r.lexer.place)

-- the token ahead is of a class, and not the end
abbrev pub IsAhead : ℕ → Reader → Type 0
IsAhead c r = (is_end (lexeme r.token) ≡ false) × (class_of (lexeme r.token) ≡ c)

unfoldable pub state_of : Reader → State
state_of r = record { stream = stream_of r; count = r.count; table = r.table.now }

-- the memory that is lent stays
abbrev pub Lends : Reader → Reader → Type 0
Lends a b = b.table.ghost_name ≡ a.table.ghost_name

-- a reads on to b in the same text, and writes no more nodes than it passes bytes
pub record Goes (a b : Reader) : Type 0 where
  pub source : b.lexer.source ≡ a.lexer.source
  pub onward : a.place ≤ b.place
  pub paced : b.count + a.place ≤ a.count + b.place

-- nothing is written
abbrev pub Keeps : Reader → Reader → Type 0
Keeps a b = (b.table.now ≡ a.table.now) × (b.count ≡ a.count)

-- b differs from a in nothing but what is written
pub record Stays (a b : Reader) : Type 0 where
  pub lexer : b.lexer ≡ a.lexer
  pub token : b.token ≡ a.token
  pub place : b.place ≡ a.place
  pub lender : b.table.ghost_name ≡ a.table.ghost_name

-- one node more than there were, with its number and its place
pub record Recorded (a b : Reader) (node : Node) (r : ℕ × ℕ) : Type 0 where
  pub stays : Stays a b
  pub numbered : r.0 ≡ a.count + 1
  pub placed : r.1 ≡ node.place
  pub count : b.count ≡ a.count + 1
  pub table : b.table.now ≡ slice_set a.table.now (a.count + 1) node

-- only the table is another
pub record Written (a b : Reader) (t : List Node) : Type 0 where
  pub stays : Stays a b
  pub count : b.count ≡ a.count
  pub table : b.table.now ≡ t

-- one node has another as its next
abbrev pub linked_at : ℕ → ℕ → List Node → List Node
linked_at last next t = slice_set t last (with_next next (slice_index_or t last zeros))

-- a list of which the first is known, if it has one, goes on
abbrev pub Chained : Reader → Reader → ℕ → ℕ → ℕ → ℕ → Type 0
Chained a b zero last next r = (r ≡ next) × (b ≡ a)
Chained a b (suc first) last next r = (r ≡ suc first) × Written a b (linked_at last next a.table.now)

-- ---- what is written

abbrev pub applied : List Node → Stream → State → State
applied ns s st = record { stream = s; count = st.count + length ns; table = sets st.table (st.count + 1) ns }

-- ---- what a function of the reader answers

-- a number and a place
abbrev pub Answer : Type 0
Answer = Result (ℕ × ℕ) Refusal

abbrev pub shown : {T : Type 0} → (T → ℕ × ℕ) → Result T Refusal → Answer
shown view (Ok x) = Ok (view x)
shown view (Err e) = Err e

abbrev pub of_node : Numbered → ℕ × ℕ
of_node x = (x.number, x.place)

abbrev pub of_name : Name → ℕ × ℕ
of_name x = (x.length, x.place)

abbrev pub of_mark : Mark → ℕ × ℕ
of_mark x = (class_number x.class, x.place)

abbrev pub of_place : ℕ → ℕ × ℕ
of_place p = (0, p)

abbrev pub of_list : ℕ → ℕ × ℕ
of_list n = (n, 0)

-- with the state after it
abbrev pub Done : Type 0
Done = Result (ℕ × ℕ × State) Refusal

abbrev pub outcome : Answer → State → Done
outcome (Ok p) st = Ok (p.0, p.1, st)
outcome (Err e) st = Err e

abbrev pub done : State → Made → Stream → Done
done st m s = Ok (m.number, m.place, applied m.nodes s st)

-- a tree is read, and its nodes are written
abbrev pub written : {X : Type 0} → Makes X → State → Read X → Done
written act st (Ok p) = done st (act p.0 st.count) p.1
written act st (Err e) = Err e

-- a function of the reader reads what a definition reads, and writes its nodes
pub record Reads {X : Type 0} (act : Makes X) (R : Read X) (a : Reader) (r : Answer) (b : Reader) : Type 0 where
  pub lends : Lends a b
  pub goes : IfOk r (λ _. Goes a b)
  pub reads : outcome r (state_of b) ≡ written act (state_of a) R

-- one that reads a token and writes nothing, whether it takes the token or refuses it
pub record Takes {X : Type 0} (act : Makes X) (R : Read X) (a : Reader) (r : Answer) (b : Reader) : Type 0 where
  pub reads : Reads act R a r b
  pub keeps : Keeps a b
  pub steps : IfOk r (λ _. (b.count ≡ a.count) × (a.place < b.place))

-- one whose answer is the last node that it writes
pub record Builds {X : Type 0} (act : Makes X) (R : Read X) (a : Reader) (r : Answer) (b : Reader) : Type 0 where
  pub reads : Reads act R a r b
  pub last : IfOk r (λ x. (x.0 ≡ b.count) × (a.count < b.count))
