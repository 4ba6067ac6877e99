-- One step of taking a text apart.
use Rattle.std.specs.Prelude.{ℕ, ◌+◌, cond, List, [], ◌∷◌, take, drop, Some, None, Ok, Err, Option, Result, ◌==◌}
use Rattle.std.specs.Borrow.{Bor}
use Rattle.text.specs.declared.places.Placed.{Placed}
use Rattle.text.specs.declared.tokens.LexFault.{LexFault}
use Rattle.text.specs.declared.tokens.LexFault.TheVariants.{CommentOpen}
use Rattle.text.specs.declared.tokens.Token.{Token}
use Rattle.text.specs.declared.tokens.Token.TheVariants.{End}
use Rattle.text.specs.Tokens.{Lexeme, lexeme, Answer}
use Rattle.text.specs.Lexemes.{blank, meaning, width}

-- From place i on: where the next token stands, past blanks and whole comments, or else where a comment is left open.
-- The first argument is the place of the comment that i lies in, if any.
abbrev pub gap : Option ℕ → List ℕ → ℕ → Result ℕ ℕ
gap None [] i = Ok i
gap None (b ∷ bs) i = cond (blank b) (gap None bs (i + 1)) (cond (b == 123) (gap (Some i) bs (i + 1)) (Ok i))
gap (Some start) [] i = Err start
gap (Some start) (b ∷ bs) i = cond (b == 125) (gap None bs (i + 1)) (gap (Some start) bs (i + 1))

abbrev pub at : {T : Type 0} → T → ℕ → Placed T
at x p = record { item = x; place = p }

-- a token or a fault, and the place from which to go on
pub record Step : Type 0 where
  pub answer : Answer
  pub after : ℕ

-- a token of n bytes at p; a fault stays where it is
abbrev pub took : ℕ → ℕ → Result Lexeme LexFault → Step
took p n (Ok t) = record { answer = Ok (at t p); after = p + n }
took p n (Err f) = record { answer = Err (at f p); after = p }

-- the token at the front of what is left from p on, or the end
abbrev pub step_at : ℕ → List ℕ → Step
step_at p [] = record { answer = Ok (at End p); after = p }
step_at p (b ∷ bs) = took p (width (b ∷ bs)) (meaning (take (width (b ∷ bs)) (b ∷ bs)))

abbrev pub step_past : List ℕ → Result ℕ ℕ → Step
step_past text (Ok p) = step_at p (drop p text)
step_past text (Err p) = record { answer = Err (at CommentOpen p); after = p }

-- the step from place i of a text
unfoldable pub step : List ℕ → ℕ → Step
step text i = step_past text (gap None (drop i text) i)

-- with the number of bytes that it takes
abbrev pub sized : ℕ → Result Lexeme LexFault → Result (Lexeme × ℕ) LexFault
sized n (Ok t) = Ok (t, n)
sized n (Err f) = Err f

-- the token at the front of a text, with the number of its bytes
unfoldable pub front : List ℕ → Result (Lexeme × ℕ) LexFault
front text = sized (width text) (meaning (take (width text) text))

abbrev pub meant : Result (Token (Bor (List ℕ))) LexFault → Result Lexeme LexFault
meant (Ok t) = Ok (lexeme t)
meant (Err f) = Err f

abbrev pub taken : Result (Token (Bor (List ℕ)) × ℕ) LexFault → Result (Lexeme × ℕ) LexFault
taken (Ok t) = Ok (lexeme t.0, t.1)
taken (Err f) = Err f

-- an answer, its name by the bytes of the part that it is
abbrev pub answered : Result (Placed (Token (Bor (List ℕ)))) (Placed LexFault) → Answer
answered (Ok t) = Ok (at (lexeme t.item) t.place)
answered (Err f) = Err f
