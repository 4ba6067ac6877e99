-- A whole text taken apart, step by step.
use Rattle.std.specs.Prelude.{ℕ, zero, suc, ◌+◌, cond, List, [], ◌∷◌, length, Ok, Err}
use Rattle.text.specs.declared.places.Placed.{Placed}
use Rattle.text.specs.Steps.{step}
use Rattle.text.specs.Tokens.{Lexeme, is_end, Answer, Verdict}

-- the tokens of a text, and the place of its end or what is no token
pub record Lexing : Type 0 where
  pub tokens : List (Placed Lexeme)
  pub verdict : Verdict

abbrev pub only : Verdict → Lexing
only v = record { tokens = []; verdict = v }

abbrev pub before : Placed Lexeme → Lexing → Lexing
before t l = record { tokens = t ∷ l.tokens; verdict = l.verdict }

-- what a step answered, and then the rest
abbrev pub onward : Answer → Lexing → Lexing
onward (Ok t) rest = cond (is_end t.item) (only (Ok t.place)) (before t rest)
onward (Err f) rest = only (Err f)

-- from place i, by at most so many steps
unfoldable pub lexed_from : ℕ → List ℕ → ℕ → Lexing
lexed_from zero text i = only (Ok i)
lexed_from (suc n) text i = onward (step text i).answer (lexed_from n text (step text i).after)

-- Each token takes a byte at least, so a step for each byte and one for the end are enough.
unfoldable pub lexed : List ℕ → Lexing
lexed text = lexed_from (suc (length text)) text 0

-- so many tokens more
abbrev pub counting : ℕ → Lexing → Verdict
counting n l = elim l.verdict [ Ok p ↦ Ok (n + length l.tokens) | Err f ↦ Err f ]

-- how many tokens a text has, or what is no token in it
abbrev pub counted : Lexing → Verdict
counted l = elim l.verdict [ Ok p ↦ Ok (length l.tokens) | Err f ↦ Err f ]
