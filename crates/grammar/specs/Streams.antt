-- The tokens that are still to be read.
use Rattle.std.specs.Prelude.{ℕ, List, [], ◌∷◌, Ok, Err, Result}
use Rattle.text.specs.declared.places.Placed.{Placed}
use Rattle.text.specs.Steps.{at}
use Rattle.text.specs.Tokens.{Lexeme, Verdict}
use Rattle.grammar.specs.declared.faults.GrammarFault.{GrammarFault}
use Rattle.grammar.specs.declared.faults.GrammarFault.TheVariants.{Lexical}

-- the tokens to come, and the place of the end or a fault after them
pub record Stream : Type 0 where
  pub tokens : List (Placed Lexeme)
  pub verdict : Verdict

abbrev pub Refusal : Type 0
Refusal = Placed GrammarFault

-- the stream after its first token; a fault is met when the token before it is passed
abbrev pub from : List (Placed Lexeme) → Verdict → Result Stream Refusal
from (t ∷ ts) v = Ok (record { tokens = t ∷ ts; verdict = v })
from [] (Ok p) = Ok (record { tokens = []; verdict = Ok p })
from [] (Err f) = Err (at (Lexical f.item) f.place)

-- the place where a stream stands
abbrev pub place_in : List (Placed Lexeme) → Verdict → ℕ
place_in (t ∷ ts) v = t.place
place_in [] (Ok p) = p
place_in [] (Err f) = f.place
