-- Tokens by their bytes, and the numbers of what is no token.
use Rattle.std.specs.Prelude.{ℕ, Bool, true, false, List, ◌++◌, codes, decimal, Result}
use Rattle.std.specs.Borrow.{Bor}
use Rattle.text.specs.declared.places.Placed.{Placed}
use Rattle.text.specs.declared.tokens.LexFault.{LexFault}
use Rattle.text.specs.declared.tokens.LexFault.TheVariants.{NoToken, CommentOpen, NumberTooLarge, NameTooLong}
use Rattle.text.specs.declared.tokens.Token.{Token}
use Rattle.text.specs.declared.tokens.Token.TheVariants.{Word, Name, Number, Sign, End}

-- the number that a refusal is known by
abbrev pub fault_number : LexFault → ℕ
fault_number NoToken = 11
fault_number CommentOpen = 12
fault_number NumberTooLarge = 13
fault_number NameTooLong = 14

-- a refusal as the programs print it, by its number and its place
abbrev pub refused_at : ℕ → ℕ → List ℕ
refused_at n p = codes "refused " ++ (decimal n ++ (codes " " ++ decimal p))

-- the end is no token of the text itself
abbrev pub is_end : {N : Type 0} → Token N → Bool
is_end (Word k) = false
is_end (Name n) = false
is_end (Number v) = false
is_end (Sign s) = false
is_end End = true

-- a token that holds a name as its bytes
abbrev pub Lexeme : Type 0
Lexeme = Token (List ℕ)

-- a token or a fault, with its place
abbrev pub Answer : Type 0
Answer = Result (Placed Lexeme) (Placed LexFault)

-- of a whole text: a number, or a fault with its place
abbrev pub Verdict : Type 0
Verdict = Result ℕ (Placed LexFault)

-- a token whose name is a part of a text, by the bytes of that part
abbrev pub lexeme : Token (Bor (List ℕ)) → Lexeme
lexeme (Word k) = Word k
lexeme (Name n) = Name n.now
lexeme (Number v) = Number v
lexeme (Sign s) = Sign s
lexeme End = End
