-- What the text layer promises of a token's size.
use Rattle.std.specs.Prelude.{ℕ, ◌≤◌, length}
use Rattle.text.specs.declared.tokens.Token.TheVariants as token
use Rattle.text.specs.Tokens.{Lexeme}

-- the bytes of a name, the magnitude of a number
abbrev pub size : Lexeme → ℕ
size (token.Word k) = 0
size (token.Name n) = length n
size (token.Number v) = v
size (token.Sign s) = 0
size token.End = 0

abbrev pub most : Lexeme → ℕ
most (token.Word k) = 0
most (token.Name n) = 24
most (token.Number v) = 2147483648
most (token.Sign s) = 0
most token.End = 0

abbrev pub Fits : Lexeme → Type 0
Fits t = size t ≤ most t
