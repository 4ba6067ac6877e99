-- What a piece of text means as a token, and how long the token at the front of a text is.
use Rattle.std.specs.Prelude.{ℕ, ◌+◌, ◌-◌, ◌*◌, Bool, cond, not, ◌||◌, List, [], ◌∷◌, length, Some, None, Ok, Err, Option, Result, ◌==◌, nat_le}
use Rattle.std.specs.List.{prefix_len}
use Rattle.text.specs.declared.classes.ByteClass.TheVariants as class
use Rattle.text.specs.declared.spellings.Keyword.{Keyword}
use Rattle.text.specs.declared.spellings.Sign.{Sign}
use Rattle.text.specs.declared.tokens.LexFault.{LexFault}
use Rattle.text.specs.declared.tokens.LexFault.TheVariants.{NoToken, NumberTooLarge, NameTooLong}
use Rattle.text.specs.declared.tokens.Token.TheVariants as token
use Rattle.text.specs.Classes.{class_of, is_class}
use Rattle.text.specs.Spellings.{keyword_of, sign_of, sign_at, spelled_sign}
use Rattle.text.specs.Tokens.{Lexeme}

abbrev pub blank : ℕ → Bool
blank b = is_class (class_of b) class.Blank

abbrev pub letter : ℕ → Bool
letter b = is_class (class_of b) class.Letter

abbrev pub digit : ℕ → Bool
digit b = is_class (class_of b) class.Digit

-- what a word goes on with
abbrev pub part : ℕ → Bool
part b = letter b || digit b

-- what a comment goes on with: any byte but `}`
abbrev pub inside : ℕ → Bool
inside b = not (b == 125)

-- the number that decimal digits spell, where those before them spell n
abbrev pub value_from : ℕ → List ℕ → ℕ
value_from n [] = n
value_from n (d ∷ ds) = value_from (n * 10 + (d - 48)) ds

-- a number of at most 2 ^ 31
abbrev pub magnitude_of : List ℕ → Option ℕ
magnitude_of ds = cond (nat_le (value_from 0 ds) 2147483648) (Some (value_from 0 ds)) None

abbrev pub number_means : Option ℕ → Result Lexeme LexFault
number_means (Some n) = Ok (token.Number n)
number_means None = Err NumberTooLarge

-- a keyword, or else a name of at most 24 bytes
abbrev pub word_means : Option Keyword → List ℕ → Result Lexeme LexFault
word_means (Some k) w = Ok (token.Word k)
word_means None w = cond (nat_le (length w) 24) (Ok (token.Name w)) (Err NameTooLong)

abbrev pub sign_means : Option Sign → Result Lexeme LexFault
sign_means (Some s) = Ok (token.Sign s)
sign_means None = Err NoToken

-- the token that a piece of text is, by its first byte
unfoldable pub meaning : List ℕ → Result Lexeme LexFault
meaning [] = Err NoToken
meaning (b ∷ bs) =
    cond (letter b) (word_means (keyword_of (b ∷ bs)) (b ∷ bs))
    (cond (digit b) (number_means (magnitude_of (b ∷ bs)))
    (sign_means (sign_of (b ∷ bs))))

abbrev pub sign_width : Option Sign → ℕ
sign_width (Some s) = length (spelled_sign s)
sign_width None = 0

-- how many bytes of a text the token at its front takes, 0 where no token begins
unfoldable pub width : List ℕ → ℕ
width [] = 0
width (b ∷ bs) =
    cond (letter b) (prefix_len part (b ∷ bs)) (cond (digit b) (prefix_len digit (b ∷ bs)) (sign_width (sign_at (b ∷ bs))))
