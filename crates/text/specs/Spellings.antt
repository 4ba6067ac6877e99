-- How keywords and signs are spelled, and which one a piece of the text spells.
use Rattle.std.specs.Prelude.{ℕ, List, [], ◌∷◌, take, Some, None, codes, Option}
use Rattle.std.specs.List.{find}
use Rattle.std.specs.Str.{bytes_eq}
use Rattle.text.specs.declared.spellings.Keyword.{Keyword}
use Rattle.text.specs.declared.spellings.Keyword.TheVariants as keyword
use Rattle.text.specs.declared.spellings.Sign.{Sign}
use Rattle.text.specs.declared.spellings.Sign.TheVariants as sign

-- the first of a list that a piece of text spells
abbrev pub whose : {K : Type 0} → (K → List ℕ) → List K → List ℕ → Option K
whose spelled ks w = find (λ k. bytes_eq (spelled k) w) ks

abbrev pub spelled_keyword : Keyword → List ℕ
spelled_keyword keyword.Program = codes "program"
spelled_keyword keyword.Function = codes "function"
spelled_keyword keyword.End = codes "end"
spelled_keyword keyword.Var = codes "var"
spelled_keyword keyword.Begin = codes "begin"
spelled_keyword keyword.Forward = codes "forward"
spelled_keyword keyword.If = codes "if"
spelled_keyword keyword.Then = codes "then"
spelled_keyword keyword.Else = codes "else"
spelled_keyword keyword.Fi = codes "fi"
spelled_keyword keyword.While = codes "while"
spelled_keyword keyword.Do = codes "do"
spelled_keyword keyword.Od = codes "od"
spelled_keyword keyword.Write = codes "write"
spelled_keyword keyword.Read = codes "read"
spelled_keyword keyword.Add = codes "add"
spelled_keyword keyword.To = codes "to"
spelled_keyword keyword.Remove = codes "remove"
spelled_keyword keyword.From = codes "from"
spelled_keyword keyword.Return = codes "return"
spelled_keyword keyword.True = codes "true"
spelled_keyword keyword.False = codes "false"
spelled_keyword keyword.Min = codes "min"
spelled_keyword keyword.Max = codes "max"
spelled_keyword keyword.In = codes "in"
spelled_keyword keyword.Int = codes "int"
spelled_keyword keyword.Bool = codes "bool"
spelled_keyword keyword.Iset = codes "iset"
spelled_keyword keyword.Void = codes "void"

abbrev pub every_keyword : List Keyword
every_keyword =
    keyword.Program ∷ keyword.Function ∷ keyword.End ∷ keyword.Var ∷ keyword.Begin ∷
    keyword.Forward ∷ keyword.If ∷ keyword.Then ∷ keyword.Else ∷ keyword.Fi ∷ keyword.While ∷
    keyword.Do ∷ keyword.Od ∷ keyword.Write ∷ keyword.Read ∷ keyword.Add ∷ keyword.To ∷
    keyword.Remove ∷ keyword.From ∷ keyword.Return ∷ keyword.True ∷ keyword.False ∷ keyword.Min ∷
    keyword.Max ∷ keyword.In ∷ keyword.Int ∷ keyword.Bool ∷ keyword.Iset ∷ keyword.Void ∷ []

-- the keyword that a word spells
unfoldable pub keyword_of : List ℕ → Option Keyword
keyword_of w = whose spelled_keyword every_keyword w

abbrev pub spelled_sign : Sign → List ℕ
spelled_sign sign.Becomes = codes ":="
spelled_sign sign.AtMost = codes "<="
spelled_sign sign.And = codes "&&"
spelled_sign sign.Or = codes "||"
spelled_sign sign.Semicolon = codes ";"
spelled_sign sign.Colon = codes ":"
spelled_sign sign.Comma = codes ","
spelled_sign sign.Open = codes "("
spelled_sign sign.Close = codes ")"
spelled_sign sign.Plus = codes "+"
spelled_sign sign.Minus = codes "-"
spelled_sign sign.Times = codes "*"
spelled_sign sign.Divide = codes "/"
spelled_sign sign.Count = codes "#"
spelled_sign sign.Equal = codes "="
spelled_sign sign.Less = codes "<"
spelled_sign sign.Not = codes "!"

abbrev pub every_sign : List Sign
every_sign =
    sign.Becomes ∷ sign.AtMost ∷ sign.And ∷ sign.Or ∷ sign.Semicolon ∷ sign.Colon ∷ sign.Comma ∷
    sign.Open ∷ sign.Close ∷ sign.Plus ∷ sign.Minus ∷ sign.Times ∷ sign.Divide ∷ sign.Count ∷
    sign.Equal ∷ sign.Less ∷ sign.Not ∷ []

-- the sign that a piece of text spells
unfoldable pub sign_of : List ℕ → Option Sign
sign_of w = whose spelled_sign every_sign w

-- a sign of two bytes where there is one, else of one
abbrev pub sign_from : Option Sign → Option Sign → Option Sign
sign_from (Some s) o = Some s
sign_from None o = o

-- the longest sign at the front of a text
unfoldable pub sign_at : List ℕ → Option Sign
sign_at text = sign_from (sign_of (take 2 text)) (sign_of (take 1 text))
