-- A number for each class of tokens: a keyword and a sign each have their own.
use Rattle.std.specs.Prelude.{ℕ, Bool, false, cond, ◌||◌, List, [], ◌∷◌, ◌==◌, nat_le}
use Rattle.text.specs.declared.places.Placed.{Placed}
use Rattle.text.specs.declared.spellings.Keyword.{Keyword}
use Rattle.text.specs.declared.spellings.Keyword.TheVariants as keyword
use Rattle.text.specs.declared.spellings.Sign.{Sign}
use Rattle.text.specs.declared.spellings.Sign.TheVariants as sign
use Rattle.text.specs.declared.tokens.Token.TheVariants as token
use Rattle.text.specs.Tokens.{Lexeme}
use Rattle.grammar.specs.declared.classing.TokenClass.{TokenClass}
use Rattle.grammar.specs.declared.classing.TokenClass.TheVariants as class

abbrev pub keyword_class : Keyword → ℕ
keyword_class keyword.Program = 1
keyword_class keyword.Function = 2
keyword_class keyword.End = 3
keyword_class keyword.Var = 4
keyword_class keyword.Begin = 5
keyword_class keyword.Forward = 6
keyword_class keyword.If = 7
keyword_class keyword.Then = 8
keyword_class keyword.Else = 9
keyword_class keyword.Fi = 10
keyword_class keyword.While = 11
keyword_class keyword.Do = 12
keyword_class keyword.Od = 13
keyword_class keyword.Write = 14
keyword_class keyword.Read = 15
keyword_class keyword.Add = 16
keyword_class keyword.To = 17
keyword_class keyword.Remove = 18
keyword_class keyword.From = 19
keyword_class keyword.Return = 20
keyword_class keyword.True = 21
keyword_class keyword.False = 22
keyword_class keyword.Min = 23
keyword_class keyword.Max = 24
keyword_class keyword.In = 25
keyword_class keyword.Int = 26
keyword_class keyword.Bool = 27
keyword_class keyword.Iset = 28
keyword_class keyword.Void = 29

abbrev pub sign_class : Sign → ℕ
sign_class sign.Becomes = 31
sign_class sign.AtMost = 32
sign_class sign.And = 33
sign_class sign.Or = 34
sign_class sign.Semicolon = 35
sign_class sign.Colon = 36
sign_class sign.Comma = 37
sign_class sign.Open = 38
sign_class sign.Close = 39
sign_class sign.Plus = 40
sign_class sign.Minus = 41
sign_class sign.Times = 42
sign_class sign.Divide = 43
sign_class sign.Count = 44
sign_class sign.Equal = 45
sign_class sign.Less = 46
sign_class sign.Not = 47

abbrev pub class_number : TokenClass → ℕ
class_number class.End = 0
class_number (class.Word k) = keyword_class k
class_number (class.Sign s) = sign_class s
class_number class.Name = 51
class_number class.Number = 52
class_number class.Large = 53

-- a number that needs a `-` before it has a class of its own
abbrev pub class_of : Lexeme → ℕ
class_of (token.Word k) = keyword_class k
class_of (token.Sign s) = sign_class s
class_of (token.Name n) = 51
class_of (token.Number v) = cond (nat_le v 2147483647) 52 53
class_of token.End = 0

abbrev pub is_class : ℕ → Placed Lexeme → Bool
is_class c t = class_of t.item == c

abbrev pub among : List ℕ → ℕ → Bool
among [] c = false
among (x ∷ xs) c = c == x || among xs c
