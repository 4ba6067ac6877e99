-- The grammar of scripts.
use Rattle.std.specs.Prelude.{ℕ, Bool, true, false, ◌&&◌, List, [], ◌∷◌, ◌++◌, ◌==◌}
use Rattle.text.specs.declared.spellings.Keyword.{Keyword}
use Rattle.text.specs.declared.spellings.Keyword.TheVariants as keyword
use Rattle.text.specs.declared.spellings.Sign.{Sign}
use Rattle.text.specs.declared.spellings.Sign.TheVariants as mark
use Rattle.grammar.specs.Firsts.{firsts, Language}
use Rattle.grammar.specs.Grammars.{Gram, tok, joint, nil, seq, alt, many, ahead, nest}
use Rattle.grammar.specs.TokenClasses.{keyword_class, sign_class}

-- what stands one level further in
pub data Rule : Type 0 where
  arguments parentheses negated choice repetition function : Rule

abbrev pub G : Type 0
G = Gram Rule

abbrev pub word : Keyword → G
word k = tok (keyword_class k)

abbrev pub sign : Sign → G
sign s = tok (sign_class s)

abbrev pub name : G
name = tok 51

abbrev pub opens : Keyword → Rule → G
opens k r = nest (keyword_class k) r

-- a token of one of several classes
abbrev pub any_of : ℕ → List ℕ → G
any_of c [] = tok c
any_of c (e ∷ es) = alt (tok c) (any_of e es)

-- a - b - .. : one after another, the last without a successor
infixr 40 ◌▸◌
abbrev pub ◌▸◌ : G → G → G
a ▸ b = seq a b

infixr 30 ◌∣◌
abbrev pub ◌∣◌ : G → G → G
a ∣ b = alt a b

abbrev pub maybe : G → G
maybe g = alt g nil

-- a number; a `-` and a number are one
abbrev pub number : G
number = tok 52 ∣ joint (sign_class mark.Minus) (52 ∷ (53 ∷ []))

abbrev pub named : G
named = name ▸ maybe (nest (sign_class mark.Open) arguments)

abbrev pub operand : G
operand =
    number ∣ word keyword.True ∣ word keyword.False ∣ named
    ∣ word keyword.Min ▸ name ∣ word keyword.Max ▸ name ∣ sign mark.Count ▸ name
    ∣ nest (sign_class mark.Open) parentheses

abbrev pub product : G
product = operand ▸ many (any_of (sign_class mark.Times) (sign_class mark.Divide ∷ []) ▸ operand)

abbrev pub sum : G
sum = product ▸ many (any_of (sign_class mark.Plus) (sign_class mark.Minus ∷ []) ▸ product)

abbrev pub compared : G
compared = any_of (sign_class mark.Equal) (sign_class mark.Less ∷ (sign_class mark.AtMost ∷ [])) ▸ sum ∣ word keyword.In ▸ name

abbrev pub comparison : G
comparison = sum ▸ many compared

abbrev pub negation : G
negation = nest (sign_class mark.Not) negated ∣ comparison

abbrev pub expression : G
expression = negation ▸ many (any_of (sign_class mark.And) (sign_class mark.Or ∷ []) ▸ negation)

abbrev pub instruction : G
instruction =
    sign mark.Semicolon
    ∣ opens keyword.If choice
    ∣ opens keyword.While repetition
    ∣ word keyword.Write ▸ expression ▸ sign mark.Semicolon
    ∣ word keyword.Read ▸ name ▸ sign mark.Semicolon
    ∣ word keyword.Add ▸ expression ▸ word keyword.To ▸ name ▸ sign mark.Semicolon
    ∣ word keyword.Remove ▸ expression ▸ word keyword.From ▸ name ▸ sign mark.Semicolon
    ∣ word keyword.Return ▸ expression ▸ sign mark.Semicolon
    ∣ ahead 51 (sign_class mark.Becomes) (expression ▸ sign mark.Semicolon) (expression ▸ sign mark.Semicolon)

abbrev pub instructions : G
instructions = many instruction

abbrev pub data_type : G
data_type = any_of (keyword_class keyword.Int) (keyword_class keyword.Bool ∷ (keyword_class keyword.Iset ∷ []))

abbrev pub result_type : G
result_type = any_of (keyword_class keyword.Int) (keyword_class keyword.Bool ∷ (keyword_class keyword.Void ∷ []))

abbrev pub parameter : G
parameter = maybe (word keyword.Var) ▸ name ▸ sign mark.Colon ▸ data_type

abbrev pub parameters : G
parameters = maybe (parameter ▸ many (sign mark.Comma ▸ parameter))

abbrev pub declaration : G
declaration = name ▸ data_type ▸ sign mark.Semicolon ∣ opens keyword.Function function

abbrev pub body : G
body =
    word keyword.Forward ▸ sign mark.Semicolon
    ∣ word keyword.Var ▸ many declaration ▸ word keyword.Begin ▸ instructions ▸ word keyword.End ▸ sign mark.Semicolon

-- each rule, after the token that opens it
abbrev pub rule : Rule → G
rule arguments = maybe (expression ▸ many (sign mark.Comma ▸ expression)) ▸ sign mark.Close
rule parentheses = expression ▸ sign mark.Close
rule negated = negation
rule choice =
    sign mark.Open ▸ expression ▸ sign mark.Close ▸ word keyword.Then ▸ instructions
    ▸ maybe (word keyword.Else ▸ instructions) ▸ word keyword.Fi ▸ sign mark.Semicolon
rule repetition =
    sign mark.Open ▸ expression ▸ sign mark.Close ▸ word keyword.Do ▸ instructions ▸ word keyword.Od ▸ sign mark.Semicolon
rule function =
    name ▸ sign mark.Open ▸ parameters ▸ sign mark.Close ▸ sign mark.Colon ▸ result_type ▸ sign mark.Semicolon ▸ body

abbrev pub program : G
program = word keyword.Program ▸ name ▸ sign mark.Semicolon ▸ opens keyword.Function function ▸ word keyword.End ▸ sign mark.Semicolon

-- what may follow
abbrev pub after_expression : List ℕ
after_expression =
    sign_class mark.Comma ∷ sign_class mark.Close ∷ sign_class mark.Semicolon ∷ keyword_class keyword.To ∷ keyword_class keyword.From ∷ []

abbrev pub after_negation : List ℕ
after_negation = sign_class mark.And ∷ sign_class mark.Or ∷ after_expression

abbrev pub after_sum : List ℕ
after_sum = sign_class mark.Equal ∷ sign_class mark.Less ∷ sign_class mark.AtMost ∷ keyword_class keyword.In ∷ after_negation

abbrev pub after_operand : List ℕ
after_operand = sign_class mark.Times ∷ sign_class mark.Divide ∷ sign_class mark.Plus ∷ sign_class mark.Minus ∷ after_sum

abbrev pub after_instruction : List ℕ
after_instruction =
    firsts instruction ++ (keyword_class keyword.Else ∷ keyword_class keyword.Fi ∷ keyword_class keyword.Od ∷ keyword_class keyword.End ∷ [])

abbrev pub after_function : List ℕ
after_function = firsts declaration ++ (keyword_class keyword.Begin ∷ keyword_class keyword.End ∷ [])

abbrev pub follow : Rule → List ℕ
follow arguments = after_operand
follow parentheses = after_operand
follow negated = after_negation
follow choice = after_instruction
follow repetition = after_instruction
follow function = after_function

-- no `:=` stands in an expression
abbrev pub in_expression : Rule → Bool
in_expression arguments = true
in_expression parentheses = true
in_expression negated = true
in_expression choice = false
in_expression repetition = false
in_expression function = false

abbrev pub bars : ℕ → Rule → Bool
bars k r = k == sign_class mark.Becomes && in_expression r

abbrev pub script : Language Rule
script = record { rule = rule; follow = follow; bars = bars }
