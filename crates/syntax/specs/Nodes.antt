-- The nodes that a tree stands for, in the order of their numbers.
use Rattle.std.specs.Prelude.{ℕ, zero, suc, ◌+◌, cond, ◌⊎◌, List, [], ◌∷◌, ◌++◌, length, ℤ, pos, negsuc, ◌==◌}
use Rattle.std.proofs.Common.{inl, inr}
use Rattle.table.specs.declared.kinds.Kind.{Kind}
use Rattle.table.specs.declared.kinds.Kind.TheVariants as kind
use Rattle.table.specs.declared.kinds.DataType.{DataType}
use Rattle.table.specs.declared.kinds.DataType.TheVariants as type
use Rattle.table.specs.declared.nodes.Node.{Node}
use Rattle.table.specs.Numbers.{kind_number, type_number}
use Rattle.table.specs.Records.{bare}
use Rattle.text.specs.declared.places.Placed.{Placed}
use Rattle.text.specs.declared.spellings.Keyword.TheVariants as keyword
use Rattle.text.specs.declared.tokens.Token.TheVariants as token
use Rattle.text.specs.Tokens.{Lexeme}
use Rattle.grammar.specs.Grammars.{Tree, Inner}
use Rattle.grammar.specs.TokenClasses.{class_of}
use Rattle.syntax.specs.Syntax.{Rule, arguments, parentheses, negated, choice, repetition, function, rule, number, named, operand, product, sum, compared, comparison, negation, expression, instruction, instructions, data_type, result_type, parameter, parameters, declaration, body, program, maybe, word, any_of, ◌▸◌}

-- nodes, and what they come to: the number and the place of a node, or the first of a list
pub record Made : Type 0 where
  pub nodes : List Node
  pub number : ℕ
  pub place : ℕ

-- of a tree, after so many nodes
abbrev pub Makes : Type 0 → Type 0
Makes X = X → ℕ → Made

-- the rules one level further in, each with the place of the token that opened it
abbrev pub Acts : (Rule → Type 0) → Type 0
Acts In = (r : Rule) → In r → ℕ → ℕ → Made

abbrev pub magnitude : Lexeme → ℕ
magnitude (token.Number v) = v
magnitude (token.Word k) = 0
magnitude (token.Name n) = 0
magnitude (token.Sign s) = 0
magnitude token.End = 0

abbrev pub name_length : Lexeme → ℕ
name_length (token.Name n) = length n
name_length (token.Word k) = 0
name_length (token.Number v) = 0
name_length (token.Sign s) = 0
name_length token.End = 0

abbrev pub minus : ℕ → ℤ
minus zero = pos 0
minus (suc n) = negsuc n

abbrev pub valued : Kind → ℕ → ℤ → Node
valued k p v = record { kind = kind_number k; length = 0; first = 0; second = 0; third = 0; next = 0; place = p; value = v }

abbrev pub over : Kind → ℕ → ℕ → ℕ → ℕ → Node
over k p first second third =
    record { kind = kind_number k; length = 0; first = first; second = second; third = third; next = 0; place = p; value = pos 0 }

-- a node with a name of so many bytes
abbrev pub titled : Kind → ℕ → ℕ → ℕ → ℕ → ℕ → ℕ → Node
titled k l p first second third value =
    record { kind = kind_number k; length = l; first = first; second = second; third = third; next = 0; place = p; value = pos value }

abbrev pub naming : Kind → Placed Lexeme → ℕ → ℕ → ℕ → ℕ → Node
naming k t first second third value = titled k (name_length t.item) t.place first second third value

-- one node after others
abbrev pub with : List Node → Node → ℕ → Made
with ns n c = record { nodes = ns ++ (n ∷ []); number = c + length ns + 1; place = n.place }

abbrev pub alone : Node → ℕ → Made
alone n c = with [] n c

abbrev pub after : Made → ℕ → ℕ
after m c = c + length m.nodes

abbrev pub after_both : Made → Made → ℕ → ℕ
after_both l m c = c + length (l.nodes ++ m.nodes)

abbrev pub variable : Placed Lexeme → ℕ → Made
variable t c = alone (naming kind.Variable t 0 0 0 0) c

-- a node over one before it, and over two
abbrev pub upon : Kind → ℕ → Made → ℕ → Made
upon k p m c = with m.nodes (over k p m.number 0 0) c

abbrev pub joining : Kind → ℕ → Made → Made → ℕ → Made
joining k p l r c = with (l.nodes ++ r.nodes) (over k p l.number r.number 0) c

-- turn after turn
abbrev pub folded : {T : Type 0} → (Made → T → Made) → Made → List T → Made
folded turn m [] = m
folded turn m (t ∷ ts) = folded turn (turn m t) ts

-- the token of several that stands there
unfoldable pub chosen : (In : Rule → Type 0) (c : ℕ) (cs : List ℕ) → Tree In (any_of c cs) → Placed Lexeme
unfolding Tree
chosen In c [] x = x.0
chosen In c (e ∷ es) (inl x) = x.0
chosen In c (e ∷ es) (inr x) = chosen In e es x

-- the kind of node that an operator makes, by its class
abbrev pub operator_kind : ℕ → Kind
operator_kind c =
    cond (c == 42) kind.Times (cond (c == 43) kind.Divide (cond (c == 40) kind.Plus (cond (c == 41) kind.Minus
    (cond (c == 45) kind.Equal (cond (c == 46) kind.Less (cond (c == 32) kind.AtMost (cond (c == 33) kind.And kind.Or)))))))

-- a node of an operator over what is on its left and on its right
abbrev pub operated : Placed Lexeme → Made → Made → ℕ → Made
operated o left right c = joining (operator_kind (class_of o.item)) o.place left right c

-- operators between operands, joined to the left
abbrev pub chained : {O X : Type 0} → (O → Placed Lexeme) → Makes X → Made → List (O × X) → ℕ → Made
chained sign item left ts c = folded (λ m t. operated (sign t.0) m (item t.1 (after m c)) c) left ts

-- the last of some nodes with a next
abbrev pub with_next : ℕ → Node → Node
with_next n x =
    record { kind = x.kind; length = x.length; first = x.first; second = x.second; third = x.third; next = n; place = x.place; value = x.value }

abbrev pub next_last : ℕ → List Node → List Node
next_last n [] = []
next_last n (a ∷ []) = with_next n a ∷ []
next_last n (a ∷ (b ∷ l)) = a ∷ next_last n (b ∷ l)

abbrev pub first_or : ℕ → ℕ → ℕ
first_or zero n = n
first_or (suc f) n = suc f

-- a list that goes on: what it has so far, then one more
abbrev pub linked : Made → Made → Made
linked l m = record { nodes = next_last m.number l.nodes ++ m.nodes; number = first_or l.number m.number; place = 0 }

abbrev pub none : Made
none = record { nodes = []; number = 0; place = 0 }

abbrev pub appended : {X : Type 0} → Makes X → ℕ → Made → X → Made
appended item c l x = linked l (item x (after l c))

abbrev pub listed : {X : Type 0} → Makes X → Made → List X → ℕ → Made
listed item l xs c = folded (appended item c) l xs

-- ---- expressions

abbrev pub Token : Type 0
Token = Placed Lexeme

unfoldable pub number_made : {In : Rule → Type 0} → Acts In → Makes (Tree In number)
unfolding Tree
number_made I (inl x) c = alone (valued kind.Number x.0.place (pos (magnitude x.0.item))) c
number_made I (inr x) c = alone (valued kind.Number x.0.0.place (minus (magnitude x.1.0.item))) c

-- a variable, or a call with its arguments
unfoldable pub named_made : {In : Rule → Type 0} → Acts In → Makes (Tree In named)
unfolding Tree
named_made I (x, inl y) c =
    let args = I arguments y.1 y.0.0.place c in
    with args.nodes (naming kind.Call x.0 args.number 0 0 0) c
named_made I (x, inr y) c = variable x.0 c

unfoldable pub operand_made : {In : Rule → Type 0} → Acts In → Makes (Tree In operand)
unfolding Tree
operand_made I (inl x) c = number_made I x c
operand_made I (inr (inl x)) c = alone (bare kind.True x.0.place) c
operand_made I (inr (inr (inl x))) c = alone (bare kind.False x.0.place) c
operand_made I (inr (inr (inr (inl x)))) c = named_made I x c
operand_made I (inr (inr (inr (inr (inl x))))) c = upon kind.Least x.0.0.place (variable x.1.0 c) c
operand_made I (inr (inr (inr (inr (inr (inl x)))))) c = upon kind.Greatest x.0.0.place (variable x.1.0 c) c
operand_made I (inr (inr (inr (inr (inr (inr (inl x))))))) c = upon kind.Count x.0.0.place (variable x.1.0 c) c
operand_made I (inr (inr (inr (inr (inr (inr (inr x))))))) c = I parentheses x.1 x.0.0.place c

unfoldable pub product_made : {In : Rule → Type 0} → Acts In → Makes (Tree In product)
unfolding Tree
product_made {In} I x c = chained (chosen In 42 (43 ∷ [])) (operand_made I) (operand_made I x.0 c) x.1 c

unfoldable pub sum_made : {In : Rule → Type 0} → Acts In → Makes (Tree In sum)
unfolding Tree
sum_made {In} I x c = chained (chosen In 40 (41 ∷ [])) (product_made I) (product_made I x.0 c) x.1 c

-- `in` has a variable on its right
unfoldable pub compared_made : {In : Rule → Type 0} → Acts In → ℕ → Made → Tree In compared → Made
unfolding Tree
compared_made {In} I c left (inl x) = operated (chosen In 45 (46 ∷ (32 ∷ [])) x.0) left (sum_made I x.1 (after left c)) c
compared_made I c left (inr x) = joining kind.In x.0.0.place left (variable x.1.0 (after left c)) c

unfoldable pub comparison_made : {In : Rule → Type 0} → Acts In → Makes (Tree In comparison)
unfolding Tree
comparison_made I x c = folded (compared_made I c) (sum_made I x.0 c) x.1

unfoldable pub negation_made : {In : Rule → Type 0} → Acts In → Makes (Tree In negation)
unfolding Tree
negation_made I (inl x) c = I negated x.1 x.0.0.place c
negation_made I (inr x) c = comparison_made I x c

unfoldable pub expression_made : {In : Rule → Type 0} → Acts In → Makes (Tree In expression)
unfolding Tree
expression_made {In} I x c = chained (chosen In 33 (34 ∷ [])) (negation_made I) (negation_made I x.0 c) x.1 c

-- ---- instructions

-- a node over an expression and a variable
abbrev pub taking : Kind → ℕ → Made → Token → ℕ → Made
taking k p e t c = joining k p e (variable t (after e c)) c

unfoldable pub assign_made : {In : Rule → Type 0} → Acts In → Token → ℕ → Tree In expression → ℕ → Made
assign_made I t p e c = joining kind.Assign p (variable t c) (expression_made I e (c + 1)) c

unfoldable pub evaluate_made : {In : Rule → Type 0} → Acts In → Makes (Tree In expression)
evaluate_made I e c =
    let m = expression_made I e c in
    upon kind.Expression m.place m c

unfoldable pub instruction_made : {In : Rule → Type 0} → Acts In → Makes (Tree In instruction)
unfolding Tree
instruction_made I (inl x) c = alone (bare kind.Empty x.0.place) c
instruction_made I (inr (inl x)) c = I choice x.1 x.0.0.place c
instruction_made I (inr (inr (inl x))) c = I repetition x.1 x.0.0.place c
instruction_made I (inr (inr (inr (inl x)))) c = upon kind.Write x.0.0.place (expression_made I x.1.0 c) c
instruction_made I (inr (inr (inr (inr (inl x))))) c = upon kind.Read x.0.0.place (variable x.1.0.0 c) c
instruction_made I (inr (inr (inr (inr (inr (inl x)))))) c =
    taking kind.Add x.0.0.place (expression_made I x.1.0 c) x.1.1.1.0.0 c
instruction_made I (inr (inr (inr (inr (inr (inr (inl x))))))) c =
    taking kind.Remove x.0.0.place (expression_made I x.1.0 c) x.1.1.1.0.0 c
instruction_made I (inr (inr (inr (inr (inr (inr (inr (inl x)))))))) c =
    upon kind.Return x.0.0.place (expression_made I x.1.0 c) c
instruction_made I (inr (inr (inr (inr (inr (inr (inr (inr (inl x))))))))) c =
    assign_made I x.0.0 x.1.0.place x.2.0 c
instruction_made I (inr (inr (inr (inr (inr (inr (inr (inr (inr x))))))))) c = evaluate_made I x.0 c

unfoldable pub instructions_made : {In : Rule → Type 0} → Acts In → Makes (Tree In instructions)
unfolding Tree
instructions_made I xs c = listed (instruction_made I) none xs c

-- ---- declarations

-- the type that a keyword means, by its class
abbrev pub keyword_type : ℕ → DataType
keyword_type c = cond (c == 26) type.Integer (cond (c == 27) type.Truth (cond (c == 28) type.IntegerSet type.Void))

unfoldable pub type_of : (In : Rule → Type 0) → Tree In data_type → ℕ
type_of In x = type_number (keyword_type (class_of (chosen In 26 (27 ∷ (28 ∷ [])) x).item))

unfoldable pub result_of : (In : Rule → Type 0) → Tree In result_type → ℕ
result_of In x = type_number (keyword_type (class_of (chosen In 26 (27 ∷ (29 ∷ [])) x).item))

abbrev pub marked : {A B : Type 0} → A ⊎ B → ℕ → ℕ
marked (inl x) n = n + 10
marked (inr x) n = n

unfoldable pub parameter_made : {In : Rule → Type 0} → Acts In → Makes (Tree In parameter)
unfolding Tree
parameter_made {In} I x c = alone (naming kind.Parameter x.1.0.0 0 0 0 (marked x.0 (type_of In x.1.1.1))) c

unfoldable pub parameters_made : {In : Rule → Type 0} → Acts In → Makes (Tree In parameters)
unfolding Tree
parameters_made I (inl (x, xs)) c = listed (λ y n. parameter_made I y.1 n) (linked none (parameter_made I x c)) xs c
parameters_made I (inr x) c = none

unfoldable pub declaration_made : {In : Rule → Type 0} → Acts In → Makes (Tree In declaration)
unfolding Tree
declaration_made {In} I (inl x) c = alone (naming kind.Declared x.0.0 0 0 0 (type_of In x.1.0)) c
declaration_made I (inr x) c = I function x.1 x.0.0.place c

-- ---- rules

-- a condition, and lists that hang on it
abbrev pub branching : Kind → ℕ → Made → Made → Made → ℕ → Made
branching k p e then else c =
    with ((e.nodes ++ then.nodes) ++ else.nodes) (over k p e.number then.number else.number) c

unfoldable pub else_made : {In : Rule → Type 0} → Acts In → Makes (Tree In (maybe (word keyword.Else ▸ instructions)))
unfolding Tree
else_made I (inl x) c = instructions_made I x.1 c
else_made I (inr x) c = none

-- a function by its heading and its body: the name, the parameters and the result
unfoldable pub body_made : {In : Rule → Type 0} → Acts In → Token → Made → ℕ → Tree In body → ℕ → Made
unfolding Tree
body_made I name ps result (inl x) c = with ps.nodes (naming kind.Forward name ps.number 0 0 result) c
body_made I name ps result (inr x) c =
    let ds = listed (declaration_made I) none x.1.0 (after ps c) in
    let is = instructions_made I x.1.1.1.0 (after_both ps ds c) in
    with ((ps.nodes ++ ds.nodes) ++ is.nodes) (naming kind.Function name ps.number ds.number is.number result) c

unfoldable pub rule_made : {In : Rule → Type 0} → Acts In → (r : Rule) → Tree In (rule r) → ℕ → ℕ → Made
unfolding Tree
rule_made I arguments (inl (x, xs), y) p c = listed (λ z n. expression_made I z.1 n) (linked none (expression_made I x c)) xs c
rule_made I arguments (inr x, y) p c = none
rule_made I parentheses x p c = expression_made I x.0 c
rule_made I negated x p c = upon kind.Not p (negation_made I x c) c
rule_made I choice x p c =
    let e = expression_made I x.1.0 c in
    let then = instructions_made I x.1.1.1.1.0 (after e c) in
    let else = else_made I x.1.1.1.1.1.0 (after_both e then c) in
    branching kind.If p e then else c
rule_made I repetition x p c =
    let e = expression_made I x.1.0 c in
    let is = instructions_made I x.1.1.1.1.0 (after e c) in
    branching kind.While p e is none c
rule_made {In} I function x p c =
    body_made I x.0.0 (parameters_made I x.1.1.0 c) (result_of In x.1.1.1.1.1.0) x.1.1.1.1.1.1.1 c

unfoldable pub inner_made : (d : ℕ) → Acts (Inner rule d)
unfolding Inner
inner_made zero r x p c = none
inner_made (suc d) r x p c = rule_made (inner_made d) r x p c

unfoldable pub program_made : {In : Rule → Type 0} → Acts In → Makes (Tree In program)
unfolding Tree
program_made I x c =
    let main = I function x.1.1.1.0.1 x.1.1.1.0.0.0.place c in
    with main.nodes (naming kind.Program x.1.0.0 main.number 0 0 0) c
