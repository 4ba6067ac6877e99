-- Instructions that hold no other.
use Rattle.std.specs.Prelude.{ℕ}
use Rattle.std.proofs.Common.{inl, inr}
use Rattle.table.specs.declared.kinds.Kind.{Kind}
use Rattle.table.specs.declared.kinds.Kind.TheVariants as kind
use Rattle.text.specs.declared.spellings.Keyword.TheVariants as keyword
use Rattle.text.specs.declared.spellings.Sign.TheVariants as mark
use Rattle.grammar.specs.Grammars.{tok, ahead, Tree, TreeAt}
use Rattle.grammar.specs.TokenClasses.{sign_class}
use Rattle.syntax.specs.Nodes.{Makes, inner_made, expression_made, variable, upon, taking, assign_made, evaluate_made}
use Rattle.syntax.specs.Syntax.{G, rule, word, sign, name, expression, ◌▸◌}

-- a word and an expression
abbrev pub of_expression_gram : ℕ → G
of_expression_gram c = tok c ▸ expression ▸ sign mark.Semicolon

unfoldable pub of_expression_made : (d c : ℕ) → Kind → Makes (TreeAt rule d (of_expression_gram c))
unfolding Tree
of_expression_made d c k x n = upon k x.0.0.place (expression_made (inner_made d) x.1.0 n) n

-- a variable that a number is read into
abbrev pub read_gram : G
read_gram = word keyword.Read ▸ name ▸ sign mark.Semicolon

unfoldable pub read_made : (d : ℕ) → Makes (TreeAt rule d read_gram)
unfolding Tree
read_made d x n = upon kind.Read x.0.0.place (variable x.1.0.0 n) n

-- an expression, and a set behind a second word
abbrev pub with_set_gram : (c link : ℕ) → G
with_set_gram c link = tok c ▸ expression ▸ tok link ▸ name ▸ sign mark.Semicolon

unfoldable pub with_set_made : (d c link : ℕ) → Kind → Makes (TreeAt rule d (with_set_gram c link))
unfolding Tree
with_set_made d c link k x n = taking k x.0.0.place (expression_made (inner_made d) x.1.0 n) x.1.1.1.0.0 n

-- an assignment
abbrev pub assignment_gram : G
assignment_gram = name ▸ sign mark.Becomes ▸ expression ▸ sign mark.Semicolon

unfoldable pub assignment_made : (d : ℕ) → Makes (TreeAt rule d assignment_gram)
unfolding Tree
assignment_made d x n = assign_made (inner_made d) x.0.0 x.1.0.0.place x.1.1.0 n

-- an expression that stands alone
abbrev pub evaluation_gram : G
evaluation_gram = expression ▸ sign mark.Semicolon

unfoldable pub evaluation_made : (d : ℕ) → Makes (TreeAt rule d evaluation_gram)
unfolding Tree
evaluation_made d x n = evaluate_made (inner_made d) x.0 n

-- one or the other
abbrev pub wordless_gram : G
wordless_gram = ahead 51 (sign_class mark.Becomes) evaluation_gram evaluation_gram

unfoldable pub wordless_made : (d : ℕ) → Makes (TreeAt rule d wordless_gram)
unfolding Tree
wordless_made d (inl x) n = assign_made (inner_made d) x.0.0 x.1.0.place x.2.0 n
wordless_made d (inr x) n = evaluate_made (inner_made d) x.0 n
