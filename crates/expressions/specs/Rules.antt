-- Arguments: expressions with commas between them, or none.
use Rattle.std.specs.Prelude.{ℕ}
use Rattle.std.proofs.Common.{inl, inr}
use Rattle.grammar.specs.Grammars.{seq, many, Tree, TreeAt}
use Rattle.syntax.specs.Nodes.{Makes, inner_made, expression_made, listed, linked, none}
use Rattle.syntax.specs.Syntax.{G, rule, maybe, expression, sign}
use Rattle.text.specs.declared.spellings.Sign.TheVariants as mark

abbrev pub arguments_gram : G
arguments_gram = maybe (seq expression (many (seq (sign mark.Comma) expression)))

unfoldable pub arguments_made : (d : ℕ) → Makes (TreeAt rule d arguments_gram)
unfolding Tree
arguments_made d (inl x) c = listed (λ z n. expression_made (inner_made d) z.1 n) (linked none (expression_made (inner_made d) x.0 c)) x.1 c
arguments_made d (inr x) c = none
