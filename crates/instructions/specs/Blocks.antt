-- What stands around lists of instructions.
use Rattle.std.specs.Prelude.{ℕ}
use Rattle.text.specs.declared.spellings.Keyword.TheVariants as keyword
use Rattle.text.specs.declared.spellings.Sign.TheVariants as mark
use Rattle.grammar.specs.Grammars.{tok, Tree, TreeAt}
use Rattle.syntax.specs.Nodes.{Makes, inner_made, expression_made}
use Rattle.syntax.specs.Syntax.{G, rule, word, sign, maybe, expression, instructions, ◌▸◌}

-- a condition, and the word behind it
abbrev pub condition_gram : ℕ → G
condition_gram c = sign mark.Open ▸ expression ▸ sign mark.Close ▸ tok c

unfoldable pub condition_made : (d c : ℕ) → Makes (TreeAt rule d (condition_gram c))
unfolding Tree
condition_made d c x n = expression_made (inner_made d) x.1.0 n

-- the second branch, or none
abbrev pub else_gram : G
else_gram = maybe (word keyword.Else ▸ instructions)
