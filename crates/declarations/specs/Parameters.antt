-- The mark of a parameter.
use Rattle.std.specs.Prelude.{ℕ, []}
use Rattle.text.specs.declared.spellings.Keyword.TheVariants as keyword
use Rattle.grammar.specs.Grammars.{Tree, TreeAt}
use Rattle.syntax.specs.Nodes.{Makes, marked}
use Rattle.syntax.specs.Syntax.{G, rule, word, maybe}

-- a `var`, or nothing
abbrev pub mark_gram : G
mark_gram = maybe (word keyword.Var)

-- what it adds to the number of a type
unfoldable pub mark_made : (d : ℕ) → Makes (TreeAt rule d mark_gram)
unfolding Tree
mark_made d x n = record { nodes = []; number = marked x 0; place = 0 }
