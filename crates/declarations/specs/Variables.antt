-- Variables as they are declared.
use Rattle.std.specs.Prelude.{ℕ}
use Rattle.table.specs.declared.kinds.Kind.TheVariants as kind
use Rattle.text.specs.declared.spellings.Sign.TheVariants as mark
use Rattle.grammar.specs.Grammars.{Tree, TreeAt, Inner}
use Rattle.syntax.specs.Nodes.{Makes, alone, naming, type_of}
use Rattle.syntax.specs.Syntax.{G, rule, name, sign, data_type, ◌▸◌}

-- a name and its type
abbrev pub variable_gram : G
variable_gram = name ▸ data_type ▸ sign mark.Semicolon

unfoldable pub variable_made : (d : ℕ) → Makes (TreeAt rule d variable_gram)
unfolding Tree
variable_made d x n = alone (naming kind.Declared x.0.0 0 0 0 (type_of (Inner rule d) x.1.0)) n
