-- What stands one level further in.
use Rattle.std.specs.Prelude.{ℕ}
use Rattle.grammar.specs.Grammars.{nest, Tree, TreeAt}
use Rattle.syntax.specs.Nodes.{Makes, inner_made, rule_made}
use Rattle.syntax.specs.Syntax.{Rule, rule}

-- the nodes of what a token opens
unfoldable pub nest_made : (d c : ℕ) (n : Rule) → Makes (TreeAt rule d (nest c n))
unfolding Tree
nest_made d c n x k = inner_made d n x.1 x.0.0.place k

-- the nodes of a rule, where the token that opens it stands at p
abbrev pub rule_at : (d : ℕ) (n : Rule) → ℕ → Makes (TreeAt rule d (rule n))
rule_at d n p x k = rule_made (inner_made d) n x p k
