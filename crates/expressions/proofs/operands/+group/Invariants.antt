use Rattle.std.proofs.Common.{◌+◌, ◌-◌, ◌*◌}
use Rattle.expressions.specs.Layers.{rank}
use Rattle.syntax.specs.Nodes.{inner_made, expression_made}
use Rattle.syntax.specs.Syntax.{expression}
use Rattle.reading.proofs.Commas.{Runs}
use Rattle.expressions.proofs.Chains.{LayerRuns, ComparisonRuns, OnTop}
use Rattle.expressions.proofs.operands.+group.Given as goal

abbrev pub decreases-arguments : goal.decreases-arguments
decreases-arguments l = 32 * l.allowed + 1

abbrev pub decreases-closed_arguments : goal.decreases-closed_arguments
decreases-closed_arguments l = 32 * l.allowed + 18

abbrev pub decreases-compared : goal.decreases-compared
decreases-compared l = 32 * l.allowed + 10

abbrev pub decreases-comparison : goal.decreases-comparison
decreases-comparison l = 32 * l.allowed + 11

abbrev pub decreases-denial : goal.decreases-denial
decreases-denial l = 32 * l.allowed + 1

abbrev pub decreases-enclosed : goal.decreases-enclosed
decreases-enclosed l = 32 * l.allowed + 17

abbrev pub decreases-expression : goal.decreases-expression
decreases-expression l = 32 * l.allowed + 16

abbrev pub decreases-expressions : goal.decreases-expressions
decreases-expressions l = 32 * l.allowed + 17

abbrev pub decreases-layered : goal.decreases-layered
decreases-layered l = 32 * l.allowed + (rank l.layer + 2)

abbrev pub decreases-named : goal.decreases-named
decreases-named l = 32 * l.allowed + 2

abbrev pub decreases-negation : goal.decreases-negation
decreases-negation l = 32 * l.allowed + 12

abbrev pub decreases-operand : goal.decreases-operand
decreases-operand l = 32 * l.allowed + 3

abbrev pub decreases-operation : goal.decreases-operation
decreases-operation l = 32 * l.allowed + (rank l.layer + 1)

abbrev pub decreases-parentheses : goal.decreases-parentheses
decreases-parentheses l = 32 * l.allowed + 1

abbrev pub decreases-tighter : goal.decreases-tighter
decreases-tighter l = 32 * l.allowed + rank l.layer

abbrev pub invariant-comparison-loop-reader : goal.invariant-comparison-loop-reader
invariant-comparison-loop-reader l = ComparisonRuns l.allowed l.initial.reader l.initial.left.number l.initial.left.place l.reader l.left.number l.left.place × OnTop l.initial.reader l.left.number l.reader

abbrev pub decreases-comparison-loop-reader : goal.decreases-comparison-loop-reader
decreases-comparison-loop-reader l = 16384 - l.reader.place

abbrev pub invariant-expressions-loop-reader : goal.invariant-expressions-loop-reader
invariant-expressions-loop-reader l = Runs l.allowed expression (expression_made (inner_made l.allowed)) l.initial.reader l.initial.first l.reader l.first

abbrev pub decreases-expressions-loop-reader : goal.decreases-expressions-loop-reader
decreases-expressions-loop-reader l = 16384 - l.reader.place

abbrev pub invariant-layered-loop-layer : goal.invariant-layered-loop-layer
invariant-layered-loop-layer l = LayerRuns l.allowed l.layer l.initial.reader l.initial.left.number l.initial.left.place l.reader l.left.number l.left.place × OnTop l.initial.reader l.left.number l.reader

abbrev pub decreases-layered-loop-layer : goal.decreases-layered-loop-layer
decreases-layered-loop-layer l = 16384 - l.reader.place
