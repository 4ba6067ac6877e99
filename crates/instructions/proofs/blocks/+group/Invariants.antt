use Rattle.std.proofs.Common.{◌+◌, ◌-◌, ◌*◌}
use Rattle.instructions.proofs.Constructs.{Instructions}
use Rattle.instructions.proofs.blocks.+group.Given as goal

abbrev pub decreases-branches : goal.decreases-branches
decreases-branches l = 8 * l.allowed + 5

abbrev pub decreases-choice : goal.decreases-choice
decreases-choice l = 8 * l.allowed + 1

abbrev pub decreases-instruction : goal.decreases-instruction
decreases-instruction l = 8 * l.allowed + 2

abbrev pub decreases-instructions : goal.decreases-instructions
decreases-instructions l = 8 * l.allowed + 3

abbrev pub decreases-otherwise : goal.decreases-otherwise
decreases-otherwise l = 8 * l.allowed + 4

abbrev pub decreases-repeated : goal.decreases-repeated
decreases-repeated l = 8 * l.allowed + 4

abbrev pub decreases-repetition : goal.decreases-repetition
decreases-repetition l = 8 * l.allowed + 1

abbrev pub invariant-instructions-loop-reader : goal.invariant-instructions-loop-reader
invariant-instructions-loop-reader l = Instructions l.allowed l.fn.reader l.reader l.first

abbrev pub decreases-instructions-loop-reader : goal.decreases-instructions-loop-reader
decreases-instructions-loop-reader l = 16384 - l.reader.place
