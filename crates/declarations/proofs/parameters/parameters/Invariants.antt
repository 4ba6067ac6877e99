use Rattle.std.proofs.Common.{ℕ, ◌-◌}
use Rattle.syntax.specs.Nodes.{inner_made, parameter_made}
use Rattle.syntax.specs.Syntax.{parameter}
use Rattle.reading.proofs.Commas.{Runs}
use Rattle.declarations.proofs.parameters.parameters.Given as goal

abbrev pub invariant-loop-reader : goal.invariant-loop-reader
invariant-loop-reader l = (d : ℕ) → Runs d parameter (parameter_made (inner_made d)) l.initial.reader l.initial.first l.reader l.first

abbrev pub decreases-loop-reader : goal.decreases-loop-reader
decreases-loop-reader l = 16384 - l.reader.place
