use Rattle.std.proofs.Common.{refl, arith, rules}
use Rattle.ports.specs.Words.{numbers_in}
use Rattle.ports.proofs.Readback.{read_back}
use Rattle.ports.proofs.texts.TextPort.over.Goals as goal

pub invariant_of-result : goal.invariant_of-result
unfolding numbers_in
invariant_of-result c = record { within = search rules }

pub invariant_of-result-2 : goal.invariant_of-result-2
unfolding numbers_in
invariant_of-result-2 c = record { roomy = omega arith; wrote = refl }

pub returns-clause-meaning : goal.returns-clause-meaning
unfolding numbers_in
returns-clause-meaning c = refl

pub returns-clause-again : goal.returns-clause-again
returns-clause-again c = read_back
