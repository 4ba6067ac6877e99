use Rattle.std.proofs.Common.{◌≡◌, drop}
use Rattle.ports.specs.Words.{magnitude_from}
use Rattle.ports.proofs.words.magnitude.Given as goal

abbrev pub invariant-loop-b : goal.invariant-loop-b
invariant-loop-b l = magnitude_from l.most l.value (drop l.b-index l.digits) ≡ magnitude_from l.most 0 l.digits
