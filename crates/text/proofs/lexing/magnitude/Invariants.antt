use Rattle.std.proofs.Common.{◌≡◌, drop}
use Rattle.text.specs.Lexemes.{value_from}
use Rattle.text.proofs.lexing.magnitude.Given as goal

abbrev pub invariant-loop-b : goal.invariant-loop-b
invariant-loop-b l = value_from l.value (drop l.b-index l.digits) ≡ value_from 0 l.digits
