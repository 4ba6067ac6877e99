use Rattle.std.proofs.Common.{◌∙◌}
use Rattle.grammar.proofs.ClassNumbers.{same_number}
use Rattle.grammar.proofs.classing.TokenClassAsked.is.Goals as goal

pub returns : goal.returns
returns c = c.eq.ensures ∙ same_number c.args.class c.args.self
