use Rattle.syntax.proofs.ProgramViable.{program_viable}
use Rattle.syntax.proofs.promises.misfits_stand.Goals as goal

pub returns : goal.returns
returns c = program_viable
