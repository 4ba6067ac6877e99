use Rattle.syntax.proofs.Worked.{worked}
use Rattle.syntax.proofs.promises.shapes_stand.Goals as goal

pub returns : goal.returns
returns c = worked
