use Rattle.syntax.proofs.Exact.{reads}
use Rattle.syntax.proofs.promises.grammar_stands.Goals as goal

pub returns : goal.returns
returns c = reads
