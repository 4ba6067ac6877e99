use Rattle.std.proofs.Common.{arith}
use Rattle.std.proofs.lemmas.Bool.Decides.{not_from_Decides}
use Rattle.reading.proofs.Taking.{shut_misfit}
use Rattle.reading.proofs.readers.Reader.open.Goals as goal

pub returns-clause-takes : goal.returns-clause-takes
returns-clause-takes g c = shut_misfit c.args.allowed (g.C.Asked.asked c.args.class) c.args.self.now (omega arith) c.misfit.ensures (not_from_Decides _ c.is_ahead.ensures c.if-is_ahead.false)
