use Rattle.std.proofs.Common.{arith}
use Rattle.std.proofs.Math.Seq.{take-set-lt}
use Rattle.stack.proofs.stacks.change_at.Goals as goal

pub returns-clause-entries : goal.returns-clause-entries
returns-clause-entries g c =
    take-set-lt c.args.height.now.entries c.args.slots.now c.args.i c.args.entry (omega arith)
