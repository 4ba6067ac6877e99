use Rattle.sets.proofs.Removing.{removes}
use Rattle.sets.proofs.rows.changing.remove_at.Goals as goal

pub returns : goal.returns
returns c =
    removes c.args.cells.now c.rotate_left.new.self c.args.p c.requires c.rotate_left.ensures.after
