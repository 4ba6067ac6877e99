use Rattle.std.proofs.lemmas.Int.{to_z-of_z}
use Rattle.sets.proofs.Inserting.{inserts}
use Rattle.sets.proofs.rows.changing.insert_at.Goals as goal

pub returns : goal.returns
returns c =
    let f = c.ranges.n in
    simp to_z-of_z (inserts c.args.cells.now c.rotate_right.new.self c.args.p c.args.n c.requires c.rotate_right.ensures.after)
