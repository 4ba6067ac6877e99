use Rattle.std.proofs.Common.{◌≡◌, ◌+◌, ◌-◌, ◌<◌, ◌++◌, length, take, drop, arith}
use Rattle.std.proofs.lemmas.Int.{to_z-of_z}
use Rattle.sets.specs.Held.{items}
use Rattle.sets.specs.Searches.{Missing}
use Rattle.sets.specs.Sets.{put}
use Rattle.sets.proofs.Inserting.{inserted_row}
use Rattle.sets.proofs.Members.{put_rises}
use Rattle.sets.proofs.Ordering.{seen}
use Rattle.sets.proofs.rows.Row.add.Goals as goal
use Rattle.sets.proofs.rows.Row.add.Goals.{After-insert_at}

-- what the row holds after the insertion
after : (c : goal.After-insert_at) → take (c.args.self.now.count + 1) (c.insert_at.new.cells ++ drop (c.from-count.result + 1 - 0) c.args.self.now.cells) ≡ put c.args.n (items c.args.self.now)
after c =
    let s = c.args.self.now in
    let f = c.ranges.n in
    let l : s.count < length s.cells = omega arith in
    let h = seen (λ m. Missing m (items s) c.in-Err.p) c.args.n c.ranges.n c.in-Err.ensures in
    inserted_row c.args.n s.cells c.insert_at.new.cells s.count (c.from-count.result + 1 - 0) c.in-Err.p (omega arith) l h (simp to_z-of_z at c.insert_at.ensures)

pub invariant_of-self : goal.invariant_of-self
invariant_of-self c =
    let s = c.args.self.now in
    record { fit = omega arith; rises = rw (after c) (put_rises c.args.n (items s) s.rises) }
