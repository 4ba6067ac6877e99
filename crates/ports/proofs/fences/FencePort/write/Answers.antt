use Rattle.std.proofs.Common.{◌∷◌, ap, ◌∙◌, w32, rules}
use Rattle.std.proofs.lemmas.Int.{to_z-of_z}
use Rattle.ports.specs.Fences.{fenced}
use Rattle.ports.specs.Meanings.{write_gives, write_leaves}
use Rattle.ports.proofs.Ranges.{fence_in}
use Rattle.ports.proofs.Writes.{fenced_gives, fenced_leaves}
use Rattle.ports.proofs.fences.FencePort.write.Goals as goal

pub returns : goal.returns
returns g c =
    let s = c.args.self.now in
    let n = c.args.n in
    let below = g.P.Port.meaning s.under.now in
    let t = to_z-of_z w32 n c.ranges.n in
    let same = fence_in below.low s.range.low below.high s.range.high n (search rules) in
    record {
      gives = c.write.ensures.gives ∙ ap (write_gives below) t ∙ fenced_gives s.range below n same;
      leaves = ap (fenced s.range) (c.write.ensures.leaves ∙ ap (write_leaves below) t) ∙ fenced_leaves s.range below n same;
      holds = ap (λ l. s.under.ghost_name ∷ l) c.write.ensures.holds;
    }
