use Rattle.std.proofs.Common.{refl, ap, ◌∙◌}
use Rattle.table.specs.Records.{bare}
use Rattle.reading.specs.States.{of_node}
use Rattle.reading.proofs.Sequences.{exit_node, refused_as, single, silent_token, node}
use Rattle.reading.proofs.readers.Reader.bare.Goals as goal

pub returns-in_err-place : goal.returns-in_err-place
returns-in_err-place g c = exit_node of_node _ c.from_residual.ensures.1 (refused_as c.in_err-place.ensures)

pub returns : goal.returns
returns g c =
    let s = single (silent_token (g.C.Asked.asked c.args.class)) c.in_ok-place.ensures in
    node s.whole c.record.ensures (c.bare.ensures ∙ ap (bare c.args.kind) s.place) refl
