use Rattle.std.proofs.Common.{◌≡◌, ap, ◌∙◌, arith, w32}
use Rattle.std.specs.Fmt.{signed_decimal}
use Rattle.std.proofs.lemmas.Int.{to_z-of_z}
use Rattle.ports.proofs.Fronts.{length_spelled, spelled_front}
use Rattle.ports.proofs.decimals.write_decimal.Goals as goal

pub returns-clause-count : goal.returns-clause-count
returns-clause-count c =
    length_spelled c.args.n _ (c.as_bytes-text.ensures.value ∙ c.format.ensures.text ∙ ap signed_decimal (to_z-of_z w32 c.args.n c.ranges.n))

pub returns-clause-bytes : goal.returns-clause-bytes
returns-clause-bytes c =
    let text = c.as_bytes-text.result.now in
    let e : text ≡ signed_decimal c.args.n = c.as_bytes-text.ensures.value ∙ c.format.ensures.text ∙ ap signed_decimal (to_z-of_z w32 c.args.n c.ranges.n) in
    spelled_front c.args.n text c.copy_from_slice.new.self c.args.rest.now e c.copy_from_slice.ensures.after (omega arith)
