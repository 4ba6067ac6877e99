use Rattle.std.proofs.Common.{◌+◌, ◌-◌, ◌*◌, get_or, drop, refl, ◌∙◌, arith}
use Rattle.text.proofs.Numbers.{value_more, magnitude_large}
use Rattle.text.proofs.lexing.magnitude.Goals as goal

pub returns-then-value : goal.returns-then-value
returns-then-value c =
    let ds = c.args.digits.now in
    let i = c.loop-b.b-index in
    magnitude_large (c.loop-b.value * 10 + (get_or ds i 0 - 48)) ds (drop (i + 1) ds)
    (value_more c.loop-b.value (get_or ds i 0 - 48) ds i c.loop-b-test.true refl ∙ c.loop-b.invariant)
    (omega arith)
