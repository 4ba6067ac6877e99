use Rattle.std.proofs.Common.{sym, ◌∙◌, arith}
use Rattle.std.proofs.lemmas.Grind.{common_steps}
use Rattle.reading.proofs.Taking.{front}
use Rattle.reading.proofs.readers.Reader.is_ahead.Goals as goal

pub returns-then-not-is_end : goal.returns-then-not-is_end
returns-then-not-is_end g c =
    let class = c.class.ensures ∙ front c.args.self.now in (
      (λ is. (sym c.if-not-is_end.ensures, grind (arith, common_steps, class))),
      (λ ahead. let e = ahead.1 in grind (arith, common_steps, class, e)),
    )
