use Rattle.std.proofs.Common.{◌≡◌, take, ◌∙◌, rules}
use Rattle.text.specs.Spellings.{sign_of, sign_from}
use Rattle.text.proofs.Signs.{sign_two}
use Rattle.text.proofs.lexing.sign_at.Goals as goal

pub returns : goal.returns
returns c =
    let two = sign_two c.args.rest.now c.min-two.result c.sign_of.result c.min-two.ensures c.sign_of.ensures in
    let e : c.or_else.result ≡ sign_from c.sign_of.result (sign_of (take 1 c.args.rest.now)) = search rules in
    e ∙ two
