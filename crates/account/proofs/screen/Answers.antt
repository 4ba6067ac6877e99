use Rattle.std.proofs.Common.{◌≡◌, refl, ◌∙◌, rules}
use Rattle.account.specs.Accounts.{account_of}
use Rattle.account.proofs.Screens.{screened_long, screened_short}
use Rattle.account.proofs.screen.Goals as goal

pub returns-then-script-gt-TEXT_LIMIT : goal.returns-then-script-gt-TEXT_LIMIT
returns-then-script-gt-TEXT_LIMIT c =
    record { answer = screened_long c.args.script.now c.if-script-gt-TEXT_LIMIT.true; lawful = (c.if-script-gt-TEXT_LIMIT.true, refl) }

pub returns-clause-answer : goal.returns-clause-answer
returns-clause-answer c =
    let e : c.map_err.result ≡ account_of c.count_tokens.result = search rules in
    e ∙ screened_short c.args.script.now _ c.if-script-gt-TEXT_LIMIT.false c.count_tokens.ensures.answer
