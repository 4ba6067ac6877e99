-- A script by its length: over the limit, or not.
use Rattle.std.proofs.Common.{◌≡◌, ℕ, ◌<◌, ◌≤◌, cond, List, length, Err, Result, sym, ap, ◌∙◌}
use Rattle.std.proofs.lemmas.Bool.{le-leb, lt-leb}
use Rattle.text.specs.declared.places.Placed.{Placed}
use Rattle.text.specs.declared.tokens.LexFault.{LexFault}
use Rattle.text.specs.Lexings.{lexed, counted}
use Rattle.text.specs.Steps.{at}
use Rattle.account.specs.declared.Refusal.TheVariants.{TextTooLong}
use Rattle.account.specs.Accounts.{account_of, screened}

pub screened_long : (text : List ℕ) → 16384 < length text → Err (at TextTooLong 0) ≡ screened text
unfolding screened
screened_long text h =
    sym (ap (λ b. cond b (account_of (counted (lexed text))) (Err (at TextTooLong 0))) (lt-leb (length text) 16384 h))

pub screened_short : (text : List ℕ) (r : Result ℕ (Placed LexFault)) → length text ≤ 16384 → r ≡ counted (lexed text) → account_of r ≡ screened text
unfolding screened
screened_short text r h e =
    ap account_of e
    ∙ sym (ap (λ b. cond b (account_of (counted (lexed text))) (Err (at TextTooLong 0))) (le-leb (length text) 16384 h))
