-- What the bench says of a script.
use Rattle.std.specs.Prelude.{◌≡◌, ℕ, ◌<◌, ◌≤◌, cond, List, ◌++◌, length, Ok, Err, codes, decimal, Result, nat_le}
use Rattle.text.specs.declared.places.Placed.{Placed}
use Rattle.text.specs.Laws.{Counted}
use Rattle.text.specs.Lexings.{lexed, counted}
use Rattle.text.specs.Steps.{at}
use Rattle.text.specs.Tokens.{fault_number, refused_at, Verdict}
use Rattle.account.specs.declared.Refusal.{Refusal}
use Rattle.account.specs.declared.Refusal.TheVariants.{TextTooLong, Lexical}

-- the number that a refusal is known by
abbrev pub refusal_number : Refusal → ℕ
refusal_number TextTooLong = 10
refusal_number (Lexical f) = fault_number f

-- the tokens of a text, or why and where it is refused
abbrev pub Account : Type 0
Account = Result ℕ (Placed Refusal)

abbrev pub account_of : Verdict → Account
account_of (Ok n) = Ok n
account_of (Err f) = Err (at (Lexical f.item) f.place)

-- a text of at most 16,384 bytes, by its tokens
unfoldable pub screened : List ℕ → Account
screened text = cond (nat_le (length text) 16384) (account_of (counted (lexed text))) (Err (at TextTooLong 0))

-- the same by the rules of a text
abbrev pub RefusedBy : List ℕ → Refusal → ℕ → Type 0
RefusedBy text TextTooLong p = (16384 < length text) × (p ≡ 0)
RefusedBy text (Lexical f) p = (length text ≤ 16384) × Counted text (Err (at f p))

abbrev pub Screened : List ℕ → Account → Type 0
Screened text (Ok n) = (length text ≤ 16384) × Counted text (Ok n)
Screened text (Err r) = RefusedBy text r.item r.place

-- the line that the bench prints
abbrev pub line : Account → List ℕ
line (Ok n) = codes "tokens " ++ (decimal n ++ codes "\n")
line (Err r) = refused_at (refusal_number r.item) r.place ++ codes "\n"
