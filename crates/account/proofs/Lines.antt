-- The line of a refusal, in one piece.
use Rattle.std.proofs.Common.{◌≡◌, ℕ, ◌++◌, codes, decimal}
use Rattle.std.proofs.lemmas.List.{append_assoc}
use Rattle.text.specs.Tokens.{refused_at}

pub one_line : (n p : ℕ) → refused_at n p ++ codes "\n" ≡ codes "refused " ++ (decimal n ++ (codes " " ++ (decimal p ++ codes "\n")))
one_line n p = simp (append_assoc {A = ℕ})
