-- Where a token of a script does not fit, what stands before it begins a script, and does not with that token.
use Rattle.std.proofs.Common.{◌≡◌, ℕ, true, false, [], ◌∷◌, ◌++◌, Err, refl}
use Rattle.text.specs.Steps.{at}
use Rattle.grammar.specs.declared.faults.GrammarFault.TheVariants.{Misfit}
use Rattle.grammar.specs.Grammars.{TreeAt, spelled}
use Rattle.grammar.specs.Parsers.{parse_at}
use Rattle.grammar.specs.Streams.{Stream}
use Rattle.grammar.specs.Viable.{Tokens, SameFront, Viable, easy, goes_on, Ready}
use Rattle.grammar.proofs.Viability.{viable, blocked_whole}
use Rattle.syntax.specs.Syntax.{Rule, arguments, parentheses, negated, choice, repetition, function, rule, script, program}
use Rattle.syntax.proofs.Telling.{lawful, program_told}

goes : (r : Rule) → goes_on false (rule r) ≡ true
goes arguments = refl
goes parentheses = refl
goes negated = refl
goes choice = refl
goes repetition = refl
goes function = refl

made : (r : Rule) → easy false (rule r) ≡ true
made arguments = refl
made parentheses = refl
made negated = refl
made choice = refl
made repetition = refl
made function = refl

ready : Ready rule
ready = record { goes = goes; made = made }

pub program_viable : (s : Stream) (p : ℕ) → parse_at rule 32 program s ≡ Err (at Misfit p) → Viable rule 32 program (0 ∷ []) s p
program_viable s p e = viable script lawful ready 32 program (0 ∷ []) program_told refl refl s p e

-- no script goes on with a token of the class that does not fit, nor ends where the end does not
pub program_blocked : (s : Stream) (p : ℕ) (v : Viable rule 32 program (0 ∷ []) s p) (ts : Tokens) → SameFront v.rest s.verdict ts → (x : TreeAt rule 32 program) → spelled rule 32 program x ≡ v.before ++ ts → ⊥
program_blocked s p v ts h x e = blocked_whole rule 32 program (v.before ++ ts) (v.blocked ts h) x e
