use Rattle.std.proofs.Common.{sym, refl, ◌∙◌}
use Rattle.grammar.specs.Grammars.{Tree}
use Rattle.instructions.specs.Simple.{assignment_made, evaluation_gram, evaluation_made, wordless_made}
use Rattle.reading.proofs.Ahead.{with_two, without_two, as_two, as_else}
use Rattle.instructions.proofs.simple.wordless.Goals as goal

pub returns-then-followed : goal.returns-then-followed
unfolding Tree assignment_made wordless_made with_two
returns-then-followed c = as_two c.args.allowed 51 31 evaluation_gram evaluation_gram (wordless_made c.args.allowed) (sym c.followed.ensures ∙ c.if-followed.true) (λ x n. refl) c.assignment.ensures

pub returns-else-followed : goal.returns-else-followed
unfolding Tree evaluation_made wordless_made without_two
returns-else-followed c = as_else c.args.allowed 51 31 evaluation_gram evaluation_gram (wordless_made c.args.allowed) (sym c.followed.ensures ∙ c.if-followed.false) (λ x n. refl) c.evaluation.ensures
