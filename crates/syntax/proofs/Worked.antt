-- The worked shapes: antt computes them.
use Rattle.std.proofs.Common.{refl}
use Rattle.text.specs.Classes.{class_of}
use Rattle.text.specs.Lexemes.{meaning, width}
use Rattle.text.specs.Lexings.{lexed, lexed_from}
use Rattle.text.specs.Spellings.{keyword_of, sign_of, sign_at}
use Rattle.text.specs.Steps.{step}
use Rattle.grammar.specs.Grammars.{Tree, Inner}
use Rattle.grammar.specs.Parsers.{parse, parse_in, loop}
use Rattle.syntax.specs.Laws.{Worked}
use Rattle.syntax.specs.Nodes.{chosen, number_made, named_made, operand_made, product_made, sum_made, compared_made, comparison_made, negation_made, expression_made, inner_made, rule_made}
use Rattle.syntax.specs.Readings.{read_expression}

pub worked : Worked
unfolding class_of meaning width lexed lexed_from keyword_of sign_of sign_at step Tree Inner parse parse_in loop chosen number_made named_made operand_made product_made sum_made compared_made comparison_made negation_made expression_made inner_made rule_made read_expression
worked = record { leftward = refl; negative = refl; negated = refl; priorities = refl }
