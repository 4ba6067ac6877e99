use Rattle.std.proofs.Common.{[], ◌∷◌, sym, refl, ◌∙◌}
use Rattle.grammar.specs.Grammars.{Tree}
use Rattle.grammar.specs.declared.classing.TokenClass.TheVariants as class
use Rattle.grammar.proofs.ClassNumbers.{class_is, class_is_not}
use Rattle.syntax.specs.Nodes.{number_made, inner_made}
use Rattle.syntax.specs.Syntax.{number}
use Rattle.reading.proofs.Branches.{as_branch, as_last, build_leaf, inject, inject_by, inject_last, left_tree, right_tree, none_of}
use Rattle.reading.proofs.Sequences.{leaf_made}
use Rattle.reading.proofs.Values.{build_joint, joint_made}
use Rattle.reading.proofs.readers.Reader.number.Goals as goal

pub returns-then-eq : goal.returns-then-eq
unfolding Tree number_made leaf_made inject inject_by left_tree
returns-then-eq c = λ d. as_branch d 52 number (number_made (inner_made d)) (sym c.class.ensures ∙ class_is c.class.result class.Number c.eq.ensures c.if-eq.true) (λ x n. refl) (build_leaf d 52 c.positive.ensures)

pub returns-else-eq : goal.returns-else-eq
unfolding Tree number_made joint_made inject_last right_tree
returns-else-eq c = λ d. as_last d number (number_made (inner_made d)) (none_of _ (52 ∷ []) ((λ e. class_is_not c.class.result class.Number c.eq.ensures c.if-eq.false (c.class.ensures ∙ e)), tt)) (λ x n. refl) (build_joint d c.negative.ensures)
