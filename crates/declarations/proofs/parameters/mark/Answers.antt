use Rattle.std.proofs.Common.{[], ◌∷◌, sym, refl, ◌∙◌}
use Rattle.text.specs.declared.spellings.Keyword.TheVariants as word
use Rattle.grammar.specs.declared.classing.TokenClass.TheVariants as class
use Rattle.grammar.specs.Grammars.{Tree}
use Rattle.grammar.proofs.ClassNumbers.{class_differs, class_same}
use Rattle.reading.specs.States.{of_list}
use Rattle.reading.proofs.Branches.{on_branch, on_last, on_nil, none_of, inject, inject_by, inject_last, left_tree, right_tree, nothing}
use Rattle.reading.proofs.Sequences.{begin, closed_token, stop_last_token, exit, pass}
use Rattle.declarations.specs.Parameters.{mark_gram, mark_made}
use Rattle.declarations.proofs.parameters.mark.Goals as goal

pub returns-then-ne : goal.returns-then-ne
unfolding Tree mark_made inject_last right_tree nothing
returns-then-ne c = λ d.
    let none = none_of _ (4 ∷ []) ((λ e. class_differs c.class.result (class.Word word.Var) c.ne.ensures c.if-ne.true (c.class.ensures ∙ e)), tt) in
    pass (on_nil (on_last (begin d mark_gram c.args.reader.now) none)) refl

pub returns-in_err-take : goal.returns-in_err-take
returns-in_err-take c = λ d.
    let some = sym c.class.ensures ∙ class_same c.class.result (class.Word word.Var) c.ne.ensures c.if-ne.false in
    exit of_list _ c.from_residual.ensures.1 (stop_last_token (on_branch 4 (begin d mark_gram c.args.reader.now) some) c.in_err-take.ensures)

pub returns : goal.returns
unfolding Tree mark_made inject inject_by left_tree
returns c = λ d.
    let some = sym c.class.ensures ∙ class_same c.class.result (class.Word word.Var) c.ne.ensures c.if-ne.false in
    let s = closed_token (on_branch 4 (begin d mark_gram c.args.reader.now) some) c.in_ok-take.ensures in
    pass s.whole refl
