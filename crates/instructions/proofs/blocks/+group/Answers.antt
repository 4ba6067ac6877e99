use Rattle.std.proofs.Common.{[], ◌∷◌, sym, refl, ap, ◌∙◌, rules}
use Rattle.table.specs.declared.kinds.Kind.TheVariants as kind
use Rattle.text.specs.declared.spellings.Keyword.TheVariants as word
use Rattle.grammar.specs.declared.classing.TokenClass.TheVariants as class
use Rattle.grammar.specs.Firsts.{firsts}
use Rattle.grammar.specs.Grammars.{Tree}
use Rattle.grammar.specs.TokenClasses.{keyword_class, sign_class, among}
use Rattle.grammar.proofs.ClassNumbers.{class_differs, class_same}
use Rattle.syntax.specs.Nodes.{inner_made, rule_made, else_made, instruction_made}
use Rattle.syntax.specs.Syntax.{choice, repetition, instruction}
use Rattle.reading.specs.Nests.{nest_made}
use Rattle.reading.specs.States.{of_node, of_list}
use Rattle.reading.proofs.Branches.{as_branch, as_last, build_leaf, on_branch, on_last, on_nil, inject, inject_by, inject_last, left_tree, right_tree, nothing, none_of}
use Rattle.reading.proofs.Loops.{fails, ends, joins}
use Rattle.reading.proofs.Nests.{not_opened, opens_node}
use Rattle.reading.proofs.Sequences.{begin, first, later, past_token, closed_token, stop, stop_token, stop_last_token, exit, exit_node, pass, node, pair, leaf_made, over_is}
use Rattle.expressions.proofs.Chains.{bare_by}
use Rattle.instructions.specs.Blocks.{condition_made, else_gram}
use Rattle.instructions.specs.Simple.{of_expression_made, read_made, with_set_made}
use Rattle.instructions.proofs.Constructs.{instruction_item, none_yet, of_expression_by, with_set_by, NoWord, no_word, wordless_is, choice_begins, repetition_begins, without_else}
use Rattle.reading.proofs.Groups.{apiece, left_of, right_of, passes_on}
use Rattle.instructions.proofs.blocks.+group.Goals as goal

-- ---- lists

pub instructions-loop-reader-init : goal.instructions-loop-reader-init
instructions-loop-reader-init t c = none_yet c.args.allowed c.args.reader.now

pub instructions-returns-in_err-next : goal.instructions-returns-in_err-next
instructions-returns-in_err-next t c =
    let begins = ap (among (firsts instruction)) (sym c.class.ensures) ∙ sym c.may_begin.ensures ∙ c.loop-reader-test.true in
    exit of_list _ c.from_residual.ensures.1 (fails instruction_item c.loop-reader.invariant.going begins c.in_err-next.ensures.reads)

pub instructions-loop-reader-preserved : goal.instructions-loop-reader-preserved
instructions-loop-reader-preserved t c =
    let begins = ap (among (firsts instruction)) (sym c.class.ensures) ∙ sym c.may_begin.ensures ∙ c.loop-reader-test.true in
    let told = c.in_ok-next.ensures in
    joins instruction_item c.loop-reader.invariant begins told.reads told.last.0 told.last.1 c.nodes-last.ensures c.chain-first.ensures (λ x. refl)

pub instructions-returns : goal.instructions-returns
instructions-returns t c =
    let stops = ap (among (firsts instruction)) (sym c.class.ensures) ∙ sym c.may_begin.ensures ∙ c.loop-reader-test.false in
    ends instruction_item c.loop-reader.invariant.going stops

-- ---- one instruction

pub instruction-returns-in-Sign-Semicolon : goal.instruction-returns-in-Sign-Semicolon
unfolding Tree leaf_made instruction_made inject inject_by left_tree right_tree
instruction-returns-in-Sign-Semicolon t c = as_branch c.args.allowed 35 instruction (instruction_made (inner_made c.args.allowed)) (sym c.in-Sign-Semicolon.ensures ∙ ap sign_class c.in-Sign-Semicolon.field-0-is) (λ x n. refl) (build_leaf c.args.allowed 35 (bare_by kind.Empty (ap sign_class c.in-Sign-Semicolon.field-0-is) c.bare.ensures))

pub instruction-returns-in-Word-If : goal.instruction-returns-in-Word-If
unfolding Tree nest_made instruction_made inject inject_by left_tree right_tree
instruction-returns-in-Word-If t c = as_branch c.args.allowed 7 instruction (instruction_made (inner_made c.args.allowed)) (sym c.in-Word-If.ensures ∙ ap keyword_class c.in-Word-If.field-0-is) (λ x n. refl) c.choice.ensures

pub instruction-returns-in-Word-While : goal.instruction-returns-in-Word-While
unfolding Tree nest_made instruction_made inject inject_by left_tree right_tree
instruction-returns-in-Word-While t c = as_branch c.args.allowed 11 instruction (instruction_made (inner_made c.args.allowed)) (sym c.in-Word-While.ensures ∙ ap keyword_class c.in-Word-While.field-0-is) (λ x n. refl) c.repetition.ensures

pub instruction-returns-in-Word-Write : goal.instruction-returns-in-Word-Write
unfolding Tree of_expression_made instruction_made inject inject_by left_tree right_tree
instruction-returns-in-Word-Write t c = as_branch c.args.allowed 14 instruction (instruction_made (inner_made c.args.allowed)) (sym c.in-Word-Write.ensures ∙ ap keyword_class c.in-Word-Write.field-0-is) (λ x n. refl) (of_expression_by c.args.allowed kind.Write (ap keyword_class c.in-Word-Write.field-0-is) c.of_expression.ensures)

pub instruction-returns-in-Word-Read : goal.instruction-returns-in-Word-Read
unfolding Tree read_made instruction_made inject inject_by left_tree right_tree
instruction-returns-in-Word-Read t c = as_branch c.args.allowed 15 instruction (instruction_made (inner_made c.args.allowed)) (sym c.in-Word-Read.ensures ∙ ap keyword_class c.in-Word-Read.field-0-is) (λ x n. refl) (c.read_into.ensures c.args.allowed)

pub instruction-returns-in-Word-Add : goal.instruction-returns-in-Word-Add
unfolding Tree with_set_made instruction_made inject inject_by left_tree right_tree
instruction-returns-in-Word-Add t c = as_branch c.args.allowed 16 instruction (instruction_made (inner_made c.args.allowed)) (sym c.in-Word-Add.ensures ∙ ap keyword_class c.in-Word-Add.field-0-is) (λ x n. refl) (with_set_by c.args.allowed 17 kind.Add (ap keyword_class c.in-Word-Add.field-0-is) c.with_set.ensures)

pub instruction-returns-in-Word-Remove : goal.instruction-returns-in-Word-Remove
unfolding Tree with_set_made instruction_made inject inject_by left_tree right_tree
instruction-returns-in-Word-Remove t c = as_branch c.args.allowed 18 instruction (instruction_made (inner_made c.args.allowed)) (sym c.in-Word-Remove.ensures ∙ ap keyword_class c.in-Word-Remove.field-0-is) (λ x n. refl) (with_set_by c.args.allowed 19 kind.Remove (ap keyword_class c.in-Word-Remove.field-0-is) c.with_set-in-Word-Remove.ensures)

pub instruction-returns-in-Word-Return : goal.instruction-returns-in-Word-Return
unfolding Tree of_expression_made instruction_made inject inject_by left_tree right_tree
instruction-returns-in-Word-Return t c = as_branch c.args.allowed 20 instruction (instruction_made (inner_made c.args.allowed)) (sym c.in-Word-Return.ensures ∙ ap keyword_class c.in-Word-Return.field-0-is) (λ x n. refl) (of_expression_by c.args.allowed kind.Return (ap keyword_class c.in-Word-Return.field-0-is) c.of_expression-in-Word-Return.ensures)

pub instruction-returns-in_default : goal.instruction-returns-in_default
instruction-returns-in_default t c =
    let off : NoWord c.class.result = search rules in
    as_last c.args.allowed instruction (instruction_made (inner_made c.args.allowed)) (no_word c.class.result c.class.ensures off) (wordless_is c.args.allowed) c.wordless.ensures

-- ---- choices

pub choice-returns-in_err-place : goal.choice-returns-in_err-place
choice-returns-in_err-place t c = exit_node of_node _ c.from_residual.ensures.1 (not_opened c.args.allowed 7 choice c.in_err-place.ensures.takes)

pub choice-returns : goal.choice-returns
choice-returns t c =
    let o = c.in_ok-place.ensures in
    opens_node c.args.allowed 7 choice o.allows o.takes c.branches.ensures

pub branches-returns-in_err-truth : goal.branches-returns-in_err-truth
branches-returns-in_err-truth t c = exit_node of_node _ c.from_residual.ensures.1 (stop (choice_begins c.args.allowed c.args.reader.now) c.in_err-truth.ensures.reads)

pub branches-returns-in_err-then : goal.branches-returns-in_err-then
branches-returns-in_err-then t c =
    let s = first (choice_begins c.args.allowed c.args.reader.now) c.in_ok-truth.ensures.reads in
    exit_node of_node _ c.from_residual-in_err-then.ensures.1 (stop s.more c.in_err-then.ensures)

pub branches-returns-in_err-otherwise : goal.branches-returns-in_err-otherwise
branches-returns-in_err-otherwise t c =
    let s = first (choice_begins c.args.allowed c.args.reader.now) c.in_ok-truth.ensures.reads in
    let t = later s.more c.in_ok-then.ensures in
    exit_node of_node _ c.from_residual-in_err-otherwise.ensures.1 (stop t.more c.in_err-otherwise.ensures)

pub branches-returns-in_err-take : goal.branches-returns-in_err-take
branches-returns-in_err-take t c =
    let s = first (choice_begins c.args.allowed c.args.reader.now) c.in_ok-truth.ensures.reads in
    let t = later s.more c.in_ok-then.ensures in
    let u = later t.more c.in_ok-otherwise.ensures in
    exit_node of_node _ c.from_residual-in_err-take.ensures.1 (stop_token u.more c.in_err-take.ensures)

pub branches-returns-in_err-take-2 : goal.branches-returns-in_err-take-2
branches-returns-in_err-take-2 t c =
    let s = first (choice_begins c.args.allowed c.args.reader.now) c.in_ok-truth.ensures.reads in
    let t = later s.more c.in_ok-then.ensures in
    let u = later t.more c.in_ok-otherwise.ensures in
    let v = past_token u.more c.in_ok-take.ensures in
    exit_node of_node _ c.from_residual-in_err-take-2.ensures.1 (stop_last_token v.more c.in_err-take-2.ensures)

pub branches-returns : goal.branches-returns
unfolding Tree rule_made condition_made pair apiece left_of right_of
branches-returns t c =
    let s = first (choice_begins c.args.allowed c.args.reader.now) c.in_ok-truth.ensures.reads in
    let t = later s.more c.in_ok-then.ensures in
    let u = later t.more c.in_ok-otherwise.ensures in
    let v = past_token u.more c.in_ok-take.ensures in
    let w = closed_token v.more c.in_ok-take-2.ensures in
    node w.whole c.record.ensures (over_is kind.If {p = c.args.place} {f = c.in_ok-truth.truth.number} {s = c.in_ok-then.then} {u = c.in_ok-otherwise.otherwise} (search rules) refl s.number t.number u.number) refl

pub otherwise-returns-then-ne : goal.otherwise-returns-then-ne
unfolding Tree else_made inject_last right_tree nothing
otherwise-returns-then-ne t c =
    let none = none_of _ (9 ∷ []) ((λ e. class_differs c.class.result (class.Word word.Else) c.ne.ensures c.if-ne.true (c.class.ensures ∙ e)), tt) in
    pass (on_nil (on_last (begin c.args.allowed else_gram c.args.reader.now) none)) refl

pub otherwise-returns-in_err-take : goal.otherwise-returns-in_err-take
otherwise-returns-in_err-take t c =
    let some = sym c.class.ensures ∙ class_same c.class.result (class.Word word.Else) c.ne.ensures c.if-ne.false in
    exit of_list _ c.from_residual.ensures.1 (stop_token (on_branch 9 (begin c.args.allowed else_gram c.args.reader.now) some) c.in_err-take.ensures)

pub otherwise-returns : goal.otherwise-returns
unfolding Tree else_made pair inject inject_by left_tree
otherwise-returns t c =
    let some = sym c.class.ensures ∙ class_same c.class.result (class.Word word.Else) c.ne.ensures c.if-ne.false in
    let s = past_token (on_branch 9 (begin c.args.allowed else_gram c.args.reader.now) some) c.in_ok-take.ensures in
    passes_on _ s.more (λ x. refl) c.instructions.ensures

-- ---- repetitions

pub repetition-returns-in_err-place : goal.repetition-returns-in_err-place
repetition-returns-in_err-place t c = exit_node of_node _ c.from_residual.ensures.1 (not_opened c.args.allowed 11 repetition c.in_err-place.ensures.takes)

pub repetition-returns : goal.repetition-returns
repetition-returns t c =
    let o = c.in_ok-place.ensures in
    opens_node c.args.allowed 11 repetition o.allows o.takes c.repeated.ensures

pub repeated-returns-in_err-truth : goal.repeated-returns-in_err-truth
repeated-returns-in_err-truth t c = exit_node of_node _ c.from_residual.ensures.1 (stop (repetition_begins c.args.allowed c.args.reader.now) c.in_err-truth.ensures.reads)

pub repeated-returns-in_err-body : goal.repeated-returns-in_err-body
repeated-returns-in_err-body t c =
    let s = first (repetition_begins c.args.allowed c.args.reader.now) c.in_ok-truth.ensures.reads in
    exit_node of_node _ c.from_residual-in_err-body.ensures.1 (stop s.more c.in_err-body.ensures)

pub repeated-returns-in_err-take : goal.repeated-returns-in_err-take
repeated-returns-in_err-take t c =
    let s = first (repetition_begins c.args.allowed c.args.reader.now) c.in_ok-truth.ensures.reads in
    let t = later s.more c.in_ok-body.ensures in
    exit_node of_node _ c.from_residual-in_err-take.ensures.1 (stop_token t.more c.in_err-take.ensures)

pub repeated-returns-in_err-take-2 : goal.repeated-returns-in_err-take-2
repeated-returns-in_err-take-2 t c =
    let s = first (repetition_begins c.args.allowed c.args.reader.now) c.in_ok-truth.ensures.reads in
    let t = later s.more c.in_ok-body.ensures in
    let u = past_token t.more c.in_ok-take.ensures in
    exit_node of_node _ c.from_residual-in_err-take-2.ensures.1 (stop_last_token u.more c.in_err-take-2.ensures)

pub repeated-returns : goal.repeated-returns
unfolding Tree rule_made condition_made pair apiece left_of right_of
repeated-returns t c =
    let s = first (repetition_begins c.args.allowed c.args.reader.now) c.in_ok-truth.ensures.reads in
    let t = later s.more c.in_ok-body.ensures in
    let u = past_token t.more c.in_ok-take.ensures in
    let v = closed_token u.more c.in_ok-take-2.ensures in
    node v.whole c.record.ensures (over_is kind.While {p = c.args.place} {f = c.in_ok-truth.truth.number} {s = c.in_ok-body.body} {u = 0} (search rules) refl s.number t.number refl) (without_else _ _ _)
