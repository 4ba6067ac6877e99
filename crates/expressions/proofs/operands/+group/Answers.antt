use Rattle.std.proofs.Common.{[], ◌∷◌, sym, refl, ap, ◌∙◌, arith, rules}
use Rattle.table.specs.declared.kinds.Kind.TheVariants as kind
use Rattle.grammar.specs.Grammars.{Tree}
use Rattle.grammar.specs.declared.classing.TokenClass.TheVariants as class
use Rattle.grammar.specs.TokenClasses.{keyword_class, sign_class, among}
use Rattle.grammar.proofs.ClassNumbers.{class_is, class_is_not, class_differs, class_same, class_among}
use Rattle.text.specs.declared.spellings.Sign.TheVariants as mark
use Rattle.syntax.specs.Nodes.{inner_made, rule_made, operand_made, named_made, negation_made, expression_made, operator_kind}
use Rattle.syntax.specs.Syntax.{rule, expression, arguments, parentheses, negated, compared, comparison, negation, operand, named}
use Rattle.reading.specs.Nests.{nest_made}
use Rattle.reading.specs.States.{stream_of, of_node, of_list}
use Rattle.reading.specs.Steps.{of_variable_made}
use Rattle.reading.proofs.Branches.{as_branch, as_last, build_leaf, on_branch, on_first, on_last, on_nil, inject, inject_by, inject_last, left_tree, right_tree, nothing, none_of}
use Rattle.reading.proofs.Commas.{next_gram, next_made, next_item, next_read, list_starts}
use Rattle.reading.proofs.Loops.{turns, fails, ends, joins}
use Rattle.reading.proofs.Marks.{past_mark, stop_mark}
use Rattle.reading.proofs.Nests.{not_opened, opens, opens_node}
use Rattle.reading.proofs.Sequences.{begin, first, only, past_token, past_name, closed_token, stop, stop_last, stop_token, stop_last_token, as_leaf_lem, exit, exit_node, pass, node, pair, leaf_made, over_is, over_as, titled_is}
use Rattle.expressions.specs.declared.layers.Layer.TheVariants as layer
use Rattle.expressions.specs.Layers.{first_sign, other_signs, turn_gram, layer_gram, turn_made, compared_made_over}
use Rattle.expressions.specs.Rules.{arguments_gram, arguments_made}
use Rattle.expressions.proofs.Chains.{layer_item, layer_turns, compared_item, compared_turns, from_product, from_operand, from_negation, to_expression, to_sum, tighter_as, take_signs, bare_by, of_variable_by, layer_begins, NoOperand, no_operand, signs_of_comparison, starts_of_compared, starts_of_expression, layered_start, comparison_start, as_arguments, arguments_rule, denial_ok, denial_stop}
use Rattle.expressions.proofs.operands.+group.Goals as goal

-- ---- layers

pub expression-returns : goal.expression-returns
expression-returns t c = to_expression c.args.allowed c.layered.ensures

pub tighter-returns-in-Product : goal.tighter-returns-in-Product
tighter-returns-in-Product t c = tighter_as c.args.allowed layer.Product c.in-Product.is (from_operand c.args.allowed c.operand.ensures)

pub tighter-returns-in-Sum : goal.tighter-returns-in-Sum
tighter-returns-in-Sum t c = tighter_as c.args.allowed layer.Sum c.in-Sum.is (from_product c.args.allowed c.layered.ensures)

pub tighter-returns-in-Logic : goal.tighter-returns-in-Logic
tighter-returns-in-Logic t c = tighter_as c.args.allowed layer.Logic c.in-Logic.is (from_negation c.args.allowed c.negation.ensures)

pub layered-returns-in_err-left : goal.layered-returns-in_err-left
layered-returns-in_err-left t c = exit_node of_node _ c.from_residual.ensures.1 (stop (begin c.args.allowed (layer_gram c.args.layer) c.args.reader.now) c.in_err-left.ensures.reads)

pub layered-returns-in_err-left-2 : goal.layered-returns-in_err-left-2
layered-returns-in_err-left-2 t c =
    let l = c.args.layer in
    let w = c.loop-layer.invariant.0 _ _ (layered_start c.args.allowed l c.in_ok-left.ensures.reads) in
    let begins = layer_begins l c.signs.result.now c.class.result (stream_of c.loop-layer.reader) c.signs.ensures c.class.ensures c.contains.ensures.value c.loop-layer-test.true in
    exit_node of_node _ c.from_residual-in_err-left-2.ensures.1 (fails (layer_item l) w begins c.in_err-left-2.ensures.reads)

pub layered-loop-layer-preserved : goal.layered-loop-layer-preserved
layered-loop-layer-preserved t c =
    let l = c.args.layer in
    let begins = layer_begins l c.signs.result.now c.class.result (stream_of c.loop-layer.reader) c.signs.ensures c.class.ensures c.contains.ensures.value c.loop-layer-test.true in
    let told = c.in_ok-left-2.ensures in
    let below = c.loop-layer.invariant.1.1 in
    let more = told.last.1 in
    ((λ R a w. let g = c.loop-layer.invariant.0 R a w in turns (layer_item l) g begins told.reads (λ x. layer_turns c.args.allowed l g.made _ a.count g.number x)), (told.last.0, omega arith))

pub layered-returns : goal.layered-returns
layered-returns t c =
    let l = c.args.layer in
    let told = c.in_ok-left.ensures in
    let w = c.loop-layer.invariant.0 _ _ (layered_start c.args.allowed l told.reads) in
    let stops = layer_begins l c.signs.result.now c.class.result (stream_of c.loop-layer.reader) c.signs.ensures c.class.ensures c.contains.ensures.value c.loop-layer-test.false in
    let below = c.loop-layer.invariant.1.1 in
    let more = told.last.1 in
    record { reads = ends (layer_item l) w stops; last = (c.loop-layer.invariant.1.0, omega arith) }

pub operation-returns-in_err-sign : goal.operation-returns-in_err-sign
operation-returns-in_err-sign t c =
    let l = c.args.layer in
    exit_node of_node _ c.from_residual.ensures.1 (stop_mark (first_sign l) (other_signs l) (begin c.args.allowed (turn_gram l) c.args.reader.now) (take_signs c.signs.ensures c.in_err-sign.ensures))

pub operation-returns-in_err-right : goal.operation-returns-in_err-right
operation-returns-in_err-right t c =
    let l = c.args.layer in
    let s = past_mark (first_sign l) (other_signs l) (begin c.args.allowed (turn_gram l) c.args.reader.now) (take_signs c.signs.ensures c.in_ok-sign.ensures) in
    exit_node of_node _ c.from_residual-in_err-right.ensures.1 (stop_last s.more c.in_err-right.ensures.reads)

pub operation-returns : goal.operation-returns
unfolding Tree turn_made pair
operation-returns t c =
    let l = c.args.layer in
    let s = past_mark (first_sign l) (other_signs l) (begin c.args.allowed (turn_gram l) c.args.reader.now) (take_signs c.signs.ensures c.in_ok-sign.ensures) in
    let u = only s.more c.in_ok-right.ensures.reads in
    node u.whole c.record.ensures (over_as _ _ c.joined-node.ensures (c.operator_kind.ensures ∙ ap operator_kind s.number) s.place refl u.number refl) refl

-- ---- negations and comparisons

pub negation-returns-then-eq : goal.negation-returns-then-eq
unfolding Tree negation_made nest_made inject inject_by left_tree
negation-returns-then-eq t c = as_branch c.args.allowed 47 negation (negation_made (inner_made c.args.allowed)) (sym c.class.ensures ∙ class_is c.class.result (class.Sign mark.Not) c.eq.ensures c.if-eq.true) (λ x n. refl) c.denial.ensures

pub negation-returns-else-eq : goal.negation-returns-else-eq
unfolding Tree negation_made inject_last right_tree
negation-returns-else-eq t c = as_last c.args.allowed negation (negation_made (inner_made c.args.allowed)) (none_of _ (47 ∷ []) ((λ e. class_is_not c.class.result (class.Sign mark.Not) c.eq.ensures c.if-eq.false (c.class.ensures ∙ e)), tt)) (λ x n. refl) c.comparison.ensures

pub denial-returns-in_err-place : goal.denial-returns-in_err-place
denial-returns-in_err-place t c = exit_node of_node _ c.from_residual.ensures.1 (not_opened c.args.allowed 47 negated c.in_err-place.ensures.takes)

pub denial-returns-in_err-inner : goal.denial-returns-in_err-inner
denial-returns-in_err-inner t c =
    let o = c.in_ok-place.ensures in
    exit_node of_node _ c.from_residual-in_err-inner.ensures.1 (denial_stop c.args.allowed o.allows o.takes c.in_err-inner.ensures.reads)

pub denial-returns : goal.denial-returns
denial-returns t c =
    let o = c.in_ok-place.ensures in
    denial_ok c.args.allowed o.allows o.takes c.in_ok-inner.ensures.reads c.record.ensures (search rules)

pub comparison-returns-in_err-left : goal.comparison-returns-in_err-left
comparison-returns-in_err-left t c = exit_node of_node _ c.from_residual.ensures.1 (stop (begin c.args.allowed comparison c.args.reader.now) (to_sum c.args.allowed c.in_err-left.ensures).reads)

pub comparison-returns-in_err-left-2 : goal.comparison-returns-in_err-left-2
comparison-returns-in_err-left-2 t c =
    let w = c.loop-reader.invariant.0 _ _ (comparison_start c.args.allowed (to_sum c.args.allowed c.in_ok-left.ensures).reads) in
    let begins = class_among starts_of_compared c.class.result c.class.ensures c.contains.ensures.value c.loop-reader-test.true in
    exit_node of_node _ c.from_residual-in_err-left-2.ensures.1 (fails compared_item w begins c.in_err-left-2.ensures.reads)

pub comparison-loop-reader-preserved : goal.comparison-loop-reader-preserved
comparison-loop-reader-preserved t c =
    let begins = class_among starts_of_compared c.class.result c.class.ensures c.contains.ensures.value c.loop-reader-test.true in
    let told = c.in_ok-left-2.ensures in
    let below = c.loop-reader.invariant.1.1 in
    let more = told.last.1 in
    ((λ R a w. let g = c.loop-reader.invariant.0 R a w in turns compared_item g begins told.reads (λ x. compared_turns c.args.allowed g.made _ a.count g.number x)), (told.last.0, omega arith))

pub comparison-returns : goal.comparison-returns
comparison-returns t c =
    let told = to_sum c.args.allowed c.in_ok-left.ensures in
    let w = c.loop-reader.invariant.0 _ _ (comparison_start c.args.allowed told.reads) in
    let stops = class_among starts_of_compared c.class.result c.class.ensures c.contains.ensures.value c.loop-reader-test.false in
    let below = c.loop-reader.invariant.1.1 in
    let more = told.last.1 in
    record { reads = ends compared_item w stops; last = (c.loop-reader.invariant.1.0, omega arith) }

pub compared-returns-in_err-place : goal.compared-returns-in_err-place
compared-returns-in_err-place t c =
    let none = class_among signs_of_comparison c.class.result c.class.ensures c.contains.ensures.value c.if-not-contains.true in
    exit_node of_node _ c.from_residual.ensures.1 (stop_token (on_last (begin c.args.allowed compared c.args.reader.now) none) c.in_err-place.ensures)

pub compared-returns-in_err-right : goal.compared-returns-in_err-right
compared-returns-in_err-right t c =
    let none = class_among signs_of_comparison c.class.result c.class.ensures c.contains.ensures.value c.if-not-contains.true in
    let s = past_token (on_last (begin c.args.allowed compared c.args.reader.now) none) c.in_ok-place.ensures in
    exit_node of_node _ c.from_residual-in_err-right.ensures.1 (stop_last s.more (as_leaf_lem c.args.allowed 51 c.in_err-right.ensures.reads))

pub compared-returns-then-not-contains : goal.compared-returns-then-not-contains
unfolding Tree compared_made_over pair leaf_made inject_last right_tree
compared-returns-then-not-contains t c =
    let none = class_among signs_of_comparison c.class.result c.class.ensures c.contains.ensures.value c.if-not-contains.true in
    let s = past_token (on_last (begin c.args.allowed compared c.args.reader.now) none) c.in_ok-place.ensures in
    let u = only s.more (as_leaf_lem c.args.allowed 51 c.in_ok-right.ensures.reads) in
    node u.whole c.record.ensures (over_is kind.In c.joined.ensures s.place refl u.number refl) refl

pub compared-returns-in_err-sign : goal.compared-returns-in_err-sign
compared-returns-in_err-sign t c =
    let some = class_among signs_of_comparison c.class.result c.class.ensures c.contains.ensures.value c.if-not-contains.false in
    exit_node of_node _ c.from_residual-in_err-sign.ensures.1 (stop_mark 45 (46 ∷ (32 ∷ [])) (on_first (begin c.args.allowed compared c.args.reader.now) some) c.in_err-sign.ensures)

pub compared-returns-in_err-right-2 : goal.compared-returns-in_err-right-2
compared-returns-in_err-right-2 t c =
    let some = class_among signs_of_comparison c.class.result c.class.ensures c.contains.ensures.value c.if-not-contains.false in
    let s = past_mark 45 (46 ∷ (32 ∷ [])) (on_first (begin c.args.allowed compared c.args.reader.now) some) c.in_ok-sign.ensures in
    exit_node of_node _ c.from_residual-in_err-right-2.ensures.1 (stop_last s.more (to_sum c.args.allowed c.in_err-right-2.ensures).reads)

pub compared-returns : goal.compared-returns
unfolding Tree compared_made_over pair left_tree
compared-returns t c =
    let some = class_among signs_of_comparison c.class.result c.class.ensures c.contains.ensures.value c.if-not-contains.false in
    let s = past_mark 45 (46 ∷ (32 ∷ [])) (on_first (begin c.args.allowed compared c.args.reader.now) some) c.in_ok-sign.ensures in
    let u = only s.more (to_sum c.args.allowed c.in_ok-right-2.ensures).reads in
    node u.whole c.record-2.ensures (over_as _ _ c.joined-node.ensures (c.operator_kind.ensures ∙ ap operator_kind s.number) s.place refl u.number refl) refl

-- ---- operands

pub operand-returns-in-Number : goal.operand-returns-in-Number
unfolding Tree operand_made inject inject_by left_tree right_tree
operand-returns-in-Number t c = as_branch c.args.allowed 52 operand (operand_made (inner_made c.args.allowed)) (sym c.in-Number.ensures) (λ x n. refl) (c.number.ensures c.args.allowed)

pub operand-returns-in-Sign-Minus : goal.operand-returns-in-Sign-Minus
unfolding Tree operand_made inject inject_by left_tree right_tree
operand-returns-in-Sign-Minus t c = as_branch c.args.allowed 41 operand (operand_made (inner_made c.args.allowed)) (sym c.in-Sign-Minus.ensures ∙ ap sign_class c.in-Sign-Minus.field-0-is) (λ x n. refl) (c.number-in-Sign-Minus.ensures c.args.allowed)

pub operand-returns-in-Word-True : goal.operand-returns-in-Word-True
unfolding Tree leaf_made operand_made inject inject_by left_tree right_tree
operand-returns-in-Word-True t c = as_branch c.args.allowed 21 operand (operand_made (inner_made c.args.allowed)) (sym c.in-Word-True.ensures ∙ ap keyword_class c.in-Word-True.field-0-is) (λ x n. refl) (build_leaf c.args.allowed 21 (bare_by kind.True (ap keyword_class c.in-Word-True.field-0-is) c.bare.ensures))

pub operand-returns-in-Word-False : goal.operand-returns-in-Word-False
unfolding Tree leaf_made operand_made inject inject_by left_tree right_tree
operand-returns-in-Word-False t c = as_branch c.args.allowed 22 operand (operand_made (inner_made c.args.allowed)) (sym c.in-Word-False.ensures ∙ ap keyword_class c.in-Word-False.field-0-is) (λ x n. refl) (build_leaf c.args.allowed 22 (bare_by kind.False (ap keyword_class c.in-Word-False.field-0-is) c.bare-in-Word-False.ensures))

pub operand-returns-in-Name : goal.operand-returns-in-Name
unfolding Tree operand_made inject inject_by left_tree right_tree
operand-returns-in-Name t c = as_branch c.args.allowed 51 operand (operand_made (inner_made c.args.allowed)) (sym c.in-Name.ensures) (λ x n. refl) c.named.ensures

pub operand-returns-in-Word-Min : goal.operand-returns-in-Word-Min
unfolding Tree of_variable_made operand_made inject inject_by left_tree right_tree
operand-returns-in-Word-Min t c = as_branch c.args.allowed 23 operand (operand_made (inner_made c.args.allowed)) (sym c.in-Word-Min.ensures ∙ ap keyword_class c.in-Word-Min.field-0-is) (λ x n. refl) (of_variable_by c.args.allowed kind.Least (ap keyword_class c.in-Word-Min.field-0-is) (c.of_variable-in-Word-Min.ensures c.args.allowed))

pub operand-returns-in-Word-Max : goal.operand-returns-in-Word-Max
unfolding Tree of_variable_made operand_made inject inject_by left_tree right_tree
operand-returns-in-Word-Max t c = as_branch c.args.allowed 24 operand (operand_made (inner_made c.args.allowed)) (sym c.in-Word-Max.ensures ∙ ap keyword_class c.in-Word-Max.field-0-is) (λ x n. refl) (of_variable_by c.args.allowed kind.Greatest (ap keyword_class c.in-Word-Max.field-0-is) (c.of_variable-in-Word-Max.ensures c.args.allowed))

pub operand-returns-in-Sign-Count : goal.operand-returns-in-Sign-Count
unfolding Tree of_variable_made operand_made inject inject_by left_tree right_tree
operand-returns-in-Sign-Count t c = as_branch c.args.allowed 44 operand (operand_made (inner_made c.args.allowed)) (sym c.in-Sign-Count.ensures ∙ ap sign_class c.in-Sign-Count.field-0-is) (λ x n. refl) (of_variable_by c.args.allowed kind.Count (ap sign_class c.in-Sign-Count.field-0-is) (c.of_variable.ensures c.args.allowed))

pub operand-returns-in_default : goal.operand-returns-in_default
unfolding Tree operand_made nest_made inject_last right_tree
operand-returns-in_default t c =
    let off : NoOperand c.class.result = search rules in
    as_last c.args.allowed operand (operand_made (inner_made c.args.allowed)) (no_operand c.class.result c.class.ensures off) (λ x n. refl) c.parentheses.ensures

pub named-returns-in_err-name : goal.named-returns-in_err-name
named-returns-in_err-name t c = exit_node of_node _ c.from_residual.ensures.1 (stop_token (begin c.args.allowed named c.args.reader.now) c.in_err-name.ensures)

pub named-returns-then-ne : goal.named-returns-then-ne
unfolding Tree named_made pair leaf_made inject_last right_tree nothing
named-returns-then-ne t c =
    let s = past_name (begin c.args.allowed named c.args.reader.now) c.in_ok-name.ensures in
    let w = on_nil (on_last s.more (none_of _ (38 ∷ []) ((λ e. class_differs c.class.result (class.Sign mark.Open) c.ne.ensures c.if-ne.true (c.class.ensures ∙ e)), tt))) in
    node w c.record.ensures (titled_is kind.Variable c.node.ensures s.number s.place refl refl refl refl) refl

pub named-returns-in_err-first : goal.named-returns-in_err-first
named-returns-in_err-first t c =
    let s = past_name (begin c.args.allowed named c.args.reader.now) c.in_ok-name.ensures in
    exit_node of_node _ c.from_residual-in_err-first.ensures.1 (stop_last (on_branch 38 s.more (sym c.class.ensures ∙ class_same c.class.result (class.Sign mark.Open) c.ne.ensures c.if-ne.false)) c.in_err-first.ensures)

pub named-returns : goal.named-returns
unfolding Tree named_made nest_made pair leaf_made inject inject_by left_tree
named-returns t c =
    let s = past_name (begin c.args.allowed named c.args.reader.now) c.in_ok-name.ensures in
    let u = only (on_branch 38 s.more (sym c.class.ensures ∙ class_same c.class.result (class.Sign mark.Open) c.ne.ensures c.if-ne.false)) c.in_ok-first.ensures in
    node u.whole c.record-2.ensures (titled_is kind.Call {l = c.in_ok-name.name.length} {p = c.in_ok-name.name.place} {f = c.in_ok-first.first} {s = 0} {u = 0} {w = 0} (search rules) s.number s.place u.number refl refl refl) refl

-- ---- arguments

pub arguments-returns-in_err-_place : goal.arguments-returns-in_err-_place
arguments-returns-in_err-_place t c = exit of_list _ c.from_residual.ensures.1 (not_opened c.args.allowed 38 arguments c.in_err-_place.ensures.takes)

pub arguments-returns : goal.arguments-returns
arguments-returns t c =
    let o = c.in_ok-_place.ensures in
    opens c.args.allowed 38 arguments o.allows o.takes (c.closed_arguments.ensures c.in_ok-_place._place)

pub closed_arguments-returns-in_err-first : goal.closed_arguments-returns-in_err-first
closed_arguments-returns-in_err-first t c = λ p. exit of_list _ c.from_residual.ensures.1 (stop (begin c.args.allowed (rule arguments) c.args.reader.now) c.in_err-first.ensures)

pub closed_arguments-returns-in_err-take : goal.closed_arguments-returns-in_err-take
closed_arguments-returns-in_err-take t c = λ p.
    let s = first (begin c.args.allowed (rule arguments) c.args.reader.now) c.in_ok-first.ensures in
    exit of_list _ c.from_residual-in_err-take.ensures.1 (stop_last_token s.more c.in_err-take.ensures)

pub closed_arguments-returns : goal.closed_arguments-returns
closed_arguments-returns t c = λ p.
    let a = c.args.reader.now in
    let s = first (begin c.args.allowed (rule arguments) a) c.in_ok-first.ensures in
    let u = closed_token s.more c.in_ok-take.ensures in
    pass u.whole ((λ i. record { nodes = (arguments_made c.args.allowed s.tree a.count).nodes; number = s.number i; place = s.place i }) ∙ arguments_rule c.args.allowed p a.count s.tree u.tree)

pub expressions-returns-then-not-contains : goal.expressions-returns-then-not-contains
unfolding Tree arguments_made inject_last right_tree nothing
expressions-returns-then-not-contains t c =
    let none = class_among starts_of_expression c.class.result c.class.ensures c.contains.ensures.value c.if-not-contains.true in
    pass (on_nil (on_last (begin c.args.allowed arguments_gram c.args.reader.now) none)) refl

pub expressions-returns-in_err-first : goal.expressions-returns-in_err-first
expressions-returns-in_err-first t c =
    let some = class_among starts_of_expression c.class.result c.class.ensures c.contains.ensures.value c.if-not-contains.false in
    exit of_list _ c.from_residual.ensures.1 (stop (on_first (begin c.args.allowed arguments_gram c.args.reader.now) some) c.in_err-first.ensures.reads)

pub expressions-returns-in_err-take : goal.expressions-returns-in_err-take
expressions-returns-in_err-take t c =
    let some = class_among starts_of_expression c.class.result c.class.ensures c.contains.ensures.value c.if-not-contains.false in
    let w = c.loop-reader.invariant _ _ (list_starts c.args.allowed expression (expression_made (inner_made c.args.allowed)) some c.in_ok-first.ensures) in
    let comma = ap (among (37 ∷ [])) (sym c.class-in-loop-reader.ensures ∙ class_is c.class-in-loop-reader.result (class.Sign mark.Comma) c.eq.ensures c.loop-reader-test.true) in
    exit of_list _ c.from_residual-in_err-take.ensures.1 (as_arguments c.args.allowed (fails (next_item expression) w.going comma (stop_token {out = next_made c.args.allowed expression (expression_made (inner_made c.args.allowed))} (begin c.args.allowed (next_gram expression) c.loop-reader.reader) c.in_err-take.ensures)))

pub expressions-returns-in_err-next : goal.expressions-returns-in_err-next
expressions-returns-in_err-next t c =
    let some = class_among starts_of_expression c.class.result c.class.ensures c.contains.ensures.value c.if-not-contains.false in
    let w = c.loop-reader.invariant _ _ (list_starts c.args.allowed expression (expression_made (inner_made c.args.allowed)) some c.in_ok-first.ensures) in
    let comma = ap (among (37 ∷ [])) (sym c.class-in-loop-reader.ensures ∙ class_is c.class-in-loop-reader.result (class.Sign mark.Comma) c.eq.ensures c.loop-reader-test.true) in
    let s = past_token (begin c.args.allowed (next_gram expression) c.loop-reader.reader) c.in_ok-take.ensures in
    exit of_list _ c.from_residual-in_err-next.ensures.1 (as_arguments c.args.allowed (fails (next_item expression) w.going comma (stop_last {out = next_made c.args.allowed expression (expression_made (inner_made c.args.allowed))} s.more c.in_err-next.ensures.reads)))

pub expressions-loop-reader-preserved : goal.expressions-loop-reader-preserved
unfolding next_made
expressions-loop-reader-preserved t c = λ R a w.
    let g = c.loop-reader.invariant R a w in
    let comma = ap (among (37 ∷ [])) (sym c.class-in-loop-reader.ensures ∙ class_is c.class-in-loop-reader.result (class.Sign mark.Comma) c.eq.ensures c.loop-reader-test.true) in
    let taken = c.in_ok-take.ensures in
    let told = c.in_ok-next.ensures in
    let kept = taken.steps.0 in
    let more = told.last.1 in
    joins (next_item expression) g comma (next_read c.args.allowed expression (expression_made (inner_made c.args.allowed)) taken told.reads) told.last.0 (omega arith) c.nodes-last.ensures c.chain-first.ensures (λ x. refl)

pub expressions-returns : goal.expressions-returns
expressions-returns t c =
    let some = class_among starts_of_expression c.class.result c.class.ensures c.contains.ensures.value c.if-not-contains.false in
    let w = c.loop-reader.invariant _ _ (list_starts c.args.allowed expression (expression_made (inner_made c.args.allowed)) some c.in_ok-first.ensures) in
    as_arguments c.args.allowed (ends (next_item expression) w.going (none_of _ (37 ∷ []) ((λ e. class_is_not c.class-in-loop-reader.result (class.Sign mark.Comma) c.eq.ensures c.loop-reader-test.false (c.class-in-loop-reader.ensures ∙ e)), tt)))

-- ---- parentheses

pub parentheses-returns-in_err-_place : goal.parentheses-returns-in_err-_place
parentheses-returns-in_err-_place t c = exit_node of_node _ c.from_residual.ensures.1 (not_opened c.args.allowed 38 parentheses c.in_err-_place.ensures.takes)

pub parentheses-returns : goal.parentheses-returns
parentheses-returns t c =
    let o = c.in_ok-_place.ensures in
    opens_node c.args.allowed 38 parentheses o.allows o.takes (c.enclosed.ensures c.in_ok-_place._place)

pub enclosed-returns-in_err-inner : goal.enclosed-returns-in_err-inner
enclosed-returns-in_err-inner t c = λ p. exit_node of_node _ c.from_residual.ensures.1 (stop (begin c.args.allowed (rule parentheses) c.args.reader.now) c.in_err-inner.ensures.reads)

pub enclosed-returns-in_err-take : goal.enclosed-returns-in_err-take
enclosed-returns-in_err-take t c = λ p.
    let s = first (begin c.args.allowed (rule parentheses) c.args.reader.now) c.in_ok-inner.ensures.reads in
    exit_node of_node _ c.from_residual-in_err-take.ensures.1 (stop_last_token s.more c.in_err-take.ensures)

pub enclosed-returns : goal.enclosed-returns
unfolding Tree rule_made pair
enclosed-returns t c = λ p.
    let a = c.args.reader.now in
    let told = c.in_ok-inner.ensures in
    let s = first (begin c.args.allowed (rule parentheses) a) told.reads in
    let taken = c.in_ok-take.ensures in
    let u = closed_token s.more taken in
    let same = taken.steps.0 in
    let more = told.last.1 in
    record {
      reads = pass u.whole (λ i. record { nodes = (expression_made (inner_made c.args.allowed) s.tree a.count).nodes; number = s.number i; place = s.place i });
      last = (told.last.0 ∙ sym same, omega arith);
    }
