use Rattle.std.proofs.Common.{◌≡◌, ℕ, List, [], ◌∷◌, sym, refl, ap, ◌∙◌, inl, inr, arith}
use Rattle.std.proofs.lemmas.Grind.{common_steps}
use Rattle.text.specs.declared.spellings.Keyword.TheVariants as word
use Rattle.text.specs.declared.spellings.Sign.TheVariants as mark
use Rattle.grammar.specs.declared.classing.TokenClass.{TokenClass}
use Rattle.grammar.specs.declared.classing.TokenClass.TheVariants as class
use Rattle.grammar.specs.Grammars.{Tree, TreeAt}
use Rattle.grammar.specs.TokenClasses.{among}
use Rattle.grammar.proofs.ClassNumbers.{class_among, class_is, class_is_not}
use Rattle.syntax.specs.Nodes.{inner_made, parameter_made, parameters_made}
use Rattle.syntax.specs.Syntax.{rule, parameter, parameters}
use Rattle.reading.specs.States.{Answer, Reads, stream_of, of_list}
use Rattle.grammar.specs.Parsers.{parse_at}
use Rattle.reading.specs.declared.readers.Reader.{Reader}
use Rattle.reading.proofs.Branches.{reads_as, on_first, on_last, on_nil, inject_last, right_tree, nothing, none_of}
use Rattle.reading.proofs.Loops.{fails, ends, joins}
use Rattle.reading.proofs.Sequences.{begin, stop, past_token, stop_token, stop_last, exit, pass, unit}
use Rattle.reading.proofs.Commas.{next_gram, next_made, next_item, next_read, list_made, list_starts}
use Rattle.declarations.proofs.parameters.parameters.Goals as goal

abbrev starts : List TokenClass
starts = class.Word word.Var ∷ (class.Name ∷ [])

-- parameters are such a list
same_list : (d : ℕ) (x : TreeAt rule d parameters) (n : ℕ) → parameters_made (inner_made d) x n ≡ list_made d parameter (parameter_made (inner_made d)) x n
unfolding Tree parameters_made list_made
same_list d (inl x) n = refl
same_list d (inr x) n = refl

as_parameters : (d : ℕ) {a b : Reader} {r : Answer} → Reads (list_made d parameter (parameter_made (inner_made d))) (parse_at rule d parameters (stream_of a)) a r b → Reads (parameters_made (inner_made d)) (parse_at rule d parameters (stream_of a)) a r b
as_parameters d {a} r = reads_as (parameters_made (inner_made d)) (parse_at rule d parameters (stream_of a)) (λ x. x) (unit _) (same_list d) r

pub returns-then-not-contains : goal.returns-then-not-contains
unfolding Tree parameters_made inject_last right_tree nothing
returns-then-not-contains c = λ d.
    let none = class_among starts c.class.result c.class.ensures c.contains.ensures.value c.if-not-contains.true in
    pass (on_nil (on_last (begin d parameters c.args.reader.now) none)) refl

pub returns-in_err-first : goal.returns-in_err-first
returns-in_err-first c = λ d.
    let some = class_among starts c.class.result c.class.ensures c.contains.ensures.value c.if-not-contains.false in
    exit of_list _ c.from_residual.ensures.1 (stop (on_first (begin d parameters c.args.reader.now) some) (c.in_err-first.ensures d).reads)

pub returns-in_err-take : goal.returns-in_err-take
returns-in_err-take c = λ d.
    let act = parameter_made (inner_made d) in
    let some = class_among starts c.class.result c.class.ensures c.contains.ensures.value c.if-not-contains.false in
    let w = c.loop-reader.invariant d _ _ (list_starts d parameter act some (c.in_ok-first.ensures d)) in
    let comma = ap (among (37 ∷ [])) (sym c.class-in-loop-reader.ensures ∙ class_is c.class-in-loop-reader.result (class.Sign mark.Comma) c.eq.ensures c.loop-reader-test.true) in
    exit of_list _ c.from_residual-in_err-take.ensures.1 (as_parameters d (fails (next_item parameter) w.going comma (stop_token {out = next_made d parameter act} (begin d (next_gram parameter) c.loop-reader.reader) c.in_err-take.ensures)))

pub returns-in_err-next : goal.returns-in_err-next
returns-in_err-next c = λ d.
    let act = parameter_made (inner_made d) in
    let some = class_among starts c.class.result c.class.ensures c.contains.ensures.value c.if-not-contains.false in
    let w = c.loop-reader.invariant d _ _ (list_starts d parameter act some (c.in_ok-first.ensures d)) in
    let comma = ap (among (37 ∷ [])) (sym c.class-in-loop-reader.ensures ∙ class_is c.class-in-loop-reader.result (class.Sign mark.Comma) c.eq.ensures c.loop-reader-test.true) in
    let s = past_token (begin d (next_gram parameter) c.loop-reader.reader) c.in_ok-take.ensures in
    exit of_list _ c.from_residual-in_err-next.ensures.1 (as_parameters d (fails (next_item parameter) w.going comma (stop_last {out = next_made d parameter act} s.more (c.in_err-next.ensures d).reads)))

pub loop-reader-smaller : goal.loop-reader-smaller
loop-reader-smaller c =
    let told = c.in_ok-next.ensures 0 in
    let on = told.reads.goes.onward in
    let step = c.in_ok-take.ensures.steps.1 in
    grind (arith, common_steps)

pub loop-reader-preserved : goal.loop-reader-preserved
unfolding next_made
loop-reader-preserved c = λ d R a w.
    let act = parameter_made (inner_made d) in
    let g = c.loop-reader.invariant d R a w in
    let comma = ap (among (37 ∷ [])) (sym c.class-in-loop-reader.ensures ∙ class_is c.class-in-loop-reader.result (class.Sign mark.Comma) c.eq.ensures c.loop-reader-test.true) in
    let taken = c.in_ok-take.ensures in
    let told = c.in_ok-next.ensures d in
    let kept = taken.steps.0 in
    let more = told.last.1 in
    joins (next_item parameter) g comma (next_read d parameter act taken told.reads) told.last.0 (omega arith) c.nodes-last.ensures c.chain-first.ensures (λ x. refl)

pub returns : goal.returns
returns c = λ d.
    let act = parameter_made (inner_made d) in
    let some = class_among starts c.class.result c.class.ensures c.contains.ensures.value c.if-not-contains.false in
    let w = c.loop-reader.invariant d _ _ (list_starts d parameter act some (c.in_ok-first.ensures d)) in
    as_parameters d (ends (next_item parameter) w.going (none_of _ (37 ∷ []) ((λ e. class_is_not c.class-in-loop-reader.result (class.Sign mark.Comma) c.eq.ensures c.loop-reader-test.false (c.class-in-loop-reader.ensures ∙ e)), tt)))
