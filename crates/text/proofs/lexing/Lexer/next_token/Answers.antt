use Rattle.std.proofs.Common.{◌≡◌, ◌≢◌, length, drop, None, Ok, Err, IfErr, sym, ◌∙◌, ap, subst, arith, rules}
use Rattle.std.proofs.lemmas.List.{length-drop}
use Rattle.std.proofs.lemmas.Result.{err_from_is_err_and}
use Rattle.text.specs.Laws.{Stepped}
use Rattle.text.specs.Steps.{gap, at, answered, front, taken}
use Rattle.text.proofs.Steps.{step_open, step_end, step_token, step_fault}
use Rattle.text.proofs.Stepped.{stepped, opened, faulted, taken_within}
use Rattle.text.proofs.lexing.Lexer.next_token.Goals as goal

pub returns-in_err-map_err-clause-stepped : goal.returns-in_err-map_err-clause-stepped
returns-in_err-map_err-clause-stepped c =
    let text = c.args.self.now.source.now in
    let i = c.args.self.now.place in
    let q = c.skip_gap-skipped.new.self.place in
    let here : IfErr c.skip_gap-skipped.result (λ e. c.in_err-map_err.field-0.0 ≡ at e q) = search rules in
    let (item, g) = opened c.skip_gap-skipped.result c.in_err-map_err.field-0.0 q (gap None (drop i text) i) c.skip_gap-skipped.ensures.gap (sym c.in_err-map_err.ensures.variant) here in
    let p = err_from_is_err_and c.from_residual.result c.from_residual.ensures.1 in
    subst (λ a. Stepped text i a q) (sym (ap answered p.1 ∙ ap Err (p.2 ∙ item)))
    (stepped text i _ c.args.self.now.within (step_open text i q g))

pub returns-then-is_empty-clause-stepped : goal.returns-then-is_empty-clause-stepped
returns-then-is_empty-clause-stepped c =
    let text = c.args.self.now.source.now in
    let i = c.args.self.now.place in
    let q = c.skip_gap-skipped.new.self.place in
    let g : gap None (drop i text) i ≡ Ok q = search rules in
    let rest = c.rest.ensures ∙ ap (λ s. drop q s.now) c.skip_gap-skipped.ensures.source in
    let size = ap length rest ∙ length-drop q text in
    let none : length c.rest.result.now ≡ 0 = search rules in
    stepped text i _ c.args.self.now.within (step_end text i q g (omega arith))

pub returns-in_err-item-clause-stepped : goal.returns-in_err-item-clause-stepped
returns-in_err-item-clause-stepped c =
    let text = c.args.self.now.source.now in
    let i = c.args.self.now.place in
    let q = c.skip_gap-skipped.new.self.place in
    let g : gap None (drop i text) i ≡ Ok q = search rules in
    let rest = c.rest-2.ensures ∙ ap (λ s. drop q s.now) c.skip_gap-skipped.ensures.source in
    let size = ap length (c.rest.ensures ∙ ap (λ s. drop q s.now) c.skip_gap-skipped.ensures.source) ∙ length-drop q text in
    let some : length c.rest.result.now ≢ 0 = search rules in
    let here : IfErr c.token_at.result (λ e. c.in_err-item.field-0.0 ≡ at e q) = search rules in
    let (f, item, told) = faulted c.token_at.result c.in_err-item.field-0.0 q _ c.token_at.ensures (sym c.in_err-item.ensures.variant) here in
    let p = err_from_is_err_and c.from_residual-in_err-item.result c.from_residual-in_err-item.ensures.1 in
    subst (λ a. Stepped text i a q) (sym (ap answered p.1 ∙ ap Err (p.2 ∙ item)))
    (stepped text i _ c.args.self.now.within (step_fault text i q f g (omega arith) (told ∙ ap front rest)))

pub overflow_add-self : goal.overflow_add-self
overflow_add-self c =
    let text = c.args.self.now.source.now in
    let q = c.skip_gap-skipped.new.self.place in
    let rest = c.rest-2.ensures ∙ ap (λ s. drop q s.now) c.skip_gap-skipped.ensures.source in
    let told : c.token_at.result ≡ Ok (c.in_ok-item.item, c.in_ok-item.width) = search rules in
    let same = ap (λ s. length s.now) c.skip_gap-skipped.ensures.source in
    let within = c.skip_gap-skipped.new.self.within in
    let end = taken_within text _ q _ c.in_ok-item.item c.in_ok-item.width (omega arith) rest c.token_at.ensures told in
    search rules

pub invariant_of-self : goal.invariant_of-self
invariant_of-self c =
    let text = c.args.self.now.source.now in
    let q = c.skip_gap-skipped.new.self.place in
    let rest = c.rest-2.ensures ∙ ap (λ s. drop q s.now) c.skip_gap-skipped.ensures.source in
    let told : c.token_at.result ≡ Ok (c.in_ok-item.item, c.in_ok-item.width) = search rules in
    let same = ap (λ s. length s.now) c.skip_gap-skipped.ensures.source in
    let within = c.skip_gap-skipped.new.self.within in
    let end = taken_within text _ q _ c.in_ok-item.item c.in_ok-item.width (omega arith) rest c.token_at.ensures told in
    record { within = omega arith }

pub returns-clause-stepped : goal.returns-clause-stepped
returns-clause-stepped c =
    let text = c.args.self.now.source.now in
    let i = c.args.self.now.place in
    let q = c.skip_gap-skipped.new.self.place in
    let g : gap None (drop i text) i ≡ Ok q = search rules in
    let rest = c.rest-2.ensures ∙ ap (λ s. drop q s.now) c.skip_gap-skipped.ensures.source in
    let size = ap length (c.rest.ensures ∙ ap (λ s. drop q s.now) c.skip_gap-skipped.ensures.source) ∙ length-drop q text in
    let some : length c.rest.result.now ≢ 0 = search rules in
    let told : c.token_at.result ≡ Ok (c.in_ok-item.item, c.in_ok-item.width) = search rules in
    let e = step_token text i q c.in_ok-item.width _ g (omega arith) (ap taken (sym told) ∙ c.token_at.ensures ∙ ap front rest) in
    stepped text i _ c.args.self.now.within e
