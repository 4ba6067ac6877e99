use Rattle.std.proofs.Common.{◌≡◌, ◌+◌, eqb, drop, Some, None, sym, refl, ap, ◌∙◌, rules, tests}
use Rattle.std.specs.List.{position}
use Rattle.std.specs.Option.{ok_or}
use Rattle.std.proofs.lemmas.Iterator.{YieldsList-from_slice}
use Rattle.std.proofs.lemmas.Iterator.Search.{position_from_yields_List}
use Rattle.std.proofs.lemmas.Result.{err_from_is_err_and}
use Rattle.text.specs.declared.tokens.LexFault.TheVariants.{CommentOpen}
use Rattle.text.specs.Lexemes.{blank}
use Rattle.std.specs.List.{prefix_len}
use Rattle.text.proofs.Gaps.{past_blanks, after_blanks, brace_read, gap_past, closing, comment_open, comment_shut}
use Rattle.text.proofs.lexing.Lexer.skip_gap.Goals as goal

pub returns-then-ne-clause-gap : goal.returns-then-ne-clause-gap
returns-then-ne-clause-gap c =
    let text = c.loop-self.self.source.now in
    let p = c.loop-self.self.place in
    let n = c.blanks.result in
    let e = c.blanks.ensures.run ∙ ap (prefix_len blank) c.rest.ensures in
    sym c.loop-self.invariant.1 ∙ past_blanks text p n e
    ∙ gap_past text (p + n) c.get.result _ c.get.ensures.lookup.3 refl (after_blanks text p n e) (sym c.ne.ensures ∙ c.if-ne.true)

pub returns-in_err-self-clause-gap : goal.returns-in_err-self-clause-gap
returns-in_err-self-clause-gap c =
    let text = c.loop-self.self.source.now in
    let p = c.loop-self.self.place in
    let n = c.blanks.result in
    let e = c.blanks.ensures.run ∙ ap (prefix_len blank) c.rest.ensures in
    let close =
    position_from_yields_List (λ b. eqb b 125) _ _ c.position-close.result c.position-close.ensures.ran (YieldsList-from_slice c.rest-in-loop-self.result.now cc) (λ x b q k. search (rules, tests))
    ∙ ap (position (λ b. eqb b 125)) c.rest-in-loop-self.ensures in
    let brace = brace_read text (p + n) c.get.result _ c.get.ensures.lookup.3 refl (sym c.ne.ensures ∙ c.if-ne.false) in
    let unclosed = closing (drop (p + n) text) None (sym c.in_err-self.ensures.ok_part ∙ close) in
    let r = err_from_is_err_and c.from_residual.result c.from_residual.ensures.1 in
    let g = sym c.loop-self.invariant.1 ∙ past_blanks text p n e ∙ comment_open text (p + n) brace.0 brace.1 unclosed in
    let told = c.in_err-self.ensures.value ∙ ap (λ o. ok_or o CommentOpen) c.in_err-self.ensures.ok_part in
    let fault : c.in_err-self.field-0.0 ≡ CommentOpen = cc in
    rw r.1 (r.2 ∙ fault, g)

pub loop-self-preserved : goal.loop-self-preserved
loop-self-preserved c =
    let text = c.loop-self.self.source.now in
    let p = c.loop-self.self.place in
    let n = c.blanks.result in
    let m = c.in_ok-self.field-0 in
    let e = c.blanks.ensures.run ∙ ap (prefix_len blank) c.rest.ensures in
    let close =
    position_from_yields_List (λ b. eqb b 125) _ _ c.position-close.result c.position-close.ensures.ran (YieldsList-from_slice c.rest-in-loop-self.result.now cc) (λ x b q k. search (rules, tests))
    ∙ ap (position (λ b. eqb b 125)) c.rest-in-loop-self.ensures in
    let brace = brace_read text (p + n) c.get.result _ c.get.ensures.lookup.3 refl (sym c.ne.ensures ∙ c.if-ne.false) in
    let closed = closing (drop (p + n) text) (Some m) (sym c.in_ok-self.ensures.ok_part ∙ close) in
    (c.loop-self.invariant.0, sym (sym c.loop-self.invariant.1 ∙ past_blanks text p n e ∙ comment_shut text (p + n) m brace.0 brace.1 closed))
