use Rattle.std.proofs.Common.{◌++◌, length, ap, ◌∙◌, arith}
use Rattle.text.specs.Steps.{at, step}
use Rattle.text.specs.Tokens.{is_end, lexeme}
use Rattle.text.proofs.Counting.{goes_on_lem}
use Rattle.cases.specs.Listings.{token_line}
use Rattle.cases.proofs.Listed.{to_list, list_start, list_more, list_end, list_fault}
use Rattle.cases.proofs.listing.listed.Goals as goal

pub loop-token-init : goal.loop-token-init
loop-token-init c = (
  c.new-lexer.ensures.source,
  ap (λ o. o ++ to_list c.args.source.now c.new-lexer.result.place) c.new-out.ensures.items
      ∙ ap (to_list c.args.source.now) c.new-lexer.ensures.place
      ∙ list_start c.args.source.now,
)

pub returns-in-End : goal.returns-in-End
returns-in-End c =
    let text = c.args.source.now in
    let i = c.loop-token.lexer.place in
    let p = c.in-Ok.token.place in
    let same = c.loop-token.invariant.0 in
    let long = ap length same in
    let within = c.loop-token.lexer.within in
    let told = c.in-Ok.ensures.stepped.answer ∙ ap (λ s. (step s i).answer) same in
    c.in_ok-list_token-in-Ok.ensures
    ∙ ap (λ l. c.loop-token.out.items ++ l) (ap (λ x. token_line p (lexeme x)) c.in-End.is ∙ list_end text i _ (omega arith) told (ap (λ x. is_end (lexeme x)) c.in-End.is))
    ∙ c.loop-token.invariant.1

pub loop-token-preserved : goal.loop-token-preserved
loop-token-preserved c =
    let text = c.args.source.now in
    let i = c.loop-token.lexer.place in
    let j = c.next_token.new.self.place in
    let same = c.loop-token.invariant.0 in
    let long = ap length same in
    let within = c.loop-token.lexer.within in
    let kept = ap (λ s. s.now) c.in-Ok.ensures.source in
    let told = c.in-Ok.ensures.stepped.answer ∙ ap (λ s. (step s i).answer) same in
    let after = c.in-Ok.ensures.stepped.after ∙ ap (λ s. (step s i).after) same in (
      kept ∙ same,
      ap (λ o. o ++ to_list text j) c.in_ok-list_token-in-Ok.ensures
          ∙ list_more text c.loop-token.out.items i j (at (lexeme c.in-Ok.token.item) c.in-Ok.token.place) (omega arith) told after (goes_on_lem c.in-Ok.token.item c.in_default.not-End)
          ∙ c.loop-token.invariant.1,
    )

pub returns-in-Err : goal.returns-in-Err
returns-in-Err c =
    let text = c.args.source.now in
    let i = c.loop-token.lexer.place in
    let same = c.loop-token.invariant.0 in
    let long = ap length same in
    let within = c.loop-token.lexer.within in
    let told = c.in-Err.ensures.stepped.answer ∙ ap (λ s. (step s i).answer) same in
    c.in_ok-writeln-in-Err.ensures.bytes
    ∙ ap (λ l. c.loop-token.out.items ++ l) (list_fault text i c.in-Err.refusal (omega arith) told)
    ∙ c.loop-token.invariant.1
