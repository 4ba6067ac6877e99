use Rattle.std.proofs.Common.{◌≡◌, ◌<◌, false, length, Ok, Err, sym, ap, ◌∙◌, subst, arith}
use Rattle.std.proofs.lemmas.Result.{err_from_is_err_and}
use Rattle.text.specs.Laws.{Counted}
use Rattle.text.specs.Lexings.{lexed, counted}
use Rattle.text.specs.Steps.{step}
use Rattle.text.specs.Tokens.{is_end, lexeme}
use Rattle.text.proofs.Counting.{to_count, count_start, count_more, count_end, count_fault, goes_on_lem, farther_on, counted_lawful}
use Rattle.text.proofs.lexing.count_tokens.Goals as goal

pub loop-token-init : goal.loop-token-init
loop-token-init c =
    (c.new-lexer.ensures.source, omega arith, ap (to_count c.args.source.now 0) c.new-lexer.ensures.place ∙ count_start c.args.source.now)

pub returns-in_err-token : goal.returns-in_err-token
returns-in_err-token c =
    let text = c.args.source.now in
    let i = c.loop-token.lexer.place in
    let same = c.loop-token.invariant.0 in
    let long = ap length same in
    let within = c.loop-token.lexer.within in
    let p = err_from_is_err_and c.from_residual.result c.from_residual.ensures.1 in
    let told = c.in_err-token.ensures.stepped.answer ∙ ap (λ s. (step s i).answer) same in
    let answer : c.from_residual.result ≡ counted (lexed text) = p.1 ∙ ap Err p.2 ∙ count_fault text c.loop-token.count i _ (omega arith) told ∙ c.loop-token.invariant.2 in
    record { answer = answer; lawful = subst (Counted text) (sym answer) (counted_lawful text) }

pub returns-in-End : goal.returns-in-End
returns-in-End c =
    let text = c.args.source.now in
    let i = c.loop-token.lexer.place in
    let same = c.loop-token.invariant.0 in
    let long = ap length same in
    let within = c.loop-token.lexer.within in
    let told = c.in_ok-token.ensures.stepped.answer ∙ ap (λ s. (step s i).answer) same in
    let answer : Ok c.loop-token.count ≡ counted (lexed text) = count_end text c.loop-token.count i _ (omega arith) told (ap (λ x. is_end (lexeme x)) c.in-End.is) ∙ c.loop-token.invariant.2 in
    record { answer = answer; lawful = subst (Counted text) (sym answer) (counted_lawful text) }

-- a token is not the end, and the lexer moves on
token_here : (c : goal.In_default) → is_end (lexeme c.in_ok-token.token.item) ≡ false
token_here c = goes_on_lem c.in_ok-token.token.item c.in_default.not-End

moves_on : (c : goal.In_default) → c.loop-token.lexer.place < c.next_token.new.self.place
moves_on c =
    let kept = ap (λ s. length s.now) c.in_ok-token.ensures.source in
    let within = c.next_token.new.self.within in
    farther_on c.loop-token.lexer.source.now c.loop-token.lexer.place c.next_token.new.self.place c.in_ok-token.token.place (lexeme c.in_ok-token.token.item)
    (omega arith) (token_here c) c.in_ok-token.ensures.stepped.shortens

pub loop-token-preserved : goal.loop-token-preserved
loop-token-preserved c =
    let text = c.args.source.now in
    let i = c.loop-token.lexer.place in
    let j = c.next_token.new.self.place in
    let same = c.loop-token.invariant.0 in
    let long = ap length same in
    let kept = ap (λ s. s.now) c.in_ok-token.ensures.source in
    let within = c.loop-token.lexer.within in
    let few = c.loop-token.invariant.1 in
    let on = moves_on c in
    let told = c.in_ok-token.ensures.stepped.answer ∙ ap (λ s. (step s i).answer) same in
    let after = c.in_ok-token.ensures.stepped.after ∙ ap (λ s. (step s i).after) same in
    (kept ∙ same, omega arith, count_more text c.loop-token.count i j _ (omega arith) told after (token_here c) ∙ c.loop-token.invariant.2)
