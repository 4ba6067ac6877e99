use Rattle.std.proofs.Common.{◌≡◌, not, ◌&&◌, false, eqb, sym, rules}
use Rattle.std.specs.Result.{MatchResult}
use Rattle.std.proofs.lemmas.Bool.Decides.{not_from_Decides}
use Rattle.text.specs.Tokens.{lexeme, is_end}
use Rattle.grammar.specs.TokenClasses.{class_of}
use Rattle.reading.proofs.Taking.{two_not, two_told}
use Rattle.reading.proofs.readers.Reader.followed.Goals as goal

pub returns-then-not-is_ahead : goal.returns-then-not-is_ahead
returns-then-not-is_ahead g c =
    let self = c.args.self.now in
    sym (two_not _ _ (lexeme self.token) self.place _ (λ some e. not_from_Decides _ c.is_ahead.ensures c.if-not-is_ahead.true (some, e)))

pub returns : goal.returns
returns g c =
    let told : MatchResult c.next_token.result (λ x. c.is_ok_and.result ≡ (not (is_end (lexeme x.item)) && eqb (class_of (lexeme x.item)) (g.D.Asked.asked c.args.second))) (λ f. c.is_ok_and.result ≡ false) = search rules in
    let self = c.args.self.now in
    let lexer = self.lexer in
    let (some, class) = c.is_ahead.ensures.0 c.if-not-is_ahead.false in
    two_told lexer.source.now lexer.place _ self.place (lexeme self.token) _ _ c.next_token.result c.is_ok_and.result lexer.within some class c.next_token.ensures.stepped told
