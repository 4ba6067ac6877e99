use Rattle.std.proofs.Common.{◌≡◌, suc, ◌≤◌, length, Ok, Err, sym, ap, ◌∙◌, subst, arith, rules}
use Rattle.text.specs.Laws.{Stepped}
use Rattle.text.specs.Lexings.{lexed_from}
use Rattle.text.specs.Steps.{answered}
use Rattle.text.specs.Tokens.{lexeme}
use Rattle.text.specs.declared.places.Placed.{Placed}
use Rattle.text.specs.declared.tokens.LexFault.{LexFault}
use Rattle.grammar.specs.declared.faults.GrammarFault.TheVariants.{Lexical}
use Rattle.reading.specs.States.{stream_by}
use Rattle.reading.proofs.Advancing.{advance_ok, advance_err, next_place, refused_as_is, stopped}
use Rattle.reading.proofs.Fitting.{next_fits}
use Rattle.reading.proofs.readers.Reader.advance.Goals as goal

pub returns-in_err-next-clause-stream : goal.returns-in_err-next-clause-stream
returns-in_err-next-clause-stream c =
    let lexer = c.args.self.now.lexer in
    let told : (f : Placed LexFault) × (c.next_token.result ≡ Err f) × (c.in_err-next.field-0.0.item ≡ Lexical f.item) × (c.in_err-next.field-0.0.place ≡ f.place) = search rules in
    let stepped = subst (λ n. Stepped lexer.source.now lexer.place (answered n) c.next_token.new.self.place) told.1 c.next_token.ensures.stepped in
    stopped _ _ c.from_residual.ensures.1
    ∙ ap Err (refused_as_is _ told.0 told.2 told.3)
    ∙ advance_err lexer.source.now lexer.place c.next_token.new.self.place c.args.self.now.place (lexeme c.args.self.now.token) told.0 lexer.within c.requires stepped

pub invariant_of-self-2 : goal.invariant_of-self-2
invariant_of-self-2 c =
    let self = c.args.self.now in
    let lexer = self.lexer in
    let after = c.next_token.new.self in
    let told : c.next_token.result ≡ Ok c.in_ok-next.next = search rules in
    let stepped = subst (λ n. Stepped lexer.source.now lexer.place (answered n) after.place) told c.next_token.ensures.stepped in
    let p = next_place lexer.source.now lexer.place after.place _ lexer.within stepped.lawful in
    let behind = self.onward c.requires in
    let few = self.few in
    record {
      short = subst (λ s. length s.now ≤ 16384) (sym c.next_token.ensures.source) self.short;
      few = omega arith;
      behind = p.1;
      onward = p.3;
      fits = next_fits lexer.place after.place _ _ stepped.lawful;
    }

pub returns-clause-stream : goal.returns-clause-stream
returns-clause-stream c =
    let lexer = c.args.self.now.lexer in
    let after = c.next_token.new.self in
    let told : c.next_token.result ≡ Ok c.in_ok-next.next = search rules in
    let stepped = subst (λ n. Stepped lexer.source.now lexer.place (answered n) after.place) told c.next_token.ensures.stepped in
    ap (λ s. Ok (stream_by (lexeme c.in_ok-next.next.item) c.in_ok-next.next.place (lexed_from (suc (length s.now)) s.now after.place))) c.next_token.ensures.source
    ∙ advance_ok lexer.source.now lexer.place after.place c.args.self.now.place (lexeme c.args.self.now.token) _ lexer.within c.requires stepped
