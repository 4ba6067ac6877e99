use Rattle.std.proofs.Common.{eqb, pos, sym, refl, ap, ◌∙◌}
use Rattle.grammar.specs.TokenClasses.{class_of}
use Rattle.text.specs.declared.places.Placed.{Placed}
use Rattle.text.specs.Tokens.{Lexeme, lexeme}
use Rattle.syntax.specs.Nodes.{magnitude}
use Rattle.reading.proofs.Sequences.{single, silent_token, node, valued_is}
use Rattle.reading.proofs.Values.{token_is, positive_value}
use Rattle.reading.proofs.readers.Reader.positive.Goals as goal

pub returns : goal.returns
returns c =
    let s = single (silent_token 52) c.in_ok-place.ensures in
    let self = c.args.self.now in
    let is = token_is 52 (lexeme self.token) self.place _ s.tree _ s.read in
    node s.whole c.record.ensures (valued_is c.valued.ensures s.place (positive_value _ (lexeme self.token) (sym (ap (λ t. magnitude (lexeme t)) c.in-Number.is)) (ap (λ (x : Placed Lexeme). eqb (class_of x.item) 52) (sym is) ∙ s.tree.1) ∙ ap (λ (x : Placed Lexeme). pos (magnitude x.item)) (sym is))) refl
