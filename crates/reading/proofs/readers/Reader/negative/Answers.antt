use Rattle.std.proofs.Common.{◌≡◌, ◌≤◌, [], ◌∷◌, sym, Ok, refl, ap, ◌∙◌, subst, rules}
use Rattle.text.specs.Tokens.{lexeme}
use Rattle.syntax.specs.Nodes.{magnitude, minus}
use Rattle.reading.specs.States.{of_place, of_node}
use Rattle.reading.proofs.Sequences.{as_result, exit_node, node, valued_is}
use Rattle.grammar.specs.TokenClasses.{among}
use Rattle.reading.proofs.Marks.{not_any}
use Rattle.reading.proofs.Taking.{front}
use Rattle.reading.proofs.Values.{no_number, joined, not_joined, negative_value, magnitude_fits}
use Rattle.reading.proofs.readers.Reader.negative.Goals as goal

pub returns-in_default : goal.returns-in_default
returns-in_default c =
    let told : c.take.result ≡ Ok c.in_ok-place.place = search rules in
    let takes = as_result of_place told c.take.ensures in
    let after = c.take.new.self in
    let none = ap (among (52 ∷ (53 ∷ []))) (front after) ∙ no_number after.token c.in_default.not-Number in
    record { reads = not_joined takes (not_any (52 ∷ (53 ∷ [])) after c.misfit.ensures none); last = tt }

pub returns-in_err-one_of : goal.returns-in_err-one_of
returns-in_err-one_of c =
    let self = c.args.self.now in
    let told : c.take.result ≡ Ok c.in_ok-place.place = search rules in
    let takes = as_result of_place told c.take.ensures in
    exit_node of_node _ c.from_residual-in_err-one_of.ensures.1 (not_joined takes c.in_err-one_of.ensures)

pub returns : goal.returns
returns c =
    let self = c.args.self.now in
    let told : c.take.result ≡ Ok c.in_ok-place.place = search rules in
    let takes = as_result of_place told c.take.ensures in
    let j = joined takes c.in_ok-one_of.ensures in
    let is = sym (ap (λ t. magnitude (lexeme t)) c.in-Number.is) ∙ j.magnitude_is in
    let after = c.take.new.self in
    let small = magnitude_fits (lexeme after.token) after.fits in
    node j.whole c.record.ensures (valued_is c.valued.ensures j.place (negative_value _ _ (c.below.ensures ∙ ap minus is) (subst (λ n. n ≤ 2147483648) j.magnitude_is small))) refl
