use Rattle.std.proofs.Common.{[], ◌∷◌, refl, ap, ◌∙◌}
use Rattle.table.specs.Numbers.{type_number}
use Rattle.table.specs.declared.kinds.Kind.TheVariants as kind
use Rattle.grammar.specs.Grammars.{Tree}
use Rattle.syntax.specs.Nodes.{keyword_type, type_of}
use Rattle.reading.specs.States.{of_node}
use Rattle.reading.proofs.Marks.{past_mark, stop_mark}
use Rattle.reading.proofs.Sequences.{begin, past_name, closed_token, stop_token, stop_last_token, exit_node, node, pair, leaf_made, titled_is}
use Rattle.declarations.specs.Variables.{variable_gram, variable_made}
use Rattle.declarations.proofs.variables.variable.Goals as goal

pub returns-in_err-name : goal.returns-in_err-name
returns-in_err-name c = λ d. exit_node of_node _ c.from_residual.ensures.1 (stop_token (begin d variable_gram c.args.reader.now) c.in_err-name.ensures)

pub returns-in_err-word : goal.returns-in_err-word
returns-in_err-word c = λ d.
    let s = past_name (begin d variable_gram c.args.reader.now) c.in_ok-name.ensures in
    exit_node of_node _ c.from_residual-in_err-word.ensures.1 (stop_mark 26 (27 ∷ (28 ∷ [])) s.more c.in_err-word.ensures)

pub returns-in_err-take : goal.returns-in_err-take
returns-in_err-take c = λ d.
    let s = past_name (begin d variable_gram c.args.reader.now) c.in_ok-name.ensures in
    let t = past_mark 26 (27 ∷ (28 ∷ [])) s.more c.in_ok-word.ensures in
    exit_node of_node _ c.from_residual-in_err-take.ensures.1 (stop_last_token t.more c.in_err-take.ensures)

pub returns : goal.returns
unfolding Tree variable_made type_of pair leaf_made
returns c = λ d.
    let s = past_name (begin d variable_gram c.args.reader.now) c.in_ok-name.ensures in
    let t = past_mark 26 (27 ∷ (28 ∷ [])) s.more c.in_ok-word.ensures in
    let u = closed_token t.more c.in_ok-take.ensures in
    let value = c.from.ensures ∙ c.number.ensures ∙ ap type_number (c.keyword_type.ensures ∙ ap keyword_type t.number) in
    node u.whole c.record.ensures (titled_is kind.Declared c.valued-node.ensures s.number s.place refl refl refl value) refl
