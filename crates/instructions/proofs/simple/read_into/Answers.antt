use Rattle.std.proofs.Common.{refl, rules}
use Rattle.table.specs.declared.kinds.Kind.TheVariants as kind
use Rattle.grammar.specs.Grammars.{Tree}
use Rattle.reading.specs.States.{of_node}
use Rattle.reading.proofs.Sequences.{begin, past_token, first, closed_token, as_leaf_lem, stop, stop_token, stop_last_token, exit_node, node, pair, leaf_made, over_is}
use Rattle.instructions.specs.Simple.{read_gram, read_made}
use Rattle.instructions.proofs.simple.read_into.Goals as goal

pub returns-in_err-place : goal.returns-in_err-place
returns-in_err-place c = λ d. exit_node of_node _ c.from_residual.ensures.1 (stop_token (begin d read_gram c.args.reader.now) c.in_err-place.ensures)

pub returns-in_err-variable : goal.returns-in_err-variable
returns-in_err-variable c = λ d.
    let s = past_token (begin d read_gram c.args.reader.now) c.in_ok-place.ensures in
    exit_node of_node _ c.from_residual-in_err-variable.ensures.1 (stop s.more (as_leaf_lem d 51 c.in_err-variable.ensures.reads))

pub returns-in_err-take : goal.returns-in_err-take
returns-in_err-take c = λ d.
    let s = past_token (begin d read_gram c.args.reader.now) c.in_ok-place.ensures in
    let t = first s.more (as_leaf_lem d 51 c.in_ok-variable.ensures.reads) in
    exit_node of_node _ c.from_residual-in_err-take.ensures.1 (stop_last_token t.more c.in_err-take.ensures)

pub returns : goal.returns
unfolding Tree read_made pair leaf_made
returns c = λ d.
    let s = past_token (begin d read_gram c.args.reader.now) c.in_ok-place.ensures in
    let t = first s.more (as_leaf_lem d 51 c.in_ok-variable.ensures.reads) in
    let u = closed_token t.more c.in_ok-take.ensures in
    node u.whole c.record.ensures (over_is kind.Read {p = c.in_ok-place.place} {f = c.in_ok-variable.variable.number} {s = 0} {u = 0} (search rules) s.place t.number refl refl) refl
