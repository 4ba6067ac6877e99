use Rattle.std.proofs.Common.{refl, rules}
use Rattle.grammar.specs.Grammars.{seq, tok, Tree}
use Rattle.reading.specs.States.{of_node}
use Rattle.reading.specs.Steps.{of_variable_made}
use Rattle.reading.proofs.Sequences.{begin, past_token, only, as_leaf_lem, stop_token, stop_last, exit_node, node, pair, leaf_made, over_is}
use Rattle.reading.proofs.readers.Reader.of_variable.Goals as goal

pub returns-in_err-place : goal.returns-in_err-place
returns-in_err-place g c = λ d. exit_node of_node _ c.from_residual.ensures.1 (stop_token (begin d (seq (tok (g.C.Asked.asked c.args.class)) (tok 51)) c.args.self.now) c.in_err-place.ensures)

pub returns-in_err-variable : goal.returns-in_err-variable
returns-in_err-variable g c = λ d.
    let s = past_token (begin d (seq (tok (g.C.Asked.asked c.args.class)) (tok 51)) c.args.self.now) c.in_ok-place.ensures in
    exit_node of_node _ c.from_residual-in_err-variable.ensures.1 (stop_last s.more (as_leaf_lem d 51 c.in_err-variable.ensures.reads))

pub returns : goal.returns
unfolding Tree of_variable_made pair leaf_made
returns g c = λ d.
    let s = past_token (begin d (seq (tok (g.C.Asked.asked c.args.class)) (tok 51)) c.args.self.now) c.in_ok-place.ensures in
    let t = only s.more (as_leaf_lem d 51 c.in_ok-variable.ensures.reads) in
    node t.whole c.record.ensures (over_is c.args.kind {p = c.in_ok-place.place} {f = c.in_ok-variable.variable.number} {s = 0} {u = 0} (search rules) s.place t.number refl refl) refl
