use Rattle.std.proofs.Common.{refl, rules}
use Rattle.grammar.specs.Grammars.{Tree}
use Rattle.grammar.specs.TokenClasses.{class_number}
use Rattle.reading.specs.States.{of_node}
use Rattle.reading.proofs.Sequences.{begin, past_token, first, closed_token, stop, stop_token, stop_last_token, exit_node, node, pair, leaf_made, over_is}
use Rattle.instructions.specs.Simple.{of_expression_gram, of_expression_made}
use Rattle.instructions.proofs.simple.of_expression.Goals as goal

pub returns-in_err-place : goal.returns-in_err-place
returns-in_err-place c = exit_node of_node _ c.from_residual.ensures.1 (stop_token (begin c.args.allowed (of_expression_gram (class_number c.args.class)) c.args.reader.now) c.in_err-place.ensures)

pub returns-in_err-inner : goal.returns-in_err-inner
returns-in_err-inner c =
    let s = past_token (begin c.args.allowed (of_expression_gram (class_number c.args.class)) c.args.reader.now) c.in_ok-place.ensures in
    exit_node of_node _ c.from_residual-in_err-inner.ensures.1 (stop s.more c.in_err-inner.ensures.reads)

pub returns-in_err-take : goal.returns-in_err-take
returns-in_err-take c =
    let s = past_token (begin c.args.allowed (of_expression_gram (class_number c.args.class)) c.args.reader.now) c.in_ok-place.ensures in
    let t = first s.more c.in_ok-inner.ensures.reads in
    exit_node of_node _ c.from_residual-in_err-take.ensures.1 (stop_last_token t.more c.in_err-take.ensures)

pub returns : goal.returns
unfolding Tree of_expression_made pair leaf_made
returns c =
    let s = past_token (begin c.args.allowed (of_expression_gram (class_number c.args.class)) c.args.reader.now) c.in_ok-place.ensures in
    let t = first s.more c.in_ok-inner.ensures.reads in
    let u = closed_token t.more c.in_ok-take.ensures in
    node u.whole c.record.ensures (over_is c.args.kind {p = c.in_ok-place.place} {f = c.in_ok-inner.inner.number} {s = 0} {u = 0} (search rules) s.place t.number refl refl) refl
