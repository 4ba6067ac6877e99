use Rattle.std.proofs.Common.{refl, rules}
use Rattle.grammar.specs.Grammars.{Tree}
use Rattle.grammar.specs.TokenClasses.{class_number}
use Rattle.reading.specs.States.{of_node}
use Rattle.reading.proofs.Sequences.{begin, past_token, first, later, closed_token, as_leaf_lem, stop, stop_token, stop_last_token, exit_node, node, pair, leaf_made, over_is}
use Rattle.instructions.specs.Simple.{with_set_gram, with_set_made}
use Rattle.instructions.proofs.simple.with_set.Goals as goal

pub returns-in_err-place : goal.returns-in_err-place
returns-in_err-place c = exit_node of_node _ c.from_residual.ensures.1 (stop_token (begin c.args.allowed (with_set_gram (class_number c.args.class) (class_number c.args.link)) c.args.reader.now) c.in_err-place.ensures)

pub returns-in_err-value : goal.returns-in_err-value
returns-in_err-value c =
    let s = past_token (begin c.args.allowed (with_set_gram (class_number c.args.class) (class_number c.args.link)) c.args.reader.now) c.in_ok-place.ensures in
    exit_node of_node _ c.from_residual-in_err-value.ensures.1 (stop s.more c.in_err-value.ensures.reads)

pub returns-in_err-take : goal.returns-in_err-take
returns-in_err-take c =
    let s = past_token (begin c.args.allowed (with_set_gram (class_number c.args.class) (class_number c.args.link)) c.args.reader.now) c.in_ok-place.ensures in
    let t = first s.more c.in_ok-value.ensures.reads in
    exit_node of_node _ c.from_residual-in_err-take.ensures.1 (stop_token t.more c.in_err-take.ensures)

pub returns-in_err-set : goal.returns-in_err-set
returns-in_err-set c =
    let s = past_token (begin c.args.allowed (with_set_gram (class_number c.args.class) (class_number c.args.link)) c.args.reader.now) c.in_ok-place.ensures in
    let t = first s.more c.in_ok-value.ensures.reads in
    let u = past_token t.more c.in_ok-take.ensures in
    exit_node of_node _ c.from_residual-in_err-set.ensures.1 (stop u.more (as_leaf_lem c.args.allowed 51 c.in_err-set.ensures.reads))

pub returns-in_err-take-2 : goal.returns-in_err-take-2
returns-in_err-take-2 c =
    let s = past_token (begin c.args.allowed (with_set_gram (class_number c.args.class) (class_number c.args.link)) c.args.reader.now) c.in_ok-place.ensures in
    let t = first s.more c.in_ok-value.ensures.reads in
    let u = past_token t.more c.in_ok-take.ensures in
    let v = later u.more (as_leaf_lem c.args.allowed 51 c.in_ok-set.ensures.reads) in
    exit_node of_node _ c.from_residual-in_err-take-2.ensures.1 (stop_last_token v.more c.in_err-take-2.ensures)

pub returns : goal.returns
unfolding Tree with_set_made pair leaf_made
returns c =
    let s = past_token (begin c.args.allowed (with_set_gram (class_number c.args.class) (class_number c.args.link)) c.args.reader.now) c.in_ok-place.ensures in
    let t = first s.more c.in_ok-value.ensures.reads in
    let u = past_token t.more c.in_ok-take.ensures in
    let v = later u.more (as_leaf_lem c.args.allowed 51 c.in_ok-set.ensures.reads) in
    let w = closed_token v.more c.in_ok-take-2.ensures in
    node w.whole c.record.ensures (over_is c.args.kind {p = c.in_ok-place.place} {f = c.in_ok-value.value.number} {s = c.in_ok-set.set.number} {u = 0} (search rules) s.place t.number v.number refl) refl
