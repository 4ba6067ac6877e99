use Rattle.std.proofs.Common.{refl, rules}
use Rattle.table.specs.declared.kinds.Kind.TheVariants as kind
use Rattle.grammar.specs.Grammars.{Tree}
use Rattle.syntax.specs.Nodes.{assign_made}
use Rattle.reading.specs.States.{of_node}
use Rattle.reading.proofs.Sequences.{begin, past_token, first, later, closed_token, as_leaf_lem, stop, stop_token, stop_last_token, exit_node, node, pair, leaf_made, over_is}
use Rattle.instructions.specs.Simple.{assignment_gram, assignment_made}
use Rattle.instructions.proofs.simple.assignment.Goals as goal

pub returns-in_err-variable : goal.returns-in_err-variable
returns-in_err-variable c = exit_node of_node _ c.from_residual.ensures.1 (stop (begin c.args.allowed assignment_gram c.args.reader.now) (as_leaf_lem c.args.allowed 51 c.in_err-variable.ensures.reads))

pub returns-in_err-place : goal.returns-in_err-place
returns-in_err-place c =
    let s = first (begin c.args.allowed assignment_gram c.args.reader.now) (as_leaf_lem c.args.allowed 51 c.in_ok-variable.ensures.reads) in
    exit_node of_node _ c.from_residual-in_err-place.ensures.1 (stop_token s.more c.in_err-place.ensures)

pub returns-in_err-value : goal.returns-in_err-value
returns-in_err-value c =
    let s = first (begin c.args.allowed assignment_gram c.args.reader.now) (as_leaf_lem c.args.allowed 51 c.in_ok-variable.ensures.reads) in
    let t = past_token s.more c.in_ok-place.ensures in
    exit_node of_node _ c.from_residual-in_err-value.ensures.1 (stop t.more c.in_err-value.ensures.reads)

pub returns-in_err-take : goal.returns-in_err-take
returns-in_err-take c =
    let s = first (begin c.args.allowed assignment_gram c.args.reader.now) (as_leaf_lem c.args.allowed 51 c.in_ok-variable.ensures.reads) in
    let t = past_token s.more c.in_ok-place.ensures in
    let u = later t.more c.in_ok-value.ensures.reads in
    exit_node of_node _ c.from_residual-in_err-take.ensures.1 (stop_last_token u.more c.in_err-take.ensures)

pub returns : goal.returns
unfolding Tree assignment_made assign_made pair leaf_made
returns c =
    let s = first (begin c.args.allowed assignment_gram c.args.reader.now) (as_leaf_lem c.args.allowed 51 c.in_ok-variable.ensures.reads) in
    let t = past_token s.more c.in_ok-place.ensures in
    let u = later t.more c.in_ok-value.ensures.reads in
    let v = closed_token u.more c.in_ok-take.ensures in
    node v.whole c.record.ensures (over_is kind.Assign {p = c.in_ok-place.place} {f = c.in_ok-variable.variable.number} {s = c.in_ok-value.value.number} {u = 0} (search rules) t.place s.number u.number refl) refl
