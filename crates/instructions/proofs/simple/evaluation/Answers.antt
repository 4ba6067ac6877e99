use Rattle.std.proofs.Common.{refl, rules}
use Rattle.table.specs.declared.kinds.Kind.TheVariants as kind
use Rattle.grammar.specs.Grammars.{Tree}
use Rattle.syntax.specs.Nodes.{evaluate_made}
use Rattle.reading.specs.States.{of_node}
use Rattle.reading.proofs.Sequences.{begin, first, closed_token, stop, stop_last_token, exit_node, node, pair, over_is}
use Rattle.instructions.specs.Simple.{evaluation_gram, evaluation_made}
use Rattle.instructions.proofs.simple.evaluation.Goals as goal

pub returns-in_err-value : goal.returns-in_err-value
returns-in_err-value c = exit_node of_node _ c.from_residual.ensures.1 (stop (begin c.args.allowed evaluation_gram c.args.reader.now) c.in_err-value.ensures.reads)

pub returns-in_err-take : goal.returns-in_err-take
returns-in_err-take c =
    let s = first (begin c.args.allowed evaluation_gram c.args.reader.now) c.in_ok-value.ensures.reads in
    exit_node of_node _ c.from_residual-in_err-take.ensures.1 (stop_last_token s.more c.in_err-take.ensures)

pub returns : goal.returns
unfolding Tree evaluation_made evaluate_made pair
returns c =
    let s = first (begin c.args.allowed evaluation_gram c.args.reader.now) c.in_ok-value.ensures.reads in
    let t = closed_token s.more c.in_ok-take.ensures in
    node t.whole c.record.ensures (over_is kind.Expression {p = c.in_ok-value.value.place} {f = c.in_ok-value.value.number} {s = 0} {u = 0} (search rules) s.place s.number refl refl) refl
