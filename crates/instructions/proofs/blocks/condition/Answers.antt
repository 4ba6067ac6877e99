use Rattle.std.proofs.Common.{sym, ◌∙◌, arith}
use Rattle.grammar.specs.Grammars.{Tree}
use Rattle.grammar.specs.TokenClasses.{class_number}
use Rattle.syntax.specs.Nodes.{inner_made, expression_made}
use Rattle.reading.specs.States.{of_node}
use Rattle.reading.proofs.Sequences.{begin, past_token, first, closed_token, stop, stop_token, stop_last_token, exit_node, pass, pair}
use Rattle.instructions.specs.Blocks.{condition_gram, condition_made}
use Rattle.instructions.proofs.blocks.condition.Goals as goal

pub returns-in_err-take : goal.returns-in_err-take
returns-in_err-take c = exit_node of_node _ c.from_residual.ensures.1 (stop_token (begin c.args.allowed (condition_gram (class_number c.args.word)) c.args.reader.now) c.in_err-take.ensures)

pub returns-in_err-truth : goal.returns-in_err-truth
returns-in_err-truth c =
    let s = past_token (begin c.args.allowed (condition_gram (class_number c.args.word)) c.args.reader.now) c.in_ok-take.ensures in
    exit_node of_node _ c.from_residual-in_err-truth.ensures.1 (stop s.more c.in_err-truth.ensures.reads)

pub returns-in_err-take-2 : goal.returns-in_err-take-2
returns-in_err-take-2 c =
    let s = past_token (begin c.args.allowed (condition_gram (class_number c.args.word)) c.args.reader.now) c.in_ok-take.ensures in
    let t = first s.more c.in_ok-truth.ensures.reads in
    exit_node of_node _ c.from_residual-in_err-take-2.ensures.1 (stop_token t.more c.in_err-take-2.ensures)

pub returns-in_err-take-3 : goal.returns-in_err-take-3
returns-in_err-take-3 c =
    let s = past_token (begin c.args.allowed (condition_gram (class_number c.args.word)) c.args.reader.now) c.in_ok-take.ensures in
    let t = first s.more c.in_ok-truth.ensures.reads in
    let u = past_token t.more c.in_ok-take-2.ensures in
    exit_node of_node _ c.from_residual-in_err-take-3.ensures.1 (stop_last_token u.more c.in_err-take-3.ensures)

pub returns : goal.returns
unfolding Tree condition_made pair
returns c =
    let a = c.args.reader.now in
    let s = past_token (begin c.args.allowed (condition_gram (class_number c.args.word)) a) c.in_ok-take.ensures in
    let told = c.in_ok-truth.ensures in
    let t = first s.more told.reads in
    let u = past_token t.more c.in_ok-take-2.ensures in
    let v = closed_token u.more c.in_ok-take-3.ensures in
    let opened = c.in_ok-take.ensures.steps.0 in
    let closed = c.in_ok-take-2.ensures.steps.0 in
    let ended = c.in_ok-take-3.ensures.steps.0 in
    let more = told.last.1 in
    record {
      reads = pass v.whole (λ i. record { nodes = (expression_made (inner_made c.args.allowed) t.tree a.count).nodes; number = t.number i; place = t.place i });
      last = (told.last.0 ∙ sym closed ∙ sym ended, omega arith);
    }
