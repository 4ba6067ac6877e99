use Rattle.std.proofs.Common.{take, ap, ◌∙◌, rules, tests}
use Rattle.std.proofs.lemmas.Iterator.{YieldsList-from_slice}
use Rattle.std.proofs.lemmas.Iterator.Consumers.{count_from_yields_List}
use Rattle.std.proofs.lemmas.Iterator.Search.{YieldsList-from_take_while}
use Rattle.std.proofs.lemmas.List.Folds.{length-prefix_len}
use Rattle.ports.specs.Words.{solid}
use Rattle.ports.proofs.words.first_piece.Goals as goal

pub returns : goal.returns
returns c =
    let rest = c.args.rest.now in
    ap (λ n. take n rest)
    (count_from_yields_List c.take_while.result c.count-end.result c.count-end.ensures.ran
    (YieldsList-from_take_while _ solid (YieldsList-from_slice rest cc) c.take_while.ensures.closure c.take_while.ensures.done (λ x b q k. search (rules, tests)))
    ∙ length-prefix_len solid rest)
