use Rattle.std.proofs.Common.{length, ap, rules}
use Rattle.std.proofs.lemmas.List.{take_rest}
use Rattle.ports.proofs.Pieces.{word_taken, none_taken}
use Rattle.ports.proofs.words.WordsIterator.next.Goals as goal

pub returns-in_err-blanks-clause-steps : goal.returns-in_err-blanks-clause-steps
returns-in_err-blanks-clause-steps c =
    let s = c.args.self.now in
    let e = none_taken s.text.now _ s.place (take_rest s.text.now s.place) c.in_err-blanks.ensures in
    rw c.from_residual.ensures (e, e)

pub returns-clause-steps : goal.returns-clause-steps
returns-clause-steps c =
    let s = c.args.self.now in
    (word_taken s.text.now _ _ _ s.place c.in_ok-blanks.blanks s.within (take_rest s.text.now s.place) c.in_ok-blanks.ensures (take_rest _ c.in_ok-blanks.blanks) c.first_piece-bytes.ensures).words

pub returns-clause-goes : goal.returns-clause-goes
returns-clause-goes c =
    let s = c.args.self.now in
    let taken = word_taken s.text.now _ _ _ s.place c.in_ok-blanks.blanks s.within (take_rest s.text.now s.place) c.in_ok-blanks.ensures (take_rest _ c.in_ok-blanks.blanks) c.first_piece-bytes.ensures in
    let shorter = ap length taken.words in
    search rules
