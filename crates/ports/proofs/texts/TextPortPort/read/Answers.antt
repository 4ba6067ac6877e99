use Rattle.std.proofs.Common.{◌≡◌, Ok, Some, None, refl, ap, w32, SFits, rules}
use Rattle.std.proofs.lemmas.Int.{to_z-of_z}
use Rattle.std.proofs.lemmas.Option.{MatchOption-at_none, MatchOption-at_some}
use Rattle.ports.specs.Words.{number_of}
use Rattle.ports.proofs.Pieces.{none_waits, malformed_waits, number_waits}
use Rattle.ports.proofs.texts.TextPortPort.read.Goals as goal

pub returns-in_err-word : goal.returns-in_err-word
returns-in_err-word c =
    let s = c.args.self.now.words in
    let none : c.next.result ≡ None = search rules in
    let e = none_waits s.text.now s.place (MatchOption-at_none _ _ none c.next.ensures.steps).0 in
    record { gives = rw e (search rules); leaves = rw e; holds = refl }

pub returns-in_err-n : goal.returns-in_err-n
returns-in_err-n c =
    let s = c.args.self.now.words in
    let w = c.in_ok-word.word in
    let some : c.next.result ≡ Some w = search rules in
    let none : None ≡ number_of w.bytes.now = search rules in
    let e = malformed_waits s.text.now s.place w.place w.bytes.now _ (MatchOption-at_some _ _ w some c.next.ensures.steps) none in
    record { gives = rw e (search rules); leaves = rw e; holds = refl }

pub returns : goal.returns
returns c =
    let s = c.args.self.now.words in
    let t = c.next.new.self in
    let w = c.in_ok-word.word in
    let some : c.next.result ≡ Some w = search rules in
    let number : Some c.in_ok-n.n ≡ number_of w.bytes.now = search rules in
    let e = number_waits s.text.now t.text.now s.place t.place w.place w.bytes.now c.in_ok-n.n (MatchOption-at_some _ _ w some c.next.ensures.steps) number in
    let f : SFits w32 c.in_ok-n.n = search rules in
    record { gives = rw e (ap Ok (to_z-of_z w32 c.in_ok-n.n f)); leaves = rw e; holds = refl }
