use Rattle.std.proofs.Common.{◌<◌, drop, arith, w32}
use Rattle.std.proofs.lemmas.Int.{to_z-of_z}
use Rattle.ports.specs.Words.{numbers_in}
use Rattle.ports.proofs.Puts.{appended, length_after, wrote_after, leaves_after}
use Rattle.ports.proofs.Ranges.{all_within}
use Rattle.ports.proofs.texts.TextPort.put.Goals as goal

pub invariant_of-self : goal.invariant_of-self
invariant_of-self c =
    let s = c.args.self.now in
    let t = c.put.new.self in
    let n = c.args.n in
    let some : 0 < s.room = omega arith in
    let told = appended s.output.bytes.now t.bytes.now s.output.used t.used s.room n _ (to_z-of_z w32 n c.ranges.n) s.roomy some c.put.ensures.count c.put.ensures.short c.put.ensures.bytes in
    let roomy = s.roomy in
    let long = length_after s.output.bytes.now t.bytes.now s.output.used t.used n told in
    let wrote = wrote_after s.output.bytes.now t.bytes.now s.output.used t.used n told s.wrote (all_within n c.ranges.n) in
    record { roomy = omega (arith, c.put.ensures.short); wrote = wrote }

pub returns-clause-leaves : goal.returns-clause-leaves
returns-clause-leaves c =
    let s = c.args.self.now in
    let t = c.put.new.self in
    let n = c.args.n in
    let some : 0 < s.room = omega arith in
    let told = appended s.output.bytes.now t.bytes.now s.output.used t.used s.room n _ (to_z-of_z w32 n c.ranges.n) s.roomy some c.put.ensures.count c.put.ensures.short c.put.ensures.bytes in
    leaves_after (numbers_in (drop s.words.place s.words.text.now)) s.output.bytes.now t.bytes.now s.output.used t.used s.room n told s.wrote (all_within n c.ranges.n) some
