use Rattle.reading.proofs.Taking.{took}
use Rattle.reading.proofs.readers.Reader.take.Goals as goal

pub returns : goal.returns
returns g c =
    let told = c.in_ok-advance.ensures in
    took (g.C.Asked.asked c.args.class) c.args.self.now c.advance.new.self (c.is_ahead.ensures.0 c.if-not-is_ahead.false) told.lends told.source told.written told.onward told.stream
