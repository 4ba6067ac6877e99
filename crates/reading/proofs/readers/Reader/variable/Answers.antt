use Rattle.std.proofs.Common.{refl}
use Rattle.table.specs.declared.kinds.Kind.TheVariants as kind
use Rattle.reading.proofs.Sequences.{single, silent_name, node, titled_is}
use Rattle.reading.proofs.readers.Reader.variable.Goals as goal

pub returns : goal.returns
returns c =
    let s = single silent_name c.in_ok-name.ensures in
    node s.whole c.record.ensures (titled_is kind.Variable c.node.ensures s.number s.place refl refl refl refl) refl
