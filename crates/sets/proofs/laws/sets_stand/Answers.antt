use Rattle.sets.proofs.Members.{set_laws}
use Rattle.sets.proofs.Slots.{slot_laws}
use Rattle.sets.proofs.laws.sets_stand.Goals as goal

pub returns : goal.returns
returns c = record { sets = set_laws; slots = slot_laws }
