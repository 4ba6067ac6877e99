use Rattle.text.specs.Spellings.{sign_of}
use Rattle.text.proofs.spellings.sign_of.Goals as goal

pub returns : goal.returns
unfolding sign_of
returns c = c.spelled_by.ensures
