use Rattle.text.specs.Spellings.{keyword_of}
use Rattle.text.proofs.spellings.keyword_of.Goals as goal

pub returns : goal.returns
unfolding keyword_of
returns c = c.spelled_by.ensures
