use Rattle.agefile.proofs.HeadingLemmas.{characters_known}
use Rattle.agefile.proofs.heading.characters_of.Goals as goal

pub returns-clause-base64 : goal.returns-clause-base64
returns-clause-base64 c = search (characters_known, c.fits-mac, c.encode.ensures)
