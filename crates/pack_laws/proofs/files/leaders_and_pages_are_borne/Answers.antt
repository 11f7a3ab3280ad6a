use Rattle.pack_laws.proofs.inside.Filing.{leaders_and_pages_are_borne}
use Rattle.pack_laws.proofs.files.leaders_and_pages_are_borne.Goals as goal

pub returns : goal.returns
returns c = leaders_and_pages_are_borne
