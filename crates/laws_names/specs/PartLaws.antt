-- The parts of a pack whose pages are mended.
use Rattle.laws_mend.specs.disk_records.specs.Packs.{Pack}
use Rattle.laws_mend.specs.pack_model.specs.scavenger.Reports.{PagesMended}
use Rattle.laws_mend.specs.Parts.{Lasting}

-- it has all of them
abbrev pub MendedHasParts : Type 0
MendedHasParts = (p : Pack) → PagesMended p → Lasting p
