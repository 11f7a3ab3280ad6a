-- Readings of a pack by a rule of stored names: by the rule itself, and by that of the time when names had no versions.
use Rattle.std.specs.Prelude.{◌≡◌, ◌↔◌}
use Rattle.pack_model.specs.alto_words.specs.Names.{is_bare_name, is_stored_name}
use Rattle.pack_model.specs.disk_records.specs.Packs.{Pack}
use Rattle.pack_model.specs.reading.Sights.{sights}
use Rattle.pack_model.specs.reading.Model.{read_as}
use Rattle.pack_model.specs.states.Sound.{Sound}
use Rattle.pack_model.specs.reading.OtherNames.{sights_by, read_by, SoundBy}

-- By the rule of stored names a pack shows what it shows, is read as it is read, and is sound if and only if it is.
pub record IsByOwnRule (p : Pack) : Type 0 where
  pub shown : sights_by is_stored_name p ≡ sights p
  pub read : read_by is_stored_name p ≡ read_as p
  pub sound : SoundBy is_stored_name p ↔ Sound p

abbrev pub OwnRule : Type 0
OwnRule = (p : Pack) → IsByOwnRule p

-- A pack that was sound when names had no versions is sound, and is read as it was.
abbrev pub OldPacks : Type 0
OldPacks = (p : Pack) → SoundBy is_bare_name p → Sound p × (read_as p ≡ read_by is_bare_name p)
