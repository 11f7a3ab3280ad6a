-- What packs that differ in hint words alone have in common.
use Rattle.std.specs.Prelude.{List, get_or, length, ℕ, ◌↔◌, ◌≡◌, ◌⊎◌}
use Rattle.pack_laws.specs.disk_records.specs.Packs.{Pack, sector_at}
use Rattle.pack_laws.specs.pack_model.specs.reading.Bytes.{bytes_of}
use Rattle.pack_laws.specs.pack_model.specs.hints.HintWords.{IsHintByte, SameButHints, byte_at}
use Rattle.pack_laws.specs.pack_model.specs.reading.Model.{read_as}
use Rattle.pack_laws.specs.pack_model.specs.states.Sound.{Clean, Sound}
use Rattle.laws_record.specs.QuietLaws.{with_value}

-- They are read the same, and one is sound or clean if and only if the other is.
pub record MeansSame (p q : Pack) : Type 0 where
  pub read : read_as q ≡ read_as p
  pub sound : Sound p ↔ Sound q
  pub clean : Clean p ↔ Clean q

abbrev pub HintsMeanNothing : Type 0
HintsMeanNothing = (p q : Pack) → SameButHints p q → MeansSame p q

-- a value that differs from the one that stands there in hint bytes alone, as in an entry's address or in DiskDescriptor's map
abbrev pub ValueWithOtherHints : Type 0
ValueWithOtherHints = (p : Pack) (at : ℕ) (value : List ℕ) → length value ≡ length (sector_at p at).value → ((k : ℕ) → (get_or (bytes_of value) k 0 ≡ byte_at p at k) ⊎ IsHintByte p at k) → MeansSame p (with_value p at value)
