-- The operations on the leader of an ordinary file: title and stamp.
use Rattle.std.specs.Prelude.{List, Some, true, ℕ, ◌≡◌}
use Rattle.laws_contents.specs.alto_words.specs.declared.fid.Fid.{Fid}
use Rattle.laws_contents.specs.disk_records.specs.Commands.{value_writes}
use Rattle.laws_contents.specs.disk_records.specs.Packs.{Pack, sector_at}
use Rattle.laws_contents.specs.pack_model.specs.reading.Files.{place}
use Rattle.laws_contents.specs.pack_model.specs.reading.Leaders.{Leader, is_readable, leader_of, leader_words}
use Rattle.laws_contents.specs.pack_model.specs.reading.Sights.{sights}
use Rattle.laws_contents.specs.pack_model.specs.operations.Step.Operation.{stamp, title}
use Rattle.laws_contents.specs.pack_model.specs.states.Whole.{Tidy, Whole}
use Rattle.laws_operation.specs.ByteLaws.{IsOrdinary}
use Rattle.laws_operation.specs.Outcomes.{CarriesOut}

-- The sector of the file's leader, and a value whose name can be read and which says what the old one says, except a change.
pub record MayWriteLeader (p : Pack) (f : Fid) (change : Leader → Leader) (at : ℕ) (value : List ℕ) : Type 0 where
  pub file : IsOrdinary f
  pub sector : place (sights p) f 0 ≡ Some at
  pub readable : is_readable (leader_words value) ≡ true
  pub says : leader_of f value ≡ change (leader_of f (sector_at p at).value)

-- with another name
abbrev pub titled : List ℕ → Leader → Leader
titled name l = record l { name = name }

-- with another written date
abbrev pub stamped : ℕ → Leader → Leader
stamped moment l = record l { written = moment }

-- that value is the title
abbrev pub TitleCarriesOut : Type 0
TitleCarriesOut = (p : Pack) (f : Fid) (name : List ℕ) (at : ℕ) (value : List ℕ) → Whole p → Tidy p → MayWriteLeader p f (titled name) at value → CarriesOut p (value_writes at value) (title f name)

-- that value is the stamp
abbrev pub StampCarriesOut : Type 0
StampCarriesOut = (p : Pack) (f : Fid) (moment : ℕ) (at : ℕ) (value : List ℕ) → Whole p → Tidy p → MayWriteLeader p f (stamped moment) at value → CarriesOut p (value_writes at value) (stamp f moment)
