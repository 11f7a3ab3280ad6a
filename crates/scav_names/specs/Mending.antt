-- What a mending of all names says.
use Rattle.std.specs.Prelude.{◌≡◌, ℕ, ◌^◌, ◌<◌, List, length, Result, IfOk}
use Rattle.disk_records.specs.Packs.{Pack}
use Rattle.disk_records.specs.Tapes.{Taped, pack, added}
use Rattle.pack_model.specs.scavenger.Reports.{NamesMended, adopted_files}
use Rattle.pack_model.specs.scavenger.Scavenging.{Keeps, Throughout, Unmarked}
use Rattle.pack_model.specs.states.Sound.{Clean}
use Rattle.scav_pages.specs.Changes.{AllChange}
use Rattle.scav_table.specs.declared.errors.SweepError.{SweepError}
use Rattle.scav_names.specs.declared.catalogue.Catalogue.{Catalogue}
use Rattle.scav_names.specs.declared.living.Living.{Living}
use Rattle.scav_names.specs.declared.placed.PlacedEntry.{PlacedEntry}
use Rattle.scav_names.specs.declared.root.Root.{Root}
use Rattle.scav_names.specs.Lacking.{lacking_files}
use Rattle.scav_names.specs.Living.{living_files}
use Rattle.scav_names.specs.Parting.{kept_entries}
use Rattle.scav_names.specs.Parts.{MayBeNamed, UnkeptFreed}
use Rattle.scav_names.specs.Roots.{MayBeEntered}

-- ---- read and parted
-- SysDir's free slots and pages, as they were read
abbrev pub root_read : Catalogue → Root
root_read names = record { rooms = names.rooms; pages = names.root_pages; from = 1 }

-- The entries of p that aren't kept are free slots in q. In memory are SysDir as it is in q, the living files of p, its kept entries, and the
-- files that SysDir lacks.
pub record AreReady (root : Root) (living : List Living) (kept : List PlacedEntry) (p q : Pack) (files : List Living) : Type 0 where
  pub named : MayBeNamed p
  pub freed : UnkeptFreed p q tt
  pub may : MayBeEntered q root files
  pub living_are : living ≡ living_files p
  pub kept_are : kept ≡ kept_entries p
  pub lacking_are : files ≡ lacking_files p
  pub few : length files < 2 ^ 32

-- ---- mended
-- The names of q are mended, and so many files of p had none.
pub record AreMended (p q : Pack) (adopted : ℕ) : Type 0 where
  pub mended : NamesMended q
  pub adopted_is : adopted ≡ adopted_files p

-- The same of p and q, where `before` is the pack as the call begins: parts of the work were done from p to it.
abbrev pub AreMendedSince : Pack → Pack → Pack → ℕ → Type 0
AreMendedSince p before q adopted = AreMended p q adopted

-- At Ok the names are mended. Whatever the answer, each crash point keeps what a scavenge keeps, and where the pack had no clean mark none is
-- clean, and it has none in the end; each record write changes what stands.
pub record MendsNames (old new : Taped) (result : Result ℕ SweepError) : Type 0 where
  pub mended : IfOk result (AreMended (pack old) (pack new))
  pub kept : Throughout (Keeps (pack old)) (pack old) (added old new)
  pub unclean : Unmarked (pack old) → Throughout (λ q. Clean q → ⊥) (pack old) (added old new)
  pub unmarked : Unmarked (pack old) → Unmarked (pack new)
  pub changes : AllChange (pack old) (added old new)
