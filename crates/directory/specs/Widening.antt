-- What a caller sees of a directory that is widened.
use Rattle.std.specs.Prelude.{◌≡◌, List, OnOk, Result, true, ℕ}
use Rattle.alto_words.specs.declared.fid.Fid.{Fid}
use Rattle.disk_records.specs.Events.{IsFirstOf}
use Rattle.disk_records.specs.Packs.{Pack, is_free_at}
use Rattle.disk_records.specs.declared.records.Event.{Event}
use Rattle.pack_model.specs.operations.Step.Operation.{widen}
use Rattle.pack_model.specs.operations.Step.{Operation}
use Rattle.directory.specs.declared.errors.DirError.{DirError}

abbrev pub to_widen : Fid → Operation
to_widen d = widen d

-- a free sector for the page that comes
abbrev pub MayBeWidened : Pack → ℕ → Type 0
MayBeWidened p fresh = is_free_at p fresh ≡ true

-- For every answer these are a prefix of the record writes, at Ok all of them.
pub record WrotePart {T : Type 0} (writes events : List Event) (result : Result T DirError) : Type 0 where
  pub some : IsFirstOf writes events
  pub all : OnOk result (events ≡ writes)
