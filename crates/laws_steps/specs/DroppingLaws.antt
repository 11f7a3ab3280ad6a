-- A drop by two calls, and what stands between them.
use Rattle.std.specs.Prelude.{Err, List, Ok, OnOk, Result, [], false, true, ℕ, ◌++◌, ◌∷◌, ◌≡◌}
use Rattle.laws_call.specs.alto_words.specs.Fid.{is_fid}
use Rattle.laws_call.specs.alto_words.specs.declared.fid.Fid.{Fid}
use Rattle.laws_call.specs.disk_records.specs.Commands.{value_writes}
use Rattle.laws_call.specs.disk_records.specs.Events.{IsFirstOf}
use Rattle.laws_call.specs.disk_records.specs.Packs.{Pack, after}
use Rattle.laws_call.specs.disk_records.specs.declared.records.Event.{Event}
use Rattle.laws_call.specs.disk_records.specs.declared.records.Place.{Place}
use Rattle.laws_call.specs.Acting.{Acts}
use Rattle.laws_call.specs.Going.{Goes}
use Rattle.laws_call.specs.Writing.{Written, entry_freed}
use Rattle.laws_call.specs.laws_operation.specs.DirectoryWords.{HasEntry}
use Rattle.laws_call.specs.laws_operation.specs.LifeLaws.{MayDrop}
use Rattle.laws_call.specs.pack_model.specs.hints.Links.{dir_slots}
use Rattle.laws_call.specs.pack_model.specs.hints.Sources.{IsFrom}
use Rattle.laws_call.specs.pack_model.specs.operations.Operations.{release_file_writes}
use Rattle.laws_call.specs.pack_model.specs.operations.Step.Operation.{drop_file}
use Rattle.laws_call.specs.pack_model.specs.operations.Step.{Operation}
use Rattle.laws_call.specs.pack_model.specs.reading.Files.{lives}
use Rattle.laws_call.specs.pack_model.specs.reading.Sights.{sights}
use Rattle.laws_call.specs.pack_model.specs.reading.Slots.{Item}
use Rattle.laws_call.specs.pack_model.specs.states.Whole.{Tidy, Whole}

-- the pack after the releases of a file's sectors
abbrev pub released_pack : Pack → ℕ → List ℕ → Pack
released_pack p at pages = after p (release_file_writes at pages)

-- the value of this sector in which the slot of an entry of this file, after these items, is a free one
abbrev pub slot_writes : Pack → ℕ → List Item → Fid → List ℕ → List Event
slot_writes p slot_at a f own = value_writes slot_at (entry_freed p slot_at a f own)

-- ---- between the two calls
-- After the releases of f, whose entry is in d: the pack is whole; d is another directory and has its slots, and the entry among them; all
-- other files that were found are found, by the same address from the same place.
pub record StandsReleased (p : Pack) (f d : Fid) (at : ℕ) (pages : List ℕ) : Type 0 where
  pub whole : Whole (released_pack p at pages)
  pub apart : is_fid d f ≡ false
  pub living : lives (sights (released_pack p at pages)) d ≡ true
  pub slots : dir_slots (released_pack p at pages) d ≡ dir_slots p d
  pub entry : (slot_at : ℕ) (a b : List Item) (own : List ℕ) → HasEntry p d slot_at a b f own → HasEntry (released_pack p at pages) d slot_at a b f own
  pub found : (g : Fid) (bt : ℕ) (from : Place) → is_fid g f ≡ false → IsFrom p g bt from → IsFrom (released_pack p at pages) g bt from

abbrev pub ReleasesLeaveTheEntry : Type 0
ReleasesLeaveTheEntry = (p : Pack) (f d : Fid) (at : ℕ) (pages : List ℕ) (slot_at : ℕ) (a b : List Item) (own : List ℕ)
    → Whole p → Tidy p → MayDrop p f at pages → HasEntry p d slot_at a b f own → StandsReleased p f d at pages

-- ---- both calls
-- After calls that did these operations: a prefix of the releases; or all of them, and then a prefix of the value that frees the slot of an
-- entry of f as it stands on the pack after them. For every answer that is a prefix of the line with the drop; all of it is what is written of the drop on the pack before the releases.
pub record DropJoins (T E : Type 0) (p : Pack) (ops : List Operation) (events : List Event) (f d : Fid) (at : ℕ) (pages : List ℕ) : Type 0 where
  pub breaks : (some : List Event) (error : E) → IsFirstOf (release_file_writes at pages) some → Goes {T = T} p (ops ++ drop_file f ∷ []) (events ++ some) (Err error)
  pub joins : (slot_at : ℕ) (a b : List Item) (own : List ℕ) → HasEntry (released_pack (after p events) at pages) d slot_at a b f own
      → (some : List Event) (result : Result T E) → IsFirstOf (slot_writes (released_pack (after p events) at pages) slot_at a f own) some → OnOk result (some ≡ slot_writes (released_pack (after p events) at pages) slot_at a f own)
      → Goes p (ops ++ drop_file f ∷ []) (events ++ (release_file_writes at pages ++ some)) result
  pub written : (slot_at : ℕ) (a b : List Item) (own : List ℕ) → HasEntry (released_pack (after p events) at pages) d slot_at a b f own
      → Written (after p events) (drop_file f) [] (at ∷ pages) (release_file_writes at pages ++ slot_writes (released_pack (after p events) at pages) slot_at a f own)
  pub acts : (slot_at : ℕ) (a b : List Item) (own : List ℕ) → HasEntry (released_pack (after p events) at pages) d slot_at a b f own
      → Acts (after p events) (drop_file f) [] (at ∷ pages) (release_file_writes at pages ++ slot_writes (released_pack (after p events) at pages) slot_at a f own)
  pub stands : StandsReleased (after p events) f d at pages

-- so it is on a whole and tidy pack, for a file that may be dropped and the directory with its entry
abbrev pub DropIsJoined : Type 0 → Type 0 → Type 0 → Type 0 → Type 0
DropIsJoined T U E F = (p : Pack) (ops : List Operation) (events : List Event) (x : U) (f d : Fid) (at : ℕ) (pages : List ℕ) (slot_at : ℕ) (a b : List Item) (own : List ℕ)
    → Goes {E = F} p ops events (Ok x) → Whole (after p events) → Tidy (after p events) → MayDrop (after p events) f at pages → HasEntry (after p events) d slot_at a b f own → DropJoins T E p ops events f d at pages
