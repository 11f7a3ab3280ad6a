-- Entries that are lacking on a pack whose pages are mended: which may be entered, and the page more that one may need.
use Rattle.std.specs.Prelude.{◌≡◌, ◌≢◌, ◌≤◌, [], ℕ, true, List, length, not, None}
use Rattle.laws_mend.specs.alto_words.specs.declared.fid.Fid.{Fid}
use Rattle.laws_mend.specs.alto_words.specs.Fid.{is_system, sys_dir}
use Rattle.laws_mend.specs.disk_records.specs.Packs.{Pack, after, is_free_at}
use Rattle.laws_mend.specs.pack_model.specs.hints.Links.{dir_words}
use Rattle.laws_mend.specs.pack_model.specs.operations.Rooms.{find_room, placed}
use Rattle.laws_mend.specs.pack_model.specs.reading.Files.{lives}
use Rattle.laws_mend.specs.pack_model.specs.reading.Model.{IsNamed, read_as, root_items}
use Rattle.laws_mend.specs.pack_model.specs.reading.Sights.{sights}
use Rattle.laws_mend.specs.pack_model.specs.reading.Slots.{entry_length, slots}
use Rattle.laws_mend.specs.pack_model.specs.reading.Slots.Item.{entry}
use Rattle.laws_mend.specs.pack_model.specs.scavenger.Mended.{lacking}
use Rattle.laws_mend.specs.pack_model.specs.scavenger.Reports.{PagesMended, adopted_files}
use Rattle.laws_mend.specs.pack_model.specs.scavenger.Scavenging.{Scavengeable}
use Rattle.laws_mend.specs.pack_model.specs.states.InUse.{how_many}
use Rattle.laws_mend.specs.pack_model.specs.states.Whole.{Tidy}
use Rattle.laws_mend.specs.WidenLaws.{CanWiden, DirectoryIsWidened, widening_writes}
use Rattle.laws_mend.specs.laws_room.specs.NextLaws.{Lacking, LackingNext, MayBeEntered, mended_pack}
use Rattle.laws_names.specs.EntriesLaws.{EntriesStay}
use Rattle.laws_names.specs.Keeping.{AllKeepOpen}

-- ---- which entries
-- the next one may be entered
abbrev pub NextMayBeEntered : Type 0
NextMayBeEntered = (p : Pack) (f : Fid) (name : List ℕ) (rest : List (Fid × List ℕ)) → PagesMended p → LackingNext p f name rest → MayBeEntered p f name

-- if none is lacking, each living file has an entry
abbrev pub NoneLackingIsNamed : Type 0
NoneLackingIsNamed = (p : Pack) (f : Fid) → PagesMended p → Lacking p [] → lives (sights p) f ≡ true → IsNamed (read_as p) f

-- the files among those that are lacking, except the system files, are as many as get a name
abbrev pub LackingAreAdopted : Type 0
LackingAreAdopted = (p : Pack) → PagesMended p → how_many {X = Fid × List ℕ} (λ e. not (is_system e.0)) (lacking (mended_pack p)) ≡ adopted_files p

-- ---- a page more
-- an entry that finds no room among the slots of a tidy pack's SysDir is placed nowhere
abbrev pub NoRoomIsNone : Type 0
NoRoomIsNone = (p : Pack) (f : Fid) (name : List ℕ) → PagesMended p → Tidy p → find_room (entry_length (length name)) (slots (dir_words p sys_dir)) ≡ None → placed (entry f name) (root_items (mended_pack p)) ≡ None

-- if the next one is placed nowhere, a pack that can be scavenged has a free sector other than sector 1
abbrev pub WideningHasItsSector : Type 0
WideningHasItsSector = (p : Pack) (f : Fid) (name : List ℕ) (rest : List (Fid × List ℕ)) → Scavengeable p → PagesMended p → LackingNext p f name rest → placed (entry f name) (root_items (mended_pack p)) ≡ None → (at : ℕ) × (at ≢ 1) × (is_free_at p at ≡ true)

-- with a page more SysDir has room for each entry of at most 256 words
abbrev pub WidenedHasRoom : Type 0
WidenedHasRoom = (p : Pack) (at fresh n : ℕ) → PagesMended p → CanWiden p sys_dir at fresh → n ≤ 256 → find_room n (slots (dir_words (after p (widening_writes p sys_dir at fresh)) sys_dir)) ≢ None

-- SysDir has a page more, in a sector that was free, for the entry that is lacking next: what has to be kept is kept at each crash point, each
-- entry of the pack is kept still, the same are lacking, all stand where they stood, and there is room for the next one. No other sector
-- became free.
pub record RootIsWidened (p q : Pack) (at fresh : ℕ) (f : Fid) (name : List ℕ) (rest : List (Fid × List ℕ)) : Type 0 where
  pub keeps : AllKeepOpen p (widening_writes p sys_dir at fresh)
  pub widened : DirectoryIsWidened p q sys_dir at fresh
  pub tidy : Tidy q
  pub lacking_is : LackingNext q f name rest
  pub stay : EntriesStay p q
  pub room : find_room (entry_length (length name)) (slots (dir_words q sys_dir)) ≢ None
  pub free : (i : ℕ) → is_free_at q i ≡ true → is_free_at p i ≡ true

-- so it is if the next one has no room
abbrev pub RootWideningLeaves : Type 0
RootWideningLeaves = (p : Pack) (at fresh : ℕ) (f : Fid) (name : List ℕ) (rest : List (Fid × List ℕ)) → PagesMended p → Tidy p → CanWiden p sys_dir at fresh → LackingNext p f name rest → find_room (entry_length (length name)) (slots (dir_words p sys_dir)) ≡ None
    → entry_length (length name) ≤ 256 → RootIsWidened p (after p (widening_writes p sys_dir at fresh)) at fresh f name rest
