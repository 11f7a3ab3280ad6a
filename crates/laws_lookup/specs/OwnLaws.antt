-- What becomes of a directory's own slots in a leaving, an entering and a widening, and of the entries beside them.
use Rattle.std.specs.Prelude.{List, [], ℕ, ◌++◌, ◌+◌, ◌<◌, ◌∷◌, ◌≡◌, ◌≤◌, ◌⊎◌}
use Rattle.laws_operation.specs.alto_words.specs.declared.fid.Fid.{Fid}
use Rattle.laws_operation.specs.disk_records.specs.Commands.{value_writes}
use Rattle.laws_operation.specs.disk_records.specs.Packs.{Pack, after, sector_at}
use Rattle.laws_operation.specs.disk_records.specs.Words.{word}
use Rattle.laws_operation.specs.disk_records.specs.declared.records.Page.{Page}
use Rattle.laws_operation.specs.pack_model.specs.hints.Links.{dir_words}
use Rattle.laws_operation.specs.pack_model.specs.hints.Misled.{StandsInEntry}
use Rattle.laws_operation.specs.pack_model.specs.operations.Commands.{Claim}
use Rattle.laws_operation.specs.pack_model.specs.operations.Entering.{entry_value, values_first}
use Rattle.laws_operation.specs.pack_model.specs.operations.Operations.{enter_writes, grow_writes}
use Rattle.laws_operation.specs.pack_model.specs.operations.PageWords.{freed_value}
use Rattle.laws_operation.specs.pack_model.specs.operations.Rooms.{left_over}
use Rattle.laws_operation.specs.pack_model.specs.reading.Files.{lives}
use Rattle.laws_operation.specs.pack_model.specs.reading.Namings.{namings_in}
use Rattle.laws_operation.specs.pack_model.specs.reading.Sights.{sights}
use Rattle.laws_operation.specs.pack_model.specs.reading.SlotWords.{address_word}
use Rattle.laws_operation.specs.pack_model.specs.reading.Slots.{Item, all_words, item_words, slots}
use Rattle.laws_operation.specs.pack_model.specs.reading.Slots.Item.{entry, space}
use Rattle.laws_operation.specs.pack_model.specs.states.Whole.{Tidy, Whole}
use Rattle.laws_operation.specs.NameLaws.{MayEnterAt, MayWiden, entry_room}
use Rattle.laws_operation.specs.laws_record.specs.DirLaws.{Frees, freed}

-- ---- slots in the place of others
-- Those before them and after them stand where they stood, with the same words; those that come have as many words as those that go,
-- unless none come after them.
pub record ReplacesSlots (p q : Pack) (d : Fid) (a old new b : List Item) : Type 0 where
  pub living : lives (sights q) d ≡ lives (sights p) d
  pub were : slots (dir_words p d) ≡ a ++ (old ++ b)
  pub are : slots (dir_words q d) ≡ a ++ (new ++ b)
  pub size : (b ≡ []) ⊎ (all_words new ≡ all_words old)
  pub before : (k : ℕ) → k < all_words a → word (dir_words q d) k ≡ word (dir_words p d) k
  pub later : (k : ℕ) → all_words a + all_words old ≤ k → k < all_words a + all_words old + all_words b → word (dir_words q d) k ≡ word (dir_words p d) k

-- slots are made one free slot, on any pack: a leaving, the last value of a drop, and the first of an entering
abbrev pub FreeingReplacesSlots : Type 0
FreeingReplacesSlots = (p : Pack) (d : Fid) (at : ℕ) (a old b : List Item) → Frees p d at a old b → ReplacesSlots p (freed p at a old) d a old (space (all_words old) ∷ []) b

-- that of an entry, in the words of a leaving
abbrev pub LeaveReplacesSlots : Type 0
LeaveReplacesSlots = (p : Pack) (d : Fid) (at : ℕ) (a b : List Item) (f : Fid) (own : List ℕ) → Frees p d at a (entry f own ∷ []) b
    → ReplacesSlots p (after p (value_writes at (freed_value (all_words a) (item_words (entry f own)) (sector_at p at).value))) d a (entry f own ∷ []) (space (item_words (entry f own)) ∷ []) b

-- an entry comes, with the address in its words
pub record EntersSlots (p q : Pack) (d : Fid) (a old b : List Item) (f : Fid) (name : List ℕ) (left address : ℕ) : Type 0 where
  pub slots_are : ReplacesSlots p q d a old (entry f name ∷ left_over left []) b
  pub address_is : word (dir_words q d) (address_word (all_words a)) ≡ address

abbrev pub EnterReplacesSlots : Type 0
EnterReplacesSlots = (p : Pack) (d : Fid) (name : List ℕ) (f : Fid) (a old b : List Item) (left : ℕ) (words : List ℕ) (at next_at : ℕ) → Whole p → Tidy p → MayEnterAt p d name f a old b left words at next_at
    → EntersSlots p (after p (enter_writes (values_first p (entry_room a old at next_at) words) at (entry_value p (entry_room a old at next_at) words))) d a old b f name left (word words (address_word 0))

-- a directory gets a page more
abbrev pub WidenReplacesSlots : Type 0
WidenReplacesSlots = (p : Pack) (d : Fid) (added : List ℕ) (claims : List Claim) (at : ℕ) (label value : List ℕ) → Whole p → Tidy p → MayWiden p d added claims at label value
    → ReplacesSlots p (after p (grow_writes claims at label value)) d (slots (dir_words p d)) [] (space 256 ∷ []) []

-- the same the other way round
abbrev pub ReplacingTurnsRound : Type 0
ReplacingTurnsRound = (p q : Pack) (d : Fid) (a old new b : List Item) → ReplacesSlots p q d a old new b → ReplacesSlots q p d a new old b

-- ---- the entries beside them
-- an address word outside of the slots that go is a hint still, for the same page
abbrev pub EntryBesideStands : Type 0
EntryBesideStands = (p q : Pack) (d : Fid) (a old new b : List Item) (w at : ℕ) (wanted : Page) → ReplacesSlots p q d a old new b → (w < all_words a) ⊎ (all_words a + all_words old ≤ w) → StandsInEntry p d w at wanted → StandsInEntry q d w at wanted

-- each one is, if only free slots go: in an entering and in a widening
abbrev pub EntryStandsOutsideOfFreeSlots : Type 0
EntryStandsOutsideOfFreeSlots = (p q : Pack) (d : Fid) (a old new b : List Item) (w at : ℕ) (wanted : Page) → ReplacesSlots p q d a old new b → namings_in d old ≡ [] → StandsInEntry p d w at wanted → StandsInEntry q d w at wanted
