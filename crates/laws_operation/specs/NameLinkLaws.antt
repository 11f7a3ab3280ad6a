-- Links that were true are true again once the words of a directory are written.
use Rattle.std.specs.Prelude.{List, Some, [], false, length, ℕ, ◌++◌, ◌+◌, ◌<◌, ◌∷◌, ◌≡◌, ◌≤◌}
use Rattle.laws_contents.specs.alto_words.specs.declared.fid.Fid.{Fid}
use Rattle.laws_contents.specs.disk_records.specs.Commands.{value_writes}
use Rattle.laws_contents.specs.disk_records.specs.Packs.{Pack, sector_at}
use Rattle.laws_contents.specs.disk_records.specs.Words.{word}
use Rattle.laws_contents.specs.pack_model.specs.reading.Bytes.{bytes_of, put_at}
use Rattle.laws_contents.specs.pack_model.specs.operations.Commands.{grown_claims, grown_label, grown_value}
use Rattle.laws_contents.specs.pack_model.specs.operations.Entering.{entry_value, values_first}
use Rattle.laws_contents.specs.pack_model.specs.reading.Files.{file_bytes, lives, place}
use Rattle.laws_contents.specs.pack_model.specs.hints.Links.{dir_words}
use Rattle.laws_contents.specs.pack_model.specs.reading.Namings.{namings_in}
use Rattle.laws_contents.specs.pack_model.specs.operations.Operations.{drop_writes, enter_writes, grow_writes}
use Rattle.laws_contents.specs.pack_model.specs.operations.PageWords.{freed_value, in_page}
use Rattle.laws_contents.specs.pack_model.specs.reading.Sights.{sights}
use Rattle.laws_contents.specs.pack_model.specs.reading.SlotWords.{address_word}
use Rattle.laws_contents.specs.pack_model.specs.reading.Slots.{Item, all_words, item_words, slots}
use Rattle.laws_contents.specs.pack_model.specs.reading.Slots.Item.{entry, space}
use Rattle.laws_contents.specs.pack_model.specs.states.Whole.{Tidy, TidyBut, Whole}
use Rattle.laws_contents.specs.laws_record.specs.DirLaws.{DirWrite, Frees}
use Rattle.laws_operation.specs.LifeLaws.{MayDrop}
use Rattle.laws_operation.specs.NameLaws.{MayEnterAt, MayLeave, MayWiden, entry_room}
use Rattle.laws_operation.specs.LinkLaws.{KeepsLinks}

-- an entry's slot is made free
abbrev pub LeaveKeepsLinks : Type 0
LeaveKeepsLinks = (p : Pack) (d : Fid) (name : List ℕ) (at : ℕ) (a b : List Item) (f : Fid) (own : List ℕ) → Whole p → Tidy p → MayLeave p d name at a b f own
    → KeepsLinks p (value_writes at (freed_value (all_words a) (item_words (entry f own)) (sector_at p at).value))

-- that of a file that was dropped
abbrev pub SlotKeepsLinks : Type 0
SlotKeepsLinks = (p : Pack) (f d : Fid) (at : ℕ) (a b : List Item) (own : List ℕ) → Whole p → TidyBut f (sights p) → lives (sights p) f ≡ false → Frees p d at a (entry f own ∷ []) b
    → KeepsLinks p (value_writes at (freed_value (all_words a) (item_words (entry f own)) (sector_at p at).value))

-- a whole drop, where the file has an entry
abbrev pub DropKeepsLinks : Type 0
DropKeepsLinks = (p : Pack) (f : Fid) (at : ℕ) (pages : List ℕ) (d : Fid) (slot_at : ℕ) (a b : List Item) (own : List ℕ) → Whole p → Tidy p → MayDrop p f at pages → Frees p d slot_at a (entry f own ∷ []) b
    → KeepsLinks p (drop_writes at pages slot_at (freed_value (all_words a) (item_words (entry f own)) (sector_at p slot_at).value))

-- free slots are made one
abbrev pub JoinKeepsLinks : Type 0
JoinKeepsLinks = (p : Pack) (d : Fid) (at : ℕ) (a old b : List Item) → Whole p → Tidy p → Frees p d at a old b → namings_in d old ≡ [] → KeepsLinks p (value_writes at (freed_value (all_words a) (all_words old) (sector_at p at).value))

-- words inside a free slot, after its first one
abbrev pub LooseWordsKeepLinks : Type 0
LooseWordsKeepLinks = (p : Pack) (d : Fid) (w at : ℕ) (new : List ℕ) (a b : List Item) (n : ℕ) → Whole p → Tidy p → DirWrite p d w at new → slots (dir_words p d) ≡ a ++ space n ∷ b → all_words a < w → w + length new ≤ all_words a + n
    → KeepsLinks p (value_writes at (put_at (in_page w) new (sector_at p at).value))

-- an entering whose words name the sector of the file's leader
abbrev pub EnterKeepsLinks : Type 0
EnterKeepsLinks = (p : Pack) (d : Fid) (name : List ℕ) (f : Fid) (a old b : List Item) (left : ℕ) (words : List ℕ) (at next_at : ℕ) → Whole p → Tidy p → MayEnterAt p d name f a old b left words at next_at
    → place (sights p) f 0 ≡ Some (word words (address_word 0))
    → KeepsLinks p (enter_writes (values_first p (entry_room a old at next_at) words) at (entry_value p (entry_room a old at next_at) words))

-- a widening with the words that it writes
abbrev pub WidenKeepsLinks : Type 0
WidenKeepsLinks = (p : Pack) (d : Fid) (added past fresh : List ℕ) (at : ℕ) → let b : ℕ = length (file_bytes (sights p) d) in
    let claims = grown_claims p.shape d b at (bytes_of added) past fresh in let label : List ℕ = grown_label p.shape b (bytes_of added) fresh (sector_at p at).label in
    let value : List ℕ = grown_value b (bytes_of added) past fresh (sector_at p at).value in Whole p → Tidy p → MayWiden p d added claims at label value → KeepsLinks p (grow_writes claims at label value)
