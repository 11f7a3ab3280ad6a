-- Hints that mislead after a whole operation misled before it.
use Rattle.std.specs.Prelude.{List, Some, [], false, length, ℕ, ◌∷◌, ◌≡◌}
use Rattle.laws_operation.specs.alto_words.specs.Fid.{is_fid}
use Rattle.laws_operation.specs.alto_words.specs.declared.fid.Fid.{Fid}
use Rattle.laws_operation.specs.disk_records.specs.Commands.{value_writes}
use Rattle.laws_operation.specs.disk_records.specs.Packs.{Pack, after, sector_at}
use Rattle.laws_operation.specs.disk_records.specs.Words.{word}
use Rattle.laws_operation.specs.disk_records.specs.declared.records.Page.{Page}
use Rattle.laws_operation.specs.disk_records.specs.declared.records.Place.{Place}
use Rattle.laws_operation.specs.pack_model.specs.hints.Misled.{IsOnDisk, Misled}
use Rattle.laws_operation.specs.pack_model.specs.operations.Commands.{first_page_claim, grown_claims, grown_label, grown_value, leader_claim}
use Rattle.laws_operation.specs.pack_model.specs.operations.Committing.{pages_added}
use Rattle.laws_operation.specs.pack_model.specs.operations.Entering.{entry_value, values_first}
use Rattle.laws_operation.specs.pack_model.specs.operations.Operations.{cut_writes, drop_writes, enter_writes, release_file_writes, grow_writes, make_writes}
use Rattle.laws_operation.specs.pack_model.specs.operations.PageWords.{freed_value}
use Rattle.laws_operation.specs.pack_model.specs.reading.Bytes.{bytes_of}
use Rattle.laws_operation.specs.pack_model.specs.reading.Files.{file_bytes, place}
use Rattle.laws_operation.specs.pack_model.specs.reading.Sights.{sights}
use Rattle.laws_operation.specs.pack_model.specs.reading.SlotWords.{address_word}
use Rattle.laws_operation.specs.pack_model.specs.reading.Slots.{Item, all_words, item_words}
use Rattle.laws_operation.specs.pack_model.specs.reading.Slots.Item.{entry}
use Rattle.laws_operation.specs.pack_model.specs.states.Whole.{Tidy, Whole}
use Rattle.laws_operation.specs.ByteLaws.{MayCut, MayGrow}
use Rattle.laws_operation.specs.LifeLaws.{MayDrop, MayMake}
use Rattle.laws_operation.specs.NameLaws.{MayEnterAt, MayWiden, entry_room}
use Rattle.laws_operation.specs.laws_record.specs.DirLaws.{Frees}
use Rattle.laws_lookup.specs.StayLaws.{MisledBefore}

-- a leaving, and the last value of a drop, after which the pack is whole
abbrev pub LeaveMisledBefore : Type 0
LeaveMisledBefore = (p : Pack) (d : Fid) (at : ℕ) (a b : List Item) (f : Fid) (own : List ℕ) → let value : List ℕ = freed_value (all_words a) (item_words (entry f own)) (sector_at p at).value in
    Whole p → Whole (after p (value_writes at value)) → Frees p d at a (entry f own ∷ []) b → MisledBefore p (value_writes at value)

-- an entering whose words name the sector of the file's leader
abbrev pub EnterMisledBefore : Type 0
EnterMisledBefore = (p : Pack) (d : Fid) (name : List ℕ) (f : Fid) (a old b : List Item) (left : ℕ) (words : List ℕ) (at next_at : ℕ) → Whole p → Tidy p → MayEnterAt p d name f a old b left words at next_at
    → place (sights p) f 0 ≡ Some (word words (address_word 0))
    → MisledBefore p (enter_writes (values_first p (entry_room a old at next_at) words) at (entry_value p (entry_room a old at next_at) words))

-- a cut
abbrev pub CutMisledBefore : Type 0
CutMisledBefore = (p : Pack) (f : Fid) (n at : ℕ) (label later : List ℕ) → Whole p → Tidy p → MayCut p f n at label later → MisledBefore p (cut_writes at label (sector_at p at).value later)

-- a growth with the words that it writes, and as many claims as it adds pages
abbrev pub GrowMisledBefore : Type 0
GrowMisledBefore = (p : Pack) (f : Fid) (new past fresh : List ℕ) (at : ℕ) → let b : ℕ = length (file_bytes (sights p) f) in
    let claims = grown_claims p.shape f b at new past fresh in let label : List ℕ = grown_label p.shape b new fresh (sector_at p at).label in let value : List ℕ = grown_value b new past fresh (sector_at p at).value in
    Whole p → Tidy p → MayGrow p f new claims at label value → length fresh ≡ pages_added b (length new) → MisledBefore p (grow_writes claims at label value)

-- a widening with the words that it writes
abbrev pub WidenMisledBefore : Type 0
WidenMisledBefore = (p : Pack) (d : Fid) (added past fresh : List ℕ) (at : ℕ) → let b : ℕ = length (file_bytes (sights p) d) in
    let claims = grown_claims p.shape d b at (bytes_of added) past fresh in let label : List ℕ = grown_label p.shape b (bytes_of added) fresh (sector_at p at).label in
    let value : List ℕ = grown_value b (bytes_of added) past fresh (sector_at p at).value in
    Whole p → Tidy p → MayWiden p d added claims at label value → length fresh ≡ pages_added b (length (bytes_of added)) → MisledBefore p (grow_writes claims at label value)

-- a make with the words that it writes
abbrev pub MakeMisledBefore : Type 0
MakeMisledBefore = (p : Pack) (f : Fid) (name : List ℕ) (moment leader_at page_at : ℕ) → let page = first_page_claim p.shape f leader_at page_at in let leader = leader_claim p.shape f name moment leader_at page_at in
    Whole p → Tidy p → MayMake p f name moment page leader → MisledBefore p (make_writes page leader)

-- the releases of a drop, of hints for other files: the file's entry is left, and its address misleads now
abbrev pub ReleaseMisledBefore : Type 0
ReleaseMisledBefore = (p : Pack) (f : Fid) (at : ℕ) (pages : List ℕ) (where_from : Place) (bt : ℕ) (wanted : Page) → Whole p → Tidy p → MayDrop p f at pages → IsOnDisk where_from → is_fid wanted.fid f ≡ false
    → Misled (after p (release_file_writes at pages)) where_from bt wanted → Misled p where_from bt wanted

-- a whole drop, where the file has an entry
abbrev pub DropMisledBefore : Type 0
DropMisledBefore = (p : Pack) (f : Fid) (at : ℕ) (pages : List ℕ) (d : Fid) (slot_at : ℕ) (a b : List Item) (own : List ℕ) → Whole p → Tidy p → MayDrop p f at pages → Frees p d slot_at a (entry f own ∷ []) b
    → MisledBefore p (drop_writes at pages slot_at (freed_value (all_words a) (item_words (entry f own)) (sector_at p slot_at).value))
