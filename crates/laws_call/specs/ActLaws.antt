-- What all record writes of each operation do, for a caller who knows what it can know.
use Rattle.std.specs.Prelude.{List, Some, [], true, ℕ, ◌∷◌, ◌≡◌}
use Rattle.laws_hint.specs.alto_words.specs.Fid.{is_directory}
use Rattle.laws_hint.specs.alto_words.specs.declared.fid.Fid.{Fid}
use Rattle.laws_hint.specs.disk_records.specs.Commands.{value_writes}
use Rattle.laws_hint.specs.disk_records.specs.Packs.{Pack, sector_at}
use Rattle.laws_hint.specs.disk_records.specs.Words.{word}
use Rattle.laws_hint.specs.pack_model.specs.operations.Commands.{cut_label, first_page_claim, grown_claims, grown_label, grown_value, leader_claim}
use Rattle.laws_hint.specs.pack_model.specs.operations.Entering.{entry_value, values_first}
use Rattle.laws_hint.specs.pack_model.specs.operations.Operations.{cut_writes, drop_writes, enter_writes, grow_writes, make_writes}
use Rattle.laws_hint.specs.pack_model.specs.operations.PageWords.{freed_value, widening_bytes}
use Rattle.laws_hint.specs.pack_model.specs.operations.Step.Operation.{cut, drop_file, enter, grow, leave, make, put, stamp, title, widen}
use Rattle.laws_hint.specs.pack_model.specs.reading.Files.{place}
use Rattle.laws_hint.specs.pack_model.specs.reading.Sights.{sights}
use Rattle.laws_hint.specs.pack_model.specs.reading.SlotWords.{address_word}
use Rattle.laws_hint.specs.pack_model.specs.reading.Slots.Item.{entry}
use Rattle.laws_hint.specs.pack_model.specs.reading.Slots.{Item, all_words, item_words}
use Rattle.laws_hint.specs.pack_model.specs.states.Whole.{Tidy, Whole}
use Rattle.laws_call.specs.Acting.{Acts}
use Rattle.laws_hint.specs.laws_operation.specs.ByteLaws.{IsOrdinary, MayPut}
use Rattle.laws_hint.specs.laws_operation.specs.FileWords.{CanCut, CanGrow, CanMake}
use Rattle.laws_hint.specs.laws_operation.specs.LeaderLaws.{MayWriteLeader, stamped, titled}
use Rattle.laws_hint.specs.laws_operation.specs.LifeLaws.{MayDrop}
use Rattle.laws_hint.specs.laws_operation.specs.NameLaws.{MayEnterAt, MayLeave, entry_room}
use Rattle.laws_hint.specs.laws_record.specs.DirLaws.{Frees}

-- The words of `pack_model` for each operation, with the sectors that it claims and releases.
pub record EachActs (p : Pack) : Type 0 where
  pub puts : (f : Fid) (offset : ℕ) (new : List ℕ) (at : ℕ) (value : List ℕ) → MayPut p f offset new at value → Acts p (put f offset new) [] [] (value_writes at value)
  pub grows : (f : Fid) (b : ℕ) (new past fresh : List ℕ) (at : ℕ) → IsOrdinary f → CanGrow p f b new past fresh at
      → Acts p (grow f new) fresh [] (grow_writes (grown_claims p.shape f b at new past fresh) at (grown_label p.shape b new fresh (sector_at p at).label) (grown_value b new past fresh (sector_at p at).value))
  pub cuts : (f : Fid) (n at : ℕ) (later : List ℕ) → CanCut p f n at later → Acts p (cut f n) [] later (cut_writes at (cut_label n (sector_at p at).label) (sector_at p at).value later)
  pub titles : (f : Fid) (name : List ℕ) (at : ℕ) (value : List ℕ) → MayWriteLeader p f (titled name) at value → Acts p (title f name) [] [] (value_writes at value)
  pub stamps : (f : Fid) (moment : ℕ) (at : ℕ) (value : List ℕ) → MayWriteLeader p f (stamped moment) at value → Acts p (stamp f moment) [] [] (value_writes at value)
  pub makes : (f : Fid) (name : List ℕ) (moment leader_at page_at : ℕ) → CanMake p f name leader_at page_at
      → Acts p (make f name moment) (page_at ∷ leader_at ∷ []) [] (make_writes (first_page_claim p.shape f leader_at page_at) (leader_claim p.shape f name moment leader_at page_at))
  pub drops : (f : Fid) (at : ℕ) (pages : List ℕ) (d : Fid) (slot_at : ℕ) (a b : List Item) (own : List ℕ) → MayDrop p f at pages → Frees p d slot_at a (entry f own ∷ []) b
      → Acts p (drop_file f) [] (at ∷ pages) (drop_writes at pages slot_at (freed_value (all_words a) (item_words (entry f own)) (sector_at p slot_at).value))
  pub leaves : (d : Fid) (name : List ℕ) (at : ℕ) (a b : List Item) (f : Fid) (own : List ℕ) → MayLeave p d name at a b f own
      → Acts p (leave d name) [] [] (value_writes at (freed_value (all_words a) (item_words (entry f own)) (sector_at p at).value))
  pub enters : (d : Fid) (name : List ℕ) (f : Fid) (a old b : List Item) (left : ℕ) (words : List ℕ) (at next_at : ℕ) → MayEnterAt p d name f a old b left words at next_at → place (sights p) f 0 ≡ Some (word words (address_word 0))
      → Acts p (enter d name f) [] [] (enter_writes (values_first p (entry_room a old at next_at) words) at (entry_value p (entry_room a old at next_at) words))
  pub widens : (d : Fid) (b : ℕ) (past fresh : List ℕ) (at : ℕ) → is_directory d ≡ true → CanGrow p d b widening_bytes past fresh at
      → Acts p (widen d) fresh [] (grow_writes (grown_claims p.shape d b at widening_bytes past fresh) at (grown_label p.shape b widening_bytes fresh (sector_at p at).label) (grown_value b widening_bytes past fresh (sector_at p at).value))

abbrev pub ActsOfEachOperation : Type 0
ActsOfEachOperation = (p : Pack) → Whole p → Tidy p → EachActs p
