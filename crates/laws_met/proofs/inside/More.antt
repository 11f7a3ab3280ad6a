-- More operations on a pack that stands, by what a caller knows.
use Rattle.std.proofs.Common.{◌≡◌, ℕ, ◌%◌, true, false, not, cond, List, [], Some, None, length, refl, sym, ap, subst, ◌∙◌}
use Rattle.std.specs.FinMap.{get}
use Rattle.laws_steps.specs.alto_words.specs.declared.fid.Fid.{Fid}
use Rattle.laws_steps.specs.alto_words.specs.Fid.{is_directory, is_system}
use Rattle.laws_steps.specs.alto_words.specs.Names.{is_same_name, is_stored_name}
use Rattle.laws_steps.specs.disk_records.specs.Packs.{Pack, sector_at}
use Rattle.laws_steps.specs.pack_model.specs.operations.Commands.{cut_label, grown_claims, grown_label, grown_value}
use Rattle.laws_steps.specs.pack_model.specs.operations.PageWords.{put_value, stamped_value, titled_value, widening_bytes}
use Rattle.laws_steps.specs.pack_model.specs.operations.Step.Operation.{cut, drop_file, leave, put, stamp, title, widen}
use Rattle.laws_steps.specs.pack_model.specs.reading.Bodies.{described, found, is_described, items_in}
use Rattle.laws_steps.specs.pack_model.specs.reading.Files.{file_bytes, leader, lives}
use Rattle.laws_steps.specs.pack_model.specs.reading.Leaders.{Leader}
use Rattle.laws_steps.specs.pack_model.specs.reading.Bytes.{words_of}
use Rattle.laws_steps.specs.pack_model.specs.reading.Bodies.Body.{data_of, items_of}
use Rattle.laws_steps.specs.pack_model.specs.reading.Model.{dir_items, read_as, read_sights}
use Rattle.laws_steps.specs.pack_model.specs.reading.Namings.{namings_in}
use Rattle.laws_steps.specs.pack_model.specs.reading.Sights.{sights}
use Rattle.laws_steps.specs.pack_model.specs.reading.Slots.{Item, all_words, item_words, slots}
use Rattle.laws_steps.specs.pack_model.specs.reading.Slots.Item.{entry}
use Rattle.laws_steps.specs.pack_model.specs.reading.SlotWords.{space_words}
use Rattle.laws_steps.specs.laws_record.proofs.Keeping.{get-tidied_plain, get-where, plain}
use Rattle.laws_steps.specs.laws_record.proofs.Reading.{get_by, read_file}
use Rattle.laws_steps.specs.laws_operation.specs.ByteLaws.{IsOrdinary}
use Rattle.laws_steps.specs.laws_operation.specs.DirectoryWords.{HasEntry}
use Rattle.laws_steps.specs.laws_operation.specs.FileWords.{CanCut, CanGrow, CanPut, CanWriteLeader}
use Rattle.laws_steps.specs.laws_operation.specs.LifeLaws.{MayDrop}
use Rattle.laws_steps.specs.laws_operation.specs.LinkLaws.{KeepsLinks}
use Rattle.laws_steps.specs.laws_operation.proofs.cut.Laws.{cut_keeps_links, cut_words_fit}
use Rattle.laws_steps.specs.laws_operation.proofs.drop.Laws.{drop_keeps_links, slot_words_fit}
use Rattle.laws_steps.specs.laws_operation.proofs.leave.Laws.{leave_keeps_links, leave_words_fit}
use Rattle.laws_steps.specs.laws_operation.proofs.put.Laws.{put_keeps_links, put_words_fit}
use Rattle.laws_steps.specs.laws_operation.proofs.stamp.Laws.{stamp_keeps_links, stamp_words_fit}
use Rattle.laws_steps.specs.laws_operation.proofs.title.Laws.{title_keeps_links, title_words_fit}
use Rattle.laws_steps.specs.laws_operation.proofs.widen.Laws.{widen_keeps_links, widen_words_fit}
use Rattle.laws_steps.specs.laws_line.proofs.crashes.Laws.{crashes_of_each_operation}
use Rattle.laws_met.specs.Peopled.{cutting, dropping, growing, leaving, putting, stamping, titling}
use Rattle.laws_met.proofs.inside.Operating.{Done, Stands}

module _ (p : Pack) (s : Stands p) where
  pub is_put : (f : Fid) (offset : ℕ) (new : List ℕ) (at : ℕ) → CanPut p f offset new at → Done p (putting p offset new at) (put f offset new)
  is_put f offset new at can =
      let may = put_words_fit p f offset new at s.whole can in
      record {
        stays = (crashes_of_each_operation p s.whole s.tidy).puts f offset new at (put_value (offset % 512) new [] (sector_at p at).value) may;
        links = put_keeps_links p f offset new at (put_value (offset % 512) new [] (sector_at p at).value) s.whole s.tidy may;
      }

  pub is_cut : (f : Fid) (n at : ℕ) (later : List ℕ) → CanCut p f n at later → Done p (cutting p n at later) (cut f n)
  is_cut f n at later can =
      let may = cut_words_fit p f n at later can in
      record {
        stays = (crashes_of_each_operation p s.whole s.tidy).cuts f n at (cut_label n (sector_at p at).label) later may;
        links = cut_keeps_links p f n at later s.whole s.tidy may;
      }

  pub is_titled : (f : Fid) (name : List ℕ) (at : ℕ) → CanWriteLeader p f at → is_stored_name name ≡ true → Done p (titling p name at) (title f name)
  is_titled f name at can stored =
      let may = title_words_fit p f name at can stored in
      record {
        stays = (crashes_of_each_operation p s.whole s.tidy).titles f name at (titled_value name (sector_at p at).value) may;
        links = title_keeps_links p f name at (titled_value name (sector_at p at).value) s.whole s.tidy may;
      }

  pub is_stamped : (f : Fid) (moment at last_at number bytes : ℕ) → CanWriteLeader p f at → Done p (stamping p moment last_at number bytes at) (stamp f moment)
  is_stamped f moment at last_at number bytes can =
      let may = stamp_words_fit p f moment at last_at number bytes s.whole can in
      record {
        stays = (crashes_of_each_operation p s.whole s.tidy).stamps f moment at (stamped_value moment last_at number bytes (sector_at p at).value) may;
        links = stamp_keeps_links p f moment at (stamped_value moment last_at number bytes (sector_at p at).value) s.whole s.tidy may;
      }

  pub is_widened : (d : Fid) (b : ℕ) (fresh : List ℕ) (at : ℕ) → is_directory d ≡ true → CanGrow p d b widening_bytes [] fresh at → Done p (growing p d b widening_bytes fresh at) (widen d)
  is_widened d b fresh at is can =
      let may = widen_words_fit p d b [] fresh at s.whole is can in
      record {
        stays = (crashes_of_each_operation p s.whole s.tidy).widens d (space_words 256) (grown_claims p.shape d b at widening_bytes [] fresh) at (grown_label p.shape b widening_bytes fresh (sector_at p at).label) (grown_value b widening_bytes [] fresh (sector_at p at).value) may;
        links = subst (λ b. KeepsLinks p (growing p d b widening_bytes fresh at)) (sym can.size) (widen_keeps_links p d (space_words 256) [] fresh at s.whole s.tidy (widen_words_fit p d (length (file_bytes (sights p) d)) [] fresh at s.whole is (subst (λ b. CanGrow p d b widening_bytes [] fresh at) can.size can)));
      }

  pub is_left : (d : Fid) (name : List ℕ) (at : ℕ) (a b : List Item) (f : Fid) (own : List ℕ) → HasEntry p d at a b f own → is_same_name own name ≡ true → is_system f ≡ false → Done p (leaving p at (all_words a) (item_words (entry f own))) (leave d name)
  is_left d name at a b f own has same no_system =
      let may = leave_words_fit p d name at a b f own has same no_system in
      record {
        stays = (crashes_of_each_operation p s.whole s.tidy).leaves d name at a b f own may;
        links = leave_keeps_links p d name at a b f own s.whole s.tidy may;
      }

  pub is_dropped : (f : Fid) (at : ℕ) (pages : List ℕ) (d : Fid) (slot_at : ℕ) (a b : List Item) (own : List ℕ) → MayDrop p f at pages → HasEntry p d slot_at a b f own
      → Done p (dropping p at pages slot_at (all_words a) (item_words (entry f own))) (drop_file f)
  is_dropped f at pages d slot_at a b own may has =
      let frees = slot_words_fit p d slot_at a b f own has in
      record {
        stays = (crashes_of_each_operation p s.whole s.tidy).drops f at pages d slot_at a b own may frees;
        links = drop_keeps_links p f at pages d slot_at a b own s.whole s.tidy may frees;
      }

-- an ordinary file has no slots in the model
pub ordinary_is_bare : (p : Pack) (f : Fid) (l : Leader) (bytes : List ℕ) → IsOrdinary f → leader (sights p) f ≡ Some l → file_bytes (sights p) f ≡ bytes → namings_in f (dir_items (read_as p) f) ≡ []
unfolding read_sights
ordinary_is_bare p f l bytes ordinary lead is =
    let body : read_file f bytes l ≡ plain l bytes = ap (λ t. record { leader = l; body = cond t (items_of (slots (words_of bytes))) (data_of bytes) }) ordinary.no_directory in
    let there : get (described (sights p)) f ≡ Some (plain l bytes) = get-where (found (sights p)) is_described f ∙ ap (λ b. cond (not b) (get (found (sights p)) f) None) ordinary.no_descriptor ∙ get_by (sights p) f l bytes lead is ∙ ap Some body in
    ap (λ r. namings_in f (items_in r)) (get-tidied_plain (lives (sights p)) (described (sights p)) f (plain l bytes) there (bytes, refl))
