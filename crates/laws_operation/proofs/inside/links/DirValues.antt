-- Words of a directory are written in one of its pages.
use Rattle.std.proofs.Common.{List, [], ap, arith, false, length, refl, subst, sym, true, ℕ, ◌++◌, ◌+◌, ◌/◌, ◌<◌, ◌∙◌, ◌∷◌, ◌≡◌, ◌≤◌}
use Rattle.std.specs.Option.{is_some}
use Rattle.laws_contents.specs.alto_words.specs.Fid.{is_directory, is_fid}
use Rattle.laws_contents.specs.alto_words.specs.declared.fid.Fid.{Fid}
use Rattle.laws_contents.specs.disk_records.specs.Commands.{value_writes}
use Rattle.laws_contents.specs.disk_records.specs.Packs.{Pack, after, sector_at}
use Rattle.laws_contents.specs.pack_model.specs.reading.Bytes.{put_at}
use Rattle.laws_contents.specs.pack_model.specs.operations.Commands.{values_writes}
use Rattle.laws_contents.specs.pack_model.specs.reading.Files.{lives}
use Rattle.laws_contents.specs.pack_model.specs.hints.Links.{LinksTrue, dir_words}
use Rattle.laws_contents.specs.pack_model.specs.reading.Model.{dir_items, read_as}
use Rattle.laws_contents.specs.pack_model.specs.operations.PageWords.{in_page, page_number}
use Rattle.laws_contents.specs.pack_model.specs.reading.Sights.{sights}
use Rattle.laws_contents.specs.pack_model.specs.reading.Slots.{Item, all_words, slots}
use Rattle.laws_contents.specs.pack_model.specs.reading.Slots.Item.{entry, space}
use Rattle.laws_contents.specs.pack_model.specs.states.Whole.{Tidy, Whole}
use Rattle.laws_contents.specs.pack_laws.proofs.Keys.{same_fid}
use Rattle.laws_contents.specs.pack_laws.proofs.Moving.{stands_last}
use Rattle.laws_contents.specs.pack_model.specs.sessions.Meanings.{reading}
use Rattle.laws_contents.specs.laws_record.proofs.Addressing.{LooseIn}
use Rattle.laws_contents.specs.laws_record.proofs.Copying.{place_carried}
use Rattle.laws_contents.specs.laws_record.proofs.DirWords.{dir_change}
use Rattle.laws_contents.specs.laws_record.proofs.Slotwise.{one_word, put_before, put_after, slots_freed}
use Rattle.laws_contents.specs.laws_record.specs.DirLaws.{Frees, dir_written}
use Rattle.laws_operation.proofs.EnterLaw.{items_are}
use Rattle.laws_operation.proofs.EnterStages.{join_stage, loose_stage}
use Rattle.laws_operation.proofs.EntryWrite.{loose_in}
use Rattle.laws_operation.proofs.inside.Freeing.{slot_carries_out}
use Rattle.laws_operation.proofs.Leaving.{leave_law}
use Rattle.laws_operation.proofs.inside.links.Addresses.{AllTrue, true_more, true_replaced}
use Rattle.laws_operation.proofs.inside.links.Directories.{DirTrue, all_dirs, dirs_true, other_dir_by, other_items, other_lives}
use Rattle.laws_operation.proofs.inside.links.Framing.{AllConcern}
use Rattle.laws_operation.proofs.inside.links.Values.{AllOf, of_carried, values_concern, values_linked, values_place}
use Rattle.laws_operation.specs.NameLinkLaws.{JoinKeepsLinks, LeaveKeepsLinks, LooseWordsKeepLinks, SlotKeepsLinks}

-- values in sectors of a directory, where it and the others are read so
pub dir_values : (vs : List (ℕ × List ℕ)) (p : Pack) (d : Fid) → Whole p → Whole (after p (values_writes vs)) → AllOf d p vs
    → ((g : Fid) → is_fid g d ≡ false → lives (sights (after p (values_writes vs))) g ≡ true → is_directory g ≡ true → dir_items (read_as (after p (values_writes vs))) g ≡ dir_items (read_as p) g)
    → AllTrue (sights p) (dir_words (after p (values_writes vs)) d) 0 (dir_items (read_as (after p (values_writes vs))) d) → LinksTrue p → LinksTrue (after p (values_writes vs))
dir_values vs p d wp wq of others own links =
    let q : Pack = after p (values_writes vs) in
    let all : AllConcern d p (values_writes vs) = values_concern d vs p of in
    record {
      pages = values_linked vs p wp wq links.pages;
      entries = all_dirs q (λ g live dir. elim (is_fid g d) as (λ b. is_fid g d ≡ b → DirTrue q g) [
        | true ↦ λ e. subst (DirTrue q) (sym (same_fid g d e)) (true_more (sights p) (sights q) (dir_words q d) 0 (dir_items (read_as q) d) (λ f a x. values_place vs p wp wq f 0 ∙ x) own)
        | false ↦ λ e. other_dir_by p d (values_writes vs) wp wq all (λ a x. values_place vs p wp wq d 0 ∙ x) g e (others g e live dir)
            (dirs_true p links.entries g (other_lives p d (values_writes vs) wp wq all g e live) dir)
      ] refl);
    }

-- ---- slots are made one free slot
module _ (p : Pack) (d : Fid) (at : ℕ) (a old b : List Item) (fr : Frees p d at a old b) where
  -- the words then
  freed_words : dir_words (dir_written p (all_words a) at (all_words old ∷ [])) d ≡ put_at (all_words a) (all_words old ∷ []) (dir_words p d)
  freed_words = (dir_change p d (all_words a) at (all_words old ∷ []) fr.write).words_are

  -- and the slots
  freed_slots : slots (put_at (all_words a) (all_words old ∷ []) (dir_words p d)) ≡ a ++ space (all_words old) ∷ b
  freed_slots = slots_freed (dir_words p d) a old b fr.slots_are fr.some (let m = fr.most in omega arith)

  -- the page is of the directory
  freed_of : AllOf d p ((at, put_at (in_page (all_words a)) (all_words old ∷ []) (sector_at p at).value) ∷ [])
  freed_of = (of_carried d (all_words a / 256 + 1) p at (place_carried p (page_number d (all_words a / 256 + 1)) at fr.write.sector), tt)

  -- it lives as before
  freed_lives : lives (sights (dir_written p (all_words a) at (all_words old ∷ []))) d ≡ true
  freed_lives = ap is_some ((dir_change p d (all_words a) at (all_words old ∷ []) fr.write).leaders d) ∙ fr.write.lives

  -- the addresses of all other slots stand where they stood
  freed_true : (mid : List Item) → all_words mid ≡ all_words old → AllTrue (sights p) (dir_words p d) 0 (a ++ (mid ++ b)) → AllTrue (sights p) (dir_words (dir_written p (all_words a) at (all_words old ∷ [])) d) 0 (a ++ space (all_words old) ∷ b)
  freed_true mid same was =
      let new : List ℕ = all_words old ∷ [] in
      let one : length new ≡ 1 = refl in
      let some = fr.some in
      let size : all_words (space (all_words old) ∷ []) ≡ all_words mid = omega (arith, same) in
      subst (λ ws. AllTrue (sights p) ws 0 (a ++ space (all_words old) ∷ b)) (sym freed_words)
      (true_replaced (sights p) (dir_words p d) (put_at (all_words a) new (dir_words p d)) a mid (space (all_words old) ∷ []) b
      (λ k l. put_before (all_words a) new (dir_words p d) k fr.write.within l) (λ k l. put_after (all_words a) new (dir_words p d) k fr.write.within (omega arith)) size (tt, tt) was)

  module _ (wp : Whole p) (wq : Whole (dir_written p (all_words a) at (all_words old ∷ []))) (tq : Tidy (dir_written p (all_words a) at (all_words old ∷ []))) where
    -- the slots that are read
    freed_items : dir_items (read_as (dir_written p (all_words a) at (all_words old ∷ []))) d ≡ a ++ space (all_words old) ∷ b
    freed_items = items_are (dir_written p (all_words a) at (all_words old ∷ [])) tq d freed_lives fr.write.directory ∙ ap slots freed_words ∙ freed_slots

    -- so links are true again
    freed_links : (mid : List Item) → all_words mid ≡ all_words old → dir_items (read_as p) d ≡ a ++ (mid ++ b)
        → ((g : Fid) → is_fid g d ≡ false → lives (sights (dir_written p (all_words a) at (all_words old ∷ []))) g ≡ true → is_directory g ≡ true → dir_items (read_as (dir_written p (all_words a) at (all_words old ∷ []))) g ≡ dir_items (read_as p) g)
        → LinksTrue p → LinksTrue (dir_written p (all_words a) at (all_words old ∷ []))
    freed_links mid same items others links =
        let q : Pack = dir_written p (all_words a) at (all_words old ∷ []) in
        let was : AllTrue (sights p) (dir_words p d) 0 (a ++ (mid ++ b)) = subst (AllTrue (sights p) (dir_words p d) 0) items (dirs_true p links.entries d fr.write.lives fr.write.directory) in
        dir_values ((at, put_at (in_page (all_words a)) (all_words old ∷ []) (sector_at p at).value) ∷ []) p d wp wq freed_of others
        (subst (AllTrue (sights p) (dir_words q d) 0) (sym freed_items) (freed_true mid same was)) links

    -- also where both packs are tidy
    pub tidy_freed : Tidy p → LinksTrue p → LinksTrue (dir_written p (all_words a) at (all_words old ∷ []))
    tidy_freed tp links =
        let vs : List (ℕ × List ℕ) = (at, put_at (in_page (all_words a)) (all_words old ∷ []) (sector_at p at).value) ∷ [] in
        freed_links old refl (items_are p tp d fr.write.lives fr.write.directory ∙ fr.slots_are) (λ g ne live dir. other_items p d (values_writes vs) wp wq (values_concern d vs p freed_of) tp tq g ne live dir) links

-- the pack with the first word of the slot
abbrev slot_of_words : Pack → ℕ → List Item → ℕ → Pack
slot_of_words p at a k = after p (value_writes at (put_at (in_page (all_words a)) (k ∷ []) (sector_at p at).value))

-- an entry leaves
pub leave_keeps_links : LeaveKeepsLinks
leave_keeps_links p d name at a b f own w t h links =
    let old : List Item = entry f own ∷ [] in
    let one = one_word f own in
    let out = leave_law p w t d name at a b f own h in
    let wq : Whole (slot_of_words p at a (all_words old)) = subst (λ k. Whole (slot_of_words p at a k)) (sym one) out.meets.whole in
    let tq : Tidy (slot_of_words p at a (all_words old)) = subst (λ k. Tidy (slot_of_words p at a k)) (sym one) out.meets.tidy in
    subst (λ k. LinksTrue (slot_of_words p at a k)) one (tidy_freed p d at a old b h.frees w wq tq t links)

-- the slot of a file that was dropped is made free
pub slot_keeps_links : SlotKeepsLinks
slot_keeps_links p f d at a b own w t dead fr links =
    let old : List Item = entry f own ∷ [] in
    let one = one_word f own in
    let n : ℕ = all_words old in
    let out = slot_carries_out p f d at a b own w t dead fr in
    let wq : Whole (slot_of_words p at a n) = subst (λ k. Whole (slot_of_words p at a k)) (sym one) out.meets.whole in
    let tq : Tidy (slot_of_words p at a n) = subst (λ k. Tidy (slot_of_words p at a k)) (sym one) out.meets.tidy in
    let reads : read_as (slot_of_words p at a n) ≡ read_as p = subst (λ k. read_as (slot_of_words p at a k) ≡ read_as p) (sym one) (stands_last reading out.meets.obeys) in
    let items : dir_items (read_as p) d ≡ a ++ space n ∷ b = ap (λ m. dir_items m d) (sym reads) ∙ freed_items p d at a old b fr w wq tq in
    subst (λ k. LinksTrue (slot_of_words p at a k)) one (freed_links p d at a old b fr w wq tq (space n ∷ []) (omega arith) items (λ g ne live dir. ap (λ m. dir_items m g) reads) links)

-- free slots are made one
pub join_keeps_links : JoinKeepsLinks
join_keeps_links p d at a old b w t fr bare links = let st = join_stage p w t d at a old b fr bare in tidy_freed p d at a old b fr w st.whole st.tidy t links

-- ---- words inside a free slot
pub loose_words_keep_links : LooseWordsKeepLinks
loose_words_keep_links p d w at new a b n wp t h slots_are low high links =
    let is : List Item = a ++ space n ∷ b in
    let loose : (k : ℕ) → w ≤ k → k < w + length new → LooseIn 0 (slots (dir_words p d)) k = λ k l m. subst (λ x. LooseIn 0 x k) (sym slots_are) (loose_in 0 a b n k (omega arith) (omega arith)) in
    let st = loose_stage p wp t d w at new h loose in
    let q : Pack = dir_written p w at new in
    let words : dir_words q d ≡ put_at w new (dir_words p d) = (dir_change p d w at new h).words_are in
    let vs : List (ℕ × List ℕ) = (at, put_at (in_page w) new (sector_at p at).value) ∷ [] in
    let of : AllOf d p vs = (of_carried d (w / 256 + 1) p at (place_carried p (page_number d (w / 256 + 1)) at h.sector), tt) in
    let items : dir_items (read_as p) d ≡ is = items_are p t d h.lives h.directory ∙ slots_are in
    let was : AllTrue (sights p) (dir_words p d) 0 is = subst (AllTrue (sights p) (dir_words p d) 0) items (dirs_true p links.entries d h.lives h.directory) in
    let size : all_words (space n ∷ []) ≡ n = omega arith in
    let now : AllTrue (sights p) (put_at w new (dir_words p d)) 0 is =
    true_replaced (sights p) (dir_words p d) (put_at w new (dir_words p d)) a (space n ∷ []) (space n ∷ []) b (λ k l. put_before w new (dir_words p d) k h.within (omega arith)) (λ k l. put_after w new (dir_words p d) k h.within (omega arith)) refl (tt, tt) was in
    let items_now : dir_items (read_as q) d ≡ is = ap (λ m. dir_items m d) st.read ∙ items in
    dir_values vs p d wp st.whole of (λ g ne live dir. ap (λ m. dir_items m g) st.read)
    (subst (λ ws. AllTrue (sights p) ws 0 (dir_items (read_as q) d)) (sym words) (subst (AllTrue (sights p) (put_at w new (dir_words p d)) 0) (sym items_now) now)) links
