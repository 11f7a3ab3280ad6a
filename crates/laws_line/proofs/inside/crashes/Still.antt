-- Packs on which sector 1 and DiskDescriptor stand as they stood, at each crash point of record writes that leave them alone.
use Rattle.std.proofs.Common.{List, None, Option, Some, [], ap, cond, eqb-true, false, inl, inr, length, refl, subst, sym, true, ℕ, ◌<◌, ◌==◌, ◌∙◌, ◌∷◌, ◌≡◌}
use Rattle.std.proofs.Math.ListN.{length-set}
use Rattle.std.proofs.lemmas.Bool.{eqb-false}
use Rattle.std.proofs.lemmas.List.Elements.{All-head, All-tail}
use Rattle.std.specs.Option.{is_some}
use Rattle.laws_room.specs.alto_words.specs.Fid.{disk_descriptor, is_fid, sys_dir}
use Rattle.disk_records.specs.Labels.{page_of}
use Rattle.disk_records.specs.Packs.{Pack, after, carried, is_usable, sector_at, with_part}
use Rattle.disk_records.specs.Words.{word}
use Rattle.disk_records.specs.declared.records.Event.{Event}
use Rattle.disk_records.specs.declared.records.Event.TheVariants.{Shown, Wrote}
use Rattle.disk_records.specs.declared.records.Page.{Page}
use Rattle.pack_model.specs.reading.Files.{leader, place}
use Rattle.pack_model.specs.reading.Leaders.{Leader, is_readable, leader_of, leader_words}
use Rattle.pack_model.specs.operations.PageWords.{page_number}
use Rattle.pack_model.specs.scavenger.Scavenging.{Throughout, Unmarked}
use Rattle.pack_model.specs.reading.Sights.{sights}
use Rattle.pack_model.specs.states.Whole.{Whole}
use Rattle.laws_room.specs.MarkLaws.{mark_page}
use Rattle.laws_room.specs.pack_laws.proofs.Guarding.{carried_parts, here_written, other_kept, usable_within, value_page}
use Rattle.laws_room.specs.pack_laws.proofs.Placing.{leader_of_place, place_of_leader}
use Rattle.laws_room.specs.laws_record.proofs.Copying.{place_carried}
use Rattle.laws_room.specs.laws_record.proofs.Recording.{carried_sight}
use Rattle.laws_room.specs.RoomLaws.{SystemStands}
use Rattle.laws_line.proofs.inside.crashes.Sparing.{root_carried}
use Rattle.laws_line.specs.SystemLaws.{LeavesSystem, RecordLeavesSystem, LeavesSystemAt}
use Rattle.laws_room.specs.pack_laws.proofs.files.Laws.{places_are_lowest}

-- Sector 1 and each sector with a page of DiskDescriptor are as they were, and no other has one.
pub record Still (p q : Pack) : Type 0 where
  pub shape : q.shape ≡ p.shape
  pub root : sector_at q 1 ≡ sector_at p 1
  pub pages : (i : ℕ) (x : Page) → carried p i ≡ Some x → is_fid x.fid disk_descriptor ≡ true → sector_at q i ≡ sector_at p i
  pub none_new : (i : ℕ) (x : Page) → carried q i ≡ Some x → is_fid x.fid disk_descriptor ≡ true → carried p i ≡ Some x

pub still_self : (p : Pack) → Still p p
still_self p = record { shape = refl; root = refl; pages = λ i x c d. refl; none_new = λ i x c d. c }

-- a page of DiskDescriptor isn't one of another file
one_file : (x : Page) → is_fid x.fid disk_descriptor ≡ true → is_fid x.fid disk_descriptor ≡ false → ⊥
one_file x a b = let t : true ≡ false = sym a ∙ b in cc

module _ (p q : Pack) (at part : ℕ) (words : List ℕ) (s : Still p q) (h : RecordLeavesSystem p at part words) where
  abbrev written : Pack
  written = after q (Wrote at part words ∷ [])

  -- the written sector carries no page of DiskDescriptor
  here_new : (x : Page) → carried written at ≡ Some x → is_fid x.fid disk_descriptor ≡ true → carried p at ≡ Some x
  here_new x c d = elim h.record_is [
    | inl value ↦ s.none_new at x (sym (ap (λ k. carried (after q (Wrote at k words ∷ [])) at) value ∙ value_page q at words at) ∙ c) d
    | inr label ↦ absurd (
        let c1 : carried (after q (Wrote at 1 words ∷ [])) at ≡ Some x = sym (ap (λ k. carried (after q (Wrote at k words ∷ [])) at) label.0) ∙ c in
        let parts = carried_parts (after q (Wrote at 1 words ∷ [])) at x c1 in
        let l : at < length q.sectors = subst (λ n. at < n) (length-set q.sectors at (with_part 1 words (sector_at q at))) (usable_within (after q (Wrote at 1 words ∷ [])) at parts.0) in
        one_file x d (label.1 x (sym (ap (λ t. page_of t.label) (here_written q at 1 words l)) ∙ parts.1))
        )
  ]

  -- it stands so after the record write
  still_written : Still p written
  still_written = record {
    shape = s.shape;
    root = other_kept q at part words 1 (λ z. h.not_root (sym z)) ∙ s.root;
    pages = λ i x c d. other_kept q at part words i (λ z. one_file x d (h.not_descriptor x (sym (ap (carried p) z) ∙ c))) ∙ s.pages i x c d;
    none_new = λ i x c d. elim (i == at) as (λ b. (i == at) ≡ b → carried p i ≡ Some x) [
      | true ↦ λ e. (let z : i ≡ at = eqb-true i at e in ap (carried p) z ∙ here_new x (sym (ap (carried written) z) ∙ c) d)
      | false ↦ λ e. s.none_new i x (sym (ap (λ t. cond (is_usable q.shape i t) (page_of t.label) None) (other_kept q at part words i (eqb-false i at e))) ∙ c) d
    ] refl;
  }

-- at each crash point, and at the end
still_on : (p q : Pack) (events : List Event) → Still p q → LeavesSystem p events → Throughout (Still p) q events
still_on p q [] s h = s
still_on p q (Wrote at part words ∷ events) s h =
    (s, still_on p (after q (Wrote at part words ∷ [])) events (still_written p q at part words s (All-head (LeavesSystemAt p) (Wrote at part words) events h)) (All-tail (LeavesSystemAt p) (Wrote at part words) events h))
still_on p q (Shown byte ∷ events) s h = (s, still_on p q events s (All-tail (LeavesSystemAt p) (Shown byte) events h))

still_end : (p q : Pack) (events : List Event) → Still p q → LeavesSystem p events → Still p (after q events)
still_end p q [] s h = s
still_end p q (Wrote at part words ∷ events) s h =
    still_end p (after q (Wrote at part words ∷ [])) events (still_written p q at part words s (All-head (LeavesSystemAt p) (Wrote at part words) events h)) (All-tail (LeavesSystemAt p) (Wrote at part words) events h)
still_end p q (Shown byte ∷ events) s h = still_end p q events s (All-tail (LeavesSystemAt p) (Shown byte) events h)

pub still_throughout : (p : Pack) (events : List Event) → LeavesSystem p events → Throughout (Still p) p events
still_throughout p events h = still_on p p events (still_self p) h

pub still_after : (p : Pack) (events : List Event) → LeavesSystem p events → Still p (after p events)
still_after p events h = still_end p p events (still_self p) h

-- ---- what stands so
module _ (p q : Pack) (s : Still p q) where
  -- a page of DiskDescriptor is carried where it was
  carried_still : (i : ℕ) (x : Page) → carried p i ≡ Some x → is_fid x.fid disk_descriptor ≡ true → carried q i ≡ Some x
  carried_still i x c d = let same = s.pages i x c d in let shape = s.shape in (λ j. cond (is_usable (shape j) i (same j)) (page_of (same j).label) None) ∙ c

  -- the system stands
  pub system_still : Whole p → SystemStands (sights q)
  system_still w =
      let shape = s.shape in
      let root = s.root in
      let c : carried q 1 ≡ Some (page_number sys_dir 0) = (λ j. cond (is_usable (shape j) 1 (root j)) (page_of (root j).label) None) ∙ root_carried p w.root.0 w.root.1 in
      let v : List ℕ = (sector_at q 1).value in
      record { root = (is_readable (leader_words v), leader_of sys_dir v, carried_sight q 1 (page_number sys_dir 0) c); descriptor = by (leader (sights p) disk_descriptor) refl w.descriptor_lives }
    where
      x : Page
      x = page_number disk_descriptor 0

      -- its leader has a place
      placed : (at : ℕ) → carried q at ≡ Some x → (r : Option ℕ) → place (sights q) disk_descriptor 0 ≡ r → is_some (leader (sights q) disk_descriptor) ≡ true
      placed at c None e = absurd ((places_are_lowest q x).none e at c)
      placed at c (Some i) e = ap is_some (leader_of_place (sights q) disk_descriptor i e).leader_is

      by : (r : Option Leader) → leader (sights p) disk_descriptor ≡ r → is_some (leader (sights p) disk_descriptor) ≡ true → is_some (leader (sights q) disk_descriptor) ≡ true
      by None e living = absurd (let t : false ≡ true = sym (ap is_some e) ∙ living in cc)
      by (Some l) e living =
          let h = place_of_leader (sights p) disk_descriptor l e in
          placed h.0 (carried_still h.0 x (place_carried p x h.0 h.1) refl) (place (sights q) disk_descriptor 0) refl

  -- and the pack is unmarked
  pub unmarked_still : Unmarked p → Unmarked q
  unmarked_still unmarked at placed mark =
      let now = (places_are_lowest q mark_page).lowest at placed in
      let here : carried p at ≡ Some mark_page = s.none_new at mark_page now.here refl in
      let was = (places_are_lowest p mark_page).place_is at (record { here = here; lowest = λ j low c. now.lowest j low (carried_still j mark_page c refl) }) in
      unmarked at was (ap (λ t. word t.value 6) (sym (s.pages at mark_page here refl)) ∙ mark)
