-- How many sectors the record writes of guarded commands free.
use Rattle.std.proofs.Common.{◌+◌, ◌<◌, ◌∙◌, ◌≡◌, Bool, List, None, Option, Some, ap, arith, eqb-true, false, get_or, inl, inr, length, not, refl, set, subst, suc, sym, true, zero, ℕ}
use Rattle.std.proofs.Math.ListN.{length-set}
use Rattle.std.proofs.lemmas.Bool.{cases_eq, cases_lt}
use Rattle.std.proofs.lemmas.List.{get_or-set_other, get_or-set_same}
use Rattle.std.specs.Prelude.{◌&&◌, ◌==◌}
use Rattle.laws_room.specs.alto_words.specs.declared.fid.Fid.{Fid}
use Rattle.laws_room.specs.disk_records.specs.Commands.{ones, relabel_writes, release_writes}
use Rattle.laws_room.specs.disk_records.specs.Labels.{tag}
use Rattle.laws_room.specs.disk_records.specs.Packs.{Pack, after, carried, is_usable, sector_at}
use Rattle.laws_room.specs.disk_records.specs.declared.records.Page.{Page}
use Rattle.laws_room.specs.pack_model.specs.reading.Files.{carries_page, place}
use Rattle.laws_room.specs.pack_model.specs.reading.Sights.{page_sight, sights}
use Rattle.laws_room.specs.pack_model.specs.reading.Sights.Sight.{free, hidden, stray}
use Rattle.laws_room.specs.pack_model.specs.states.InUse.{available, counts, free_sector_count, in_use, is_available, is_free_sight, is_good, is_place, one_if}
use Rattle.laws_room.specs.pack_laws.proofs.Carrying.{carried_shown}
use Rattle.laws_room.specs.pack_laws.proofs.guards.Laws.{relabel_keeps_the_page}
use Rattle.laws_room.specs.pack_laws.proofs.Guarding.{carried_parts, ones_free, usable_within}
use Rattle.laws_room.specs.pack_laws.proofs.Placing.{place_is, place_same}
use Rattle.laws_room.specs.pack_laws.proofs.Sighted.{length-sights}
use Rattle.laws_room.specs.laws_record.proofs.Carried.{carried_shows}
use Rattle.laws_room.specs.laws_record.proofs.Copying.{copy_release, place_carried}
use Rattle.laws_room.specs.laws_record.proofs.DirEnds.{cut_at_slots}
use Rattle.laws_room.specs.laws_record.proofs.Recording.{carried_sight, carried_within, label_sights}
use Rattle.laws_room.specs.laws_record.proofs.Staying.{FilesStay}
use Rattle.laws_room.specs.laws_record.proofs.Unread.{no_page_shown, stray_release}
use Rattle.laws_room.specs.laws_record.proofs.Unused.{unused_release}
use Rattle.laws_room.specs.laws_record.specs.QuietLaws.{with_label}
use Rattle.laws_mend.proofs.inside.Availing.{PlacesStay, available_alike, copy_place, freed_available, once_place, one_changed, same_in_use}
use Rattle.laws_mend.proofs.inside.Counted.{carried_in_use, counts_stay, only_carrier, page_in_use, uncounted}
use Rattle.laws_mend.proofs.inside.FreeOnes.{shown_free}
use Rattle.laws_mend.proofs.inside.Releasing.{shown_once, shown_twice}
use Rattle.laws_mend.specs.NumberLaws.{CopyReleaseFrees, DirectoryCutFrees, StrayReleaseFrees, UnusedReleaseFrees}
use Rattle.laws_mend.specs.Parts.{FreesMore}

-- ---- tests
-- a page's sector is good, and it isn't free
page_good : (f : Fid) (n c : ℕ) (v : List ℕ) → is_good (page_sight f n c v) ≡ true
page_good f zero c v = refl
page_good f (suc n) c v = refl

page_taken : (f : Fid) (n c : ℕ) (v : List ℕ) → is_free_sight (page_sight f n c v) ≡ false
page_taken f zero c v = refl
page_taken f (suc n) c v = refl

-- neither of both
and_false : (a b : Bool) → b ≡ false → (a && b) ≡ false
and_false true b e = e
and_false false b e = refl

-- the sector isn't the place that is lower
not_place : (at k : ℕ) → k < at → is_place at (Some k) ≡ false
not_place at k less = by (at == k) refl
  where
    by : (b : Bool) → (at == k) ≡ b → (at == k) ≡ false
    by false e = e
    by true e = absurd (let same : at ≡ k = eqb-true at k e in omega arith)

-- ---- a sector becomes free
module _ (p : Pack) (at : ℕ) (usable : is_usable p.shape at (sector_at p at) ≡ true) where
  -- one more is free, if it wasn't and the same files are found
  frees_one : FilesStay p (with_label p at (ones 8)) → is_free_sight (get_or (sights p) at hidden) ≡ false → is_good (get_or (sights p) at hidden) ≡ true → in_use p.shape (sights p) (at, get_or (sights p) at hidden) ≡ false
      → PlacesStay p.shape (sights p) at (subst (λ n. at < n) (sym (length-sights p)) (usable_within p at usable)) → FreesMore p (after p (release_writes at)) 1
  frees_one stays taken good unused placed =
      let within : at < length (sights p) = subst (λ n. at < n) (sym (length-sights p)) (usable_within p at usable) in
      let changed = one_changed is_free_sight (sights p) at free within in
      let none : one_if (is_free_sight (get_or (sights p) at hidden)) ≡ 0 = ap one_if taken in
      let more : free_sector_count (set (sights p) at free) ≡ free_sector_count (sights p) + 1 = omega arith in
      let counted : (g : Fid) (m : ℕ) → counts p.shape (set (sights p) at free) g m ≡ counts p.shape (sights p) g m = λ g m. ap (λ us. counts p.shape us g m) (sym (shown_once p at usable)) ∙ counts_stay p (with_label p at (ones 8)) stays g m in
      record {
        free = ap free_sector_count (shown_twice p at usable) ∙ more;
        available_is = ap (available p.shape) (shown_twice p at usable) ∙ freed_available p.shape (sights p) at within counted placed good unused;
      }

-- ---- the laws
pub copy_release_frees : CopyReleaseFrees
copy_release_frees p at lower page here low less =
    let usable = (carried_parts p at page here).0 in
    let sight = carried_sight p at page here in
    let within : at < length (sights p) = subst (λ n. at < n) (sym (length-sights p)) (usable_within p at usable) in
    let within_pack : at < length p.sectors = usable_within p at usable in
    let copied : (g : Fid) (m : ℕ) → carries_page g m (get_or (sights p) at hidden) ≡ true → carries_page g m (get_or (sights p) lower hidden) ≡ true =
    λ g m has. let is = carried_shown p at (record { fid = g; number = m }) hidden within_pack has in carried_shows p lower (record { fid = g; number = m }) (low ∙ sym here ∙ is) in
    frees_one p at usable (copy_release p at lower page (ones 8) here low less ones_free).files
    (ap is_free_sight sight ∙ page_taken page.fid page.number (tag (sector_at p at).label).bytes (sector_at p at).value)
    (ap is_good sight ∙ page_good page.fid page.number (tag (sector_at p at).label).bytes (sector_at p at).value)
    (carried_in_use p at page here ∙ and_false (counts p.shape (sights p) page.fid page.number) (is_place at (place (sights p) page.fid page.number)) (placed (place (sights p) page.fid page.number) refl))
    (λ j g m other has. ap (is_place j) (copy_place p.shape (sights p) at within lower less copied g m))
  where
    placed : (r : Option ℕ) → place (sights p) page.fid page.number ≡ r → is_place at r ≡ false
    placed None e = refl
    placed (Some k) e =
        let first = place_is (sights p) page.fid page.number k e in
        let has = carried_shows p lower page low in
        not_place at k (elim (cases_lt lower k) [
          | inl above ↦ absurd (let c : true ≡ false = sym has ∙ first.lowest lower hidden above in cc)
          | inr not_above ↦ omega arith
        ])

pub stray_release_frees : StrayReleaseFrees
stray_release_frees p at usable nothing taken = elim (no_page_shown p at usable nothing) [
  | inl is ↦ absurd (let c : true ≡ false = sym (shown_free p at is) ∙ taken in cc)
  | inr is ↦ frees_one p at usable (stray_release p at (ones 8) nothing ones_free).files (ap is_free_sight is) (ap is_good is) (ap (λ s. in_use p.shape (sights p) (at, s)) is)
      (λ j g m other has. ap (is_place j) (copy_place p.shape (sights p) at (subst (λ n. at < n) (sym (length-sights p)) (usable_within p at usable)) 0 (later (usable_within p at usable) is) (λ f n c. absurd (none_stray f n (sym (ap (carries_page f n) is) ∙ c))) g m))
]
  where
    none_stray : (f : Fid) (n : ℕ) → carries_page f n stray ≡ true → ⊥
    none_stray f zero e = cc
    none_stray f (suc n) e = cc

    later : at < length p.sectors → get_or (sights p) at hidden ≡ stray → 0 < at
    later l is = elim (cases_lt 0 at) [
      | inl some ↦ some
      | inr none ↦ absurd (let z : at ≡ 0 = omega arith in let c : is_usable p.shape 0 (sector_at p 0) ≡ true = subst (λ k. is_usable p.shape k (sector_at p k) ≡ true) z usable in cc)
    ]

pub unused_release_frees : UnusedReleaseFrees
unused_release_frees p at page alone here uncounts =
    let usable = (carried_parts p at page here).0 in
    let sight = carried_sight p at page here in
    let within : at < length (sights p) = subst (λ n. at < n) (sym (length-sights p)) (usable_within p at usable) in
    let unused = uncounted p at page here uncounts in
    frees_one p at usable (unused_release p at page (ones 8) here unused (only_carrier p at page alone here) ones_free)
    (ap is_free_sight sight ∙ page_taken page.fid page.number (tag (sector_at p at).label).bytes (sector_at p at).value)
    (ap is_good sight ∙ page_good page.fid page.number (tag (sector_at p at).label).bytes (sector_at p at).value)
    unused
    (λ j g m other has. ap (is_place j) (once_place p.shape (sights p) at within alone j g m other has))

-- ---- a sector carries its page with other words
-- the same pages are carried
pub same_carried : (g f : Fid) (m n c b : ℕ) (v w : List ℕ) → carries_page g m (page_sight f n c v) ≡ carries_page g m (page_sight f n b w)
same_carried g f zero zero c b v w = refl
same_carried g f zero (suc n) c b v w = refl
same_carried g f (suc m) zero c b v w = refl
same_carried g f (suc m) (suc n) c b v w = refl

module _ (p q : Pack) (at : ℕ) (page : Page) (count : ℕ) (value : List ℕ) (here : carried p at ≡ Some page) (shown : sights q ≡ set (sights p) at (page_sight page.fid page.number count value)) where
  -- so each page has its place
  pub rewritten_places : (f : Fid) (n : ℕ) → place (sights q) f n ≡ place (sights p) f n
  rewritten_places f n =
      ap (λ us. place us f n) shown
      ∙ place_same (sights p) at (page_sight page.fid page.number count value) f n (carried_within p at page here)
      (same_carried f page.fid n page.number count (tag (sector_at p at).label).bytes value (sector_at p at).value ∙ sym (ap (carries_page f n) (carried_sight p at page here)))

  -- and as many sectors are free and available, if the same pages count
  pub rewritten_frees_none : q.shape ≡ p.shape → ((f : Fid) (n : ℕ) → counts p.shape (sights q) f n ≡ counts p.shape (sights p) f n) → FreesMore p q 0
  rewritten_frees_none shape counted =
      let within = carried_within p at page here in
      let sight = carried_sight p at page here in
      let changed = one_changed is_free_sight (sights p) at (page_sight page.fid page.number count value) within in
      let was : one_if (is_free_sight (get_or (sights p) at hidden)) ≡ 0 = ap one_if (ap is_free_sight sight ∙ page_taken page.fid page.number (tag (sector_at p at).label).bytes (sector_at p at).value) in
      let now : one_if (is_free_sight (page_sight page.fid page.number count value)) ≡ 0 = ap one_if (page_taken page.fid page.number count value) in
      let same : free_sector_count (set (sights p) at (page_sight page.fid page.number count value)) ≡ free_sector_count (sights p) + 0 = omega arith in
      record {
        free = ap free_sector_count shown ∙ same;
        available_is = ap (λ s. available s (sights q)) shape
            ∙ available_alike p.shape (sights p) (sights q) (ap length shown ∙ length-set (sights p) at (page_sight page.fid page.number count value)) each;
      }
    where
      own : is_available p.shape (sights q) (at, page_sight page.fid page.number count value) ≡ is_available p.shape (sights p) (at, page_sight page.fid page.number (tag (sector_at p at).label).bytes (sector_at p at).value)
      own =
          (λ i. page_good page.fid page.number count value i && not (page_in_use p.shape (sights q) at page.fid page.number count value i))
          ∙ (λ i. true && not (counted page.fid page.number i && is_place at (rewritten_places page.fid page.number i)))
          ∙ sym (λ i. page_good page.fid page.number (tag (sector_at p at).label).bytes (sector_at p at).value i && not (page_in_use p.shape (sights p) at page.fid page.number (tag (sector_at p at).label).bytes (sector_at p at).value i))

      each : (j : ℕ) → is_available p.shape (sights q) (j, get_or (sights q) j hidden) ≡ is_available p.shape (sights p) (j, get_or (sights p) j hidden)
      each j = elim (cases_eq j at) [
        | inl same ↦
            ap (λ k. is_available p.shape (sights q) (k, get_or (sights q) k hidden)) same
            ∙ ap (λ x. is_available p.shape (sights q) (at, x)) (ap (λ us. get_or us at hidden) shown ∙ get_or-set_same (sights p) at (page_sight page.fid page.number count value) hidden (carried_within p at page here))
            ∙ own
            ∙ ap (λ x. is_available p.shape (sights p) (at, x)) (sym (carried_sight p at page here))
            ∙ sym (ap (λ k. is_available p.shape (sights p) (k, get_or (sights p) k hidden)) same)
        | inr other ↦
            ap (λ x. is_available p.shape (sights q) (j, x)) (ap (λ us. get_or us j hidden) shown ∙ get_or-set_other (sights p) at j (page_sight page.fid page.number count value) hidden other)
            ∙ ap (λ b. is_good (get_or (sights p) j hidden) && not b) (same_in_use p.shape (sights p) (sights q) j (get_or (sights p) j hidden) counted (λ g m has. ap (is_place j) (rewritten_places g m)))
      ]

pub directory_cut_frees : DirectoryCutFrees
directory_cut_frees p d at n label dir is names short ends =
    let page : Page = record { fid = d; number = suc n } in
    let here : carried p at ≡ Some page = place_carried p page at is in
    let value : List ℕ = (sector_at p at).value in
    let q : Pack = after p (relabel_writes at label value) in
    let shown : sights q ≡ set (sights p) at (page_sight d (suc n) (tag label).bytes value) = (relabel_keeps_the_page p at page label 2 here names (omega arith)).shown in
    let once : sights (with_label p at label) ≡ set (sights p) at (page_sight d (suc n) (tag label).bytes value) = label_sights p at page label (carried_parts p at page here).0 names in
    let counted : (f : Fid) (m : ℕ) → counts p.shape (sights q) f m ≡ counts p.shape (sights p) f m =
    λ f m. ap (λ us. counts p.shape us f m) (shown ∙ sym once) ∙ counts_stay p (with_label p at label) (cut_at_slots p d at n label dir is names short ends).files f m in
    rewritten_frees_none p q at page (tag label).bytes value here shown refl counted
