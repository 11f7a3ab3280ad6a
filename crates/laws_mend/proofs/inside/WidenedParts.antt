-- The parts of a mended pack of which a directory gets a page more.
use Rattle.std.proofs.Common.{[], ◌&&◌, ◌++◌, ◌/◌, ◌<◌, ◌∙◌, ◌∷◌, ◌≡◌, ◌≢◌, ◌≤◌, Bool, List, None, Option, Some, ap, append-nil, arith, cond, eq-eqb, false, get_or, inl, inr, le-leb, leb-true, length, nat_le, nat_lt, refl, subst, suc, sym, true, ℕ}
use Rattle.std.proofs.lemmas.Bool.{cases_eq, lt-ltb}
use Rattle.std.specs.FinMap.{entries}
use Rattle.std.specs.Option.{is_some}
use Rattle.laws_room.specs.alto_words.specs.declared.fid.Fid.{Fid}
use Rattle.laws_room.specs.alto_words.specs.Fid.{disk_descriptor, is_directory, is_fid, sys_dir}
use Rattle.laws_room.specs.disk_records.specs.Labels.{tag}
use Rattle.laws_room.specs.disk_records.specs.Packs.{Pack, after, sector_at}
use Rattle.laws_room.specs.disk_records.specs.Words.{word}
use Rattle.laws_room.specs.disk_records.specs.declared.records.Sector.{Sector}
use Rattle.laws_room.specs.pack_model.specs.hints.Links.{HasLinks, dir_words, link_to, next_link, no_link, previous_link}
use Rattle.laws_room.specs.pack_model.specs.reading.Bodies.{described}
use Rattle.laws_room.specs.pack_model.specs.reading.Files.{carries_page, file_bytes, leader, lives, place}
use Rattle.laws_room.specs.pack_model.specs.reading.Leaders.{Leader}
use Rattle.laws_room.specs.pack_model.specs.reading.Model.{good_one, good_sectors}
use Rattle.laws_room.specs.pack_model.specs.reading.Namings.{AllKept, IsTidy, is_kept, namings, namings_in}
use Rattle.laws_room.specs.pack_model.specs.reading.Sights.{Sight, page_sight, sights}
use Rattle.laws_room.specs.pack_model.specs.reading.Sights.Sight.{free, hidden, holds, leads, stray}
use Rattle.laws_room.specs.pack_model.specs.reading.SlotWords.{space_words}
use Rattle.laws_room.specs.pack_model.specs.reading.Slots.{Item, SlotsReachEnd, slots}
use Rattle.laws_room.specs.pack_model.specs.reading.Slots.Item.{space}
use Rattle.laws_room.specs.pack_model.specs.scavenger.Reports.{PagesMended}
use Rattle.laws_room.specs.pack_model.specs.states.InUse.{counts, in_use, is_good, is_place}
use Rattle.laws_room.specs.pack_model.specs.states.Sentences.{EachOnce, IsUsed}
use Rattle.laws_room.specs.pack_model.specs.states.Whole.{Tidy}
use Rattle.laws_room.specs.pack_laws.proofs.Keys.{is_fid-itself, is_fid-sym, same_fid}
use Rattle.laws_room.specs.pack_laws.proofs.Placing.{leader_of_place, no_leader}
use Rattle.laws_room.specs.laws_record.proofs.Carried.{place_by}
use Rattle.laws_room.specs.laws_record.proofs.DirReads.{dir_files, dir_lives, dir_was, has_leader}
use Rattle.laws_room.specs.laws_record.proofs.DirSteps.{widen_slots}
use Rattle.laws_room.specs.laws_record.proofs.DirWords.{DirChange}
use Rattle.laws_room.specs.laws_record.proofs.Entered.{namings_in-append}
use Rattle.laws_room.specs.laws_record.proofs.Framing.{good_set}
use Rattle.laws_room.specs.laws_record.proofs.Heads.{and_left, and_right}
use Rattle.laws_room.specs.laws_record.proofs.Recording.{carried_sight}
use Rattle.laws_room.specs.laws_operation.proofs.OneDirectory.{slots_namings}
use Rattle.laws_room.specs.laws_contents.specs.PageLaws.{bytes_at}
use Rattle.laws_mend.proofs.inside.Alike.{counts_alike}
use Rattle.laws_mend.proofs.inside.Completed.{claimed_once}
use Rattle.laws_mend.proofs.inside.Counted.{carried_in_use, counts_end}
use Rattle.laws_mend.proofs.inside.Freed.{same_carried}
use Rattle.laws_mend.proofs.inside.Slotting.{more_words_replace_slots, slots_and_one}
use Rattle.laws_mend.proofs.inside.Widened.{apart, aside, aside_middle, bytes_1, bytes_2, claimed, comes, counts_was, ended, ends, here_middle, here_valued, label_1, label_2, lacks, last_here, last_is, lives_are, living, middle, next_here, next_is, others, place_last, place_more, place_new, place_old, plain, reaches, reaches_still, sectors, size, value_1, value_2, valued, was_free, was_last, words_are}
use Rattle.laws_mend.proofs.inside.WideningBytes.{one_item}
use Rattle.laws_mend.proofs.inside.WideningWords.{here, last_size, next_counted, far_size}
use Rattle.laws_mend.specs.Parts.{Ended}
use Rattle.laws_mend.specs.WidenLaws.{CanWiden, WideningKeepsPages, widening_writes}

module _ (p : Pack) (d : Fid) (at fresh : ℕ) (m : PagesMended p) (h : CanWiden p d at fresh) where
  -- the page that gets full, counted from 0, and the pack in the end
  abbrev k : ℕ
  k = length (file_bytes (sights p) d) / 512

  abbrev q : Pack
  q = after p (widening_writes p d at fresh)

  -- ---- the parts
  carries_same : (i : ℕ) (f : Fid) (n : ℕ) → carries_page f n (get_or (sights q) i hidden) ≡ carries_page f n (get_or (sights (middle p d at fresh m h)) i hidden)
  carries_same i f n = elim (cases_eq i at) [
    | inl same ↦
        ap (λ j. carries_page f n (get_or (sights q) j hidden)) same ∙ ap (carries_page f n) (last_here p d at fresh m h)
        ∙ same_carried f d n (suc k) (tag (label_2 p d at fresh m h)).bytes (tag (sector_at (middle p d at fresh m h) at).label).bytes (value_2 p d at fresh m h) (sector_at (middle p d at fresh m h) at).value
        ∙ sym (ap (λ j. carries_page f n (get_or (sights (middle p d at fresh m h)) j hidden)) same ∙ ap (carries_page f n) (carried_sight (middle p d at fresh m h) at (last_is p d at fresh m h) (here_middle p d at fresh m h)))
    | inr other ↦ ap (carries_page f n) (aside_middle p d at fresh m h i other)
  ]

  once : EachOnce (sights q)
  once f n i j x y = claimed_once p (middle p d at fresh m h) fresh (next_is p d at fresh m h) (tag (label_1 p d at fresh m h)).bytes (value_1 p d at fresh m h) h.free (lacks p d at fresh m h) (claimed p d at fresh m h).shown m.pages.once f n i j (sym (carries_same i f n) ∙ x) (sym (carries_same j f n) ∙ y)

  directories : (e : Fid) → lives (sights q) e ≡ true → is_directory e ≡ true → SlotsReachEnd (file_bytes (sights q) e)
  directories e live dir = by (is_fid e d) refl
    where
      by : (b : Bool) → is_fid e d ≡ b → SlotsReachEnd (file_bytes (sights q) e)
      by false x = subst SlotsReachEnd (sym (others p d at fresh m h e x)) (m.pages.directories e (sym (lives_are p d at fresh m h e) ∙ live) dir)
      by true x = subst (λ g. SlotsReachEnd (file_bytes (sights q) g)) (sym (same_fid e d x)) (reaches_still p d at fresh m h)

  no_stray : (i : ℕ) → get_or (sights q) i hidden ≡ stray → ⊥
  no_stray i e = elim (cases_eq i at) [
    | inl x ↦ (let c : holds d k (bytes_2 p d at fresh m h) ≡ stray = sym (last_here p d at fresh m h) ∙ ap (λ j. get_or (sights q) j hidden) (sym x) ∙ e in cc)
    | inr x ↦ elim (cases_eq i fresh) [
      | inl y ↦ (let c : holds d (suc k) (bytes_1 p d at fresh m h) ≡ stray = sym (next_here p d at fresh m h) ∙ ap (λ j. get_or (sights q) j hidden) (sym y) ∙ e in cc)
      | inr y ↦ (ended p d at fresh m h).cleared.no_stray i (sym (aside p d at fresh m h i x y) ∙ e)
    ]
  ]

  ended_now : Ended q
  ended_now = record { cleared = record { once = once; no_stray = no_stray }; directories = directories }

  counts_now : (n : ℕ) → counts p.shape (sights q) d n ≡ nat_le n (suc (suc k))
  counts_now n = counts_end q ended_now d (lives_are p d at fresh m h d ∙ living p d at fresh m h) (plain p d at fresh m h) n ∙ (let s = size p d at fresh m h in let z : length (file_bytes (sights q) d) / 512 ≡ suc k = omega arith in ap (λ j. nat_le n (suc j)) z)

  -- what counted counts still, and what counts and has its old place counted
  counts_more : (f : Fid) (n : ℕ) → counts p.shape (sights p) f n ≡ true → counts p.shape (sights q) f n ≡ true
  counts_more f n c = by (is_fid f d) refl
    where
      by : (b : Bool) → is_fid f d ≡ b → counts p.shape (sights q) f n ≡ true
      by false x = counts_alike p.shape (sights p) (sights q) f n (lives_are p d at fresh m h f) (others p d at fresh m h f x) ∙ c
      by true x =
          let same = same_fid f d x in
          let l : n ≤ suc k = leb-true n (suc k) (sym (counts_was p d at fresh m h n) ∙ ap (λ g. counts p.shape (sights p) g n) (sym same) ∙ c) in
          ap (λ g. counts p.shape (sights q) g n) same ∙ counts_now n ∙ le-leb n (suc (suc k)) (omega arith)

  counts_less : (f : Fid) (n : ℕ) → (f ≡ d → n ≡ suc (suc k) → ⊥) → counts p.shape (sights q) f n ≡ true → counts p.shape (sights p) f n ≡ true
  counts_less f n other c = by (is_fid f d) refl
    where
      by : (b : Bool) → is_fid f d ≡ b → counts p.shape (sights p) f n ≡ true
      by false x = sym (counts_alike p.shape (sights p) (sights q) f n (lives_are p d at fresh m h f) (others p d at fresh m h f x)) ∙ c
      by true x =
          let same = same_fid f d x in
          let l : n ≤ suc (suc k) = leb-true n (suc (suc k)) (sym (counts_now n) ∙ ap (λ g. counts p.shape (sights q) g n) (sym same) ∙ c) in
          let not_next : n ≢ suc (suc k) = other same in
          ap (λ g. counts p.shape (sights p) g n) same ∙ counts_was p d at fresh m h n ∙ le-leb n (suc k) (elim (cases_eq n (suc (suc k))) [ inl e ↦ absurd (not_next e) | inr e ↦ omega arith ])

  -- a sector in use is so still
  page_more : (i : ℕ) (f : Fid) (n : ℕ) → (counts p.shape (sights p) f n && is_place i (place (sights p) f n)) ≡ true → (counts p.shape (sights q) f n && is_place i (place (sights q) f n)) ≡ true
  page_more i f n u =
      let placed : place (sights p) f n ≡ Some i = place_by i (place (sights p) f n) (and_right (counts p.shape (sights p) f n) (is_place i (place (sights p) f n)) u) in
      let a = counts_more f n (and_left (counts p.shape (sights p) f n) (is_place i (place (sights p) f n)) u) in
      let b : is_place i (place (sights q) f n) ≡ true = ap (is_place i) (place_more p d at fresh m h f n i placed) ∙ eq-eqb i i refl in
      λ j. a j && b j

  use_more : (i : ℕ) (s : Sight) → in_use p.shape (sights p) (i, s) ≡ true → in_use p.shape (sights q) (i, s) ≡ true
  use_more i hidden u = u
  use_more i free u = u
  use_more i stray u = u
  use_more i (leads f readable l) u = page_more i f 0 u
  use_more i (holds f n bytes) u = page_more i f (suc n) u

  used : (i : ℕ) → IsUsed p.shape (sights q) i
  used i good = elim (cases_eq i at) [
    | inl x ↦ inr
        (ap (λ j. in_use p.shape (sights q) (j, get_or (sights q) j hidden)) x ∙ ap (λ s. in_use p.shape (sights q) (at, s)) (last_here p d at fresh m h)
        ∙ (λ j. (counts_now (suc k) ∙ le-leb (suc k) (suc (suc k)) (omega arith)) j && (ap (is_place at) (place_last p d at fresh m h) ∙ eq-eqb at at refl) j))
    | inr x ↦ elim (cases_eq i fresh) [
      | inl y ↦ inr
          (ap (λ j. in_use p.shape (sights q) (j, get_or (sights q) j hidden)) y ∙ ap (λ s. in_use p.shape (sights q) (fresh, s)) (next_here p d at fresh m h)
          ∙ (λ j. (counts_now (suc (suc k)) ∙ le-leb (suc (suc k)) (suc (suc k)) (omega arith)) j && (ap (is_place fresh) (place_new p d at fresh m h) ∙ eq-eqb fresh fresh refl) j))
      | inr y ↦ elim (m.pages.used i (ap is_good (sym (aside p d at fresh m h i x y)) ∙ good)) [
        | inl e ↦ inl (aside p d at fresh m h i x y ∙ e)
        | inr e ↦ inr (ap (λ s. in_use p.shape (sights q) (i, s)) (aside p d at fresh m h i x y) ∙ use_more i (get_or (sights p) i hidden) e)
      ]
    ]
  ]

  -- ---- links
  use_last : in_use p.shape (sights p) (at, get_or (sights p) at hidden) ≡ true
  use_last = carried_in_use p at (last_is p d at fresh m h) (here p d at fresh h) ∙ (λ j. (counts_was p d at fresh m h (suc k) ∙ le-leb (suc k) (suc k) (omega arith)) j && (ap (is_place at) h.sector ∙ eq-eqb at at refl) j)

  links_last : HasLinks q at
  links_last =
      let label_is : (sector_at q at).label ≡ label_2 p d at fresh m h = ap (λ (s : Sector). s.label) (ends p d at fresh m h).here in
      record {
        next = ap (λ x. word x 0) label_is ∙ sym (ap (next_link p.shape (sights q)) (last_here p d at fresh m h) ∙ ap (λ n. cond (nat_lt n 512) no_link (link_to p.shape (place (sights q) d (suc (suc k))))) (last_size p d at fresh h) ∙ ap (link_to p.shape) (place_new p d at fresh m h));
        previous =
            ap (λ x. word x 1) label_is ∙ (m.links at use_last).previous ∙ ap (previous_link p.shape (sights p)) (was_last p d at fresh m h)
            ∙ ap (link_to p.shape) (sym (place_old p d at fresh m h d k (λ x y. omega arith))) ∙ sym (ap (previous_link p.shape (sights q)) (last_here p d at fresh m h));
      }

  links_next : HasLinks q fresh
  links_next =
      let label_is : (sector_at q fresh).label ≡ label_1 p d at fresh m h = ap (λ (s : Sector). s.label) ((ends p d at fresh m h).others fresh (λ same. (apart p d at fresh m h) (sym same)) ∙ (comes p d at fresh m h).others fresh (λ same. (apart p d at fresh m h) (sym same)) ∙ (claimed p d at fresh m h).here) in
      let short : length (bytes_1 p d at fresh m h) < 512 = let c = ap length (next_counted p d at fresh h) in let f = far_size p d at fresh h in omega arith in
      record {
        next = ap (λ x. word x 0) label_is ∙ sym (ap (next_link p.shape (sights q)) (next_here p d at fresh m h) ∙ ap (λ t. cond t no_link (link_to p.shape (place (sights q) d (suc (suc (suc k)))))) (lt-ltb (length (bytes_1 p d at fresh m h)) 512 short));
        previous = ap (λ x. word x 1) label_is ∙ sym (ap (previous_link p.shape (sights q)) (next_here p d at fresh m h) ∙ ap (link_to p.shape) (place_last p d at fresh m h));
      }

  -- those of any other sector in use, which was in use
  page_less : (i : ℕ) (f : Fid) (n : ℕ) → i ≢ fresh → (counts p.shape (sights q) f n && is_place i (place (sights q) f n)) ≡ true → (counts p.shape (sights p) f n ≡ true) × (place (sights p) f n ≡ Some i)
  page_less i f n y u =
      let placed : place (sights q) f n ≡ Some i = place_by i (place (sights q) f n) (and_right (counts p.shape (sights q) f n) (is_place i (place (sights q) f n)) u) in
      let other : f ≡ d → n ≡ suc (suc k) → ⊥ = λ a b. let e : Some fresh ≡ Some i = sym (place_new p d at fresh m h) ∙ (λ j. place (sights q) (sym a j) (sym b j)) ∙ placed in let z : fresh ≡ i = cc in y (sym z) in
      (counts_less f n other (and_left (counts p.shape (sights q) f n) (is_place i (place (sights q) f n)) u), sym (place_old p d at fresh m h f n other) ∙ placed)

  -- Such a sector was in use, and its sight has the links that it had.
  record LinksStay (i : ℕ) (s : Sight) : Type 0 where
    in_use_was : in_use p.shape (sights p) (i, s) ≡ true
    next_is_still : next_link p.shape (sights q) s ≡ next_link p.shape (sights p) s
    previous_is_still : previous_link p.shape (sights q) s ≡ previous_link p.shape (sights p) s

  links_stay : (i : ℕ) (s : Sight) → i ≢ at → i ≢ fresh → in_use p.shape (sights q) (i, s) ≡ true → LinksStay i s
  links_stay i hidden x y u = record { in_use_was = u; next_is_still = refl; previous_is_still = refl }
  links_stay i free x y u = record { in_use_was = u; next_is_still = refl; previous_is_still = refl }
  links_stay i stray x y u = record { in_use_was = u; next_is_still = refl; previous_is_still = refl }
  links_stay i (leads f readable l) x y u =
      let was = page_less i f 0 y u in
      record {
        in_use_was = λ j. was.0 j && (ap (is_place i) was.1 ∙ eq-eqb i i refl) j;
        next_is_still = ap (link_to p.shape) (place_old p d at fresh m h f 1 (λ a b. omega arith));
        previous_is_still = refl;
      }
  links_stay i (holds f n bytes) x y u =
      let was = page_less i f (suc n) y u in
      record {
        in_use_was = λ j. was.0 j && (ap (is_place i) was.1 ∙ eq-eqb i i refl) j;
        next_is_still = ap (λ r. cond (nat_lt (length bytes) 512) no_link (link_to p.shape r)) (place_old p d at fresh m h f (suc (suc n))
            (λ a b. let z : suc n ≡ suc k = omega arith in let e : Some i ≡ Some at = sym was.1 ∙ (λ j. place (sights p) (a j) (z j)) ∙ h.sector in let w : i ≡ at = cc in x w));
        previous_is_still = ap (link_to p.shape) (place_old p d at fresh m h f n
            (λ a b. let l : suc n ≤ suc k = leb-true (suc n) (suc k) (sym (counts_was p d at fresh m h (suc n)) ∙ ap (λ g. counts p.shape (sights p) g (suc n)) (sym a) ∙ was.0) in omega arith));
      }

  links : (i : ℕ) → in_use p.shape (sights q) (i, get_or (sights q) i hidden) ≡ true → HasLinks q i
  links i u = elim (cases_eq i at) [
    | inl x ↦ subst (HasLinks q) (sym x) links_last
    | inr x ↦ elim (cases_eq i fresh) [
      | inl y ↦ subst (HasLinks q) (sym y) links_next
      | inr y ↦
          (let s = links_stay i (get_or (sights p) i hidden) x y (ap (λ s. in_use p.shape (sights q) (i, s)) (sym (aside p d at fresh m h i x y)) ∙ u) in
          let old = m.links i s.in_use_was in
          record {
            next = ap (λ (s : Sector). word s.label 0) (sectors p d at fresh m h i x y) ∙ old.next ∙ sym (ap (next_link p.shape (sights q)) (aside p d at fresh m h i x y) ∙ s.next_is_still);
            previous = ap (λ (s : Sector). word s.label 1) (sectors p d at fresh m h i x y) ∙ old.previous ∙ sym (ap (previous_link p.shape (sights q)) (aside p d at fresh m h i x y) ∙ s.previous_is_still);
          })
    ]
  ]

  -- ---- leader pages
  leads_was : (i : ℕ) (f : Fid) (readable : Bool) (l : Leader) → get_or (sights q) i hidden ≡ leads f readable l → get_or (sights p) i hidden ≡ leads f readable l
  leads_was i f readable l e = elim (cases_eq i at) [
    | inl x ↦ absurd (let c : holds d k (bytes_2 p d at fresh m h) ≡ leads f readable l = sym (last_here p d at fresh m h) ∙ ap (λ j. get_or (sights q) j hidden) (sym x) ∙ e in cc)
    | inr x ↦ elim (cases_eq i fresh) [
      | inl y ↦ absurd (let c : holds d (suc k) (bytes_1 p d at fresh m h) ≡ leads f readable l = sym (next_here p d at fresh m h) ∙ ap (λ j. get_or (sights q) j hidden) (sym y) ∙ e in cc)
      | inr y ↦ sym (aside p d at fresh m h i x y) ∙ e
    ]
  ]

  leads_now : (i : ℕ) (f : Fid) (readable : Bool) (l : Leader) → get_or (sights p) i hidden ≡ leads f readable l → get_or (sights q) i hidden ≡ leads f readable l
  leads_now i f readable l e = aside p d at fresh m h i
      (λ x. let c : holds d k (bytes_at p at) ≡ leads f readable l = sym (was_last p d at fresh m h) ∙ ap (λ j. get_or (sights p) j hidden) (sym x) ∙ e in cc)
      (λ y. let c : free ≡ leads f readable l = sym (was_free p d at fresh m h) ∙ ap (λ j. get_or (sights p) j hidden) (sym y) ∙ e in cc) ∙ e

  leaders : (f : Fid) → leader (sights q) f ≡ leader (sights p) f
  leaders f = by (place (sights p) f 0) refl
    where
      by : (r : Option ℕ) → place (sights p) f 0 ≡ r → leader (sights q) f ≡ leader (sights p) f
      by None e = no_leader (sights q) f (place_old p d at fresh m h f 0 (λ x y. omega arith) ∙ e) ∙ sym (no_leader (sights p) f e)
      by (Some i) e =
          let old = leader_of_place (sights p) f i e in
          let new = leader_of_place (sights q) f i (place_more p d at fresh m h f 0 i e) in
          let both : leads f new.readable new.lead ≡ leads f old.readable old.lead = sym (leads_was i f new.readable new.lead (new.shows hidden)) ∙ old.shows hidden in
          let same : new.lead ≡ old.lead = cc in
          new.leader_is ∙ ap Some same ∙ sym old.leader_is

  -- ---- all together
  mended : PagesMended q
  mended = record {
    pages = record {
      used = used;
      once = once;
      last_pages = λ f live. by f live (is_fid f d) refl;
      readable = λ f live i readable l e is. m.pages.readable f (sym (lives_are p d at fresh m h f) ∙ live) i readable l (sym (place_old p d at fresh m h f 0 (λ x y. omega arith)) ∙ e) (leads_was i f readable l is);
      directories = directories;
      root = (m.pages.root.0, m.pages.root.1, leads_now 1 sys_dir m.pages.root.1 m.pages.root.0 m.pages.root.2);
      descriptor_lives = lives_are p d at fresh m h disk_descriptor ∙ m.pages.descriptor_lives;
      descriptor_size = ap length (others p d at fresh m h disk_descriptor (is_fid-sym disk_descriptor d ∙ plain p d at fresh m h)) ∙ m.pages.descriptor_size;
    };
    links = links;
  }
    where
      by : (f : Fid) → lives (sights q) f ≡ true → (b : Bool) → is_fid f d ≡ b → is_some (place (sights q) f (suc (length (file_bytes (sights q) f) / 512))) ≡ true
      by f live true x =
          let s = size p d at fresh m h in
          let z : length (file_bytes (sights q) d) / 512 ≡ suc k = omega arith in
          ap (λ g. is_some (place (sights q) g (suc (length (file_bytes (sights q) g) / 512)))) (same_fid f d x) ∙ ap (λ j. is_some (place (sights q) d (suc j))) z ∙ ap is_some (place_new p d at fresh m h)
      by f live false x =
          let other : f ≡ d → ⊥ = λ same. let c : true ≡ false = sym (is_fid-itself d) ∙ ap (λ g. is_fid g d) (sym same) ∙ x in cc in
          ap (λ bs. is_some (place (sights q) f (suc (length bs / 512)))) (others p d at fresh m h f x)
          ∙ ap is_some (place_old p d at fresh m h f (suc (length (file_bytes (sights p) f) / 512)) (λ same number. other same)) ∙ m.pages.last_pages f (sym (lives_are p d at fresh m h f) ∙ live)

  good : good_sectors (sights q) ≡ good_sectors (sights p)
  good =
      ap good_sectors (ends p d at fresh m h).shown ∙ good_set (sights (valued p d at fresh m h)) at (page_sight d (suc k) (tag (label_2 p d at fresh m h)).bytes (value_2 p d at fresh m h)) hidden (sym (ap good_one (carried_sight (valued p d at fresh m h) at (last_is p d at fresh m h) (here_valued p d at fresh m h))))
      ∙ ap good_sectors (comes p d at fresh m h).shown ∙ good_set (sights (middle p d at fresh m h)) at (page_sight d (suc k) (tag (sector_at (middle p d at fresh m h) at).label).bytes (value_2 p d at fresh m h)) hidden (sym (ap good_one (carried_sight (middle p d at fresh m h) at (last_is p d at fresh m h) (here_middle p d at fresh m h))))
      ∙ ap good_sectors (claimed p d at fresh m h).shown ∙ good_set (sights p) fresh (page_sight d (suc (suc k)) (tag (label_1 p d at fresh m h)).bytes (value_1 p d at fresh m h)) hidden (sym (ap good_one (was_free p d at fresh m h)))

  change : DirChange p q d (dir_words p d ++ space_words 256)
  change = record { shape = refl; good = good; leaders = leaders; others = others p d at fresh m h; words_are = words_are p d at fresh m h }

  tidy : Tidy p → Tidy q
  tidy t =
      let l = has_leader (sights p) d (living p d at fresh m h) in
      let items : List Item = slots (dir_words p d) in
      let more : slots (dir_words p d ++ space_words 256) ≡ items ++ space 256 ∷ [] = widen_slots p d (space_words 256) (reaches p d at fresh m h) one_item in
      let bare : namings_in d (slots (dir_words p d ++ space_words 256)) ≡ namings_in d items = ap (namings_in d) more ∙ namings_in-append d items (space 256 ∷ []) ∙ append-nil (namings_in d items) in
      let names : namings (entries (described (sights q))) ≡ namings (entries (described (sights p))) =
      ap (λ x. namings (entries x)) (dir_files p q d (dir_words p d ++ space_words 256) change h.directory l.0 l.1)
      ∙ slots_namings (described (sights p)) d l.0 items (slots (dir_words p d ++ space_words 256)) (dir_was p q d (dir_words p d ++ space_words 256) change h.directory l.0 l.1) bare in
      subst (λ v. IsTidy v (described (sights q))) (sym (dir_lives p q d (dir_words p d ++ space_words 256) change h.directory l.0 l.1)) (subst (AllKept (is_kept (lives (sights p))) []) (sym names) t)

pub widening_keeps_pages : WideningKeepsPages
widening_keeps_pages p d at fresh m h = record {
  mended = mended p d at fresh m h;
  leaders_are = leaders p d at fresh m h;
  here = place_new p d at fresh m h;
  places_are = place_old p d at fresh m h;
  others = others p d at fresh m h;
  sectors = sectors p d at fresh m h;
  words_are = words_are p d at fresh m h;
  slots_are = more_words_replace_slots p (q p d at fresh m h) d (space_words 256) (lives_are p d at fresh m h d) (reaches p d at fresh m h) (words_are p d at fresh m h) one_item;
  stand = slots_and_one p (q p d at fresh m h) d (space_words 256) (reaches p d at fresh m h) (words_are p d at fresh m h) one_item;
  tidy = tidy p d at fresh m h;
}
