-- Where all sectors say the sentences each file lies as a whole one does.
use Rattle.std.proofs.Common.{Bool, List, None, Option, Some, [], ap, arith, false, get_or, inl, inr, leb-true, length, ltb-false, refl, subst, suc, sym, true, ℕ, ◌&&◌, ◌+◌, ◌/◌, ◌<◌, ◌∙◌, ◌≡◌, ◌≤◌}
use Rattle.std.proofs.lemmas.Bool.{cases_eq, not-true}
use Rattle.std.specs.Option.{is_some}
use Rattle.std.specs.Prelude.{nat_lt}
use Rattle.pack_laws.specs.alto_words.specs.Fid.{sys_dir}
use Rattle.pack_laws.specs.alto_words.specs.declared.fid.Fid.{Fid}
use Rattle.pack_laws.specs.disk_records.specs.Packs.{Pack}
use Rattle.pack_laws.specs.pack_model.specs.reading.Files.{file_bytes, leader, lives, most_pages, page, place}
use Rattle.pack_laws.specs.pack_model.specs.states.InUse.{counts, in_use, is_good, is_place}
use Rattle.pack_laws.specs.pack_model.specs.reading.Leaders.{Leader}
use Rattle.pack_laws.specs.pack_model.specs.states.Sentences.{IsWholeBySentences}
use Rattle.pack_laws.specs.pack_model.specs.reading.Sights.{Sight, sights}
use Rattle.pack_laws.specs.pack_model.specs.reading.Sights.Sight.{free, hidden, holds, leads, stray}
use Rattle.pack_laws.specs.pack_model.specs.states.Whole.{HasPages, FileWhole, IsLaid, Whole, absent, present}
use Rattle.pack_laws.proofs.Joining.{Reaches, content, is_full, length-joined}
use Rattle.pack_laws.proofs.Placing.{leader_of_place, page_of_place, place_of_leader, place_of_page, short_pages}
use Rattle.laws_record.proofs.Heads.{and_left, and_right}
use Rattle.laws_record.proofs.Lasting.{reaches_end}
use Rattle.laws_record.proofs.Carried.{place_by}
use Rattle.laws_record.proofs.Ends.{EndsFit, counts_is, counts_none, number_few}
use Rattle.laws_record.proofs.inside.Rows.{length-row, page_in, row, row_laid, row_seat, row_seated, sector_of}

-- what is there
there : {X : Type 0} (r : Option X) → is_some r ≡ true → (x : X) × (r ≡ Some x)
there None e = absurd cc
there (Some x) e = (x, refl)

-- a full page of at most 512 bytes has 512
full_page : (r : Option (List ℕ)) → ((b : List ℕ) → r ≡ Some b → length b ≤ 512) → is_full r ≡ true → (b : List ℕ) × (r ≡ Some b) × (length b ≡ 512)
full_page None short e = absurd cc
full_page (Some b) short e =
    let most = short b refl in
    let least = ltb-false (length b) 512 (not-true (nat_lt (length b) 512) e) in
    (b, refl, omega arith)

module _ (p : Pack) (w : IsWholeBySentences p) where
  abbrev ss : List Sight
  ss = sights p

  -- ends fit
  fit : EndsFit p.shape ss
  fit = record { directories = w.pages.directories; descriptor = w.pages.descriptor_size }

  -- ---- sectors
  -- a good sector that isn't free is in use
  used : (i : ℕ) (s : Sight) → get_or ss i hidden ≡ s → is_good s ≡ true → (s ≡ free → ⊥) → in_use p.shape ss (i, s) ≡ true
  used i s is good taken = elim (w.pages.used i (ap is_good is ∙ good)) [
    | inl e ↦ absurd (taken (sym is ∙ e))
    | inr e ↦ sym (ap (λ t. in_use p.shape ss (i, t)) is) ∙ e
  ]

  -- what a sector in use shows is a page that counts, in its place
  record IsInPlace (f : Fid) (n i : ℕ) : Type 0 where
    count : counts p.shape ss f n ≡ true
    place_is : place ss f n ≡ Some i

  -- by both tests
  in_place : (f : Fid) (n i : ℕ) → (counts p.shape ss f n && is_place i (place ss f n)) ≡ true → IsInPlace f n i
  in_place f n i e = record {
    count = and_left (counts p.shape ss f n) (is_place i (place ss f n)) e;
    place_is = place_by i (place ss f n) (and_right (counts p.shape ss f n) (is_place i (place ss f n)) e);
  }

  -- so each leader is in place
  leader_in_place : (f : Fid) (i : ℕ) (r : Bool) (l : Leader) → get_or ss i hidden ≡ leads f r l → IsInPlace f 0 i
  leader_in_place f i r l is = in_place f 0 i (used i (leads f r l) is refl (λ e. cc))

  -- and each data page
  page_in_place : (f : Fid) (n i : ℕ) (b : List ℕ) → get_or ss i hidden ≡ holds f n b → IsInPlace f (suc n) i
  page_in_place f n i b is = in_place f (suc n) i (used i (holds f n b) is refl (λ e. cc))

  -- ---- a file that doesn't live
  dead_whole : (f : Fid) → leader ss f ≡ None → FileWhole ss f
  dead_whole f dead = absent
      (λ i r l is. uncounted 0 (leader_in_place f i r l is).count)
      (record { seated = tt; waiting = tt; only = λ i m b is. absurd (uncounted (suc m) (page_in_place f m i b is).count) })
    where
      uncounted : (n : ℕ) → counts p.shape ss f n ≡ true → ⊥
      uncounted n e = let clash : false ≡ true = sym (counts_none p.shape ss f n dead) ∙ e in cc

  -- ---- the pages of a file that lives
  module _ (f : Fid) (l : Leader) (lead : leader ss f ≡ Some l) where
    -- the page that its end is in, counted from 0
    abbrev last : ℕ
    last = length (file_bytes ss f) / 512

    -- pages before it are reached
    reached : (n : ℕ) → n ≤ last → Reaches (page ss f) n
    reached n low = reaches_end ss f n (short_pages p f) (omega arith)

    -- it has a place
    last_place : (at : ℕ) × (place ss f (suc last) ≡ Some at)
    last_place = there (place ss f (suc last)) (w.pages.last_pages f (ap is_some lead))

    -- which isn't past the most
    few : last < most_pages
    few = number_few p f last last_place.0 last_place.1

    -- what a page in its place holds
    stands : (m i : ℕ) → place ss f (suc m) ≡ Some i → get_or ss (page_in ss f m).0 hidden ≡ holds f m (page_in ss f m).1
    stands m i e =
        let h = page_of_place ss f m i e in
        ap (λ r. get_or ss (sector_of r) hidden) e ∙ h.shows hidden ∙ ap (λ r. holds f m (content r)) (sym h.page_is)

    -- a page before the last is full
    full : (m : ℕ) → m < last → (b : List ℕ) × (page ss f m ≡ Some b) × (length b ≡ 512)
    full m low = full_page (page ss f m) ((short_pages p f).short m) ((reached last (omega arith)).full m low)

    -- each page up to the last stands in its place
    standing : (m : ℕ) → m < suc last → get_or ss (page_in ss f m).0 hidden ≡ holds f m (page_in ss f m).1
    standing m low = elim (cases_eq m last) [
      | inl is ↦ subst (λ n. get_or ss (page_in ss f n).0 hidden ≡ holds f n (page_in ss f n).1) (sym is) (stands last last_place.0 last_place.1)
      | inr other ↦ let b = full m (omega arith) in let at = place_of_page ss f m b.0 b.1 in stands m at.0 at.1
    ]

    -- the last one isn't full
    last_short : length (page_in ss f last).1 < 512
    unfolding file_bytes
    last_short =
        let h = page_of_place ss f last last_place.0 last_place.1 in
        let all = (length-joined most_pages (page ss f) last h.bytes (short_pages p f) few (reached last (omega arith)) h.page_is).0 in
        let size : length (page_in ss f last).1 ≡ length h.bytes = ap (λ r. length (content r)) h.page_is in
        omega arith

    -- it is laid
    laid : IsLaid (row ss f 0 (suc last))
    laid =
        let z : last ≡ 0 + last = omega arith in
        row_laid ss f 0 last (λ m low. let b = full m (omega arith) in ap (λ r. length (content r)) b.1 ∙ b.2)
        (subst (λ n. length (page_in ss f n).1 < 512) z last_short)

    -- and no other sector has a page of it
    carries : HasPages ss f (row ss f 0 (suc last)) 0 []
    carries = record {
      seated = row_seated ss f 0 (suc last) (λ m low. standing m (omega arith));
      waiting = tt;
      only = λ i m b is.
          let h = page_in_place f m i b is in
          let low : suc m ≤ suc last = leb-true (suc m) (suc last) (sym (counts_is p.shape ss fit f l (suc m) lead) ∙ h.count) in
          inl (row_seat ss f 0 (suc last) m i (omega arith) (omega arith) h.place_is);
    }

    -- its leader
    living_whole : FileWhole ss f
    living_whole =
        let at = place_of_leader ss f l lead in
        let h = leader_of_place ss f at.0 at.1 in
        let readable : h.readable ≡ true = w.pages.readable f (ap is_some lead) at.0 h.readable h.lead at.1 (h.shows hidden) in
        let size = length-row ss f 0 (suc last) in
        let most = few in
        present at.0 h.lead (row ss f 0 (suc last))
        (record {
          shows = h.shows hidden ∙ ap (λ r. leads f r h.lead) readable;
          only = λ i r k is. let e = (leader_in_place f i r k is).place_is in let same : Some i ≡ Some at.0 = sym e ∙ at.1 in cc;
        })
        carries laid (omega arith)

  -- ---- the pack
  -- each file is whole
  file_whole : (f : Fid) → FileWhole ss f
  file_whole f = by (leader ss f) refl
    where
      by : (r : Option Leader) → leader ss f ≡ r → FileWhole ss f
      by None dead = dead_whole f dead
      by (Some l) lead = living_whole f l lead

  -- SysDir's leader can be read
  root_readable : (l : Leader) × (get_or ss 1 hidden ≡ leads sys_dir true l)
  root_readable =
      let l = w.pages.root.0 in
      let r = w.pages.root.1 in
      let at = (leader_in_place sys_dir 1 r l w.pages.root.2).place_is in
      let live : lives ss sys_dir ≡ true = ap is_some (leader_of_place ss sys_dir 1 at).leader_is in
      (l, w.pages.root.2 ∙ ap (λ b. leads sys_dir b l) (w.pages.readable sys_dir live 1 r l at w.pages.root.2))

  -- no label is out of range
  no_stray : (i : ℕ) → get_or ss i hidden ≡ stray → ⊥
  no_stray i is = let e : false ≡ true = used i stray is refl (λ e. cc) in cc

-- all together
pub by_sentences : (p : Pack) → IsWholeBySentences p → Whole p
by_sentences p w = record {
  files = file_whole p w;
  used = no_stray p w;
  directories = w.pages.directories;
  root = root_readable p w;
  root_named = w.root_named;
  descriptor_named = w.descriptor_named;
  descriptor_lives = w.pages.descriptor_lives;
  descriptor_fits = record { says = w.descriptor_says; size = w.pages.descriptor_size };
  last = w.last;
}
