-- Where each file lies as a whole one does, all sectors say the sentences.
use Rattle.std.proofs.Common.{List, None, Option, Some, [], ap, arith, eq-eqb, get_or, inl, inr, le-leb, le-ltb, length, not, refl, suc, sym, true, zero, ℕ, ◌&&◌, ◌+◌, ◌/◌, ◌<◌, ◌∙◌, ◌≡◌, ◌≤◌, ◌⊎◌}
use Rattle.std.specs.Option.{is_some}
use Rattle.pack_laws.specs.alto_words.specs.declared.fid.Fid.{Fid}
use Rattle.pack_laws.specs.disk_records.specs.Packs.{Pack}
use Rattle.pack_laws.specs.pack_model.specs.reading.Files.{carries_page, file_bytes, leader, lives, most_pages, page, place}
use Rattle.pack_laws.specs.pack_model.specs.states.InUse.{counts, in_use, is_good, is_place}
use Rattle.pack_laws.specs.pack_model.specs.reading.Leaders.{Leader}
use Rattle.pack_laws.specs.pack_model.specs.states.Sentences.{HasLastPage, HasReadableName, IsWholeBySentences}
use Rattle.pack_laws.specs.pack_model.specs.reading.Sights.{Sight, sights}
use Rattle.pack_laws.specs.pack_model.specs.reading.Sights.Sight.{free, hidden, holds, leads, stray}
use Rattle.pack_laws.specs.pack_model.specs.states.Whole.{HasPages, FileWhole, Headless, IsLaid, Leads, PageAt, Whole, absent, present}
use Rattle.pack_laws.proofs.Joining.{Reaches, is_full, length-joined}
use Rattle.pack_laws.proofs.Keys.{is_fid-itself}
use Rattle.pack_laws.proofs.Placing.{carries-holds, leader_of_place, page_of_place, place_of_leader, short_pages, shows_carried, shows_led}
use Rattle.laws_record.proofs.Carried.{carried_once, place_of_carried, seat_in}
use Rattle.laws_record.proofs.Ends.{EndsFit, counts_is}
use Rattle.laws_record.proofs.inside.Seats.{laid_full, laid_last, laid_some, seat, seat_number, seat_shows}

-- ---- a file that lies as a whole one
module _ (p : Pack) (f : Fid) (at : ℕ) (l : Leader) (pages : List PageAt) (h : Leads (sights p) f at true l) (c : HasPages (sights p) f pages 0 []) (laid : IsLaid pages) (few : length pages ≤ most_pages) where
  abbrev ss : List Sight
  ss = sights p

  whole : FileWhole ss f
  whole = present at l pages h c laid few

  -- its leader's place
  leader_place : place ss f 0 ≡ Some at
  leader_place = place_of_carried ss f whole 0 at (ap (carries_page f 0) h.shows ∙ is_fid-itself f)

  -- the name in it can be read
  named : HasReadableName ss f
  named i readable k e is =
      let both : Some i ≡ Some at = sym e ∙ leader_place in
      let same : i ≡ at = cc in
      let shows : leads f readable k ≡ leads f true l = sym is ∙ ap (λ n. get_or ss n hidden) same ∙ h.shows in
      cc

  -- each page's place
  spot : (j : ℕ) → j < length pages → place ss f (suc j) ≡ Some (seat pages j).0
  spot j low =
      let z : 0 + j ≡ j = omega arith in
      place_of_carried ss f whole (suc j) (seat pages j).0
      (ap (carries_page f (suc j)) (seat_shows ss f 0 pages j low c.seated ∙ ap (λ n. holds f n (seat pages j).1) z) ∙ carries-holds f j (seat pages j).1)

  -- and its bytes
  page_there : (j : ℕ) → j < length pages → page ss f j ≡ Some (seat pages j).1
  page_there j low =
      let z : 0 + j ≡ j = omega arith in
      let x = page_of_place ss f j (seat pages j).0 (spot j low) in
      let same : holds f j x.bytes ≡ holds f j (seat pages j).1 = sym (x.shows hidden) ∙ seat_shows ss f 0 pages j low c.seated ∙ ap (λ n. holds f n (seat pages j).1) z in
      let bytes : x.bytes ≡ (seat pages j).1 = cc in
      x.page_is ∙ ap Some bytes

  -- its bytes end in the last page
  ends : suc (length (file_bytes ss f) / 512) ≡ length pages
  unfolding file_bytes
  ends =
      let k = laid_some pages laid in
      let many = k.1 in
      let short = laid_last pages k.0 laid k.1 in
      let reached : Reaches (page ss f) k.0 = record {
        full = λ j low. ap is_full (page_there j (omega arith)) ∙ ap not (let size = laid_full pages j laid (omega arith) in le-ltb (length (seat pages j).1) 512 (omega arith));
      } in
      let all = (length-joined most_pages (page ss f) k.0 (seat pages k.0).1 (short_pages p f) (omega arith) reached (page_there k.0 (omega arith))).1 short in
      omega arith

  -- that page is there
  last_there : HasLastPage ss f
  last_there =
      let e = ends in
      ap is_some (spot (length (file_bytes ss f) / 512) (omega arith))

  -- as are those before it
  all_there : (j : ℕ) → j ≤ length (file_bytes ss f) / 512 → is_some (page ss f j) ≡ true
  all_there j low = let e = ends in ap is_some (page_there j (omega arith))

  -- each sector that carries a page of it is in use
  in_place : EndsFit p.shape ss → (n i : ℕ) → carries_page f n (get_or ss i hidden) ≡ true → (counts p.shape ss f n && is_place i (place ss f n)) ≡ true
  in_place fit n i e =
      let lead = (leader_of_place ss f at leader_place).leader_is in
      let size = ends in
      ap (λ b. b && is_place i (place ss f n)) (counts_is p.shape ss fit f _ n lead ∙ le-leb n (suc (length (file_bytes ss f) / 512)) (low n e))
      ∙ ap (is_place i) (place_of_carried ss f whole n i e) ∙ eq-eqb i i refl
    where
      low : (n : ℕ) → carries_page f n (get_or ss i hidden) ≡ true → n ≤ suc (length (file_bytes ss f) / 512)
      low zero e = omega arith
      low (suc m) e =
          let x = shows_carried f m (get_or ss i hidden) e in
          let r = seat_number 0 pages m i (seat_in ss f pages c m i x.0 x.1) in
          let within = r.within in
          let is = r.page_is in
          let size = ends in
          omega arith

-- ---- the pack
module _ (p : Pack) (w : Whole p) where
  -- ends fit
  pub fit : EndsFit p.shape (sights p)
  fit = record { directories = w.directories; descriptor = w.descriptor_fits.size }

  -- what carries a page of a whole file is in use
  pub carried_used : (f : Fid) (n i : ℕ) → FileWhole (sights p) f → carries_page f n (get_or (sights p) i hidden) ≡ true → (counts p.shape (sights p) f n && is_place i (place (sights p) f n)) ≡ true
  carried_used f zero i (absent headless c) e = let x = shows_led f (get_or (sights p) i hidden) e in absurd (headless i x.0 x.1 x.2)
  carried_used f (suc n) i (absent headless c) e = let x = shows_carried f n (get_or (sights p) i hidden) e in absurd (seat_in (sights p) f [] c n i x.0 x.1)
  carried_used f n i (present at l pages h c laid few) e = in_place p f at l pages h c laid few fit n i e

  -- a good sector is free or in use
  sector_used : (i : ℕ) (s : Sight) → get_or (sights p) i hidden ≡ s → is_good s ≡ true → (s ≡ free) ⊎ (in_use p.shape (sights p) (i, s) ≡ true)
  sector_used i hidden is good = absurd cc
  sector_used i free is good = inl refl
  sector_used i stray is good = absurd (w.used i is)
  sector_used i (leads f r l) is good = inr (carried_used f 0 i (w.files f) (ap (carries_page f 0) is ∙ is_fid-itself f))
  sector_used i (holds f n b) is good = inr (carried_used f (suc n) i (w.files f) (ap (carries_page f (suc n)) is ∙ carries-holds f n b))

  -- a living file isn't absent
  living : (f : Fid) → lives (sights p) f ≡ true → Headless (sights p) f → ⊥
  living f live headless = by (leader (sights p) f) refl live
    where
      by : (r : Option Leader) → leader (sights p) f ≡ r → is_some r ≡ true → ⊥
      by None e some = absurd cc
      by (Some l) e some =
          let at = place_of_leader (sights p) f l e in
          let x = leader_of_place (sights p) f at.0 at.1 in
          headless at.0 x.readable x.lead (x.shows hidden)

  -- its last page
  has_last : (f : Fid) → FileWhole (sights p) f → lives (sights p) f ≡ true → HasLastPage (sights p) f
  has_last f (absent headless c) live = absurd (living f live headless)
  has_last f (present at l pages h c laid few) live = last_there p f at l pages h c laid few

  -- and those before it
  pub has_pages : (f : Fid) → FileWhole (sights p) f → lives (sights p) f ≡ true → (j : ℕ) → j ≤ length (file_bytes (sights p) f) / 512 → is_some (page (sights p) f j) ≡ true
  has_pages f (absent headless c) live = absurd (living f live headless)
  has_pages f (present at l pages h c laid few) live = all_there p f at l pages h c laid few

  -- and its name
  has_name : (f : Fid) → FileWhole (sights p) f → lives (sights p) f ≡ true → HasReadableName (sights p) f
  has_name f (absent headless c) live = absurd (living f live headless)
  has_name f (present at l pages h c laid few) live = named p f at l pages h c laid few

-- all together
pub sentences_hold : (p : Pack) → Whole p → IsWholeBySentences p
sentences_hold p w = record {
  pages = record {
    used = λ i good. sector_used p w i (get_or (sights p) i hidden) refl good;
    once = λ f n i j a b. carried_once (sights p) f (w.files f) n i j a b;
    last_pages = λ f live. has_last p w f (w.files f) live;
    readable = λ f live. has_name p w f (w.files f) live;
    directories = w.directories;
    root = (w.root.0, true, w.root.1);
    descriptor_lives = w.descriptor_lives;
    descriptor_size = w.descriptor_fits.size;
  };
  root_named = w.root_named;
  descriptor_named = w.descriptor_named;
  descriptor_says = w.descriptor_fits.says;
  last = w.last;
}
