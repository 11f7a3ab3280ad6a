-- A directory of a mended pack gets a page more: the sectors, the places of pages, and the bytes.
use Rattle.std.proofs.Common.{[], ◌&&◌, ◌++◌, ◌+◌, ◌/◌, ◌∙◌, ◌∷◌, ◌≡◌, ◌≢◌, ◌≤◌, List, None, Option, Some, ap, arith, false, get_or, inl, inr, leb-true, length, nat_le, refl, subst, suc, sym, take, true, zero, ℕ}
use Rattle.std.proofs.lemmas.List.{get_or-set_other, get_or-set_same, length-append}
use Rattle.std.specs.Option.{is_some}
use Rattle.laws_room.specs.alto_words.specs.declared.fid.Fid.{Fid}
use Rattle.laws_room.specs.alto_words.specs.Fid.{disk_descriptor, is_fid}
use Rattle.laws_room.specs.disk_records.specs.Commands.{claim_writes, relabel_writes}
use Rattle.laws_room.specs.disk_records.specs.Labels.{tag}
use Rattle.laws_room.specs.disk_records.specs.Packs.{Pack, after, carried, sector_at}
use Rattle.laws_room.specs.disk_records.specs.declared.records.Page.{Page}
use Rattle.laws_room.specs.disk_records.specs.declared.records.Sector.{Sector}
use Rattle.laws_room.specs.pack_model.specs.hints.Links.{dir_words}
use Rattle.laws_room.specs.pack_model.specs.operations.PageWords.{widening_bytes}
use Rattle.laws_room.specs.pack_model.specs.reading.Bytes.{bytes_of, words_of}
use Rattle.laws_room.specs.pack_model.specs.reading.Files.{file_bytes, leader, lives, place}
use Rattle.laws_room.specs.pack_model.specs.reading.Leaders.{Leader}
use Rattle.laws_room.specs.pack_model.specs.reading.Sights.{page_sight, sights}
use Rattle.laws_room.specs.pack_model.specs.reading.Sights.Sight.{free, hidden, holds, stray}
use Rattle.laws_room.specs.pack_model.specs.reading.SlotWords.{space_words}
use Rattle.laws_room.specs.pack_model.specs.reading.Slots.{IsEven, Reads, SlotsReachEnd}
use Rattle.laws_room.specs.pack_model.specs.reading.Slots.Item.{space}
use Rattle.laws_room.specs.pack_model.specs.scavenger.Reports.{PagesMended}
use Rattle.laws_room.specs.pack_model.specs.states.InUse.{counts, in_use, is_good, is_place}
use Rattle.laws_room.specs.pack_laws.proofs.Bytes.{length-bytes_of, words_of-bytes_of}
use Rattle.laws_room.specs.pack_laws.proofs.guards.Laws.{claim_takes_at_the_label, relabel_keeps_the_page, value_writes_keep_the_page}
use Rattle.laws_room.specs.pack_laws.proofs.Guarding.{value_page}
use Rattle.laws_room.specs.pack_laws.proofs.Keys.{is_fid-itself}
use Rattle.laws_room.specs.pack_laws.proofs.Placing.{leader_of_place, one_page, page_of_place}
use Rattle.laws_room.specs.pack_laws.specs.GuardLaws.{ComesToHold}
use Rattle.laws_room.specs.laws_record.proofs.DirReads.{not_descriptor}
use Rattle.laws_room.specs.laws_record.proofs.Ends.{counts_none}
use Rattle.laws_room.specs.laws_record.proofs.Heads.{and_left}
use Rattle.laws_room.specs.laws_record.proofs.Recording.{carried_sight, carried_within, free_sight}
use Rattle.laws_room.specs.laws_record.specs.QuietLaws.{with_value}
use Rattle.laws_room.specs.laws_operation.proofs.OneDirectory.{reads_append}
use Rattle.laws_room.specs.laws_contents.proofs.ends.Laws.{each_file_has_its_end}
use Rattle.laws_room.specs.laws_contents.proofs.pages.Laws.{pages_are_their_counted_bytes}
use Rattle.laws_room.specs.laws_contents.specs.PageLaws.{bytes_at}
use Rattle.laws_mend.proofs.inside.Completed.{claimed_here, claimed_others, claimed_place}
use Rattle.laws_mend.proofs.inside.Counted.{counts_end}
use Rattle.laws_mend.proofs.inside.Filed.{bytes_by_places, lives_by_place, page_by_place}
use Rattle.laws_mend.proofs.inside.Freed.{rewritten_places}
use Rattle.laws_mend.proofs.inside.Releasing.{none_of_free, some_none}
use Rattle.laws_mend.proofs.inside.WideningBytes.{bytes_grow, even_append, even_words, one_slot, words_append}
use Rattle.laws_mend.proofs.inside.WideningWords.{counted, few, here, last, last_label, last_named, last_size, last_value, next, next_counted, next_label, next_named, next_value, far_size, together_are}
use Rattle.laws_mend.specs.Parts.{Ended}
use Rattle.laws_mend.specs.WidenLaws.{CanWiden, widening_writes}

module _ (p : Pack) (d : Fid) (at fresh : ℕ) (m : PagesMended p) (h : CanWiden p d at fresh) where
  abbrev pub k : ℕ
  k = length (file_bytes (sights p) d) / 512

  abbrev pub label_1 : List ℕ
  label_1 = next_label p d at fresh h

  abbrev pub value_1 : List ℕ
  value_1 = next_value p d at fresh h

  abbrev pub label_2 : List ℕ
  label_2 = last_label p d at fresh h

  abbrev pub value_2 : List ℕ
  value_2 = last_value p d at fresh h

  abbrev pub last_is : Page
  last_is = last p d at fresh h

  abbrev pub next_is : Page
  next_is = next p d at fresh h

  -- the bytes of both pages then
  abbrev pub bytes_2 : List ℕ
  bytes_2 = take (tag label_2).bytes (bytes_of value_2)

  abbrev pub bytes_1 : List ℕ
  bytes_1 = take (tag label_1).bytes (bytes_of value_1)

  -- the pack with the new page, with the value of the old one, and with all
  abbrev pub middle : Pack
  middle = after p (claim_writes fresh label_1 value_1)

  abbrev pub valued : Pack
  valued = with_value middle at value_2

  abbrev pub q : Pack
  q = after p (widening_writes p d at fresh)

  -- ---- one command after another
  pub claimed : ComesToHold fresh next_is label_1 value_1 p middle
  claimed = (claim_takes_at_the_label p fresh next_is label_1 value_1 3 h.free (next_named p d at fresh h)).taken (omega arith)

  pub apart : at ≢ fresh
  apart same = some_none (sym (none_of_free p fresh h.free) ∙ ap (carried p) (sym same) ∙ here p d at fresh h)

  pub here_middle : carried middle at ≡ Some last_is
  here_middle = claimed.pages at apart ∙ here p d at fresh h

  pub here_valued : carried valued at ≡ Some last_is
  here_valued = value_page middle at value_2 at ∙ here_middle

  pub comes : ComesToHold at last_is (sector_at middle at).label value_2 middle valued
  comes = value_writes_keep_the_page middle at last_is value_2 1 here_middle (omega arith)

  pub held : (sector_at valued at).value ≡ value_2
  held = ap (λ (s : Sector). s.value) comes.here

  pub ends : ComesToHold at last_is label_2 value_2 valued q
  ends = subst (λ w. ComesToHold at last_is label_2 w valued (after valued (relabel_writes at label_2 w))) held (relabel_keeps_the_page valued at last_is label_2 2 here_valued (last_named p d at fresh h).0 (omega arith))

  -- ---- sectors
  pub sectors : (i : ℕ) → i ≢ at → i ≢ fresh → sector_at q i ≡ sector_at p i
  sectors i x y = ends.others i x ∙ comes.others i x ∙ claimed.others i y

  pub aside_middle : (i : ℕ) → i ≢ at → get_or (sights q) i hidden ≡ get_or (sights middle) i hidden
  aside_middle i x =
      ap (λ us. get_or us i hidden) ends.shown ∙ get_or-set_other (sights valued) at i (page_sight d (suc k) (tag label_2).bytes value_2) hidden x
      ∙ ap (λ us. get_or us i hidden) comes.shown ∙ get_or-set_other (sights middle) at i (page_sight d (suc k) (tag (sector_at middle at).label).bytes value_2) hidden x

  pub aside : (i : ℕ) → i ≢ at → i ≢ fresh → get_or (sights q) i hidden ≡ get_or (sights p) i hidden
  aside i x y = aside_middle i x ∙ ap (λ us. get_or us i hidden) claimed.shown ∙ get_or-set_other (sights p) fresh i (page_sight d (suc (suc k)) (tag label_1).bytes value_1) hidden y

  pub last_here : get_or (sights q) at hidden ≡ holds d k bytes_2
  last_here = ap (λ us. get_or us at hidden) ends.shown ∙ get_or-set_same (sights valued) at (page_sight d (suc k) (tag label_2).bytes value_2) hidden (carried_within valued at last_is here_valued)

  pub was_free : get_or (sights p) fresh hidden ≡ free
  was_free = free_sight p fresh h.free

  pub was_last : get_or (sights p) at hidden ≡ holds d k (bytes_at p at)
  was_last = carried_sight p at last_is (here p d at fresh h)

  -- ---- the directory
  pub plain : is_fid d disk_descriptor ≡ false
  plain = not_descriptor d h.directory

  pub ended : Ended p
  ended = record { cleared = record { once = m.pages.once; no_stray = none_before }; directories = m.pages.directories }
    where
      none_before : (i : ℕ) → get_or (sights p) i hidden ≡ stray → ⊥
      none_before i e = elim (m.pages.used i (ap is_good e)) [
        | inl is ↦ (let x : stray ≡ free = sym e ∙ is in cc)
        | inr is ↦ (let x : false ≡ true = sym (ap (λ s. in_use p.shape (sights p) (i, s)) e) ∙ is in cc)
      ]

  -- it lives, since its page is carried
  pub living : lives (sights p) d ≡ true
  living = by (leader (sights p) d) refl
    where
      by : (r : Option Leader) → leader (sights p) d ≡ r → lives (sights p) d ≡ true
      by (Some l) e = ap is_some e
      by None e =
          absurd (elim (m.pages.used at (ap is_good was_last)) [
            | inl is ↦ (let c : holds d k (bytes_at p at) ≡ free = sym was_last ∙ is in cc)
            | inr is ↦
                (let u : (counts p.shape (sights p) d (suc k) && is_place at (place (sights p) d (suc k))) ≡ true = sym (ap (λ s. in_use p.shape (sights p) (at, s)) was_last) ∙ is in
                let c : false ≡ true = sym (counts_none p.shape (sights p) d (suc k) e) ∙ and_left (counts p.shape (sights p) d (suc k)) (is_place at (place (sights p) d (suc k))) u in cc)
          ])

  pub counts_was : (n : ℕ) → counts p.shape (sights p) d n ≡ nat_le n (suc k)
  counts_was n = counts_end p ended d living plain n

  -- no sector carries the new page before
  pub lacks : place (sights p) d (suc (suc k)) ≡ None
  lacks = by (place (sights p) d (suc (suc k))) refl
    where
      by : (r : Option ℕ) → place (sights p) d (suc (suc k)) ≡ r → r ≡ None
      by None e = refl
      by (Some i) e =
          let x = page_of_place (sights p) d (suc k) i e in
          let shows : get_or (sights p) i hidden ≡ holds d (suc k) x.bytes = x.shows hidden in
          absurd (elim (m.pages.used i (ap is_good shows)) [
            | inl is ↦ (let c : holds d (suc k) x.bytes ≡ free = sym shows ∙ is in cc)
            | inr is ↦
                (let u : (counts p.shape (sights p) d (suc (suc k)) && is_place i (place (sights p) d (suc (suc k)))) ≡ true = sym (ap (λ s. in_use p.shape (sights p) (i, s)) shows) ∙ is in
                let c : nat_le (suc (suc k)) (suc k) ≡ true = sym (counts_was (suc (suc k))) ∙ and_left (counts p.shape (sights p) d (suc (suc k))) (is_place i (place (sights p) d (suc (suc k)))) u in
                let l : suc (suc k) ≤ suc k = leb-true (suc (suc k)) (suc k) c in omega arith)
          ])

  -- ---- places
  pub places_middle : (f : Fid) (n : ℕ) → place (sights q) f n ≡ place (sights middle) f n
  places_middle f n =
      rewritten_places valued q at last_is (tag label_2).bytes value_2 here_valued ends.shown f n
      ∙ rewritten_places middle valued at last_is (tag (sector_at middle at).label).bytes value_2 here_middle comes.shown f n

  pub place_new : place (sights q) d (suc (suc k)) ≡ Some fresh
  place_new = places_middle d (suc (suc k)) ∙ claimed_place p middle fresh next_is (tag label_1).bytes value_1 h.free lacks claimed.shown

  pub place_old : (f : Fid) (n : ℕ) → (f ≡ d → n ≡ suc (suc k) → ⊥) → place (sights q) f n ≡ place (sights p) f n
  place_old f n other = places_middle f n ∙ claimed_others p middle fresh next_is (tag label_1).bytes value_1 h.free lacks claimed.shown f n other

  -- what has a place has it still
  pub place_more : (f : Fid) (n i : ℕ) → place (sights p) f n ≡ Some i → place (sights q) f n ≡ Some i
  place_more f n i e = place_old f n (λ x y. some_none (sym lacks ∙ (λ j. place (sights p) (sym x j) (sym y j)) ∙ e)) ∙ e

  pub place_last : place (sights q) d (suc k) ≡ Some at
  place_last = place_more d (suc k) at h.sector

  pub next_here : get_or (sights q) fresh hidden ≡ holds d (suc k) bytes_1
  next_here = aside_middle fresh (λ same. apart (sym same)) ∙ claimed_here p middle fresh next_is (tag label_1).bytes value_1 h.free lacks claimed.shown

  -- the sector of a page is another one than these two
  pub apart_fresh : (f : Fid) (n i : ℕ) → place (sights p) f n ≡ Some i → i ≢ fresh
  apart_fresh f zero i e same = let x = (leader_of_place (sights p) f i e).shows hidden in let y = ap (λ j. get_or (sights p) j hidden) same ∙ was_free in let c = sym x ∙ y in cc
  apart_fresh f (suc n) i e same = let x = (page_of_place (sights p) f n i e).shows hidden in let y = ap (λ j. get_or (sights p) j hidden) same ∙ was_free in let c = sym x ∙ y in cc

  pub apart_last : (f : Fid) (n i : ℕ) → place (sights p) f n ≡ Some i → (f ≡ d → n ≡ suc k → ⊥) → i ≢ at
  apart_last f n i e other same = let one = one_page (sights p) f d n (suc k) at (e ∙ ap Some same) h.sector in other one.0 one.1

  pub lives_are : (f : Fid) → lives (sights q) f ≡ lives (sights p) f
  lives_are f = lives_by_place (sights p) (sights q) f (place_old f 0 (λ x y. omega arith))

  -- ---- bytes
  pub others : (f : Fid) → is_fid f d ≡ false → file_bytes (sights q) f ≡ file_bytes (sights p) f
  others f x =
      let other : f ≡ d → ⊥ = λ same. let c : true ≡ false = sym (is_fid-itself d) ∙ ap (λ g. is_fid g d) (sym same) ∙ x in cc in
      bytes_by_places (sights p) (sights q) f (λ n. place_old f (suc n) (λ same number. other same)) (λ n i placed. aside i (apart_last f (suc n) i placed (λ same number. other same)) (apart_fresh f (suc n) i placed))

  pub own : file_bytes (sights q) d ≡ file_bytes (sights p) d ++ widening_bytes
  own =
      let ending = each_file_has_its_end p d in
      let bytes_are : bytes_at q at ≡ bytes_2 = ap (λ (s : Sector). take (tag s.label).bytes (bytes_of s.value)) ends.here in
      let fresh_is : sector_at q fresh ≡ sector_at middle fresh = ends.others fresh (λ same. apart (sym same)) ∙ comes.others fresh (λ same. apart (sym same)) in
      let next_are : bytes_at q fresh ≡ bytes_1 = ap (λ (s : Sector). take (tag s.label).bytes (bytes_of s.value)) (fresh_is ∙ claimed.here) in
      bytes_grow (sights p) (sights q) d k (bytes_at p at) bytes_2 bytes_1 widening_bytes
      (let f = few p d at fresh h in omega arith)
      (λ j l. let x = ending.before.each j l in (bytes_at p x.at, (pages_are_their_counted_bytes p d j).there x.at x.sector, x.full))
      (λ j l. page_by_place (sights p) (sights q) d j (place_old d (suc j) (λ x y. omega arith)) (λ i placed. aside i (apart_last d (suc j) i placed (λ x y. omega arith)) (apart_fresh d (suc j) i placed)))
      ((pages_are_their_counted_bytes p d k).there at h.sector)
      (let c = counted p d at fresh h in omega arith)
      ((pages_are_their_counted_bytes q d k).there at place_last ∙ ap Some bytes_are)
      (last_size p d at fresh h)
      ((pages_are_their_counted_bytes q d (suc k)).there fresh place_new ∙ ap Some next_are)
      (let c = ap length (next_counted p d at fresh h) in let f = far_size p d at fresh h in omega arith)
      (together_are p d at fresh h)

  pub size : length (file_bytes (sights q) d) ≡ length (file_bytes (sights p) d) + 512
  size = ap length own ∙ length-append (file_bytes (sights p) d) widening_bytes ∙ ap (λ n. length (file_bytes (sights p) d) + n) (length-bytes_of (space_words 256))

  pub reaches : SlotsReachEnd (file_bytes (sights p) d)
  reaches = m.pages.directories d living h.directory

  pub words_are : dir_words q d ≡ dir_words p d ++ space_words 256
  words_are = ap words_of own ∙ words_append (file_bytes (sights p) d) widening_bytes reaches.even ∙ ap (λ x. dir_words p d ++ x) (words_of-bytes_of (space_words 256))

  pub reaches_still : SlotsReachEnd (file_bytes (sights q) d)
  reaches_still = record {
    even = subst IsEven (sym own) (even_append (file_bytes (sights p) d) widening_bytes reaches.even (even_words (space_words 256)));
    items = reaches.items ++ space 256 ∷ [];
    reads = subst (λ ws. Reads ws (reaches.items ++ space 256 ∷ [])) (sym words_are) (reads_append (dir_words p d) (space_words 256) reaches.items (space 256 ∷ []) reaches.reads one_slot);
  }
