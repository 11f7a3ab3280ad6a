-- What releases leave of the parts of a mended pack.
use Rattle.std.proofs.Common.{◌∙◌, ◌<◌, ◌≡◌, ◌≢◌, ◌⊎◌, Bool, None, Option, Some, ap, arith, cond, false, get_or, inl, inr, leb-false, length, refl, set, subst, suc, sym, take, true, zero, ℕ, ◌/◌}
use Rattle.std.proofs.lemmas.Bool.{cases_eq, cases_lt}
use Rattle.std.proofs.lemmas.List.{get_or-set_other, get_or-set_same}
use Rattle.std.specs.Option.{is_some}
use Rattle.laws_room.specs.alto_words.specs.declared.fid.Fid.{Fid}
use Rattle.laws_room.specs.alto_words.specs.Fid.{disk_descriptor, is_fid}
use Rattle.laws_room.specs.disk_records.specs.Commands.{ones, release_writes}
use Rattle.laws_room.specs.disk_records.specs.Labels.{is_free, page_of, tag}
use Rattle.laws_room.specs.disk_records.specs.Packs.{Pack, after, carried, is_usable, sector_at}
use Rattle.laws_room.specs.disk_records.specs.declared.records.Page.{Page}
use Rattle.laws_room.specs.disk_records.specs.declared.records.Sector.{Sector}
use Rattle.laws_room.specs.pack_model.specs.reading.Bytes.{bytes_of}
use Rattle.laws_room.specs.pack_model.specs.reading.Files.{carries_page, file_bytes, lives, place}
use Rattle.laws_room.specs.pack_model.specs.reading.Sights.{page_sight, sights}
use Rattle.laws_room.specs.pack_model.specs.reading.Sights.Sight.{free, hidden, holds, stray}
use Rattle.laws_room.specs.pack_model.specs.reading.Slots.{SlotsReachEnd}
use Rattle.laws_room.specs.pack_model.specs.states.InUse.{counts, in_use, is_good, is_place}
use Rattle.laws_room.specs.pack_model.specs.states.Sentences.{EachOnce, IsUsed}
use Rattle.laws_room.specs.pack_laws.proofs.Carrying.{carried_shown}
use Rattle.laws_room.specs.pack_laws.proofs.Guarding.{carried_parts, ones_free, usable_within}
use Rattle.laws_room.specs.pack_laws.proofs.Keys.{is_fid-itself, same_fid}
use Rattle.laws_room.specs.pack_laws.proofs.Placing.{leader_of_place, one_page, place_is, place_same}
use Rattle.laws_room.specs.pack_laws.proofs.Sighted.{length-sights}
use Rattle.laws_room.specs.laws_contents.proofs.pages.Laws.{carried_once_is_in_place}
use Rattle.laws_room.specs.laws_record.proofs.Carried.{carried_shows}
use Rattle.laws_room.specs.laws_record.proofs.Copying.{place_carried}
use Rattle.laws_room.specs.laws_record.proofs.DirReads.{not_descriptor}
use Rattle.laws_room.specs.laws_record.proofs.Framing.{counted_bytes, release_frame}
use Rattle.laws_room.specs.laws_record.proofs.Recording.{carried_sight, number_below}
use Rattle.laws_room.specs.laws_record.proofs.Unread.{no_page_shown, unread}
use Rattle.laws_room.specs.laws_record.proofs.Unused.{unused_release}
use Rattle.laws_room.specs.laws_record.specs.QuietLaws.{with_label}
use Rattle.laws_room.specs.laws_record.specs.QuietLaws.IsUnread.{past_end}
use Rattle.laws_mend.proofs.inside.Availing.{copy_place, freed_once, none_free, once_place, same_in_use}
use Rattle.laws_mend.proofs.inside.Counted.{counts_end, counts_stay, led_counts, only_carrier, uncounted}
use Rattle.laws_mend.proofs.inside.Filed.{bytes_by_places, lives_by_place}
use Rattle.laws_mend.proofs.inside.Releasing.{free_twice, here_once, here_twice, none_of_free, others_once, others_twice, shown_once, shown_twice}
use Rattle.laws_mend.specs.PartLaws.{CopyReleaseLeaves, StrayReleaseLeaves, UnusedReleaseLeaves}
use Rattle.laws_mend.specs.Parts.{Ended, SameFiles}

-- what is something is the same
some_is : {X : Type 0} {x y : X} → Some x ≡ Some y → x ≡ y
some_is e = cc

-- ---- a sector that isn't the place of a page becomes free
module _ (p : Pack) (at : ℕ) (usable : is_usable p.shape at (sector_at p at) ≡ true) where
  abbrev q : Pack
  q = after p (release_writes at)

  within : at < length (sights p)
  within = subst (λ n. at < n) (sym (length-sights p)) (usable_within p at usable)

  -- every other sector shows what it showed
  shown_other : (k : ℕ) → k ≢ at → get_or (sights q) k hidden ≡ get_or (sights p) k hidden
  shown_other k other = ap (λ us. get_or us k hidden) (shown_twice p at usable) ∙ get_or-set_other (sights p) at k free hidden other

  shown_here : get_or (sights q) at hidden ≡ free
  shown_here = ap (λ us. get_or us at hidden) (shown_twice p at usable) ∙ get_or-set_same (sights p) at free hidden within

  -- files, by the places of their pages
  files_stay : ((f : Fid) (n : ℕ) → place (sights q) f n ≡ place (sights p) f n) → ((f : Fid) (n : ℕ) → place (sights p) f n ≢ Some at) → SameFiles p q
  files_stay same apart = record {
    lives_are = λ f. lives_by_place (sights p) (sights q) f (same f 0);
    bytes_are = λ f. bytes_by_places (sights p) (sights q) f (λ n. same f (suc n)) (λ n k e. shown_other k (λ at_is. apart f (suc n) (e ∙ ap Some at_is)));
    places_are = same;
  }

-- of a second copy
pub copy_release_leaves : CopyReleaseLeaves
copy_release_leaves p at lower page here low less =
    let usable = (carried_parts p at page here).0 in
    let copied : (g : Fid) (m : ℕ) → carries_page g m (get_or (sights p) at hidden) ≡ true → carries_page g m (get_or (sights p) lower hidden) ≡ true =
    λ g m has. let is = carried_shown p at (record { fid = g; number = m }) hidden (usable_within p at usable) has in carried_shows p lower (record { fid = g; number = m }) (low ∙ sym here ∙ is) in
    files_stay p at usable
    (λ f n. ap (λ us. place us f n) (shown_twice p at usable) ∙ copy_place p.shape (sights p) at (within p at usable) lower less copied f n)
    (λ f n is.
    let h = place_is (sights p) f n at is in
    let c : true ≡ false = sym (copied f n (h.carries hidden)) ∙ h.lowest lower hidden less in cc)

-- of a label that is neither free nor in range
pub stray_release_leaves : StrayReleaseLeaves
stray_release_leaves p at usable nothing =
    let bare : (f : Fid) (n : ℕ) → carries_page f n (get_or (sights p) at hidden) ≡ false = λ f n. elim (no_page_shown p at usable nothing) [
      | inl is ↦ ap (carries_page f n) is ∙ none_free f n
      | inr is ↦ ap (carries_page f n) is ∙ none_stray f n
    ] in
    let some : 0 < at = elim (cases_lt 0 at) [
      | inl some ↦ some
      | inr none ↦ absurd (let z : at ≡ 0 = omega arith in let c : is_usable p.shape 0 (sector_at p 0) ≡ true = subst (λ k. is_usable p.shape k (sector_at p k) ≡ true) z usable in cc)
    ] in
    record {
      changed = record {
        page_here = none_of_free (after p (release_writes at)) at (free_twice p at usable);
        free_here = free_twice p at usable;
        pages = λ i other. ap (λ s. cond (is_usable p.shape i s) (page_of s.label) None) (others_twice p at usable i other ∙ others_once p at usable i other);
        frees = λ i other. ap (λ s. cond (is_usable p.shape i s) (is_free (tag s.label)) false) (others_twice p at usable i other ∙ others_once p at usable i other);
        shown = shown_twice p at usable;
        here = here_twice p at usable ∙ ap (λ (s : Sector). record s { value = ones 256 }) (here_once p at usable);
        others = λ i other. others_twice p at usable i other ∙ others_once p at usable i other;
      };
      files = files_stay p at usable
          (λ f n. ap (λ us. place us f n) (shown_twice p at usable) ∙ copy_place p.shape (sights p) at (within p at usable) 0 some (λ g m has. absurd (let c : true ≡ false = sym has ∙ bare g m in cc)) f n)
          (λ f n is. let h = place_is (sights p) f n at is in let c : true ≡ false = sym (h.carries hidden) ∙ bare f n in cc);
      once = λ alone. subst EachOnce (sym (shown_twice p at usable)) (freed_once p.shape (sights p) at (within p at usable) alone);
    }
  where
    none_stray : (f : Fid) (n : ℕ) → carries_page f n stray ≡ false
    none_stray f zero = refl
    none_stray f (suc n) = refl

-- ---- of a page that isn't within its file's end
module _ (p : Pack) (at : ℕ) (page : Page) (ended : Ended p) (here : carried p at ≡ Some page) (uncounts : counts p.shape (sights p) page.fid page.number ≡ false) where
  abbrev after_it : Pack
  after_it = after p (release_writes at)

  alone : EachOnce (sights p)
  alone = ended.cleared.once

  usable : is_usable p.shape at (sector_at p at) ≡ true
  usable = (carried_parts p at page here).0

  placed : place (sights p) page.fid page.number ≡ Some at
  placed = carried_once_is_in_place p page at alone here

  -- every other page has its place
  other_places : (f : Fid) (n : ℕ) → (f ≡ page.fid → n ≡ page.number → ⊥) → place (sights after_it) f n ≡ place (sights p) f n
  other_places f n apart = ap (λ us. place us f n) (shown_twice p at usable) ∙ place_same (sights p) at free f n (within p at usable) (none_free f n ∙ sym (bare (carries_page f n (get_or (sights p) at hidden)) refl))
    where
      bare : (b : Bool) → carries_page f n (get_or (sights p) at hidden) ≡ b → carries_page f n (get_or (sights p) at hidden) ≡ false
      bare false e = e
      bare true e =
          let is : carried p at ≡ Some (record { fid = f; number = n }) = carried_shown p at (record { fid = f; number = n }) hidden (usable_within p at usable) e in
          let same : ◌≡◌ {A = Page} (record { fid = f; number = n }) page = some_is (sym is ∙ here) in
          absurd (apart (ap (λ (x : Page). x.fid) same) (ap (λ (x : Page). x.number) same))

  -- it has none
  gone : place (sights after_it) page.fid page.number ≡ None
  gone = by (place (sights after_it) page.fid page.number) refl
    where
      by : (r : Option ℕ) → place (sights after_it) page.fid page.number ≡ r → place (sights after_it) page.fid page.number ≡ None
      by None e = e
      by (Some k) e =
          let there = place_carried after_it page k e in
          absurd (elim (cases_eq k at) [
            | inl same ↦ (let none = none_of_free after_it at (free_twice p at usable) in let c : carried after_it at ≡ Some page = ap (carried after_it) (sym same) ∙ there in cc)
            | inr other ↦ other (only_carrier p at page alone here k (sym (ap (λ s. cond (is_usable p.shape k s) (page_of s.label) None) (others_twice p at usable k other ∙ others_once p at usable k other)) ∙ there))
          ])

  -- it is no leader page, since those count
  no_lead : page.number ≢ 0
  no_lead zero_is =
      let h = leader_of_place (sights p) page.fid at (ap (place (sights p) page.fid) (sym zero_is) ∙ placed) in
      let c : counts p.shape (sights p) page.fid 0 ≡ true = led_counts p page.fid h.lead h.leader_is in
      let d : true ≡ false = sym c ∙ ap (counts p.shape (sights p) page.fid) (sym zero_is) ∙ uncounts in cc

  lives_stay : (f : Fid) → lives (sights after_it) f ≡ lives (sights p) f
  lives_stay f = lives_by_place (sights p) (sights after_it) f (other_places f 0 (λ same number. no_lead (sym number)))

  -- the bytes of a living file end before it
  own_bytes : (m : ℕ) → page.number ≡ suc m → lives (sights p) page.fid ≡ true → is_fid page.fid disk_descriptor ≡ false → file_bytes (sights after_it) page.fid ≡ file_bytes (sights p) page.fid
  own_bytes m number live other =
      let f : Fid = page.fid in
      let below = number_below (sector_at p at).label page (carried_parts p at page here).1 in
      let far : suc (length (file_bytes (sights p) f) / 512) < suc m =
      leb-false (suc m) (suc (length (file_bytes (sights p) f) / 512)) (sym (counts_end p ended f live other (suc m)) ∙ ap (counts p.shape (sights p) f) (sym number) ∙ uncounts) in
      let sight : get_or (sights p) at hidden ≡ holds f m (take (tag (sector_at p at).label).bytes (bytes_of (sector_at p at).value)) =
      carried_sight p at page here ∙ ap (λ n. page_sight f n (tag (sector_at p at).label).bytes (sector_at p at).value) number in
      let frame = counted_bytes (sights p) (set (sights p) at free) (release_frame (sights p) at f m (take (tag (sector_at p at).label).bytes (bytes_of (sector_at p at).value)) sight (unread p f m (omega arith) (past_end far))) in
      ap (λ us. file_bytes us f) (shown_twice p at usable) ∙ sym (frame.bytes f (inl (λ none. let c : false ≡ true = sym (ap is_some none) ∙ live in cc)))

  bytes_stay : (f : Fid) → lives (sights p) f ≡ true → is_fid f disk_descriptor ≡ false → file_bytes (sights after_it) f ≡ file_bytes (sights p) f
  bytes_stay f live other = by (is_fid f page.fid) refl
    where
      own : (n : ℕ) → page.number ≡ n → lives (sights p) page.fid ≡ true → is_fid page.fid disk_descriptor ≡ false → file_bytes (sights after_it) page.fid ≡ file_bytes (sights p) page.fid
      own zero number live other = absurd (no_lead number)
      own (suc m) number live other = own_bytes m number live other

      by : (b : Bool) → is_fid f page.fid ≡ b → file_bytes (sights after_it) f ≡ file_bytes (sights p) f
      by true e =
          let same : f ≡ page.fid = same_fid f page.fid e in
          ap (file_bytes (sights after_it)) same ∙ own page.number refl (ap (lives (sights p)) (sym same) ∙ live) (ap (λ g. is_fid g disk_descriptor) (sym same) ∙ other) ∙ ap (file_bytes (sights p)) (sym same)
      by false e =
          let apart : f ≡ page.fid → ⊥ = λ same. let c : true ≡ false = sym (is_fid-itself page.fid) ∙ ap (λ g. is_fid g page.fid) (sym same) ∙ e in cc in
          bytes_by_places (sights p) (sights after_it) f (λ n. other_places f (suc n) (λ same number. apart same))
          (λ n k is. shown_other p at usable k (λ at_is. apart (one_page (sights p) f page.fid (suc n) page.number at (is ∙ ap Some at_is) placed).0))

  counts_same : (f : Fid) (n : ℕ) → counts p.shape (sights after_it) f n ≡ counts p.shape (sights p) f n
  counts_same f n =
      ap (λ us. counts p.shape us f n) (shown_twice p at usable ∙ sym (shown_once p at usable))
      ∙ counts_stay p (with_label p at (ones 8)) (unused_release p at page (ones 8) here (uncounted p at page here uncounts) (only_carrier p at page alone here) ones_free) f n

  ended_after : Ended after_it
  ended_after = record {
    cleared = record {
      once = subst EachOnce (sym (shown_twice p at usable)) (freed_once p.shape (sights p) at (within p at usable) alone);
      no_stray = λ i shows. elim (cases_eq i at) [
        | inl same ↦ (let c : free ≡ stray = sym (shown_here p at usable) ∙ ap (λ k. get_or (sights after_it) k hidden) (sym same) ∙ shows in cc)
        | inr other ↦ ended.cleared.no_stray i (sym (shown_other p at usable i other) ∙ shows)
      ];
    };
    directories = λ d live dir.
        let was : lives (sights p) d ≡ true = sym (lives_stay d) ∙ live in
        subst SlotsReachEnd (sym (bytes_stay d was (not_descriptor d dir))) (ended.directories d was dir);
  }

  used_after : (i : ℕ) → IsUsed p.shape (sights p) i → IsUsed p.shape (sights after_it) i
  used_after i was good = elim (cases_eq i at) [
    | inl same ↦ inl (ap (λ k. get_or (sights after_it) k hidden) same ∙ shown_here p at usable)
    | inr other ↦ aside other (was (ap is_good (sym (shown_other p at usable i other)) ∙ good))
  ]
    where
      aside : i ≢ at → (get_or (sights p) i hidden ≡ free) ⊎ (in_use p.shape (sights p) (i, get_or (sights p) i hidden) ≡ true) → (get_or (sights after_it) i hidden ≡ free) ⊎ (in_use p.shape (sights after_it) (i, get_or (sights after_it) i hidden) ≡ true)
      aside other (inl is) = inl (shown_other p at usable i other ∙ is)
      aside other (inr is) = inr
          (ap (λ s. in_use p.shape (sights after_it) (i, s)) (shown_other p at usable i other)
          ∙ same_in_use p.shape (sights p) (sights after_it) i (get_or (sights p) i hidden) counts_same
          (λ g m has. ap (is_place i) (ap (λ us. place us g m) (shown_twice p at usable) ∙ once_place p.shape (sights p) at (within p at usable) alone i g m other has))
          ∙ is)

pub unused_release_leaves : UnusedReleaseLeaves
unused_release_leaves p at page ended here uncounts = record {
  none = gone p at page ended here uncounts;
  others = other_places p at page ended here uncounts;
  lives_are = lives_stay p at page ended here uncounts;
  bytes_are = bytes_stay p at page ended here uncounts;
  counts_are = counts_same p at page ended here uncounts;
  ended = ended_after p at page ended here uncounts;
  used_here = λ good. inl (shown_here p at (usable p at page ended here uncounts));
  used = used_after p at page ended here uncounts;
}
