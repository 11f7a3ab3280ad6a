-- Releases of sectors while the pages of a pack are mended.
use Rattle.std.proofs.Common.{◌∙◌, ◌≡◌, ◌≢◌, List, None, Some, ap, false, inl, inr, set, sym, true, ℕ}
use Rattle.std.proofs.lemmas.Bool.{cases_eq}
use Rattle.std.specs.Prelude.{cond}
use Rattle.laws_room.specs.alto_words.specs.Fid.{disk_descriptor}
use Rattle.laws_room.specs.disk_records.specs.Commands.{ones, release_writes}
use Rattle.laws_room.specs.disk_records.specs.Labels.{is_free, page_of, tag}
use Rattle.laws_room.specs.disk_records.specs.Packs.{Pack, after, carried, is_free_at, is_usable, sector_at}
use Rattle.laws_room.specs.disk_records.specs.Words.{word}
use Rattle.laws_room.specs.disk_records.specs.declared.records.Sector.{Sector}
use Rattle.laws_room.specs.pack_model.specs.reading.Files.{place}
use Rattle.laws_room.specs.pack_model.specs.reading.Model.{read_as}
use Rattle.laws_room.specs.pack_model.specs.reading.Sights.{sight, sights}
use Rattle.laws_room.specs.pack_model.specs.reading.Sights.Sight.{free, hidden}
use Rattle.laws_room.specs.pack_model.specs.scavenger.Scavenging.{Keeps, Unmarked}
use Rattle.laws_room.specs.pack_model.specs.showing.View.{view}
use Rattle.laws_room.specs.pack_laws.proofs.files.Laws.{places_are_lowest}
use Rattle.laws_room.specs.pack_laws.proofs.Guarding.{carried_parts, free_parts, free_shown, free_unnamed, here_written, ones_free, other_kept, usable_within}
use Rattle.laws_room.specs.laws_contents.proofs.pages.Laws.{carried_once_is_in_place}
use Rattle.laws_room.specs.laws_record.proofs.Recording.{freed_sights}
use Rattle.laws_room.specs.laws_record.proofs.Unseen.{sights_kept}
use Rattle.laws_room.specs.laws_record.proofs.quiet.Laws.{copy_release_reads_same, free_value_reads_same, stray_release_reads_same}
use Rattle.laws_room.specs.laws_record.proofs.views.Laws.{unused_release_views_same}
use Rattle.laws_room.specs.laws_record.specs.QuietLaws.{with_label, with_value}
use Rattle.laws_room.proofs.keeping.Laws.{copy_release_keeps_aside, free_value_keeps_aside, stray_release_keeps_aside, unused_release_keeps_aside}
use Rattle.laws_room.proofs.marks.Laws.{unmarked_stays}
use Rattle.laws_room.specs.KeepLaws.{RootMay}
use Rattle.laws_room.specs.KeepLaws.RootMay.{as_before, made_free}
use Rattle.laws_room.specs.MarkLaws.{mark_page}
use Rattle.laws_room.specs.pack_model.specs.states.Sentences.{EachOnce}
use Rattle.laws_mend.proofs.inside.Counted.{only_carrier, uncounted}
use Rattle.laws_mend.proofs.inside.Joining.{nothing_tends, tends_on}
use Rattle.laws_mend.specs.RunLaws.{CopyReleaseTends, StrayReleaseTends, UnusedReleaseTends}
use Rattle.laws_mend.specs.Tending.{Tends, AllTends}

-- nothing is something
pub some_none : {X : Type 0} {x : X} → None ≡ Some x → ⊥
some_none e = cc

-- a free sector carries nothing
pub none_of_free : (p : Pack) (at : ℕ) → is_free_at p at ≡ true → carried p at ≡ None
none_of_free p at is = let parts = free_parts p at is in ap (λ b. cond b (page_of (sector_at p at).label) None) parts.0 ∙ free_unnamed (sector_at p at).label parts.1

-- a free sector shows the same, whatever its value
pub free_value_shows : (p : Pack) (at : ℕ) (value : List ℕ) → is_free_at p at ≡ true → sights (with_value p at value) ≡ sights p
unfolding sight
free_value_shows p at value is =
    let parts = free_parts p at is in
    sights_kept p at 2 value (ap (λ s. cond (is_usable p.shape at (sector_at p at)) s hidden) (free_shown (tag (sector_at p at).label) value parts.1 ∙ sym (free_shown (tag (sector_at p at).label) (sector_at p at).value parts.1)))

module _ (p : Pack) (at : ℕ) (usable : is_usable p.shape at (sector_at p at) ≡ true) where
  -- the pack with the label, and with the value
  abbrev once : Pack
  once = with_label p at (ones 8)

  abbrev twice : Pack
  twice = after p (release_writes at)

  -- the sector is free from the label on
  pub here_once : sector_at once at ≡ record (sector_at p at) { label = ones 8 }
  here_once = here_written p at 1 (ones 8) (usable_within p at usable)

  usable_once : is_usable p.shape at (sector_at once at) ≡ true
  usable_once = ap (λ (s : Sector). is_usable p.shape at s) here_once ∙ usable

  pub here_twice : sector_at twice at ≡ record (sector_at once at) { value = ones 256 }
  here_twice = here_written once at 2 (ones 256) (usable_within once at usable_once)

  free_once : is_free_at once at ≡ true
  free_once = ap (λ b. cond b (is_free (tag (sector_at once at).label)) false) usable_once ∙ ap (λ (s : Sector). is_free (tag s.label)) here_once ∙ ones_free

  pub free_twice : is_free_at twice at ≡ true
  free_twice = ap (λ (s : Sector). cond (is_usable p.shape at s) (is_free (tag s.label)) false) here_twice ∙ free_once

  -- what is shown then
  pub shown_once : sights once ≡ set (sights p) at free
  shown_once = freed_sights p at (ones 8) usable ones_free

  pub shown_twice : sights twice ≡ set (sights p) at free
  shown_twice = free_value_shows once at (ones 256) free_once ∙ shown_once

  -- every other one is as before
  pub others_once : (i : ℕ) → i ≢ at → sector_at once i ≡ sector_at p i
  others_once i other = other_kept p at 1 (ones 8) i other

  pub others_twice : (i : ℕ) → i ≢ at → sector_at twice i ≡ sector_at once i
  others_twice i other = other_kept once at 2 (ones 256) i other

  page_of_other : (i : ℕ) → i ≢ at → carried once i ≡ carried p i
  page_of_other i other = ap (λ (s : Sector). cond (is_usable p.shape i s) (page_of s.label) None) (others_once i other)

  -- sector 1 is as it was, or free
  root_once : RootMay p once
  root_once = elim (cases_eq 1 at) [
    | inl same ↦ made_free (ap (is_free_at once) same ∙ free_once)
    | inr other ↦ as_before (ap (is_usable p.shape 1) (others_once 1 other)) (page_of_other 1 other)
  ]

  root_twice : RootMay once twice
  root_twice = elim (cases_eq 1 at) [
    | inl same ↦ made_free (ap (is_free_at twice) same ∙ free_twice)
    | inr other ↦ as_before (ap (is_usable p.shape 1) (others_twice 1 other)) (ap (λ (s : Sector). cond (is_usable p.shape 1 s) (page_of s.label) None) (others_twice 1 other))
  ]

  -- the value of a free sector
  second : Tends once twice
  second = record {
    keeps = free_value_keeps_aside once at (ones 256) free_once root_twice;
    viewed = ap view (free_value_reads_same once at (ones 256) free_once);
    unmarked = λ u. unmarked_stays once at 2 (ones 256) u
        (λ is. let c = ((places_are_lowest once mark_page).lowest at is).here in let none = none_of_free once at free_once in absurd (some_none (sym none ∙ c)))
        (λ is. let none = none_of_free twice at free_twice in absurd (some_none (sym none ∙ is)));
  }

  -- a release tends, if its label does
  release_tends : (RootMay p once → Keeps p once) → view (read_as once) ≡ view (read_as p) → (Unmarked p → Unmarked once) → AllTends p (release_writes at)
  release_tends keeps viewed unmarked =
      let first : Tends p once = record { keeps = keeps root_once; viewed = viewed; unmarked = unmarked } in
      (nothing_tends p, (first, tends_on p once twice first second))

  -- a mark stays, if the sector isn't the one that bears it
  unmarked_other : (place (sights p) disk_descriptor 1 ≡ Some at → ⊥) → Unmarked p → Unmarked once
  unmarked_other apart u = unmarked_stays p at 1 (ones 8) u (λ is. absurd (apart is)) (λ is. absurd (some_none (sym (none_of_free once at free_once) ∙ is)))

  -- where no page is carried twice, no other mark page comes to count
  unmarked_alone : EachOnce (sights p) → Unmarked p → Unmarked once
  unmarked_alone alone u k is marked =
      let c : carried once k ≡ Some mark_page = ((places_are_lowest once mark_page).lowest k is).here in
      let apart : k ≢ at = λ same. some_none (sym (none_of_free once at free_once) ∙ ap (carried once) (sym same) ∙ c) in
      u k (carried_once_is_in_place p mark_page k alone (sym (page_of_other k apart) ∙ c)) (ap (λ (s : Sector). word s.value 6) (sym (others_once k apart)) ∙ marked)

-- of a second copy
pub copy_release_tends : CopyReleaseTends
copy_release_tends p at lower page here low less =
    let usable = (carried_parts p at page here).0 in
    release_tends p at usable (copy_release_keeps_aside p at lower page (ones 8) here low less ones_free) (ap view (copy_release_reads_same p at lower page (ones 8) here low less ones_free))
    (unmarked_other p at usable (λ is. let m = (places_are_lowest p mark_page).lowest at is in m.lowest lower less (low ∙ sym here ∙ m.here)))

-- of a label that is neither free nor in range
pub stray_release_tends : StrayReleaseTends
stray_release_tends p at usable none =
    release_tends p at usable (stray_release_keeps_aside p at (ones 8) none ones_free) (ap view (stray_release_reads_same p at (ones 8) none ones_free))
    (unmarked_other p at usable (λ is. some_none (sym none ∙ ((places_are_lowest p mark_page).lowest at is).here)))

-- of a page that doesn't count
pub unused_release_tends : UnusedReleaseTends
unused_release_tends p at page alone here uncounts =
    let usable = (carried_parts p at page here).0 in
    let unused = uncounted p at page here uncounts in
    let only = only_carrier p at page alone here in
    release_tends p at usable (unused_release_keeps_aside p at page (ones 8) here unused only ones_free) (unused_release_views_same p at page (ones 8) here unused only ones_free) (unmarked_alone p at usable alone)
