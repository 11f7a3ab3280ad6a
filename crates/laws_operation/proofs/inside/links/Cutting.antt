-- A cut.
use Rattle.std.proofs.Common.{List, None, Option, Some, [], ap, arith, get_or, inl, inr, length, min, refl, subst, suc, sym, take, zero, ℕ, ◌%◌, ◌/◌, ◌<◌, ◌∙◌, ◌∷◌, ◌≡◌, ◌≢◌, ◌≤◌}
use Rattle.std.proofs.lemmas.Bool.{cases_eq, cases_lt, lt-ltb}
use Rattle.std.proofs.lemmas.List.{length-take}
use Rattle.laws_contents.specs.alto_words.specs.declared.fid.Fid.{Fid}
use Rattle.laws_contents.specs.disk_records.specs.Commands.{relabel_writes}
use Rattle.laws_contents.specs.disk_records.specs.Labels.{page_of, tag}
use Rattle.laws_contents.specs.disk_records.specs.Packs.{Pack, after, carried, sector_at}
use Rattle.laws_contents.specs.disk_records.specs.Words.{word}
use Rattle.laws_contents.specs.disk_records.specs.declared.records.Event.{Event}
use Rattle.laws_contents.specs.disk_records.specs.declared.records.Page.{Page}
use Rattle.laws_contents.specs.pack_model.specs.reading.Bytes.{bytes_of}
use Rattle.laws_contents.specs.pack_model.specs.operations.Commands.{cut_label, releases_writes}
use Rattle.laws_contents.specs.pack_model.specs.operations.Committing.{page_of_byte}
use Rattle.laws_contents.specs.pack_model.specs.reading.Files.{place}
use Rattle.laws_contents.specs.pack_model.specs.hints.Links.{LinksTrue, link_to, no_link}
use Rattle.laws_contents.specs.pack_model.specs.operations.Operations.{cut_writes}
use Rattle.laws_contents.specs.pack_model.specs.operations.PageWords.{page_number}
use Rattle.laws_contents.specs.pack_model.specs.reading.Sights.{Sight, sights}
use Rattle.laws_contents.specs.pack_model.specs.reading.Sights.Sight.{hidden, holds}
use Rattle.laws_contents.specs.pack_model.specs.states.Whole.{Tidy, Whole}
use Rattle.laws_contents.specs.pack_laws.proofs.Guarding.{carried_parts}
use Rattle.laws_contents.specs.pack_laws.proofs.Placing.{one_page}
use Rattle.laws_contents.specs.pack_laws.proofs.Sighted.{length-sights}
use Rattle.laws_contents.specs.laws_record.proofs.Copying.{place_carried}
use Rattle.laws_contents.specs.laws_record.proofs.Recording.{carried_sight, carried_within}
use Rattle.laws_contents.specs.laws_record.proofs.Carried.{carried_place}
use Rattle.laws_operation.proofs.Cutting.{cut_law}
use Rattle.laws_operation.specs.ByteLaws.{Bear, MayCut}
use Rattle.laws_operation.proofs.inside.links.Ending.{none_later}
use Rattle.laws_operation.proofs.inside.links.Framing.{AllConcern, concern_join, places_alike}
use Rattle.laws_operation.proofs.inside.links.Linked.{FileLinks, file_links}
use Rattle.laws_operation.proofs.inside.links.OneFile.{old_linked, ordinary_true}
use Rattle.laws_operation.proofs.inside.links.Records.{carried_same}
use Rattle.laws_operation.proofs.inside.links.Relabelled.{relabel_apart, relabel_carried, relabel_concern, relabel_here, relabel_label, relabel_of}
use Rattle.laws_operation.proofs.inside.links.Releases.{EachOf, NoneOf, bear_of, releases_apart, releases_concern, releases_same}
use Rattle.laws_operation.proofs.inside.links.Values.{of_carried}
use Rattle.laws_operation.specs.LinkLaws.{CutKeepsLinks}

-- an earlier page is none of those in a row
bear_none : (ss : List Sight) (f : Fid) (n : ℕ) (ats : List ℕ) → Bear ss f n ats → (m i : ℕ) → m < n → place ss f m ≡ Some i → NoneOf i ats
bear_none ss f n [] h m i l e = tt
bear_none ss f n (at ∷ ats) h m i l e = (
  λ same. let one = (one_page ss f f m n at (e ∙ ap Some same) h.0).1 in omega arith,
  bear_none ss f (suc n) ats h.1 m i (omega arith) e,
)

-- sectors in a row are of f once a page has another label
each_relabelled : (p : Pack) (at : ℕ) (label value : List ℕ) (f : Fid) → ((x : Page) → page_of label ≡ Some x → x.fid ≡ f) → (ats : List ℕ) → EachOf f p ats → EachOf f (after p (relabel_writes at label value)) ats
each_relabelled p at label value f names [] h = tt
each_relabelled p at label value f names (i ∷ ats) h = (relabel_of p at label value f names i h.0, each_relabelled p at label value f names ats h.1)

module _ (p : Pack) (wp : Whole p) (tp : Tidy p) (f : Fid) (n at : ℕ) (label later : List ℕ) (h : MayCut p f n at label later) where
  -- the pack once the label is written, and at the end
  abbrev middle : Pack
  middle = after p (relabel_writes at label (sector_at p at).value)

  -- its record writes
  abbrev events : List Event
  events = cut_writes at label (sector_at p at).value later

  -- the page that becomes the last
  abbrev x : Page
  x = page_number f (page_of_byte n)

  -- the pack is whole at the end
  whole_then : Whole (after p (cut_writes at label (sector_at p at).value later))
  whole_then = (cut_law p wp tp f h.file n at label later h).meets.whole

  -- the sector carries the page before and after
  was : carried p at ≡ Some (page_number f (page_of_byte n))
  was = place_carried p (page_number f (page_of_byte n)) at h.sector

  -- the label names a page of the file
  names : (y : Page) → page_of label ≡ Some y → y.fid ≡ f
  names y e = let both : Some (page_number f (page_of_byte n)) ≡ Some y = sym h.page ∙ e in let one : page_number f (page_of_byte n) ≡ y = cc in ap (λ z. z.fid) (sym one)

  -- all of it concerns the file
  pub cut_concerns : AllConcern f p (cut_writes at label (sector_at p at).value later)
  cut_concerns = concern_join f p (relabel_writes at label (sector_at p at).value) (releases_writes later)
      (relabel_concern p at label (sector_at p at).value f names (of_carried f (page_of_byte n) p at was))
      (releases_concern f later middle (each_relabelled p at label (sector_at p at).value f names later (bear_of p f (suc (page_of_byte n)) later h.later_are)))

  -- the sector isn't released
  none_at : NoneOf at later
  none_at = bear_none (sights p) f (suc (page_of_byte n)) later h.later_are (page_of_byte n) at (omega arith) h.sector

  -- it has the label
  pub label_is : (sector_at (after p (cut_writes at label (sector_at p at).value later)) at).label ≡ label
  label_is = ap (λ s. s.label) (releases_apart later middle at none_at)
      ∙ relabel_label p at label (sector_at p at).value (subst (λ k. at < k) (length-sights p) (carried_within p at (page_number f (page_of_byte n)) was))

  -- and carries the page
  carried_then : carried (after p (cut_writes at label (sector_at p at).value later)) at ≡ Some (page_number f (page_of_byte n))
  carried_then = carried_same middle (after p events) at refl (releases_apart later middle at none_at) ∙ relabel_here p at label (sector_at p at).value x (carried_parts p at x was).0 h.page

  -- what is carried then was carried
  back : (m i : ℕ) → carried (after p (cut_writes at label (sector_at p at).value later)) i ≡ Some (page_number f m) → carried p i ≡ Some (page_number f m)
  back m i is =
      let y : Page = page_number f m in
      let same : sector_at (after p events) i ≡ sector_at middle i = releases_same later middle i y is in
      elim (relabel_carried p at label (sector_at p at).value i y (sym (carried_same middle (after p events) i refl same) ∙ is)) [
        | inl new ↦ ap (carried p) new.0 ∙ was ∙ sym h.page ∙ new.1
        | inr old ↦ old
      ]

  -- the pages up to the last are carried still
  forth : (m i : ℕ) → m ≤ page_of_byte n → carried p i ≡ Some (page_number f m) → carried (after p (cut_writes at label (sector_at p at).value later)) i ≡ Some (page_number f m)
  forth m i l is = elim (cases_eq i at) [
    | inl e ↦ ap (carried (after p events)) e ∙ carried_then ∙ sym was ∙ ap (carried p) (sym e) ∙ is
    | inr ne ↦ carried_same p (after p events) i refl (stays m i l is ne) ∙ is
  ]
    where
      stays : (m i : ℕ) → m ≤ page_of_byte n → carried p i ≡ Some (page_number f m) → i ≢ at → sector_at (after p (cut_writes at label (sector_at p at).value later)) i ≡ sector_at p i
      stays m i l is ne =
          releases_apart later middle i (bear_none (sights p) f (suc (page_of_byte n)) later h.later_are m i (omega arith) (carried_place p wp i (page_number f m) is))
          ∙ relabel_apart p at label (sector_at p at).value i ne

  -- so they have the same places
  pub same_places : (m : ℕ) → m ≤ page_of_byte n → place (sights (after p (cut_writes at label (sector_at p at).value later))) f m ≡ place (sights p) f m
  same_places m l = places_alike p (after p events) wp whole_then (page_number f m) (λ i is. forth m i l is) (back m)

  -- and those before the last their words
  pub same_front : (m i : ℕ) → m < page_of_byte n → place (sights p) f m ≡ Some i → (sector_at (after p (cut_writes at label (sector_at p at).value later)) i).label ≡ (sector_at p i).label
  same_front m i l e =
      let ne : i ≢ at = λ same. let one = (one_page (sights p) f f m (page_of_byte n) at (e ∙ ap Some same) h.sector).1 in omega arith in
      ap (λ s. s.label) (releases_apart later middle i (bear_none (sights p) f (suc (page_of_byte n)) later h.later_are m i (omega arith) e) ∙ relabel_apart p at label (sector_at p at).value i ne)

  -- no page comes after the last
  pub ends_there : (m j : ℕ) → page_of_byte n < m → place (sights (after p (cut_writes at label (sector_at p at).value later))) f m ≡ Some j → ⊥
  ends_there zero j l e = omega arith
  ends_there (suc m) j l e =
      let s = sector_at (after p events) at in
      let bytes : List ℕ = take (tag s.label).bytes (bytes_of s.value) in
      let shows : get_or (sights (after p events)) at hidden ≡ holds f (n / 512) bytes = carried_sight (after p events) at x carried_then in
      let count : (tag s.label).bytes ≡ n % 512 = ap (λ w. (tag w).bytes) label_is ∙ h.count in
      let size : length bytes ≡ min (tag s.label).bytes (length (bytes_of s.value)) = length-take (tag s.label).bytes (bytes_of s.value) in
      let few : length bytes < 512 = omega (arith, count, size) in
      none_later (sights (after p events)) f (n / 512) at bytes (whole_then.files f) shows (lt-ltb (length bytes) 512 few) m j (omega arith) e

  -- links are true again
  pub cut_true : word label 0 ≡ no_link → word label 1 ≡ word (sector_at p at).label 1 → LinksTrue p → LinksTrue (after p (cut_writes at label (sector_at p at).value later))
  cut_true next previous links =
      let q : Pack = after p events in
      let after_last : place (sights q) f (suc (page_of_byte n)) ≡ None = none_of (place (sights q) f (suc (page_of_byte n))) (λ j e. ends_there (suc (page_of_byte n)) j (omega arith) e) in
      let mine : FileLinks q f = λ m i e. elim (cases_lt (page_of_byte n) m) [
        | inl more ↦ absurd (ends_there m i more e)
        | inr l ↦ old_linked p f events (page_of_byte n) at same_places same_front h.sector (ap (λ w. word w 0) label_is ∙ next ∙ ap (link_to p.shape) (sym after_last)) (ap (λ w. word w 1) label_is ∙ previous) (file_links p wp links.pages f) m i l e
      ] in
      ordinary_true p f events wp whole_then cut_concerns tp (cut_law p wp tp f h.file n at label later h).meets.tidy h.file.no_directory (λ a e. same_places 0 (omega arith) ∙ e) mine links
    where
      none_of : (r : Option ℕ) → ((j : ℕ) → r ≡ Some j → ⊥) → r ≡ None
      none_of None never = refl
      none_of (Some j) never = absurd (never j refl)

-- a cut
pub cut_keeps_links : CutKeepsLinks
cut_keeps_links p f n at later w t h = cut_true p w t f n at (cut_label n (sector_at p at).label) later h refl refl
