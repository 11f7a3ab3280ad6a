-- The mark is opened.
use Rattle.std.proofs.Common.{◌≡◌, ◌≢◌, ◌&&◌, ◌==◌, ℕ, suc, ◌+◌, nat_le, nat_lt, Bool, true, false, not, set, List, [], ◌∷◌, ◌++◌, get_or, length, OnOk, Some, Result, Ok, Err, refl, sym, ap, subst, ◌∙◌, eqb-true, arith}
use Rattle.std.specs.FinMap.{entries, get}
use Rattle.std.proofs.lemmas.List.{get_or-set_other, get_or-set_same, length-set}
use Rattle.std.specs.Option.{is_some}
use borrow.Author.Tests.{eqb-false}
use Rattle.disk_records.specs.Addresses.{is_right_header}
use Rattle.alto_words.specs.declared.fid.Fid.{Fid}
use Rattle.alto_words.specs.Fid.{disk_descriptor, is_fid}
use Rattle.disk_records.specs.Commands.{value_writes}
use Rattle.disk_records.specs.Events.{IsFirstOf}
use Rattle.disk_records.specs.declared.records.Event.{Event}
use Rattle.disk_records.specs.declared.records.Event.TheVariants.{Wrote}
use Rattle.disk_records.specs.declared.records.Sector.{Sector}
use Rattle.disk_records.specs.declared.shape.Shape.{Shape}
use Rattle.disk_records.specs.Labels.{tag}
use Rattle.disk_records.specs.Packs.{Pack, after, carried, is_usable, sector_at, with_part}
use Rattle.disk_records.specs.Words.{word}
use Rattle.scav_names.specs.laws_mend.proofs.counting.Laws.{counts_by_its_format}
use Rattle.scav_names.specs.laws_mend.proofs.joins.Laws.{nothing_tends}
use Rattle.scav_names.specs.laws_operation.proofs.places.Laws.{values_keep_places}
use Rattle.scav_names.specs.laws_record.specs.ViewLaws.IsDescriptorPage.{claimed}
use Rattle.scav_names.specs.laws_record.proofs.Recording.{carried_sight}
use Rattle.scav_names.specs.laws_record.proofs.Staying.{FilesStay}
use Rattle.scav_names.specs.laws_record.proofs.SystemWrites.{descriptor_pages}
use Rattle.scav_names.specs.laws_record.proofs.Systemic.{described_get}
use Rattle.scav_names.specs.laws_record.proofs.views.Laws.{descriptor_pages_views_same}
use Rattle.scav_names.specs.laws_room.specs.KeepLaws.RootMay.{as_before}
use Rattle.scav_names.specs.laws_room.proofs.keeping.Laws.{descriptor_pages_keeps_aside}
use Rattle.scav_names.specs.laws_room.proofs.marks.Laws.{opened_is_unmarked, unmarked_is_unclean}
use Rattle.scav_names.specs.pack_laws.proofs.Guarding.{front_from, value_page}
use Rattle.scav_names.specs.pack_laws.proofs.Keys.{same_fid}
use Rattle.scav_names.specs.pack_laws.proofs.Sighted.{sights-write}
use Rattle.pack_model.specs.reading.Files.{lives, numbered, place}
use Rattle.pack_model.specs.reading.Sights.{Sight, page_sight, sight, sights}
use Rattle.pack_model.specs.reading.Sights.Sight.{hidden}
use Rattle.pack_model.specs.scavenger.Reports.{adopted_files, freed_sectors}
use Rattle.pack_model.specs.scavenger.Scavenging.{Keeps, Mends}
use Rattle.pack_model.specs.sessions.Descriptor.{data_pages, opened_value}
use Rattle.pack_model.specs.showing.Settling.{given_names}
use Rattle.pack_model.specs.states.InUse.{counts, how_many, in_use, is_available, is_free_sight, is_good, is_place, is_within, of_page, one_if}
use Rattle.scavenger.specs.Descriptors.{mark_sector}
use Rattle.scavenger.specs.Marks.{MarkOpened}
use Rattle.scavenger.specs.Runs.{AllMend, Opens, mark_writes}
use Rattle.disk_records.specs.Tapes.{Grown, Taped, added, pack}
use Rattle.disk_records.proofs.Growing.{added-twice, grown_twice, nothing_added, pack-after}
use Rattle.scav_pages.specs.declared.errors.Stop.{Stop}
use Rattle.scavenger.proofs.MarkPlaces.{mark_writes_at, no_mark_sector, no_mark_writes, word_put}

-- ---- sectors that are free or in use alike
record IsAlike (s t : Sight) : Type 0 where
  good : is_good t ≡ is_good s
  frees : is_free_sight t ≡ is_free_sight s
  page : (test : Fid → ℕ → Bool) → of_page test t ≡ of_page test s

alike_itself : (s : Sight) → IsAlike s s
alike_itself s = record { good = refl; frees = refl; page = λ test. refl }

alike_pages : (f : Fid) (n a b : ℕ) (x y : List ℕ) → IsAlike (page_sight f (suc n) a x) (page_sight f (suc n) b y)
alike_pages f n a b x y = record { good = refl; frees = refl; page = λ test. refl }

-- as many are free or available, one after another
module _ (shape : Shape) (a b : List Sight) (same_counts : (f : Fid) (n : ℕ) → counts shape b f n ≡ counts shape a f n) (same_places : (f : Fid) (n : ℕ) → place b f n ≡ place a f n) where
  alike_one : (at : ℕ) (s t : Sight) → IsAlike s t → (is_available shape b (at, t) && not (is_free_sight t)) ≡ (is_available shape a (at, s) && not (is_free_sight s))
  alike_one at s t like =
      let uses : in_use shape b (at, t) ≡ in_use shape a (at, s) = (λ i. of_page (λ f n. same_counts f n i && is_place at (same_places f n i)) t) ∙ like.page (λ f n. counts shape a f n && is_place at (place a f n)) in
      λ i. (like.good i && not (uses i)) && not (like.frees i)

  alike_many : (from : ℕ) (ss ts : List Sight) → length ts ≡ length ss → ((i : ℕ) → IsAlike (get_or ss i hidden) (get_or ts i hidden)) → how_many (λ e. is_available shape b e && not (is_free_sight e.1)) (numbered from ts) ≡ how_many (λ e. is_available shape a e && not (is_free_sight e.1)) (numbered from ss)
  alike_many from [] [] size like = refl
  alike_many from [] (t ∷ ts) size like = absurd (omega (arith, size))
  alike_many from (s ∷ ss) [] size like = absurd (omega (arith, size))
  alike_many from (s ∷ ss) (t ∷ ts) size like =
      let rest = alike_many (suc from) ss ts (omega (arith, size)) (λ i. like (suc i)) in
      (λ i. one_if (alike_one from s t (like 0) i) + rest i)

-- ---- the record write
module _ (p : Pack) (at : ℕ) (value : List ℕ) (here : carried p at ≡ Some (record { fid = disk_descriptor; number = 1 })) where
  abbrev written : Pack
  written = after p (Wrote at 2 value ∷ [])

  carried_as : (i : ℕ) → carried written i ≡ carried p i
  carried_as i = value_page p at value i

  there : carried written at ≡ Some (record { fid = disk_descriptor; number = 1 })
  there = carried_as at ∙ here

  files : FilesStay p written
  files = descriptor_pages p at 2 value (claimed 0 here) (claimed 0 there)

  -- the same files live, each with its pages
  living_as : (f : Fid) → lives (sights written) f ≡ lives (sights p) f
  living_as f = ap is_some (files.leaders f)

  counts_as : (f : Fid) (n : ℕ) → counts p.shape (sights written) f n ≡ counts p.shape (sights p) f n
  counts_as f n = by (is_fid f disk_descriptor) refl
    where
      by : (t : Bool) → is_fid f disk_descriptor ≡ t → counts p.shape (sights written) f n ≡ counts p.shape (sights p) f n
      by true e =
          ap (λ g. counts p.shape (sights written) g n) (same_fid f disk_descriptor e)
          ∙ counts_by_its_format written n
          ∙ ap (λ b. b && nat_le n (data_pages p.shape)) (living_as disk_descriptor)
          ∙ sym (counts_by_its_format p n)
          ∙ ap (λ g. counts p.shape (sights p) g n) (sym (same_fid f disk_descriptor e))
      by false e = ap (is_within p.shape f n) (sym (described_get (sights written) f e) ∙ ap (λ m. get m f) files.files ∙ described_get (sights p) f e)

  places_as : (f : Fid) (n : ℕ) → place (sights written) f n ≡ place (sights p) f n
  places_as f n = (values_keep_places p ((at, value) ∷ [])).places f n

  -- each sector shows the same but for bytes of that page
  shows_alike : (i : ℕ) → IsAlike (get_or (sights p) i hidden) (get_or (sights written) i hidden)
  shows_alike i = by (i == at) refl
    where
      by : (t : Bool) → (i == at) ≡ t → IsAlike (get_or (sights p) i hidden) (get_or (sights written) i hidden)
      by true e =
          let same : i ≡ at = eqb-true i at e in
          subst (λ k. IsAlike (get_or (sights p) k hidden) (get_or (sights written) k hidden)) (sym same)
          (subst (λ s. IsAlike s (get_or (sights written) at hidden)) (sym (carried_sight p at (record { fid = disk_descriptor; number = 1 }) here))
          (subst (λ s. IsAlike (page_sight disk_descriptor 1 (tag (sector_at p at).label).bytes (sector_at p at).value) s) (sym (carried_sight written at (record { fid = disk_descriptor; number = 1 }) there))
          (alike_pages disk_descriptor 0 (tag (sector_at p at).label).bytes (tag (sector_at written at).label).bytes (sector_at p at).value (sector_at written at).value)))
      by false e =
          let other : i ≢ at = eqb-false i at e in
          subst (λ s. IsAlike (get_or (sights p) i hidden) s) (sym (ap (λ ss. get_or ss i hidden) (sights-write p at 2 value) ∙ get_or-set_other (sights p) at i (sight p.shape at (with_part 2 value (sector_at p at))) hidden other)) (alike_itself (get_or (sights p) i hidden))

  freed_as : freed_sectors p.shape (sights written) ≡ freed_sectors p.shape (sights p)
  freed_as = alike_many p.shape (sights p) (sights written) counts_as places_as 0 (sights p) (sights written) (ap length (sights-write p at 2 value) ∙ length-set (sights p) at (sight p.shape at (with_part 2 value (sector_at p at)))) shows_alike

  adopted_as : adopted_files written ≡ adopted_files p
  adopted_as = ap (λ v. length (given_names v.names (entries v.files))) (descriptor_pages_views_same p at 2 value (claimed 0 here) (claimed 0 there))

  usable_as : is_usable p.shape 1 (sector_at written 1) ≡ is_usable p.shape 1 (sector_at p 1)
  usable_as = let front = front_from p.sectors at 1 value in λ j. nat_lt 0 1 && is_right_header p.shape 1 (front.0 j)

  keeps_as : Keeps p written
  keeps_as = descriptor_pages_keeps_aside p at 2 value (claimed 0 here) (claimed 0 there) (as_before usable_as (carried_as 1))

  -- what it leaves, with another mark than the clean one
  module _ (placed : place (sights p) disk_descriptor 1 ≡ Some at) (other : word value 6 ≢ 1) where
    pub mark_opened : MarkOpened p written
    mark_opened = record { keeps = keeps_as; unmarked = opened_is_unmarked p at value placed other; freed = freed_as; adopted = adopted_as }

    pub mark_mends : (events : List Event) → IsFirstOf (value_writes at value) events → AllMend p events
    mark_mends [] first = tt
    mark_mends (e ∷ []) first = subst (λ x. Mends p (after p (x ∷ []))) (sym first.0) (record { keeps = keeps_as; unclean = unmarked_is_unclean written (opened_is_unmarked p at value placed other) })
    mark_mends (e ∷ d ∷ events) first = absurd first.1

-- where no sector has it nothing is written
pub mark_absent : (p : Pack) → mark_sector p ≡ 0 → MarkOpened p p
mark_absent p none = record {
  keeps = (nothing_tends p).keeps;
  unmarked = λ at is mark. no_mark_sector p at none is;
  freed = refl;
  adopted = refl;
}

-- another mark
pub opened_mark : (value : List ℕ) → length value ≡ 256 → word (set value 6 2) 6 ≢ 1
opened_mark value size is = let two = get_or-set_same value 6 2 0 (omega (arith, size)) in omega (arith, two, is)

-- and no other word changes
pub only_mark : {buffer sector : Sector} → length buffer.value ≡ 256 → buffer ≡ sector → set buffer.value 6 2 ≡ opened_value sector.value
only_mark {buffer} size holds = word_put 6 2 buffer.value (omega (arith, size)) ∙ ap (λ (s : Sector). opened_value s.value) holds

-- ---- on a machine
pub opens_none : (a : Taped) → mark_sector (pack a) ≡ 0 → Opens {T = Unit {0}} {E = Stop} a a (Ok tt)
opens_none a none = record {
  some = subst (IsFirstOf (mark_writes (pack a))) (sym (nothing_added a.events)) tt;
  ok = nothing_added a.events ∙ sym (no_mark_writes (pack a) none);
  mends = subst (AllMend (pack a)) (sym (nothing_added a.events)) tt;
  opened = mark_absent (pack a) none;
}

pub opens_wrote : {a b c : Taped} (result : Result (Unit {0}) Stop) (at : ℕ) (value : List ℕ) → Grown a b → Grown b c → added a b ≡ [] → carried (pack a) at ≡ Some (record { fid = disk_descriptor; number = 1 }) → place (sights (pack a)) disk_descriptor 1 ≡ Some at → value ≡ opened_value (sector_at (pack a) at).value → word value 6 ≢ 1
    → IsFirstOf (value_writes at value) (added b c) → OnOk result (added b c ≡ value_writes at value) → Opens a c result
opens_wrote {a} {b} {c} result at value before now silent here placed is other first done = record {
  some = subst (IsFirstOf (mark_writes (pack a))) (sym same) (subst (λ l. IsFirstOf l (added b c)) (sym all) first);
  ok = whole result done;
  mends = subst (AllMend (pack a)) (sym same) (mark_mends (pack a) at value here placed other (added b c) first);
  opened = by result done;
}
  where
    same : added a c ≡ added b c
    same = added-twice before now ∙ ap (λ l. l ++ added b c) silent

    all : mark_writes (pack a) ≡ value_writes at value
    all = mark_writes_at (pack a) at placed ∙ ap (value_writes at) (sym is)

    whole : (r : Result (Unit {0}) Stop) → OnOk r (added b c ≡ value_writes at value) → OnOk r (added a c ≡ mark_writes (pack a))
    whole (Ok v) wrote = same ∙ wrote ∙ sym all
    whole (Err e) wrote = tt

    by : (r : Result (Unit {0}) Stop) → OnOk r (added b c ≡ value_writes at value) → OnOk r (MarkOpened (pack a) (pack c))
    by (Ok v) wrote = subst (MarkOpened (pack a)) (sym (pack-after (grown_twice before now) ∙ ap (after (pack a)) (same ∙ wrote))) (mark_opened (pack a) at value here placed other)
    by (Err e) wrote = tt
