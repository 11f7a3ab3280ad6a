-- A scavenge from its first record write to its last.
use Rattle.std.proofs.Common.{◌≡◌, ◌⊎◌, inl, inr, ◌&&◌, ◌||◌, ℕ, suc, ◌/◌, ◌<◌, ◌≤◌, nat_lt, Bool, true, false, cond, max, map, not, List, [], ◌∷◌, ◌++◌, get_or, length, reverse, Option, Some, None, Result, Ok, refl, sym, ap, subst, ◌∙◌, append_assoc, arith}
use Rattle.std.specs.FinMap.{entries, find, get, get-entries, get-retain_keys}
use Rattle.std.proofs.lemmas.Bool.{cases_lt}
use Rattle.std.proofs.lemmas.List.{reverse-append}
use Rattle.scav_names.specs.laws_operation.proofs.EnterMoves.{values-append}
use Rattle.scav_names.specs.laws_record.proofs.Reading.{get-found, read_file}
use Rattle.scav_names.specs.pack_laws.proofs.Keys.{fid_same, fid_total, same_fid}
use Rattle.scav_names.specs.pack_laws.proofs.Mapping.{get-map_values}
use Rattle.pack_model.specs.reading.Bodies.{File, found}
use Rattle.pack_model.specs.reading.Leaders.{Leader}
use Rattle.pack_model.specs.sessions.Maps.{map_values}
use Rattle.std.specs.List.{range_with_len}
use Rattle.std.specs.Option.{is_some, option_map, option_map_or}
use Rattle.std.proofs.lemmas.List.FromFn.{get_or-map-range_with_len, length-map-range_with_len}
use Rattle.alto_words.specs.declared.fid.Fid.{Fid}
use Rattle.alto_words.specs.Fid.{disk_descriptor, fid_cmp, is_fid, is_system, serial_of, sys_dir}
use Rattle.disk_records.specs.Addresses.{is_right_header}
use Rattle.disk_records.specs.Events.{IsFirstOf}
use Rattle.disk_records.specs.declared.records.Event.{Event}
use Rattle.disk_records.specs.declared.records.Event.TheVariants.{Wrote}
use Rattle.disk_records.specs.declared.records.Page.{Page}
use Rattle.disk_records.specs.declared.shape.Shape.{Shape}
use Rattle.disk_records.specs.Packs.{AreFormed, Pack, after, carried, is_usable, sector_at}
use Rattle.disk_records.specs.Tapes.{Grown, Taped, added, pack}
use Rattle.disk_records.proofs.Growing.{added-twice, after-append, grown_twice, pack-after}
use Rattle.std.specs.Prelude.{IsErrAnd}
use Rattle.scav_pages.proofs.Doing.{error_is}
use Rattle.scavenger.specs.declared.counts.Counts.{Counts}
use Rattle.scavenger.specs.declared.errors.Report.{Report}
use Rattle.scavenger.specs.declared.errors.ScavError.{ScavError}
use Rattle.scavenger.specs.Scavenges.{MendsAll}
use Rattle.scavenger.specs.Answers.{error_of_stop, error_of_sweep, refusal_in}
use Rattle.scav_pages.specs.declared.errors.Stop.{Stop}
use Rattle.scav_pages.specs.declared.errors.Stop.TheVariants as stop
use Rattle.scav_table.specs.declared.errors.SweepError.{SweepError}
use Rattle.scav_table.specs.declared.errors.SweepError.TheVariants as sweep
use Rattle.scav_names.specs.laws_contents.proofs.ends.Laws.{each_file_has_its_end}
use Rattle.scav_names.specs.laws_contents.proofs.pages.Laws.{formed_pages_have_256_words}
use Rattle.scav_names.specs.laws_mend.specs.ClosingLaws.{IsDescribedSound, MayBeDescribed}
use Rattle.scav_names.specs.laws_mend.proofs.closing.Laws.{described_is_sound}
use Rattle.scav_names.specs.laws_mend.proofs.joins.Laws.{nothing_tends}
use Rattle.scav_names.specs.laws_mend.proofs.numbers.Laws.{used_available_is_free}
use Rattle.scav_names.specs.laws_mend.proofs.parts.Laws.{whole_is_lasting}
use Rattle.scav_names.specs.laws_operation.proofs.places.Laws.{model_has_the_living}
use Rattle.scav_names.specs.laws_record.specs.ViewLaws.IsDescriptorPage.{claimed}
use Rattle.scav_names.specs.laws_record.proofs.Chaining.{at_end, broken_off, keeps_trans, run_on, throughout_map}
use Rattle.scav_names.specs.laws_record.proofs.Copying.{place_carried}
use Rattle.scav_names.specs.laws_room.specs.KeepLaws.RootMay.{as_before}
use Rattle.scav_names.specs.laws_room.proofs.keeping.Laws.{descriptor_pages_keeps_aside}
use Rattle.scav_names.specs.laws_room.proofs.marks.Laws.{unmarked_is_unclean, unmarked_stays}
use Rattle.scav_names.specs.laws_room.proofs.rooms.Laws.{sound_needs_nothing}
use Rattle.scav_names.specs.pack_laws.proofs.Guarding.{front_from, value_page}
use Rattle.pack_model.specs.hints.Tables.{free_table}
use Rattle.pack_model.specs.operations.Commands.{values_writes}
use Rattle.pack_model.specs.reading.Files.{file_bytes, leader, lives, place}
use Rattle.pack_model.specs.reading.Model.{read_as}
use Rattle.pack_model.specs.reading.Sights.{sights}
use Rattle.pack_model.specs.scavenger.Reports.{NamesMended, Scavenged, greatest_serial, mended_serial}
use Rattle.pack_model.specs.scavenger.Scavenging.{Keeps, Mends, Throughout, Unmarked}
use Rattle.pack_model.specs.sessions.Descriptor.{closed_values, data_pages, descriptor_value}
use Rattle.pack_model.specs.showing.Settling.{settle, show}
use Rattle.pack_model.specs.showing.View.{seen_of, view}
use Rattle.pack_model.specs.states.Sound.{Clean, mark_clean}
use Rattle.scavenger.specs.Describing.{IsDescriptorIn}
use Rattle.scavenger.specs.Runs.{AllMend, EndsIt, Opens, OpensMark, ScavengeWrites}
use Rattle.scavenger.proofs.MarkPlaces.{opens_then}
use Rattle.scavenger.specs.Runs.ScavengeWrites.{all as all_of, some as some_of}

-- ---- runs
-- two properties of each crash point
run_both : (P Q : Pack → Type 0) (p : Pack) (events : List Event) → Throughout P p events → Throughout Q p events → Throughout (λ q. P q × Q q) p events
run_both P Q p [] r s = (r, s)
run_both P Q p (e ∷ events) r s = ((r.0, s.0), run_both P Q (after p (e ∷ [])) events r.1 s.1)

-- ---- what a scavenge keeps, on and on
pub mending : (p q : Pack) (events : List Event) → Keeps p q → Throughout (Keeps q) q events → Throughout (λ r. Clean r → ⊥) q events → Throughout (Mends p) q events
mending p q events k keeps unclean = throughout_map (λ r. Keeps q r × (Clean r → ⊥)) (Mends p) (λ r both. record { keeps = keeps_trans p q r k both.0; unclean = both.1 }) q events (run_both (Keeps q) (λ r. Clean r → ⊥) q events keeps unclean)

pub all_on : (p : Pack) (xs ys : List Event) → AllMend p xs → Throughout (Mends p) (after p xs) ys → AllMend p (xs ++ ys)
all_on p [] [] a r = tt
all_on p [] (e ∷ ys) a r = r.1
all_on p (e ∷ xs) ys a r = run_on (Mends p) (after p (e ∷ [])) xs ys a r

-- ---- values of DiskDescriptor's later pages
-- what is kept, and the mark that isn't clean; every sector carries what it carried
pub record StandsBy (p q : Pack) : Type 0 where
  pub shape : q.shape ≡ p.shape
  pub keeps : Keeps p q
  pub unmarked : Unmarked q
  pub pages : (i : ℕ) → carried q i ≡ carried p i

-- these are sectors of data pages after the first
abbrev pub AreLater : Pack → List (ℕ × List ℕ) → Type 0
AreLater p [] = Unit {0}
AreLater p (v ∷ vs) = ((n : ℕ) × (carried p v.0 ≡ Some (record { fid = disk_descriptor; number = suc (suc n) }))) × AreLater p vs

usable_after : (p : Pack) (at : ℕ) (value : List ℕ) → is_usable p.shape 1 (sector_at (after p (Wrote at 2 value ∷ [])) 1) ≡ is_usable p.shape 1 (sector_at p 1)
usable_after p at value = let front = front_from p.sectors at 1 value in λ j. nat_lt 0 1 && is_right_header p.shape 1 (front.0 j)

value_keeps : (p : Pack) (at n : ℕ) (value : List ℕ) → carried p at ≡ Some (record { fid = disk_descriptor; number = suc n }) → Keeps p (after p (Wrote at 2 value ∷ []))
value_keeps p at n value here = descriptor_pages_keeps_aside p at 2 value (claimed n here) (claimed n (value_page p at value at ∙ here)) (as_before (usable_after p at value) (value_page p at value 1))

abbrev its_page : ℕ → Page
its_page k = record { fid = disk_descriptor; number = k }

one_later : (p : Pack) (at n : ℕ) (value : List ℕ) → carried p at ≡ Some (record { fid = disk_descriptor; number = suc (suc n) }) → Unmarked p → StandsBy p (after p (Wrote at 2 value ∷ []))
one_later p at n value here unmarked = record {
  shape = refl;
  keeps = value_keeps p at (suc n) value here;
  unmarked = unmarked_stays p at 2 value unmarked
      (λ is. absurd (other (sym here ∙ place_carried p (record { fid = disk_descriptor; number = 1 }) at is)))
      (λ is. absurd (other (sym here ∙ sym (value_page p at value at) ∙ is)));
  pages = value_page p at value;
}
  where
    other : Some (its_page (suc (suc n))) ≡ Some (its_page 1) → ⊥
    other e = let same : suc (suc n) ≡ 1 = ap (λ o. option_map_or (λ (x : Page). x.number) o 0) e in omega (arith, same)

stands_on : (p q r : Pack) → StandsBy p q → StandsBy q r → StandsBy p r
stands_on p q r a b = record { shape = b.shape ∙ a.shape; keeps = keeps_trans p q r a.keeps b.keeps; unmarked = b.unmarked; pages = λ i. b.pages i ∙ a.pages i }

later_writes : (p q : Pack) (values : List (ℕ × List ℕ)) → AreLater p values → StandsBy p q → Throughout (StandsBy p) q (values_writes values)
later_writes p q [] later s = s
later_writes p q (v ∷ values) later s = (s, later_writes p (after q (Wrote v.0 2 v.1 ∷ [])) values later.1 (stands_on p q (after q (Wrote v.0 2 v.1 ∷ [])) s (one_later q v.0 later.0.0 v.1 (s.pages v.0 ∙ later.0.1) s.unmarked)))

later_append : (p : Pack) (xs ys : List (ℕ × List ℕ)) → AreLater p xs → AreLater p ys → AreLater p (xs ++ ys)
later_append p [] ys a b = b
later_append p (x ∷ xs) ys a b = (a.0, later_append p xs ys a.1 b)

later_reverse : (p : Pack) (xs : List (ℕ × List ℕ)) → AreLater p xs → AreLater p (reverse xs)
later_reverse p [] a = a
later_reverse p (x ∷ xs) a = subst (AreLater p) (sym (reverse-append (x ∷ []) xs)) (later_append p (reverse xs) (x ∷ []) (later_reverse p xs a.1) (a.0, tt))

closed_later : (p : Pack) (last : ℕ) (busy : List Bool) (n : ℕ) (pages : List ℕ) → ((k : ℕ) → k < length pages → (m : ℕ) × (carried p (get_or pages k 0) ≡ Some (record { fid = disk_descriptor; number = suc (suc m) }))) → AreLater p (closed_values p.shape last busy n pages)
closed_later p last busy n [] each = tt
closed_later p last busy n (at ∷ pages) each = (each 0 (omega arith), closed_later p last busy (suc n) pages (λ k few. each (suc k) (omega arith)))

-- ---- the last record write
abbrev pub closing : Shape → ℕ → List Bool → List ℕ → List Event
closing shape last busy pages = values_writes (reverse (closed_values shape last busy 0 pages))

closing_splits : (shape : Shape) (last : ℕ) (busy : List Bool) (at : ℕ) (rest : List ℕ) → closing shape last busy (at ∷ rest) ≡ values_writes (reverse (closed_values shape last busy 1 rest)) ++ Wrote at 2 (descriptor_value shape last mark_clean busy 0) ∷ []
closing_splits shape last busy at rest =
    ap values_writes (reverse-append ((at, descriptor_value shape last mark_clean busy 0) ∷ []) (closed_values shape last busy 1 rest))
    ∙ values-append (reverse (closed_values shape last busy 1 rest)) ((at, descriptor_value shape last mark_clean busy 0) ∷ [])

first_or_all : (before : List Event) (w : Event) (xs : List Event) → IsFirstOf (before ++ w ∷ []) xs → IsFirstOf before xs ⊎ (xs ≡ before ++ w ∷ [])
first_or_all [] w [] first = inl tt
first_or_all [] w (e ∷ []) first = inr (ap (λ x. x ∷ []) first.0)
first_or_all [] w (e ∷ d ∷ xs) first = absurd first.1
first_or_all (b ∷ before) w [] first = inl tt
first_or_all (b ∷ before) w (e ∷ xs) first = elim (first_or_all before w xs first.1) [
  | inl some ↦ inl (first.0, some)
  | inr all ↦ inr (λ i. first.0 i ∷ all i)
]

-- ---- the files that live in the end
shown_lives : (p : Pack) (f : Fid) → is_system f ≡ false → is_some (get (show p).files f) ≡ lives (sights p) f
unfolding settle view
shown_lives p f own =
    ap is_some (get-retain_keys (map_values seen_of (read_as p).files) (λ g. not (is_system g)) f (λ x t. ap (λ g. not (is_system g)) (sym (fid_same f x t))))
    ∙ ap (λ b. is_some (cond (not b) (get (map_values seen_of (read_as p).files) f) None)) own
    ∙ ap is_some (get-map_values fid_total fid_same seen_of (read_as p).files f)
    ∙ same (get (read_as p).files f)
    ∙ model_has_the_living p f (right (is_fid f sys_dir) (is_fid f disk_descriptor) own)
  where
    same : (o : Option File) → is_some (option_map (seen_of f) o) ≡ is_some o
    same None = refl
    same (Some x) = refl

    right : (a b : Bool) → (a || b) ≡ false → b ≡ false
    right true b e = absurd cc
    right false b e = e

still_lives : (p q : Pack) (f : Fid) → show q ≡ show p → is_system f ≡ false → lives (sights q) f ≡ true → lives (sights p) f ≡ true
still_lives p q f shown own living = sym (shown_lives p f own) ∙ ap (λ v. is_some (get v.files f)) (sym shown) ∙ shown_lives q f own ∙ living

in_greatest : (f : Fid) (x : File) (es : List (Fid × File)) → find fid_cmp f es ≡ Some x → serial_of f ≤ greatest_serial es
in_greatest f x [] is = absurd cc
in_greatest f x (e ∷ es) is = by (in_greatest f x es) (is_fid f e.0) refl
  where
    by : (find fid_cmp f es ≡ Some x → serial_of f ≤ greatest_serial es) → (t : Bool) → is_fid f e.0 ≡ t → serial_of f ≤ max (serial_of e.0) (greatest_serial es)
    by again true q = let same = ap serial_of (same_fid f e.0 q) in omega (arith, same)
    by again false q = let rest = again (sym (ap (λ b. cond b (Some e.1) (find fid_cmp f es)) q) ∙ is) in omega (arith, rest)

found_serial : (p : Pack) (f : Fid) → lives (sights p) f ≡ true → serial_of f ≤ greatest_serial (entries (found (sights p)))
found_serial p f living = by (leader (sights p) f) (sym (get-entries (found (sights p)) f) ∙ get-found (sights p) f) living
  where
    by : (o : Option Leader) → find fid_cmp f (entries (found (sights p))) ≡ option_map (read_file f (file_bytes (sights p) f)) o → is_some o ≡ true → serial_of f ≤ greatest_serial (entries (found (sights p)))
    by None q e = absurd cc
    by (Some l) q e = in_greatest f (read_file f (file_bytes (sights p) f) l) (entries (found (sights p))) q

pub serials_below : (p q : Pack) (last : ℕ) → show q ≡ show p → last ≡ mended_serial p → (f : Fid) → lives (sights q) f ≡ true → serial_of f ≤ last
serials_below p q last shown is f living = by (is_fid f sys_dir) (is_fid f disk_descriptor) refl refl
  where
    by : (a b : Bool) → is_fid f sys_dir ≡ a → is_fid f disk_descriptor ≡ b → serial_of f ≤ last
    by true b x y = let same : serial_of f ≡ serial_of sys_dir = ap serial_of (same_fid f sys_dir x) in omega (arith, same, is)
    by false true x y = let same : serial_of f ≡ serial_of disk_descriptor = ap serial_of (same_fid f disk_descriptor y) in omega (arith, same, is)
    by false false x y = let own : is_system f ≡ false = (λ i. x i || y i) in let few = found_serial p f (still_lives p q f shown own living) in omega (arith, few, is)

-- ---- DiskDescriptor's pages
pub its_pages : Pack → List ℕ
its_pages p = map (λ n. option_map_or (λ at. at) (place (sights p) disk_descriptor (suc n)) 0) (range_with_len 0 (data_pages p.shape))

pub has_pages : (p : Pack) → NamesMended p → IsDescriptorIn p (its_pages p)
unfolding its_pages
has_pages p mended = (size, λ n few. (let low : n < data_pages p.shape = omega (arith, few, size) in by n (place (sights p) disk_descriptor (suc n)) refl (there n low) ∙ ap Some (sym (get_or-map-range_with_len (λ n. option_map_or (λ at. at) (place (sights p) disk_descriptor (suc n)) 0) 0 (data_pages p.shape) n n 0 low (omega arith)))))
  where
    size : length (map (λ n. option_map_or (λ at. at) (place (sights p) disk_descriptor (suc n)) 0) (range_with_len 0 (data_pages p.shape))) ≡ data_pages p.shape
    size = length-map-range_with_len (λ n. option_map_or (λ at. at) (place (sights p) disk_descriptor (suc n)) 0) 0 (data_pages p.shape)

    there : (n : ℕ) → n < data_pages p.shape → is_some (place (sights p) disk_descriptor (suc n)) ≡ true
    there n low =
        let long = mended.pages.descriptor_size in
        let last = mended.pages.last_pages disk_descriptor mended.pages.descriptor_lives in
        elim (cases_lt n (length (file_bytes (sights p) disk_descriptor) / 512)) [
          | inl less ↦ ap is_some ((each_file_has_its_end p disk_descriptor).before.each n less).sector
          | inr most ↦ (let same : n ≡ length (file_bytes (sights p) disk_descriptor) / 512 = omega (arith, most, low, long) in ap (λ k. is_some (place (sights p) disk_descriptor (suc k))) same ∙ last)
        ]

    by : (n : ℕ) (o : Option ℕ) → place (sights p) disk_descriptor (suc n) ≡ o → is_some (place (sights p) disk_descriptor (suc n)) ≡ true → place (sights p) disk_descriptor (suc n) ≡ Some (option_map_or (λ at. at) (place (sights p) disk_descriptor (suc n)) 0)
    by n None e some = absurd (let both : false ≡ true = sym (ap is_some e) ∙ some in cc)
    by n (Some at) e some = e ∙ ap Some (sym (ap (λ o. option_map_or (λ at. at) o 0) e))

-- ---- what the last record write leaves
module _ (p q : Pack) (last : ℕ) (pages : List ℕ) (keeps : Keeps p q) (unmarked : Unmarked q) (mended : NamesMended q) (full : (i : ℕ) (page : Page) → carried q i ≡ Some page → length (sector_at q i).value ≡ 256) (last_is : last ≡ mended_serial p) (in_it : IsDescriptorIn q pages) where
  may : MayBeDescribed q last (free_table q) pages
  may = record { named = mended; full = full; size = in_it.0; bears = in_it.1; serials = serials_below p q last keeps.shown last_is; map_is = refl }

  described : IsDescribedSound q (after q (closing q.shape last (free_table q) pages)) last
  described = described_is_sound q last (free_table q) pages may

  -- before it
  before_stands : (at : ℕ) (rest : List ℕ) → pages ≡ at ∷ rest → Throughout (StandsBy q) q (values_writes (reverse (closed_values q.shape last (free_table q) 1 rest)))
  before_stands at rest is = later_writes q q (reverse (closed_values q.shape last (free_table q) 1 rest)) (later_reverse q (closed_values q.shape last (free_table q) 1 rest) (closed_later q last (free_table q) 1 rest (λ k few. (
    k,
    (let many : suc k < length pages = (let long = ap length is in omega (arith, few, long)) in
        place_carried q (record { fid = disk_descriptor; number = suc (suc k) }) (get_or rest k 0) (in_it.1 (suc k) many ∙ ap (λ l. Some (get_or l (suc k) 0)) is)),
  )))) (record { shape = refl; keeps = (nothing_tends q).keeps; unmarked = unmarked; pages = λ i. refl })

  mends_before : (at : ℕ) (rest : List ℕ) → pages ≡ at ∷ rest → Throughout (Mends p) q (values_writes (reverse (closed_values q.shape last (free_table q) 1 rest)))
  mends_before at rest is = throughout_map (StandsBy q) (Mends p) (λ r s. record { keeps = keeps_trans p q r keeps s.keeps; unclean = unmarked_is_unclean r s.unmarked }) q (values_writes (reverse (closed_values q.shape last (free_table q) 1 rest))) (before_stands at rest is)

  ended_keeps : (at : ℕ) (rest : List ℕ) → pages ≡ at ∷ rest → Keeps p (after q (closing q.shape last (free_table q) pages))
  ended_keeps at rest is =
      let r : Pack = after q (values_writes (reverse (closed_values q.shape last (free_table q) 1 rest))) in
      let s : StandsBy q r = at_end (StandsBy q) q (values_writes (reverse (closed_values q.shape last (free_table q) 1 rest))) (before_stands at rest is) in
      let some : 0 < length pages = (let long = ap length is in omega (arith, long)) in
      let here : carried q at ≡ Some (record { fid = disk_descriptor; number = 1 }) = place_carried q (record { fid = disk_descriptor; number = 1 }) at (in_it.1 0 some ∙ ap (λ l. Some (get_or l 0 0)) is) in
      let last_one = value_keeps r at 0 (descriptor_value q.shape last mark_clean (free_table q) 0) (s.pages at ∙ here) in
      let whole : after q (closing q.shape last (free_table q) pages) ≡ after r (Wrote at 2 (descriptor_value q.shape last mark_clean (free_table q) 0) ∷ []) =
      ap (λ l. after q (closing q.shape last (free_table q) l)) is ∙ ap (after q) (closing_splits q.shape last (free_table q) at rest) ∙ after-append q (values_writes (reverse (closed_values q.shape last (free_table q) 1 rest))) (Wrote at 2 (descriptor_value q.shape last mark_clean (free_table q) 0) ∷ []) in
      subst (Keeps p) (sym whole) (keeps_trans p q (after r (Wrote at 2 (descriptor_value q.shape last mark_clean (free_table q) 0) ∷ [])) keeps (keeps_trans q r (after r (Wrote at 2 (descriptor_value q.shape last mark_clean (free_table q) 0) ∷ [])) s.keeps last_one))

  scavenged : (at : ℕ) (rest : List ℕ) → pages ≡ at ∷ rest → Scavenged p (after q (closing q.shape last (free_table q) pages))
  scavenged at rest is =
      let k = ended_keeps at rest is in
      let used = (whole_is_lasting (after q (closing q.shape last (free_table q) pages)) described.sound.whole).rooted.used in
      let free = used_available_is_free (after q (closing q.shape last (free_table q) pages)) used in
      let none = (sound_needs_nothing (after q (closing q.shape last (free_table q) pages)) described.sound).0 in
      let balance = k.balance in
      record {
        sound = described.sound;
        clean = described.clean;
        hints = described.hints;
        shown = k.shown;
        last = ap (λ m. m.last) described.read ∙ last_is;
        free = omega (arith, free, none, balance);
      }

-- ---- all record writes
pub writes_end : (p : Pack) (events xs : List Event) (last : ℕ) (pages : List ℕ) → AllMend p events → Keeps p (after p events) → Unmarked (after p events) → NamesMended (after p events) → ((i : ℕ) (page : Page) → carried (after p events) i ≡ Some page → length (sector_at (after p events) i).value ≡ 256)
    → last ≡ mended_serial p → IsDescriptorIn (after p events) pages → IsFirstOf (closing p.shape last (free_table (after p events)) pages) xs
    → ScavengeWrites p (events ++ xs) × (xs ≡ closing p.shape last (free_table (after p events)) pages → EndsIt p (events ++ xs))
writes_end p events xs last [] mends keeps unmarked mended full last_is in_it first = absurd (let size = in_it.0 in omega (arith, size))
writes_end p events xs last (at ∷ rest) mends keeps unmarked mended full last_is in_it first = (
  elim cases [
    | inl before ↦ some_of (all_on p events xs mends (broken_off (Mends p) (after p events) (values_writes (reverse (closed_values p.shape last (free_table (after p events)) 1 rest))) xs before mending_writes))
    | inr whole ↦ all_of (ends (whole ∙ sym splits))
  ],
  ends,
)
  where
    splits : closing p.shape last (free_table (after p events)) (at ∷ rest) ≡ values_writes (reverse (closed_values p.shape last (free_table (after p events)) 1 rest)) ++ Wrote at 2 (descriptor_value p.shape last mark_clean (free_table (after p events)) 0) ∷ []
    splits = closing_splits p.shape last (free_table (after p events)) at rest

    cases : IsFirstOf (values_writes (reverse (closed_values p.shape last (free_table (after p events)) 1 rest))) xs ⊎ (xs ≡ values_writes (reverse (closed_values p.shape last (free_table (after p events)) 1 rest)) ++ Wrote at 2 (descriptor_value p.shape last mark_clean (free_table (after p events)) 0) ∷ [])
    cases = first_or_all (values_writes (reverse (closed_values p.shape last (free_table (after p events)) 1 rest))) (Wrote at 2 (descriptor_value p.shape last mark_clean (free_table (after p events)) 0)) xs (subst (λ l. IsFirstOf l xs) splits first)

    mending_writes : Throughout (Mends p) (after p events) (values_writes (reverse (closed_values p.shape last (free_table (after p events)) 1 rest)))
    mending_writes = mends_before p (after p events) last (at ∷ rest) keeps unmarked mended full last_is in_it at rest refl

    ends : xs ≡ closing p.shape last (free_table (after p events)) (at ∷ rest) → EndsIt p (events ++ xs)
    ends is = record {
      before = events ++ values_writes (reverse (closed_values p.shape last (free_table (after p events)) 1 rest));
      at = at;
      part = 2;
      words = descriptor_value p.shape last mark_clean (free_table (after p events)) 0;
      split = ap (λ l. events ++ l) (is ∙ splits) ∙ sym (append_assoc events (values_writes (reverse (closed_values p.shape last (free_table (after p events)) 1 rest))) (Wrote at 2 (descriptor_value p.shape last mark_clean (free_table (after p events)) 0) ∷ []));
      mends = all_on p events (values_writes (reverse (closed_values p.shape last (free_table (after p events)) 1 rest))) mends mending_writes;
      scavenged = subst (Scavenged p) (sym (after-append p events xs ∙ ap (after (after p events)) is)) (scavenged p (after p events) last (at ∷ rest) keeps unmarked mended full last_is in_it at rest refl);
    }

-- ---- on a machine
-- a scavenge so far, whose mark isn't clean
pub record Midway (a b : Taped) : Type 0 where
  pub grown : Grown a b
  pub opens : (events : List Event) → OpensMark (pack a) (added a b ++ events)
  pub mends : AllMend (pack a) (added a b)
  pub keeps : Keeps (pack a) (pack b)
  pub unmarked : Unmarked (pack b)

on_two : {a b c : Taped} → Grown a b → Grown b c → AllMend (pack a) (added a b) → Throughout (Mends (pack a)) (pack b) (added b c) → AllMend (pack a) (added a c)
on_two {a} {b} {c} before now mends run = subst (AllMend (pack a)) (sym (added-twice before now)) (all_on (pack a) (added a b) (added b c) mends (subst (λ q. Throughout (Mends (pack a)) q (added b c)) (pack-after before) run))

pub mid_stop : {a b c : Taped} → Midway a b → Grown b c → Throughout (Keeps (pack b)) (pack b) (added b c) → Throughout (λ r. Clean r → ⊥) (pack b) (added b c) → AllMend (pack a) (added a c)
mid_stop {a} {b} {c} m now kept unclean = on_two m.grown now m.mends (mending (pack a) (pack b) (added b c) m.keeps kept unclean)

pub mid_on : {a b c : Taped} → Midway a b → Grown b c → Throughout (Keeps (pack b)) (pack b) (added b c) → Throughout (λ r. Clean r → ⊥) (pack b) (added b c) → Unmarked (pack c) → Midway a c
mid_on {a} {b} {c} m now kept unclean unmarked = record {
  grown = grown_twice m.grown now;
  opens = λ events. subst (OpensMark (pack a)) (sym (ap (λ l. l ++ events) (added-twice m.grown now) ∙ append_assoc (added a b) (added b c) events)) (m.opens (added b c ++ events));
  mends = mid_stop m now kept unclean;
  keeps = keeps_trans (pack a) (pack b) (pack c) m.keeps (subst (Keeps (pack b)) (sym (pack-after now)) (at_end (Keeps (pack b)) (pack b) (added b c) kept));
  unmarked = unmarked;
}

pub mid_open : {a b : Taped} → Grown a b → Opens {T = Unit {0}} {E = Stop} a b (Ok tt) → Midway a b
mid_open {a} {b} grown o = record { grown = grown; opens = λ events. opens_then (pack a) (added a b) events o.ok; mends = o.mends; keeps = o.opened.keeps; unmarked = o.opened.unmarked }

-- whatever was done after that, the mark was opened first
pub mid_opens : {a b c : Taped} → Midway a b → Grown b c → OpensMark (pack a) (added a c)
mid_opens {a} {b} {c} m now = subst (OpensMark (pack a)) (sym (added-twice m.grown now)) (m.opens (added b c))

-- it ends early
pub ends_early : {a c : Taped} (counts : Counts) (bad : ℕ) (e : ScavError) (result : Result Report ScavError) → IsErrAnd result (λ s. s ≡ e) → refusal_in e ≡ None → OpensMark (pack a) (added a c) → ScavengeWrites (pack a) (added a c) → MendsAll counts bad a c result
ends_early {a} {c} counts bad e result is unrefused opens writes = subst (MendsAll counts bad a c) (sym (error_is result is)) (record { opens = opens; writes = writes; done = tt; unrefused = unrefused; report = tt })

pub of_stop : (s : Stop) → refusal_in (error_of_stop s) ≡ None
of_stop stop.DiskFault = refl
of_stop stop.Memory = refl
of_stop stop.Astray = refl

pub of_sweep : (s : SweepError) → refusal_in (error_of_sweep s) ≡ None
of_sweep sweep.DiskFault = refl
of_sweep sweep.Memory = refl

pub not_ended : {p : Pack} {events : List Event} → AllMend p events → ScavengeWrites p events
not_ended mends = some_of mends

pub last_part : {a d e : Taped} (last : ℕ) → Midway a d → Grown d e → NamesMended (pack d) → AreFormed (pack d) → last ≡ mended_serial (pack a) → IsFirstOf (closing d.form last (free_table (pack d)) (its_pages (pack d))) (added d e)
    → ScavengeWrites (pack a) (added a e) × (added d e ≡ closing d.form last (free_table (pack d)) (its_pages (pack d)) → EndsIt (pack a) (added a e))
last_part {a} {d} {e} last m now named formed last_is first = (subst (ScavengeWrites (pack a)) (sym (added-twice m.grown now)) both.0, λ is. subst (EndsIt (pack a)) (sym (added-twice m.grown now)) (both.1 (is ∙ same)))
  where
    here : pack d ≡ after (pack a) (added a d)
    here = pack-after m.grown

    same : closing d.form last (free_table (pack d)) (its_pages (pack d)) ≡ closing a.form last (free_table (after (pack a) (added a d))) (its_pages (pack d))
    same i = closing (m.grown.form i) last (free_table (here i)) (its_pages (pack d))

    full : (i : ℕ) (page : Page) → carried (pack d) i ≡ Some page → length (sector_at (pack d) i).value ≡ 256
    full i page is = formed_pages_have_256_words (pack d) i page formed is

    both : ScavengeWrites (pack a) (added a d ++ added d e) × (added d e ≡ closing a.form last (free_table (after (pack a) (added a d))) (its_pages (pack d)) → EndsIt (pack a) (added a d ++ added d e))
    both = writes_end (pack a) (added a d) (added d e) last (its_pages (pack d)) m.mends (subst (Keeps (pack a)) here m.keeps) (subst Unmarked here m.unmarked) (subst NamesMended here named)
        (subst (λ (q : Pack). (i : ℕ) (page : Page) → carried q i ≡ Some page → length (sector_at q i).value ≡ 256) here full) last_is (subst (λ (q : Pack). IsDescriptorIn q (its_pages (pack d))) here (has_pages (pack d) named)) (subst (λ l. IsFirstOf l (added d e)) same first)
