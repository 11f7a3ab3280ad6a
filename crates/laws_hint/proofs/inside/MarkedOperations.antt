-- The true map after the record writes of operations, and after those of DiskDescriptor's own words.
use Rattle.std.proofs.Common.{Bool, List, Some, [], ap, cond, false, get_or, length, not, refl, reverse, set, suc, sym, take, true, zero, ℕ, ◌++◌, ◌∙◌, ◌∷◌, ◌≡◌}
use Rattle.std.specs.Prelude.{◌==◌}
use Rattle.std.proofs.lemmas.Option.{cond_some}
use Rattle.laws_line.specs.alto_words.specs.Fid.{disk_descriptor}
use Rattle.laws_line.specs.alto_words.specs.declared.fid.Fid.{Fid}
use Rattle.laws_line.specs.disk_records.proofs.Growing.{after-append}
use Rattle.laws_line.specs.disk_records.specs.Commands.{claim_writes, relabel_writes, value_writes}
use Rattle.laws_line.specs.disk_records.specs.Labels.{in_range, page_of, tag}
use Rattle.laws_line.specs.disk_records.specs.Packs.{Pack, after, is_usable, sector_at}
use Rattle.laws_line.specs.disk_records.specs.Words.{word}
use Rattle.laws_line.specs.disk_records.specs.declared.records.Event.{Event}
use Rattle.laws_line.specs.disk_records.specs.declared.records.Event.TheVariants.{Wrote}
use Rattle.laws_line.specs.disk_records.specs.declared.records.Page.{Page}
use Rattle.laws_line.specs.hint_cache.specs.Bits.{busy_at}
use Rattle.laws_line.specs.pack_model.specs.operations.Commands.{Claim, Claimable, all_claimed, claims_writes, sectors_of, values_writes}
use Rattle.laws_line.specs.pack_model.specs.operations.Committing.{page_of_byte}
use Rattle.laws_line.specs.pack_model.specs.reading.Bytes.{bytes_of}
use Rattle.laws_line.specs.pack_model.specs.sessions.Descriptor.{close_writes, closed_values, open_writes, opened_value, serial_value, serial_writes}
use Rattle.laws_line.specs.pack_model.specs.operations.Entering.{EntryRoom, entry_value, values_first}
use Rattle.laws_line.specs.pack_model.specs.reading.Files.{file_bytes, place}
use Rattle.laws_line.specs.pack_model.specs.states.InUse.{is_free_sight}
use Rattle.laws_line.specs.pack_model.specs.reading.Model.{good_one, read_as}
use Rattle.laws_line.specs.pack_model.specs.operations.Operations.{cut_writes, enter_writes, release_file_writes, grow_writes}
use Rattle.laws_line.specs.pack_model.specs.reading.Sights.{Sight, sights}
use Rattle.laws_line.specs.pack_model.specs.operations.PageWords.{freed_value, page_number}
use Rattle.laws_line.specs.pack_model.specs.reading.Sights.Sight.{hidden, holds}
use Rattle.laws_line.specs.pack_model.specs.reading.Slots.{all_words, item_words}
use Rattle.laws_line.specs.pack_model.specs.reading.Slots.Item.{entry}
use Rattle.laws_line.specs.pack_model.specs.states.Sound.{mark_clean, mark_of, mark_open}
use Rattle.laws_line.specs.pack_model.specs.operations.Step.{Operation}
use Rattle.laws_line.specs.pack_model.specs.operations.Step.Operation.{drop_file}
use Rattle.laws_line.specs.pack_model.specs.hints.Tables.{free_table}
use Rattle.laws_line.specs.pack_model.specs.states.Whole.{Tidy, Whole}
use Rattle.laws_line.specs.pack_laws.proofs.Placing.{leader_of_place, page_of_place}
use Rattle.laws_line.specs.laws_operation.proofs.Cutting.{cut_law}
use Rattle.laws_line.specs.laws_operation.proofs.Dropped.{release_law}
use Rattle.laws_line.specs.laws_operation.proofs.Grown.{grow_law}
use Rattle.laws_line.specs.laws_operation.proofs.Leaving.{leave_law}
use Rattle.laws_line.specs.laws_operation.proofs.Making.{make_law}
use Rattle.laws_line.specs.laws_operation.proofs.OneValue.{put_law, stamp_law, title_law}
use Rattle.laws_line.specs.laws_operation.proofs.Showing.{usable_is}
use Rattle.laws_line.specs.laws_operation.proofs.Widening.{widen_law}
use Rattle.laws_line.specs.laws_operation.specs.ByteLaws.{Bear}
use Rattle.laws_line.specs.laws_operation.specs.NameLaws.{entry_room}
use Rattle.laws_line.specs.laws_operation.specs.Outcomes.{CarriesOut}
use Rattle.laws_line.specs.laws_operation.specs.DescriptorLaws.{KeepsSound}
use Rattle.laws_hint.proofs.inside.ClosedHints.{at_end}
use Rattle.laws_hint.proofs.inside.TrueMap.{true_is_free, values_free}
use Rattle.laws_hint.proofs.inside.Marking.{AreRanged, AreUsable, claim_bit, claims_bits, label_bit, releases_bits, set_again, usable_stays, value_bit}
use Rattle.laws_hint.proofs.inside.Meaning.{busy_at-free}
use Rattle.laws_hint.specs.MapChanges.{ClaimsMarkTheMap, DescriptorWritesLeaveTheMap, LeavesMap, MarksMap, ReleasesMarkTheMap, ValuesLeaveTheMap, marked}
use Rattle.laws_line.specs.laws_operation.proofs.descriptor.Laws.{close_carries_out, open_carries_out, serial_carries_out}
use Rattle.laws_line.specs.laws_operation.proofs.drop.Laws.{drop_carries_out}
use Rattle.laws_line.specs.laws_operation.proofs.enter.Laws.{enter_carries_out}

-- ---- pages that are borne
-- The sector of one is good, and not free.
record IsBorne (s : Sight) : Type 0 where
  good : good_one s ≡ 1
  not_free : is_free_sight s ≡ false

borne : (p : Pack) (f : Fid) (n at : ℕ) → place (sights p) f n ≡ Some at → IsBorne (get_or (sights p) at hidden)
borne p f zero at is = let shows = (leader_of_place (sights p) f at is).shows hidden in record { good = ap good_one shows; not_free = ap is_free_sight shows }
borne p f (suc n) at is = let shows = (page_of_place (sights p) f n at is).shows hidden in record { good = ap good_one shows; not_free = ap is_free_sight shows }

-- so it is busy
borne_busy : (p : Pack) (f : Fid) (n at : ℕ) → place (sights p) f n ≡ Some at → busy_at (free_table p) at ≡ true
borne_busy p f n at is = busy_at-free (sights p) at ∙ ap not (borne p f n at is).not_free

-- and usable
borne_usable : (p : Pack) (f : Fid) (n at : ℕ) → place (sights p) f n ≡ Some at → is_usable p.shape at (sector_at p at) ≡ true
borne_usable p f n at is = usable_is p at (borne p f n at is).good

all_usable : (p : Pack) (f : Fid) (n : ℕ) (ats : List ℕ) → Bear (sights p) f n ats → AreUsable p ats
all_usable p f n [] bear = tt
all_usable p f n (at ∷ ats) bear = (borne_usable p f n at bear.0, all_usable p f (suc n) ats bear.1)

-- ---- labels
-- one that names a page is in range
named_ranged : (label : List ℕ) (page : Page) → page_of label ≡ Some page → in_range (tag label) ≡ true
named_ranged label page names = (cond_some (in_range (tag label)) _ page names).0

-- so are those of claims that are made one after another
claimable_ranged : (cs : List Claim) (ss : List Sight) (f : Fid) (k : ℕ) → Claimable ss f k cs → AreRanged cs
claimable_ranged [] ss f k able = tt
claimable_ranged (c ∷ cs) ss f k able = (able.2, claimable_ranged cs (set ss c.at (holds f k (take (word c.label 3) (bytes_of c.value)))) f (suc k) able.3)

module _ (p : Pack) (w : Whole p) (t : Tidy p) where
  -- on whole packs the map of the free sectors is the true one
  marks : (events : List Event) (claimed released : List ℕ) → Whole (after p events) → free_table (after p events) ≡ marked false released (marked true claimed (free_table p)) → MarksMap p events claimed released
  marks events claimed released behind same = true_is_free (after p events) behind ∙ same ∙ ap (λ m. marked false released (marked true claimed m)) (sym (true_is_free p w))

  -- where none is claimed, and none released
  leaves : (events : List Event) → Whole (after p events) → free_table (after p events) ≡ free_table p → LeavesMap p events
  leaves events behind same = marks events [] [] behind same

  -- ---- lists of record writes
  grown : (cs : List Claim) (f : Fid) (n at : ℕ) (label value : List ℕ) → AreRanged cs → in_range (tag label) ≡ true → place (sights p) f n ≡ Some at
      → free_table (after p (grow_writes cs at label value)) ≡ marked true (sectors_of (all_claimed cs)) (free_table p)
  grown cs f n at label value all ranged is =
      ap free_table (after-append p (claims_writes cs) (claim_writes at label value))
      ∙ claim_bit (after p (claims_writes cs)) at label value ranged
      ∙ ap (λ m. set m at true) (claims_bits p cs all)
      ∙ set_again (sectors_of (all_claimed cs)) (free_table p) at (borne_busy p f n at is)

  shortened : (f : Fid) (n k at : ℕ) (label value later : List ℕ) → in_range (tag label) ≡ true → place (sights p) f n ≡ Some at → Bear (sights p) f k later
      → free_table (after p (cut_writes at label value later)) ≡ marked false later (free_table p)
  shortened f n k at label value later ranged is bear =
      let usable : AreUsable (after p (relabel_writes at label value)) later = usable_stays (after p (Wrote at 1 label ∷ [])) at 1 value later (usable_stays p at 0 label later (all_usable p f k later bear)) in
      releases_bits (after p (relabel_writes at label value)) later usable
      ∙ ap (marked false later) (value_bit (after p (Wrote at 1 label ∷ [])) at value ∙ label_bit p at label ranged ∙ set_again [] (free_table p) at (borne_busy p f n at is))

  gone : (f : Fid) (at : ℕ) (pages : List ℕ) → place (sights p) f 0 ≡ Some at → Bear (sights p) f 1 pages → free_table (after p (release_file_writes at pages)) ≡ marked false (at ∷ pages) (free_table p)
  gone f at pages is bear = releases_bits p (at ∷ pages) (borne_usable p f 0 at is, all_usable p f 1 pages bear)

  -- a value after others leaves the map that these leave
  then_value : (events : List Event) (at : ℕ) (value : List ℕ) (m : List Bool) → free_table (after p events) ≡ m → free_table (after p (events ++ value_writes at value)) ≡ m
  then_value events at value m same = ap free_table (after-append p events (value_writes at value)) ∙ value_bit (after p events) at value ∙ same

  -- so do values, or none where a mark stands
  unless_free : (stands : Bool) (vs : List (ℕ × List ℕ)) → free_table (after p (cond stands [] (values_writes vs))) ≡ free_table p
  unless_free true vs = refl
  unless_free false vs = values_free vs p

  -- ---- operations
  carried : {events : List Event} {o : Operation} → CarriesOut p events o → (claimed released : List ℕ) → free_table (after p events) ≡ marked false released (marked true claimed (free_table p)) → MarksMap p events claimed released
  carried {events} {o} h claimed released same = marks events claimed released h.meets.whole same

  -- one that is a value
  valued : {o : Operation} (at : ℕ) (value : List ℕ) → CarriesOut p (value_writes at value) o → LeavesMap p (value_writes at value)
  valued {o} at value h = leaves (value_writes at value) h.meets.whole (value_bit p at value)

-- ---- the laws
pub claims_mark_the_map : ClaimsMarkTheMap
claims_mark_the_map p w t = record {
  makes = λ f name moment page leader h. carried p w t (make_law p w t f name moment page leader h) (page.at ∷ leader.at ∷ []) []
      (claims_bits p (page ∷ leader ∷ []) (named_ranged page.label (page_number f 1) h.page_is, (named_ranged leader.label (page_number f 0) h.leader_is, tt)));
  grows = λ f new claims at label value h. let n : ℕ = page_of_byte (length (file_bytes (sights p) f)) in carried p w t (grow_law p w t f h.file new claims at label value h) (sectors_of (all_claimed claims)) []
      (grown p w t claims f n at label value (claimable_ranged claims (sights p) f n h.claimable) (named_ranged label (page_number f n) h.page) h.sector);
  widens = λ d added claims at label value h. let n : ℕ = page_of_byte (length (file_bytes (sights p) d)) in carried p w t (widen_law p w t d added claims at label value h) (sectors_of (all_claimed claims)) []
      (grown p w t claims d n at label value (claimable_ranged claims (sights p) d n h.claimable) (named_ranged label (page_number d n) h.page) h.sector);
}

pub releases_mark_the_map : ReleasesMarkTheMap
releases_mark_the_map p w t = record {
  cuts = λ f n at label later h. let k : ℕ = page_of_byte n in carried p w t (cut_law p w t f h.file n at label later h) [] later
      (shortened p w t f k (suc k) at label (sector_at p at).value later (named_ranged label (page_number f k) h.page) h.sector h.later_are);
  goes = λ f at pages h. marks p w t (release_file_writes at pages) [] (at ∷ pages) (release_law p w t f at pages h).0.drops.whole (gone p w t f at pages h.sector h.pages_are);
  drops = λ f at pages d slot_at a b own h frees. carried p w t (drop_carries_out p f at pages d slot_at a b own w t h frees) [] (at ∷ pages)
      (then_value p w t (release_file_writes at pages) slot_at (freed_value (all_words a) (item_words (entry f own)) (sector_at p slot_at).value) (marked false (at ∷ pages) (free_table p)) (gone p w t f at pages h.sector h.pages_are));
}

pub values_leave_the_map : ValuesLeaveTheMap
values_leave_the_map p w t = record {
  puts = λ f offset new at value h. valued p w t at value (put_law p w t f h.file offset new at value h);
  titles = λ f name at value h. valued p w t at value (title_law p w t f h.file name at value h);
  stamps = λ f moment at value h. valued p w t at value (stamp_law p w t f h.file moment at value h);
  leaves = λ d name at a b f own h. valued p w t at (freed_value (all_words a) (item_words (entry f own)) (sector_at p at).value) (leave_law p w t d name at a b f own h);
  enters = λ d name f a old b left words at next_at h.
      let r : EntryRoom = entry_room a old at next_at in
      leaves p w t (enter_writes (values_first p r words) at (entry_value p r words)) (enter_carries_out p d name f a old b left words at next_at w t h).sees.whole
      (then_value p w t (values_writes (values_first p r words)) at (entry_value p r words) (free_table p) (values_free (values_first p r words) p));
}

pub descriptor_writes_leave_the_map : DescriptorWritesLeaveTheMap
descriptor_writes_leave_the_map p w t = record {
  opens = λ at placed. leaves p w t (open_writes (mark_of (sights p)) at (sector_at p at).value) (open_carries_out p at (drop_file disk_descriptor) [] w t placed).keeps.whole
      (unless_free p w t (mark_of (sights p) == mark_open) ((at, opened_value (sector_at p at).value) ∷ []));
  serials = λ at last placed above. leaves p w t (serial_writes at last (sector_at p at).value) (serial_carries_out p at last w t placed above).keeps.whole (value_bit p at (serial_value last (sector_at p at).value));
  closes = λ busy pages h.
      let events : List Event = close_writes (mark_of (sights p)) p.shape (read_as p).last busy pages in
      leaves p w t events (at_end (KeepsSound p) p events (close_carries_out p busy pages w t h).keeps).whole
      (unless_free p w t (mark_of (sights p) == mark_clean) (reverse (closed_values p.shape (read_as p).last busy 0 pages)));
}
