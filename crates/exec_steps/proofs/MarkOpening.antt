-- The mark, as a line begins to write.
use Rattle.std.proofs.Common.{Bool, List, Some, [], ap, append-nil, arith, cond, false, length, refl, subst, slice_index_or, sym, true, ℕ, ◌<◌, ◌==◌, ◌∙◌, ◌∷◌, ◌≡◌}
use Rattle.alto_words.specs.Fid.{disk_descriptor}
use Rattle.disk_records.proofs.Growing.{pack-after}
use Rattle.disk_records.specs.Commands.{value_writes}
use Rattle.disk_records.specs.Events.{writes_in}
use Rattle.disk_records.specs.Packs.{Pack, after, is_free_at, sector_at}
use Rattle.disk_records.specs.Tapes.{Grown, Taped, added, capped, pack}
use Rattle.disk_records.specs.declared.records.Event.{Event}
use Rattle.exec_session.specs.laws_call.proofs.counts.Laws.{quiet_call_is_counted}
use Rattle.exec_session.specs.laws_call.specs.Acting.{around}
use Rattle.exec_session.specs.laws_call.specs.CountLaws.{CountedSoFar, CountsOn}
use Rattle.exec_session.specs.laws_hint.proofs.changes.Laws.{descriptor_writes_leave_the_map}
use Rattle.exec_session.specs.laws_hint.specs.LineLinks.{opening_writes}
use Rattle.exec_session.specs.laws_hint.specs.MapChanges.{marked}
use Rattle.exec_session.specs.laws_hint.specs.TableLaws.{TableReserves}
use Rattle.exec_session.specs.laws_line.specs.CrashLaws.{over}
use Rattle.exec_session.specs.laws_lookup.proofs.others.Laws.{place_is_of_its_file}
use Rattle.exec_session.specs.laws_lookup.proofs.stays.Laws.{values_misled_before}
use Rattle.exec_session.specs.laws_lookup.specs.StayLaws.{MisledBefore}
use Rattle.exec_session.specs.laws_operation.proofs.descriptor.Laws.{open_carries_out, open_keeps_links}
use Rattle.exec_session.specs.laws_operation.proofs.values.Laws.{values_leave_free_sectors}
use Rattle.exec_session.specs.laws_operation.specs.DescriptorLaws.{OpensMark}
use Rattle.exec_session.specs.laws_operation.specs.FreeLaws.{SameFree}
use Rattle.exec_session.specs.laws_operation.specs.LinkLaws.{KeepsLinks}
use Rattle.exec_session.specs.laws_steps.proofs.keeping.Laws.{opening_keeps_found}
use Rattle.exec_session.specs.laws_steps.specs.LineKeepingLaws.{KeepsFound}
use Rattle.exec_session.specs.pack_laws.specs.TallyLaws.{operations_in}
use Rattle.pack_model.specs.hints.Sources.{IsFrom}
use Rattle.pack_model.specs.hints.Tables.{TableTrue, true_table}
use Rattle.pack_model.specs.operations.Committing.{open_moves}
use Rattle.pack_model.specs.operations.Operations.Move.{quiet}
use Rattle.pack_model.specs.operations.Operations.{Move}
use Rattle.pack_model.specs.operations.Step.{Operation}
use Rattle.pack_model.specs.reading.Files.{place}
use Rattle.pack_model.specs.reading.Model.{read_as}
use Rattle.pack_model.specs.reading.Sights.{sights}
use Rattle.pack_model.specs.sessions.Descriptor.{DescriptorFits, opened_value}
use Rattle.pack_model.specs.states.Sound.{mark_of, mark_open}
use Rattle.pack_model.specs.states.Whole.{Tidy, Whole}
use Rattle.session_model.specs.Keeping.{Kept}
use Rattle.exec_steps.specs.Midway.{MayStart, Midway}
use Rattle.exec_steps.proofs.Counting.{obeys_many}

-- ---- the record write, or none
by_mark : (P : List Event → Type 0) (p : Pack) (at : ℕ) → P [] → P (value_writes at (opened_value (sector_at p at).value)) → P (opening_writes p at)
by_mark P p at none one = by (mark_of (sights p) == mark_open)
  where
    by : (b : Bool) → P (cond b [] (value_writes at (opened_value (sector_at p at).value)))
    by true = none
    by false = one

quiet_alone : (mark : ℕ) (o : Operation) (ops : List Operation) → operations_in (open_moves mark (o ∷ ops)) ≡ 0
quiet_alone mark o ops = by (mark == mark_open)
  where
    by : (b : Bool) → operations_in (cond b [] (quiet ∷ [])) ≡ 0
    by true = refl
    by false = refl

opening_misled : (p : Pack) (at : ℕ) → Whole p → place (sights p) disk_descriptor 1 ≡ Some at → Whole (after p (opening_writes p at)) → MisledBefore p (opening_writes p at)
opening_misled p at whole placed =
    by_mark (λ es. Whole (after p es) → MisledBefore p es) p at (λ w hint bt wanted on_disk h. h)
    (λ w. values_misled_before p disk_descriptor ((at, opened_value (sector_at p at).value) ∷ []) whole w refl (place_is_of_its_file p disk_descriptor 1 at placed, tt))

opening_free : (p : Pack) (at : ℕ) → SameFree p (opening_writes p at)
opening_free p at = by_mark (SameFree p) p at (λ i. refl) (values_leave_free_sectors p ((at, opened_value (sector_at p at).value) ∷ []))

-- where it is open there is none
pub none_when_open : (p : Pack) (at : ℕ) → mark_of (sights p) ≡ mark_open → opening_writes p at ≡ []
none_when_open p at is = ap (λ n. cond (n == mark_open) [] (value_writes at (opened_value (sector_at p at).value))) is

pub same_place : {X : Type 0} (x y : X) → Some x ≡ Some y → x ≡ y
same_place x y e = cc

-- ---- the line once the mark is open
module _ (old new : Taped) (one before two : Kept) (at : ℕ) (reserved : List ℕ) (may : MayStart (pack old) one before at reserved) (grown : Grown old new) (all : added old new ≡ opening_writes (pack old) at) where
  abbrev p : Pack
  p = pack old

  ends : pack new ≡ after p (opening_writes p at)
  ends = pack-after grown ∙ ap (after p) all

  pub found_opened : KeepsFound (pack old) (pack new) []
  found_opened g i from stays h = subst (λ q. IsFrom q g i from) (sym ends) (opening_keeps_found p at g i from may.sound.whole may.sound.tidy may.placed h)

  module _ (counts : CountsOn old new) (first : old.writes ≡ capped (writes_in old.events)) (reads : read_as (pack new) ≡ read_as (pack old)) (whole : Whole (pack new)) (tidy : Tidy (pack new)) (tally : two.tally ≡ before.tally) (busy : two.busy ≡ before.busy) (o : Operation) (ops : List Operation) where
    opens : OpensMark p (opening_writes p at) (open_moves (mark_of (sights p)) (o ∷ ops))
    opens = open_carries_out p at o ops may.sound.whole may.sound.tidy may.placed

    abbrev moves : List Move
    moves = open_moves (mark_of (sights p)) (o ∷ ops)

    counted_none : CountedSoFar old.writes one.tally [] (around old before.busy before.tally)
    counted_none = record { writes = omega (arith, first); tally = may.tally }

    writes_many : length moves ≡ writes_in (added old new)
    writes_many = sym (obeys_many opens.obeys) ∙ by_mark (λ es. length es ≡ writes_in es) p at refl refl ∙ sym (ap writes_in all)

    counted_opened : CountedSoFar old.writes one.tally moves (around new two.busy two.tally)
    counted_opened = quiet_call_is_counted old.writes one.tally [] moves (around old before.busy before.tally) (around new two.busy two.tally) counted_none counts tally (quiet_alone (mark_of (sights p)) o ops) writes_many

    table_opened : TableTrue p one.busy → TableReserves (pack new) two.busy reserved
    table_opened was =
        let t = may.table was in
        record {
          bits = busy ∙ t.bits ∙ ap (λ l. marked true reserved l) (sym (ap true_table ends ∙ (descriptor_writes_leave_the_map p may.sound.whole may.sound.tidy).opens at may.placed));
          free = λ k d lt. still k d lt (t.free k d lt);
        }
      where
        still : (k d : ℕ) → k < length reserved → is_free_at p (slice_index_or reserved k d) ≡ true → is_free_at (pack new) (slice_index_or reserved k d) ≡ true
        still k d lt free = ap (λ q. is_free_at q (slice_index_or reserved k d)) ends ∙ opening_free p at (slice_index_or reserved k d) ∙ free

    pub midway_opened : DescriptorFits (pack new) two.shape two.last two.mark two.pages → Midway old new one two at [] (o ∷ ops) reserved
    midway_opened fits = record {
      grown = grown;
      placed = may.placed;
      wrote = [];
      events = all ∙ sym (append-nil (opening_writes p at));
      line = over;
      many = ap length all ∙ obeys_many opens.obeys ∙ ap length (sym (append-nil moves));
      reads = reads;
      whole = whole;
      tidy = tidy;
      marked = ap (λ q. mark_of (sights q)) ends ∙ opens.marked;
      fits = fits;
      counted = subst (λ l. CountedSoFar old.writes one.tally l (around new two.busy two.tally)) (sym (append-nil moves)) counted_opened;
      misled = subst (MisledBefore p) (sym all) (opening_misled p at may.sound.whole may.placed (subst Whole ends whole));
      links = subst (KeepsLinks p) (sym all) (open_keeps_links p at may.sound.whole may.sound.tidy may.placed);
      free = ((λ k d lt. ap (λ q. is_free_at q (slice_index_or reserved k d)) ends ∙ opening_free p at (slice_index_or reserved k d) ∙ may.free.0 k d lt), may.free.1);
      table = table_opened;
    }
