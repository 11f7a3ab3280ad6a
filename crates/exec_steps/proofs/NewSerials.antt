-- A new serial and its make, as one step of a line.
use Rattle.std.proofs.Common.{Bool, Err, List, Ok, OnOk, Result, Some, [], ap, append-nil, append_assoc, arith, false, length, length-append, refl, slice_index_or, subst, suc, sym, take, take_all, true, zero, ℕ, ◌++◌, ◌+◌, ◌<◌, ◌^◌, ◌∙◌, ◌∷◌, ◌≡◌, ◌≢◌, ◌≤◌, ◌||◌, ◌==◌}
use Rattle.std.proofs.lemmas.List.Elements.{All-cons, All-tail}
use Rattle.std.proofs.lemmas.List.Kept.{AllPairs-cons}
use Rattle.std.specs.List.{list_any}
use Rattle.alto_words.specs.Fid.{disk_descriptor}
use Rattle.alto_words.specs.declared.fid.Fid.{Fid}
use Rattle.disk_records.proofs.FirstOnes.{first_all}
use Rattle.disk_records.proofs.Growing.{added-twice, after-append, grown_twice, pack-after}
use Rattle.disk_records.specs.Events.{IsFirstOf, writes_in}
use Rattle.disk_records.specs.Packs.{Pack, after, is_free_at, sector_at}
use Rattle.disk_records.specs.Tapes.{Grown, Taped, added, pack}
use Rattle.disk_records.specs.Words.{word}
use Rattle.disk_records.specs.declared.records.Event.{Event}
use Rattle.disk_records.specs.declared.records.Tally.{Tally}
use Rattle.exec_session.specs.laws_call.proofs.counts.Laws.{call_is_counted, call_is_counted_on, quiet_call_is_counted}
use Rattle.exec_session.specs.laws_call.proofs.going.Laws.{serial_and_make_join}
use Rattle.exec_session.specs.laws_call.proofs.writing.Laws.{written_stays_known}
use Rattle.exec_session.specs.laws_call.specs.Acting.{BeganToWrite, Operates, around, begun, refused}
use Rattle.exec_session.specs.laws_call.specs.CountLaws.{CountedSoFar, CountsOn}
use Rattle.exec_session.specs.laws_call.specs.Going.{Goes}
use Rattle.exec_session.specs.laws_call.specs.GoingLaws.{MakeJoins}
use Rattle.exec_session.specs.laws_call.specs.Writing.{Written}
use Rattle.exec_session.specs.laws_hint.proofs.changes.Laws.{descriptor_writes_leave_the_map}
use Rattle.exec_session.specs.laws_hint.proofs.lines.Laws.{links_join}
use Rattle.exec_session.specs.laws_hint.proofs.tables.Laws.{operations_use_the_table, reserved_in_any_order}
use Rattle.exec_session.specs.laws_hint.specs.LineLinks.{opening_writes}
use Rattle.exec_session.specs.laws_hint.specs.MapChanges.{marked}
use Rattle.exec_session.specs.laws_hint.specs.TableLaws.{TableReserves}
use Rattle.exec_session.specs.laws_line.proofs.fits.Laws.{descriptor_fits_on}
use Rattle.exec_session.specs.laws_line.specs.CrashLaws.{Batch, StaysMendable, with_serial}
use Rattle.exec_session.specs.laws_lookup.proofs.others.Laws.{place_is_of_its_file}
use Rattle.exec_session.specs.laws_lookup.proofs.stays.Laws.{values_misled_before}
use Rattle.exec_session.specs.laws_lookup.specs.StayLaws.{MisledBefore}
use Rattle.exec_session.specs.laws_midway.proofs.lines.Laws.{later_misled_before}
use Rattle.exec_session.specs.laws_operation.proofs.descriptor.Laws.{serial_carries_out, serial_keeps_links}
use Rattle.exec_session.specs.laws_operation.proofs.values.Laws.{values_leave_free_sectors}
use Rattle.exec_session.specs.laws_operation.specs.DescriptorLaws.{GivesSerial}
use Rattle.exec_session.specs.laws_operation.specs.LinkLaws.{KeepsLinks}
use Rattle.exec_session.specs.laws_steps.proofs.lines.Laws.{make_keeps_found}
use Rattle.exec_session.specs.laws_steps.specs.LineKeepingLaws.{KeepsFound}
use Rattle.exec_session.specs.pack_laws.proofs.Moving.{start_self}
use Rattle.exec_session.specs.pack_laws.proofs.tallies.Laws.{tallies_join}
use Rattle.pack_model.specs.hints.Tables.{TableTrue, true_table}
use Rattle.pack_model.specs.operations.Committing.{moves_of}
use Rattle.pack_model.specs.operations.Operations.Move.{quiet}
use Rattle.pack_model.specs.operations.Operations.{Move}
use Rattle.pack_model.specs.operations.Step.Operation.{make}
use Rattle.pack_model.specs.operations.Step.{Operation, step}
use Rattle.pack_model.specs.reading.Files.{place}
use Rattle.pack_model.specs.reading.Bytes.{words_of}
use Rattle.pack_model.specs.reading.Model.{read_as}
use Rattle.pack_model.specs.reading.Sights.{sights}
use Rattle.pack_model.specs.sessions.Descriptor.{DescriptorFits, serial_value, serial_writes}
use Rattle.pack_model.specs.sessions.Tallies.{counted}
use Rattle.pack_model.specs.states.Sound.{mark_of}
use Rattle.pack_model.specs.states.Whole.{Tidy, Whole}
use Rattle.session_model.specs.Keeping.{Kept}
use Rattle.session_model.specs.Turning.{HintFailing}
use Rattle.exec_session.specs.Meant.{IfHint}
use Rattle.exec_session.specs.declared.stop.Stop.{Stop}
use Rattle.exec_session.specs.declared.stop.Stop.TheVariants as stop
use Rattle.exec_steps.specs.Midway.{AreFree, Midway, Stepped, moves_so_far, opened_pack}
use Rattle.exec_steps.proofs.Counting.{first_few, limit_stays, obeys_many, take_past}
use Rattle.exec_steps.proofs.Stepping.{free_after, if_hint_weaker, pairs_apart, pairs_head, pairs_tail, so_far_append, steps_append}

-- ---- two sectors in the other order
swap_free : (p : Pack) (x y : ℕ) (rest : List ℕ) → AreFree p (x ∷ y ∷ rest) → AreFree p (y ∷ x ∷ rest)
swap_free p x y rest free =
    let later_free = All-tail (λ i. is_free_at p i ≡ true) y rest (All-tail (λ i. is_free_at p i ≡ true) x (y ∷ rest) free.0) in
    let x_free : is_free_at p x ≡ true = free.0 0 0 (omega arith) in
    let y_free : is_free_at p y ≡ true = free.0 1 0 (omega arith) in
    let tail = pairs_tail x (y ∷ rest) free.1 in
    let ahead = pairs_head x (y ∷ rest) free.1 in
    let next = pairs_head y rest tail in
    let x_y : x ≢ y = ahead 0 0 (omega arith) in (
      All-cons (λ i. is_free_at p i ≡ true) y (x ∷ rest) y_free (All-cons (λ i. is_free_at p i ≡ true) x rest x_free later_free),
      AllPairs-cons (λ i j. i ≢ j) y (x ∷ rest) (All-cons (λ j. y ≢ j) x rest (λ e. x_y (sym e)) next)
          (AllPairs-cons (λ i j. i ≢ j) x rest (All-tail (λ j. x ≢ j) y rest ahead) (pairs_tail y rest tail)),
    )

or_swap : (a b c : Bool) → (a || (b || c)) ≡ (b || (a || c))
or_swap true true c = refl
or_swap true false c = refl
or_swap false true c = refl
or_swap false false c = refl

pub swapped : {old a : Taped} {one two : Kept} {at : ℕ} {done all : List Operation} {rest : List ℕ} (x y : ℕ) → Midway old a one two at done all (x ∷ y ∷ rest) → Midway old a one two at done all (y ∷ x ∷ rest)
swapped {old} {a} {one} {two} {at} {done} {all} {rest} x y m = record {
  grown = m.grown;
  placed = m.placed;
  wrote = m.wrote;
  events = m.events;
  line = m.line;
  many = m.many;
  reads = m.reads;
  whole = m.whole;
  tidy = m.tidy;
  marked = m.marked;
  fits = m.fits;
  counted = m.counted;
  misled = m.misled;
  links = m.links;
  free = swap_free (pack a) x y rest m.free;
  table = λ was. reserved_in_any_order (pack a) two.busy (x ∷ y ∷ rest) (y ∷ x ∷ rest) (λ n. or_swap (n == y) (n == x) (list_any (λ i. n == i) rest)) (m.table was);
}

-- ---- quiet moves at the end
quiet_taken : (w : ℕ) (t : Tally) (moves ms : List Move) (n : ℕ) → n ≤ 1 → counted w (moves ++ take n (quiet ∷ ms)) t ≡ counted w moves t
quiet_taken w t moves ms zero few = ap (λ l. counted w l t) (append-nil moves)
quiet_taken w t moves ms (suc zero) few = (tallies_join w moves (quiet ∷ []) t).whole
quiet_taken w t moves ms (suc (suc n)) few = absurd (omega (arith, few))

module _ (old a b : Taped) (one two : Kept) (at : ℕ) (done all : List Operation) (reserved : List ℕ) (m : Midway old a one two at done all reserved) (grown : Grown a b) (bt last : ℕ) (placed : place (sights (pack a)) disk_descriptor 1 ≡ Some bt) (above : (read_as (pack a)).last ≤ last) (f : Fid) (name : List ℕ) (moment : ℕ) where
  abbrev p : Pack
  p = pack old

  abbrev base : Pack
  base = opened_pack p at

  opened : pack a ≡ after base m.wrote
  opened = pack-after m.grown ∙ ap (after p) m.events ∙ after-append p (opening_writes p at) m.wrote

  abbrev serial : List Event
  serial = serial_writes bt last (sector_at (pack a) bt).value

  abbrev own : Operation
  own = make f name moment

  abbrev ms : List Move
  ms = moves_of (read_as (pack a)) own

  so_far : moves_so_far old (done ++ own ∷ []) all ≡ moves_so_far old done all ++ quiet ∷ ms
  so_far = so_far_append old done (own ∷ []) all ∙ ap (λ l. moves_so_far old done all ++ quiet ∷ l) (append-nil ms)

  joins : (T : Type 0) (writes : List Event) → StaysMendable (with_serial (pack a) bt last) writes own → MakeJoins T Stop base done m.wrote f name moment bt last
  joins T writes stays =
      let first : Goes {T = Unit {0}} {E = Stop} base done m.wrote (Ok tt) = record { begun = done; start = start_self done; writes = m.wrote; line = m.line; some = first_all m.wrote; all = (refl, refl) } in
      serial_and_make_join T (Unit {0}) Stop Stop base done m.wrote tt f name moment bt last writes first
      (subst (λ q. place (sights q) disk_descriptor 1 ≡ Some bt) opened placed) (subst (λ q. (read_as q).last ≤ last) opened above) (subst (λ q. StaysMendable (with_serial q bt last) writes own) opened stays)

  -- ---- the serial isn't given
  module _ (T : Type 0) (three : Kept) (rest : List ℕ) (files : List Fid) (writes : List Event) (stays : StaysMendable (with_serial (pack a) bt last) writes own) (error : Stop) (some : IsFirstOf serial (added a b)) (tally : three.tally ≡ two.tally) (hints : IfHint {T = T} (Err error) (λ place at wanted found. ⊥)) where
    pub serial_failed : Stepped {T = T} old a b one three at done (own ∷ []) all rest files (Err error)
    serial_failed =
        let both : added old b ≡ added old a ++ added a b = added-twice m.grown grown in
        let few : length (added a b) ≤ 1 = first_few serial (added a b) some in
        let many : length (added old b) ≡ length (moves_so_far old done all) + length (added a b) = ap length both ∙ length-append (added old a) (added a b) ∙ ap (λ n. n + length (added a b)) m.many in
        record {
          wrote = m.wrote ++ added a b;
          events = both ∙ ap (λ l. l ++ added a b) m.events ∙ append_assoc (opening_writes p at) m.wrote (added a b);
          goes = (joins T writes stays).serial_breaks (added a b) error (subst (λ q. IsFirstOf (serial_writes bt last (sector_at q bt).value) (added a b)) opened some);
          within = let e = ap length so_far ∙ length-append (moves_so_far old done all) (quiet ∷ ms) in omega (arith, e, few, many);
          midway = tt;
          found = tt;
          counted = λ tells. tally ∙ m.counted.tally ∙ sym (
              ap (λ l. counted old.writes l one.tally) (ap (λ n. take n (moves_so_far old (done ++ own ∷ []) all)) many ∙ ap (take (length (moves_so_far old done all) + length (added a b))) so_far ∙ take_past (moves_so_far old done all) (quiet ∷ ms) (length (added a b)))
              ∙ quiet_taken old.writes one.tally (moves_so_far old done all) ms (length (added a b)) few);
          failing = if_hint_weaker {T = T} (λ place hint wanted found. ⊥) (HintFailing p (added old b) files) (Err error) (λ place hint wanted found h. absurd h) hints;
        }

  -- ---- it is given
  module _ (whole_serial : added a b ≡ serial) where
    here : pack b ≡ with_serial (pack a) bt last
    here = pack-after grown ∙ ap (after (pack a)) whole_serial

    gives : GivesSerial (pack a) last serial
    gives = serial_carries_out (pack a) bt last m.whole m.tidy placed above

    serial_misled : MisledBefore (pack a) serial
    serial_misled = values_misled_before (pack a) disk_descriptor ((bt, serial_value last (sector_at (pack a) bt).value) ∷ []) m.whole gives.keeps.whole refl (place_is_of_its_file (pack a) disk_descriptor 1 bt placed, tt)

    still_free : AreFree (pack b) reserved
    still_free =
        let same = values_leave_free_sectors (pack a) ((bt, serial_value last (sector_at (pack a) bt).value) ∷ []) in
        subst (λ q. AreFree q reserved) (sym here) ((λ k d lt. same (slice_index_or reserved k d) ∙ m.free.0 k d lt), m.free.1)

    still_reserved : TableTrue p one.busy → TableReserves (pack b) two.busy reserved
    still_reserved was =
        let t = m.table was in
        record {
          bits = t.bits ∙ ap (λ l. marked true reserved l) (sym (ap true_table here ∙ (descriptor_writes_leave_the_map (pack a) m.whole m.tidy).serials bt last placed above));
          free = still_free.0;
        }

    counted_serial : CountsOn a b → CountedSoFar old.writes one.tally (moves_so_far old done all ++ quiet ∷ []) (around b two.busy two.tally)
    counted_serial counts = quiet_call_is_counted old.writes one.tally (moves_so_far old done all) (quiet ∷ []) (around a two.busy two.tally) (around b two.busy two.tally) m.counted counts refl refl (sym (ap writes_in whole_serial))

    module _ (c : Taped) (three : Kept) (claimed rest : List ℕ) (files : List Fid) (parts : reserved ≡ claimed ++ rest) (made : Grown b c) (counts_serial : CountsOn a b) (counts_make : CountsOn b c) (low : two.tally.limit < 2 ^ 64)
        (keeps : (q : Pack) → DescriptorFits q two.shape last two.mark two.pages → DescriptorFits q three.shape three.last three.mark three.pages) where
      both : added a c ≡ serial ++ added b c
      both = added-twice grown made ∙ ap (λ l. l ++ added b c) whole_serial

      all_added : added old c ≡ added old a ++ added a c
      all_added = added-twice m.grown (grown_twice grown made)

      step_events : added old c ≡ opening_writes p at ++ (m.wrote ++ (serial ++ added b c))
      step_events = all_added ∙ ap (λ l. l ++ added a c) m.events ∙ append_assoc (opening_writes p at) m.wrote (added a c) ∙ ap (λ l. opening_writes p at ++ (m.wrote ++ l)) both

      many_both : length (added old c) ≡ length (moves_so_far old done all) + suc (length (added b c))
      many_both =
          ap length all_added ∙ length-append (added old a) (added a c) ∙ ap (λ n. n + length (added a c)) m.many
          ∙ ap (λ n. length (moves_so_far old done all) + n) (ap length both)

      low_one : one.tally.limit < 2 ^ 64
      low_one = subst (λ n. n < 2 ^ 64) (ap (λ (t : Tally). t.limit) m.counted.tally ∙ limit_stays old.writes (moves_so_far old done all) one.tally) low

      taken : take (length (added old c)) (moves_so_far old (done ++ own ∷ []) all) ≡ (moves_so_far old done all ++ quiet ∷ []) ++ take (length (added b c)) ms
      taken =
          ap (λ n. take n (moves_so_far old (done ++ own ∷ []) all)) many_both
          ∙ ap (take (length (moves_so_far old done all) + suc (length (added b c)))) so_far
          ∙ take_past (moves_so_far old done all) (quiet ∷ ms) (suc (length (added b c)))
          ∙ sym (append_assoc (moves_so_far old done all) (quiet ∷ []) (take (length (added b c)) ms))

      module _ (T : Type 0) where
        few : (result : Result T Stop) → Operates stop.DiskFault stop.Memory own claimed (around b two.busy two.tally) (around c three.busy three.tally) result → length (added b c) ≤ length ms
        few result (refused calm bad rich) = let e : length (added b c) ≡ 0 = ap length calm.silent in omega (arith, e)
        few result (begun r) = let e = obeys_many r.acts.stays.obeys in let f = first_few r.writes (added b c) r.some in omega (arith, e, f)

        module _ (x : T) (r : BeganToWrite {T = T} stop.DiskFault stop.Memory own claimed (around b two.busy two.tally) (around c three.busy three.tally) (Ok x)) (operates : Operates stop.DiskFault stop.Memory own claimed (around b two.busy two.tally) (around c three.busy three.tally) (Ok x))
            (goes : Goes {T = T} {E = Stop} base (done ++ own ∷ []) (m.wrote ++ (serial ++ added b c)) (Ok x)) where
          ends : pack c ≡ after (pack b) r.writes
          ends = pack-after made ∙ ap (after (pack b)) r.all

          whole_move : length (added b c) ≡ length ms
          whole_move = ap length r.all ∙ obeys_many r.acts.stays.obeys

          known : MisledBefore (after (pack a) serial) (added b c)
          known = subst (λ q. MisledBefore q (added b c)) here (subst (MisledBefore (pack b)) (sym r.all) (written_stays_known (pack b) own claimed r.released r.writes (subst Whole (sym here) gives.keeps.whole) (subst Tidy (sym here) gives.keeps.tidy) r.exact).misled)

          kept_links : KeepsLinks (after (pack a) serial) (added b c)
          kept_links = subst (λ q. KeepsLinks q (added b c)) here (subst (KeepsLinks (pack b)) (sym r.all) r.acts.links)

          behind : pack a ≡ after p (added old a)
          behind = pack-after m.grown

          reserved_then : TableTrue p one.busy → TableReserves (pack c) three.busy rest
          reserved_then was =
              subst (λ q. TableReserves q three.busy rest) (sym ends) (subst (λ t. TableReserves (after (pack b) r.writes) t rest) (sym r.table)
              (operations_use_the_table (pack b) r.writes two.busy claimed rest r.released (subst (TableReserves (pack b) two.busy) parts (still_reserved was)) r.acts.map r.acts.free
              (pairs_apart claimed rest (subst (AreFree (pack b)) parts still_free).1)
              (written_stays_known (pack b) own claimed r.released r.writes (subst Whole (sym here) gives.keeps.whole) (subst Tidy (sym here) gives.keeps.tidy) r.exact).held))

          now_midway : Midway old c one three at (done ++ own ∷ []) all rest
          now_midway = record {
            grown = grown_twice m.grown (grown_twice grown made);
            placed = m.placed;
            wrote = m.wrote ++ (serial ++ added b c);
            events = step_events;
            line = subst (λ l. Batch base l (done ++ own ∷ [])) (sym goes.all.1) (subst (λ l. Batch base goes.writes l) goes.all.0 goes.line);
            many = many_both ∙ ap (λ n. length (moves_so_far old done all) + suc n) whole_move ∙ sym (ap length so_far ∙ length-append (moves_so_far old done all) (quiet ∷ ms));
            reads = ap read_as ends ∙ r.acts.stays.reads ∙ ap (λ s. step s own) (ap read_as here ∙ gives.reads) ∙ ap (λ s. step s own) m.reads ∙ sym (steps_append (read_as p) done (own ∷ []));
            whole = subst Whole (sym ends) r.acts.stays.whole;
            tidy = subst Tidy (sym ends) r.acts.stays.tidy;
            marked = ap (λ q. mark_of (sights q)) ends ∙ ap (λ bytes. word (words_of bytes) 6) r.acts.descriptor.bytes ∙ ap (λ q. mark_of (sights q)) here ∙ gives.mark ∙ m.marked;
            fits = keeps (pack c) (subst (λ q. DescriptorFits q two.shape last two.mark two.pages) (sym ends)
                (r.acts.fits two.shape last two.mark two.pages (subst (λ q. DescriptorFits q two.shape last two.mark two.pages) (sym here)
                ((descriptor_fits_on (pack a) two.shape two.last two.mark two.pages m.whole m.tidy m.fits).serial bt last placed (subst (λ n. n ≤ last) m.fits.last_is above)))));
            counted = subst (λ l. CountedSoFar old.writes one.tally l (around c three.busy three.tally))
                (ap (λ l. (moves_so_far old done all ++ quiet ∷ []) ++ l) (take_all (length (added b c)) ms (let e = whole_move in omega (arith, e))) ∙ append_assoc (moves_so_far old done all) (quiet ∷ []) ms ∙ sym so_far)
                (call_is_counted_on T Stop old.writes one.tally (moves_so_far old done all ++ quiet ∷ []) stop.DiskFault stop.Memory own claimed (around b two.busy two.tally) (around c three.busy three.tally) (Ok x) low_one (counted_serial counts_serial) counts_make operates (λ fault. absurd cc));
            misled = subst (MisledBefore p) (sym all_added) (later_misled_before p (added old a) (added a c) m.misled
                (subst (λ q. MisledBefore q (added a c)) behind (subst (MisledBefore (pack a)) (sym both) (later_misled_before (pack a) serial (added b c) serial_misled known))));
            links = subst (KeepsLinks p) (sym all_added) (links_join p (added old a) (added a c) m.links
                (subst (λ q. KeepsLinks q (added a c)) behind (subst (KeepsLinks (pack a)) (sym both) (links_join (pack a) serial (added b c) (serial_keeps_links (pack a) bt last m.whole m.tidy placed above) kept_links))));
            free = subst (λ q. AreFree q rest) (sym ends) (free_after (pack b) r.writes claimed rest r.acts.free (subst (AreFree (pack b)) parts still_free));
            table = reserved_then;
          }

        step_midway : (result : Result T Stop) → Operates stop.DiskFault stop.Memory own claimed (around b two.busy two.tally) (around c three.busy three.tally) result → Goes base (done ++ own ∷ []) (m.wrote ++ (serial ++ added b c)) result
            → OnOk result (Midway old c one three at (done ++ own ∷ []) all rest)
        step_midway (Err e) operates goes = tt
        step_midway (Ok x) (refused calm bad rich) goes = absurd bad
        step_midway (Ok x) (begun r) goes = now_midway x r (begun r) goes

        now_found : (x : T) → BeganToWrite {T = T} stop.DiskFault stop.Memory own claimed (around b two.busy two.tally) (around c three.busy three.tally) (Ok x) → KeepsFound (pack a) (pack c) (own ∷ [])
        now_found x r =
            subst (λ q. KeepsFound (pack a) q (own ∷ [])) (sym (pack-after made ∙ ap (after (pack b)) r.all ∙ ap (λ q. after q r.writes) here))
            (make_keeps_found (pack a) bt last f name moment claimed r.released r.writes m.whole m.tidy placed above (subst (λ q. Written q own claimed r.released r.writes) here r.exact))

        step_found : (result : Result T Stop) → Operates stop.DiskFault stop.Memory own claimed (around b two.busy two.tally) (around c three.busy three.tally) result → OnOk result (KeepsFound (pack a) (pack c) (own ∷ []))
        step_found (Err e) operates = tt
        step_found (Ok x) (refused calm bad rich) = absurd bad
        step_found (Ok x) (begun r) = now_found x r

        pub serial_and_make : (result : Result T Stop) (writes : List Event) → StaysMendable (with_serial (pack a) bt last) writes own → Operates stop.DiskFault stop.Memory own claimed (around b two.busy two.tally) (around c three.busy three.tally) result → IfHint result (λ place at wanted found. ⊥)
            → Stepped old a c one three at done (own ∷ []) all rest files result
        serial_and_make result writes stays operates hints =
            let goes : Goes base (done ++ own ∷ []) (m.wrote ++ (serial ++ added b c)) result =
            subst (λ q. Goes base (done ++ own ∷ []) (m.wrote ++ (serial_writes bt last (sector_at q bt).value ++ added b c)) result) (sym opened)
            ((joins T writes stays).make_joins stop.DiskFault stop.Memory claimed (around b two.busy two.tally) (around c three.busy three.tally) result (here ∙ ap (λ q. with_serial q bt last) opened) operates)
            in
            record {
              wrote = m.wrote ++ (serial ++ added b c);
              events = step_events;
              goes = goes;
              within = let f = few result operates in let e = ap length so_far ∙ length-append (moves_so_far old done all) (quiet ∷ ms) in let g = many_both in omega (arith, e, f, g);
              midway = step_midway result operates goes;
              found = step_found result operates;
              counted = λ tells.
                  call_is_counted T Stop old.writes one.tally (moves_so_far old done all ++ quiet ∷ []) stop.DiskFault stop.Memory own claimed (around b two.busy two.tally) (around c three.busy three.tally) result low_one (counted_serial counts_serial) operates tells
                  ∙ ap (λ l. counted old.writes l one.tally) (sym taken);
              failing = if_hint_weaker _ _ result (λ place hint wanted found h. absurd h) hints;
            }
