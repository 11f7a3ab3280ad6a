-- A step of a line: a call that is to do one operation, from wherever the line is midway.
use Rattle.std.proofs.Common.{All, AllPairs, Err, List, Ok, OnOk, Option, Result, [], ap, append-nil, append_assoc, arith, length, length-append, refl, slice_index_or, subst, suc, sym, take, take_all, true, zero, ℕ, ◌++◌, ◌+◌, ◌<◌, ◌^◌, ◌∙◌, ◌∷◌, ◌≡◌, ◌≢◌, ◌≤◌}
use Rattle.std.proofs.lemmas.List.Elements.{All-cons, All-head, All-nil, All-tail}
use Rattle.std.proofs.lemmas.List.Kept.{AllPairs-cons}
use Rattle.alto_words.specs.declared.fid.Fid.{Fid}
use Rattle.disk_records.proofs.FirstOnes.{first_all}
use Rattle.disk_records.proofs.Growing.{added-twice, after-append, grown_twice, pack-after}
use Rattle.disk_records.specs.Packs.{Pack, after, is_free_at}
use Rattle.disk_records.specs.Tapes.{Taped, added, pack}
use Rattle.disk_records.specs.Words.{word}
use Rattle.disk_records.specs.declared.records.Event.{Event}
use Rattle.disk_records.specs.declared.records.Page.{Page}
use Rattle.disk_records.specs.declared.records.Place.{Place}
use Rattle.disk_records.specs.declared.records.Tally.{Tally}
use Rattle.exec_session.specs.laws_call.proofs.counts.Laws.{call_is_counted, call_is_counted_on}
use Rattle.exec_session.specs.laws_call.proofs.going.Laws.{call_joins}
use Rattle.exec_session.specs.laws_call.proofs.writing.Laws.{written_stays_known}
use Rattle.exec_session.specs.laws_call.specs.Acting.{BeganToWrite, Operates, around, begun, refused}
use Rattle.exec_session.specs.laws_call.specs.CountLaws.{CountedSoFar}
use Rattle.exec_session.specs.laws_call.specs.Going.{Goes}
use Rattle.exec_session.specs.laws_hint.proofs.lines.Laws.{links_join}
use Rattle.exec_session.specs.laws_hint.proofs.tables.Laws.{operations_use_the_table}
use Rattle.exec_session.specs.laws_hint.specs.LineLinks.{opening_writes}
use Rattle.exec_session.specs.laws_hint.specs.TableLaws.{TableReserves}
use Rattle.exec_session.specs.laws_line.specs.CrashLaws.{Batch}
use Rattle.exec_session.specs.laws_line.specs.Ready.{steps_of}
use Rattle.exec_session.specs.laws_lookup.specs.StayLaws.{MisledBefore}
use Rattle.exec_session.specs.laws_midway.proofs.lines.Laws.{later_answer_misled_before, later_misled_before}
use Rattle.exec_session.specs.laws_operation.specs.FreeLaws.{StayFreeBut}
use Rattle.exec_session.specs.laws_operation.specs.LinkLaws.{KeepsLinks}
use Rattle.exec_session.specs.laws_steps.proofs.lines.Laws.{one_call_keeps_found}
use Rattle.exec_session.specs.laws_steps.specs.LineKeepingLaws.{KeepsFound}
use Rattle.exec_session.specs.pack_laws.proofs.Moving.{start_self}
use Rattle.pack_model.specs.hints.Misled.{AnswersMisled}
use Rattle.pack_model.specs.operations.Committing.{moves_of, moves_of_all, open_moves, serial_moves}
use Rattle.pack_model.specs.operations.Operations.{Move}
use Rattle.pack_model.specs.operations.Step.{Operation, step}
use Rattle.pack_model.specs.reading.Bytes.{words_of}
use Rattle.pack_model.specs.reading.Model.{Model, read_as}
use Rattle.pack_model.specs.reading.Sights.{sights}
use Rattle.pack_model.specs.sessions.Descriptor.{DescriptorFits}
use Rattle.pack_model.specs.sessions.Tallies.{Tells, counted}
use Rattle.pack_model.specs.states.Sound.{mark_of}
use Rattle.pack_model.specs.states.Whole.{Tidy, Whole}
use Rattle.session_model.specs.Keeping.{Kept}
use Rattle.session_model.specs.Turning.{HintFailing}
use Rattle.exec_session.specs.Meant.{IfHint}
use Rattle.exec_session.specs.declared.stop.Stop.{Stop}
use Rattle.exec_session.specs.declared.stop.Stop.TheVariants as stop
use Rattle.exec_steps.proofs.Counting.{first_few, limit_stays, obeys_many, take_past}
use Rattle.exec_steps.specs.Midway.{AreFree, Midway, Stepped, moves_so_far, opened_pack}
use Rattle.exec_steps.specs.Steps.{CallIsAStep}
pub use Rattle.exec_steps.specs.Steps.{Calls, KeepsFitting}

-- ---- moves of operations, one after another
pub moves_append : (m : Model) (ops more : List Operation) → moves_of_all m (ops ++ more) ≡ moves_of_all m ops ++ moves_of_all (steps_of m ops) more
moves_append m [] more = refl
moves_append m (o ∷ ops) more =
    ap (λ l. (serial_moves o ++ moves_of m o) ++ l) (moves_append (step m o) ops more)
    ∙ sym (append_assoc (serial_moves o ++ moves_of m o) (moves_of_all (step m o) ops) (moves_of_all (steps_of (step m o) ops) more))

pub steps_append : (m : Model) (ops more : List Operation) → steps_of m (ops ++ more) ≡ steps_of (steps_of m ops) more
steps_append m [] more = refl
steps_append m (o ∷ ops) more = steps_append (step m o) ops more

pub so_far_append : (old : Taped) (done ops all : List Operation) → moves_so_far old (done ++ ops) all ≡ moves_so_far old done all ++ moves_of_all (steps_of (read_as (pack old)) done) ops
so_far_append old done ops all =
    ap (λ l. open_moves (mark_of (sights (pack old))) all ++ l) (moves_append (read_as (pack old)) done ops)
    ∙ sym (append_assoc (open_moves (mark_of (sights (pack old))) all) (moves_of_all (read_as (pack old)) done) (moves_of_all (steps_of (read_as (pack old)) done) ops))

one_moves : (m : Model) (o : Operation) → serial_moves o ≡ [] → moves_of_all m (o ∷ []) ≡ moves_of m o
one_moves m o none = append-nil (serial_moves o ++ moves_of m o) ∙ ap (λ l. l ++ moves_of m o) none

-- ---- sectors that are reserved
all_right : {X : Type 0} (P : X → Type 0) (xs ys : List X) → All P (xs ++ ys) → All P ys
all_right P [] ys h = h
all_right P (x ∷ xs) ys h = all_right P xs ys (All-tail P x (xs ++ ys) h)

pub pairs_tail : (x : ℕ) (xs : List ℕ) → AllPairs (λ i j. i ≢ j) (x ∷ xs) → AllPairs (λ i j. i ≢ j) xs
pairs_tail x xs h i j d lt within = h (suc i) (suc j) d (omega (arith, lt)) (omega (arith, within))

pairs_right : (xs ys : List ℕ) → AllPairs (λ i j. i ≢ j) (xs ++ ys) → AllPairs (λ i j. i ≢ j) ys
pairs_right [] ys h = h
pairs_right (x ∷ xs) ys h = pairs_right xs ys (pairs_tail x (xs ++ ys) h)

pub pairs_head : (x : ℕ) (xs : List ℕ) → AllPairs (λ i j. i ≢ j) (x ∷ xs) → All (λ j. x ≢ j) xs
pairs_head x xs h k d lt = h zero (suc k) d (omega arith) (omega (arith, lt))

none_of : (at : ℕ) → All (λ i. at ≢ i) []
none_of at k d lt = absurd (omega (arith, lt))

-- those on the right are apart from each on the left
pub pairs_apart : (xs ys : List ℕ) → AllPairs (λ i j. i ≢ j) (xs ++ ys) → All (λ at. All (λ i. at ≢ i) xs) ys
pairs_apart [] ys h k d lt = none_of (slice_index_or ys k d)
pairs_apart (x ∷ xs) ys h k d lt =
    All-cons (λ i. slice_index_or ys k d ≢ i) x xs (λ e. all_right (λ j. x ≢ j) xs ys (pairs_head x (xs ++ ys) h) k d lt (sym e)) (pairs_apart xs ys (pairs_tail x (xs ++ ys) h) k d lt)

all_left : {X : Type 0} (P : X → Type 0) (xs ys : List X) → All P (xs ++ ys) → All P xs
all_left P [] ys h = All-nil P
all_left P (x ∷ xs) ys h = All-cons P x xs (All-head P x (xs ++ ys) h) (all_left P xs ys (All-tail P x (xs ++ ys) h))

pairs_left : (xs ys : List ℕ) → AllPairs (λ i j. i ≢ j) (xs ++ ys) → AllPairs (λ i j. i ≢ j) xs
pairs_left [] ys h = λ i j d lt within. absurd (omega (arith, within))
pairs_left (x ∷ xs) ys h = AllPairs-cons (λ i j. i ≢ j) x xs (all_left (λ j. x ≢ j) xs ys (pairs_head x (xs ++ ys) h)) (pairs_left xs ys (pairs_tail x (xs ++ ys) h))

-- the first of some that are free
pub free_left : (p : Pack) (xs ys : List ℕ) → AreFree p (xs ++ ys) → AreFree p xs
free_left p xs ys free = (all_left (λ i. is_free_at p i ≡ true) xs ys free.0, pairs_left xs ys free.1)

pub free_after : (p : Pack) (writes : List Event) (claimed rest : List ℕ) → StayFreeBut claimed p writes → AreFree p (claimed ++ rest) → AreFree (after p writes) rest
free_after p writes claimed rest stay free = (
  (λ k d lt. stay _ (all_right (λ i. is_free_at p i ≡ true) claimed rest free.0 k d lt) (pairs_apart claimed rest free.1 k d lt)),
  pairs_right claimed rest free.1,
)

-- ---- answers
pub if_hint_weaker : {T : Type 0} (P Q : Place → ℕ → Page → Option (List ℕ) → Type 0) (result : Result T Stop) → ((place : Place) (at : ℕ) (wanted : Page) (found : Option (List ℕ)) → P place at wanted found → Q place at wanted found)
    → IfHint result P → IfHint result Q
if_hint_weaker P Q (Ok x) f h = tt
if_hint_weaker P Q (Err (stop.Refused r)) f h = tt
if_hint_weaker P Q (Err (stop.Misled place at wanted found)) f h = f place at wanted found h
if_hint_weaker P Q (Err stop.DiskFault) f h = tt
if_hint_weaker P Q (Err stop.Memory) f h = tt

-- ---- a call from a line midway
module _ (old now new : Taped) (one two three : Kept) (at : ℕ) (done all : List Operation) (o : Operation) (claimed rest : List ℕ) (files : List Fid) (none : serial_moves o ≡ []) (m : Midway old now one two at done all (claimed ++ rest)) where
  abbrev p : Pack
  p = pack old

  here : pack now ≡ after p (added old now)
  here = pack-after m.grown

  opened : pack now ≡ after (opened_pack p at) m.wrote
  opened = here ∙ ap (after p) m.events ∙ after-append p (opening_writes p at) m.wrote

  abbrev ms : List Move
  ms = moves_of (read_as (pack now)) o

  so_far : moves_so_far old (done ++ o ∷ []) all ≡ moves_so_far old done all ++ ms
  so_far =
      so_far_append old done (o ∷ []) all
      ∙ ap (λ l. moves_so_far old done all ++ l) (one_moves (steps_of (read_as p) done) o none ∙ ap (λ x. moves_of x o) (sym m.reads))

  module _ (T : Type 0) where
    -- no more record writes than moves
    few : (result : Result T Stop) → Operates stop.DiskFault stop.Memory o claimed (around now two.busy two.tally) (around new three.busy three.tally) result → length (added now new) ≤ length ms
    few result (refused calm bad rich) = let e : length (added now new) ≡ 0 = ap length calm.silent in omega (arith, e)
    few result (begun b) = let e = obeys_many b.acts.stays.obeys in let f = first_few b.writes (added now new) b.some in omega (arith, e, f)

    module _ (result : Result T Stop) (c : Calls now new two three o claimed files result) where
      both : added old new ≡ added old now ++ added now new
      both = added-twice m.grown c.grown

      there : pack new ≡ after (pack now) (added now new)
      there = pack-after c.grown

      step_events : added old new ≡ opening_writes p at ++ (m.wrote ++ added now new)
      step_events = both ∙ ap (λ l. l ++ added now new) m.events ∙ append_assoc (opening_writes p at) m.wrote (added now new)

      step_goes : Goes (opened_pack p at) (done ++ o ∷ []) (m.wrote ++ added now new) result
      step_goes =
          let first : Goes {T = Unit {0}} {E = Stop} (opened_pack p at) done m.wrote (Ok tt) = record { begun = done; start = start_self done; writes = m.wrote; line = m.line; some = first_all m.wrote; all = (refl, refl) } in
          call_joins T (Unit {0}) Stop Stop (opened_pack p at) done m.wrote tt stop.DiskFault stop.Memory o claimed (around now two.busy two.tally) (around new three.busy three.tally) result first opened none c.operates

      many_both : length (added old new) ≡ length (moves_so_far old done all) + length (added now new)
      many_both = ap length both ∙ length-append (added old now) (added now new) ∙ ap (λ n. n + length (added now new)) m.many

      step_within : length (added old new) ≤ length (moves_so_far old (done ++ o ∷ []) all)
      step_within =
          let f = few result c.operates in
          let e = ap length so_far ∙ length-append (moves_so_far old done all) ms in
          let g = many_both in
          omega (arith, e, f, g)

      taken : take (length (added old new)) (moves_so_far old (done ++ o ∷ []) all) ≡ moves_so_far old done all ++ take (length (added now new)) ms
      taken = ap (λ n. take n (moves_so_far old (done ++ o ∷ []) all)) many_both ∙ ap (take (length (moves_so_far old done all) + length (added now new))) so_far ∙ take_past (moves_so_far old done all) ms (length (added now new))

      low_one : one.tally.limit < 2 ^ 64
      low_one = subst (λ n. n < 2 ^ 64) (ap (λ (t : Tally). t.limit) m.counted.tally ∙ limit_stays old.writes (moves_so_far old done all) one.tally) c.low

      step_counted : Tells stop.DiskFault new result → three.tally ≡ counted old.writes (take (length (added old new)) (moves_so_far old (done ++ o ∷ []) all)) one.tally
      step_counted tells =
          call_is_counted T Stop old.writes one.tally (moves_so_far old done all) stop.DiskFault stop.Memory o claimed (around now two.busy two.tally) (around new three.busy three.tally) result low_one m.counted c.operates tells
          ∙ ap (λ l. counted old.writes l one.tally) (sym taken)

      step_found : OnOk result (KeepsFound (pack now) (pack new) (o ∷ []))
      step_found =
          subst (λ q. OnOk result (KeepsFound (pack now) q (o ∷ []))) (sym there)
          (one_call_keeps_found T Stop stop.DiskFault stop.Memory o claimed (around now two.busy two.tally) (around new three.busy three.tally) result m.whole m.tidy c.operates)

      step_failing : IfHint result (HintFailing p (added old new) files)
      step_failing = if_hint_weaker _ _ result (λ place hint wanted found h. record {
        misled = subst (λ l. AnswersMisled p l place hint wanted found) (sym both)
            (later_answer_misled_before p (added old now) (added now new) place hint wanted found m.misled (subst Whole here m.whole) (subst (λ q. AnswersMisled q (added now new) place hint wanted found) here h.1));
        on_disk = h.1.on_disk m.whole;
        file = h.0;
      }) c.hints

    -- at Ok
    module _ (x : T) (c : Calls now new two three o claimed files (Ok x)) (b : BeganToWrite {T = T} stop.DiskFault stop.Memory o claimed (around now two.busy two.tally) (around new three.busy three.tally) (Ok x)) where
      ends : pack new ≡ after (pack now) b.writes
      ends = there (Ok x) c ∙ ap (after (pack now)) b.all

      whole_move : length (added now new) ≡ length ms
      whole_move = ap length b.all ∙ obeys_many b.acts.stays.obeys

      known_before : MisledBefore (after p (added old now)) (added now new)
      known_before = subst (λ q. MisledBefore q (added now new)) here (subst (MisledBefore (pack now)) (sym b.all) (written_stays_known (pack now) o claimed b.released b.writes m.whole m.tidy b.exact).misled)

      new_links : KeepsLinks (after p (added old now)) (added now new)
      new_links = subst (λ q. KeepsLinks q (added now new)) here (subst (KeepsLinks (pack now)) (sym b.all) b.acts.links)

      now_midway : Midway old new one three at (done ++ o ∷ []) all rest
      now_midway =
          let g = step_goes (Ok x) c in
          record {
            grown = grown_twice m.grown c.grown;
            placed = m.placed;
            wrote = m.wrote ++ added now new;
            events = step_events (Ok x) c;
            line = subst (λ l. Batch (opened_pack p at) l (done ++ o ∷ [])) (sym g.all.1) (subst (λ l. Batch (opened_pack p at) g.writes l) g.all.0 g.line);
            many = many_both (Ok x) c ∙ ap (λ n. length (moves_so_far old done all) + n) whole_move ∙ sym (ap length so_far ∙ length-append (moves_so_far old done all) ms);
            reads = ap read_as ends ∙ b.acts.stays.reads ∙ ap (λ s. step s o) m.reads ∙ sym (steps_append (read_as p) done (o ∷ []));
            whole = subst Whole (sym ends) b.acts.stays.whole;
            tidy = subst Tidy (sym ends) b.acts.stays.tidy;
            marked = ap (λ q. mark_of (sights q)) ends ∙ ap (λ bytes. word (words_of bytes) 6) b.acts.descriptor.bytes ∙ m.marked;
            fits = c.keeps (pack new) (subst (λ q. DescriptorFits q two.shape two.last two.mark two.pages) (sym ends) (b.acts.fits two.shape two.last two.mark two.pages m.fits));
            counted = subst (λ l. CountedSoFar old.writes one.tally l (around new three.busy three.tally))
                (ap (λ l. moves_so_far old done all ++ l) (take_all (length (added now new)) ms (let e = whole_move in omega (arith, e))) ∙ sym so_far)
                (call_is_counted_on T Stop old.writes one.tally (moves_so_far old done all) stop.DiskFault stop.Memory o claimed (around now two.busy two.tally) (around new three.busy three.tally) (Ok x) (low_one (Ok x) c) m.counted c.counts c.operates (λ fault. absurd cc));
            misled = subst (MisledBefore p) (sym (both (Ok x) c)) (later_misled_before p (added old now) (added now new) m.misled known_before);
            links = subst (KeepsLinks p) (sym (both (Ok x) c)) (links_join p (added old now) (added now new) m.links new_links);
            free = subst (λ q. AreFree q rest) (sym ends) (free_after (pack now) b.writes claimed rest b.acts.free m.free);
            table = λ was. subst (λ q. TableReserves q three.busy rest) (sym ends) (subst (λ t. TableReserves (after (pack now) b.writes) t rest) (sym b.table)
                (operations_use_the_table (pack now) b.writes two.busy claimed rest b.released (m.table was) b.acts.map b.acts.free (pairs_apart claimed rest m.free.1)
                (written_stays_known (pack now) o claimed b.released b.writes m.whole m.tidy b.exact).held));
          }

    step_midway : (result : Result T Stop) → Calls now new two three o claimed files result → OnOk result (Midway old new one three at (done ++ o ∷ []) all rest)
    step_midway (Err e) c = tt
    step_midway (Ok x) c = elim c.operates [
      | refused calm bad rich ↦ absurd bad
      | begun b ↦ now_midway x c b
    ]

    pub steps_from : (result : Result T Stop) → Calls now new two three o claimed files result → Stepped old now new one three at done (o ∷ []) all rest files result
    steps_from result c = record {
      wrote = m.wrote ++ added now new;
      events = step_events result c;
      goes = step_goes result c;
      within = step_within result c;
      midway = step_midway result c;
      found = step_found result c;
      counted = step_counted result c;
      failing = step_failing result c;
    }

pub call_is_a_step : (T : Type 0) → CallIsAStep T
call_is_a_step T now new two three o claimed files result none c old one at done all rest m = steps_from old now new one two three at done all o claimed rest files none m T result c

-- the same, of the type that the call answers
pub step_of_operates : {T : Type 0} → CallIsAStep T
step_of_operates {T} = call_is_a_step T
