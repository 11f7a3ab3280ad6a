-- A file under the next serial, by what the calls say.
use Rattle.std.proofs.Common.{Bool, Err, List, Ok, Result, Some, [], ap, arith, length, refl, subst, sym, take, ℕ, ◌++◌, ◌+◌, ◌<◌, ◌^◌, ◌∙◌, ◌∷◌, ◌≡◌, ◌≤◌}
use Rattle.alto_words.specs.Fid.{disk_descriptor}
use Rattle.alto_words.specs.declared.fid.Fid.{Fid}
use Rattle.disk_records.proofs.Growing.{pack-after}
use Rattle.disk_records.specs.Causes.{HasCause}
use Rattle.disk_records.specs.Events.{writes_in}
use Rattle.disk_records.specs.Packs.{after, sector_at}
use Rattle.disk_records.specs.Tapes.{DiskAlone, Taped, capped, pack}
use Rattle.disk_records.specs.Words.{word}
use Rattle.disk_records.specs.declared.records.Tally.{Tally}
use Rattle.disk_descriptor.specs.Answers.{IfHeld}
use Rattle.disk_descriptor.specs.Fields.{Fields, GivesOne, given, most_last, spent, with_last}
use Rattle.disk_descriptor.specs.Writing.{Writes}
use Rattle.disk_descriptor.specs.declared.errors.DescError.{DescError}
use Rattle.disk_descriptor.specs.declared.errors.DescError.TheVariants as desc
use Rattle.file_pages.specs.Calls.{MayBeMade}
use Rattle.exec_session.specs.hint_cache.specs.declared.hints.Hints.{Hints}
use Rattle.exec_session.specs.laws_call.proofs.counts.Laws.{count_of_a_call}
use Rattle.exec_session.specs.laws_call.specs.Acting.{Operates, around}
use Rattle.exec_session.specs.laws_line.specs.CrashLaws.{with_serial}
use Rattle.exec_session.specs.laws_operation.specs.FileWords.{CanMake}
use Rattle.page_seeking.specs.Causes.{cause_of_length}
use Rattle.page_seeking.specs.Refs as refs
use Rattle.page_seeking.specs.declared.refs.FileError.{FileError}
use Rattle.page_seeking.specs.declared.refs.FileError.TheVariants as fault
use Rattle.page_seeking.specs.declared.refs.FileRef.{FileRef}
use Rattle.pack_model.specs.operations.Step.Operation.{make}
use Rattle.pack_model.specs.reading.Files.{place}
use Rattle.pack_model.specs.reading.Sights.{sights}
use Rattle.pack_model.specs.sessions.Descriptor.{DescriptorFits, serial_writes}
use Rattle.pack_model.specs.states.Whole.{Tidy, Whole}
use Rattle.session_model.specs.Refusals.{most_serials}
use Rattle.exec_session.specs.Meant.{kept}
use Rattle.exec_session.specs.Stops.{stop_of_desc, stop_written}
use Rattle.exec_session.specs.declared.session.Session.{Session}
use Rattle.exec_steps.specs.Asked.{MayMakeNext, made_fid}
use Rattle.exec_steps.specs.Midway.{Midway, StepsOn}
use Rattle.exec_steps.proofs.StepAnswers.{desc_hints, no_hints, written_operates}
use Rattle.exec_steps.proofs.Premises.{above, all_writes, can_make, make_stays, tidy_then, two_of, whole_then}
use Rattle.exec_steps.proofs.NewSerials.{serial_and_make, serial_failed, swapped}

serials_left : (n : ℕ) → n < most_serials → most_last ≤ n → ⊥
unfolding most_serials
serials_left n h k = omega (arith, h, k)

module _ (a b : Taped) (s : Session) (d : Fields) (is_dir : Bool) (name fresh : List ℕ) (many : 2 ≤ length fresh) (may : MayMakeNext (pack a) (kept s) is_dir name fresh) (alone : DiskAlone a b) where
  abbrev f : Fid
  f = made_fid is_dir (s.descriptor.last + 1)

  -- no serial is given
  pub serial_stops : (T U : Type 0) (x : DescError) → GivesOne {T = U} desc.Memory s.descriptor a b (Err x) → IfHeld {T = U} (Err x) (λ at found. ⊥) → StepsOn {T = T} a b (kept s) (kept (record s { descriptor = d })) (make f name s.moment ∷ []) (take 2 fresh) [] (Err (stop_of_desc x))
  serial_stops T U x (spent most silent bad) held = absurd (serials_left s.descriptor.last may.left most)
  serial_stops T U x (given bt low placed writes) held = λ old one at done all rest m.
      serial_failed old a b one (kept s) at done all (take 2 fresh ++ rest) m alone.grown bt (s.descriptor.last + 1) placed (above (pack a) (kept s) is_dir name fresh s.moment bt may many placed) f name s.moment
      T (kept (record s { descriptor = d })) rest [] (all_writes (pack a) (kept s) is_dir name fresh s.moment bt may many placed) (make_stays (pack a) (kept s) is_dir name fresh s.moment bt may many placed) (stop_of_desc x) writes.some refl (desc_hints T U x held)

  -- it is given
  module _ (U : Type 0) (serial : U) (bt : ℕ) (placed : place (sights (pack a)) disk_descriptor 1 ≡ Some bt) (writes : Writes {T = U} desc.Memory (serial_writes bt (s.descriptor.last + 1) (sector_at (pack a) bt).value) 3 a b (Ok serial)) where
    here : pack b ≡ with_serial (pack a) bt (s.descriptor.last + 1)
    here = pack-after alone.grown ∙ ap (after (pack a)) writes.ok

    pub may_be_made : MayBeMade (pack b) f name (word fresh 0) (word fresh 1)
    may_be_made = record {
      whole = subst Whole (sym here) (whole_then (pack a) (kept s) is_dir name fresh s.moment bt may many placed);
      tidy = subst Tidy (sym here) (tidy_then (pack a) (kept s) is_dir name fresh s.moment bt may many placed);
      can = subst (λ q. CanMake q f name (word fresh 0) (word fresh 1)) (sym here) (can_make (pack a) (kept s) is_dir name fresh s.moment bt may many placed);
    }

    module _ (c : Taped) (h : Hints) (u : Tally) (made : DiskAlone b c) (first : a.writes ≡ capped (writes_in a.events)) (next : b.writes ≡ capped (writes_in b.events)) (last : c.writes ≡ capped (writes_in c.events)) (low : s.tally.limit < 2 ^ 64) (same : d ≡ with_last (s.descriptor.last + 1) s.descriptor)
        (file : FileRef) (result : Result (Unit {0}) FileError) (cause : HasCause cause_of_length b c result) (unhinted : refs.IfMisled result (λ place at wanted found. ⊥))
        (operates : Operates fault.DiskFault fault.Memory (make f name s.moment) (word fresh 1 ∷ word fresh 0 ∷ []) (around b s.hints.table s.tally) (around c h.table u) result) where
      pub made_steps : StepsOn a c (kept s) (kept (record s { descriptor = d; hints = h; tally = u })) (make f name s.moment ∷ []) (take 2 fresh) [] (stop_written file result)
      made_steps old one at done all rest m =
          let m2 : Midway old a one (kept s) at done all (word fresh 1 ∷ word fresh 0 ∷ rest) = swapped (word fresh 0) (word fresh 1) (subst (λ l. Midway old a one (kept s) at done all (l ++ rest)) (two_of fresh many) m) in
          serial_and_make old a b one (kept s) at done all (word fresh 1 ∷ word fresh 0 ∷ rest) m2 alone.grown bt (s.descriptor.last + 1) placed (above (pack a) (kept s) is_dir name fresh s.moment bt may many placed) f name s.moment
          writes.ok c (kept (record s { descriptor = d; hints = h; tally = u })) (word fresh 1 ∷ word fresh 0 ∷ []) rest [] refl made.grown (count_of_a_call a b alone.grown first next) (count_of_a_call b c made.grown next last) low
          (λ q fits. subst (λ (e : Fields). DescriptorFits q e.shape e.last e.mark e.pages) (sym same) fits)
          (Unit {0}) (stop_written file result) (all_writes (pack a) (kept s) is_dir name fresh s.moment bt may many placed) (make_stays (pack a) (kept s) is_dir name fresh s.moment bt may many placed)
          (written_operates {old = around b s.hints.table s.tally} {new = around c h.table u} file result operates) (no_hints file b c result cause unhinted)

  module _ (U : Type 0) (serial : U) (gives : GivesOne {T = U} desc.Memory s.descriptor a b (Ok serial)) (fid : Fid) (fid_is : fid ≡ f) where
    -- the file is made, or isn't
    pub made_next : (c : Taped) (h : Hints) (u : Tally) → DiskAlone b c → a.writes ≡ capped (writes_in a.events) → b.writes ≡ capped (writes_in b.events) → c.writes ≡ capped (writes_in c.events) → s.tally.limit < 2 ^ 64 → d ≡ with_last (s.descriptor.last + 1) s.descriptor
        → (file : FileRef) (result : Result (Unit {0}) FileError) → HasCause cause_of_length b c result
        → (MayBeMade (pack b) fid name (word fresh 0) (word fresh 1) → refs.IfMisled result (λ place at wanted found. ⊥))
        → (MayBeMade (pack b) fid name (word fresh 0) (word fresh 1) → Operates fault.DiskFault fault.Memory (make fid name s.moment) (word fresh 1 ∷ word fresh 0 ∷ []) (around b s.hints.table s.tally) (around c h.table u) result)
        → StepsOn a c (kept s) (kept (record s { descriptor = d; hints = h; tally = u })) (make f name s.moment ∷ []) (take 2 fresh) [] (stop_written file result)
    made_next c h u made first next last low same file result cause unhinted operates = by gives
      where
        by : GivesOne {T = U} desc.Memory s.descriptor a b (Ok serial) → StepsOn a c (kept s) (kept (record s { descriptor = d; hints = h; tally = u })) (make f name s.moment ∷ []) (take 2 fresh) [] (stop_written file result)
        by (spent most silent bad) = absurd bad
        by (given bt low_serial placed writes) =
            let may_be : MayBeMade (pack b) fid name (word fresh 0) (word fresh 1) = subst (λ g. MayBeMade (pack b) g name (word fresh 0) (word fresh 1)) (sym fid_is) (may_be_made U serial bt placed writes) in
            made_steps U serial bt placed writes c h u made first next last low same file result cause (unhinted may_be)
            (subst (λ g. Operates fault.DiskFault fault.Memory (make g name s.moment) (word fresh 1 ∷ word fresh 0 ∷ []) (around b s.hints.table s.tally) (around c h.table u) result) fid_is (operates may_be))

    -- and what is asked of the make holds
    pub asked_of_make : MayBeMade (pack b) fid name (word fresh 0) (word fresh 1)
    asked_of_make = by gives
      where
        by : GivesOne {T = U} desc.Memory s.descriptor a b (Ok serial) → MayBeMade (pack b) fid name (word fresh 0) (word fresh 1)
        by (spent most silent bad) = absurd bad
        by (given bt low_serial placed writes) = subst (λ g. MayBeMade (pack b) g name (word fresh 0) (word fresh 1)) (sym fid_is) (may_be_made U serial bt placed writes)
