-- A pack that is opened, or isn't, and then the session.
use Rattle.std.proofs.Common.{◌≡◌, ◌⊎◌, ◌==◌, Bool, true, false, ℕ, List, [], ◌++◌, Option, Some, None, inl, inr, refl, sym, subst, ap, ◌∙◌, eq-eqb}
use Rattle.std.proofs.lemmas.Bool.{ne_eqb}
use Rattle.alto_words.specs.declared.fid.Fid.{Fid}
use Rattle.executive.specs.disk_descriptor.specs.declared.errors.OpenError.{OpenError}
use Rattle.executive.specs.disk_descriptor.specs.declared.errors.OpenError.TheVariants as error
use Rattle.disk_records.specs.declared.records.Event.{Event}
use Rattle.disk_records.specs.declared.records.Tally.{Tally}
use Rattle.disk_records.specs.Packs.{AreFormed, Pack}
use Rattle.disk_records.specs.Causes.{IsCause, Unfailed}
use Rattle.disk_records.specs.Tapes.{DiskAlone, Grown, Rose, ShowAlone, Taped, added, pack}
use Rattle.disk_records.proofs.Growing.{added-twice}
use Rattle.exec_session.specs.Opens.{MayMislead, Refuses, cause_of_open}
use Rattle.executive.specs.laws_contents.proofs.pages.Laws.{formed_pages_have_256_words}
use Rattle.executive.specs.laws_lookup.proofs.hints.Laws.{true_hints_never_mislead}
use Rattle.executive.specs.laws_record.proofs.sentences.Laws.{sentences_hold}
use Rattle.executive.specs.laws_session.proofs.begins.Laws.{sound_packs_are_ready}
use Rattle.executive.specs.pack_model.specs.hints.Tables.{HintsTrue}
use Rattle.executive.specs.pack_model.specs.operations.Operations.{Move}
use Rattle.executive.specs.pack_model.specs.reading.Sights.{sights}
use Rattle.executive.specs.pack_model.specs.sessions.Tallies.{no_tally}
use Rattle.executive.specs.pack_model.specs.sessions.Turns.{Turn}
use Rattle.executive.specs.pack_model.specs.states.Sentences.{EachOnce}
use Rattle.executive.specs.pack_model.specs.states.Sound.{Clean, Sound, mark_clean, mark_of}
use Rattle.session_model.specs.Ending.{BootOf, CanStop, IsOver, IsPastRoot, NotBegun, NotEntered, ShowsWhy, Stop, Unentered, disk_failed, display_failed, done, keys_failed, misled, needs_scavenge, no_memory, opened, reasoned, stopped, unopened}
use Rattle.session_model.specs.Histories.{HistoryOf, NoneFailed, NoneFailedIn, TurnsOf, aloud, begun, broken, then, whole}
use Rattle.session_model.specs.Keeping.{Kept}
use Rattle.session_model.specs.Opening.{Unready, bad_descriptor, no_descriptor, no_root, not_clean, system_files, unless_so, unready, unready_text, wrong_length}
use Rattle.session_model.specs.Turning.{Cue, HintFailing, State, opening}
use Rattle.session_boot.specs.Boots.{AnswersBoot, Booted, Boots, DoesntEnter, EndsAs, LastsTo, NamesHint, NoneRose, TellsInOrder, TellsMark}
use Rattle.session_boot.specs.Faults.{HasStatusCause, NoFault, UnlessStopped, cause_of_fault, status_of, status_of_need, stop_of, stop_of_need}
use Rattle.session_boot.specs.Opening.{IsNoDiskFault, IsReason, Refused, ShowsReason, reason}
use Rattle.session_boot.specs.declared.status.Fault.{Fault}
use Rattle.session_boot.specs.declared.status.Fault.TheVariants.{Disk, Key, Display, Memory}
use Rattle.session_boot.specs.declared.status.Status.{Status}
use Rattle.session_boot.specs.declared.status.Status.TheVariants as status
use Rattle.session_boot.proofs.SoFar.{unfailed_need}
use Rattle.session_boot.proofs.Unfailing.{fault_after, none_of_disk, none_twice}

-- ---- a sound and clean pack is ready
pub sound_once : (p : Pack) → Sound p → EachOnce (sights p)
sound_once p sound = (sentences_hold p sound.whole).pages.once

sound_ready : (p : Pack) → Sound p → Clean p → unready p ≡ None
sound_ready p sound clean =
    let is_clean : (mark_of (sights p) == mark_clean) ≡ true = eq-eqb (mark_of (sights p)) mark_clean clean.mark in
    sound_packs_are_ready p sound ∙ ap (λ b. unless_so b (not_clean (mark_of (sights p)))) is_clean

sound_unready : (p : Pack) → Sound p → (Clean p → ⊥) → unready p ≡ Some (not_clean (mark_of (sights p)))
sound_unready p sound unclean =
    let is_open : (mark_of (sights p) == mark_clean) ≡ false = ne_eqb (mark_of (sights p)) mark_clean (λ is. unclean (record { lives = sound.whole.descriptor_lives; mark = is })) in
    sound_packs_are_ready p sound ∙ ap (λ b. unless_so b (not_clean (mark_of (sights p)))) is_open

not_both : {X : Type 0} (p : Pack) (u : Unready) → unready p ≡ None → unready p ≡ Some u → X
not_both p u none some = absurd (let both : ◌≡◌ {A = Option Unready} None (Some u) = sym none ∙ some in cc)

-- ---- a session that needs a scavenge had a hint that failed
none_failed_need : {moment : ℕ} {p : Pack} {events : List Event} {cs : List Cue} {turns : List (Turn Move)} {u : State} (h : TurnsOf aloud p (opening p moment) events cs turns u) → NoneFailed h → u.world.need ≡ false
none_failed_need begun none = refl
none_failed_need (then so_far turn) none = unfailed_need turn.finished.kind none.1 (none_failed_need so_far none.0)

never_needs : {moment : ℕ} {p : Pack} {events : List Event} {cs : List Cue} {turns : List (Turn Move)} {end : Option State} {X : Type 0} (h : HistoryOf aloud p (opening p moment) events cs turns end) → NoneFailedIn h → IsOver true end → X
never_needs (whole {u = u} so_far) none over = absurd (let is : u ≡ over.state = some_same over.is in let both : true ≡ false = sym over.need_is ∙ ap (λ s. s.world.need) (sym is) ∙ none_failed_need so_far none in cc)
  where
    some_same : {a b : State} → Some a ≡ Some b → a ≡ b
    some_same e = cc
never_needs (broken so_far turn) none over = absurd (let both : ◌≡◌ {A = Option State} None (Some over.state) = over.is in cc)

never_misleads : {X : Type 0} (p : Pack) → Sound p → AreFormed p → HintsTrue p → {place : _} {at : ℕ} {wanted : _} {found : _} → HintFailing p [] system_files place at wanted found → X
never_misleads p sound formed hints {place} {at} {wanted} failing =
    absurd (true_hints_never_mislead p place at wanted sound.whole sound.tidy (λ i page e. formed_pages_have_256_words p i page formed e) hints.links failing.on_disk failing.misled.misled)

-- ---- completeness
module _ (moment : ℕ) (x z : Taped) (given tally : Tally) (sound : Sound (pack x)) (formed : AreFormed (pack x)) (hints : HintsTrue (pack x)) where
  no_need : {X : Type 0} → BootOf moment x z given tally needs_scavenge → X
  no_need (opened session ends) = never_needs session.history (session.unfailed hints) ends
  no_need (unopened failing shows nothing) = never_misleads (pack x) sound formed hints failing
  no_need (stopped can none nothing) = absurd can

  pub completes : (answer : Status) → Boots moment x z given tally answer → HasStatusCause x z answer → NoneRose x z → (answer ≡ status.Done) ⊎ (answer ≡ status.Memory)
  completes status.Done boots cause none = inl refl
  completes status.Usage boots cause none = absurd boots
  completes status.NeedsScavenge boots cause none = no_need boots
  completes status.DiskFault boots cause none = absurd (none.disk cause)
  completes status.KeyFault boots cause none = absurd (none.keys cause)
  completes status.DisplayFault boots cause none = absurd (none.display cause)
  completes status.Memory boots cause none = inr refl
  completes status.CannotScavenge boots cause none = absurd boots

-- ---- it isn't opened
ends_as : {P Q : Stop → Type 0} (answer : Status) → ((stop : Stop) → P stop → Q stop) → EndsAs answer P → EndsAs answer Q
ends_as status.Done so h = so done h
ends_as status.Usage so h = h
ends_as status.NeedsScavenge so h = so needs_scavenge h
ends_as status.DiskFault so h = so disk_failed h
ends_as status.KeyFault so h = so keys_failed h
ends_as status.DisplayFault so h = so display_failed h
ends_as status.Memory so h = so no_memory h
ends_as status.CannotScavenge so h = h

-- the mark of a sound pack is the reason
tells_mark : (x z : Taped) (given tally : Tally) (answer : Status) → DoesntEnter x z given tally answer → Sound (pack x) → (Clean (pack x) → ⊥) → TellsMark x z given tally answer
tells_mark x z given tally answer unentered sound unclean = ends_as answer (λ stop h. h (not_clean (mark_of (sights (pack x)))) (sound_once (pack x) sound) (sound_unready (pack x) sound unclean)) unentered

-- the text is shown, or the call stopped before it
shows_or_stops : (e : OpenError) (y z : Taped) (answer : Status) → Refused e y z answer → ShowsReason e y z answer → (P : Stop → Type 0) → ((stop : Stop) → IsReason e → ShowsWhy stop (reason e) (added y z) → P stop) → ((stop : Stop) → CanStop stop → added y z ≡ [] → P stop) → EndsAs answer P
shows_or_stops e y z status.Done refused shown P why stops = absurd refused
shows_or_stops e y z status.Usage refused shown P why stops = absurd refused
shows_or_stops e y z status.NeedsScavenge refused shown P why stops = why needs_scavenge refused shown
shows_or_stops e y z status.DiskFault refused shown P why stops = stops disk_failed tt shown
shows_or_stops e y z status.KeyFault refused shown P why stops = absurd refused
shows_or_stops e y z status.DisplayFault refused shown P why stops = why display_failed refused.0 shown
shows_or_stops e y z status.Memory refused shown P why stops = stops no_memory tt shown
shows_or_stops e y z status.CannotScavenge refused shown P why stops = absurd refused

module _ {x y z : Taped} (e : OpenError) (given tally : Tally) (first : Grown x y) (second : Grown y z) (silent : added x y ≡ []) (keys : z.keys ≡ x.keys) (tally_is : tally ≡ no_tally given.limit) where
  both : added x z ≡ added y z
  both = added-twice first second ∙ ap (λ l. l ++ added y z) silent

  not_begun : NotBegun x z given tally
  not_begun = record { keys = keys; tally_is = tally_is }

  unopened_by : (moment : ℕ) (stop : Stop) (e : OpenError) → unready (pack x) ≡ None → Refuses (pack x) e → IsReason e → ShowsWhy stop (reason e) (added x z) → BootOf moment x z given tally stop
  unopened_by moment stop (error.NoRoot found) ready refuses is shows = not_both (pack x) _ ready refuses
  unopened_by moment stop error.NoDescriptor ready refuses is shows = not_both (pack x) _ ready refuses
  unopened_by moment stop (error.WrongLength size) ready refuses is shows = not_both (pack x) _ ready refuses
  unopened_by moment stop (error.BadDescriptor word found) ready refuses is shows = not_both (pack x) _ ready refuses
  unopened_by moment stop (error.NotClean mark) ready refuses is shows = not_both (pack x) _ ready refuses
  unopened_by moment stop (error.Misled place at wanted found) ready refuses is shows = unopened refuses.failing shows not_begun
  unopened_by moment stop error.DiskFault ready refuses is shows = absurd is
  unopened_by moment stop error.Memory ready refuses is shows = absurd is

  reason_of : (stop : Stop) (u v : Unready) → unready (pack x) ≡ Some u → unready (pack x) ≡ Some v → ShowsWhy stop (unready_text v) (added x z) → ShowsWhy stop (unready_text u) (added x z)
  reason_of stop u v one two shows = subst (λ w. ShowsWhy stop (unready_text w) (added x z)) (let same : Some v ≡ Some u = sym two ∙ one in cc) shows

  past_root : (u : Unready) → unready (pack x) ≡ Some u → (f : Fid) → MayMislead f (unready (pack x)) → IsPastRoot u
  past_root (no_root found) is f may = subst (MayMislead f) is may
  past_root no_descriptor is f may = tt
  past_root (wrong_length size) is f may = tt
  past_root (bad_descriptor n found) is f may = tt
  past_root (not_clean mark) is f may = tt

  unentered_by : (stop : Stop) (e : OpenError) (u : Unready) → unready (pack x) ≡ Some u → Refuses (pack x) e → IsReason e → ShowsWhy stop (reason e) (added x z) → Unentered x z stop u
  unentered_by stop (error.NoRoot found) u is refuses reasons shows = reasoned (reason_of stop u (no_root found) is refuses shows)
  unentered_by stop error.NoDescriptor u is refuses reasons shows = reasoned (reason_of stop u no_descriptor is refuses shows)
  unentered_by stop (error.WrongLength size) u is refuses reasons shows = reasoned (reason_of stop u (wrong_length size) is refuses shows)
  unentered_by stop (error.BadDescriptor word found) u is refuses reasons shows = reasoned (reason_of stop u (bad_descriptor word found) is refuses shows)
  unentered_by stop (error.NotClean mark) u is refuses reasons shows = reasoned (reason_of stop u (not_clean mark) is refuses shows)
  unentered_by stop (error.Misled place at wanted found) u is refuses reasons shows = misled (past_root u is wanted.fid refuses.in_order) refuses.failing shows
  unentered_by stop error.DiskFault u is refuses reasons shows = absurd reasons
  unentered_by stop error.Memory u is refuses reasons shows = absurd reasons

  told_by : (stop : Stop) (e : OpenError) (u : Unready) → unready (pack x) ≡ Some u → Refuses (pack x) e → IsReason e → ShowsWhy stop (reason e) (added x z) → ShowsWhy stop (unready_text u) (added x z) ⊎ (NamesHint x z stop ⊎ (added x z ≡ []))
  told_by stop (error.NoRoot found) u is refuses reasons shows = inl (reason_of stop u (no_root found) is refuses shows)
  told_by stop error.NoDescriptor u is refuses reasons shows = inl (reason_of stop u no_descriptor is refuses shows)
  told_by stop (error.WrongLength size) u is refuses reasons shows = inl (reason_of stop u (wrong_length size) is refuses shows)
  told_by stop (error.BadDescriptor word found) u is refuses reasons shows = inl (reason_of stop u (bad_descriptor word found) is refuses shows)
  told_by stop (error.NotClean mark) u is refuses reasons shows = inl (reason_of stop u (not_clean mark) is refuses shows)
  told_by stop (error.Misled place at wanted found) u is refuses reasons shows = inr (inl (record { place = place; at = at; wanted = wanted; found = found; misled = refuses; shows = shows }))
  told_by stop error.DiskFault u is refuses reasons shows = absurd reasons
  told_by stop error.Memory u is refuses reasons shows = absurd reasons

  pub refused_boots : (moment : ℕ) (answer : Status) → AreFormed (pack x) → (EachOnce (sights (pack x)) → Refuses (pack x) e) → Refused e y z answer → ShowsReason e y z answer → HasStatusCause x z answer → Booted moment x z given tally answer
  refused_boots moment answer formed refuses refused shown cause =
      let boots : Sound (pack x) → Clean (pack x) → Boots moment x z given tally answer = λ sound clean.
      shows_or_stops e y z answer refused shown (λ stop. BootOf moment x z given tally stop)
      (λ stop is shows. unopened_by moment stop e (sound_ready (pack x) sound clean) (refuses (sound_once (pack x) sound)) is (subst (ShowsWhy stop (reason e)) (sym both) shows))
      (λ stop can none. stopped can (both ∙ none) not_begun) in
      let unentered : DoesntEnter x z given tally answer = shows_or_stops e y z answer refused shown (λ stop. NotEntered x z given tally stop)
      (λ stop is shows u once ready. (unentered_by stop e u ready (refuses once) is (subst (ShowsWhy stop (reason e)) (sym both) shows), not_begun))
      (λ stop can none u once ready. (stopped can (both ∙ none), not_begun)) in
      record {
        boots = boots;
        complete = λ sound clean hints none. completes moment x z given tally sound formed hints answer (boots sound clean) cause none;
        not_entered = unentered;
        in_order = shows_or_stops e y z answer refused shown (λ stop. TellsInOrder x z stop)
            (λ stop is shows u once ready. told_by stop e u ready (refuses once) is (subst (ShowsWhy stop (reason e)) (sym both) shows))
            (λ stop can none u once ready. inr (inr (both ∙ none)));
        open_mark = tells_mark x z given tally answer unentered;
      }

-- ---- it is
need_ends : (b : Bool) (P : Stop → Type 0) → P (stop_of_need b) → EndsAs (status_of_need b) P
need_ends false P h = h
need_ends true P h = h

fault_ends : (fault : Fault) (P : Stop → Type 0) → P (stop_of fault) → EndsAs (status_of fault) P
fault_ends Disk P h = h
fault_ends Key P h = h
fault_ends Display P h = h
fault_ends Memory P h = h

lasts_boot : {moment : ℕ} {x z : Taped} {given tally : Tally} {stop : Stop} → LastsTo moment x z given tally stop → BootOf moment x z given tally stop
lasts_boot l = opened l.session l.ends

each_ends : (answer : Status) (P : Stop → Type 0) → AnswersBoot answer → ((stop : Stop) → P stop) → EndsAs answer P
each_ends status.Done P other h = h done
each_ends status.Usage P other h = absurd other
each_ends status.NeedsScavenge P other h = h needs_scavenge
each_ends status.DiskFault P other h = h disk_failed
each_ends status.KeyFault P other h = h keys_failed
each_ends status.DisplayFault P other h = h display_failed
each_ends status.Memory P other h = h no_memory
each_ends status.CannotScavenge P other h = absurd other

pub opened_boots : (moment : ℕ) (x z : Taped) (given tally : Tally) (answer : Status) → AreFormed (pack x) → AnswersBoot answer → (EachOnce (sights (pack x)) → unready (pack x) ≡ None) → (Sound (pack x) → Boots moment x z given tally answer) → HasStatusCause x z answer → Booted moment x z given tally answer
opened_boots moment x z given tally answer formed other ready boots cause =
    let unentered : DoesntEnter x z given tally answer = each_ends answer (λ stop. NotEntered x z given tally stop) other (λ stop u once is. not_both (pack x) u (ready once) is) in
    record {
      boots = λ sound clean. boots sound;
      complete = λ sound clean hints none. completes moment x z given tally sound formed hints answer (boots sound) cause none;
      not_entered = unentered;
      in_order = each_ends answer (λ stop. TellsInOrder x z stop) other (λ stop u once is. not_both (pack x) u (ready once) is);
      open_mark = tells_mark x z given tally answer unentered;
    }

pub ended_boots : (moment : ℕ) (x z : Taped) (given : Tally) (two : Kept) → LastsTo moment x z given two.tally (stop_of_need two.need) → Boots moment x z given two.tally (status_of_need two.need)
ended_boots moment x z given two l = need_ends two.need (λ stop. BootOf moment x z given two.tally stop) (lasts_boot l)

pub failed_boots : (moment : ℕ) (x z : Taped) (given tally : Tally) (fault : Fault) → LastsTo moment x z given tally (stop_of fault) → Boots moment x z given tally (status_of fault)
failed_boots moment x z given tally fault l = fault_ends fault (λ stop. BootOf moment x z given tally stop) (lasts_boot l)

-- ---- causes
-- where the reason isn't a fault of the disk, none came
none_of_reason : (x y : Taped) (e : OpenError) → IsNoDiskFault e → IsCause x y (cause_of_open e) → Unfailed x y
none_of_reason x y (error.NoRoot found) other cause = cause
none_of_reason x y error.NoDescriptor other cause = cause
none_of_reason x y (error.WrongLength size) other cause = cause
none_of_reason x y (error.BadDescriptor word found) other cause = cause
none_of_reason x y (error.NotClean mark) other cause = cause
none_of_reason x y (error.Misled place at wanted found) other cause = cause
none_of_reason x y error.DiskFault other cause = absurd other
none_of_reason x y error.Memory other cause = cause

reason_is_no_fault : (e : OpenError) → IsReason e → IsNoDiskFault e
reason_is_no_fault (error.NoRoot found) is = tt
reason_is_no_fault error.NoDescriptor is = tt
reason_is_no_fault (error.WrongLength size) is = tt
reason_is_no_fault (error.BadDescriptor word found) is = tt
reason_is_no_fault (error.NotClean mark) is = tt
reason_is_no_fault (error.Misled place at wanted found) is = tt
reason_is_no_fault error.DiskFault is = absurd is
reason_is_no_fault error.Memory is = absurd is

module _ (x y z : Taped) (e : OpenError) (first : DiskAlone x y) (second : ShowAlone y z) (cause : IsCause x y (cause_of_open e)) where
  none : IsNoDiskFault e → Unfailed x z
  none other = second.disk_faults ∙ none_of_reason x y e other cause

  pub refused_cause : (answer : Status) → Refused e y z answer → HasStatusCause x z answer
  refused_cause status.Done refused = absurd refused
  refused_cause status.Usage refused = absurd refused
  refused_cause status.NeedsScavenge refused = none (reason_is_no_fault e refused)
  refused_cause status.DiskFault refused = subst (Rose x.disk_faults) (sym second.disk_faults) (subst (λ f. IsCause x y (cause_of_open f)) refused cause)
  refused_cause status.KeyFault refused = absurd refused
  refused_cause status.DisplayFault refused = subst (λ n. Rose n z.show_faults) first.show_faults refused.1
  refused_cause status.Memory refused = none refused
  refused_cause status.CannotScavenge refused = absurd refused

  pub refused_unfailed : (answer : Status) → Refused e y z answer → UnlessStopped answer (NoFault y z) → UnlessStopped answer (NoFault x z)
  refused_unfailed status.Done refused after = absurd refused
  refused_unfailed status.Usage refused after = absurd refused
  refused_unfailed status.NeedsScavenge refused after = none_twice (none_of_disk first (none_of_reason x y e (reason_is_no_fault e refused) cause)) after
  refused_unfailed status.DiskFault refused after = tt
  refused_unfailed status.KeyFault refused after = tt
  refused_unfailed status.DisplayFault refused after = tt
  refused_unfailed status.Memory refused after = tt
  refused_unfailed status.CannotScavenge refused after = absurd refused

pub need_cause : (x z : Taped) (b : Bool) → NoFault x z → HasStatusCause x z (status_of_need b)
need_cause x z false none = none.disk
need_cause x z true none = none.disk

pub need_unfailed : (holds : Type 0) (b : Bool) → holds → UnlessStopped (status_of_need b) holds
need_unfailed holds false is = is
need_unfailed holds true is = is

pub fault_cause : (x y z : Taped) (fault : Fault) → NoFault x y → IsCause y z (cause_of_fault fault) → HasStatusCause x z (status_of fault)
fault_cause x y z Disk none cause = fault_after z Disk none cause
fault_cause x y z Key none cause = fault_after z Key none cause
fault_cause x y z Display none cause = fault_after z Display none cause
fault_cause x y z Memory none cause = fault_after z Memory none cause

pub need_answers : (b : Bool) → AnswersBoot (status_of_need b)
need_answers false = tt
need_answers true = tt

pub fault_answers : (fault : Fault) → AnswersBoot (status_of fault)
fault_answers Disk = tt
fault_answers Key = tt
fault_answers Display = tt
fault_answers Memory = tt
