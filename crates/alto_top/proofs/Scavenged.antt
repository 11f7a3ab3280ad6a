-- A pack that was scavenged or refused, and the text that tells it.
use Rattle.std.proofs.Common.{◌≡◌, ◌≢◌, ◌⊎◌, ℕ, ◌+◌, ◌-◌, ◌<◌, ◌≤◌, List, [], ◌∷◌, ◌++◌, length, take, Some, None, Result, Ok, Err, inl, inr, refl, sym, ap, subst, ◌∙◌, arith, append-nil}
use Rattle.std.proofs.Math.Seq.{take-append-add}
use Rattle.std.proofs.lemmas.Bool.{cases_lt}
use Rattle.std.proofs.lemmas.List.{take-append-le, take_all}
use Rattle.disk_records.specs.declared.records.Event.{Event}
use Rattle.disk_records.specs.declared.records.Event.TheVariants.{Shown}
use Rattle.disk_records.specs.Causes.{IsCause, Unfailed, of_display}
use Rattle.disk_records.specs.Frames.{IsUsableSector, WritesIn}
use Rattle.disk_records.specs.Events.{IsFirstOf, shown_bytes, shown_events, writes_in}
use Rattle.disk_records.specs.Packs.{Pack, after, crash}
use Rattle.disk_records.specs.Tapes.{DiskAlone, Grown, Rose, ShowAlone, Taped, added, pack}
use Rattle.disk_records.proofs.Growing.{added-twice, after-append, grown_twice, pack-after, shown-events, writes-append}
use Rattle.exec_words.specs.Texts.{report_text}
use Rattle.pack_model.specs.scavenger.Reports.{Scavenged}
use Rattle.pack_model.specs.scavenger.Scavenging.{Refusal, Scavengeable, first_refusal}
use Rattle.pack_model.specs.scavenger.Scavenging.Refusal.{root_bad, root_taken, pack_full}
use Rattle.pack_model.specs.showing.Settling.{show}
use Rattle.pack_model.specs.states.Sound.{Clean, Sound}
use Rattle.scavenger.specs.laws_room.proofs.rooms.Laws.{scavengeable_is_unrefused}
use Rattle.scavenger.specs.declared.errors.Report.{Report}
use Rattle.scavenger.specs.declared.errors.ScavError.{ScavError}
use Rattle.scavenger.specs.declared.errors.ScavError.TheVariants as error
use Rattle.scavenger.specs.Answers.{Answers, refusal_in, report_in}
use Rattle.scavenger.specs.Scavenges.{IsSafe, Scavenges}
use Rattle.session_boot.specs.Boots.{NoneRose}
use Rattle.session_boot.specs.Faults.{HasStatusCause, cause_of_fault, status_of}
use Rattle.session_boot.specs.Keys.{ShownAll}
use Rattle.session_boot.specs.declared.status.Fault.{Fault}
use Rattle.session_boot.specs.declared.status.Fault.TheVariants.{Disk, Key, Display, Memory}
use Rattle.session_boot.specs.declared.status.Status.{Status}
use Rattle.session_boot.specs.declared.status.Status.TheVariants as status
use Rattle.alto_top.specs.declared.scavenging.Told.{Told}
use Rattle.alto_top.specs.declared.scavenging.Told.TheVariants as told
use Rattle.alto_top.specs.Faults.{DiskFaultCause}
use Rattle.alto_top.specs.Scavenging.{IsRefused, IsTextOf, IsToldOf, ScavengesDisk, ScavengesPack, TellsScavenge, WritesScavenge, scavenge_text, status_in, text_in, told_text}
use Rattle.alto_top.proofs.Formatted.{first_taken, leaves_pack}

-- ---- a pack that can be scavenged isn't refused
not_refused : {X : Type 0} (p : Pack) → Scavengeable p → IsRefused p → X
not_refused p may refused = let both : None ≡ Some refused.0 = sym ((scavengeable_is_unrefused p).0 may) ∙ refused.1 in cc

-- ---- the texts
-- of a pack that isn't refused, and of one that is
pub reported : (p : Pack) (report : Report) (text : List ℕ) → Answers p (Ok report) → text ≡ report_text (report_in report) → text ≡ scavenge_text p
unfolding scavenge_text
reported p report text answers is = is ∙ ap report_text answers.1 ∙ ap (told_text p) (sym answers.0)

refused_text : (p : Pack) (r : Refusal) (text : List ℕ) → first_refusal p ≡ Some r → IsTextOf (Some r) text → text ≡ scavenge_text p
unfolding scavenge_text
refused_text p r text refused is = is ∙ ap (told_text p) (sym refused)

pub refused : (p : Pack) (e : ScavError) (text : List ℕ) → Answers p (Err e) → IsTextOf (refusal_in e) text → IsRefused p × (text ≡ scavenge_text p)
refused p (error.RootBad header) text answers is = ((root_bad header, answers), refused_text p (root_bad header) text answers is)
refused p (error.RootTaken label) text answers is = ((root_taken label, answers), refused_text p (root_taken label) text answers is)
refused p (error.PackFull least most) text answers is = ((pack_full least most, answers), refused_text p (pack_full least most) text answers is)
refused p error.DiskFault text answers is = absurd is
refused p error.Memory text answers is = absurd is

pub writes_of_scavenge : {x y : Taped} {result : Result Report ScavError} → Scavenges x y result → WritesIn (IsUsableSector (pack x)) (added x y) → WritesScavenge (pack x) (added x y)
writes_of_scavenge s frame = record { does = s.writes; silent = s.silent; safe = s.safe; opens = s.opens; frame = frame }

-- ---- bytes that are shown after record writes
-- a prefix of shown bytes is one of bytes
first_shown : (text : List ℕ) (events : List Event) → IsFirstOf (shown_events text) events → events ≡ shown_events (shown_bytes events)
first_shown text [] first = refl
first_shown [] (e ∷ events) first = absurd first
first_shown (byte ∷ text) (e ∷ events) first =
    (λ i. first.0 i ∷ events) ∙ ap (λ es. Shown byte ∷ es) (first_shown text events first.1) ∙ sym (λ i. shown_events (shown_bytes (first.0 i ∷ events)))

-- and writes no record
first_unwritten : (text : List ℕ) (events : List Event) → IsFirstOf (shown_events text) events → writes_in events ≡ 0
first_unwritten text [] first = refl
first_unwritten [] (e ∷ events) first = absurd first
first_unwritten (byte ∷ text) (e ∷ events) first = (λ i. writes_in (first.0 i ∷ events)) ∙ first_unwritten text events first.1

-- a prefix goes into the shown bytes, or it doesn't
record Taken (k : ℕ) (writes more : List Event) : Type 0 where
  pub some : ℕ
  pub is : take k (writes ++ more) ≡ take k writes ++ take some more

taken : (k : ℕ) (writes more : List Event) → Taken k writes more
taken k writes more = by (cases_lt k (length writes))
  where
    by : (k < length writes) ⊎ (length writes ≤ k) → Taken k writes more
    by (inl within) = record { some = 0; is = take-append-le k writes more (omega arith) ∙ sym (append-nil (take k writes)) }
    by (inr past) =
        let n : ℕ = k - length writes in
        let same : k ≡ length writes + n = omega arith in
        record { some = n; is = ap (λ m. take m (writes ++ more)) same ∙ take-append-add writes more n ∙ ap (λ es. es ++ take n more) (sym (take_all k writes (omega arith))) }

-- each crash point stays safe
module _ (p : Pack) (writes more : List Event) (text : List ℕ) (first : IsFirstOf (shown_events text) more) (k : ℕ) where
  front : Taken k writes more
  front = taken k writes more

  first_taken_more : IsFirstOf (shown_events text) (take front.some more)
  first_taken_more = first_taken front.some (shown_events text) more first

  same_pack : crash p (writes ++ more) k ≡ crash p writes k
  same_pack =
      ap (after p) front.is ∙ after-append p (take k writes) (take front.some more)
      ∙ leaves_pack (after p (take k writes)) text (take front.some more) first_taken_more

  same_writes : writes_in (take k (writes ++ more)) ≡ writes_in (take k writes)
  same_writes =
      let none = first_unwritten text (take front.some more) first_taken_more in
      let sum = ap writes_in front.is ∙ writes-append (take k writes) (take front.some more) in
      omega (arith, none, sum)

  shown_safe : IsSafe p writes k → IsSafe p (writes ++ more) k
  shown_safe safe = record {
    shown = ap show same_pack ∙ safe.shown;
    scavengeable = λ may. subst Scavengeable (sym same_pack) (safe.scavengeable may);
    clean = λ some is. subst Sound (sym same_pack) (safe.clean (subst (λ n. 0 < n) same_writes some) (subst Clean same_pack is));
  }

-- ---- the call
completes : {x z : Taped} (writes : List Event) (shown : List ℕ) (answer : Status) → TellsScavenge (pack x) writes shown answer → HasStatusCause x z answer → Scavengeable (pack x) → NoneRose x z → (answer ≡ status.Done) ⊎ (answer ≡ status.Memory)
completes writes shown status.Done tells cause may none = inl refl
completes writes shown status.Usage tells cause may none = absurd tells
completes writes shown status.NeedsScavenge tells cause may none = absurd tells
completes writes shown status.DiskFault tells cause may none = absurd (none.disk cause)
completes writes shown status.KeyFault tells cause may none = absurd tells
completes writes shown status.DisplayFault tells cause may none = absurd (none.display cause)
completes writes shown status.Memory tells cause may none = inr refl
completes {x} writes shown status.CannotScavenge tells cause may none = not_refused (pack x) may tells.0

module _ {x z : Taped} (grown : Grown x z) (writes more : List Event) (both : added x z ≡ writes ++ more) (apart : shown_bytes writes ≡ []) (does : WritesScavenge (pack x) writes) (first : IsFirstOf (shown_events (scavenge_text (pack x))) more) where
  -- shown bytes leave the pack
  left : pack z ≡ after (pack x) writes
  left =
      pack-after grown ∙ ap (after (pack x)) both ∙ after-append (pack x) writes more
      ∙ leaves_pack (after (pack x) writes) (scavenge_text (pack x)) more first

  leaves : (answer : Status) → TellsScavenge (pack x) writes (shown_bytes more) answer → answer ≡ status.Done → Scavenged (pack x) (pack z)
  leaves status.Done tells is = subst (Scavenged (pack x)) (sym left) tells.0.ends.scavenged
  leaves status.Usage tells is = absurd tells
  leaves status.NeedsScavenge tells is = absurd tells
  leaves status.DiskFault tells is = cc
  leaves status.KeyFault tells is = absurd tells
  leaves status.DisplayFault tells is = cc
  leaves status.Memory tells is = cc
  leaves status.CannotScavenge tells is = cc

  tells_so : (answer : Status) → HasStatusCause x z answer → TellsScavenge (pack x) writes (shown_bytes more) answer → ScavengesPack x z answer
  tells_so answer cause tells = record {
    writes = writes;
    shown = shown_bytes more;
    split = both ∙ ap (λ es. writes ++ es) (first_shown (scavenge_text (pack x)) more first);
    apart = apart;
    scavenge = does;
    some = subst (IsFirstOf (shown_events (scavenge_text (pack x)))) (first_shown (scavenge_text (pack x)) more first) first;
    tells = tells;
    leaves = leaves answer tells;
    safe = λ k. subst (λ es. IsSafe (pack x) es k) (sym both) (shown_safe (pack x) writes more (scavenge_text (pack x)) first k (does.safe k));
    complete = completes writes (shown_bytes more) answer tells cause;
  }

-- the disk failed, or no memory was left
disk_cause : (x y : Taped) (fault : Fault) → DiskFaultCause x y fault → HasStatusCause x y (status_of fault)
disk_cause x y Disk cause = cause
disk_cause x y Key cause = absurd cause
disk_cause x y Display cause = absurd cause
disk_cause x y Memory cause = cause

silent_fault : (x y : Taped) (p : Pack) (writes : List Event) (fault : Fault) → DiskFaultCause x y fault → TellsScavenge p writes [] (status_of fault)
silent_fault x y p writes Disk cause = refl
silent_fault x y p writes Key cause = absurd cause
silent_fault x y p writes Display cause = absurd cause
silent_fault x y p writes Memory cause = refl

pub broke_off : {x y : Taped} (fault : Fault) → DiskAlone x y → ScavengesDisk x y (Err fault) → DiskFaultCause x y fault → ScavengesPack x y (status_of fault)
broke_off {x} {y} fault alone does cause =
    tells_so alone.grown (added x y) [] (sym (append-nil (added x y))) alone.shown does.writes tt (status_of fault) (disk_cause x y fault cause) (silent_fault x y (pack x) (added x y) fault cause)

-- ---- and then the text
memory_is_no_display : Memory ≢ Display
memory_is_no_display is = cc

abbrev pub ShowFaultCause : Taped → Taped → Fault → Type 0
ShowFaultCause old new fault = IsCause old new (of_display (cause_of_fault fault))

told_cause : (x z : Taped) (tells : Told) → Unfailed x z → HasStatusCause x z (status_in tells)
told_cause x z (told.Report text) none = none
told_cause x z (told.Refusal text) none = none

told_tells : (p : Pack) (writes : List Event) (shown : List ℕ) (tells : Told) → IsToldOf p writes tells → shown ≡ scavenge_text p → TellsScavenge p writes shown (status_in tells)
told_tells p writes shown (told.Report text) so is = (so, is)
told_tells p writes shown (told.Refusal text) so is = (so, is)

either : (p : Pack) (writes : List Event) (shown : List ℕ) (tells : Told) → IsToldOf p writes tells → TellsScavenge p writes shown status.DisplayFault
either p writes shown (told.Report text) so = inl so
either p writes shown (told.Refusal text) so = inr so

module _ {x y z : Taped} (tells : Told) (alone : DiskAlone x y) (none_came : Unfailed x y) (does : ScavengesDisk x y (Ok tells)) (next : ShowAlone y z) (text : List ℕ) (is : text ≡ text_in tells) (result : Result (Unit {0}) Fault) (shown : ShownAll text y z result) where
  same_text : text ≡ scavenge_text (pack x)
  same_text = is ∙ does.tells.1

  first : IsFirstOf (shown_events (scavenge_text (pack x))) (added y z)
  first = subst (λ t. IsFirstOf (shown_events t) (added y z)) same_text shown.some

  so : (answer : Status) → HasStatusCause x z answer → TellsScavenge (pack x) (added x y) (shown_bytes (added y z)) answer → ScavengesPack x z answer
  so = tells_so (grown_twice alone.grown next.grown) (added x y) (added y z) (added-twice alone.grown next.grown) alone.shown does.writes first

  -- it was shown whole
  pub told_whole : added y z ≡ shown_events text → ScavengesPack x z (status_in tells)
  told_whole all = so (status_in tells) (told_cause x z tells (next.disk_faults ∙ none_came)) (told_tells (pack x) (added x y) (shown_bytes (added y z)) tells does.tells.0 (ap shown_bytes all ∙ shown-events text ∙ same_text))

  -- the display failed, or no memory was left
  pub told_short : (fault : Fault) → ShowFaultCause y z fault → (fault ≢ Display → added y z ≡ []) → ScavengesPack x z (status_of fault)
  told_short Disk cause none = absurd cause
  told_short Key cause none = absurd cause
  told_short Display cause none = so status.DisplayFault (subst (λ n. Rose n z.show_faults) alone.show_faults cause) (either (pack x) (added x y) (shown_bytes (added y z)) tells does.tells.0)
  told_short Memory cause none = so status.Memory (next.disk_faults ∙ none_came) (ap shown_bytes (none memory_is_no_display))
