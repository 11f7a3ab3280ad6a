-- A call, after which what the display holds back is handed on.
use Rattle.std.proofs.Common.{List, ℕ, inl, inr, arith, subst, sym, ◌∙◌}
use Rattle.disk_records.proofs.Growing.{grown_twice}
use Rattle.disk_records.specs.Causes.{Cause, IsCause, Unfailed, disk, display, keyboard, never, other}
use Rattle.disk_records.specs.Tapes.{Grown, ShowAlone, Taped}
use Rattle.session_boot.specs.Faults.{HasStatusCause, NoFault, UnlessStopped, cause_of_status}
use Rattle.session_boot.proofs.Unfailing.{none_twice}
use Rattle.session_boot.specs.declared.status.Status.{Status}
use Rattle.session_boot.specs.declared.status.Status.TheVariants as status
use Rattle.alto_top.specs.Faults.{Concludes, IsSameOrUnseen}
use Rattle.alto_top.specs.Showing.{AnswersShow, KeepsKeys}
use Rattle.alto_top.specs.Top.{AnswersTo, AnswersUsage, Touches}

-- ---- showing, twice and after another call
shown_twice : {a b c : Taped} → ShowAlone a b → ShowAlone b c → ShowAlone a c
shown_twice one two = record {
  grown = grown_twice one.grown two.grown;
  keys = two.keys ∙ one.keys;
  disk_faults = two.disk_faults ∙ one.disk_faults;
  key_faults = two.key_faults ∙ one.key_faults;
  runs = two.runs ∙ one.runs;
  writes = two.writes ∙ one.writes;
}

keeps_on : {a b c : Taped} → KeepsKeys a b → ShowAlone b c → KeepsKeys a c
keeps_on keeps two = record { keys = two.keys ∙ keeps.keys; key_faults = two.key_faults ∙ keeps.key_faults }

pub touches_on : (words : List (List ℕ)) {a b c : Taped} → Touches words a b → ShowAlone b c → Touches words a c
touches_on words one two = record {
  grown = grown_twice one.grown two.grown;
  show = λ asks. keeps_on (one.show asks) two;
  scavenge = λ asks. keeps_on (one.scavenge asks) two;
  format = λ n asks. keeps_on (one.format n asks) two;
  prepare = λ n asks. keeps_on (one.prepare n asks) two;
  unprepared = λ n asks single. shown_twice (one.unprepared n asks single) two;
  others = λ asks. shown_twice (one.others asks) two;
}

-- ---- the answer
-- a fault of the display may be answered to any words
unseen_answers : (words : List (List ℕ)) (disks : ℕ) → AnswersTo words disks status.DisplayFault
unseen_answers words disks = record {
  usage = λ is. absurd (subst AnswersShow is tt);
  done = λ is. absurd (subst AnswersUsage is tt);
  needs = λ is. absurd (subst AnswersUsage is tt);
  cannot = λ is. absurd (subst AnswersUsage is tt);
  show = λ asks. tt;
  scavenge = λ asks. tt;
  format = λ n asks. tt;
  prepare = λ n asks. record { two = λ is. tt; one = λ is. tt };
  others = λ asks. tt;
}

pub answers_on : (words : List (List ℕ)) (disks : ℕ) (a b : Taped) (meant answer : Status) → AnswersTo words disks meant → IsSameOrUnseen a b meant answer → AnswersTo words disks answer
answers_on words disks a b meant answer answers same =
    elim same [
      | inl is ↦ subst (AnswersTo words disks) (sym is) answers
      | inr failed ↦ subst (AnswersTo words disks) (sym failed.fault) (unseen_answers words disks)
    ]

-- ---- how it ends
cause_on : (k : Cause) (a b c : Taped) → Grown b c → Unfailed b c → IsCause a b k → IsCause a c k
cause_on disk a b c grown none h = let more = grown.disk_faults in omega (arith, more, h)
cause_on keyboard a b c grown none h = let more = grown.key_faults in omega (arith, more, h)
cause_on display a b c grown none h = let more = grown.show_faults in omega (arith, more, h)
cause_on other a b c grown none h = none ∙ h
cause_on never a b c grown none h = h

both_held : (A B C : Type 0) (s : Status) → (A → B) → UnlessStopped s A → UnlessStopped s C → UnlessStopped s (B × C)
both_held A B C status.Done keeps a c = (keeps a, c)
both_held A B C status.Usage keeps a c = (keeps a, c)
both_held A B C status.NeedsScavenge keeps a c = (keeps a, c)
both_held A B C status.DiskFault keeps a c = tt
both_held A B C status.KeyFault keeps a c = tt
both_held A B C status.DisplayFault keeps a c = tt
both_held A B C status.Memory keeps a c = tt
both_held A B C status.CannotScavenge keeps a c = (keeps a, c)

both_unfailed : (a b c : Taped) (s : Status) → UnlessStopped s (NoFault a b) → UnlessStopped s (NoFault b c) → UnlessStopped s (NoFault a c)
both_unfailed a b c status.Done one two = none_twice one two
both_unfailed a b c status.Usage one two = none_twice one two
both_unfailed a b c status.NeedsScavenge one two = none_twice one two
both_unfailed a b c status.DiskFault one two = tt
both_unfailed a b c status.KeyFault one two = tt
both_unfailed a b c status.DisplayFault one two = tt
both_unfailed a b c status.Memory one two = tt
both_unfailed a b c status.CannotScavenge one two = none_twice one two

-- what was handed on stays so, and what was shown is handed on too
pub concludes_on : (A B C : Type 0) (a b c : Taped) (meant answer : Status) → Grown a b → ShowAlone b c → Concludes A a b meant → IsSameOrUnseen b c meant answer → UnlessStopped answer (NoFault b c) → (A → B) → UnlessStopped answer C → Concludes (B × C) a c answer
concludes_on A B C a b c meant answer one two ends same unfailed keeps shown =
    elim same [
      | inl is ↦ record {
        cause = subst (HasStatusCause a c) (sym is) (cause_on (cause_of_status meant) a b c two.grown two.disk_faults ends.cause);
        unfailed = both_unfailed a b c answer (subst (λ s. UnlessStopped s (NoFault a b)) (sym is) ends.unfailed) unfailed;
        handed_on = both_held A B C answer keeps (subst (λ s. UnlessStopped s A) (sym is) ends.handed_on) shown;
      }
      | inr failed ↦
          let less = one.show_faults in
          let rose = failed.rose in
          record {
            cause = subst (HasStatusCause a c) (sym failed.fault) (omega (arith, less, rose));
            unfailed = subst (λ s. UnlessStopped s (NoFault a c)) (sym failed.fault) tt;
            handed_on = subst (λ s. UnlessStopped s (B × C)) (sym failed.fault) tt;
          }
    ]
