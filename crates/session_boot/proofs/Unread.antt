-- A session of which no key was taken writes nothing.
use Rattle.std.proofs.Common.{◌≡◌, ◌⊎◌, ◌≤◌, ◌<◌, ℕ, List, [], ◌∷◌, ◌++◌, Some, None, Option, Ok, Err, inl, inr, length, drop, refl, sym, ap, subst, ◌∙◌, arith, length-take, length-drop}
use Rattle.std.proofs.lemmas.List.{length-append}
use Rattle.disk_records.specs.declared.records.Event.{Event}
use Rattle.disk_records.specs.declared.records.Event.TheVariants.{Wrote, Shown}
use Rattle.disk_records.specs.Events.{IsFirstOf, shown_events, writes_in}
use Rattle.disk_records.specs.Tapes.{Grown, Taped, added}
use Rattle.disk_records.proofs.Growing.{added-twice, nothing_added, writes-shown}
use Rattle.executive.specs.disk_descriptor.specs.declared.errors.OpenError.{OpenError}
use Rattle.executive.specs.pack_model.specs.states.Sound.{mark_clean}
use Rattle.session_model.specs.Keeping.{Kept}
use Rattle.session_boot.specs.declared.line.Next.{Next}
use Rattle.session_boot.specs.declared.status.Fault.{Fault}
use Rattle.session_boot.specs.declared.status.Status.{Status}
use Rattle.session_boot.specs.declared.status.Status.TheVariants as status
use Rattle.session_boot.specs.Opening.{ShowsReason, reason}
use Rattle.session_boot.specs.Keys.{TookWhole, TookRest}
use Rattle.session_boot.specs.Turns.{NextTurn, LineTaken}

-- what is shown is no record write
pub first_shown : (bytes : List ℕ) (events : List Event) → IsFirstOf (shown_events bytes) events → writes_in events ≡ 0
first_shown bytes [] first = refl
first_shown [] (e ∷ events) first = absurd first
first_shown (b ∷ bytes) (Wrote at part words ∷ events) first = absurd (let is = first.0 in cc)
first_shown (b ∷ bytes) (Shown byte ∷ events) first = first_shown bytes events first.1

-- ---- how many keys are left
abbrev pub FewerKeys : Taped → Taped → Type 0
FewerKeys old new = length new.keys < length old.keys

part_of : (old part rest : List ℕ) → old ≡ part ++ rest → length rest ≤ length old
part_of old part rest split = let all = ap length split in omega (arith, all, length-append part rest)

some_long : (whole : List ℕ) → (whole ≡ [] → ⊥) → 1 ≤ length whole
some_long [] some = absurd (some refl)
some_long (key ∷ whole) some = omega arith

rest_few : {old new whole : List ℕ} {before after : ℕ} → TookRest old new before after whole → length new ≤ length old
rest_few {old} {new} {whole} {before} t = let is = ap length t.rest in omega (arith, is, length-drop before old)

whole_few : {old new line : List ℕ} {before after : ℕ} → TookWhole old new before after line → length new < length old
whole_few {old} {new} {line} {before} (inl t) = let all = ap length t.split in omega (arith, all, length-append t.whole (10 ∷ new))
whole_few {old} {new} {line} {before} (inr t) =
    let some = some_long t.whole t.some in
    let taken = ap length t.took.is in
    let left = ap length t.took.rest in
    omega (arith, some, taken, left, length-take before old, length-drop before old)

-- ---- nothing happened yet, or keys were taken
pub record Idle (old new : Taped) (one two : Kept) : Type 0 where
  pub events : new.events ≡ old.events
  pub same : two ≡ one
  pub keys : length new.keys ≤ length old.keys

abbrev pub Unread : Taped → Taped → Kept → Kept → Type 0
Unread old new one two = Idle old new one two ⊎ FewerKeys old new

pub unread_here : (a : Taped) (one : Kept) → Unread a a one one
unread_here a one = inl (record { events = refl; same = refl; keys = omega arith })

few_of : (a b : Taped) (one two : Kept) → Unread a b one two → length b.keys ≤ length a.keys
few_of a b one two (inl idle) = idle.keys
few_of a b one two (inr fewer) = omega (arith, fewer)

module _ (a b c : Taped) (one two three : Kept) (before after : ℕ) (so_far : Unread a b one two) where
  -- a line was answered
  pub unread_taken : (next : Next) (r : Option Next) → r ≡ Some next → NextTurn b c two three before after (Ok r) → FewerKeys a c
  unread_taken next r is turn =
      let taken : LineTaken b c two three before after (Ok next) = subst (λ x. NextTurn b c two three before after (Ok x)) is turn in
      let few = few_of a b one two so_far in
      let fewer = whole_few taken.took in
      omega (arith, few, fewer)

  -- no key was left
  pub unread_none : (r : Option Next) → r ≡ None → NextTurn b c two three before after (Ok r) → Unread a c one three
  unread_none r is turn =
      let spent = subst (λ x. NextTurn b c two three before after (Ok x)) is turn in
      let left = rest_few spent.rest in
      elim so_far [
        | inl idle ↦ inl (record { events = spent.alone.events ∙ idle.events; same = spent.same ∙ idle.same; keys = let few = idle.keys in omega (arith, few, left) })
        | inr fewer ↦ inr (omega (arith, fewer, left))
      ]

  -- none was taken to its end, or the line broke off
  pub unread_broke : (fault : Fault) → NextTurn b c two three before after (Err fault) → Unread a c one three
  unread_broke fault (inl missed) =
      let left = part_of b.keys missed.part.part c.keys missed.part.split in
      elim so_far [
        | inl idle ↦ inl (record { events = missed.alone.events ∙ idle.events; same = missed.same ∙ idle.same; keys = let few = idle.keys in omega (arith, few, left) })
        | inr fewer ↦ inr (omega (arith, fewer, left))
      ]
  unread_broke fault (inr taken) =
      let few = few_of a b one two so_far in
      let fewer = whole_few taken.0.took in
      inr (omega (arith, few, fewer))

-- ---- so where no key was taken nothing was written
pub fewer_are_others : (a c : Taped) {P : Type 0} → FewerKeys a c → c.keys ≡ a.keys → P
fewer_are_others a c fewer same = absurd (let all = ap length same in omega (arith, fewer, all))

idle_added : (a b c : Taped) → b.events ≡ a.events → added a c ≡ added b c
idle_added a b c same = ap (λ (e : List Event). drop (length e) c.events) (sym same)

pub unread_writes : (a c : Taped) (one three : Kept) → Unread a c one three → c.keys ≡ a.keys → writes_in (added a c) ≡ 0
unread_writes a c one three (inl idle) same = ap writes_in (ap (drop (length a.events)) idle.events ∙ nothing_added a.events)
unread_writes a c one three (inr fewer) same = fewer_are_others a c fewer same

pub ended_unread : (a b c : Taped) (one two : Kept) → Unread a b one two → one.mark ≡ mark_clean → c.keys ≡ b.keys → (two.mark ≡ mark_clean → writes_in (added b c) ≡ 0) → c.keys ≡ a.keys → writes_in (added a c) ≡ 0
ended_unread a b c one two (inl idle) clean keys quiet same = ap writes_in (idle_added a b c idle.events) ∙ quiet (ap (λ (k : Kept). k.mark) idle.same ∙ clean)
ended_unread a b c one two (inr fewer) clean keys quiet same = fewer_are_others a c (subst (λ (k : List ℕ). length k < length a.keys) (sym keys) fewer) same

-- ---- a pack that isn't entered
pub reason_writes : (e : OpenError) (y z : Taped) (answer : Status) → ShowsReason e y z answer → writes_in (added y z) ≡ 0
reason_writes e y z status.Done shown = absurd shown
reason_writes e y z status.Usage shown = absurd shown
reason_writes e y z status.NeedsScavenge shown = ap writes_in shown ∙ writes-shown (reason e)
reason_writes e y z status.DiskFault shown = ap writes_in shown
reason_writes e y z status.KeyFault shown = absurd shown
reason_writes e y z status.DisplayFault shown = first_shown (reason e) (added y z) shown
reason_writes e y z status.Memory shown = ap writes_in shown
reason_writes e y z status.CannotScavenge shown = absurd shown

-- a call that writes nothing before one that is looked at
pub silent_writes : {x y : Taped} (z : Taped) → Grown x y → Grown y z → added x y ≡ [] → writes_in (added y z) ≡ 0 → writes_in (added x z) ≡ 0
silent_writes {x} {y} z one two silent none = ap writes_in (added-twice one two ∙ ap (λ l. l ++ added y z) silent) ∙ none
