-- The call of a line that only reads, as a turn.
use Rattle.std.proofs.Common.{◌≡◌, ℕ, Bool, false, List, [], Option, Some, None, Vec, Result, Ok, Err, IfOk, IsTrue, refl, sym, subst, ap, ◌∙◌}
use Rattle.std.specs.Result.{IsErrAnd}
use Rattle.disk_records.proofs.Growing.{pack-silent}
use Rattle.disk_records.specs.Packs.{Pack}
use Rattle.disk_records.specs.Tapes.{Taped, added, pack}
use Rattle.exec_words.specs.declared.line.Line.{Line}
use Rattle.exec_words.specs.declared.line.Line.TheVariants as line
use Rattle.exec_words.specs.declared.line.Target.{Target}
use Rattle.exec_words.specs.declared.reply.Reply.TheVariants as reply
use Rattle.pack_model.specs.reading.Model.{Model, read_as}
use Rattle.pack_model.specs.states.Sound.{Sound}
use Rattle.session_model.specs.Answering.{plain_reply}
use Rattle.session_model.specs.Effects.{effect}
use Rattle.session_model.specs.Keeping.{Keeping, world_of}
use Rattle.session_model.specs.Refusals.{is_obeyed_in_need}
use Rattle.session_model.specs.Replies.{refusal as refusal_to, unless_refused}
use Rattle.session_model.specs.Touched.{files_touched}
use Rattle.session_model.specs.Turning.{HintFailing, IsTakenUp, State, is_quit, is_scavenge, typed}
use Rattle.session_model.specs.Worlds.{World}
use Rattle.exec_session.specs.declared.session.Session.{Session}
use Rattle.exec_session.specs.declared.stop.Stop.{Stop}
use Rattle.exec_session.specs.declared.stop.Stop.TheVariants as stop
use Rattle.exec_session.specs.Meant.{IfHint, IfRefused, IsTakenUpBy, LooksAbout, MayObey, TakesLine, kept, kept_replied, replied}
use Rattle.exec_session.specs.Turned.{FewRuns, SameBut, Turned}
use Rattle.exec_session.proofs.Looking.{same_but_looked}
use Rattle.exec_session.proofs.Stopping.{error_is}
use Rattle.exec_session.proofs.TakingUp.{goes_on, need_none, plain_text}
use Rattle.exec_session.proofs.laws.Laws.{line_is_refused, line_stops_unwritten, line_writes_nothing, turned_is_a_turn}
use Rattle.executive.specs.Reads.{IsSaid, ReadsAs, ReadsRight}

-- ---- lines that read
-- It has no operations, leaves the world, goes on with the session, and isn't obeyed while a scavenge is needed.
pub record IsReading (l : Line) : Type 0 where
  pub ops : (m : Model) (w : World) → (effect l m w).ops ≡ []
  pub world : (m : Model) (w : World) → (effect l m w).world ≡ w
  pub quit : is_quit l ≡ false
  pub scavenge : is_scavenge l ≡ false
  pub needs : is_obeyed_in_need l ≡ false

-- ---- the turn
module _ {told : Bool} {most : ℕ} (old new : Taped) (one two : Session) (l : Line) (reading : IsReading l) (is_told : IsTrue told) (may : MayObey old one l) (about : LooksAbout told most old new one two)
    (s : State) (keeping : Keeping (pack old) (kept one) s) where
  taken : IsTakenUp s (typed l)
  taken = subst (λ w. IsTakenUpBy w l) (sym keeping.world) may.taken_up

  unneeded : s.world.need ≡ false
  unneeded = need_none l s.world reading.needs taken

  silent : added old new ≡ []
  silent = about.looks.silent is_told

  same : SameBut old new (kept one) (kept two)
  same = same_but_looked old new about.looked (pack-silent about.looks.alone.grown silent)

  stops : (Z : Type 0) (e : Stop) → IfRefused {T = Unit {0}} (Err e) (λ r. ⊥) → IfHint {T = Unit {0}} (Err e) (HintFailing (pack old) [] (files_touched l s.model s.world)) → Turned old new (kept one) (kept_replied {T = Vec ℕ Z} (Err e) (kept two)) s l (replied {Z = Z} (Err e))
  stops Z e unrefused hint =
      line_stops_unwritten old new (kept one) (kept two) s l e keeping
      (goes_on l s reading.quit reading.scavenge)
      taken about.looks.alone silent same unrefused
      (subst (λ files. IfHint {T = Unit {0}} (Err e) (HintFailing (pack old) [] files)) (sym (ap (λ x. unless_refused x (files_touched l s.model s.world) []) taken)) hint)

  said : {Z : Type 0} (text : Vec ℕ Z) → refusal_to l s.model s.world ≡ None → text.items ≡ (effect l s.model s.world).text → Turned old new (kept one) (kept two) s l (reply.Done text.items)
  said text unrefused is =
      let m = s.model in
      let w = s.world in
      let plain : plain_reply s (typed l) ≡ reply.Done text.items =
      plain_text l s reading.quit unrefused ∙ ap reply.Done (sym is)
      in
      subst (Turned old new (kept one) (kept two) s l) plain
      (line_writes_nothing old new (kept one) (kept two) s l keeping
      (goes_on l s reading.quit reading.scavenge)
      (ap (λ x. unless_refused x (effect l m w).world w) unrefused ∙ reading.world m w)
      (ap (λ x. unless_refused x (effect l m w).ops []) unrefused ∙ reading.ops m w)
      about.looks.alone silent same)

  turned : {Z : Type 0} (result : Result (Vec ℕ Z) Stop) → IfOk result (λ text. (refusal_to l s.model s.world ≡ None) × (text.items ≡ (effect l s.model s.world).text)) → IfRefused result (λ r. refusal_to l s.model s.world ≡ Some r) → IfHint result (HintFailing (pack old) [] (files_touched l s.model s.world)) → Turned old new (kept one) (kept_replied result (kept two)) s l (replied result)
  turned (Ok text) done refused hint = said text done.0 done.1
  turned (Err (stop.Refused r)) done refused hint = line_is_refused old new (kept one) (kept two) s l r keeping refused about.looks.alone silent same
  turned {Z} (Err (stop.Misled place at wanted found)) done refused hint = stops Z (stop.Misled place at wanted found) tt hint
  turned {Z} (Err stop.DiskFault) done refused hint = stops Z stop.DiskFault tt tt
  turned {Z} (Err stop.Memory) done refused hint = stops Z stop.Memory tt tt

-- what a state is answered
record AtState {Z : Type 0} (p : Pack) (l : Line) (s : State) (result : Result (Vec ℕ Z) Stop) : Type 0 where
  said : IfOk result (λ text. (refusal_to l s.model s.world ≡ None) × (text.items ≡ (effect l s.model s.world).text))
  refused : IfRefused result (λ r. refusal_to l s.model s.world ≡ Some r)
  misled : IfHint result (HintFailing p [] (files_touched l s.model s.world))

-- what is answered by the pack is answered by the state
at_state : {Z : Type 0} (p : Pack) (l : Line) (w : World) (s : State) (result : Result (Vec ℕ Z) Stop) → read_as p ≡ s.model → w ≡ s.world → ReadsAs p l w (λ v. v.items) result → AtState p l s result
at_state {Z} p l w s result reads world h =
    subst (λ v. AtState p l (record { model = s.model; world = v; over = s.over }) result) world
    (subst (λ m. AtState p l (record { model = m; world = w; over = s.over }) result) reads (record { said = by result h.said; refused = h.refused; misled = h.misled }))
  where
    by : (r : Result (Vec ℕ Z) Stop) → IfOk r (λ v. IsSaid p l w v.items) → IfOk r (λ text. (refusal_to l (read_as p) w ≡ None) × (text.items ≡ (effect l (read_as p) w).text))
    by (Ok v) k = (k.unrefused, k.text_is)
    by (Err e) k = tt

pub reading_turns : {Z : Type 0} {told : Bool} {most : ℕ} (old new : Taped) (one two : Session) (l : Line) (result : Result (Vec ℕ Z) Stop) → IsReading l → IsTrue told → MayObey old one l → LooksAbout told most old new one two → (Sound (pack old) → ReadsRight (pack old) l (λ (v : Vec ℕ Z). v.items) result)
    → ((s : State) → Keeping (pack old) (kept one) s → FewRuns old new (kept one) (kept_replied result (kept two)) s l (replied result)) → TakesLine old new one two l result
reading_turns old new one two l result reading told may about right few = λ s keeping.
    let unneeded : s.world.need ≡ false = need_none l s.world reading.needs (subst (λ w. IsTakenUpBy w l) (sym keeping.world) may.taken_up) in
    let h = at_state (pack old) l (world_of (kept one)) s result (keeping.stands.reads unneeded) (sym keeping.world) (right (keeping.stands.sound unneeded) (world_of (kept one)) may.taken_up) in
    turned_is_a_turn old new (kept one) (kept_replied result (kept two)) s l (replied result)
    (turned old new one two l reading told may about s keeping result h.said h.refused h.misled) (few s keeping)

-- ---- answers that are passed on
stop_passed : (T U : Type 0) (p : Pack) (l : Line) (w : World) (shows : U → List ℕ) (e : Stop) → IfRefused {T = T} (Err e) (λ r. refusal_to l (read_as p) w ≡ Some r) → IfHint {T = T} (Err e) (HintFailing p [] (files_touched l (read_as p) w)) → ReadsAs {T = U} p l w shows (Err e)
stop_passed T U p l w shows (stop.Refused r) refused misled = record { said = tt; refused = refused; misled = tt }
stop_passed T U p l w shows (stop.Misled place at wanted found) refused misled = record { said = tt; refused = tt; misled = misled }
stop_passed T U p l w shows stop.DiskFault refused misled = record { said = tt; refused = tt; misled = tt }
stop_passed T U p l w shows stop.Memory refused misled = record { said = tt; refused = tt; misled = tt }

pub passes_stop : {T U : Type 0} (p : Pack) (l : Line) (says : T → List ℕ) (shows : U → List ℕ) (e : Stop) (r : Result U Stop) → IsErrAnd r (λ x. x ≡ e) → ReadsRight {T = T} p l says (Err e) → ReadsRight {T = U} p l shows r
passes_stop {T} {U} p l says shows e r is h = λ w taken.
    let x = h w taken in
    subst (λ y. ReadsAs {T = U} p l w shows y) (sym (error_is r is)) (stop_passed T U p l w shows e x.refused x.misled)

pub passes_memory : {U : Type 0} (p : Pack) (l : Line) (shows : U → List ℕ) (r : Result U Stop) → IsErrAnd r (λ x. x ≡ stop.Memory) → ReadsRight p l shows r
passes_memory {U} p l shows r is = λ w taken. subst (λ y. ReadsAs {T = U} p l w shows y) (sym (error_is r is)) (record { said = tt; refused = tt; misled = tt })

-- ---- the four lines
pub free_reads : IsReading line.Free
free_reads = record { ops = λ m w. refl; world = λ m w. refl; quit = refl; scavenge = refl; needs = refl }

pub type_reads : (target : Target) → IsReading (line.TypeOut target)
type_reads target = record { ops = λ m w. refl; world = λ m w. refl; quit = refl; scavenge = refl; needs = refl }

pub stat_reads : (target : Target) → IsReading (line.Stat target)
stat_reads target = record { ops = λ m w. refl; world = λ m w. refl; quit = refl; scavenge = refl; needs = refl }

pub list_reads : (dir : Option (List ℕ)) → IsReading (line.ListNames dir)
list_reads dir = record { ops = λ m w. refl; world = λ m w. refl; quit = refl; scavenge = refl; needs = refl }
