-- The calls of a session one after another, and true hints from its beginning to its end.
use Rattle.std.proofs.Common.{◌≡◌, Bool, true, false, List, refl, sym, subst, ◌∙◌}
use Rattle.laws_line.specs.disk_records.specs.Packs.{Pack}
use Rattle.laws_line.specs.disk_records.specs.Tapes.{Taped, pack, added}
use Rattle.laws_line.specs.disk_records.specs.declared.records.Event.{Event}
use Rattle.session_model.specs.exec_words.specs.declared.reply.Reply.{Reply}
use Rattle.session_model.specs.exec_words.specs.declared.reply.Reply.TheVariants as reply
use Rattle.laws_line.specs.pack_model.specs.hints.Links.{LinksTrue}
use Rattle.laws_line.specs.pack_model.specs.hints.Truth.{Truthful}
use Rattle.laws_line.specs.pack_model.specs.operations.Operations.{Move}
use Rattle.laws_line.specs.pack_model.specs.states.Sound.{Sound}
use Rattle.session_model.specs.Answering.{Answers, IsAnswer}
use Rattle.session_model.specs.Keeping.{Kept, Keeping}
use Rattle.session_model.specs.Turning.{State, Cue, opening}
use Rattle.laws_lookup.specs.HintLaws.{HasFullValues}
use Rattle.laws_session.specs.CallLaws.{Calls, uncalled, takes, reads, renews, CallsKeep, CallsKeepNeed, HintsStayTrue, FullAtCalls, IsUnfailedAnswer, NoneFails, SessionsEndWithTrueHints, TrueAfterCalls, TrueHintsFailNoCall}
use Rattle.laws_session.proofs.inside.Needing.{true_unfailed, unfailed_need}

not_both : (over : Bool) → over ≡ false → over ≡ true → ⊥
not_both over going ended = let both : false ≡ true = sym going ∙ ended in cc

-- ---- what is kept
pub calls_keep : CallsKeep
calls_keep first last k kept s t start calls = by calls where
  by : {last : Taped} {kept : Kept} {t : State} → Calls first k s last kept t → t.over ≡ false → Keeping (pack last) kept t
  by uncalled on = start
  by (takes so_far same going turn answer) on = turn.keeping answer on
  by (reads so_far same going read) on = read.keeping
  by (renews {t = t} so_far going closed renewed) on = renewed.keeping t (by so_far going).world closed

-- ---- true hints
pub hints_stay_true : HintsStayTrue
hints_stay_true first last k kept s t begins truthful calls = by calls where
  by : {last : Taped} {kept : Kept} {t : State} → Calls first k s last kept t → TrueAfterCalls last kept t
  by uncalled = record { between = λ on. truthful; closed = λ over need. absurd (not_both s.over begins over) }
  by (takes {one = one} so_far same going turn answer) =
      let before = subst (λ (p : Pack). Truthful p one.busy) (sym same) ((by so_far).between going) in
      record { between = turn.truthful before answer; closed = turn.closed before answer }
  by (reads {one = one} {t = t} so_far same going read) =
      let before = subst (λ (p : Pack). Truthful p one.busy) (sym same) ((by so_far).between going) in
      record { between = λ on. read.truthful before; closed = λ over need. absurd (not_both t.over going over) }
  by (renews so_far going closed renewed) = record { between = λ on. renewed.truthful; closed = λ over need. absurd (not_both false refl over) }

-- ---- where no turn failed
answer_keeps_need : (p : Pack) (s : State) (cue : Cue) (wrote : List Event) (moves : List Move) (u : State) (r : Reply) (answers : Answers p s cue wrote moves r u) → IsAnswer r → IsUnfailedAnswer p s cue wrote moves u r answers → s.world.need ≡ false → u.world.need ≡ false
answer_keeps_need p s cue wrote moves u (reply.Done text) answers is unfailed need = unfailed_need answers.made.kind unfailed need
answer_keeps_need p s cue wrote moves u (reply.Refused r) answers is unfailed need = unfailed_need answers.made.kind unfailed need
answer_keeps_need p s cue wrote moves u reply.Quit answers is unfailed need = unfailed_need answers.made.kind unfailed need
answer_keeps_need p s cue wrote moves u reply.Scavenge answers is unfailed need = subst (λ (u : State). u.world.need ≡ false) (sym answers.same) need
answer_keeps_need p s cue wrote moves u reply.DiskFault answers is unfailed need = absurd is
answer_keeps_need p s cue wrote moves u reply.Memory answers is unfailed need = absurd is

pub calls_keep_need : CallsKeepNeed
calls_keep_need first last k kept s t start calls = by calls where
  by : {last : Taped} {kept : Kept} {t : State} (calls : Calls first k s last kept t) → NoneFails calls → t.world.need ≡ false
  by uncalled none = start
  by (takes {old = old} {new = new} {t = t} {cue = cue} {r = r} so_far same going turn answer) none = answer_keeps_need (pack old) t cue (added old new) turn.answered.moves turn.state r turn.answered.answers answer none.1 (by so_far none.0)
  by (reads so_far same going read) none = by so_far none
  by (renews so_far going closed renewed) none = refl

answer_is_unfailed : (p : Pack) (s : State) (cue : Cue) (wrote : List Event) (moves : List Move) (u : State) (r : Reply) (answers : Answers p s cue wrote moves r u) → Sound p → HasFullValues p → LinksTrue p → IsUnfailedAnswer p s cue wrote moves u r answers
answer_is_unfailed p s cue wrote moves u (reply.Done text) answers sound full links = true_unfailed answers.made.kind sound full links
answer_is_unfailed p s cue wrote moves u (reply.Refused r) answers sound full links = true_unfailed answers.made.kind sound full links
answer_is_unfailed p s cue wrote moves u reply.Quit answers sound full links = true_unfailed answers.made.kind sound full links
answer_is_unfailed p s cue wrote moves u reply.Scavenge answers sound full links = tt
answer_is_unfailed p s cue wrote moves u reply.DiskFault answers sound full links = tt
answer_is_unfailed p s cue wrote moves u reply.Memory answers sound full links = tt

pub true_hints_fail_no_call : TrueHintsFailNoCall
true_hints_fail_no_call first last k kept s t start needless truthful calls = by calls where
  by : {last : Taped} {kept : Kept} {t : State} (calls : Calls first k s last kept t) → FullAtCalls calls → NoneFails calls
  by uncalled full = tt
  by (takes {last = last} {old = old} {new = new} {one = one} {t = t} {cue = cue} {r = r} so_far same going turn answer) full =
      let none = by so_far full.0 in
      let kept = calls_keep first last k one s t start so_far going in
      let sound = subst Sound (sym same) (kept.stands.sound (calls_keep_need first last k one s t needless so_far none)) in
      let links = subst LinksTrue (sym same) ((hints_stay_true first last k one s t start.begins truthful so_far).between going).links in
      (none, answer_is_unfailed (pack old) t cue (added old new) turn.answered.moves turn.state r turn.answered.answers sound full.1 links)
  by (reads so_far same going read) full = by so_far full
  by (renews so_far going closed renewed) full = tt

-- ---- a whole session
pub sessions_end_with_true_hints : SessionsEndWithTrueHints
sessions_end_with_true_hints first last k kept moment limit t begun hints calls none =
    let so = hints_stay_true first last k kept (opening (pack first) moment) t refl (begun.truthful hints) calls in
    record {
      between = so.between;
      hints = λ over. so.closed over (calls_keep_need first last k kept (opening (pack first) moment) t refl calls none);
    }
