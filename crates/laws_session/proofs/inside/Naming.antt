-- An answer that names a hint that misled is that of a turn that failed.
use Rattle.std.proofs.Common.{◌≡◌, ℕ, Bool, true, false, cond, List, Option, Some, None, refl, subst}
use Rattle.laws_line.specs.disk_records.specs.declared.records.Event.{Event}
use Rattle.laws_line.specs.disk_records.specs.declared.records.Page.{Page}
use Rattle.laws_line.specs.disk_records.specs.declared.records.Place.{Place}
use Rattle.laws_line.specs.disk_records.specs.Packs.{Pack}
use Rattle.laws_line.specs.pack_model.specs.operations.Operations.{Move}
use Rattle.laws_line.specs.pack_model.specs.sessions.Turns.{Turn}
use Rattle.session_model.specs.exec_words.specs.declared.reply.Refusal.{Refusal}
use Rattle.session_model.specs.exec_words.specs.declared.reply.Refusal.TheVariants as refusal
use Rattle.session_model.specs.exec_words.specs.declared.reply.Reply.TheVariants as reply
use Rattle.session_model.specs.Answering.{plain_reply, reply_of, reply_unless}
use Rattle.session_model.specs.Replies.{refusal as refusal_to, reply_to}
use Rattle.session_model.specs.Turning.{State, Cue, typed, aside, ended, HintFailing, TurnKind, plain, failed, scavenged, cue_files, is_quit}
use Rattle.session_model.specs.Worlds.{World, failed_world}
use Rattle.laws_session.specs.CallLaws.{AnswersNameAFailedHint}
use Rattle.laws_session.proofs.inside.Filling.{refusals_name_no_hint}

-- a plain reply names none
no_plain_one : (s : State) (cue : Cue) (place : Place) (at : ℕ) (wanted : Page) (found : Option (List ℕ)) → reply.Refused (refusal.HintFailed place at wanted found) ≡ plain_reply s cue → ⊥
no_plain_one s ended place at wanted found e = absurd cc
no_plain_one s (aside text) place at wanted found e = absurd cc
no_plain_one s (typed l) place at wanted found e = by (refusal_to l s.model s.world) refl e
  where
    answered : (b : Bool) → reply.Refused (refusal.HintFailed place at wanted found) ≡ cond b reply.Quit (reply.Done (reply_to l s.model s.world)) → ⊥
    answered true k = absurd cc
    answered false k = absurd cc

    by : (r : Option Refusal) → refusal_to l s.model s.world ≡ r → reply.Refused (refusal.HintFailed place at wanted found) ≡ reply_unless r (cond (is_quit l) reply.Quit (reply.Done (reply_to l s.model s.world))) → ⊥
    by None is k = answered (is_quit l) k
    by (Some x) is k = refusals_name_no_hint l s.model s.world place at wanted found (let same : x ≡ refusal.HintFailed place at wanted found = cc in subst (λ y. refusal_to l s.model s.world ≡ Some y) same is)

named_by : {p : Pack} {s : State} {cue : Cue} {wrote : List Event} {made : Turn Move} {world : World} {over : Bool} (k : TurnKind p s cue wrote made world over) (place : Place) (at : ℕ) (wanted : Page) (found : Option (List ℕ))
    → reply.Refused (refusal.HintFailed place at wanted found) ≡ reply_of k → HintFailing p wrote (cue_files s cue) place at wanted found × (world ≡ failed_world s.world)
named_by {s = s} {cue = cue} (plain asks) place at wanted found e = absurd (no_plain_one s cue place at wanted found e)
named_by {p = p} {s = s} {cue = cue} {wrote = wrote} (failed {place = there} {at = word} {wanted = page} {found = label} moves f start) place at wanted found e = (by, refl)
  where
    by : HintFailing p wrote (cue_files s cue) place at wanted found
    by =
        let one : there ≡ place = cc in
        let two : word ≡ at = cc in
        let three : page ≡ wanted = cc in
        let four : label ≡ found = cc in
        subst (HintFailing p wrote (cue_files s cue) place at wanted) four
        (subst (λ x. HintFailing p wrote (cue_files s cue) place at x label) three
        (subst (λ x. HintFailing p wrote (cue_files s cue) place x page label) two
        (subst (λ x. HintFailing p wrote (cue_files s cue) x word page label) one f)))
named_by (scavenged quiets n asks) place at wanted found e = absurd cc

pub answers_name_a_failed_hint : AnswersNameAFailedHint
answers_name_a_failed_hint p s u cue wrote moves place at wanted found r = named_by r.made.kind place at wanted found r.says
