-- A line that is taken up and goes on with the session: it can be typed, no scavenge is needed, and what is said of its replies.
use Rattle.std.proofs.Common.{◌≡◌, ◌&&◌, ◌∙◌, ℕ, Bool, true, false, cond, not, nat_lt, [], ◌∷◌, Option, Some, None, ap, refl, subst}
use Rattle.disk_records.specs.Packs.{Pack}
use Rattle.exec_words.specs.Typed.{is_typed}
use Rattle.exec_words.specs.declared.line.Line.{Line}
use Rattle.exec_words.specs.declared.reply.Refusal.{Refusal}
use Rattle.exec_words.specs.declared.reply.Refusal.TheVariants as refusal
use Rattle.exec_words.specs.declared.reply.Reply.{Reply}
use Rattle.exec_words.specs.declared.reply.Reply.TheVariants as reply
use Rattle.laws_session.specs.LineAnswers.{GoesOnWith}
use Rattle.pack_model.specs.reading.Files.{first}
use Rattle.pack_model.specs.reading.Model.{Model}
use Rattle.session_model.specs.Answering.{plain_reply, reply_unless}
use Rattle.session_model.specs.Bounds.{DoneWithin, RunsWithin}
use Rattle.session_model.specs.Effects.{effect}
use Rattle.session_model.specs.Operands.{level_of}
use Rattle.session_model.specs.Refusals.{is_bad, is_obeyed_in_need, when}
use Rattle.session_model.specs.Replies.{refusal as refusal_to, text_unless, unless_refused}
use Rattle.session_model.specs.Turning.{State, is_quit, is_scavenge, typed}
use Rattle.session_model.specs.Worlds.{World}
use Rattle.exec_session.specs.Meant.{IsTakenUpBy}

-- a line that isn't obeyed while a scavenge is needed
pub need_none : (l : Line) (w : World) → is_obeyed_in_need l ≡ false → IsTakenUpBy w l → w.need ≡ false
unfolding first
need_none l w obeyed taken =
    by (is_bad l) w.need (nat_lt w.level (level_of l))
    (subst (λ b. first (λ r. r) (when (is_bad l) refusal.BadLine ∷ when (w.need && not b) refusal.NeedsScavenge ∷ when (nat_lt w.level (level_of l)) (refusal.NoService (level_of l)) ∷ []) ≡ None) obeyed taken)
  where
    by : (bad need low : Bool) → first (λ r. r) (when bad refusal.BadLine ∷ when (need && not false) refusal.NeedsScavenge ∷ when low (refusal.NoService (level_of l)) ∷ []) ≡ None → need ≡ false
    by bad false low e = refl
    by true true low e = cc
    by false true low e = cc

-- one that can be typed
pub typed_line : (l : Line) (w : World) → IsTakenUpBy w l → is_typed l ≡ true
unfolding first
typed_line l w taken = by (is_typed l) (w.need && not (is_obeyed_in_need l)) (nat_lt w.level (level_of l)) taken
  where
    by : (typed need low : Bool) → first (λ r. r) (when (not typed) refusal.BadLine ∷ when need refusal.NeedsScavenge ∷ when low (refusal.NoService (level_of l)) ∷ []) ≡ None → typed ≡ true
    by true need low e = refl
    by false need low e = cc

-- one that neither ends the session nor asks for a scavenge
unless_false : (r : Option Refusal) (b : Bool) → b ≡ false → unless_refused r b false ≡ false
unless_false None b e = e
unless_false (Some x) b e = refl

pub goes_on : (l : Line) (s : State) → is_quit l ≡ false → is_scavenge l ≡ false → GoesOnWith s l
goes_on l s quit scavenge = record { stays = unless_false (refusal_to l s.model s.world) (is_quit l) quit; asks = unless_false (refusal_to l s.model s.world) (is_scavenge l) scavenge }

-- its text, where it isn't refused
pub plain_text : (l : Line) (s : State) → is_quit l ≡ false → refusal_to l s.model s.world ≡ None → plain_reply s (typed l) ≡ reply.Done (effect l s.model s.world).text
plain_text l s quit none =
    ap (λ x. reply_unless x (cond (is_quit l) reply.Quit (reply.Done (text_unless x (effect l s.model s.world).text)))) none
    ∙ ap (λ b. cond b reply.Quit (reply.Done (effect l s.model s.world).text)) quit

-- a line without a bound on its sector commands
pub few_none : (l : Line) → ((p : Pack) (m : Model) (n : ℕ) → DoneWithin p m l n) → (p : Pack) (m : Model) (r : Reply) (n : ℕ) → RunsWithin p m l r n
few_none l h p m (reply.Done text) n = h p m n
few_none l h p m (reply.Refused r) n = tt
few_none l h p m reply.Quit n = tt
few_none l h p m reply.Scavenge n = tt
few_none l h p m reply.DiskFault n = tt
few_none l h p m reply.Memory n = tt
