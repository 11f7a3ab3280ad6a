-- Where no scavenge is needed none is, as long as no turn fails; and where links are true none does.
use Rattle.std.proofs.Common.{◌≡◌, Bool, true, false, List, Option, Some, None, refl, ◌∙◌}
use Rattle.std.specs.Prelude.{nat_le, cond, set}
use Rattle.laws_line.specs.disk_records.specs.declared.records.Event.{Event}
use Rattle.laws_line.specs.disk_records.specs.Packs.{Pack}
use Rattle.laws_line.specs.pack_model.specs.hints.Links.{LinksTrue}
use Rattle.laws_line.specs.pack_model.specs.operations.Operations.{Move}
use Rattle.laws_line.specs.pack_model.specs.reading.Model.{Model}
use Rattle.laws_line.specs.pack_model.specs.sessions.Turns.{Turn}
use Rattle.laws_line.specs.pack_model.specs.states.Sound.{Sound}
use Rattle.session_model.specs.exec_words.specs.declared.line.Line.{Line}
use Rattle.session_model.specs.exec_words.specs.declared.line.Line.TheVariants as line
use Rattle.session_model.specs.exec_words.specs.declared.reply.Refusal.{Refusal}
use Rattle.laws_lookup.proofs.hints.Laws.{true_hints_never_mislead}
use Rattle.laws_lookup.specs.HintLaws.{HasFullValues}
use Rattle.session_model.specs.world_model.specs.Zones.{Taken, zone_set, size_for, taken}
use Rattle.session_model.specs.world_model.specs.ZoneWords.{zone_start}
use Rattle.session_model.specs.Effects.{effect, block_effect}
use Rattle.session_model.specs.Histories.{IsUnfailed, LinksTrueThroughout, NoneFailed, TurnsOf, begun, then}
use Rattle.session_model.specs.Replies.{unless_refused, refusal}
use Rattle.session_model.specs.Turning.{State, Cue, cue_line, TurnKind, plain, failed, scavenged}
use Rattle.session_model.specs.Worlds.{World, world_with_zone}
use Rattle.laws_session.specs.EndLaws.{FullThroughout, LinesKeepNeed, NoneFailsWithTrueLinks}
use Rattle.laws_session.proofs.inside.Standing.{turns_stand}

-- ---- no line changes whether a scavenge is needed
block_need : (w : World) (t : Option Taken) → (block_effect w t).world.need ≡ w.need
block_need w None = refl
block_need w (Some t) = refl

either_need : (w x y : World) (b : Bool) → x.need ≡ w.need → y.need ≡ w.need → (cond b x y).need ≡ w.need
either_need w x y true e d = e
either_need w x y false e d = d

effect_need : (l : Line) (m : Model) (w : World) → (effect l m w).world.need ≡ w.need
effect_need (line.ListNames dir) m w = refl
effect_need (line.TypeOut file) m w = refl
effect_need (line.Stat file) m w = refl
effect_need (line.Make path) m w = refl
effect_need (line.Append file bytes) m w = refl
effect_need (line.Patch file offset bytes) m w = refl
effect_need (line.Cut file n) m w = refl
effect_need (line.Copy file path) m w = refl
effect_need (line.Rename old new) m w = refl
effect_need (line.Delete path) m w = refl
effect_need (line.MakeDir name) m w = refl
effect_need (line.RemoveDir name) m w = refl
effect_need line.Free m w = refl
effect_need (line.SetTime moment) m w = refl
effect_need (line.OpenStream file) m w = refl
effect_need (line.Get stream count) m w = refl
effect_need (line.PutBytes stream bytes) m w = refl
effect_need (line.Seek stream to) m w = refl
effect_need (line.Close stream) m w = refl
effect_need (line.Store at word) m w = either_need w (world_with_zone w (zone_set zone_start at word w.zone)) (record w { user = set w.user at word }) (nat_le zone_start at) refl refl
effect_need (line.Fetch at) m w = refl
effect_need (line.Block n) m w = block_need w (taken zone_start (size_for n) w.zone)
effect_need (line.Unblock at) m w = refl
effect_need (line.Junta level) m w = refl
effect_need line.CounterJunta m w = refl
effect_need (line.OutLoad path) m w = refl
effect_need (line.InLoad path message) m w = refl
effect_need line.Scavenge m w = refl
effect_need line.Quit m w = refl
effect_need line.Bad m w = refl

pub lines_keep_need : LinesKeepNeed
lines_keep_need l m w = by (refusal l m w) where
  by : (r : Option Refusal) → (unless_refused r (effect l m w).world w).need ≡ w.need
  by None = effect_need l m w
  by (Some r) = refl

-- ---- turns
-- a turn that didn't fail needs no scavenge where none was needed
pub unfailed_need : {p : Pack} {s : State} {cue : Cue} {wrote : List Event} {made : Turn Move} {world : World} {over : Bool} (k : TurnKind p s cue wrote made world over) → IsUnfailed k → s.world.need ≡ false → world.need ≡ false
unfailed_need {s = s} {cue = cue} (plain asks) h need = lines_keep_need (cue_line cue) s.model s.world ∙ need
unfailed_need (failed moves f start) h need = elim h [ ]
unfailed_need (scavenged quiets n asks) h need = refl

-- where links are true as it begins it doesn't fail
pub true_unfailed : {p : Pack} {s : State} {cue : Cue} {wrote : List Event} {made : Turn Move} {world : World} {over : Bool} (k : TurnKind p s cue wrote made world over) → Sound p → HasFullValues p → LinksTrue p → IsUnfailed k
true_unfailed (plain asks) sound full links = tt
true_unfailed {p = p} (failed {place = place} {at = at} {wanted = wanted} moves f start) sound full links = absurd (true_hints_never_mislead p place at wanted sound.whole sound.tidy full links f.on_disk f.misled.misled)
true_unfailed (scavenged quiets n asks) sound full links = tt

-- ---- whole histories
pub none_fails_with_true_links : NoneFailsWithTrueLinks
none_fails_with_true_links says p s u events cues turns start need h full links = by h full links where
  by : {events : List Event} {cues : List Cue} {turns : List (Turn Move)} {u : State} → (h : TurnsOf says p s events cues turns u) → FullThroughout h → LinksTrueThroughout h → NoneFailed h × (u.world.need ≡ false)
  by begun full links = (tt, need)
  by (then {events} {t = t} so_far turn) full links =
      let before = by so_far full.0 links.0 in
      let sound = (turns_stand says p s t events _ _ start so_far).sound before.1 in
      let unfailed = true_unfailed turn.finished.kind sound full.1 links.1 in
      ((before.0, unfailed), unfailed_need turn.finished.kind unfailed before.1)
