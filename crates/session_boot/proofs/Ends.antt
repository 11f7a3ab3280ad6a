-- How a session ends: over, broken off, or between two lines.
use Rattle.std.proofs.Common.{◌≡◌, ◌≢◌, ◌⊎◌, ◌<◌, ◌≤◌, ◌^◌, Bool, true, false, ℕ, suc, List, [], ◌∷◌, ◌++◌, Option, Some, None, Result, Ok, Err, inl, inr, refl, sym, subst, ap, ◌∙◌, arith, drop, length}
use Rattle.disk_records.specs.declared.records.Event.{Event}
use Rattle.disk_records.specs.declared.records.Tally.{Tally}
use Rattle.disk_records.specs.Events.{writes_in}
use Rattle.disk_records.specs.Packs.{Pack, after}
use Rattle.disk_records.specs.Tapes.{Grown, KeysAlone, Taped, added, capped, pack}
use Rattle.disk_records.proofs.Growing.{added-twice, grown_twice, pack-after}
use Rattle.executive.specs.laws_session.proofs.ends.Laws.{sessions_leave_closed, sound_packs_begin}
use Rattle.executive.specs.laws_session.proofs.histories.Laws.{crashes_of_a_history, crashes_show_the_ruled_model, histories_are_shown}
use Rattle.executive.specs.pack_laws.proofs.tallies.Laws.{tally_by_the_count}
use Rattle.executive.specs.pack_model.specs.hints.Tables.{HintsTrue}
use Rattle.executive.specs.pack_model.specs.operations.Operations.{Move}
use Rattle.executive.specs.pack_model.specs.reading.Model.{read_as}
use Rattle.executive.specs.pack_model.specs.sessions.Moves.{IsStartOf}
use Rattle.executive.specs.pack_model.specs.sessions.Tallies.{counted, no_tally}
use Rattle.executive.specs.pack_model.specs.sessions.Turns.{Turn, ops_of}
use Rattle.executive.specs.pack_model.specs.states.Sound.{Clean, Sound}
use Rattle.session_model.specs.Answering.{count_end}
use Rattle.session_model.specs.Ending.{EndsBy, SessionOf, Stop, TookKeys, cues_of, disk_failed, display_failed, done, keys_failed, needs_scavenge, no_memory}
use Rattle.session_model.specs.Histories.{BrokenIsTakenUp, BrokenTurn, HistoryOf, IsUnfailed, MadeAll, NoneFailedIn, aloud, broken, broken_text, whole}
use Rattle.session_model.specs.Keeping.{Kept}
use Rattle.session_model.specs.Turning.{Cue, IsTakenUp, State, ended, opening}
use Rattle.session_boot.specs.Boots.{LastsBy, LastsTo}
use Rattle.session_boot.specs.Faults.{KeyFaultCause, stop_of, stop_of_need}
use Rattle.session_boot.specs.Turns.{EndsTurnBy, LineMissed, LineTaken, TurnBroke, cut_turn}
use Rattle.session_boot.specs.declared.line.Next.TheVariants.{Over}
use Rattle.session_boot.specs.declared.status.Fault.{Fault}
use Rattle.session_boot.specs.declared.status.Fault.TheVariants.{Disk, Key, Display, Memory}
use Rattle.session_boot.proofs.Goings.{AtEnd, line_turned}
use Rattle.session_boot.proofs.Lined.{lined_took}
use Rattle.session_boot.proofs.LinesTyped.{all_start, cues, cues-push, cues_start, kept_cue, keys_end, keys_lines, keys_part}
use Rattle.session_boot.proofs.Live.{Over as KeysOver}
use Rattle.session_boot.proofs.SoFar.{Lived, Modelled, SoFar, Turned, kind_unfailed, so_far_pack, start_cut, tally_more, turn_truthful, turned_lived, turned_of}

-- ---- a history and what is said of its last turn
record Told (moment : ℕ) (p : Pack) (stop : Stop) (events : List Event) (cs : List Cue) (turns : List (Turn Move)) (end : Option State) : Type 0 where
  pub history : HistoryOf aloud p (opening p moment) events cs turns end
  pub silent : stop ≢ display_failed → broken_text history ≡ []
  pub shows : stop ≡ display_failed → MadeAll history
  pub reaches : stop ≡ disk_failed → BrokenIsTakenUp history
  pub unfailed : HintsTrue p → NoneFailedIn history

told_whole : {moment : ℕ} {p : Pack} {events : List Event} {cs : List Cue} {turns : List (Turn Move)} {u : State} (stop : Stop) → Lived moment p events cs turns u → Told moment p stop events cs turns (Some u)
told_whole stop l = record { history = whole l.lived; silent = λ other. refl; shows = λ display. tt; reaches = λ disk. tt; unfailed = l.unfailed }

told_broken : {moment : ℕ} {p : Pack} {events more : List Event} {cs : List Cue} {turns : List (Turn Move)} {t : State} {cue : Cue} {ops : List Move} {text : List ℕ} (stop : Stop) → Lived moment p events cs turns t → (turn : BrokenTurn aloud (after p events) t cue more (cut_turn ops text))
    → (HintsTrue p → IsUnfailed turn.kind) → (stop ≢ display_failed → text ≡ []) → (stop ≡ display_failed → ops ≡ turn.wanted.ops) → (stop ≡ disk_failed → IsTakenUp t cue) → Told moment p stop (events ++ more) (cs ++ cue ∷ []) (turns ++ cut_turn ops text ∷ []) None
told_broken stop l turn one silent shows reaches = record { history = broken l.lived turn; silent = silent; shows = shows; reaches = reaches; unfailed = λ hints. (l.unfailed hints, one hints) }

session_told : {moment : ℕ} {first z : Taped} {given tally : Tally} {stop : Stop} {cs : List Cue} {turns : List (Turn Move)} {end : Option State} → Sound (pack first) → Told moment (pack first) stop (added first z) cs turns end → IsStartOf cs (cues_of first.keys) → TookKeys first z stop cs
    → ((stop ≡ disk_failed → suc z.writes ≤ count_end) → tally ≡ counted first.writes (ops_of turns) (no_tally given.limit)) → SessionOf moment first z given tally stop end
session_told {moment} {first} {z} {cs = cs} {turns} {end} sound told start keys tally =
    let p = pack first in
    let cut = start_cut p sound in
    record {
      cues = cs;
      turns = turns;
      history = told.history;
      first = start;
      keys = keys;
      silent = told.silent;
      shows = told.shows;
      reaches = told.reaches;
      shown = (histories_are_shown p (opening p moment) (added first z) cs turns end cut told.history).shown;
      tally_is = tally;
      cuts = crashes_of_a_history p (opening p moment) (added first z) cs turns end cut told.history;
      states = crashes_show_the_ruled_model p (opening p moment) (added first z) cs turns end cut told.history;
      unfailed = told.unfailed;
    }

-- ---- faults
display_is : (fault : Fault) → stop_of fault ≡ display_failed → fault ≡ Display
display_is Disk is = cc
display_is Key is = cc
display_is Display is = refl
display_is Memory is = cc

disk_is : (fault : Fault) → stop_of fault ≡ disk_failed → fault ≡ Disk
disk_is Disk is = refl
disk_is Key is = cc
disk_is Display is = cc
disk_is Memory is = cc

not_keys : (fault : Fault) → fault ≢ Key → stop_of fault ≢ keys_failed
not_keys Disk other is = cc
not_keys Key other is = absurd (other refl)
not_keys Display other is = cc
not_keys Memory other is = cc

broken_ends : (first z : Taped) (fault : Fault) → fault ≢ Key → EndsBy (stop_of fault) first z None
broken_ends first z Disk other = refl
broken_ends first z Key other = absurd (other refl)
broken_ends first z Display other = refl
broken_ends first z Memory other = tt

done_is_no_keys : done ≢ keys_failed
done_is_no_keys is = cc

needs_is_no_keys : needs_scavenge ≢ keys_failed
needs_is_no_keys is = cc

module _ {moment : ℕ} {first now : Taped} {given : Tally} {k : Kept} {left index : ℕ} (so_far : SoFar moment first given now k left index) (modelled : Modelled now) (limit : given.limit < 2 ^ 64) (sound : Sound (pack first)) (counts : first.writes ≡ capped (writes_in first.events)) where
  count_is : (ops : List Move) → counted (writes_in first.events) ops (no_tally given.limit) ≡ counted first.writes ops (no_tally given.limit)
  count_is ops = sym (tally_by_the_count (writes_in first.events) ops (no_tally given.limit) limit) ∙ ap (λ n. counted n ops (no_tally given.limit)) (sym counts)

  -- ---- over
  module _ {z : Taped} {two : Kept} {cue : Cue} (t : Turned so_far modelled limit sound z two cue true) (start : IsStartOf (cues so_far.texts ++ cue ∷ []) (cues_of first.keys)) (keys : (stop : Stop) → stop ≢ keys_failed → TookKeys first z stop (cues so_far.texts ++ cue ∷ [])) where
    lived : Lived moment (pack first) (added first z) (cues so_far.texts ++ cue ∷ []) (so_far.turns ++ t.turn.made ∷ []) t.turn.state
    lived = turned_lived so_far modelled limit sound t

    grown : Grown first z
    grown = grown_twice so_far.grown t.grown

    session : (stop : Stop) → stop ≢ keys_failed → SessionOf moment first z given two.tally stop (Some t.turn.state)
    session stop other =
        session_told sound (told_whole stop lived) start (keys stop other)
        (λ tells. tally_more so_far modelled limit sound t.turn.made two.tally t.turn.tally ∙ count_is (ops_of (so_far.turns ++ t.turn.made ∷ [])))

    over_by : (b : Bool) → two.need ≡ b → LastsTo moment first z given two.tally (stop_of_need b)
    over_by true need = record { end = Some t.turn.state; session = session needs_scavenge needs_is_no_keys; ends = record { state = t.turn.state; is = refl; over = t.turn.over_is; need_is = sym t.turn.need ∙ need } }
    over_by false need =
        let none : t.turn.state.world.need ≡ false = sym t.turn.need ∙ need in
        let begins = sound_packs_begin (pack first) moment sound in
        let left = sessions_leave_closed (pack first) (opening (pack first) moment) t.turn.state (added first z) (cues so_far.texts ++ cue ∷ []) (so_far.turns ++ t.turn.made ∷ []) begins.1 begins.0 refl lived.lived t.turn.over_is none in
        let here = sym (pack-after grown) in
        record {
          end = Some t.turn.state;
          session = session done done_is_no_keys;
          ends = record {
            over = record { state = t.turn.state; is = refl; over = t.turn.over_is; need_is = none };
            sound = subst Sound here left.sound;
            clean = subst Clean here left.clean;
            reads = ap read_as (sym here) ∙ left.reads;
            hints = λ hints. t.turn.closed (turn_truthful so_far modelled limit sound hints) t.turn.over_is none;
          };
        }

    pub over_lasts : LastsTo moment first z given two.tally (stop_of_need two.need)
    over_lasts = over_by two.need refl

  -- ---- broken off
  pub broke_lasts : {z : Taped} {two : Kept} {cue : Cue} {fault : Fault} → Grown now z → fault ≢ Key → TurnBroke (pack now) (added now z) now.writes z k two so_far.state cue fault → IsStartOf (cues so_far.texts ++ cue ∷ []) (cues_of first.keys) → TookKeys first z (stop_of fault) (cues so_far.texts ++ cue ∷ [])
      → LastsTo moment first z given two.tally (stop_of fault)
  broke_lasts {z} {two} {cue} {fault} grown other at start keys =
      let t = subst (λ p. TurnBroke p (added now z) now.writes z k two so_far.state cue fault) (so_far_pack so_far modelled limit sound) at in
      let made = cut_turn t.ops t.text in
      let told = told_broken (stop_of fault) so_far.lived t.turn (kind_unfailed so_far modelled limit sound t.turn.kind) (λ no_display. t.silent (λ is. no_display (ap stop_of is))) (λ is. t.shows (display_is fault is)) (λ is. t.reaches (disk_is fault is)) in
      record {
        end = None;
        session = session_told sound (subst (λ e. Told moment (pack first) (stop_of fault) e (cues so_far.texts ++ cue ∷ []) (so_far.turns ++ made ∷ []) None) (sym (added-twice so_far.grown grown)) told) start keys
            (λ tells. tally_more so_far modelled limit sound made two.tally (t.tally (λ is. let h = tells (ap stop_of is) in omega (arith, h))) ∙ count_is (ops_of (so_far.turns ++ made ∷ [])));
        ends = broken_ends first z fault other;
      }

  -- ---- between two lines
  missed_by : {z : Taped} (fault : Fault) → KeyFaultCause now z fault → KeysAlone now z → (Stop → TookKeys first z (stop_of fault) (cues so_far.texts)) → LastsTo moment first z given k.tally (stop_of fault)
  missed_by {z} fault cause alone keys =
      let lived = subst (λ e. Lived moment (pack first) e (cues so_far.texts) so_far.turns so_far.state) (sym (ap (λ e. drop (length first.events) e) alone.events)) so_far.lived in
      record {
        end = Some so_far.state;
        session = session_told sound (told_whole (stop_of fault) lived) (cues_start so_far.lined) (keys (stop_of fault)) (λ tells. so_far.tally ∙ count_is (ops_of so_far.turns));
        ends = by fault cause;
      }
    where
      by : (fault : Fault) → KeyFaultCause now z fault → EndsBy (stop_of fault) first z (Some so_far.state)
      by Disk cause = absurd cause
      by Key cause = record { state = so_far.state; is = refl; over = so_far.keeping.begins }
      by Display cause = absurd cause
      by Memory cause = tt

  between : (z : Taped) (fault : Fault) → KeyFaultCause now z fault → (stop_of fault ≡ keys_failed) ⊎ (stop_of fault ≡ no_memory)
  between z Disk cause = absurd cause
  between z Key cause = inl refl
  between z Display cause = absurd cause
  between z Memory cause = inr refl

  pub missed_lasts : {z : Taped} {two : Kept} {fault : Fault} → LineMissed now z k two left fault → LastsTo moment first z given two.tally (stop_of fault)
  missed_lasts {z} {two} {fault} m =
      subst (λ q. LastsTo moment first z given q.tally (stop_of fault)) (sym m.same)
      (missed_by fault m.cause m.alone (λ stop. keys_part (stop_of fault) so_far.lined m.part (between z fault m.cause)))

  -- ---- a line
  pub line_over : {z : Taped} {two : Kept} {rest : ℕ} → Grown now z → LineTaken now z k two left rest (Ok Over) → LastsTo moment first z given two.tally (stop_of_need two.need)
  line_over {z} grown t =
      let took = lined_took so_far.lined t.took in
      let pushed = cues-push so_far.texts took.whole in
      over_lasts (line_turned so_far modelled limit sound grown t) (subst (λ c. IsStartOf c (cues_of first.keys)) pushed (cues_start took.lined)) (λ stop other. subst (TookKeys first z stop) pushed (keys_lines stop took.lined other))

  pub line_broke : {z : Taped} {two : Kept} {rest : ℕ} {fault : Fault} → Grown now z → fault ≢ Key → LineTaken now z k two left rest (Err fault) → LastsTo moment first z given two.tally (stop_of fault)
  line_broke {z} {two} {fault = fault} grown other t =
      let took = lined_took so_far.lined t.took in
      let pushed = cues-push so_far.texts took.whole in
      broke_lasts grown other
      (subst (λ cue. TurnBroke (pack now) (added now z) now.writes z k two so_far.state cue fault) (kept_cue t.text took.whole took.kept) (t.turn so_far.state so_far.keeping))
      (subst (λ c. IsStartOf c (cues_of first.keys)) pushed (cues_start took.lined)) (subst (TookKeys first z (stop_of fault)) pushed (keys_lines (stop_of fault) took.lined (not_keys fault other)))

-- ---- the end of the keys
module _ {moment : ℕ} {first now z : Taped} {given : Tally} {k : Kept} (two : Kept) (at : AtEnd moment first given now k) (modelled : Modelled now) (limit : given.limit < 2 ^ 64) (sound : Sound (pack first)) (counts : first.writes ≡ capped (writes_in first.events)) (further : Grown now z) (same : z.keys ≡ now.keys) where
  over_there : KeysOver first.keys z.keys at.left at.so_far.texts
  over_there = subst (λ keys. KeysOver first.keys keys at.left at.so_far.texts) (sym same) at.over

  pub end_lasts : (result : Result (Unit {0}) Fault) → EndsTurnBy now z k two ended result → (result ≡ Err Key → ⊥) → LastsBy moment first z given two result
  end_lasts (Ok u) turn no_key =
      over_lasts at.so_far modelled limit sound counts (turned_of at.so_far modelled limit sound further (turn at.so_far.state at.so_far.keeping)) (all_start at.over) (λ stop other. keys_end stop over_there other)
  end_lasts (Err fault) turn no_key =
      let other : fault ≢ Key = λ is. no_key (ap (λ f. Err f) is) in
      broke_lasts at.so_far modelled limit sound counts further other (turn at.so_far.state at.so_far.keeping) (all_start at.over) (keys_end (stop_of fault) over_there (not_keys fault other))
