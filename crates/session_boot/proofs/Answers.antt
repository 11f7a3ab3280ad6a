-- The answer of a call on a session, and then its text, as one turn of which the moves are known.
use Rattle.std.proofs.Common.{◌≡◌, ◌≢◌, ◌<◌, ℕ, Bool, true, false, cond, List, [], ◌∷◌, ◌++◌, Option, Some, None, Result, Ok, Err, refl, sym, ◌∙◌, ap, subst}
use Rattle.std.proofs.lemmas.List.{append-nil}
use Rattle.std.specs.Result.{IsErrAnd}
use Rattle.disk_records.specs.declared.records.Event.{Event}
use Rattle.disk_records.specs.Events.{IsFirstOf, shown_events}
use Rattle.disk_records.specs.Packs.{Pack, after}
use Rattle.disk_records.specs.Tapes.{Grown, Taped, added, pack}
use Rattle.disk_records.proofs.Growing.{added-twice, after-shown, nothing_added, pack-after}
use Rattle.exec_words.specs.Built.{as_built}
use Rattle.exec_words.specs.Texts.{reply_text}
use Rattle.exec_words.specs.declared.line.Line.{Line}
use Rattle.exec_words.specs.declared.line.Line.TheVariants as line
use Rattle.exec_words.specs.declared.reply.Refusal.{Refusal}
use Rattle.exec_words.specs.declared.reply.Reply.{Reply}
use Rattle.exec_words.specs.declared.reply.Reply.TheVariants as reply
use Rattle.executive.specs.pack_laws.proofs.Moving.{start_self}
use Rattle.executive.specs.pack_laws.proofs.TurnCalls.{shown_first}
use Rattle.executive.specs.pack_model.specs.hints.Tables.{HintsTrue}
use Rattle.executive.specs.pack_model.specs.hints.Truth.{Truthful}
use Rattle.executive.specs.pack_model.specs.operations.Operations.{Move}
use Rattle.executive.specs.pack_model.specs.sessions.Moves.{rest}
use Rattle.executive.specs.pack_model.specs.sessions.Turns.{Turn}
use Rattle.session_model.specs.Answering.{Answers, IsAnswer, Replied, TakesTurn, TakesTurns, TellsWrites, count_end, reply_of, reply_unless}
use Rattle.session_model.specs.Keeping.{Kept, Keeping}
use Rattle.session_model.specs.Replies.{refusal as refusal_to, reply_to, unless_refused}
use Rattle.session_model.specs.Turning.{Cue, aside, IsTakenUp, State, TurnKind, asks_scavenge, closes, cue_for, cue_moves, cue_text, cue_world, ended, failed, is_quit, is_scavenge, plain, scavenged, turn_of, typed}
use Rattle.session_model.specs.Worlds.{World}
use Rattle.session_boot.specs.Faults.{HasShowCause}
use Rattle.session_boot.specs.Keys.{ShownAll}
use Rattle.session_boot.specs.Turns.{EndsTurnBy, TurnBroke, TurnTaken, TurnsFrom, ends_all, is_over, next_after}
use Rattle.session_boot.specs.declared.line.Next.{Next}
use Rattle.session_boot.specs.declared.line.Next.TheVariants.{More, Over}
use Rattle.session_boot.specs.declared.status.Fault.{Fault}
use Rattle.session_boot.specs.declared.status.Fault.TheVariants.{Disk, Key, Display, Memory}

-- ---- no line asks for a scavenge yet
abbrev pub NeverAsks : Cue → Type 0
NeverAsks cue = (s : State) → asks_scavenge s cue ≡ false

no_scavenge : (l : Line) → is_scavenge (as_built l) ≡ false
no_scavenge (line.ListNames dir) = refl
no_scavenge (line.TypeOut file) = refl
no_scavenge (line.Stat file) = refl
no_scavenge (line.Make path) = refl
no_scavenge (line.Append file bytes) = refl
no_scavenge (line.Patch file offset bytes) = refl
no_scavenge (line.Cut file n) = refl
no_scavenge (line.Copy file path) = refl
no_scavenge (line.Rename old new) = refl
no_scavenge (line.Delete path) = refl
no_scavenge (line.MakeDir name) = refl
no_scavenge (line.RemoveDir name) = refl
no_scavenge line.Free = refl
no_scavenge (line.SetTime moment) = refl
no_scavenge (line.OpenStream file) = refl
no_scavenge (line.Get stream count) = refl
no_scavenge (line.PutBytes stream bytes) = refl
no_scavenge (line.Seek stream to) = refl
no_scavenge (line.Close stream) = refl
no_scavenge (line.Store at word) = refl
no_scavenge (line.Fetch at) = refl
no_scavenge (line.Block n) = refl
no_scavenge (line.Unblock at) = refl
no_scavenge (line.Junta level) = refl
no_scavenge line.CounterJunta = refl
no_scavenge (line.OutLoad path) = refl
no_scavenge (line.InLoad path message) = refl
no_scavenge line.Scavenge = refl
no_scavenge line.Quit = refl
no_scavenge line.Bad = refl

unless_false : (o : Option Refusal) (b : Bool) → b ≡ false → unless_refused o b false ≡ false
unless_false None b is = is
unless_false (Some r) b is = refl

pub line_never_asks : (l : Line) → NeverAsks (cue_for l)
line_never_asks l s = unless_false (refusal_to (as_built l) s.model s.world) (is_scavenge (as_built l)) (no_scavenge l)

pub end_never_asks : NeverAsks ended
end_never_asks s = refl

-- ---- the session is over after a quit that is answered so, and at the end of the keys
abbrev pub quits : Reply → Bool
quits (reply.Done text) = false
quits (reply.Refused r) = false
quits reply.Quit = true
quits reply.Scavenge = false
quits reply.DiskFault = false
quits reply.Memory = false

abbrev pub over_of : Cue → Reply → Bool
over_of (typed l) r = quits r
over_of (aside text) r = false
over_of ended r = true

typed_over : (o : Option Refusal) (b : Bool) (text : List ℕ) → unless_refused o b false ≡ quits (reply_unless o (cond b reply.Quit (reply.Done text)))
typed_over None true text = refl
typed_over None false text = refl
typed_over (Some x) b text = refl

kind_over : {p : Pack} {s : State} {cue : Cue} {wrote : List Event} {made : Turn Move} {world : World} {over : Bool} (k : TurnKind p s cue wrote made world over) → over ≡ over_of cue (reply_of k)
kind_over {s = s} {cue = typed l} (plain asks) = typed_over (refusal_to l s.model s.world) (is_quit l) (reply_to l s.model s.world)
kind_over {cue = aside text} (plain asks) = refl
kind_over {cue = ended} (plain asks) = refl
kind_over {cue = typed l} (failed moves f start) = refl
kind_over {cue = aside text} (failed moves f start) = refl
kind_over {cue = ended} (failed moves f start) = refl
kind_over {cue = typed l} (scavenged quiets n asks) = refl
kind_over {cue = aside text} (scavenged quiets n asks) = cc
kind_over {cue = ended} (scavenged quiets n asks) = cc

pub next_over : (r : Reply) (next : Next) → next_after r ≡ Ok next → quits r ≡ is_over next
next_over (reply.Done text) More is = refl
next_over (reply.Done text) Over is = cc
next_over (reply.Refused x) More is = refl
next_over (reply.Refused x) Over is = cc
next_over reply.Quit More is = cc
next_over reply.Quit Over is = refl
next_over reply.Scavenge More is = refl
next_over reply.Scavenge Over is = cc
next_over reply.DiskFault next is = cc
next_over reply.Memory next is = cc

-- ---- answers
next_answers : (r : Reply) (next : Next) → next_after r ≡ Ok next → IsAnswer r
next_answers (reply.Done text) next is = tt
next_answers (reply.Refused x) next is = tt
next_answers reply.Quit next is = tt
next_answers reply.Scavenge next is = tt
next_answers reply.DiskFault next is = cc
next_answers reply.Memory next is = cc

answer_is_no_fault : (r : Reply) → IsAnswer r → r ≢ reply.DiskFault
answer_is_no_fault (reply.Done text) a is = cc
answer_is_no_fault (reply.Refused x) a is = cc
answer_is_no_fault reply.Quit a is = cc
answer_is_no_fault reply.Scavenge a is = cc
answer_is_no_fault reply.DiskFault a is = absurd a
answer_is_no_fault reply.Memory a is = absurd a

not_asked : {X : Type 0} (b : Bool) → b ≡ false → b ≡ true → X
not_asked true is_false is_true = cc
not_asked false is_false is_true = cc

replied : {p : Pack} {s : State} {cue : Cue} {wrote : List Event} {moves : List Move} {u : State} (r : Reply) → asks_scavenge s cue ≡ false → IsAnswer r → Answers p s cue wrote moves r u → Replied p s cue wrote moves r u
replied (reply.Done text) never a answers = answers
replied (reply.Refused x) never a answers = answers
replied reply.Quit never a answers = answers
replied {s = s} {cue = cue} reply.Scavenge never a answers = not_asked (asks_scavenge s cue) never answers.asks
replied reply.DiskFault never a answers = absurd a
replied reply.Memory never a answers = absurd a

pub shown_none : (text : List ℕ) → shown_events text ≡ [] → text ≡ []
shown_none [] none = refl
shown_none (b ∷ text) none = cc

module _ {x y : Taped} {one two : Kept} {s : State} {cue : Cue} {r : Reply} (turn : TakesTurn x y one two s cue r) (goes : s.over ≡ false) (never : NeverAsks cue) where
  module _ {z : Taped} (first : Grown x y) (second : Grown y z) (answer : IsAnswer r) where
    made : Replied (pack x) s cue (added x y) turn.answered.moves r turn.state
    made = replied r (never s) answer turn.answered.answers

    -- all of its text is shown
    pub turn_shown : added y z ≡ shown_events (reply_text r) → TurnTaken (pack x) (added x z) x.writes z one two s cue (over_of cue r)
    turn_shown shown =
        let same : pack z ≡ pack y = pack-after second ∙ ap (after (pack y)) shown ∙ after-shown (pack y) (reply_text r) in
        record {
          made = turn_of turn.answered.moves (reply_text r);
          state = turn.state;
          whole = record {
            run = record { goes_on = goes; wrote = added x y; each = turn.answered.each; split = added-twice first second ∙ ap (λ e. added x y ++ e) shown };
            finished = made.made;
          };
          over_is = kind_over made.made.kind ∙ ap (over_of cue) (sym made.says);
          need = turn.need answer;
          keeping = λ on. subst (λ p. Keeping p two turn.state) (sym same) (turn.keeping answer on);
          tally = turn.tally (λ fault. absurd (answer_is_no_fault r answer fault));
          truthful = λ was on. subst (λ p. Truthful p two.busy) (sym same) (turn.truthful was answer on);
          closed = λ was over need. subst HintsTrue (sym same) (turn.closed was answer over need);
        }

    -- a prefix of it is
    pub turn_cut : (fault : Fault) → fault ≢ Disk → IsFirstOf (shown_events (reply_text r)) (added y z) → (fault ≢ Display → added y z ≡ []) → TurnBroke (pack x) (added x z) x.writes z one two s cue fault
    turn_cut fault no_disk some none =
        let l = shown_first (reply_text r) (added y z) some in
        record {
          ops = turn.answered.moves;
          text = l.some;
          turn = record {
            run = record { goes_on = goes; wrote = added x y; each = turn.answered.each; split = added-twice first second ∙ ap (λ e. added x y ++ e) l.are };
            wanted = turn_of turn.answered.moves (reply_text r);
            world = turn.state.world;
            over = turn.state.over;
            kind = made.made.kind;
            off = record { start = start_self turn.answered.moves; text = l.start; later = λ h. refl; uncounted = refl };
          };
          shows = λ display. refl;
          silent = λ other. shown_none l.some (sym l.are ∙ none other);
          reaches = λ disk. absurd (no_disk disk);
          tally = λ tells. turn.tally (λ fault. absurd (answer_is_no_fault r answer fault));
        }

  -- a fault, or out of memory, before there is a text
  pub turn_stopped : (fault : Fault) → fault ≢ Display → (fault ≡ Disk → IsTakenUp s cue) → ((fault ≡ Disk → y.writes < count_end) → TellsWrites r y) → TurnBroke (pack x) (added x y) x.writes y one two s cue fault
  turn_stopped fault no_display reaches tells = record {
    ops = turn.answered.moves;
    text = [];
    turn = record {
      run = record { goes_on = goes; wrote = added x y; each = turn.answered.each; split = sym (append-nil (added x y)) };
      wanted = turn_of (cue_moves (pack x) s cue) (cue_text s cue);
      world = cue_world s cue;
      over = closes s cue;
      kind = plain (never s);
      off = record { start = turn.answered.start; text = tt; later = λ h. absurd (h refl); uncounted = refl };
    };
    shows = λ display. absurd (no_display display);
    silent = λ other. refl;
    reaches = reaches;
    tally = λ told. turn.tally (tells told);
  }

-- no call was made
pub turn_missed : {x : Taped} {one : Kept} {s : State} {cue : Cue} → Keeping (pack x) one s → NeverAsks cue → TurnBroke (pack x) (added x x) x.writes x one one s cue Memory
turn_missed {x} {one} {s} {cue} keeping never = record {
  ops = [];
  text = [];
  turn = record {
    run = record { goes_on = keeping.begins; wrote = []; each = rest keeping.cut; split = nothing_added x.events };
    wanted = turn_of (cue_moves (pack x) s cue) (cue_text s cue);
    world = cue_world s cue;
    over = closes s cue;
    kind = plain (never s);
    off = record { start = tt; text = tt; later = λ h. absurd (h refl); uncounted = refl };
  };
  shows = λ display. refl_absurd display;
  silent = λ other. refl;
  reaches = λ disk. disk_absurd disk;
  tally = λ told. refl;
}
  where
    refl_absurd : {X : Type 0} → Memory ≡ Display → X
    refl_absurd is = cc

    disk_absurd : {X : Type 0} → Memory ≡ Disk → X
    disk_absurd is = cc

-- ---- an error that is passed on
pub err_is : {T : Type 0} (result : Result T Fault) (fault : Fault) → IsErrAnd result (λ e. e ≡ fault) → result ≡ Err fault
err_is (Ok x) fault h = absurd h
err_is (Err e) fault h = ap (λ f. Err f) h

-- ---- from each state
show_is_no_disk : (x y : Taped) (fault : Fault) → HasShowCause {T = Unit {0}} x y (Err fault) → fault ≢ Disk
show_is_no_disk x y Disk cause is = absurd cause
show_is_no_disk x y Key cause is = cc
show_is_no_disk x y Display cause is = cc
show_is_no_disk x y Memory cause is = cc

module _ {T : Type 0} (over : T → Bool) (x y : Taped) (one two : Kept) (cue : Cue) (r : Reply) (never : NeverAsks cue) (turns : TakesTurns x y one two cue r) where
  pub answer_shown : (z : Taped) → Grown x y → Grown y z → (next : Next) → next_after r ≡ Ok next → added y z ≡ shown_events (reply_text r) → (s : State) → Keeping (pack x) one s → TurnTaken (pack x) (added x z) x.writes z one two s cue (over_of cue r)
  answer_shown z first second next is shown s keeping = turn_shown (turns s keeping) keeping.begins never first second (next_answers r next is) shown

  pub answer_cut : (z : Taped) → Grown x y → Grown y z → (next : Next) → next_after r ≡ Ok next → (fault : Fault) → ShownAll (reply_text r) y z (Err fault) → HasShowCause {T = Unit {0}} y z (Err fault) → (result : Result T Fault) → result ≡ Err fault → TurnsFrom over (pack x) (added x z) x.writes z one two cue result
  answer_cut z first second next is fault shown cause result is_result =
      subst (TurnsFrom over (pack x) (added x z) x.writes z one two cue) (sym is_result)
      (λ s keeping. turn_cut (turns s keeping) keeping.begins never first second (next_answers r next is) fault (show_is_no_disk y z fault cause) shown.some (λ other. shown.none other))

  stopped_by : (s : State) (k : Keeping (pack x) one s) (q : Reply) (fault : Fault) → r ≡ q → next_after q ≡ Err fault → TurnBroke (pack x) (added x y) x.writes y one two s cue fault
  stopped_by s k (reply.Done text) fault is e = cc
  stopped_by s k (reply.Refused t) fault is e = cc
  stopped_by s k reply.Quit fault is e = cc
  stopped_by s k reply.Scavenge fault is e = cc
  stopped_by s k reply.DiskFault Disk is e =
      let turn = turns s k in
      turn_stopped turn k.begins never Disk (λ display. cc) (λ disk. (subst (λ q. Answers (pack x) s cue (added x y) turn.answered.moves q turn.state) is turn.answered.answers).1) (λ tells fault. tells refl)
  stopped_by s k reply.DiskFault Key is e = cc
  stopped_by s k reply.DiskFault Display is e = cc
  stopped_by s k reply.DiskFault Memory is e = cc
  stopped_by s k reply.Memory Memory is e = turn_stopped (turns s k) k.begins never Memory (λ display. cc) (λ disk. cc) (λ tells fault. cc)
  stopped_by s k reply.Memory Disk is e = cc
  stopped_by s k reply.Memory Key is e = cc
  stopped_by s k reply.Memory Display is e = cc

  pub answer_stopped : (fault : Fault) → next_after r ≡ Err fault → (result : Result T Fault) → result ≡ Err fault → TurnsFrom over (pack x) (added x y) x.writes y one two cue result
  answer_stopped fault is result is_result =
      subst (TurnsFrom over (pack x) (added x y) x.writes y one two cue) (sym is_result) (λ s keeping. stopped_by s keeping r fault refl is)

pub answer_missed : {T : Type 0} (over : T → Bool) (x : Taped) (one : Kept) (cue : Cue) → NeverAsks cue → (result : Result T Fault) → result ≡ Err Memory → TurnsFrom over (pack x) (added x x) x.writes x one one cue result
answer_missed over x one cue never result is = subst (TurnsFrom over (pack x) (added x x) x.writes x one one cue) (sym is) (λ s keeping. turn_missed keeping never)

-- ---- the end of the session
pub end_said : (x y z : Taped) (one two : Kept) (r : Reply) → TakesTurns x y one two ended r → Grown x y → Grown y z → (next : Next) → next_after r ≡ Ok next → (result : Result (Unit {0}) Fault) → ShownAll (reply_text r) y z result → HasShowCause y z result → EndsTurnBy x z one two ended result
end_said x y z one two r turns first second next is (Ok u) shown cause = answer_shown ends_all x y one two ended r end_never_asks turns z first second next is shown.ok
end_said x y z one two r turns first second next is (Err fault) shown cause = answer_cut ends_all x y one two ended r end_never_asks turns z first second next is fault shown cause (Err fault) refl
