-- A line that is refused by itself: the model's first refusal is that one, and nothing is done.
use Rattle.std.proofs.Common.{◌≡◌, ◌≢◌, ◌<◌, ◌≤◌, ◌&&◌, Bool, true, false, cond, not, nat_lt, List, [], ◌∷◌, ◌++◌, Option, Some, None, Result, Ok, Err, refl, sym, subst, ap, ◌∙◌}
use Rattle.std.proofs.lemmas.Bool.{le-ltb, lt-ltb}
use Rattle.disk_records.proofs.Growing.{alone_here, nothing_added}
use Rattle.disk_records.specs.Causes.{IsCause, Unfailed}
use Rattle.disk_records.specs.Tapes.{Taped}
use Rattle.exec_words.specs.Built.{as_built, is_built}
use Rattle.exec_words.specs.Typed.{is_typed}
use Rattle.exec_words.specs.declared.line.Line.{Line}
use Rattle.exec_words.specs.declared.line.Line.TheVariants as line
use Rattle.exec_words.specs.declared.reply.Refusal.{Refusal}
use Rattle.exec_words.specs.declared.reply.Refusal.TheVariants as refusal
use Rattle.exec_words.specs.declared.reply.Reply.{Reply}
use Rattle.exec_words.specs.declared.reply.Reply.TheVariants as reply
use Rattle.exec_session.specs.declared.session.Session.{Session}
use Rattle.exec_session.specs.declared.stop.Stop.{Stop}
use Rattle.exec_session.specs.declared.stop.Stop.TheVariants as stop
use Rattle.exec_session.specs.Meant.{IsTakenUpBy, MayObey, kept, kept_stopped, stopped}
use Rattle.exec_session.specs.Ends.{cause_of_reply}
use Rattle.exec_session.specs.Stops.{refused_for}
use Rattle.exec_session.specs.Turned.{SameBut}
use Rattle.exec_session.proofs.Turning.{line_is_refused, turned_is_a_turn}
use Rattle.pack_model.specs.reading.Files.{first}
use Rattle.session_model.specs.Answering.{TakesTurns}
use Rattle.session_model.specs.Keeping.{Formed, Kept, world_of}
use Rattle.session_model.specs.Operands.{level_of}
use Rattle.session_model.specs.Refusals.{by_line, is_obeyed_in_need, when}
use Rattle.session_model.specs.Turning.{cue_for, is_quit, typed}
use Rattle.session_model.specs.Worlds.{World}

abbrev pub first_of : List (Option Refusal) → Option Refusal
first_of rs = first (λ r. r) rs

-- ---- the first of some reasons, and more after them
pub first_stays : (rs more : List (Option Refusal)) (r : Refusal) → first_of rs ≡ Some r → first_of (rs ++ more) ≡ Some r
unfolding first
first_stays [] more r e = absurd (let n : None ≡ Some r = e in cc)
first_stays (None ∷ rs) more r e = first_stays rs more r e
first_stays (Some x ∷ rs) more r e = e

pub first_later : (rs more : List (Option Refusal)) → first_of rs ≡ None → first_of (rs ++ more) ≡ first_of more
unfolding first
first_later [] more e = refl
first_later (None ∷ rs) more e = first_later rs more e
first_later (Some r ∷ rs) more e = absurd (let n : Some r ≡ None = e in cc)

-- ---- nothing happened
pub same_here : (t : Taped) (one : Session) → SameBut t t (kept one) (kept one)
same_here t one = record {
  world = record { moment = refl; level = refl; memory = refl; streams = refl; need = refl };
  shape = refl;
  last = refl;
  mark = refl;
  pages = refl;
  tally = refl;
  table = λ was. was;
}

-- ---- the turn of a line that isn't taken up
pub refused_turns : (t : Taped) (one : Session) (l : Line) (r : Refusal) → first_of (by_line l (world_of (kept one))) ≡ Some r → TakesTurns t t (kept one) (kept one) (typed l) (reply.Refused r)
refused_turns t one l r is = λ s keeping.
    let m = s.model in
    let w = s.world in
    let by : first_of (by_line l w) ≡ Some r = subst (λ v. first_of (by_line l v) ≡ Some r) (sym keeping.world) is in
    turned_is_a_turn t t (kept one) (kept one) s l (reply.Refused r)
    (line_is_refused t t (kept one) (kept one) s l r keeping (first_stays (by_line l w) _ r by) (alone_here t) (nothing_added t.events) (same_here t one))
    (λ handy none. tt)

-- by the stop that it is answered by
pub stop_turns : (t : Taped) (one two : Session) (l : Line) (x : Stop) (rs : Option Refusal) (r : Reply) → first_of (by_line l (world_of (kept one))) ≡ rs → ◌≡◌ {A = Result (Unit {0}) Stop} (Err x) (refused_for rs) → r ≡ stopped x → kept two ≡ kept_stopped x (kept one) → TakesTurns t t (kept one) (kept two) (typed l) r
stop_turns t one two l x None r is e reply_is stays = absurd (let n : ◌≡◌ {A = Result (Unit {0}) Stop} (Err x) (Ok tt) = e in cc)
stop_turns t one two l x (Some f) r is e reply_is stays =
    let x_is : x ≡ stop.Refused f = let n : ◌≡◌ {A = Result (Unit {0}) Stop} (Err x) (Err (stop.Refused f)) = e in cc in
    subst (λ y. TakesTurns t t (kept one) (kept two) (typed l) y) (sym (reply_is ∙ ap stopped x_is))
    (subst (λ k. TakesTurns t t (kept one) k (typed l) (reply.Refused f)) (sym (stays ∙ ap (λ y. kept_stopped y (kept one)) x_is)) (refused_turns t one l f is))

pub stop_cause : (a b : Taped) (x : Stop) (rs : Option Refusal) (r : Reply) → ◌≡◌ {A = Result (Unit {0}) Stop} (Err x) (refused_for rs) → r ≡ stopped x → Unfailed a b → IsCause a b (cause_of_reply r)
stop_cause a b x None r e reply_is none = absurd (let n : ◌≡◌ {A = Result (Unit {0}) Stop} (Err x) (Ok tt) = e in cc)
stop_cause a b x (Some f) r e reply_is none =
    let x_is : x ≡ stop.Refused f = let n : ◌≡◌ {A = Result (Unit {0}) Stop} (Err x) (Err (stop.Refused f)) = e in cc in
    subst (λ y. IsCause a b (cause_of_reply y)) (sym (reply_is ∙ ap stopped x_is)) none

none_refused : (x : Unit {0}) (rs : Option Refusal) → ◌≡◌ {A = Result (Unit {0}) Stop} (Ok x) (refused_for rs) → rs ≡ None
none_refused x None e = refl
none_refused x (Some r) e = absurd (let n : ◌≡◌ {A = Result (Unit {0}) Stop} (Ok x) (Err (stop.Refused r)) = e in cc)

-- ---- a line that is taken up is built
bad_refused : (w : World) → IsTakenUpBy w line.Bad → ⊥
unfolding first
bad_refused w e = let n : Some refusal.BadLine ≡ None = e in cc

taken_is_built : (l : Line) (w : World) → IsTakenUpBy w (as_built l) → is_built l ≡ true
taken_is_built l w taken = by (is_built l) taken
  where
    by : (b : Bool) → IsTakenUpBy w (cond b l line.Bad) → b ≡ true
    by true e = refl
    by false e = absurd (bad_refused w e)

built_as_built : (l : Line) → is_built l ≡ true → as_built l ≡ l
built_as_built l is = ap (λ b. cond b l line.Bad) is

-- a line that isn't refused by itself is obeyed as it is
pub may_obey : (t : Taped) (one : Session) (l : Line) (x : Unit {0}) → Formed t.form (kept one) → ◌≡◌ {A = Result (Unit {0}) Stop} (Ok x) (refused_for (first_of (by_line (as_built l) (world_of (kept one))))) → (is_built l ≡ true) × MayObey t one l
may_obey t one l x formed e =
    let taken : IsTakenUpBy (world_of (kept one)) (as_built l) = none_refused x (first_of (by_line (as_built l) (world_of (kept one)))) e in
    let built = taken_is_built l (world_of (kept one)) taken in
    (built, record { formed = formed; taken_up = subst (IsTakenUpBy (world_of (kept one))) (built_as_built l built) taken })

pub as_built_turns : (old new : Taped) (one two : Kept) (l : Line) (r : Reply) → is_built l ≡ true → TakesTurns old new one two (typed l) r → TakesTurns old new one two (cue_for l) r
as_built_turns old new one two l r built turns = subst (λ k. TakesTurns old new one two (typed k) r) (sym (built_as_built l built)) turns

pub not_quit : (l : Line) → l ≢ line.Quit → is_quit l ≡ false
not_quit line.Quit h = absurd (h refl)
not_quit l h = refl

-- ---- the first refusal of a line by itself
pub unbuilt_refused : (l : Line) (w : World) → is_built l ≡ false → first_of (by_line (as_built l) w) ≡ Some refusal.BadLine
unfolding first
unbuilt_refused l w e = ap (λ b. first_of (by_line (cond b l line.Bad) w)) e

-- by its three tests, of a line whose verb is built
pub tests_refuse : (l : Line) (w : World) (good need low : Bool) → is_built l ≡ true → is_typed l ≡ good → (w.need && not (is_obeyed_in_need l)) ≡ need → nat_lt w.level (level_of l) ≡ low
    → first_of (by_line (as_built l) w) ≡ first_of (when (not good) refusal.BadLine ∷ when need refusal.NeedsScavenge ∷ when low (refusal.NoService (level_of l)) ∷ [])
tests_refuse l w good need low built goods needs lows =
    ap (λ b. first_of (by_line (cond b l line.Bad) w)) built
    ∙ ap (λ b. first_of (when (not b) refusal.BadLine ∷ when (w.need && not (is_obeyed_in_need l)) refusal.NeedsScavenge ∷ when (nat_lt w.level (level_of l)) (refusal.NoService (level_of l)) ∷ [])) goods
    ∙ ap (λ b. first_of (when (not good) refusal.BadLine ∷ when b refusal.NeedsScavenge ∷ when (nat_lt w.level (level_of l)) (refusal.NoService (level_of l)) ∷ [])) needs
    ∙ ap (λ b. first_of (when (not good) refusal.BadLine ∷ when need refusal.NeedsScavenge ∷ when b (refusal.NoService (level_of l)) ∷ [])) lows

pub untyped_refused : (l : Line) (w : World) → is_built l ≡ true → is_typed l ≡ false → first_of (by_line (as_built l) w) ≡ Some refusal.BadLine
unfolding first
untyped_refused l w built untyped = tests_refuse l w false (w.need && not (is_obeyed_in_need l)) (nat_lt w.level (level_of l)) built untyped refl refl

pub need_refused : (l : Line) (w : World) → is_built l ≡ true → is_typed l ≡ true → w.need ≡ true → is_obeyed_in_need l ≡ false → first_of (by_line (as_built l) w) ≡ Some refusal.NeedsScavenge
unfolding first
need_refused l w built good need obeyed = tests_refuse l w true true (nat_lt w.level (level_of l)) built good (ap (λ b. b && not (is_obeyed_in_need l)) need ∙ ap not obeyed) refl

pub low_refused : (l : Line) (w : World) → is_built l ≡ true → is_typed l ≡ true → (w.need && not (is_obeyed_in_need l)) ≡ false → w.level < level_of l → first_of (by_line (as_built l) w) ≡ Some (refusal.NoService (level_of l))
unfolding first
low_refused l w built good unneeded low = tests_refuse l w true false true built good unneeded (lt-ltb w.level (level_of l) low)

pub none_refuse : (l : Line) (w : World) → is_built l ≡ true → is_typed l ≡ true → (w.need && not (is_obeyed_in_need l)) ≡ false → level_of l ≤ w.level → first_of (by_line (as_built l) w) ≡ None
unfolding first
none_refuse l w built good unneeded high = tests_refuse l w true false false built good unneeded (le-ltb w.level (level_of l) high)

-- no scavenge is needed, or the line is obeyed then
pub needless : (need obeyed : Bool) → need ≡ false → (need && not obeyed) ≡ false
needless need obeyed e = ap (λ b. b && not obeyed) e

pub obeyed_then : (need obeyed : Bool) → need ≡ true → obeyed ≡ true → (need && not obeyed) ≡ false
obeyed_then need obeyed e f = ap (λ b. b && not obeyed) e ∙ ap not f
