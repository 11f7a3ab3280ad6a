-- Each crash point of a history shows the model after as many operations as the ruler says.
use Rattle.std.proofs.Common.{◌≡◌, ℕ, ◌+◌, zero, suc, Bool, true, false, cond, List, [], ◌∷◌, ◌++◌, take, refl, sym, subst, ◌∙◌, ap, sum_by, arith}
use Rattle.std.proofs.lemmas.List.{append_assoc}
use Rattle.std.proofs.lemmas.List.Sums.{sum_by-cons}
use Rattle.std.specs.FinMap.{FinMap, contains_key, entries}
use Rattle.laws_line.specs.alto_words.specs.Fid.{fid_cmp}
use Rattle.laws_line.specs.alto_words.specs.declared.fid.Fid.{Fid}
use Rattle.laws_line.specs.disk_records.specs.declared.records.Event.{Event}
use Rattle.laws_line.specs.disk_records.specs.Packs.{Pack}
use Rattle.laws_line.specs.pack_model.specs.operations.Operations.{Move, weight_of}
use Rattle.laws_line.specs.pack_model.specs.operations.Operations.Move.{quiet, commits, mends}
use Rattle.laws_line.specs.pack_model.specs.operations.Step.{step}
use Rattle.laws_line.specs.pack_model.specs.reading.Model.{Model}
use Rattle.laws_line.specs.pack_model.specs.sessions.Meanings.{session}
use Rattle.laws_line.specs.pack_model.specs.sessions.Moves.{Obeys, rest, write, steps}
use Rattle.laws_line.specs.pack_model.specs.sessions.Turns.{Turn, Talks, begun, spoken, ops_of}
use Rattle.laws_line.specs.pack_model.specs.showing.Settling.{given, adopted, settle, settled}
use Rattle.laws_line.specs.pack_model.specs.showing.View.{Home, Seen, View, view}
use Rattle.laws_line.specs.pack_laws.proofs.turns.Laws.{turns_are_shown}
use Rattle.laws_line.specs.laws_record.specs.EnterLaws.{AllNamed}
use Rattle.laws_line.specs.laws_record.proofs.Settles.{named_insert, has_name}
use Rattle.session_model.specs.Histories.{moves_up_to}
use Rattle.laws_session.specs.HistoryLaws.{CrashesShowTheRuledModel, SettledOnceIsSettled}
use Rattle.laws_session.proofs.inside.Talking.{histories_are_turns, crashes_of_a_history}

-- ---- settled once is settled
named_adopted : (names : FinMap fid_cmp Home) (e : Fid × Seen) (es : List (Fid × Seen)) → AllNamed names es → AllNamed (adopted names e) es
named_adopted names e es h = by (contains_key names e.0) where
  by : (b : Bool) → AllNamed (cond b names (given names e.0 e.1)) es
  by true = h
  by false = named_insert names e.0 _ es h

has_adopted : (names : FinMap fid_cmp Home) (e : Fid × Seen) → contains_key (adopted names e) e.0 ≡ true
has_adopted names e = by (contains_key names e.0) refl where
  by : (b : Bool) → contains_key names e.0 ≡ b → contains_key (cond b names (given names e.0 e.1)) e.0 ≡ true
  by true is = is
  by false is = has_name names e.0 _

named_settled : (names : FinMap fid_cmp Home) (es : List (Fid × Seen)) (a : List (Fid × Seen)) → AllNamed names a → AllNamed (settled names es) a
named_settled names [] a h = h
named_settled names (e ∷ es) a h = named_settled (adopted names e) es a (named_adopted names e a h)

all_named : (names : FinMap fid_cmp Home) (es : List (Fid × Seen)) → AllNamed (settled names es) es
all_named names [] = tt
all_named names (e ∷ es) = ((named_settled (adopted names e) es (e ∷ []) (has_adopted names e, tt)).0, all_named (adopted names e) es)

settled_named : (names : FinMap fid_cmp Home) (es : List (Fid × Seen)) → AllNamed names es → settled names es ≡ names
settled_named names [] h = refl
settled_named names (e ∷ es) h = ap (λ c. settled (cond c names (given names e.0 e.1)) es) h.0 ∙ settled_named names es h.1

same_names : (v : View) (a b : FinMap fid_cmp Home) → a ≡ b → ◌≡◌ {A = View} (record { files = v.files; names = a }) (record { files = v.files; names = b })
same_names v a b e = λ i. record { files = v.files; names = e i }

pub settled_once_is_settled : SettledOnceIsSettled
unfolding settle
settled_once_is_settled v = same_names v _ _ (settled_named (settled v.names (entries v.files)) (entries v.files) (all_named v.names (entries v.files)))

-- ---- each scavenge leaves what is shown
ops_both : (turns more : List (Turn Move)) → ops_of (turns ++ more) ≡ ops_of turns ++ ops_of more
ops_both [] more = refl
ops_both (t ∷ turns) more = ap (λ l. t.ops ++ l) (ops_both turns more) ∙ sym (append_assoc t.ops (ops_of turns) (ops_of more))

abbrev pub AreShownSo : Model → List Move → Type 0
AreShownSo m [] = Unit {0}
AreShownSo m (quiet ∷ moves) = AreShownSo m moves
AreShownSo m (commits o ∷ moves) = AreShownSo (step m o) moves
AreShownSo m (mends n ∷ moves) = (settle (view n) ≡ settle (view m)) × AreShownSo n moves

obeys_so : {m : Model} {p : Pack} {events : List Event} {moves : List Move} → Obeys session m p events moves → AreShownSo m moves
obeys_so (rest here) = tt
obeys_so (write {o = quiet} here makes later) = obeys_so later
obeys_so (write {o = commits o} here makes later) = obeys_so later
obeys_so {m} (write {o = mends n} here makes later) = (ap settle (makes.views ∙ here.shows) ∙ settled_once_is_settled (view m), obeys_so later)

so_both : (m : Model) (a b : List Move) → AreShownSo m a → AreShownSo (steps session m a) b → AreShownSo m (a ++ b)
so_both m [] b h k = k
so_both m (quiet ∷ a) b h k = so_both m a b h k
so_both m (commits o ∷ a) b h k = so_both (step m o) a b h k
so_both m (mends n ∷ a) b h k = (h.0, so_both n a b h.1 k)

append_none : (l : List Move) → l ++ [] ≡ l
append_none [] = refl
append_none (x ∷ l) = ap (λ (k : List Move). x ∷ k) (append_none l)

pub talks_so : {m : Model} {p : Pack} {events : List Event} {turns : List (Turn Move)} {n : Model} → Talks session m p events turns n → AreShownSo m (ops_of turns)
talks_so (begun start) = tt
talks_so {m} (spoken {turns = turns} {n = n} turn so_far each) =
    subst (AreShownSo m) (sym (ops_both turns (turn ∷ []) ∙ ap (λ l. ops_of turns ++ l) (append_none turn.ops)))
    (so_both m (ops_of turns) turn.ops (talks_so so_far) (subst (λ k. AreShownSo k turn.ops) ((turns_are_shown session m _ _ _ _ so_far).model) (obeys_so each)))

-- ---- the model after so many operations
none_done : (m : Model) (moves : List Move) → AreShownSo m moves → settle (view m) ≡ settle (view (steps session m (moves_up_to 0 moves)))
none_done m [] h = refl
none_done m (quiet ∷ moves) h = none_done m moves h
none_done m (commits o ∷ moves) h = refl
none_done m (mends n ∷ moves) h = sym h.0 ∙ none_done n moves h.1

zero_more : (n : ℕ) → n ≡ 0 + n
zero_more n = omega arith

one_more : (n : ℕ) → suc n ≡ 1 + n
one_more n = omega arith

some_done : (k : ℕ) (m : Model) (moves : List Move) → AreShownSo m moves → settle (view (steps session m (take k moves))) ≡ settle (view (steps session m (moves_up_to (sum_by weight_of (take k moves)) moves)))
some_done zero m moves h = none_done m moves h
some_done (suc k) m [] h = refl
some_done (suc k) m (quiet ∷ moves) h =
    let e : sum_by weight_of (take k moves) ≡ sum_by weight_of (quiet ∷ take k moves) = zero_more (sum_by weight_of (take k moves)) ∙ sym (sum_by-cons weight_of quiet (take k moves)) in
    subst (λ j. settle (view (steps session m (take k moves))) ≡ settle (view (steps session m (moves_up_to j (quiet ∷ moves))))) e (some_done k m moves h)
some_done (suc k) m (commits o ∷ moves) h =
    let e : suc (sum_by weight_of (take k moves)) ≡ sum_by weight_of (commits o ∷ take k moves) = one_more (sum_by weight_of (take k moves)) ∙ sym (sum_by-cons weight_of (commits o) (take k moves)) in
    subst (λ j. settle (view (steps session (step m o) (take k moves))) ≡ settle (view (steps session m (moves_up_to j (commits o ∷ moves))))) e (some_done k (step m o) moves h)
some_done (suc k) m (mends n ∷ moves) h =
    let e : sum_by weight_of (take k moves) ≡ sum_by weight_of (mends n ∷ take k moves) = zero_more (sum_by weight_of (take k moves)) ∙ sym (sum_by-cons weight_of (mends n) (take k moves)) in
    subst (λ j. settle (view (steps session n (take k moves))) ≡ settle (view (steps session m (moves_up_to j (mends n ∷ moves))))) e (some_done k n moves h.1)

pub crashes_show_the_ruled_model : CrashesShowTheRuledModel
crashes_show_the_ruled_model p s events cues turns end start h k =
    (crashes_of_a_history p s events cues turns end start h k).stands.shows
    ∙ some_done _ s.model (ops_of turns) (talks_so (histories_are_turns p s events cues turns end start h).talks)
