-- A line more in a session that goes on, and the end of the keys.
use Rattle.std.proofs.Common.{◌≡◌, ◌+◌, ◌<◌, ◌≤◌, ◌^◌, ℕ, [], ◌∷◌, ◌++◌, Ok, drop, inr, length, sym, subst, ap, arith}
use Rattle.disk_records.specs.declared.records.Tally.{Tally}
use Rattle.disk_records.specs.Tapes.{Grown, KeysAlone, Taped, added, pack}
use Rattle.disk_records.proofs.Growing.{grown_twice}
use Rattle.executive.specs.pack_laws.proofs.Lining.{most_keys-is}
use Rattle.executive.specs.pack_model.specs.hints.Truth.{Truthful}
use Rattle.executive.specs.pack_model.specs.states.Sound.{Sound}
use Rattle.session_model.specs.Ending.{cue_of}
use Rattle.session_model.specs.Keeping.{Kept, Keeping}
use Rattle.session_boot.specs.Turns.{KeysSpent, LineTaken, TurnTaken, is_over}
use Rattle.session_boot.specs.declared.line.Next.{Next}
use Rattle.session_boot.specs.declared.line.Next.TheVariants.{More}
use Rattle.session_boot.proofs.Lined.{lined_over, lined_spent, lined_took}
use Rattle.session_boot.proofs.LinesTyped.{cues, cues-push, kept_cue}
use Rattle.session_boot.proofs.Live.{Over as KeysOver}
use Rattle.session_boot.proofs.Nexts.{keys_pack}
use Rattle.session_boot.proofs.SoFar.{Lived, Modelled, SoFar, Turned, tally_more, turn_truthful, turned_lived, turned_need, turned_of}

module _ {moment : ℕ} {first now : Taped} {given : Tally} {k : Kept} {left index : ℕ} (so_far : SoFar moment first given now k left index) (modelled : Modelled now) (limit : given.limit < 2 ^ 64) (sound : Sound (pack first)) where
  -- the line as it was typed
  pub line_turned : {z : Taped} {two : Kept} {after : ℕ} {next : Next} → Grown now z → (t : LineTaken now z k two left after (Ok next)) → Turned so_far modelled limit sound z two (cue_of (lined_took so_far.lined t.took).whole) (is_over next)
  line_turned {z} {two} {next = next} grown t =
      let took = lined_took so_far.lined t.took in
      turned_of so_far modelled limit sound grown
      (subst (λ cue. TurnTaken (pack now) (added now z) now.writes z k two so_far.state cue (is_over next)) (kept_cue t.text took.whole took.kept) (t.turn so_far.state so_far.keeping))

  pub so_far_more : {z : Taped} {two : Kept} {after : ℕ} → Grown now z → LineTaken now z k two left after (Ok More) → SoFar moment first given z two after (index + 1)
  so_far_more {z} {two} {after} grown t =
      let took = lined_took so_far.lined t.took in
      let turned = line_turned grown t in
      let turn = turned.turn in
      record {
        texts = so_far.texts ++ took.whole ∷ [];
        turns = so_far.turns ++ turn.made ∷ [];
        state = turn.state;
        grown = grown_twice so_far.grown grown;
        lived = subst (λ c. Lived moment (pack first) (added first z) c (so_far.turns ++ turn.made ∷ []) turn.state) (sym (cues-push so_far.texts took.whole)) (turned_lived so_far modelled limit sound turned);
        keeping = turn.keeping turn.over_is;
        tally = tally_more so_far modelled limit sound turn.made two.tally turn.tally;
        stay = λ hints. record { truthful = turn.truthful (turn_truthful so_far modelled limit sound hints) turn.over_is; need = turned_need so_far modelled limit sound turned hints };
        lined = took.lined;
        few = omega (arith, so_far.few, took.fewer);
      }

-- ---- the end of the keys
pub record AtEnd (moment : ℕ) (first : Taped) (given : Tally) (now : Taped) (k : Kept) : Type 0 where
  pub left : ℕ
  pub index : ℕ
  pub so_far : SoFar moment first given now k left index
  pub over : KeysOver first.keys now.keys left so_far.texts

-- no key counts any more
pub at_end_spent : {moment : ℕ} {first now : Taped} {given : Tally} {k : Kept} {left index : ℕ} → SoFar moment first given now k left index → 2147483648 ≤ index → AtEnd moment first given now k
at_end_spent {left = left} {index} so_far all = record { left = left; index = index; so_far = so_far; over = lined_spent so_far.lined (omega (arith, so_far.few, most_keys-is, all)) }

-- there is none
pub at_end_none : {moment : ℕ} {first now z : Taped} {given : Tally} {k two : Kept} {left after index : ℕ} → SoFar moment first given now k left index → KeysSpent now z k two left after → AtEnd moment first given z two
at_end_none {moment} {first} {now} {z} {given} {k} {two} {left} {after} {index} so_far spent =
    let over = lined_over so_far.lined spent.rest in
    let here : SoFar moment first given z k after index =
    record {
      texts = so_far.texts;
      turns = so_far.turns;
      state = so_far.state;
      grown = grown_twice so_far.grown spent.alone.grown;
      lived = subst (λ e. Lived moment (pack first) e (cues so_far.texts) so_far.turns so_far.state) (sym (keys_first so_far.grown spent.alone)) so_far.lived;
      keeping = subst (λ p. Keeping p k so_far.state) (sym (keys_pack spent.alone)) so_far.keeping;
      tally = so_far.tally;
      stay = λ hints. record { truthful = subst (λ p. Truthful p k.busy) (sym (keys_pack spent.alone)) (so_far.stay hints).truthful; need = (so_far.stay hints).need };
      lined = inr over;
      few = omega (arith, so_far.few, over.spent);
    } in
    subst (AtEnd moment first given z) (sym spent.same) (record { left = after; index = index; so_far = here; over = over })
  where
    keys_first : {first now z : Taped} → Grown first now → KeysAlone now z → added first z ≡ added first now
    keys_first {first} grown keys = ap (λ e. drop (length first.events) e) keys.events
