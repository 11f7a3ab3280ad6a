-- A session so far, and one turn more.
use Rattle.std.proofs.Common.{◌≡◌, Bool, ℕ, ◌+◌, ◌<◌, ◌≤◌, ◌^◌, false, List, [], ◌∷◌, ◌++◌, length, refl, sym, ◌∙◌, ap, subst, arith, inl}
use Rattle.std.proofs.lemmas.List.{append-nil}
use Rattle.disk_records.specs.declared.records.Event.{Event}
use Rattle.disk_records.specs.declared.records.Tally.{Tally}
use Rattle.disk_records.specs.Events.{writes_in}
use Rattle.disk_records.specs.Packs.{AreFormed, Pack, after}
use Rattle.disk_records.specs.Tapes.{Grown, Taped, added, capped, pack}
use Rattle.disk_records.proofs.Growing.{added-twice, pack-after, pack-silent, writes-append}
use Rattle.executive.specs.laws_contents.proofs.pages.Laws.{formed_pages_have_256_words}
use Rattle.executive.specs.laws_lookup.proofs.hints.Laws.{true_hints_never_mislead}
use Rattle.executive.specs.laws_session.proofs.ends.Laws.{lines_keep_need, sound_packs_begin}
use Rattle.executive.specs.laws_session.proofs.histories.Laws.{histories_are_shown}
use Rattle.executive.specs.pack_laws.proofs.tallies.Laws.{tallies_of_turns_join, tally_by_the_count, tally_in_numbers}
use Rattle.executive.specs.pack_model.specs.hints.Links.{LinksTrue}
use Rattle.executive.specs.pack_model.specs.hints.Tables.{HintsTrue}
use Rattle.executive.specs.pack_model.specs.hints.Truth.{Truthful}
use Rattle.executive.specs.pack_model.specs.operations.Operations.{Move}
use Rattle.executive.specs.pack_model.specs.reading.Model.{read_as}
use Rattle.executive.specs.pack_model.specs.sessions.Lines.{most_keys}
use Rattle.executive.specs.pack_model.specs.sessions.Meanings.{SessionCut}
use Rattle.executive.specs.pack_model.specs.sessions.Tallies.{counted, no_tally}
use Rattle.executive.specs.pack_model.specs.sessions.Turns.{Turn, ops_of}
use Rattle.executive.specs.pack_model.specs.states.Sound.{Sound}
use Rattle.session_model.specs.Histories.{IsUnfailed, NoneFailed, TurnsOf, WholeTurn, aloud, begun, then, whole}
use Rattle.session_model.specs.Keeping.{Kept, Keeping}
use Rattle.session_model.specs.Opening.{Begun}
use Rattle.session_model.specs.Turning.{Cue, State, TurnKind, cue_line, failed, opening, plain, scavenged}
use Rattle.session_model.specs.Worlds.{World}
use Rattle.session_boot.specs.Boots.{OpenedBy}
use Rattle.session_boot.specs.Turns.{TurnTaken}
use Rattle.session_boot.proofs.Lined.{Lined}
use Rattle.session_boot.proofs.LinesTyped.{cues}
use Rattle.session_boot.proofs.Live.{live_start}

-- ---- turns, none of which failed where hints were true as the session began
pub record Lived (moment : ℕ) (p : Pack) (events : List Event) (cues : List Cue) (turns : List (Turn Move)) (u : State) : Type 0 where
  pub lived : TurnsOf aloud p (opening p moment) events cues turns u
  pub unfailed : HintsTrue p → NoneFailed lived

pub lived_more : {moment : ℕ} {p : Pack} {events more : List Event} {cues : List Cue} {turns : List (Turn Move)} {t u : State} {cue : Cue} {made : Turn Move} → Lived moment p events cues turns t → (turn : WholeTurn aloud (after p events) t cue more made u) → (HintsTrue p → IsUnfailed turn.finished.kind) → Lived moment p (events ++ more) (cues ++ cue ∷ []) (turns ++ made ∷ []) u
lived_more l turn one = record { lived = then l.lived turn; unfailed = λ hints. (l.unfailed hints, one hints) }

-- ---- where links are true no turn fails, and none needs a scavenge after it
pub true_unfailed : {p : Pack} {s : State} {cue : Cue} {wrote : List Event} {made : Turn Move} {world : World} {over : Bool} (k : TurnKind p s cue wrote made world over) → Sound p → AreFormed p → LinksTrue p → IsUnfailed k
true_unfailed (plain asks) sound formed links = tt
true_unfailed {p = p} (failed {place = place} {at = at} {wanted = wanted} moves f start) sound formed links =
    absurd (true_hints_never_mislead p place at wanted sound.whole sound.tidy (λ i page e. formed_pages_have_256_words p i page formed e) links f.on_disk f.misled.misled)
true_unfailed (scavenged quiets n asks) sound formed links = tt

pub unfailed_need : {p : Pack} {s : State} {cue : Cue} {wrote : List Event} {made : Turn Move} {world : World} {over : Bool} (k : TurnKind p s cue wrote made world over) → IsUnfailed k → s.world.need ≡ false → world.need ≡ false
unfailed_need {s = s} {cue = cue} (plain asks) h need = lines_keep_need (cue_line cue) s.model s.world ∙ need
unfailed_need (failed moves f start) h need = absurd h
unfailed_need (scavenged quiets n asks) h need = refl

-- ---- the session so far
-- hints that were true as it began
pub record StayTrue (now : Taped) (k : Kept) (state : State) : Type 0 where
  pub truthful : Truthful (pack now) k.busy
  pub need : state.world.need ≡ false

pub record SoFar (moment : ℕ) (first : Taped) (given : Tally) (now : Taped) (k : Kept) (left index : ℕ) : Type 0 where
  pub texts : List (List ℕ)
  pub turns : List (Turn Move)
  pub state : State
  pub grown : Grown first now
  pub lived : Lived moment (pack first) (added first now) (cues texts) turns state
  pub keeping : Keeping (pack now) k state
  pub tally : k.tally ≡ counted (writes_in first.events) (ops_of turns) (no_tally given.limit)
  pub stay : HintsTrue (pack first) → StayTrue now k state
  pub lined : Lined first.keys now.keys left texts
  pub few : left + index ≤ most_keys

pub so_far_begins : (moment : ℕ) (first old : Taped) (given : Tally) (k : Kept) → OpenedBy first old → Begun (pack first) k moment given.limit → SoFar moment first given old k most_keys 0
so_far_begins moment first old given k opened is_begun =
    let same = pack-silent opened.grown opened.silent in
    let none : Lived moment (pack first) [] [] [] (opening (pack first) moment) = record { lived = begun; unfailed = λ hints. tt } in
    record {
      texts = [];
      turns = [];
      state = opening (pack first) moment;
      grown = opened.grown;
      lived = subst (λ e. Lived moment (pack first) e [] [] (opening (pack first) moment)) (sym opened.silent) none;
      keeping = subst (λ p. Keeping p k (opening (pack first) moment)) (sym same) is_begun.keeping;
      tally = is_begun.tally;
      stay = λ hints. record { truthful = subst (λ p. Truthful p k.busy) (sym same) (is_begun.truthful hints); need = refl };
      lined = subst (λ keys. Lined first.keys keys most_keys []) (sym opened.keys) (inl (live_start first.keys));
      few = omega arith;
    }

-- ---- one turn more
-- a machine whose count is that of its events, and whose sectors are formed
pub record Modelled (t : Taped) : Type 0 where
  pub counts : t.writes ≡ capped (writes_in t.events)
  pub formed : AreFormed (pack t)

pub start_cut : (p : Pack) → Sound p → SessionCut (read_as p) p
start_cut p sound = (sound_packs_begin p 0 sound).1

module _ {moment : ℕ} {first now : Taped} {given : Tally} {k : Kept} {left index : ℕ} (so_far : SoFar moment first given now k left index) (modelled : Modelled now) (limit : given.limit < 2 ^ 64) (sound : Sound (pack first)) where
  pub so_far_pack : pack now ≡ after (pack first) (added first now)
  so_far_pack = pack-after so_far.grown

  -- so many record writes were made so far
  so_far_writes : now.writes ≡ capped (writes_in first.events + length (ops_of so_far.turns))
  so_far_writes =
      let says = histories_are_shown (pack first) (opening (pack first) moment) (added first now) (cues so_far.texts) so_far.turns _ (start_cut (pack first) sound) (whole so_far.lived.lived) in
      modelled.counts ∙ ap (λ e. capped (writes_in e)) so_far.grown.events ∙ ap capped (writes-append first.events (added first now)) ∙ ap (λ n. capped (writes_in first.events + n)) says.writes

  so_far_limit : k.tally.limit < 2 ^ 64
  so_far_limit =
      let numbers = tally_in_numbers (writes_in first.events) (ops_of so_far.turns) (no_tally given.limit) (omega arith) (omega arith) in
      subst (λ t. t.limit < 2 ^ 64) (sym so_far.tally) (subst (λ n. n < 2 ^ 64) (sym numbers.limit) limit)

  -- the tally after some moves more
  pub tally_more : (made : Turn Move) (t : Tally) → t ≡ counted now.writes made.ops k.tally → t ≡ counted (writes_in first.events) (ops_of (so_far.turns ++ made ∷ [])) (no_tally given.limit)
  tally_more made t is =
      let w = writes_in first.events in
      let n = length (ops_of so_far.turns) in
      is ∙ ap (λ m. counted m made.ops k.tally) so_far_writes
      ∙ tally_by_the_count (w + n) made.ops k.tally so_far_limit
      ∙ ap (λ x. counted (w + n) made.ops x) so_far.tally
      ∙ ap (λ o. counted (w + n) o (counted w (ops_of so_far.turns) (no_tally given.limit))) (sym (append-nil made.ops))
      ∙ sym (tallies_of_turns_join w so_far.turns (made ∷ []) (no_tally given.limit))

  -- the pack as a turn begins
  pub turn_formed : AreFormed (after (pack first) (added first now))
  turn_formed = subst AreFormed so_far_pack modelled.formed

  pub turn_sound : HintsTrue (pack first) → Sound (after (pack first) (added first now))
  turn_sound hints = subst Sound so_far_pack (so_far.keeping.stands.sound (so_far.stay hints).need)

  pub turn_truthful : HintsTrue (pack first) → Truthful (after (pack first) (added first now)) k.busy
  turn_truthful hints = subst (λ p. Truthful p k.busy) so_far_pack (so_far.stay hints).truthful

  pub kind_unfailed : {cue : Cue} {wrote : List Event} {made : Turn Move} {world : World} {over : Bool} (kind : TurnKind (after (pack first) (added first now)) so_far.state cue wrote made world over) → HintsTrue (pack first) → IsUnfailed kind
  kind_unfailed kind hints = true_unfailed kind (turn_sound hints) turn_formed (turn_truthful hints).links

  -- a whole turn, on the pack as the history has it
  pub record Turned (z : Taped) (two : Kept) (cue : Cue) (over : Bool) : Type 0 where
    pub grown : Grown now z
    pub turn : TurnTaken (after (pack first) (added first now)) (added now z) now.writes z k two so_far.state cue over

  module _ {z : Taped} {two : Kept} {cue : Cue} {over : Bool} (t : Turned z two cue over) where
    pub turned_lived : Lived moment (pack first) (added first z) (cues so_far.texts ++ cue ∷ []) (so_far.turns ++ t.turn.made ∷ []) t.turn.state
    turned_lived =
        subst (λ e. Lived moment (pack first) e (cues so_far.texts ++ cue ∷ []) (so_far.turns ++ t.turn.made ∷ []) t.turn.state) (sym (added-twice so_far.grown t.grown))
        (lived_more so_far.lived t.turn.whole (kind_unfailed t.turn.whole.finished.kind))

    pub turned_need : HintsTrue (pack first) → t.turn.state.world.need ≡ false
    turned_need hints = unfailed_need t.turn.whole.finished.kind (kind_unfailed t.turn.whole.finished.kind hints) (so_far.stay hints).need

  pub turned_of : {z : Taped} {two : Kept} {cue : Cue} {over : Bool} → Grown now z → TurnTaken (pack now) (added now z) now.writes z k two so_far.state cue over → Turned z two cue over
  turned_of {z} {two} {cue} {over} grown turn = record { grown = grown; turn = subst (λ p. TurnTaken p (added now z) now.writes z k two so_far.state cue over) so_far_pack turn }
