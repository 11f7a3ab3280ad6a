-- Which record write makes which move, and the ruler that counts operations at a crash.
use Rattle.std.proofs.Common.{◌≡◌, ℕ, ◌+◌, ◌<◌, ◌≤◌, zero, suc, List, [], ◌∷◌, ◌++◌, length, take, refl, subst, ◌∙◌, ap, inl, inr, arith, add-one, sum_by, ◌⊎◌, Some, slice_get}
use Rattle.std.proofs.lemmas.Option.{same_Some}
use Rattle.std.proofs.lemmas.List.{take_all}
use Rattle.std.proofs.lemmas.List.Sums.{sum_by-cons}
use Rattle.pack_model.specs.disk_records.specs.declared.records.Event.{Event}
use Rattle.pack_model.specs.disk_records.specs.declared.records.Event.TheVariants.{Wrote, Shown}
use Rattle.pack_model.specs.disk_records.specs.Events.{shown_events, writes_in}
use Rattle.pack_model.specs.disk_records.specs.Packs.{Pack, after, crash}
use Rattle.pack_model.specs.sessions.Moves.{Meaning, Obeys, rest, write}
use Rattle.pack_model.specs.sessions.Turns.{Turn, ops_of, Talks, begun, spoken, ruler}
use Rattle.pack_laws.specs.Made.{AllMade}
use Rattle.pack_laws.specs.TurnLaws.{RisesByMove}
use Rattle.pack_laws.proofs.Talking.{talks_writes}
use Rattle.pack_laws.proofs.inside.Acknowledging.{ops-append}

-- ---- events
-- an event more is a record write more, or none
pub writes_next : (k : ℕ) (a : List Event) → (writes_in (take (suc k) a) ≡ writes_in (take k a)) ⊎ (writes_in (take (suc k) a) ≡ suc (writes_in (take k a)))
writes_next zero [] = inl refl
writes_next zero (Wrote at part words ∷ a) = inr refl
writes_next zero (Shown byte ∷ a) = inl refl
writes_next (suc k) [] = inl refl
writes_next (suc k) (Wrote at part words ∷ a) = elim (writes_next k a) [
  | inl same ↦ inl (omega (arith, same))
  | inr more ↦ inr (omega (arith, more))
]
writes_next (suc k) (Shown byte ∷ a) = writes_next k a

-- a shown byte more is no record write
pub writes_next_shown : (k : ℕ) (a : List Event) (byte : ℕ) → slice_get a k ≡ Some (Shown byte) → writes_in (take (suc k) a) ≡ writes_in (take k a)
writes_next_shown k [] byte is = cc
writes_next_shown zero (Wrote at part words ∷ a) byte is = cc
writes_next_shown zero (Shown shown ∷ a) byte is = refl
writes_next_shown (suc k) (Wrote at part words ∷ a) byte is = let h = writes_next_shown k a byte is in omega (arith, h)
writes_next_shown (suc k) (Shown shown ∷ a) byte is = writes_next_shown k a byte is

-- a record write more is one more, of those that there are
pub writes_next_wrote : (k : ℕ) (a : List Event) (at part : ℕ) (words : List ℕ) → slice_get a k ≡ Some (Wrote at part words) → (writes_in (take (suc k) a) ≡ suc (writes_in (take k a))) × (writes_in (take k a) < writes_in a)
writes_next_wrote k [] at part words is = cc
writes_next_wrote zero (Wrote place half new ∷ a) at part words is = (refl, omega arith)
writes_next_wrote zero (Shown byte ∷ a) at part words is = cc
writes_next_wrote (suc k) (Wrote place half new ∷ a) at part words is = let h = writes_next_wrote k a at part words is in (omega (arith, h.0), omega (arith, h.1))
writes_next_wrote (suc k) (Shown byte ∷ a) at part words is = writes_next_wrote k a at part words is

-- ---- weights
module _ {O : Type 0} where
  -- a place within the moves is that of a move
  move_at : (i : ℕ) (ops : List O) → i < length ops → (o : O) × (slice_get ops i ≡ Some o)
  move_at i [] l = absurd (omega arith)
  move_at zero (x ∷ ops) l = (x, refl)
  move_at (suc i) (x ∷ ops) l = move_at i ops (omega arith)

  module _ (weight : O → ℕ) where
    -- a move more never weighs less
    sum_rises : (i : ℕ) (ops : List O) → sum_by weight (take i ops) ≤ sum_by weight (take (suc i) ops)
    sum_rises zero ops = omega arith
    sum_rises (suc i) [] = omega arith
    sum_rises (suc i) (o ∷ ops) = let h = sum_rises i ops in rw (sum_by-cons weight o (take i ops), sum_by-cons weight o (take (suc i) ops)) (omega (arith, h))

    -- a move more weighs its weight more
    sum_next : (most i : ℕ) (ops : List O) → ((o : O) → weight o ≤ most) → sum_by weight (take (suc i) ops) ≤ sum_by weight (take i ops) + most
    sum_next most zero [] light = omega arith
    sum_next most zero (o ∷ ops) light = let h = light o in omega (arith, h)
    sum_next most (suc i) [] light = omega arith
    sum_next most (suc i) (o ∷ ops) light = let h = sum_next most i ops light in rw (sum_by-cons weight o (take i ops), sum_by-cons weight o (take (suc i) ops)) (omega (arith, h))

    -- this move more weighs its weight more
    sum_one : (i : ℕ) (ops : List O) (o : O) → slice_get ops i ≡ Some o → sum_by weight (take (suc i) ops) ≡ sum_by weight (take i ops) + weight o
    sum_one i [] o is = cc
    sum_one zero (x ∷ ops) o is = let h : weight x ≡ weight o = cc in rw (sum_by-cons weight x []) (omega (arith, h))
    sum_one (suc i) (x ∷ ops) o is = let h = sum_one i ops o is in rw (sum_by-cons weight x (take i ops), sum_by-cons weight x (take (suc i) ops)) (omega (arith, h))

    -- ---- the ruler
    module _ (turns : List (Turn O)) (events : List Event) where
      -- it starts at 0
      pub ruler_start : ruler weight turns events 0 ≡ 0
      ruler_start = refl

      -- it never falls
      pub ruler_rises : (k : ℕ) → ruler weight turns events k ≤ ruler weight turns events (k + 1)
      ruler_rises k = rw add-one (elim (writes_next k events) [
        | inl same ↦ rw same (omega arith)
        | inr more ↦ rw more (sum_rises (writes_in (take k events)) (ops_of turns))
      ])

      -- an event more adds at most the weight of one move
      pub ruler_next : (most k : ℕ) → ((o : O) → weight o ≤ most) → ruler weight turns events (k + 1) ≤ ruler weight turns events k + most
      ruler_next most k light = rw add-one (elim (writes_next k events) [
        | inl same ↦ rw same (omega arith)
        | inr more ↦ rw more (sum_next most (writes_in (take k events)) (ops_of turns) light)
      ])

      -- a shown byte leaves it
      pub ruler_shown : (k byte : ℕ) → slice_get events k ≡ Some (Shown byte) → ruler weight turns events (k + 1) ≡ ruler weight turns events k
      ruler_shown k byte is = rw (add-one, writes_next_shown k events byte is) refl

-- ---- turns
module _ {M O : Type 0} (means : Meaning M O) where
  module _ {m : M} {p : Pack} where
    -- at the end the ruler stands at all operations of the turns
    pub ruler_whole : (weight : O → ℕ) {events : List Event} {turns : List (Turn O)} {n : M} → Talks means m p events turns n → ruler weight turns events (length events) ≡ sum_by weight (ops_of turns)
    ruler_whole weight {events} {turns} {n} talks =
        let many = talks_writes means talks in
        let all : take (length events) events ≡ events = take_all (length events) events (omega arith) in
        ap (λ l. sum_by weight (take (writes_in l) (ops_of turns))) all ∙ ap (sum_by weight) (take_all (writes_in events) (ops_of turns) (omega arith))

  -- ---- which writes make which moves
  -- one run of events after another
  pub made_then : (p : Pack) (a b : List Event) (ops more : List O) → AllMade means p a ops → AllMade means (after p a) b more → AllMade means p (a ++ b) (ops ++ more)
  made_then p [] b [] more first next = next
  made_then p [] b (o ∷ ops) more first next = elim first [ ]
  made_then p (Wrote at part words ∷ a) b [] more first next = elim first [ ]
  made_then p (Wrote at part words ∷ a) b (o ∷ ops) more first next = (first.0, made_then (after p (Wrote at part words ∷ [])) a b ops more first.1 next)
  made_then p (Shown byte ∷ a) b ops more first next = made_then p a b ops more first next

  -- shown bytes make no move
  pub made_shown : (p : Pack) (text : List ℕ) → AllMade means p (shown_events text) []
  made_shown p [] = tt
  made_shown p (b ∷ text) = made_shown p text

  -- each write of a run makes its move
  pub obeys_made : {m : M} {p : Pack} {events : List Event} {ops : List O} → Obeys means m p events ops → AllMade means p events ops
  obeys_made (rest here) = tt
  obeys_made (write here makes later) = (makes, obeys_made later)

  -- each write of the turns makes its move
  pub talks_makes : {m : M} {p : Pack} {events : List Event} {turns : List (Turn O)} {n : M} → Talks means m p events turns n → AllMade means p events (ops_of turns)
  talks_makes (begun here) = tt
  talks_makes {p = p} (spoken {events} {wrote} {turns} {n} turn so_far o) =
      let whole : AllMade means (after p events) (wrote ++ shown_events turn.text) (turn.ops ++ []) = made_then (after p events) wrote (shown_events turn.text) turn.ops [] (obeys_made o) (made_shown (after (after p events) wrote) turn.text) in
      rw ops-append (made_then p events (wrote ++ shown_events turn.text) (ops_of turns) (turn.ops ++ []) (talks_makes so_far) whole)

  -- the move that a write makes
  made_at : (p : Pack) (events : List Event) (ops : List O) (k at part : ℕ) (words : List ℕ) (o : O) → AllMade means p events ops → slice_get events k ≡ Some (Wrote at part words) → slice_get ops (writes_in (take k events)) ≡ Some o → means.Makes (crash p events k) (Wrote at part words) o
  made_at p [] ops k at part words o all is next = cc
  made_at p (Wrote place half new ∷ events) [] k at part words o all is next = elim all [ ]
  made_at p (Wrote place half new ∷ events) (x ∷ ops) zero at part words o all is next =
      let event : Wrote place half new ≡ Wrote at part words = same_Some _ _ is in
      let move : x ≡ o = same_Some _ _ next in
      subst (λ e. means.Makes p e o) event (subst (means.Makes p (Wrote place half new)) move all.0)
  made_at p (Wrote place half new ∷ events) (x ∷ ops) (suc k) at part words o all is next =
      let one : suc (writes_in (take k events)) ≡ 1 + writes_in (take k events) = omega arith in
      made_at (after p (Wrote place half new ∷ [])) events ops k at part words o all.1 is (ap (slice_get (x ∷ ops)) one ∙ next)
  made_at p (Shown byte ∷ events) ops zero at part words o all is next = cc
  made_at p (Shown byte ∷ events) ops (suc k) at part words o all is next = made_at p events ops k at part words o all is next

  -- a record write makes a move, and the ruler rises by its weight
  pub ruler_wrote : {m : M} {p : Pack} (weight : O → ℕ) {events : List Event} {turns : List (Turn O)} {n : M} → Talks means m p events turns n → (k at part : ℕ) (words : List ℕ) → slice_get events k ≡ Some (Wrote at part words) → RisesByMove weight means p events turns k at part words
  ruler_wrote {p = p} weight {events} {turns} {n} talks k at part words is =
      let many = talks_writes means talks in
      let more = writes_next_wrote k events at part words is in
      let few = more.1 in
      let found = move_at (writes_in (take k events)) (ops_of turns) (omega arith) in
      record {
        move = found.0;
        next = found.1;
        made = made_at p events (ops_of turns) k at part words found.0 (talks_makes talks) is found.1;
        risen = rw (add-one, more.0) (sum_one weight (writes_in (take k events)) (ops_of turns) found.0 found.1);
      }
