-- Pages come after a last page.
use Rattle.std.proofs.Common.{List, Some, [], ap, append_assoc, arith, get_or, inl, inr, length, refl, set, subst, suc, sym, take, true, ℕ, ◌++◌, ◌+◌, ◌<◌, ◌∙◌, ◌∷◌, ◌≡◌, ◌≤◌, ◌⊎◌}
use Rattle.std.proofs.lemmas.List.{length-append, set-get_or}
use Rattle.std.specs.Prelude.{nat_lt}
use Rattle.laws_contents.specs.alto_words.specs.declared.fid.Fid.{Fid}
use Rattle.laws_contents.specs.disk_records.proofs.Growing.{after-append}
use Rattle.laws_contents.specs.disk_records.specs.Commands.{claim_writes}
use Rattle.laws_contents.specs.disk_records.specs.Labels.{page_of, tag}
use Rattle.laws_contents.specs.disk_records.specs.Packs.{Pack, after, sector_at}
use Rattle.laws_contents.specs.disk_records.specs.declared.records.Event.TheVariants.{Wrote}
use Rattle.laws_contents.specs.pack_model.specs.reading.Bytes.{bytes_of}
use Rattle.laws_contents.specs.pack_model.specs.operations.Commands.{Claim, Claimable, all_claimed, claims_writes}
use Rattle.laws_contents.specs.pack_model.specs.operations.Committing.{MakesMove}
use Rattle.laws_contents.specs.pack_model.specs.reading.Files.{most_pages, place}
use Rattle.laws_contents.specs.pack_model.specs.sessions.Meanings.{reading}
use Rattle.laws_contents.specs.pack_model.specs.reading.Model.{Model, good_one, read_as, read_sights}
use Rattle.laws_contents.specs.pack_model.specs.sessions.Moves.{Obeys, write}
use Rattle.laws_contents.specs.pack_model.specs.operations.Operations.{claims_moves, grow_moves, grow_writes, moved}
use Rattle.laws_contents.specs.pack_model.specs.operations.Operations.Move.{commits, quiet}
use Rattle.laws_contents.specs.pack_model.specs.operations.PageWords.{page_number}
use Rattle.laws_contents.specs.pack_model.specs.reading.Sights.{sights, tag_sight}
use Rattle.laws_contents.specs.pack_model.specs.reading.Sights.Sight.{free, hidden, holds, leads}
use Rattle.laws_contents.specs.pack_model.specs.operations.Step.{Operation}
use Rattle.laws_contents.specs.pack_model.specs.states.Whole.{HasPages, IsLaid, IsSeat, Leads, PageAt, present}
use Rattle.laws_contents.specs.pack_laws.proofs.Guarding.{named_shown, here_written}
use Rattle.laws_contents.specs.pack_laws.proofs.Moving.{obeys_then, stands_last}
use Rattle.laws_contents.specs.laws_record.proofs.Seats.{seat_once, seat_range}
use Rattle.laws_operation.proofs.Changing.{Changed, Placed, length-one}
use Rattle.laws_operation.proofs.Commanding.{relabel_obeys, relabel_shows, value_shows}
use Rattle.laws_operation.proofs.inside.Elsewhere.{MayBe, but_trans, same_set}
use Rattle.laws_operation.proofs.Lying.{bytes_laid, seat_right, within}
use Rattle.laws_operation.proofs.Rows.{place_alone}
use Rattle.laws_operation.proofs.Seating.{carries_join, carries_none, carries_write, laid_back, laid_front, laid_join, leader_is, leads_set}
use Rattle.laws_operation.proofs.Showing.{is_here, other_value, tag_is}
use Rattle.laws_operation.proofs.inside.Standing.{Claimed, claims_go}
use Rattle.laws_operation.specs.ByteLaws.{together}

-- a page that is not full is the last
pub laid_last : (i : ℕ) (old : List ℕ) (later : List PageAt) → IsLaid ((i, old) ∷ later) → nat_lt (length old) 512 ≡ true → later ≡ []
laid_last i old [] h e = refl
laid_last i old (d ∷ later) h e = let x : nat_lt 512 512 ≡ true = ap (λ n. nat_lt n 512) (sym h.0) ∙ e in absurd cc

-- ---- new pages, and then the old last one
module _ (p : Pack) (f : Fid) (k i : ℕ) (old : List ℕ) (h : Placed (sights p) f k i old) (is : get_or (sights p) i hidden ≡ holds f k old) (short : nat_lt (length old) 512 ≡ true)
    (cs : List Claim) (able : Claimable (sights p) f (suc k) cs) (m : Model) (was : read_as p ≡ m) where
  -- no page comes after it
  ends : h.later ≡ []
  ends = laid_last i old h.later (laid_back h.front (i, old) h.later h.laid) short

  -- so these are all
  all_pages : h.front ++ (i, old) ∷ h.later ≡ h.front ++ (i, old) ∷ []
  all_pages = ap (λ x. h.front ++ (i, old) ∷ x) ends

  -- where they are at first
  at_first : HasPages (sights p) f (h.front ++ (i, old) ∷ []) (length (h.front ++ (i, old) ∷ [])) []
  at_first = carries_none (sights p) f (h.front ++ (i, old) ∷ []) 0 (length (h.front ++ (i, old) ∷ [])) (subst (λ x. HasPages (sights p) f x 0 []) all_pages h.carries)

  -- they are laid
  laid_first : IsLaid (h.front ++ (i, old) ∷ [])
  laid_first = subst IsLaid all_pages h.laid

  -- and few
  few_first : length (h.front ++ (i, old) ∷ []) ≤ most_pages
  few_first = subst (λ x. length x ≤ most_pages) all_pages h.few

  -- the claims of the new pages
  pub all_claims : Claimed p (after p (claims_writes cs)) f (h.front ++ (i, old) ∷ []) (Some (h.at, h.lead)) (all_claimed cs) m (claims_writes cs) (claims_moves cs)
  all_claims = claims_go cs p f (h.front ++ (i, old) ∷ []) (Some (h.at, h.lead)) [] (suc k) m (let n = length-one h.front (i, old) in let e = h.number in omega arith) able (h.leads_it, laid_first, few_first) at_first was

  -- the old last page stays where it is
  pub still_here : get_or (sights (after p (claims_writes cs))) i hidden ≡ holds f k old
  still_here = (all_claims.apart i (λ e. let x : free ≡ holds f k old = sym e ∙ is in absurd cc)).1 ∙ is

  -- with its words
  same_sector : sector_at (after p (claims_writes cs)) i ≡ sector_at p i
  same_sector = (all_claims.apart i (λ e. let x : free ≡ holds f k old = sym e ∙ is in absurd cc)).0

  -- in a good sector
  good : good_one (get_or (sights (after p (claims_writes cs))) i hidden) ≡ 1
  good = ap good_one still_here

  module _ (label v c0 : List ℕ) (past : take (tag (sector_at p i).label).bytes (bytes_of v) ≡ old) (page_is : page_of label ≡ Some (page_number f (suc k)))
      (counted : take (tag label).bytes (bytes_of v) ≡ c0) (laid : IsLaid ((i, c0) ∷ all_claimed cs)) (few : suc k + length (all_claimed cs) ≤ most_pages) where
    -- all pages, once its label is written
    written : HasPages (set (sights (after p (claims_writes cs))) i (holds f k c0)) f (h.front ++ (i, c0) ∷ all_claimed cs) 0 []
    written =
        let n = length-one h.front (i, old) in
        let o = length-one h.front (i, c0) in
        let lo : length (h.front ++ (i, old) ∷ []) ≡ length (h.front ++ (i, c0) ∷ []) = n ∙ sym o in
        let c = carries_write (sights (after p (claims_writes cs))) f h.front i old [] (length (h.front ++ (i, old) ∷ [])) (all_claimed cs) c0 all_claims.carries (inl (omega arith)) in
        let d = subst (λ x. HasPages (set (sights (after p (claims_writes cs))) i (holds f x c0)) f (h.front ++ (i, c0) ∷ []) (length (h.front ++ (i, old) ∷ [])) (all_claimed cs)) h.number c in
        let e = subst (λ x. HasPages (set (sights (after p (claims_writes cs))) i (holds f k c0)) f (h.front ++ (i, c0) ∷ []) x (all_claimed cs)) lo d in
        subst (λ x. HasPages (set (sights (after p (claims_writes cs))) i (holds f k c0)) f x 0 []) (append_assoc h.front ((i, c0) ∷ []) (all_claimed cs))
        (carries_join (set (sights (after p (claims_writes cs))) i (holds f k c0)) f (h.front ++ (i, c0) ∷ []) (all_claimed cs) e)

    -- the leader stays
    leads_now : Leads (set (sights (after p (claims_writes cs))) i (holds f k c0)) f h.at true h.lead
    leads_now = leads_set (sights (after p (claims_writes cs))) f h.at true h.lead i (holds f k c0) all_claims.stands.0 (within (sights (after p (claims_writes cs))) i good)
        (λ r x z. let y : holds f k old ≡ leads f r x = sym still_here ∙ z in absurd cc) (λ r x z. absurd cc)

    -- they are laid
    laid_now : IsLaid (h.front ++ (i, c0) ∷ all_claimed cs)
    laid_now = laid_join h.front (i, c0) (all_claimed cs) (laid_front h.front (i, old) h.later h.laid) laid

    -- and few
    few_now : length (h.front ++ (i, c0) ∷ all_claimed cs) ≤ most_pages
    few_now = let n = length-append h.front ((i, c0) ∷ all_claimed cs) in let e = h.number in omega arith

    -- what changes
    pub grow_changed : Changed (sights p) (set (sights (after p (claims_writes cs))) i (holds f k c0)) f h.lead h.lead (together (h.front ++ (i, old) ∷ [])) (together (h.front ++ (i, c0) ∷ all_claimed cs))
    grow_changed = record {
      same = but_trans f (sights p) (sights (after p (claims_writes cs))) (set (sights (after p (claims_writes cs))) i (holds f k c0)) all_claims.same
          (same_set f (sights (after p (claims_writes cs))) i (holds f k c0) (subst (MayBe f) (sym still_here) refl) refl);
      was = leader_is (sights p) f h.at true h.lead h.leads_it;
      now = leader_is (set (sights (after p (claims_writes cs))) i (holds f k c0)) f h.at true h.lead leads_now;
      before = bytes_laid (sights p) f (h.front ++ (i, old) ∷ []) (length (h.front ++ (i, old) ∷ [])) [] at_first (omega arith) laid_first few_first;
      since = bytes_laid (set (sights (after p (claims_writes cs))) i (holds f k c0)) f (h.front ++ (i, c0) ∷ all_claimed cs) (length (h.front ++ (i, c0) ∷ all_claimed cs)) []
          (carries_none (set (sights (after p (claims_writes cs))) i (holds f k c0)) f (h.front ++ (i, c0) ∷ all_claimed cs) 0 (length (h.front ++ (i, c0) ∷ all_claimed cs)) written) (omega arith) laid_now few_now;
      whole = present h.at h.lead (h.front ++ (i, c0) ∷ all_claimed cs) leads_now written laid_now few_now;
    }

    -- the old last page's value, with bytes past its count
    valued : sights (after (after p (claims_writes cs)) (Wrote i 2 v ∷ [])) ≡ sights (after p (claims_writes cs))
    valued =
        let s : tag_sight (tag (sector_at (after p (claims_writes cs)) i).label) v ≡ holds f k old =
        other_value (tag (sector_at (after p (claims_writes cs)) i).label) (sector_at (after p (claims_writes cs)) i).value v f k old (sym (tag_is (after p (claims_writes cs)) i good) ∙ still_here)
        ∙ ap (λ x. holds f k (take (tag x.label).bytes (bytes_of v))) same_sector ∙ ap (holds f k) past in
        value_shows (after p (claims_writes cs)) i good v (holds f k old) s ∙ ap (set (sights (after p (claims_writes cs))) i) (sym still_here) ∙ set-get_or (sights (after p (claims_writes cs))) i hidden

    -- it holds the new value
    its_value : v ≡ (sector_at (after (after p (claims_writes cs)) (Wrote i 2 v ∷ [])) i).value
    its_value = sym (ap (λ s. s.value) (here_written (after p (claims_writes cs)) i 2 v (here_within)))
      where
        here_within : i < length (after p (claims_writes cs)).sectors
        here_within = is_here (after p (claims_writes cs)) i good

    -- and shows its counted bytes under the new label
    its_label : tag_sight (tag label) (sector_at (after (after p (claims_writes cs)) (Wrote i 2 v ∷ [])) i).value ≡ holds f k c0
    its_label = ap (tag_sight (tag label)) (sym its_value) ∙ named_shown label v (page_number f (suc k)) page_is ∙ ap (holds f k) counted

    -- in a good sector
    good1 : good_one (get_or (sights (after (after p (claims_writes cs)) (Wrote i 2 v ∷ []))) i hidden) ≡ 1
    good1 = ap (λ x. good_one (get_or x i hidden)) valued ∙ good

    -- what is shown at the end
    pub grow_shows : sights (after p (grow_writes cs i label v)) ≡ set (sights (after p (claims_writes cs))) i (holds f k c0)
    grow_shows = ap sights (after-append p (claims_writes cs) (claim_writes i label v))
        ∙ relabel_shows (after (after p (claims_writes cs)) (Wrote i 2 v ∷ [])) i good1 label v (holds f k c0) its_value its_label ∙ ap (λ x. set x i (holds f k c0)) valued

    -- the old last page stays where it is until its label is written
    pub old_place : place (sights (after (after p (claims_writes cs)) (Wrote i 2 v ∷ []))) f (suc k) ≡ Some i
    old_place = ap (λ ss. place ss f (suc k)) valued ∙ place_alone (sights (after p (claims_writes cs))) f k i old still_here (λ j d e. once j (all_claims.carries.only j k d e))
      where
        long : length (h.front ++ (i, old) ∷ []) ≡ suc k
        long = let n = length-one h.front (i, old) in let e = h.number in omega arith

        mine : IsSeat 0 (h.front ++ (i, old) ∷ []) k i
        mine = let e = h.number in let z : k ≡ 0 + length h.front = omega (arith, e) in seat_right 0 h.front ((i, old) ∷ []) k i (inl (z, refl))

        once : (j : ℕ) → IsSeat 0 (h.front ++ (i, old) ∷ []) k j ⊎ IsSeat (length (h.front ++ (i, old) ∷ [])) (all_claimed cs) k j → j ≡ i
        once j e = elim e [ inl s ↦ seat_once 0 (h.front ++ (i, old) ∷ []) k j i s mine | inr s ↦ absurd (let r = (seat_range (length (h.front ++ (i, old) ∷ [])) (all_claimed cs) k j s).0 in omega (arith, long, r)) ]

    -- what is read before the label
    pub read_before : read_as (after (after p (claims_writes cs)) (Wrote i 2 v ∷ [])) ≡ m
    read_before = ap (read_sights p.shape) valued ∙ subst (λ x. read_as (after p (claims_writes cs)) ≡ x) all_claims.still (stands_last reading all_claims.obeys)

    -- cut by cut
    pub grow_obeys : (o : Operation) → MakesMove (after (after p (claims_writes cs)) (Wrote i 2 v ∷ [])) (Wrote i 1 label) (commits o) → read_sights p.shape (set (sights (after p (claims_writes cs))) i (holds f k c0)) ≡ moved m (commits o) → Obeys reading m p (grow_writes cs i label v) (grow_moves cs o)
    grow_obeys o makes now = obeys_then reading all_claims.obeys (subst (λ x. Obeys reading x (after p (claims_writes cs)) (claim_writes i label v) (quiet ∷ commits o ∷ quiet ∷ [])) (sym all_claims.still)
        (write read_q tt (relabel_obeys (after (after p (claims_writes cs)) (Wrote i 2 v ∷ [])) i good1 m (commits o) label v (holds f k c0) its_value its_label
        (ap (read_sights p.shape) valued ∙ read_q) makes (ap (λ x. read_sights p.shape (set x i (holds f k c0))) valued ∙ now))))
      where
        read_q : read_as (after p (claims_writes cs)) ≡ m
        read_q = subst (λ x. read_as (after p (claims_writes cs)) ≡ x) all_claims.still (stands_last reading all_claims.obeys)
