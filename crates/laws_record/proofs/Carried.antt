-- What the sectors of a whole pack carry: each page once, in its place. Values that are written leave what is carried.
use Rattle.std.proofs.Common.{◌<◌, ◌∙◌, ◌∷◌, ◌≡◌, List, None, Option, Some, [], ap, arith, eqb-true, get_or, inl, inr, length, refl, suc, sym, true, zero, ℕ}
use Rattle.std.proofs.lemmas.Bool.{false_from_ne_true}
use Rattle.std.proofs.lemmas.List.{get_or_default}
use Rattle.pack_laws.specs.alto_words.specs.declared.fid.Fid.{Fid}
use Rattle.pack_laws.specs.disk_records.specs.Packs.{Pack, after, carried}
use Rattle.pack_laws.specs.disk_records.specs.declared.records.Event.TheVariants.{Wrote}
use Rattle.pack_laws.specs.disk_records.specs.declared.records.Page.{Page}
use Rattle.pack_laws.specs.pack_model.specs.operations.Commands.{values_writes}
use Rattle.pack_laws.specs.pack_model.specs.reading.Files.{carries_page, place}
use Rattle.pack_laws.specs.pack_model.specs.states.InUse.{is_place}
use Rattle.pack_laws.specs.pack_model.specs.reading.Sights.{Sight, sights}
use Rattle.pack_laws.specs.pack_model.specs.reading.Sights.Sight.{hidden, holds}
use Rattle.pack_laws.specs.pack_model.specs.states.Whole.{HasPages, FileWhole, IsSeat, PageAt, Whole, absent, present}
use Rattle.pack_laws.proofs.Carrying.{sight_carries}
use Rattle.pack_laws.proofs.Guarding.{carried_parts, usable_within, value_page}
use Rattle.pack_laws.proofs.Placing.{place_from, shows_carried, shows_led}
use Rattle.laws_record.proofs.Seats.{seat_once}

-- a place by its test
pub place_by : (i : ℕ) (r : Option ℕ) → is_place i r ≡ true → r ≡ Some i
place_by i None e = absurd cc
place_by i (Some j) e = ap Some (sym (eqb-true i j e))

-- ---- one sector a page
-- a sector that carries a page is one of the list
pub carries_within : (ss : List Sight) (f : Fid) (n i : ℕ) → carries_page f n (get_or ss i hidden) ≡ true → i < length ss
carries_within [] f n i e = absurd cc
carries_within (s ∷ ss) f n zero e = omega arith
carries_within (s ∷ ss) f n (suc i) e = let l = carries_within ss f n i e in omega arith

module _ (ss : List Sight) (f : Fid) where
  -- a page is among those that carry the file
  pub seat_in : (pages : List PageAt) → HasPages ss f pages 0 [] → (n i : ℕ) (b : List ℕ) → get_or ss i hidden ≡ holds f n b → IsSeat 0 pages n i
  seat_in pages c n i b e = elim (c.only i n b e) [ inl s ↦ s | inr s ↦ absurd s ]

  -- one sector carries a page of a whole file
  pub carried_once : FileWhole ss f → (n i j : ℕ) → carries_page f n (get_or ss i hidden) ≡ true → carries_page f n (get_or ss j hidden) ≡ true → i ≡ j
  carried_once (absent headless c) zero i j a b = let x = shows_led f (get_or ss i hidden) a in absurd (headless i x.0 x.1 x.2)
  carried_once (absent headless c) (suc n) i j a b = let x = shows_carried f n (get_or ss i hidden) a in absurd (seat_in [] c n i x.0 x.1)
  carried_once (present at l pages h c laid few) zero i j a b =
      let x = shows_led f (get_or ss i hidden) a in
      let y = shows_led f (get_or ss j hidden) b in
      h.only i x.0 x.1 x.2 ∙ sym (h.only j y.0 y.1 y.2)
  carried_once (present at l pages h c laid few) (suc n) i j a b =
      let x = shows_carried f n (get_or ss i hidden) a in
      let y = shows_carried f n (get_or ss j hidden) b in
      seat_once 0 pages n i j (seat_in pages c n i x.0 x.1) (seat_in pages c n j y.0 y.1)

  -- it is the page's place
  pub place_of_carried : FileWhole ss f → (n i : ℕ) → carries_page f n (get_or ss i hidden) ≡ true → place ss f n ≡ Some i
  place_of_carried whole n i e =
      let l = carries_within ss f n i e in
      place_from ss f n i (record {
        within = l;
        carries = λ d. ap (carries_page f n) (get_or_default ss i d hidden l) ∙ e;
        lowest = λ j d low. false_from_ne_true (carries_page f n (get_or ss j d)) (λ is.
            let same = carried_once whole n j i (ap (carries_page f n) (sym (get_or_default ss j d hidden (omega arith))) ∙ is) e in omega arith);
      })

-- ---- on a pack
-- what carries a page shows it
pub carried_shows : (p : Pack) (i : ℕ) (x : Page) → carried p i ≡ Some x → carries_page x.fid x.number (get_or (sights p) i hidden) ≡ true
carried_shows p i x is = sight_carries p i x hidden (usable_within p i (carried_parts p i x is).0) is

-- one sector of a whole pack carries a page
pub whole_once : (p : Pack) → Whole p → (i j : ℕ) (x : Page) → carried p i ≡ Some x → carried p j ≡ Some x → i ≡ j
whole_once p w i j x a b = carried_once (sights p) x.fid (w.files x.fid) x.number i j (carried_shows p i x a) (carried_shows p j x b)

-- it is the place of the page
pub carried_place : (p : Pack) → Whole p → (i : ℕ) (x : Page) → carried p i ≡ Some x → place (sights p) x.fid x.number ≡ Some i
carried_place p w i x is = place_of_carried (sights p) x.fid (w.files x.fid) x.number i (carried_shows p i x is)

-- values leave the page that a sector carries
pub values_carried : (vs : List (ℕ × List ℕ)) (p : Pack) (i : ℕ) → carried (after p (values_writes vs)) i ≡ carried p i
values_carried [] p i = refl
values_carried (v ∷ vs) p i = values_carried vs (after p (Wrote v.0 2 v.1 ∷ [])) i ∙ value_page p v.0 v.1 i
