-- Pages come after the last page of a file.
use Rattle.std.proofs.Common.{List, None, Option, Some, [], ap, arith, drop, inl, inr, length, refl, subst, suc, sym, true, ℕ, ◌+◌, ◌<◌, ◌∙◌, ◌∷◌, ◌≡◌, ◌≢◌, ◌≤◌, ◌⊎◌}
use Rattle.std.proofs.lemmas.Bool.{cases_eq, cases_lt}
use Rattle.laws_contents.specs.alto_words.specs.declared.fid.Fid.{Fid}
use Rattle.laws_contents.specs.disk_records.proofs.Growing.{after-append}
use Rattle.laws_contents.specs.disk_records.specs.Commands.{claim_writes}
use Rattle.laws_contents.specs.disk_records.specs.Labels.{page_of}
use Rattle.laws_contents.specs.disk_records.specs.Packs.{Pack, after, carried, is_usable, sector_at}
use Rattle.laws_contents.specs.disk_records.specs.Words.{word}
use Rattle.laws_contents.specs.disk_records.specs.declared.records.Page.{Page}
use Rattle.laws_contents.specs.disk_records.specs.declared.shape.Shape.{Shape}
use Rattle.laws_contents.specs.pack_model.specs.operations.Commands.{Claim, Claimable, claims_of, claims_writes}
use Rattle.laws_contents.specs.pack_model.specs.reading.Files.{place}
use Rattle.laws_contents.specs.pack_model.specs.hints.Links.{link_to}
use Rattle.laws_contents.specs.pack_model.specs.operations.Operations.{grow_writes}
use Rattle.laws_contents.specs.pack_model.specs.operations.PageWords.{link_to_first, page_number}
use Rattle.laws_contents.specs.pack_model.specs.reading.Sights.{sights}
use Rattle.laws_contents.specs.pack_model.specs.states.Whole.{Whole}
use Rattle.laws_contents.specs.pack_laws.proofs.Guarding.{carried_parts}
use Rattle.laws_contents.specs.pack_laws.proofs.Placing.{one_page}
use Rattle.laws_contents.specs.laws_record.proofs.Copying.{place_carried}
use Rattle.laws_contents.specs.laws_record.proofs.Carried.{carried_place}
use Rattle.laws_operation.proofs.Commanding.{claim_apart}
use Rattle.laws_operation.proofs.inside.links.Claims.{claim_carried, claim_concern, claim_here, claim_label, free_none}
use Rattle.laws_operation.proofs.inside.links.ClaimsRow.{IsClaim, Rowed, claim_range, claims_apart, claims_carried, claims_concern, claims_rowed, rowed_same}
use Rattle.laws_operation.proofs.inside.links.Framing.{AllConcern, concern_join, places_alike}
use Rattle.laws_operation.proofs.inside.links.Linked.{FileLinks, Linked}
use Rattle.laws_operation.proofs.inside.links.OneFile.{old_linked}
use Rattle.laws_operation.proofs.inside.links.Records.{carried_same, names_one}
use Rattle.laws_operation.proofs.inside.links.Values.{of_carried}

-- ---- the claims of bytes in a row
-- as many as sectors
claims_many : (shape : Shape) (f : Fid) (number previous : ℕ) (bytes past fresh : List ℕ) → length (claims_of shape f number previous bytes past fresh) ≡ length fresh
claims_many shape f number previous bytes past [] = refl
claims_many shape f number previous bytes past (at ∷ fresh) = ap suc (claims_many shape f (suc number) at (drop 512 bytes) past fresh)

-- nothing where nothing can be
none_of : (r : Option ℕ) → ((j : ℕ) → r ≡ Some j → ⊥) → r ≡ None
none_of None never = refl
none_of (Some j) never = absurd (never j refl)

module _ (q : Pack) (wq : Whole q) (f : Fid) (past : List ℕ) where
  -- the link to the first of them
  first_link : (fresh : List ℕ) (k previous : ℕ) (bytes : List ℕ) → Rowed q f k (claims_of q.shape f (suc k) previous bytes past fresh) → ((j : ℕ) → place (sights q) f (suc k + length fresh) ≡ Some j → ⊥) → link_to_first q.shape fresh ≡ link_to q.shape (place (sights q) f (suc k))
  first_link [] k previous bytes rows ends = let z : suc k ≡ suc k + 0 = omega arith in ap (link_to q.shape) (sym (ap (place (sights q) f) z ∙ none_of (place (sights q) f (suc k + 0)) ends))
  first_link (at ∷ fresh) k previous bytes rows ends = ap (link_to q.shape) (sym (carried_place q wq at (page_number f (suc k)) rows.0))

  -- their links are true
  row_linked : (fresh : List ℕ) (k previous : ℕ) (bytes : List ℕ) → Rowed q f k (claims_of q.shape f (suc k) previous bytes past fresh) → place (sights q) f k ≡ Some previous → ((j : ℕ) → place (sights q) f (suc k + length fresh) ≡ Some j → ⊥)
      → (m i : ℕ) → IsClaim f k (claims_of q.shape f (suc k) previous bytes past fresh) i (page_number f m) → Linked q f m i
  row_linked [] k previous bytes rows before ends m i is = absurd is
  row_linked (at ∷ fresh) k previous bytes rows before ends m i is =
      let z : suc (suc k) + length fresh ≡ suc k + suc (length fresh) = omega arith in
      let further : (j : ℕ) → place (sights q) f (suc (suc k) + length fresh) ≡ Some j → ⊥ = λ j e. ends j (ap (place (sights q) f) (sym z) ∙ e) in
      let here : Linked q f (suc k) at = record {
        next = ap (λ l. word l 0) rows.1 ∙ first_link fresh (suc k) at (drop 512 bytes) rows.2 further;
        previous = ap (λ l. word l 1) rows.1 ∙ ap (link_to q.shape) (sym before);
      } in
      elim is [
        | inl x ↦ subst (λ n. Linked q f n i) (sym (ap (λ y. y.number) x.2)) (subst (Linked q f (suc k)) (sym x.0) here)
        | inr later ↦ row_linked fresh (suc k) at (drop 512 bytes) rows.2 (carried_place q wq at (page_number f (suc k)) rows.0) further m i later
      ]

-- ---- the growth
module _ (p : Pack) (wp : Whole p) (f : Fid) (last at : ℕ) (cs : List Claim) (label value : List ℕ) (sector : place (sights p) f last ≡ Some at) (able : Claimable (sights p) f last cs)
    (names : page_of label ≡ Some (page_number f last)) where
  -- the pack with the new pages, and at the end
  abbrev claimed_pack : Pack
  claimed_pack = after p (claims_writes cs)

  -- at the end
  abbrev done : Pack
  done = after p (grow_writes cs at label value)

  -- one after the other
  done_is : after p (grow_writes cs at label value) ≡ after (after p (claims_writes cs)) (claim_writes at label value)
  done_is = after-append p (claims_writes cs) (claim_writes at label value)

  -- the old last page is carried
  was : carried p at ≡ Some (page_number f last)
  was = place_carried p (page_number f last) at sector

  -- sectors that carry a page stay while others are claimed
  claimed_same : (i : ℕ) (x : Page) → carried p i ≡ Some x → sector_at (after p (claims_writes cs)) i ≡ sector_at p i
  claimed_same i x is = claims_apart cs p f last able i (λ e. free_none p i e x is)

  -- its sector is usable while others are claimed
  usable : is_usable p.shape at (sector_at (after p (claims_writes cs)) at) ≡ true
  usable = ap (is_usable p.shape at) (claimed_same at (page_number f last) was) ∙ (carried_parts p at (page_number f last) was).0

  -- the old last page has the label, and is carried still
  pub label_is : (sector_at (after p (grow_writes cs at label value)) at).label ≡ label
  label_is = ap (λ x. (sector_at x at).label) done_is ∙ claim_label claimed_pack at label value usable

  -- and the page is carried
  there : carried (after p (grow_writes cs at label value)) at ≡ Some (page_number f last)
  there = ap (λ x. carried x at) done_is ∙ claim_here claimed_pack at label value (page_number f last) usable names

  -- every other page stays
  stays : (i : ℕ) (x : Page) → carried p i ≡ Some x → i ≢ at → sector_at (after p (grow_writes cs at label value)) i ≡ sector_at p i
  stays i x is ne = ap (λ x. sector_at x i) done_is ∙ claim_apart claimed_pack at i label value ne ∙ claimed_same i x is

  -- what is carried then was carried, or is claimed
  back : (m i : ℕ) → carried (after p (grow_writes cs at label value)) i ≡ Some (page_number f m) → carried p i ≡ Some (page_number f m) ⊎ IsClaim f last cs i (page_number f m)
  back m i is = elim (claim_carried claimed_pack at label value i (page_number f m) (sym (ap (λ x. carried x i) done_is) ∙ is)) [
    | inl new ↦ inl (ap (carried p) new.0 ∙ was ∙ sym names ∙ new.1)
    | inr old ↦ claims_carried cs p f last able i (page_number f m) old
  ]

  -- what was carried is so still
  forth : (m i : ℕ) → carried p i ≡ Some (page_number f m) → carried (after p (grow_writes cs at label value)) i ≡ Some (page_number f m)
  forth m i is = elim (cases_eq i at) [
    | inl e ↦ ap (carried done) e ∙ there ∙ sym was ∙ ap (carried p) (sym e) ∙ is
    | inr ne ↦ carried_same p done i refl (stays i (page_number f m) is ne) ∙ is
  ]

  -- the new pages are in a row
  pub rows : Rowed (after p (grow_writes cs at label value)) f last cs
  rows = rowed_same cs claimed_pack done f last refl (λ i x is more. ap (λ y. sector_at y i) done_is ∙ claim_apart claimed_pack at i label value (λ e. other i x is more e)) (claims_rowed cs p f last able)
    where
      other : (i : ℕ) (x : Page) → carried (after p (claims_writes cs)) i ≡ Some x → last < x.number → i ≡ at → ⊥
      other i x is more e =
          let both : Some x ≡ Some (page_number f last) = sym is ∙ ap (carried claimed_pack) e ∙ carried_same p claimed_pack at refl (claimed_same at (page_number f last) was) ∙ was in
          let one : x ≡ page_number f last = cc in
          let n : x.number ≡ last = ap (λ y. y.number) one in
          omega arith

  -- they concern the file
  pub grow_concerns : AllConcern f p (grow_writes cs at label value)
  grow_concerns = concern_join f p (claims_writes cs) (claim_writes at label value) (claims_concern cs p f last able)
      (claim_concern claimed_pack at label value f (names_one f last label names)
      (of_carried f last claimed_pack at (carried_same p claimed_pack at refl (claimed_same at (page_number f last) was) ∙ was)))

  module _ (wq : Whole (after p (grow_writes cs at label value))) where
    -- the places of the old pages stay
    pub grown_place : (m : ℕ) → m ≤ last → place (sights (after p (grow_writes cs at label value))) f m ≡ place (sights p) f m
    grown_place m l = places_alike p done wp wq (page_number f m) (forth m) (λ i is. elim (back m i is) [ inl old ↦ old | inr new ↦ absurd (let r = (claim_range f last cs i m new).0 in omega arith) ])

    -- and those before the last their labels
    pub same_front : (m i : ℕ) → m < last → place (sights p) f m ≡ Some i → (sector_at (after p (grow_writes cs at label value)) i).label ≡ (sector_at p i).label
    same_front m i l e = ap (λ s. s.label) (stays i (page_number f m) (place_carried p (page_number f m) i e) (λ same. let one = (one_page (sights p) f f m last at (e ∙ ap Some same) sector).1 in omega arith))

    module _ (bytes past fresh : List ℕ) (row : cs ≡ claims_of p.shape f (suc last) at bytes past fresh) (ends : (m j : ℕ) → last < m → place (sights p) f m ≡ Some j → ⊥) where
      -- later pages are the new ones
      pub later : (m i : ℕ) → last < m → place (sights (after p (grow_writes cs at label value))) f m ≡ Some i → IsClaim f last cs i (page_number f m)
      later m i l e = elim (back m i (place_carried done (page_number f m) i e)) [
        | inl old ↦ absurd (ends m i l (carried_place p wp i (page_number f m) old))
        | inr new ↦ new
      ]

      -- and no others
      no_more : (j : ℕ) → place (sights (after p (grow_writes cs at label value))) f (suc last + length fresh) ≡ Some j → ⊥
      no_more j e =
          let r = (claim_range f last cs j (suc last + length fresh) (later (suc last + length fresh) j (omega arith) e)).1 in
          let n : length cs ≡ length fresh = ap length row ∙ claims_many p.shape f (suc last) at bytes past fresh in
          omega (arith, r, n)

      -- links are true again
      pub grown_links : word label 0 ≡ link_to_first p.shape fresh → word label 1 ≡ word (sector_at p at).label 1 → FileLinks p f → FileLinks (after p (grow_writes cs at label value)) f
      grown_links next previous links m i e =
          let these : Rowed done f last (claims_of p.shape f (suc last) at bytes past fresh) = subst (Rowed done f last) row rows in
          let on : word (sector_at done at).label 0 ≡ link_to p.shape (place (sights done) f (suc last)) = ap (λ l. word l 0) label_is ∙ next ∙ first_link done wq f past fresh last at bytes these no_more in
          elim (cases_lt last m) [
            | inl more ↦ row_linked done wq f past fresh last at bytes these (grown_place last (omega arith) ∙ sector) no_more m i (subst (λ c. IsClaim f last c i (page_number f m)) row (later m i more e))
            | inr l ↦ old_linked p f (grow_writes cs at label value) last at grown_place same_front sector on (ap (λ l. word l 1) label_is ∙ previous) links m i l e
          ]
