-- A make.
use Rattle.std.proofs.Common.{List, None, Option, Some, [], ap, arith, cond, false, inl, inr, refl, subst, sym, true, ℕ, ◌∙◌, ◌∷◌, ◌≡◌, ◌⊎◌}
use Rattle.std.specs.FinMap.{get, get-insert}
use Rattle.laws_contents.specs.alto_words.specs.Fid.{is_directory, is_fid}
use Rattle.laws_contents.specs.alto_words.specs.declared.fid.Fid.{Fid}
use Rattle.laws_contents.specs.disk_records.specs.Addresses.{real_of}
use Rattle.laws_contents.specs.disk_records.specs.Commands.{claim_writes}
use Rattle.laws_contents.specs.disk_records.specs.Labels.{page_of}
use Rattle.laws_contents.specs.disk_records.specs.Packs.{Pack, after, carried, is_usable, sector_at}
use Rattle.laws_contents.specs.disk_records.specs.Words.{word}
use Rattle.laws_contents.specs.disk_records.specs.declared.records.Event.{Event}
use Rattle.laws_contents.specs.disk_records.specs.declared.records.Page.{Page}
use Rattle.laws_contents.specs.pack_model.specs.reading.Bodies.{body_items, items_in}
use Rattle.laws_contents.specs.pack_model.specs.reading.Bodies.Body.{data_of, items_of}
use Rattle.laws_contents.specs.pack_model.specs.operations.Commands.{Claim, first_page_claim, leader_claim}
use Rattle.laws_contents.specs.pack_model.specs.reading.Files.{leader, lives, place}
use Rattle.laws_contents.specs.pack_model.specs.hints.Links.{LinksTrue, dir_words, link_to, no_link}
use Rattle.laws_contents.specs.pack_model.specs.reading.Model.{dir_items, read_as}
use Rattle.laws_contents.specs.pack_model.specs.operations.Operations.{make_writes}
use Rattle.laws_contents.specs.pack_model.specs.operations.PageWords.{page_number}
use Rattle.laws_contents.specs.pack_model.specs.reading.Sights.{sights}
use Rattle.laws_contents.specs.pack_model.specs.reading.Slots.Item.{space}
use Rattle.laws_contents.specs.pack_model.specs.operations.Step.{new_file, step}
use Rattle.laws_contents.specs.pack_model.specs.operations.Step.Operation.{make}
use Rattle.laws_contents.specs.pack_model.specs.states.Whole.{Tidy, Whole}
use Rattle.laws_contents.specs.pack_laws.proofs.Guarding.{free_parts}
use Rattle.laws_contents.specs.pack_laws.proofs.Keys.{fid_total, is_fid-itself, same_fid}
use Rattle.laws_contents.specs.pack_laws.proofs.Placing.{none_of_false}
use Rattle.laws_contents.specs.laws_record.proofs.Copying.{place_carried}
use Rattle.laws_contents.specs.laws_record.proofs.Carried.{carried_place}
use Rattle.laws_operation.proofs.Commanding.{claim_apart}
use Rattle.laws_operation.proofs.Making.{make_law, missing}
use Rattle.laws_operation.specs.LifeLaws.{MayMake}
use Rattle.laws_operation.proofs.inside.links.Addresses.{AllTrue}
use Rattle.laws_operation.proofs.inside.links.Claims.{claim_carried, claim_concern, claim_here, claim_label, claim_of, free_none}
use Rattle.laws_operation.proofs.inside.links.Directories.{DirTrue, all_dirs, dirs_true, other_dir, other_lives}
use Rattle.laws_operation.proofs.inside.links.Dropping.{none_there}
use Rattle.laws_operation.proofs.inside.links.Framing.{AllConcern, OfOne, concern_join}
use Rattle.laws_operation.proofs.inside.links.Linked.{FileLinks, Linked}
use Rattle.laws_operation.proofs.inside.links.OneFile.{pages_true}
use Rattle.laws_operation.proofs.inside.links.Records.{carried_same, names_one, number_one}
use Rattle.laws_operation.specs.LinkLaws.{MakeKeepsLinks}
use Rattle.laws_contents.specs.laws_record.proofs.Recording.{free_sight}

-- a file that doesn't live has no page in a whole pack
pub never_carried : (p : Pack) → Whole p → (f : Fid) → lives (sights p) f ≡ false → (m i : ℕ) → carried p i ≡ Some (page_number f m) → ⊥
never_carried p w f dead m i is = none_there (sights p) f (w.files f) (missing (sights p) f (w.files f) (none_of_false (leader (sights p) f) dead)).headless m i (carried_place p w i (page_number f m) is)

module _ (p : Pack) (w : Whole p) (t : Tidy p) (f : Fid) (name : List ℕ) (moment : ℕ) (page head : Claim) (h : MayMake p f name moment page head) where
  -- the pack with page 1
  abbrev paged : Pack
  paged = after p (claim_writes page.at page.label page.value)

  -- and with the leader
  abbrev done : Pack
  done = after p (make_writes page head)

  -- what is carried then
  then_is : (i : ℕ) (x : Page) → carried (after p (make_writes page head)) i ≡ Some x → ((i ≡ head.at) × (page_of head.label ≡ Some x)) ⊎ (((i ≡ page.at) × (page_of page.label ≡ Some x)) ⊎ (carried p i ≡ Some x))
  then_is i x is = elim (claim_carried paged head.at head.label head.value i x is) [ inl new ↦ inl new | inr old ↦ inr (claim_carried p page.at page.label page.value i x old) ]

  -- the first page is claimed
  paged_is : sector_at (after p (make_writes page head)) page.at ≡ sector_at (after p (claim_writes page.at page.label page.value)) page.at
  paged_is = claim_apart paged head.at page.at head.label head.value (λ e. h.two (sym e))

  -- its label stands
  pub page_label : (sector_at (after p (make_writes page head)) page.at).label ≡ page.label
  page_label = ap (λ s. s.label) paged_is ∙ claim_label p page.at page.label page.value (free_parts p page.at h.page_free).0

  -- and it is carried
  pub page_there : carried (after p (make_writes page head)) page.at ≡ Some (page_number f 1)
  page_there = carried_same paged done page.at refl paged_is ∙ claim_here p page.at page.label page.value (page_number f 1) (free_parts p page.at h.page_free).0 h.page_is

  -- and then the leader
  usable_head : is_usable p.shape head.at (sector_at (after p (claim_writes page.at page.label page.value)) head.at) ≡ true
  usable_head = ap (is_usable p.shape head.at) (claim_apart p page.at head.at page.label page.value h.two) ∙ (free_parts p head.at h.leader_free).0

  -- its label stands too
  pub head_label : (sector_at (after p (make_writes page head)) head.at).label ≡ head.label
  head_label = claim_label paged head.at head.label head.value usable_head

  -- and it is carried too
  pub head_there : carried (after p (make_writes page head)) head.at ≡ Some (page_number f 0)
  head_there = claim_here paged head.at head.label head.value (page_number f 0) usable_head h.leader_is

  -- they concern the file
  pub make_concerns : AllConcern f p (make_writes page head)
  make_concerns =
      let of_page : OfOne f p page.at = λ x is. absurd (free_none p page.at (free_sight p page.at h.page_free) x is) in
      let of_head : OfOne f p head.at = λ x is. absurd (free_none p head.at (free_sight p head.at h.leader_free) x is) in
      concern_join f p (claim_writes page.at page.label page.value) (claim_writes head.at head.label head.value)
      (claim_concern p page.at page.label page.value f (names_one f 1 page.label h.page_is) of_page)
      (claim_concern paged head.at head.label head.value f (names_one f 0 head.label h.leader_is) (claim_of p page.at page.label page.value f (names_one f 1 page.label h.page_is) head.at of_head))

  -- the pack is whole at the end
  pub whole_then : Whole (after p (make_writes page head))
  whole_then = (make_law p w t f name moment page head h).meets.whole

  -- no other page comes
  pub only_two : (m i : ℕ) → place (sights (after p (make_writes page head))) f m ≡ Some i → ((m ≡ 0) × (i ≡ head.at)) ⊎ ((m ≡ 1) × (i ≡ page.at))
  only_two m i e = elim (then_is i (page_number f m) (place_carried done (page_number f m) i e)) [
    | inl a ↦ inl (number_one f m 0 head.label h.leader_is a.1, a.0)
    | inr b ↦ elim b [
      | inl a ↦ inr (number_one f m 1 page.label h.page_is a.1, a.0)
      | inr old ↦ absurd (never_carried p w f h.not_there m i old)
    ]
  ]

  -- links are true again
  pub make_true : word head.label 0 ≡ real_of p.shape page.at → word head.label 1 ≡ no_link → word page.label 0 ≡ no_link → word page.label 1 ≡ real_of p.shape head.at → LinksTrue p → LinksTrue (after p (make_writes page head))
  make_true a b c d links =
      let page_place : place (sights done) f 1 ≡ Some page.at = carried_place done whole_then page.at (page_number f 1) page_there in
      let head_place : place (sights done) f 0 ≡ Some head.at = carried_place done whole_then head.at (page_number f 0) head_there in
      let no_more : place (sights done) f 2 ≡ None = none_of (place (sights done) f 2) (λ j e. elim (only_two 2 j e) [ inl x ↦ (let z = x.0 in omega arith) | inr x ↦ (let z = x.0 in omega arith) ]) in
      let leads_on : Linked done f 0 head.at = record { next = ap (λ l. word l 0) head_label ∙ a ∙ ap (link_to p.shape) (sym page_place); previous = ap (λ l. word l 1) head_label ∙ b } in
      let ends : Linked done f 1 page.at = record { next = ap (λ l. word l 0) page_label ∙ c ∙ ap (link_to p.shape) (sym no_more); previous = ap (λ l. word l 1) page_label ∙ d ∙ ap (link_to p.shape) (sym head_place) } in
      let mine : FileLinks done f = λ m i e. elim (only_two m i e) [
        | inl x ↦ subst (λ n. Linked done f n i) (sym x.0) (subst (Linked done f 0) (sym x.1) leads_on)
        | inr x ↦ subst (λ n. Linked done f n i) (sym x.0) (subst (Linked done f 1) (sym x.1) ends)
      ] in
      let events : List Event = make_writes page head in
      let out = make_law p w t f name moment page head h in
      record {
        pages = pages_true p f events w whole_then make_concerns mine links.pages;
        entries = all_dirs done (λ g live dir. elim (is_fid g f) as (λ b. is_fid g f ≡ b → DirTrue done g) [
          | true ↦ λ e. subst (DirTrue done) (sym (same_fid g f e)) (new_dir out.ends (ap is_directory (sym (same_fid g f e)) ∙ dir))
          | false ↦ λ e. other_dir p f events w whole_then make_concerns t out.meets.tidy (λ x y. absurd (never_carried p w f h.not_there 0 x (place_carried p (page_number f 0) x y))) g e live dir
              (dirs_true p links.entries g (other_lives p f events w whole_then make_concerns g e live) dir)
        ] refl);
      }
    where
      none_of : (r : Option ℕ) → ((j : ℕ) → r ≡ Some j → ⊥) → r ≡ None
      none_of None never = refl
      none_of (Some j) never = absurd (never j refl)

      new_dir : read_as (after p (make_writes page head)) ≡ step (read_as p) (make f name moment) → is_directory f ≡ true → DirTrue (after p (make_writes page head)) f
      new_dir ends dir =
          let items : dir_items (read_as done) f ≡ space 255 ∷ [] =
          ap (λ m. dir_items m f) ends ∙ ap items_in (get-insert fid_total (read_as p).files f (new_file f name moment) f ∙ ap (λ b. cond b (Some (new_file f name moment)) (get (read_as p).files f)) (is_fid-itself f))
          ∙ ap (λ b. body_items (cond b (items_of (space 255 ∷ [])) (data_of []))) dir in
          subst (AllTrue (sights done) (dir_words done f) 0) (sym items) (tt, tt)

-- a make
pub make_keeps_links : MakeKeepsLinks
make_keeps_links p f name moment leader_at page_at w t h = make_true p w t f name moment (first_page_claim p.shape f leader_at page_at) (leader_claim p.shape f name moment leader_at page_at) h refl refl refl refl
