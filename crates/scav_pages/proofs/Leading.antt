-- Leader pages that stay while other sectors are written, and new ones.
use Rattle.std.proofs.Common.{◌≡◌, ◌≢◌, ◌⊎◌, inl, inr, ℕ, suc, ◌==◌, ◌<◌, Bool, true, false, List, get_or, Option, Some, None, refl, sym, ap, subst, ◌∙◌, arith}
use Rattle.std.proofs.lemmas.Bool.Decides.{nat_tests}
use Rattle.std.proofs.lemmas.List.{get_or-set_other, get_or-set_same}
use Rattle.std.specs.Option.{option_map_or}
use Rattle.alto_words.specs.declared.fid.Fid.{Fid}
use Rattle.alto_words.specs.Fid.{is_fid}
use Rattle.disk_records.specs.declared.records.Page.{Page}
use Rattle.disk_records.specs.declared.records.Sector.{Sector}
use Rattle.disk_records.specs.Commands.{claim_writes}
use Rattle.disk_records.specs.Labels.{page_of, tag}
use Rattle.disk_records.specs.Packs.{Pack, after, carried, is_free_at, sector_at}
use Rattle.leader_page.specs.Pages.{Says}
use Rattle.pack_model.specs.reading.Files.{lives, place}
use Rattle.pack_model.specs.reading.Leaders.{Leader, is_readable, leader_of, leader_words}
use Rattle.pack_model.specs.reading.Sights.{Sight, page_sight, sights}
use Rattle.pack_model.specs.reading.Sights.Sight.{hidden}
use Rattle.laws_mend.specs.pack_laws.specs.GuardLaws.{ChangesOne, ComesToHold}
use Rattle.laws_mend.specs.pack_laws.proofs.files.Laws.{places_are_lowest}
use Rattle.laws_mend.specs.pack_laws.proofs.guards.Laws.{claim_takes_at_the_label}
use Rattle.laws_mend.specs.pack_laws.proofs.Guarding.{carried_parts, free_parts, free_unnamed, usable_within}
use Rattle.laws_mend.specs.pack_laws.proofs.Keys.{is_fid-itself, same_fid}
use Rattle.laws_mend.specs.pack_laws.proofs.Sighted.{length-sights}
use Rattle.scav_pages.specs.Fresh.{fresh_leader, own_name}
use Rattle.scav_pages.specs.Keeping.{KeepsLeaders, Leads}

-- the leader page of a file
abbrev pub leading : Fid → Page
leading f = record { fid = f; number = 0 }

-- ---- from one pack to the next
pub leaders_here : (p : Pack) → KeepsLeaders p p
leaders_here p = record { kept = λ f readable l x. inl x; made = λ f system dead. inl dead }

-- one whose name can be read stays
readable_stays : {q : Pack} {f : Fid} {l : Leader} → Leads q f true l ⊎ ((true ≡ false) × Leads q f true (record l { name = own_name f })) → Leads q f true l
readable_stays (inl same) = same
readable_stays (inr other) = absurd (let wrong : true ≡ false = other.0 in cc)

pub leaders_join : {p q r : Pack} → KeepsLeaders p q → KeepsLeaders q r → KeepsLeaders p r
leaders_join x y = record {
  kept = λ f readable l lead. elim (x.kept f readable l lead) [
    | inl same ↦ y.kept f readable l same
    | inr named ↦ inr (named.0, readable_stays (y.kept f true (record l { name = own_name f }) named.1))
  ];
  made = λ f system dead. elim (x.made f system dead) [
    | inl still ↦ y.made f system still
    | inr new ↦ inr (readable_stays (y.kept f true (fresh_leader f) new))
  ];
}

-- each has its place, which shows the same
pub leaders_stay : {p q : Pack} → ((f : Fid) → lives (sights q) f ≡ lives (sights p) f) → ((f : Fid) (k : ℕ) → place (sights p) f 0 ≡ Some k → (place (sights q) f 0 ≡ Some k) × (get_or (sights q) k hidden ≡ get_or (sights p) k hidden)) → KeepsLeaders p q
leaders_stay lives_are stay = record {
  kept = λ f readable l x. (let s = stay f x.at x.sector in inl (record { at = x.at; sector = s.0; says = s.1 ∙ x.says }));
  made = λ f system dead. inl (lives_are f ∙ dead);
}

pub leaders_shown : {p q : Pack} → sights q ≡ sights p → KeepsLeaders p q
leaders_shown same = leaders_stay (λ f. ap (λ ss. lives ss f) same) (λ f k e. (ap (λ ss. place ss f 0) same ∙ e, ap (λ ss. get_or ss k hidden) same))

-- ---- one sector is written
module _ {p q : Pack} {at : ℕ} {page : Option Page} {is_free : Bool} {seen : Sight} {sector : Sector} (changed : ChangesOne at page is_free seen sector p q) where
  beside : (k : ℕ) → k ≢ at → get_or (sights q) k hidden ≡ get_or (sights p) k hidden
  beside k other = ap (λ ss. get_or ss k hidden) changed.shown ∙ get_or-set_other (sights p) at k seen hidden other

  -- it carries no leader page of this file, before or after
  pub place_beside : (f : Fid) → carried p at ≢ Some (leading f) → page ≢ Some (leading f) → (k : ℕ) → place (sights p) f 0 ≡ Some k → (place (sights q) f 0 ≡ Some k) × (get_or (sights q) k hidden ≡ get_or (sights p) k hidden)
  place_beside f was now k e =
      let low = (places_are_lowest p (leading f)).lowest k e in
      let apart : k ≢ at = λ same. was (ap (carried p) (sym same) ∙ low.here) in
      ((places_are_lowest q (leading f)).place_is k (record { here = changed.pages k apart ∙ low.here; lowest = λ j below carries. by j (j == at) refl (low.lowest j below) carries }), beside k apart)
    where
      by : (j : ℕ) (t : Bool) → (j == at) ≡ t → carried p j ≢ Some (leading f) → carried q j ≢ Some (leading f)
      by j true e none carries = now (let same : j ≡ at = grind (arith, nat_tests, e) in sym changed.page_here ∙ ap (carried q) (sym same) ∙ carries)
      by j false e none carries =
          let other : j ≢ at = λ same. (let no = subst (λ i. (i == at) ≡ false) same e in grind (arith, nat_tests, no)) in
          none (sym (changed.pages j other) ∙ carries)

  pub leaders_beside : ((f : Fid) → lives (sights q) f ≡ lives (sights p) f) → ((f : Fid) → carried p at ≢ Some (leading f)) → ((f : Fid) → page ≢ Some (leading f)) → KeepsLeaders p q
  leaders_beside lives_are was now = leaders_stay lives_are (λ f k e. place_beside f (was f) (now f) k e)

  -- it carries nothing afterwards
  pub leaders_released : page ≡ None → ((f : Fid) → lives (sights q) f ≡ lives (sights p) f) → ((f : Fid) (k : ℕ) → place (sights p) f 0 ≡ Some k → place (sights q) f 0 ≡ Some k) → KeepsLeaders p q
  leaders_released none lives_are places_are = leaders_stay lives_are (λ f k e. (
    places_are f k e,
    beside k (λ same.
        (let here = ((places_are_lowest q (leading f)).lowest k (places_are f k e)).here in
        let wrong : None ≡ Some (leading f) = sym none ∙ sym changed.page_here ∙ ap (carried q) (sym same) ∙ here in
        cc)),
  ))

-- another page
pub other_number : (g f : Fid) (n : ℕ) → Some (record { fid = g; number = suc n }) ≢ Some (leading f)
other_number g f n same = (let is : suc n ≡ 0 = ap (λ (o : Option Page). option_map_or (λ x. x.number) o 0) same in absurd (omega (arith, is)))

-- a free sector carries none
pub free_carries : (p : Pack) (at : ℕ) (page : Page) → is_free_at p at ≡ true → carried p at ≢ Some page
free_carries p at page free carries = (let wrong : None ≡ Some page = sym (free_unnamed (sector_at p at).label (free_parts p at free).1) ∙ (carried_parts p at page carries).1 in cc)

-- ---- a leader page is claimed
module _ (p : Pack) (at : ℕ) (f : Fid) (label value : List ℕ) (is_free : is_free_at p at ≡ true) (names : page_of label ≡ Some (leading f)) where
  abbrev q : Pack
  q = after p (claim_writes at label value)

  taken : ComesToHold at (leading f) label value p q
  taken = (claim_takes_at_the_label p at (leading f) label value 3 is_free names).taken (omega arith)

  -- no lower sector carries it
  pub leads_now : ((j : ℕ) → j < at → carried p j ≢ Some (leading f)) → Leads q f (is_readable (leader_words value)) (leader_of f value)
  leads_now lower = record {
    at = at;
    sector = (places_are_lowest q (leading f)).place_is at (record { here = taken.page_here; lowest = λ j below carries. lower j below (sym (taken.pages j (λ same. omega (arith, same, below))) ∙ carries) });
    says = ap (λ ss. get_or ss at hidden) taken.shown ∙ get_or-set_same (sights p) at (page_sight f 0 (tag label).bytes value) hidden (let l = usable_within p at (free_parts p at is_free).0 in omega (arith, l, length-sights p));
  }

  -- a new leader, written whole
  pub leads_new : ((j : ℕ) → j < at → carried p j ≢ Some (leading f)) → {hints : List ℕ} → Says value (fresh_leader f) hints → Leads q f true (fresh_leader f)
  leads_new lower says = subst (λ readable. Leads q f readable (fresh_leader f)) says.readable (subst (λ l. Leads q f (is_readable (leader_words value)) l) (says.leader_is f) (leads_now lower))

  other_file : (g : Fid) → is_fid g f ≡ false → Some (leading f) ≢ Some (leading g)
  other_file g e same = (let is : f ≡ g = ap (λ (o : Option Page). option_map_or (λ x. x.fid) o f) same in let wrong : true ≡ false = sym (is_fid-itself f) ∙ ap (λ h. is_fid h f) is ∙ e in cc)

  pub leaders_claimed : ((g : Fid) → is_fid g f ≡ false → lives (sights q) g ≡ lives (sights p) g) → ((readable : Bool) (l : Leader) → Leads p f readable l → Leads q f readable l) → (lives (sights p) f ≡ false → Leads q f true (fresh_leader f)) → KeepsLeaders p q
  leaders_claimed lives_are own new = record {
    kept = λ g readable l x. inl (kept_or g readable l x (is_fid g f) refl);
    made = λ g system dead. made_or g dead (is_fid g f) refl;
  }
    where
      kept_or : (g : Fid) (readable : Bool) (l : Leader) → Leads p g readable l → (t : Bool) → is_fid g f ≡ t → Leads q g readable l
      kept_or g readable l x true e = (let same = same_fid g f e in subst (λ h. Leads q h readable l) (sym same) (own readable l (subst (λ h. Leads p h readable l) same x)))
      kept_or g readable l x false e = (let s = place_beside taken g (free_carries p at (leading g) is_free) (other_file g e) x.at x.sector in record { at = x.at; sector = s.0; says = s.1 ∙ x.says })

      made_or : (g : Fid) → lives (sights p) g ≡ false → (t : Bool) → is_fid g f ≡ t → (lives (sights q) g ≡ false) ⊎ Leads q g true (fresh_leader g)
      made_or g dead true e = (let same = same_fid g f e in inr (subst (λ h. Leads q h true (fresh_leader h)) (sym same) (new (ap (lives (sights p)) (sym same) ∙ dead))))
      made_or g dead false e = inl (lives_are g e ∙ dead)
