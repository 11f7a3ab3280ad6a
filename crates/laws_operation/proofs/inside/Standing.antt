-- Claims and releases of pages that aren't read.
use Rattle.std.proofs.Common.{Bool, List, None, Option, Some, [], ap, append-nil, append_assoc, arith, get_or, inl, inr, length, refl, set, subst, suc, sym, take, true, ℕ, ◌++◌, ◌+◌, ◌∙◌, ◌∷◌, ◌≡◌, ◌≢◌, ◌≤◌}
use Rattle.std.proofs.lemmas.List.{get_or-set_other, length-append}
use Rattle.laws_contents.specs.alto_words.specs.Fid.{disk_descriptor}
use Rattle.laws_contents.specs.alto_words.specs.declared.fid.Fid.{Fid}
use Rattle.laws_contents.specs.disk_records.specs.Commands.{claim_writes, ones, release_writes}
use Rattle.laws_contents.specs.disk_records.specs.Labels.{tag}
use Rattle.laws_contents.specs.disk_records.specs.Packs.{Pack, after, sector_at}
use Rattle.laws_contents.specs.disk_records.specs.Words.{word}
use Rattle.laws_contents.specs.disk_records.specs.declared.records.Event.{Event}
use Rattle.laws_contents.specs.disk_records.specs.declared.shape.Shape.{Shape}
use Rattle.laws_contents.specs.pack_model.specs.reading.Bytes.{bytes_of}
use Rattle.laws_contents.specs.pack_model.specs.operations.Commands.{Claim, Claimable, all_claimed, claimed, claims_writes, releases_writes, sectors_of}
use Rattle.laws_contents.specs.pack_model.specs.reading.Files.{leader, most_pages}
use Rattle.laws_contents.specs.pack_model.specs.reading.Leaders.{Leader}
use Rattle.laws_contents.specs.pack_model.specs.sessions.Meanings.{reading}
use Rattle.laws_contents.specs.pack_model.specs.reading.Model.{Model, good_one, read_as, read_sights}
use Rattle.laws_contents.specs.pack_model.specs.sessions.Moves.{Obeys, rest, steps}
use Rattle.laws_contents.specs.pack_model.specs.operations.Operations.{Move, claims_moves, releases_moves}
use Rattle.laws_contents.specs.pack_model.specs.operations.Operations.Move.{quiet}
use Rattle.laws_contents.specs.pack_model.specs.reading.Sights.{Sight, sights}
use Rattle.laws_contents.specs.pack_model.specs.reading.Sights.Sight.{free, hidden, holds, leads, stray}
use Rattle.laws_contents.specs.pack_model.specs.states.Whole.{HasPages, Headless, IsLaid, Leads, PageAt}
use Rattle.laws_contents.specs.pack_laws.proofs.Guarding.{ones_free}
use Rattle.laws_contents.specs.pack_laws.proofs.Moving.{obeys_then}
use Rattle.laws_operation.proofs.Commanding.{claim_apart, claim_obeys, claim_shows, release_apart, release_obeys, release_shows}
use Rattle.laws_operation.proofs.inside.Elsewhere.{MayBe, SameBut, but_trans, same_refl, same_set}
use Rattle.laws_operation.proofs.Lying.{bytes_laid, within}
use Rattle.laws_operation.proofs.inside.OneFile.{read_alike}
use Rattle.laws_operation.proofs.Seating.{carries_claim, carries_release, headless_set, leader_is, leader_none_is, leads_set}
use Rattle.laws_operation.proofs.Showing.{page_label}

-- the leader of f, with these pages; or f doesn't live
abbrev pub FileStands : List Sight → Fid → List PageAt → Option (ℕ × Leader) → Type 0
FileStands ss f pages None = Headless ss f × (f ≡ disk_descriptor → ⊥)
FileStands ss f pages (Some h) = Leads ss f h.0 true h.1 × IsLaid pages × (length pages ≤ most_pages)

-- free, or a data page of f
abbrev pub MayPage : Fid → Sight → Type 0
MayPage f hidden = ⊥
MayPage f free = Unit {0}
MayPage f stray = ⊥
MayPage f (leads g r l) = ⊥
MayPage f (holds g n b) = g ≡ f

-- it is free, or of f
pub may_page : (f : Fid) (s : Sight) → MayPage f s → MayBe f s
may_page f hidden m = m
may_page f free m = m
may_page f stray m = m
may_page f (leads g r l) m = absurd m
may_page f (holds g n b) m = m

-- it isn't a leader
page_leads_not : (f : Fid) (s : Sight) → MayPage f s → (r : Bool) (k : Leader) → s ≡ leads f r k → ⊥
page_leads_not f hidden m r k e = m
page_leads_not f free m r k e = absurd cc
page_leads_not f stray m r k e = m
page_leads_not f (leads g q l) m r k e = m
page_leads_not f (holds g n b) m r k e = absurd cc

-- it is good
pub page_good : (f : Fid) (s : Sight) → MayPage f s → good_one s ≡ 1
page_good f hidden m = absurd m
page_good f free m = refl
page_good f stray m = refl
page_good f (leads g q l) m = refl
page_good f (holds g n b) m = refl

-- one page that isn't read comes or goes
module _ (shape : Shape) (ss : List Sight) (f : Fid) (pages : List PageAt) (lo hi : ℕ) (loose more : List PageAt) (i : ℕ) (s : Sight)
    (c : HasPages ss f pages lo loose) (d : HasPages (set ss i s) f pages hi more) (apart : length pages ≤ lo) (far : length pages ≤ hi) (was : MayPage f (get_or ss i hidden)) (now : MayPage f s) where
  -- every other file stays
  pub page_same : SameBut f ss (set ss i s)
  page_same = same_set f ss i s (may_page f (get_or ss i hidden) was) (may_page f s now)

  -- the file stands as before
  pub page_stands : (who : Option (ℕ × Leader)) → FileStands ss f pages who → FileStands (set ss i s) f pages who
  page_stands (Some x) h = (leads_set ss f x.0 true x.1 i s h.0 (within ss i (page_good f (get_or ss i hidden) was)) (page_leads_not f (get_or ss i hidden) was) (page_leads_not f s now), h.1, h.2)
  page_stands None h = (headless_set ss f i s h.0 (within ss i (page_good f (get_or ss i hidden) was)) (page_leads_not f s now), h.1)

  -- and nothing that is read changes
  pub page_quiet : (who : Option (ℕ × Leader)) → FileStands ss f pages who → read_sights shape (set ss i s) ≡ read_sights shape ss
  page_quiet (Some x) h = read_alike shape ss (set ss i s) f page_same
      (leader_is (set ss i s) f x.0 true x.1 (leads_set ss f x.0 true x.1 i s h.0 (within ss i (page_good f (get_or ss i hidden) was)) (page_leads_not f (get_or ss i hidden) was) (page_leads_not f s now)) ∙ sym (leader_is ss f x.0 true x.1 h.0))
      (λ live. bytes_laid (set ss i s) f pages hi more d far h.1 h.2 ∙ sym (bytes_laid ss f pages lo loose c apart h.1 h.2))
  page_quiet None h =
      let none : leader (set ss i s) f ≡ None = leader_none_is (set ss i s) f (headless_set ss f i s h.0 (within ss i (page_good f (get_or ss i hidden) was)) (page_leads_not f s now)) in
      read_alike shape ss (set ss i s) f page_same (none ∙ sym (leader_none_is ss f h.0)) (λ live. absurd (elim live [ inl x ↦ x none | inr e ↦ h.1 e ]))

-- ---- a list of claims
pub record Claimed (p q : Pack) (f : Fid) (pages : List PageAt) (who : Option (ℕ × Leader)) (loose : List PageAt) (m : Model) (es : List Event) (os : List Move) : Type 0 where
  pub obeys : Obeys reading m p es os
  pub same : SameBut f (sights p) (sights q)
  pub stands : FileStands (sights q) f pages who
  pub carries : HasPages (sights q) f pages (length pages) loose
  pub apart : (i : ℕ) → (get_or (sights p) i hidden ≡ free → ⊥) → (sector_at q i ≡ sector_at p i) × (get_or (sights q) i hidden ≡ get_or (sights p) i hidden)
  pub still : steps reading m os ≡ m

-- they are claimed one after another
pub claims_go : (cs : List Claim) (p : Pack) (f : Fid) (pages : List PageAt) (who : Option (ℕ × Leader)) (loose : List PageAt) (k : ℕ) (m : Model) → k ≡ length pages + length loose → Claimable (sights p) f k cs
    → FileStands (sights p) f pages who → HasPages (sights p) f pages (length pages) loose → read_as p ≡ m → Claimed p (after p (claims_writes cs)) f pages who (loose ++ all_claimed cs) m (claims_writes cs) (claims_moves cs)
claims_go [] p f pages who loose k m number able st c was = record {
  obeys = rest was;
  same = same_refl f (sights p);
  stands = st;
  carries = subst (λ x. HasPages (sights p) f pages (length pages) x) (sym (append-nil loose)) c;
  apart = λ i e. (refl, refl);
  still = refl;
}
claims_go (a ∷ cs) p f pages who loose k m number able st c was =
    let ss : List Sight = sights p in
    let b : List ℕ = take (word a.label 3) (bytes_of a.value) in
    let s : Sight = holds f k b in
    let us : List Sight = set ss a.at s in
    let p1 : Pack = after p (claim_writes a.at a.label a.value) in
    let e = page_label (tag a.label) a.value f k (word a.label 3) able.1 able.2 in
    let shows : sights p1 ≡ us = claim_shows p a.at able.0 a.label a.value s e in
    let d : HasPages us f pages (length pages) (loose ++ claimed a ∷ []) = carries_claim ss f pages (length pages) loose c a.at k b able.0 number in
    let may : MayPage f (get_or ss a.at hidden) = subst (MayPage f) (sym able.0) tt in
    let near : length pages ≤ length pages = omega arith in
    let still : read_sights p.shape us ≡ m = page_quiet p.shape ss f pages (length pages) (length pages) loose (loose ++ claimed a ∷ []) a.at s c d near near may refl who st ∙ was in
    let st1 : FileStands us f pages who = page_stands p.shape ss f pages (length pages) (length pages) loose (loose ++ claimed a ∷ []) a.at s c d near near may refl who st in
    let number1 : suc k ≡ length pages + length (loose ++ claimed a ∷ []) = let z : length (loose ++ claimed a ∷ []) ≡ length loose + 1 = length-append loose (claimed a ∷ []) in omega arith in
    let r = claims_go cs p1 f pages who (loose ++ claimed a ∷ []) (suc k) m number1 (subst (λ x. Claimable x f (suc k) cs) (sym shows) able.3)
    (subst (λ x. FileStands x f pages who) (sym shows) st1) (subst (λ x. HasPages x f pages (length pages) (loose ++ claimed a ∷ [])) (sym shows) d) (ap (read_sights p.shape) shows ∙ still) in
    let other : (i : ℕ) → (get_or ss i hidden ≡ free → ⊥) → i ≢ a.at = λ i never z. never (ap (λ n. get_or ss n hidden) z ∙ able.0) in
    let stay : (i : ℕ) → (get_or ss i hidden ≡ free → ⊥) → get_or (sights p1) i hidden ≡ get_or ss i hidden = λ i never. ap (λ x. get_or x i hidden) shows ∙ get_or-set_other ss a.at i s hidden (other i never) in
    record {
      obeys = obeys_then reading (claim_obeys p a.at able.0 a.label a.value s e m quiet was tt still) r.obeys;
      same = but_trans f ss (sights p1) (sights (after p1 (claims_writes cs))) (subst (SameBut f ss) (sym shows) (page_same p.shape ss f pages (length pages) (length pages) loose (loose ++ claimed a ∷ []) a.at s c d near near may refl)) r.same;
      stands = r.stands;
      carries = subst (λ x. HasPages (sights (after p1 (claims_writes cs))) f pages (length pages) x) (append_assoc loose (claimed a ∷ []) (all_claimed cs)) r.carries;
      apart = λ i never.
          let t = r.apart i (λ z. never (sym (stay i never) ∙ z)) in
          (t.0 ∙ claim_apart p a.at i a.label a.value (other i never), t.1 ∙ stay i never);
      still = r.still;
    }

-- ---- a list of releases
pub record Released (p q : Pack) (f : Fid) (pages : List PageAt) (who : Option (ℕ × Leader)) (m : Model) (es : List Event) (os : List Move) : Type 0 where
  pub obeys : Obeys reading m p es os
  pub same : SameBut f (sights p) (sights q)
  pub stands : FileStands (sights q) f pages who
  pub carries : HasPages (sights q) f pages 0 []
  pub apart : (i : ℕ) → (MayBe f (get_or (sights p) i hidden) → ⊥) → sector_at q i ≡ sector_at p i
  pub still : steps reading m os ≡ m

-- they are released one after another
pub releases_go : (cs : List PageAt) (p : Pack) (f : Fid) (pages : List PageAt) (who : Option (ℕ × Leader)) (lo : ℕ) (m : Model) → length pages ≤ lo
    → FileStands (sights p) f pages who → HasPages (sights p) f pages lo cs → read_as p ≡ m → Released p (after p (releases_writes (sectors_of cs))) f pages who m (releases_writes (sectors_of cs)) (releases_moves cs)
releases_go [] p f pages who lo m apart st c was = record {
  obeys = rest was;
  same = same_refl f (sights p);
  stands = st;
  carries = record { seated = c.seated; waiting = tt; only = λ i m d e. elim (c.only i m d e) [ inl s ↦ inl s | inr s ↦ absurd s ] };
  apart = λ i never. refl;
  still = refl;
}
releases_go (a ∷ cs) p f pages who lo m apart st c was =
    let ss : List Sight = sights p in
    let us : List Sight = set ss a.0 free in
    let p1 : Pack = after p (release_writes a.0) in
    let is = c.waiting.0 in
    let good : good_one (get_or ss a.0 hidden) ≡ 1 = ap good_one is in
    let shows : sights p1 ≡ us = release_shows p a.0 good (ones 8) (ones 256) ones_free in
    let d : HasPages us f pages (suc lo) cs = carries_release ss f pages lo a cs c apart in
    let may : MayPage f (get_or ss a.0 hidden) = subst (MayPage f) (sym is) refl in
    let far : length pages ≤ suc lo = omega arith in
    let still : read_sights p.shape us ≡ m = page_quiet p.shape ss f pages lo (suc lo) (a ∷ cs) cs a.0 free c d apart far may tt who st ∙ was in
    let st1 : FileStands us f pages who = page_stands p.shape ss f pages lo (suc lo) (a ∷ cs) cs a.0 free c d apart far may tt who st in
    let r = releases_go cs p1 f pages who (suc lo) m far (subst (λ x. FileStands x f pages who) (sym shows) st1) (subst (λ x. HasPages x f pages (suc lo) cs) (sym shows) d) (ap (read_sights p.shape) shows ∙ still) in
    record {
      obeys = obeys_then reading (release_obeys p a.0 good m quiet (ones 8) (ones 256) ones_free was tt still) r.obeys;
      same = but_trans f ss (sights p1) (sights (after p1 (releases_writes (sectors_of cs)))) (subst (SameBut f ss) (sym shows) (page_same p.shape ss f pages lo (suc lo) (a ∷ cs) cs a.0 free c d apart far may tt)) r.same;
      stands = r.stands;
      carries = r.carries;
      apart = λ i never.
          let other : i ≢ a.0 = λ z. never (subst (MayBe f) (sym (ap (λ n. get_or ss n hidden) z ∙ is)) refl) in
          let stay : get_or (sights p1) i hidden ≡ get_or ss i hidden = ap (λ x. get_or x i hidden) shows ∙ get_or-set_other ss a.0 i free hidden other in
          r.apart i (λ m. never (subst (MayBe f) stay m)) ∙ release_apart p a.0 i other;
      still = r.still;
    }
