-- Free sectors get the pages of a file, one after another.
use Rattle.std.proofs.Common.{List, None, Some, [], ap, arith, cond, get_or, inl, inr, length, refl, set, subst, suc, sym, take, true, ℕ, ◌+◌, ◌<◌, ◌∙◌, ◌∷◌, ◌≡◌, ◌≢◌, ◌⊎◌}
use Rattle.std.proofs.lemmas.List.{get_or-set_other, get_or-set_same}
use Rattle.laws_contents.specs.alto_words.specs.declared.fid.Fid.{Fid}
use Rattle.laws_contents.specs.disk_records.specs.Commands.{claim_writes}
use Rattle.laws_contents.specs.disk_records.specs.Labels.{page_of, tag}
use Rattle.laws_contents.specs.disk_records.specs.Packs.{Pack, after, carried, is_usable, sector_at}
use Rattle.laws_contents.specs.disk_records.specs.Words.{word}
use Rattle.laws_contents.specs.disk_records.specs.declared.records.Page.{Page}
use Rattle.laws_contents.specs.pack_model.specs.reading.Bytes.{bytes_of}
use Rattle.laws_contents.specs.pack_model.specs.operations.Commands.{Claim, Claimable, claims_writes}
use Rattle.laws_contents.specs.pack_model.specs.reading.Model.{good_one}
use Rattle.laws_contents.specs.pack_model.specs.operations.PageWords.{page_number}
use Rattle.laws_contents.specs.pack_model.specs.reading.Sights.{Sight, sights}
use Rattle.laws_contents.specs.pack_model.specs.reading.Sights.Sight.{free, hidden, holds}
use Rattle.laws_operation.proofs.Commanding.{claim_apart, claim_shows}
use Rattle.laws_operation.proofs.Lying.{within}
use Rattle.laws_operation.proofs.Showing.{page_label, usable_is}
use Rattle.laws_operation.proofs.inside.links.Claims.{claim_carried, claim_concern, claim_here, claim_label, free_none}
use Rattle.laws_operation.proofs.inside.links.Framing.{AllConcern, concern_join}
use Rattle.laws_operation.proofs.inside.links.Records.{carried_same, names_one}

-- ---- the first of them
module _ (p : Pack) (f : Fid) (k : ℕ) (c : Claim) (cs : List Claim) (able : Claimable (sights p) f k (c ∷ cs)) where
  -- its label names the page
  pub claim_names : page_of c.label ≡ Some (page_number f (suc k))
  claim_names = ap (λ b. cond b (Some (page_number (tag c.label).fid (tag c.label).page)) None) able.2 ∙ (λ j. Some (page_number (able.1 j).fid (able.1 j).page))

  -- its sector is usable
  claim_usable : is_usable p.shape c.at (sector_at p c.at) ≡ true
  claim_usable = usable_is p c.at (ap good_one able.0)

  -- what is shown then
  claimed_sights : sights (after p (claim_writes c.at c.label c.value)) ≡ set (sights p) c.at (holds f k (take (word c.label 3) (bytes_of c.value)))
  claimed_sights = claim_shows p c.at able.0 c.label c.value (holds f k (take (word c.label 3) (bytes_of c.value))) (page_label (tag c.label) c.value f k (word c.label 3) able.1 able.2)

  -- the others can be claimed then
  pub next_able : Claimable (sights (after p (claim_writes c.at c.label c.value))) f (suc k) cs
  next_able = subst (λ ss. Claimable ss f (suc k) cs) (sym claimed_sights) able.3

  -- its sector isn't free then
  taken : get_or (sights (after p (claim_writes c.at c.label c.value))) c.at hidden ≡ free → ⊥
  taken e =
      let s : Sight = holds f k (take (word c.label 3) (bytes_of c.value)) in
      let here : get_or (sights (after p (claim_writes c.at c.label c.value))) c.at hidden ≡ s = ap (λ ss. get_or ss c.at hidden) claimed_sights ∙ get_or-set_same (sights p) c.at s hidden (within (sights p) c.at (ap good_one able.0)) in
      let clash : s ≡ free = sym here ∙ e in
      absurd cc

  -- a sector that isn't free is another one
  claim_other : (i : ℕ) → (get_or (sights p) i hidden ≡ free → ⊥) → i ≢ c.at
  claim_other i never e = never (ap (λ j. get_or (sights p) j hidden) e ∙ able.0)

  -- and isn't free still
  still_taken : (i : ℕ) → (get_or (sights p) i hidden ≡ free → ⊥) → get_or (sights (after p (claim_writes c.at c.label c.value))) i hidden ≡ free → ⊥
  still_taken i never e = never (sym (ap (λ ss. get_or ss i hidden) claimed_sights ∙ get_or-set_other (sights p) c.at i (holds f k (take (word c.label 3) (bytes_of c.value))) hidden (claim_other i never)) ∙ e)

-- ---- all of them
-- sectors that aren't free stay
pub claims_apart : (cs : List Claim) (p : Pack) (f : Fid) (k : ℕ) → Claimable (sights p) f k cs → (i : ℕ) → (get_or (sights p) i hidden ≡ free → ⊥) → sector_at (after p (claims_writes cs)) i ≡ sector_at p i
claims_apart [] p f k able i never = refl
claims_apart (c ∷ cs) p f k able i never =
    claims_apart cs (after p (claim_writes c.at c.label c.value)) f (suc k) (next_able p f k c cs able) i (still_taken p f k c cs able i never)
    ∙ claim_apart p c.at i c.label c.value (claim_other p f k c cs able i never)

-- this sector is the one of the claim of this page, the first of which has number k + 1
abbrev pub IsClaim : Fid → ℕ → List Claim → ℕ → Page → Type 0
IsClaim f k [] i x = ⊥
IsClaim f k (c ∷ cs) i x = ((i ≡ c.at) × (page_of c.label ≡ Some x) × (x ≡ page_number f (suc k))) ⊎ IsClaim f (suc k) cs i x

-- what is carried then was, or is claimed
pub claims_carried : (cs : List Claim) (p : Pack) (f : Fid) (k : ℕ) → Claimable (sights p) f k cs → (i : ℕ) (x : Page) → carried (after p (claims_writes cs)) i ≡ Some x → carried p i ≡ Some x ⊎ IsClaim f k cs i x
claims_carried [] p f k able i x is = inl is
claims_carried (c ∷ cs) p f k able i x is =
    elim (claims_carried cs (after p (claim_writes c.at c.label c.value)) f (suc k) (next_able p f k c cs able) i x is) [
      | inl old ↦ elim (claim_carried p c.at c.label c.value i x old) [
        | inl new ↦ inr (inl (new.0, new.1, same new.1))
        | inr was ↦ inl was
      ]
      | inr later ↦ inr (inr later)
    ]
  where
    same : page_of c.label ≡ Some x → x ≡ page_number f (suc k)
    same e = let both : Some x ≡ Some (page_number f (suc k)) = sym e ∙ claim_names p f k c cs able in cc

-- the pages are carried then, and their labels stand
abbrev pub Rowed : Pack → Fid → ℕ → List Claim → Type 0
Rowed q f k [] = Unit {0}
Rowed q f k (c ∷ cs) = (carried q c.at ≡ Some (page_number f (suc k))) × ((sector_at q c.at).label ≡ c.label) × Rowed q f (suc k) cs

-- so it is once all are claimed
pub claims_rowed : (cs : List Claim) (p : Pack) (f : Fid) (k : ℕ) → Claimable (sights p) f k cs → Rowed (after p (claims_writes cs)) f k cs
claims_rowed [] p f k able = tt
claims_rowed (c ∷ cs) p f k able =
    let p1 : Pack = after p (claim_writes c.at c.label c.value) in
    let rest = next_able p f k c cs able in
    let same : sector_at (after p1 (claims_writes cs)) c.at ≡ sector_at p1 c.at = claims_apart cs p1 f (suc k) rest c.at (taken p f k c cs able) in
    let usable = claim_usable p f k c cs able in (
      carried_same p1 (after p1 (claims_writes cs)) c.at refl same ∙ claim_here p c.at c.label c.value (page_number f (suc k)) usable (claim_names p f k c cs able),
      ap (λ s. s.label) same ∙ claim_label p c.at c.label c.value usable,
      claims_rowed cs p1 f (suc k) rest,
    )

-- a page among those in a row stays where its sector does
pub rowed_same : (cs : List Claim) (p q : Pack) (f : Fid) (k : ℕ) → q.shape ≡ p.shape → ((i : ℕ) (x : Page) → carried p i ≡ Some x → k < x.number → sector_at q i ≡ sector_at p i) → Rowed p f k cs → Rowed q f k cs
rowed_same [] p q f k shape same h = tt
rowed_same (c ∷ cs) p q f k shape same h =
    let e : sector_at q c.at ≡ sector_at p c.at = same c.at (page_number f (suc k)) h.0 (omega arith) in
    (carried_same p q c.at shape e ∙ h.0, ap (λ s. s.label) e ∙ h.1, rowed_same cs p q f (suc k) shape (λ i x is l. same i x is (omega arith)) h.2)

-- they concern the file
pub claims_concern : (cs : List Claim) (p : Pack) (f : Fid) (k : ℕ) → Claimable (sights p) f k cs → AllConcern f p (claims_writes cs)
claims_concern [] p f k able = tt
claims_concern (c ∷ cs) p f k able = concern_join f p (claim_writes c.at c.label c.value) (claims_writes cs)
    (claim_concern p c.at c.label c.value f (names_one f (suc k) c.label (claim_names p f k c cs able)) (λ x is. absurd (free_none p c.at able.0 x is)))
    (claims_concern cs (after p (claim_writes c.at c.label c.value)) f (suc k) (next_able p f k c cs able))

-- their numbers are in a row
pub claim_range : (f : Fid) (k : ℕ) (cs : List Claim) (i m : ℕ) → IsClaim f k cs i (page_number f m) → (k < m) × (m < suc k + length cs)
claim_range f k [] i m h = absurd h
claim_range f k (c ∷ cs) i m h = elim h [
  | inl x ↦ let e : m ≡ suc k = ap (λ y. y.number) x.2 in (omega arith, omega arith)
  | inr later ↦ let r = claim_range f (suc k) cs i m later in let a = r.0 in let b = r.1 in (omega arith, omega arith)
]
