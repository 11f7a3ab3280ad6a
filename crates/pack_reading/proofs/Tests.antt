-- Tests of pages, and what a map has once a new key is in it.
use Rattle.std.proofs.Common.{◌≡◌, ℕ, Bool, true, false, cond, Option, Some, None, refl, ap, ◌∙◌, arith}
use Rattle.std.specs.Prelude.{◌&&◌, ◌==◌}
use Rattle.std.specs.Ordering.{nat_cmp, is_eq}
use Rattle.std.specs.Option.{option_or, is_some}
use Rattle.std.specs.BTreeMap.{BTreeMap, get}
use Rattle.std.proofs.lemmas.Bool.{and_parts, eqb-true}
use Rattle.std.proofs.lemmas.Bool.Decides.{nat_tests}
use Rattle.alto_words.specs.declared.fid.Fid.{Fid}
use Rattle.alto_words.specs.Fid.{fid_cmp, is_fid}
use Rattle.disk_records.specs.declared.records.Page.{Page}
use Rattle.label_sweep.specs.pack_laws.proofs.Keys.{is_fid-sym, same_fid}
use Rattle.kept_names.proofs.Tests.{tie_then}
use Rattle.pack_reading.specs.Kept.{page_cmp}

-- ---- pages that tie
tie_numbers : (a b : ℕ) → is_eq (nat_cmp a b) ≡ (b == a)
tie_numbers a b = grind (arith, nat_tests)

pub tie_pages : (p : Page) (f : Fid) (n : ℕ) → is_eq (page_cmp p (record { fid = f; number = n })) ≡ (is_fid f p.fid && n == p.number)
tie_pages p f n = tie_then (fid_cmp p.fid f) (nat_cmp p.number n) ∙ (λ i. is_fid-sym p.fid f i && tie_numbers p.number n i)

-- ---- what a map has once a new key is in it
new_key : {X : Type 0} (o : Option X) (b c : Bool) (x : X) → b ≡ c → (c ≡ true → is_some o ≡ false) → cond b (Some x) o ≡ option_or o (cond c (Some x) None)
new_key None true true x e none = refl
new_key (Some y) true true x e none = absurd (let h = none refl in cc)
new_key o true false x e none = cc
new_key o false true x e none = cc
new_key None false false x e none = refl
new_key (Some y) false false x e none = refl

pub fid_kept : {X : Type 0} (old new : BTreeMap Fid X) (f : Fid) (x : X) → is_some (get fid_cmp old f) ≡ false → ((q : Fid) → get fid_cmp new q ≡ cond (is_eq (fid_cmp f q)) (Some x) (get fid_cmp old q))
    → (q : Fid) → get fid_cmp new q ≡ option_or (get fid_cmp old q) (cond (is_fid q f) (Some x) None)
fid_kept old new f x none is q =
    is q ∙ new_key (get fid_cmp old q) (is_eq (fid_cmp f q)) (is_fid q f) x (is_fid-sym f q) (λ tie. ap (λ k. is_some (get fid_cmp old k)) (same_fid q f tie) ∙ none)

pub page_kept_new : {X : Type 0} (old new : BTreeMap Page X) (p : Page) (x : X) → is_some (get page_cmp old p) ≡ false → ((q : Page) → get page_cmp new q ≡ cond (is_eq (page_cmp p q)) (Some x) (get page_cmp old q))
    → (f : Fid) (n : ℕ) → get page_cmp new (record { fid = f; number = n }) ≡ option_or (get page_cmp old (record { fid = f; number = n })) (cond (is_fid f p.fid && n == p.number) (Some x) None)
page_kept_new old new p x none is f n =
    is (record { fid = f; number = n })
    ∙ new_key (get page_cmp old (record { fid = f; number = n })) (is_eq (page_cmp p (record { fid = f; number = n }))) (is_fid f p.fid && n == p.number) x (tie_pages p f n) (λ tie.
    let parts = and_parts (is_fid f p.fid) (n == p.number) tie in
    let file = same_fid f p.fid parts.0 in
    let number = eqb-true n p.number parts.1 in
    (λ i. is_some (get page_cmp old (record { fid = file i; number = number i }))) ∙ none)
