-- The bytes of a file, joined page by page.
use Rattle.std.proofs.Common.{◌≡◌, ℕ, zero, suc, ◌+◌, ◌<◌, ◌≤◌, Bool, true, false, List, [], ◌∷◌, ◌++◌, length, Option, Some, None, refl, sym, ◌∙◌, ap, arith, add-one}
use Rattle.std.specs.Prelude.{◌&&◌, ◌==◌}
use Rattle.std.specs.declared.cmp.Ordering.TheVariants.{Less}
use Rattle.std.specs.Ordering.{is_eq}
use Rattle.std.specs.List.{AllByRecursion}
use Rattle.std.specs.List.Sorted.{IsStrictlySortedBy}
use Rattle.std.specs.Map.{keys_of}
use Rattle.std.specs.BTreeMap.{get}
use Rattle.std.proofs.lemmas.Bool.{lt-ltb, le-ltb}
use Rattle.std.proofs.lemmas.Bool.Decides.{nat_tests}
use Rattle.std.proofs.lemmas.List.{append_assoc, append-nil}
use Rattle.alto_words.specs.declared.fid.Fid.{Fid}
use Rattle.alto_words.specs.Fid.{fid_cmp, is_fid}
use Rattle.disk_records.specs.declared.records.Page.{Page}
use Rattle.pack_model.specs.reading.Files.{joined, most_pages}
use Rattle.label_sweep.specs.pack_laws.proofs.Keys.{is_fid-sym}
use Rattle.pack_reading.specs.declared.swept.Pages.{Pages}
use Rattle.pack_reading.specs.Kept.{page_cmp, page_kept, bytes_kept, KeepsOthers}
use Rattle.pack_reading.proofs.Tests.{tie_pages}

-- ---- the first of some pages
joined_none : (k : ℕ) (pages : ℕ → Option (List ℕ)) → pages 0 ≡ None → joined (suc k) pages ≡ []
unfolding joined
joined_none k pages e = rw (e, joined) refl

joined_last : (k : ℕ) (pages : ℕ → Option (List ℕ)) (bytes : List ℕ) → pages 0 ≡ Some bytes → length bytes < 512 → joined (suc k) pages ≡ bytes
unfolding joined
joined_last k pages bytes e less = rw (e, joined, lt-ltb (length bytes) 512 less) refl

joined_more : (k : ℕ) (pages : ℕ → Option (List ℕ)) (bytes : List ℕ) → pages 0 ≡ Some bytes → 512 ≤ length bytes → joined (suc k) pages ≡ bytes ++ joined k (λ n. pages (suc n))
unfolding joined
joined_more k pages bytes e full = rw (e, joined, le-ltb (length bytes) 512 full) refl

-- ---- some pages are joined
-- so many pages are joined, all of them full, and these are their bytes
pub record Joining (pages : ℕ → Option (List ℕ)) (all done : ℕ) (bytes : List ℕ) : Type 0 where
  pub left : ℕ
  pub total : done + left ≡ all
  pub so_far : bytes ++ joined left (λ n. pages (done + n)) ≡ joined all pages

pub joining_none : (pages : ℕ → Option (List ℕ)) (all : ℕ) → Joining pages all 0 []
joining_none pages all =
    let zeros : (n : ℕ) → 0 + n ≡ n = λ n. omega arith in
    record { left = all; total = zeros all; so_far = λ i. joined all (λ n. pages (zeros n i)) }

module _ (pages : ℕ → Option (List ℕ)) (all done : ℕ) (bytes : List ℕ) (c : Joining pages all done bytes) where
  here : (o : Option (List ℕ)) → pages done ≡ o → pages (done + 0) ≡ o
  here o e = let z : done + 0 ≡ done = omega arith in ap pages z ∙ e

  -- the next page is missing
  pub joining_missing : done < all → pages done ≡ None → bytes ≡ joined all pages
  joining_missing more e = by_left c.left c.total c.so_far
    where
      by_left : (left : ℕ) → done + left ≡ all → bytes ++ joined left (λ n. pages (done + n)) ≡ joined all pages → bytes ≡ joined all pages
      by_left zero total so_far = absurd (omega arith)
      by_left (suc k) total so_far = sym (append-nil bytes) ∙ ap (λ (l : List ℕ). bytes ++ l) (sym (joined_none k (λ n. pages (done + n)) (here None e))) ∙ so_far

  -- the next page isn't full
  pub joining_last : (next : List ℕ) → done < all → pages done ≡ Some next → length next < 512 → bytes ++ next ≡ joined all pages
  joining_last next more e less = by_left c.left c.total c.so_far
    where
      by_left : (left : ℕ) → done + left ≡ all → bytes ++ joined left (λ n. pages (done + n)) ≡ joined all pages → bytes ++ next ≡ joined all pages
      by_left zero total so_far = absurd (omega arith)
      by_left (suc k) total so_far = ap (λ (l : List ℕ). bytes ++ l) (sym (joined_last k (λ n. pages (done + n)) next (here _ e) less)) ∙ so_far

  -- the next page is full
  pub joining_more : (next : List ℕ) → done < all → pages done ≡ Some next → 512 ≤ length next → Joining pages all (done + 1) (bytes ++ next)
  joining_more next more e full = by_left c.left c.total c.so_far
    where
      by_left : (left : ℕ) → done + left ≡ all → bytes ++ joined left (λ n. pages (done + n)) ≡ joined all pages → Joining pages all (done + 1) (bytes ++ next)
      by_left zero total so_far = absurd (omega arith)
      by_left (suc k) total so_far =
          let later : (n : ℕ) → done + suc n ≡ done + 1 + n = λ n. omega arith in
          let moved : joined k (λ n. pages (done + suc n)) ≡ joined k (λ n. pages (done + 1 + n)) = λ i. joined k (λ n. pages (later n i)) in
          record {
            left = k;
            total = omega arith;
            so_far =
                append_assoc bytes next (joined k (λ n. pages (done + 1 + n)))
                ∙ ap (λ (l : List ℕ). bytes ++ (next ++ l)) (sym moved)
                ∙ ap (λ (l : List ℕ). bytes ++ l) (sym (joined_more k (λ n. pages (done + n)) next (here _ e) full))
                ∙ so_far;
          }

-- all pages are joined
pub joining_all : (pages : ℕ → Option (List ℕ)) (all done : ℕ) (bytes : List ℕ) → Joining pages all done bytes → all ≤ done → bytes ≡ joined all pages
unfolding joined
joining_all pages all done bytes c end =
    let none : c.left ≡ 0 = omega (arith, c.total) in
    sym (append-nil bytes) ∙ ap (λ (k : ℕ). bytes ++ joined k (λ n. pages (done + n))) (sym none) ∙ c.so_far

-- ---- what is kept
pub kept_here : (pages : Pages) (f : Fid) (n : ℕ) (o : Option (List ℕ)) → o ≡ get page_cmp pages.kept (record { fid = f; number = n + 1 }) → page_kept pages f n ≡ o
kept_here pages f n o e = ap (λ (k : ℕ). get page_cmp pages.kept (record { fid = f; number = k })) (sym (add-one n)) ∙ sym e

pub all_pages : 65535 ≡ most_pages
unfolding most_pages
all_pages = refl

pub kept_all : (pages : Pages) (f : Fid) → joined 65535 (page_kept pages f) ≡ bytes_kept pages f
kept_all pages f = ap (λ (k : ℕ). joined k (page_kept pages f)) all_pages

-- ---- pages are taken out
no_right : (a b : Bool) → b ≡ false → (a && b) ≡ false
no_right true b e = e
no_right false b e = refl

-- one page is: all others stay
module _ (old new : Pages) (p : Page) (stays : (q : Page) → is_eq (page_cmp p q) ≡ false → get page_cmp new.kept q ≡ get page_cmp old.kept q) where
  pub others_left : KeepsOthers p.fid old new
  others_left f apart n = stays (record { fid = f; number = suc n }) (tie_pages p f (suc n) ∙ ap (λ b. b && suc n == p.number) apart)

  pub pages_ahead : (f : Fid) (n : ℕ) → (suc n ≡ p.number → ⊥) → page_kept new f n ≡ page_kept old f n
  pages_ahead f n other = stays (record { fid = f; number = suc n }) (tie_pages p f (suc n) ∙ no_right (is_fid f p.fid) (suc n == p.number) (grind (arith, nat_tests, other)))

-- the pages of these files are all left, and each file stands among them once
pub record AreLeft {X : Type 0} (old now : Pages) (es : List (Fid × X)) : Type 0 where
  pub ordered : IsStrictlySortedBy fid_cmp (keys_of es)
  pub pages : AllByRecursion (λ f. (n : ℕ) → page_kept now f n ≡ page_kept old f n) (keys_of es)

all_left : (pages : Pages) (ks : List Fid) → AllByRecursion (λ f. (n : ℕ) → page_kept pages f n ≡ page_kept pages f n) ks
all_left pages [] = tt
all_left pages (k ∷ ks) = (λ n. refl, all_left pages ks)

-- those of all of them at first
pub left_first : {X : Type 0} (pages : Pages) (es : List (Fid × X)) → IsStrictlySortedBy fid_cmp (keys_of es) → AreLeft pages pages es
left_first pages es ordered = record { ordered = ordered; pages = all_left pages (keys_of es) }

below_apart : (k f : Fid) → fid_cmp k f ≡ Less → is_fid f k ≡ false
below_apart k f less = is_fid-sym f k ∙ ap is_eq less

left_after : (old now next : Pages) (k : Fid) (ks : List Fid) → KeepsOthers k now next → AllByRecursion (λ f. fid_cmp k f ≡ Less) ks
    → AllByRecursion (λ f. (n : ℕ) → page_kept now f n ≡ page_kept old f n) ks → AllByRecursion (λ f. (n : ℕ) → page_kept next f n ≡ page_kept old f n) ks
left_after old now next k [] others above left = tt
left_after old now next k (f ∷ ks) others above left = (λ n. others f (below_apart k f above.0) n ∙ left.0 n, left_after old now next k ks others above.1 left.1)

-- the bytes of the first are those that it had
pub bytes_left : {X : Type 0} (old now : Pages) (e : Fid × X) (es : List (Fid × X)) → AreLeft old now (e ∷ es) → bytes_kept now e.0 ≡ bytes_kept old e.0
bytes_left old now e es left = ap (joined most_pages) (λ i n. left.pages.0 n i)

-- and then those after it are left
pub left_more : {X : Type 0} (old now next : Pages) (e : Fid × X) (es : List (Fid × X)) → AreLeft old now (e ∷ es) → KeepsOthers e.0 now next → AreLeft old next es
unfolding IsStrictlySortedBy
left_more old now next e es left others = record {
  ordered = left.ordered.1;
  pages = left_after old now next e.0 (keys_of es) others left.ordered.0 left.pages.1;
}
