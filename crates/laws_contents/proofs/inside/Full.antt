-- Full pages before a page, and how they split a file's bytes.
use Rattle.std.proofs.Common.{None, Option, Some, [], ap, arith, length, refl, suc, sym, true, zero, ℕ, ◌<◌, ◌∙◌, ◌≡◌, Bool, List, cond, inl, inr, not, ltb-false, append-nil, false, subst, ◌++◌, ◌*◌, ◌-◌}
use Rattle.std.proofs.lemmas.Bool.{not-true, cases_lt}
use Rattle.std.specs.Prelude.{nat_lt}
use Rattle.laws_record.specs.alto_words.specs.declared.fid.Fid.{Fid}
use Rattle.laws_record.specs.disk_records.specs.Packs.{Pack}
use Rattle.laws_record.specs.pack_model.specs.reading.Files.{file_bytes, joined, most_pages, page, place}
use Rattle.laws_record.specs.pack_model.specs.reading.Sights.{sights}
use Rattle.laws_record.specs.pack_laws.proofs.Joining.{Reaches, continue, front, is_full, joined-suc, joined-zero, joined_at, length-front, most_is, skip}
use Rattle.laws_record.specs.pack_laws.proofs.Placing.{place_of_page, short_pages}
use Rattle.laws_contents.proofs.inside.Counted.{labels_count, page_numbers_are_words, pages_are_their_counted_bytes}
use Rattle.laws_contents.proofs.inside.Parts.{Parts}
use Rattle.laws_contents.specs.PageLaws.{FullBefore, FullBeforeTheNext, IsFullPage, NoneBeforeTheFirst, bytes_at}

-- ---- full pages
pub none_before_the_first : NoneBeforeTheFirst
none_before_the_first p f = record { each = λ j l. absurd (omega arith) }

pub full_before_the_next : FullBeforeTheNext
full_before_the_next p f k h full = record {
  each = λ j l. elim (cases_lt j k) as (λ x. IsFullPage p f j) [ inl below ↦ h.each j below | inr past ↦ let e : k ≡ j = omega arith in subst (IsFullPage p f) e full ];
}

-- they are full in the definition of a file's bytes
pub reaches : (p : Pack) (f : Fid) (k : ℕ) → FullBefore p f k → Reaches (page (sights p) f) k
reaches p f k h = record {
  full = λ j l.
      let x = h.each j l in
      ap is_full ((pages_are_their_counted_bytes p f j).there x.at x.sector) ∙ ap (λ n. not (nat_lt n 512)) x.full;
}

-- and the other way
is_full_here : (p : Pack) (f : Fid) (j : ℕ) (r : Option (List ℕ)) → page (sights p) f j ≡ r → is_full r ≡ true → IsFullPage p f j
is_full_here p f j None e full = cc
is_full_here p f j (Some bytes) e full =
    let x = place_of_page (sights p) f j bytes e in
    let same : Some (bytes_at p x.0) ≡ Some bytes = sym ((pages_are_their_counted_bytes p f j).there x.0 x.1) ∙ e in
    let is : bytes_at p x.0 ≡ bytes = cc in
    let size = ap length is in
    let most = (labels_count p f j x.0 x.1).most in
    let least = ltb-false (length bytes) 512 (not-true (nat_lt (length bytes) 512) full) in
    record { at = x.0; sector = x.1; full = omega arith }

pub full_before : (p : Pack) (f : Fid) (k : ℕ) → Reaches (page (sights p) f) k → FullBefore p f k
full_before p f k h = record { each = λ j l. is_full_here p f j (page (sights p) f j) refl (h.full j l) }

-- ---- a file's bytes around one of its pages
pub record Split (p : Pack) (f : Fid) (k at : ℕ) : Type 0 where
  pub parts : Parts (512 * k) (file_bytes (sights p) f) (bytes_at p at)
  pub short : length (bytes_at p at) < 512 → parts.rest ≡ []
  pub last : place (sights p) f (suc (suc k)) ≡ None → parts.rest ≡ []

-- the first page that is passed over
skip_here : (k : ℕ) (pages : ℕ → Option (List ℕ)) → skip k pages 0 ≡ pages k
skip_here zero pages = refl
skip_here (suc k) pages = skip_here k (λ n. pages (suc n))

-- pages of which the first is missing
pub joined_none : (fuel : ℕ) (pages : ℕ → Option (List ℕ)) → pages 0 ≡ None → joined fuel pages ≡ []
joined_none zero pages e = joined-zero pages
joined_none (suc fuel) pages e = joined-suc fuel pages ∙ ap (λ r. continue r (joined fuel (λ n. pages (suc n)))) e

-- what follows a page
after_page : (b : Bool) (bytes rest : List ℕ) → cond b bytes (bytes ++ rest) ≡ bytes ++ cond b [] rest
after_page true bytes rest = sym (append-nil bytes)
after_page false bytes rest = refl

-- nothing, after one that isn't full
none_after : (b : Bool) (n : ℕ) (rest : List ℕ) → nat_lt n 512 ≡ b → n < 512 → cond b [] rest ≡ []
none_after true n rest e l = refl
none_after false n rest e l = absurd (let past = ltb-false n 512 e in omega arith)

pub split_at : (p : Pack) (f : Fid) (k at : ℕ) → FullBefore p f k → place (sights p) f (suc k) ≡ Some at → Split p f k at
unfolding file_bytes
split_at p f k at h e =
    let pages : ℕ → Option (List ℕ) = page (sights p) f in
    let word = page_numbers_are_words p f (suc k) at e in
    let below : k < most_pages = rw most_is (omega arith) in
    let r : Reaches pages k = reaches p f k h in
    let b : Bool = nat_lt (length (bytes_at p at)) 512 in
    let rest : List ℕ = joined (most_pages - suc k) (skip (suc k) pages) in
    record {
      parts = record {
        first = front k pages;
        rest = cond b [] rest;
        all_is = joined_at k most_pages pages below r ∙ ap (λ x. front k pages ++ continue x rest) ((pages_are_their_counted_bytes p f k).there at e) ∙ ap (λ x. front k pages ++ x) (after_page b (bytes_at p at) rest);
        size = length-front k pages (short_pages p f) r;
      };
      short = λ l. none_after b (length (bytes_at p at)) rest refl l;
      last = λ none. ap (cond b []) (joined_none (most_pages - suc k) (skip (suc k) pages) (skip_here (suc k) pages ∙ (pages_are_their_counted_bytes p f (suc k)).missing none)) ∙ nothing b;
    }
  where
    nothing : (b : Bool) → cond {A = List ℕ} b [] [] ≡ []
    nothing true = refl
    nothing false = refl
