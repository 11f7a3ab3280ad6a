-- The length of a file, by how many bytes of each of its pages count.
use Rattle.std.proofs.Common.{◌≡◌, ℕ, ◌+◌, ◌<◌, ◌≤◌, List, [], ◌++◌, length, Option, Some, None, refl, sym, ◌∙◌, ap, subst, add-one}
use Rattle.std.specs.Option.{option_map}
use Rattle.std.specs.BTreeMap.{get}
use Rattle.std.proofs.lemmas.List.{length-append}
use Rattle.alto_words.specs.declared.fid.Fid.{Fid}
use Rattle.pack_model.specs.reading.Files.{joined, most_pages}
use Rattle.pack_reading.specs.declared.counts.Counts.{Counts}
use Rattle.pack_reading.specs.Kept.{page_cmp}
use Rattle.pack_reading.specs.Lengths.{count_kept}
use Rattle.pack_reading.proofs.Joins.{Joining, joining_none, joining_missing, joining_last, joining_more, joining_all, all_pages}

-- so many pages are full, and have so many bytes together
pub record Counting (pages : ℕ → Option (List ℕ)) (done total : ℕ) : Type 0 where
  pub bytes : List ℕ
  pub joining : Joining pages 65535 done bytes
  pub is : length bytes ≡ total

pub counting_none : (pages : ℕ → Option (List ℕ)) → Counting pages 0 0
counting_none pages = record { bytes = []; joining = joining_none pages 65535; is = refl }

-- a page that is counted, and one that isn't
pub record Counted (page : Option (List ℕ)) (count : ℕ) : Type 0 where
  pub bytes : List ℕ
  pub there : page ≡ Some bytes
  pub is : length bytes ≡ count

counted_page : (page : Option (List ℕ)) (count : ℕ) → Some count ≡ option_map length page → Counted page count
counted_page None count e = absurd (let h = e in cc)
counted_page (Some bytes) count e = record { bytes = bytes; there = refl; is = let h = e in cc }

missing_page : (page : Option (List ℕ)) → None ≡ option_map length page → page ≡ None
missing_page None e = refl
missing_page (Some bytes) e = absurd (let h = e in cc)

pub count_here : (counts : Counts) (f : Fid) (n : ℕ) (o : Option ℕ) → o ≡ get page_cmp counts.kept (record { fid = f; number = n + 1 }) → o ≡ count_kept counts f n
count_here counts f n o e = e ∙ ap (λ (k : ℕ). get page_cmp counts.kept (record { fid = f; number = k })) (add-one n)

in_all : (pages : ℕ → Option (List ℕ)) (bytes : List ℕ) (total : ℕ) → length bytes ≡ total → bytes ≡ joined 65535 pages → total ≡ length (joined most_pages pages)
in_all pages bytes total is are = sym is ∙ ap length (are ∙ ap (λ (k : ℕ). joined k pages) all_pages)

module _ (pages : ℕ → Option (List ℕ)) (done total : ℕ) (c : Counting pages done total) where
  -- the next page is missing
  pub counting_missing : done < 65535 → None ≡ option_map length (pages done) → total ≡ length (joined most_pages pages)
  counting_missing more e = in_all pages c.bytes total c.is (joining_missing pages 65535 done c.bytes c.joining more (missing_page (pages done) e))

  -- the next page isn't full
  pub counting_last : (count : ℕ) → done < 65535 → Some count ≡ option_map length (pages done) → count < 512 → total + count ≡ length (joined most_pages pages)
  counting_last count more e less =
      let next = counted_page (pages done) count e in
      let few : length next.bytes < 512 = subst (λ n. n < 512) (sym next.is) less in
      in_all pages (c.bytes ++ next.bytes) (total + count) (length-append c.bytes next.bytes ∙ (λ i. c.is i + next.is i)) (joining_last pages 65535 done c.bytes c.joining next.bytes more next.there few)

  -- the next page is full
  pub counting_more : (count : ℕ) → done < 65535 → Some count ≡ option_map length (pages done) → 512 ≤ count → Counting pages (done + 1) (total + count)
  counting_more count more e full =
      let next = counted_page (pages done) count e in
      let many : 512 ≤ length next.bytes = subst (λ n. 512 ≤ n) (sym next.is) full in
      record {
        bytes = c.bytes ++ next.bytes;
        joining = joining_more pages 65535 done c.bytes c.joining next.bytes more next.there many;
        is = length-append c.bytes next.bytes ∙ (λ i. c.is i + next.is i);
      }

  -- all pages are counted
  pub counting_all : 65535 ≤ done → total ≡ length (joined most_pages pages)
  counting_all end = in_all pages c.bytes total c.is (joining_all pages 65535 done c.bytes c.joining end)
