-- One page of a file holds other bytes.
use Rattle.std.proofs.Common.{◌≡◌, ℕ, ◌+◌, ◌*◌, ◌/◌, ◌%◌, ◌<◌, ◌≤◌, ◌≢◌, Bool, true, false, cond, List, length, set, Some, None, refl, sym, ap, subst, ◌∙◌, arith, ne_eqb, ◌⊎◌, inl, inr}
use Rattle.std.proofs.lemmas.Bool.{cases_lt}
use mathlib.Core.Path.{fun_ext}
use Rattle.std.specs.Prelude.{◌&&◌, ◌==◌}
use Rattle.pack_model.specs.alto_words.specs.declared.fid.Fid.{Fid}
use Rattle.pack_model.specs.alto_words.specs.Fid.{is_fid}
use Rattle.pack_model.specs.reading.Bytes.{put_at}
use Rattle.pack_model.specs.reading.Sights.{Sight}
use Rattle.pack_model.specs.reading.Sights.Sight.{hidden, holds}
use Rattle.pack_model.specs.reading.Files.{leader_at, page_at, leader, page, file_bytes, joined, most_pages}
use Rattle.pack_model.specs.reading.Stored.{files_shown, stored_put}
use Rattle.pack_laws.proofs.Firsts.{first_same, first_borne}
use Rattle.pack_laws.proofs.Joining.{AreShort, Reaches, length-joined, joined_put}
use Rattle.pack_laws.proofs.ByteInPages.{HasByte, has_byte}
use Rattle.pack_laws.proofs.Placing.{IsPageAt, page_at-holds}
use Rattle.pack_laws.proofs.Storing.{changed_files}

-- ---- what the length of a file says
-- the bytes of a file are those of its pages in order
pub file_bytes-joined : (ss : List Sight) (f : Fid) → file_bytes ss f ≡ joined most_pages (page ss f)
unfolding file_bytes
file_bytes-joined ss f = refl

-- a page that is reached ends within the length, and one that isn't full at its end
pub length-file : (ss : List Sight) (f : Fid) (k : ℕ) (bytes : List ℕ) → AreShort (page ss f) → k < most_pages → Reaches (page ss f) k → page ss f k ≡ Some bytes
    → (512 * k + length bytes ≤ length (file_bytes ss f)) × (length bytes < 512 → length (file_bytes ss f) ≡ 512 * k + length bytes)
unfolding file_bytes
length-file ss f k bytes short l r e = length-joined most_pages (page ss f) k bytes short l r e

-- The byte at an offset within the length stands in a page, which full pages lead to.
pub byte_of_file : (ss : List Sight) (f : Fid) (offset : ℕ) → AreShort (page ss f) → offset < length (file_bytes ss f) → HasByte most_pages (page ss f) (offset / 512) (offset % 512)
unfolding file_bytes
byte_of_file ss f offset short l =
    let low : offset % 512 < 512 = omega arith in
    let z : 512 * (offset / 512) + offset % 512 ≡ offset = omega arith in
    has_byte most_pages (page ss f) (offset / 512) (offset % 512) short low (subst (λ n. n < length (joined most_pages (page ss f))) (sym z) l)

-- bytes of one page that end within the file end within the page
pub put_fits : (ss : List Sight) (f : Fid) (offset count : ℕ) (bytes : List ℕ) → AreShort (page ss f) → HasByte most_pages (page ss f) (offset / 512) (offset % 512) → page ss f (offset / 512) ≡ Some bytes
    → offset % 512 + count ≤ 512 → offset + count ≤ length (file_bytes ss f) → offset % 512 + count ≤ length bytes
unfolding file_bytes
put_fits ss f offset count bytes short h e one all =
    let sizes = length-joined most_pages (page ss f) (offset / 512) bytes short h.number h.before e in
    by sizes.1 (cases_lt (length bytes) 512)
  where
    by : (length bytes < 512 → length (file_bytes ss f) ≡ 512 * (offset / 512) + length bytes) → (length bytes < 512) ⊎ (512 ≤ length bytes) → offset % 512 + count ≤ length bytes
    by size (inl short) = let e = size short in omega arith
    by size (inr full) = omega arith

-- another number is another page
pub other_number : (b : Bool) (n k : ℕ) → n ≢ k → (b && n == k) ≡ false
other_number false n k e = refl
other_number true n k e = ne_eqb n k e

-- ---- sector i, which bears page k of f, holds other bytes of it
module _ (ss : List Sight) (f : Fid) (k i : ℕ) (h : IsPageAt ss f k i) (new : List ℕ) where
  -- all leaders are as before
  pub same_leaders : (g : Fid) → leader (set ss i (holds f k new)) g ≡ leader ss g
  same_leaders g = first_same (leader_at g) ss i (holds f k new) hidden (ap (leader_at g) (sym (h.shows hidden)))

  -- this page is new
  pub this_page : page (set ss i (holds f k new)) f k ≡ Some new
  this_page = first_borne (page_at f k) ss i h.bytes new (holds f k new) h.bears (page_at-holds f k new)

  -- all other pages are as before
  pub other_pages : (g : Fid) (n : ℕ) → (is_fid g f && n == k) ≡ false → page (set ss i (holds f k new)) g n ≡ page ss g n
  other_pages g n e = first_same (page_at g n) ss i (holds f k new) hidden
      (ap (λ b. cond b (Some new) None) e ∙ sym (ap (λ b. cond b (Some h.bytes) None) e) ∙ ap (page_at g n) (sym (h.shows hidden)))

  -- so are all other files
  pub other_files : (g : Fid) → is_fid g f ≡ false → file_bytes (set ss i (holds f k new)) g ≡ file_bytes ss g
  unfolding file_bytes
  other_files g e = ap (joined most_pages) (fun_ext (λ n. other_pages g n (ap (λ b. b && n == k) e)))

-- ---- bytes are put in place in the page of an offset
module _ (ss : List Sight) (f : Fid) (i offset : ℕ) (new : List ℕ) (h : IsPageAt ss f (offset / 512) i) (short : AreShort (page ss f)) (some : 0 < length new) (one : offset % 512 + length new ≤ 512) (all : offset + length new ≤ length (file_bytes ss f)) where
  -- their first byte stands in this page
  b : HasByte most_pages (page ss f) (offset / 512) (offset % 512)
  b = byte_of_file ss f offset short (omega arith)

  -- they fit in the page
  pub page_fits : offset % 512 + length new ≤ length h.bytes
  page_fits = put_fits ss f offset (length new) h.bytes short b h.page_is one all

  -- and are put in place in the file
  pub bytes_after : file_bytes (set ss i (holds f (offset / 512) (put_at (offset % 512) new h.bytes))) f ≡ put_at offset new (file_bytes ss f)
  unfolding file_bytes
  bytes_after =
      let z : 512 * (offset / 512) + offset % 512 ≡ offset = omega arith in
      joined_put most_pages (page ss f) (page (set ss i (holds f (offset / 512) (put_at (offset % 512) new h.bytes))) f) (offset / 512) (offset % 512) h.bytes new short b.number b.before h.page_is page_fits
      (this_page ss f (offset / 512) i h (put_at (offset % 512) new h.bytes))
      (λ n e. other_pages ss f (offset / 512) i h (put_at (offset % 512) new h.bytes) f n (other_number (is_fid f f) n (offset / 512) e))
      ∙ ap (λ n. put_at n new (joined most_pages (page ss f))) z

  -- as in the files that are shown
  pub put_shown : files_shown (set ss i (holds f (offset / 512) (put_at (offset % 512) new h.bytes))) ≡ stored_put (files_shown ss) f offset new
  put_shown = changed_files ss _ f offset new
      (same_leaders ss f (offset / 512) i h (put_at (offset % 512) new h.bytes))
      (other_files ss f (offset / 512) i h (put_at (offset % 512) new h.bytes))
      bytes_after
