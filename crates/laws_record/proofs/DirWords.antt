-- Words in place within the value of one page of a directory are words in place within the directory.
use Rattle.std.proofs.Common.{◌%◌, ◌*◌, ◌++◌, ◌+◌, ◌/◌, ◌<◌, ◌∙◌, ◌∷◌, ◌≡◌, ◌≤◌, List, [], ap, arith, drop, false, length, refl, set, subst, suc, sym, take, zero, ℕ}
use Rattle.pack_laws.specs.alto_words.specs.Fid.{is_fid}
use Rattle.pack_laws.specs.alto_words.specs.declared.fid.Fid.{Fid}
use Rattle.pack_laws.specs.disk_records.specs.Labels.{tag}
use Rattle.pack_laws.specs.disk_records.specs.Packs.{Pack, sector_at}
use Rattle.pack_laws.specs.pack_model.specs.reading.Bytes.{bytes_of, put_at, words_of}
use Rattle.pack_laws.specs.pack_model.specs.reading.Files.{file_bytes, leader}
use Rattle.pack_laws.specs.pack_model.specs.hints.Links.{dir_words}
use Rattle.pack_laws.specs.pack_model.specs.reading.Model.{good_one, good_sectors}
use Rattle.pack_laws.specs.pack_model.specs.operations.PageWords.{in_page}
use Rattle.pack_laws.specs.pack_model.specs.reading.Sights.{sights}
use Rattle.pack_laws.specs.pack_model.specs.reading.Sights.Sight.{hidden, holds}
use Rattle.pack_laws.proofs.Bytes.{length-bytes_of, length-put_at, length-words_of, put_at-here, put_at-later, take-put_at}
use Rattle.laws_record.proofs.Framing.{good_set}
use Rattle.pack_laws.proofs.Paging.{bytes_after, other_files, page_fits, same_leaders}
use Rattle.pack_laws.proofs.Placing.{IsPageAt, data_page_of_place, short_pages}
use Rattle.pack_laws.proofs.Sighted.{ShowsPage, length-sights, shows_page, sights-get, sights-write, value_shown}
use Rattle.laws_record.specs.DirLaws.{DirWrite, dir_written}

-- ---- bytes and words
-- words in a row
bytes_of-append : (a b : List ℕ) → bytes_of (a ++ b) ≡ bytes_of a ++ bytes_of b
bytes_of-append [] b = refl
bytes_of-append (w ∷ a) b = ap (λ r. (w / 256) ∷ (w % 256) ∷ r) (bytes_of-append a b)

-- the first words
take-bytes : (n : ℕ) (words : List ℕ) → bytes_of (take n words) ≡ take (2 * n) (bytes_of words)
take-bytes zero words = refl
take-bytes (suc n) [] = let z : suc (suc (2 * n)) ≡ 2 * suc n = omega arith in ap (λ k. take k []) z
take-bytes (suc n) (w ∷ words) = let z : suc (suc (2 * n)) ≡ 2 * suc n = omega arith in ap (λ r. (w / 256) ∷ (w % 256) ∷ r) (take-bytes n words) ∙ ap (λ k. take k (bytes_of (w ∷ words))) z

-- the words after them
drop-bytes : (n : ℕ) (words : List ℕ) → bytes_of (drop n words) ≡ drop (2 * n) (bytes_of words)
drop-bytes zero words = refl
drop-bytes (suc n) [] = let z : suc (suc (2 * n)) ≡ 2 * suc n = omega arith in ap (λ k. drop k []) z
drop-bytes (suc n) (w ∷ words) = let z : suc (suc (2 * n)) ≡ 2 * suc n = omega arith in drop-bytes n words ∙ ap (λ k. drop k (bytes_of (w ∷ words))) z

-- words in place are bytes in place
pub put_bytes : (at : ℕ) (new old : List ℕ) → bytes_of (put_at at new old) ≡ put_at (2 * at) (bytes_of new) (bytes_of old)
put_bytes at new old =
    let z : 2 * (at + length new) ≡ 2 * at + length (bytes_of new) = (let s = length-bytes_of new in omega arith) in
    bytes_of-append (take at old ++ new) (drop (at + length new) old)
    ∙ ap (λ r. r ++ bytes_of (drop (at + length new) old)) (bytes_of-append (take at old) new)
    ∙ (λ i. take-bytes at old i ++ bytes_of new ++ drop-bytes (at + length new) old i)
    ∙ ap (λ k. take (2 * at) (bytes_of old) ++ bytes_of new ++ drop k (bytes_of old)) z

-- at the front
put_front : (new bytes : List ℕ) → length (bytes_of new) ≤ length bytes → words_of (put_at 0 (bytes_of new) bytes) ≡ put_at 0 new (words_of bytes)
put_front [] bytes l = refl
put_front (w ∷ new) [] l = absurd (omega arith)
put_front (w ∷ new) (a ∷ []) l = absurd (omega arith)
put_front (w ∷ new) (a ∷ b ∷ bytes) l =
    let e : w / 256 * 256 + w % 256 ≡ w = omega arith in
    ap words_of (put_at-here a (w / 256) ((w % 256) ∷ bytes_of new) (b ∷ bytes) ∙ ap (λ r. (w / 256) ∷ r) (put_at-here b (w % 256) (bytes_of new) bytes))
    ∙ (λ i. e i ∷ put_front new bytes (omega arith) i)
    ∙ sym (put_at-here (a * 256 + b) w new (words_of bytes))

-- anywhere
pub put_words : (at : ℕ) (new bytes : List ℕ) → 2 * at + length (bytes_of new) ≤ length bytes → words_of (put_at (2 * at) (bytes_of new) bytes) ≡ put_at at new (words_of bytes)
put_words zero new bytes l = put_front new bytes (omega arith)
put_words (suc at) new [] l = absurd (omega arith)
put_words (suc at) new (a ∷ []) l = absurd (omega arith)
put_words (suc at) new (a ∷ b ∷ bytes) l =
    let z : 2 * suc at ≡ suc (suc (2 * at)) = omega arith in
    ap (λ k. words_of (put_at k (bytes_of new) (a ∷ b ∷ bytes))) z
    ∙ ap words_of (put_at-later (suc (2 * at)) a (bytes_of new) (b ∷ bytes) ∙ ap (λ r. a ∷ r) (put_at-later (2 * at) b (bytes_of new) bytes))
    ∙ ap (λ r. (a * 256 + b) ∷ r) (put_words at new bytes (omega arith))
    ∙ sym (put_at-later at (a * 256 + b) new (words_of bytes))

-- ---- the write
module _ (p : Pack) (d : Fid) (w at : ℕ) (new : List ℕ) (h : DirWrite p d w at new) where
  -- the page where they are
  pub dir_page : IsPageAt (sights p) d (w / 256) at
  dir_page = data_page_of_place (sights p) d (w / 256) at h.sector

  -- its number by bytes
  number_is : 2 * w / 512 ≡ w / 256
  number_is = omega arith

  -- and the place in it
  place_is_at : 2 * w % 512 ≡ 2 * (w % 256)
  place_is_at = omega arith

  -- as many bytes
  sizes : length (bytes_of new) ≡ 2 * length new
  sizes = length-bytes_of new

  -- they end within the file
  ends_within : 2 * w + length (bytes_of new) ≤ length (file_bytes (sights p) d)
  ends_within = let s = length-words_of (file_bytes (sights p) d) in let l = h.within in omega (arith, sizes)

  -- the page, by the number of its bytes
  pub page_by_bytes : IsPageAt (sights p) d (2 * w / 512) at
  page_by_bytes = subst (λ n. IsPageAt (sights p) d n at) (sym number_is) dir_page

  -- and within the page
  pub fits : 2 * w % 512 + length (bytes_of new) ≤ length (page_by_bytes.bytes)
  fits = page_fits (sights p) d at (2 * w) (bytes_of new) page_by_bytes (short_pages p d) (let s = h.some in omega (arith, sizes)) (let s = h.one_page in omega (arith, sizes, place_is_at)) ends_within

  -- what the page holds then
  pub new_bytes : List ℕ
  new_bytes = put_at (2 * w % 512) (bytes_of new) page_by_bytes.bytes

  -- as many bytes as before
  pub new_size : length new_bytes ≡ length (page_by_bytes.bytes)
  unfolding new_bytes
  new_size = length-put_at (2 * w % 512) (bytes_of new) page_by_bytes.bytes fits

  -- what the sector shows then
  pub written_sights : sights (dir_written p w at new) ≡ set (sights p) at (holds d (2 * w / 512) new_bytes)
  unfolding new_bytes
  written_sights =
      let l : at < length p.sectors = subst (λ k. at < k) (length-sights p) dir_page.within in
      let s = sector_at p at in
      let b : List ℕ = page_by_bytes.bytes in
      let shows : ShowsPage p.shape at s d (2 * w / 512) b = shows_page p.shape at s d (2 * w / 512) b (sym (sights-get p at hidden l) ∙ page_by_bytes.shows hidden) in
      let count : ℕ = (tag s.label).bytes in
      sights-write p at 2 (put_at (in_page w) new s.value)
      ∙ ap (set (sights p) at)
      (value_shown p.shape at s d (2 * w / 512) b (put_at (in_page w) new s.value) shows
      ∙ ap (λ x. holds d (2 * w / 512) (take count x)) (put_bytes (w % 256) new s.value)
      ∙ ap (λ k. holds d (2 * w / 512) (take count (put_at k (bytes_of new) (bytes_of s.value)))) (sym place_is_at)
      ∙ ap (holds d (2 * w / 512)) (take-put_at count (2 * w % 512) (bytes_of new) (bytes_of s.value) (subst (λ x. 2 * w % 512 + length (bytes_of new) ≤ length x) shows.bytes_are fits)
      ∙ ap (put_at (2 * w % 512) (bytes_of new)) (sym shows.bytes_are)))

  -- the words of the directory then
  pub written_words : words_of (file_bytes (set (sights p) at (holds d (2 * w / 512) new_bytes)) d) ≡ put_at w new (dir_words p d)
  unfolding new_bytes
  written_words =
      ap words_of (bytes_after (sights p) d at (2 * w) (bytes_of new) page_by_bytes (short_pages p d) (let s = h.some in omega (arith, sizes)) (let s = h.one_page in omega (arith, sizes, place_is_at)) ends_within)
      ∙ put_words w new (file_bytes (sights p) d) ends_within

  -- all leaders stay
  pub written_leaders : (g : Fid) → leader (set (sights p) at (holds d (2 * w / 512) new_bytes)) g ≡ leader (sights p) g
  written_leaders = same_leaders (sights p) d (2 * w / 512) at page_by_bytes new_bytes

  -- and the bytes of all other files
  pub written_others : (g : Fid) → is_fid g d ≡ false → file_bytes (set (sights p) at (holds d (2 * w / 512) new_bytes)) g ≡ file_bytes (sights p) g
  written_others = other_files (sights p) d (2 * w / 512) at page_by_bytes new_bytes

  -- and the number of good sectors
  pub written_good : good_sectors (set (sights p) at (holds d (2 * w / 512) new_bytes)) ≡ good_sectors (sights p)
  written_good = good_set (sights p) at (holds d (2 * w / 512) new_bytes) hidden (sym (ap good_one (dir_page.shows hidden)))

-- ---- all of it
-- One directory has other words, and all else is as before.
pub record DirChange (p q : Pack) (d : Fid) (words : List ℕ) : Type 0 where
  pub shape : q.shape ≡ p.shape
  pub good : good_sectors (sights q) ≡ good_sectors (sights p)
  pub leaders : (g : Fid) → leader (sights q) g ≡ leader (sights p) g
  pub others : (g : Fid) → is_fid g d ≡ false → file_bytes (sights q) g ≡ file_bytes (sights p) g
  pub words_are : dir_words q d ≡ words

-- so it is with words in place
pub dir_change : (p : Pack) (d : Fid) (w at : ℕ) (new : List ℕ) → DirWrite p d w at new → DirChange p (dir_written p w at new) d (put_at w new (dir_words p d))
dir_change p d w at new h =
    let shown = written_sights p d w at new h in
    record {
      shape = refl;
      good = ap good_sectors shown ∙ written_good p d w at new h;
      leaders = λ g. ap (λ us. leader us g) shown ∙ written_leaders p d w at new h g;
      others = λ g e. ap (λ us. file_bytes us g) shown ∙ written_others p d w at new h g e;
      words_are = ap (λ us. words_of (file_bytes us d)) shown ∙ written_words p d w at new h;
    }
