-- DiskDescriptor as it is read, page by page.
use Rattle.std.proofs.Common.{Err, List, None, Option, Some, ap, add-one, arith, drop, get_or, inl, inr, length, nat_lt, refl, set, subst, suc, sym, take, true, false, Bool, ℕ, ◌++◌, ◌*◌, ◌+◌, ◌-◌, ◌/◌, ◌<◌, ◌∙◌, ◌≡◌, ◌≤◌, ◌⊎◌}
use Rattle.std.proofs.lemmas.Bool.Decides.{nat_tests}
use Rattle.std.proofs.lemmas.List.Elements.{All-set}
use Rattle.std.proofs.lemmas.List.{append_assoc, get_or-set_other, length-take-le, take-append-le, take_all}
use Rattle.std.proofs.Math.Seq.{get_or-set_same, take-append-add}
use Rattle.alto_words.specs.declared.fid.Fid.{Fid}
use Rattle.disk_records.proofs.Bytes.{length-words_of}
use Rattle.disk_records.specs.Addresses.{pages_of}
use Rattle.disk_records.specs.Causes.{IsCause, Unfailed}
use Rattle.disk_records.specs.Packs.{Pack, sector_at}
use Rattle.disk_records.specs.Tapes.{Taped}
use Rattle.disk_records.specs.Words.{word}
use Rattle.disk_records.specs.declared.records.Page.{Page}
use Rattle.disk_records.specs.declared.records.Place.{Place}
use Rattle.disk_records.specs.declared.records.Sector.{Sector}
use Rattle.disk_records.specs.declared.shape.Shape.{Shape}
use Rattle.hint_cache.specs.Caches.{Cached}
use Rattle.label_check.specs.declared.errors.PageInfo.{PageInfo}
use Rattle.laws_format.specs.laws_contents.proofs.ends.Laws.{last_page_ends_the_file, missing_page_ends_the_file}
use Rattle.laws_format.specs.laws_contents.proofs.pages.Laws.{carried_once_is_in_place, full_before_the_next, labels_count, none_before_the_first, page_numbers_are_words}
use Rattle.laws_format.specs.laws_contents.proofs.words.Laws.{page_words_go_on}
use Rattle.laws_format.specs.laws_contents.specs.PageLaws.{FullBefore, bytes_at}
use Rattle.laws_format.specs.laws_contents.specs.WordContents.{file_words, words_at}
use Rattle.pack_model.specs.reading.Bytes.{put_at}
use Rattle.pack_model.specs.reading.Files.{file_bytes, place}
use Rattle.pack_model.specs.reading.Sights.{sights}
use Rattle.pack_model.specs.states.Sentences.{EachOnce}
use Rattle.page_seeking.proofs.Parting.{few_bytes}
use Rattle.page_seeking.specs.Causes.{cause_of_file}
use Rattle.page_seeking.specs.Refs.{IfBeyond, IfMisled}
use Rattle.page_seeking.specs.declared.refs.FileError.{FileError}
use Rattle.page_seeking.specs.declared.refs.FileError.TheVariants.{Beyond, DiskFault, Memory, Misled}
use Rattle.page_seeking.specs.Seeking.{IsEnd, KeepsHandy, Seen, Stands, page_number}
use Rattle.disk_descriptor.specs.Fields.{AreSectors}
use Rattle.disk_descriptor.specs.Reading.{IsRead}

one : {a b : ℕ} → ◌≡◌ {A = Option ℕ} (Some a) (Some b) → a ≡ b
one e = cc

-- a page after full ones isn't past an end
pub not_beyond : (p : Pack) (f : Fid) (k n : ℕ) → EachOnce (sights p) → FullBefore p f k → IsEnd p f (k + 1) n → ⊥
not_beyond p f k n once before e =
    let last = e.last in
    let first = e.first in
    let below = e.below in
    let short = e.short in
    let above : suc (last - 1) ≡ last = omega (arith, first) in
    let sector : place (sights p) f (suc (last - 1)) ≡ Some e.at = ap (place (sights p) f) above ∙ carried_once_is_in_place p (page_number f last) e.at once e.carries in
    let full = before.each (last - 1) (omega (arith, first, below)) in
    let same : full.at ≡ e.at = one (sym full.sector ∙ sector) in
    let counts = (labels_count p f (last - 1) e.at sector).says e.sized in
    let whole_page = full.full in
    let size = ap (λ i. length (bytes_at p i)) same in
    omega (arith, short, counts, whole_page, size)

-- ---- what is kept
-- The first k data pages are full, and those of them among the first five are kept.
pub record ReadTo (p : Pack) (f : Fid) (k : ℕ) (words pages : List ℕ) : Type 0 where
  pub before : FullBefore p f k
  pub words_are : k ≤ 5 → take (256 * k) words ≡ take (256 * k) (file_words p f)
  pub pages_are : (n : ℕ) → n < k → n < 5 → place (sights p) f (n + 1) ≡ Some (get_or pages n 0)

pub read_none : (p : Pack) (f : Fid) (words pages : List ℕ) → ReadTo p f 0 words pages
read_none p f words pages = record { before = none_before_the_first p f; words_are = λ low. refl; pages_are = λ n less low. absurd (omega (arith, less)) }

-- words up to one of those that were put after others
put_taken : (at m : ℕ) (value words : List ℕ) → at ≤ length words → m ≤ length value → take (at + m) (put_at at value words) ≡ take at words ++ take m value
put_taken at m value words within few =
    let long : length (take at words) ≡ at = length-take-le at words within in
    let here : at + m ≡ length (take at words) + m = omega (arith, long) in
    ap (λ n. take n (put_at at value words)) here ∙ ap (take (length (take at words) + m)) (append_assoc (take at words) value (drop (at + length value) words)) ∙ take-append-add (take at words) (value ++ drop (at + length value) words) m ∙ ap (λ r. take at words ++ r) (take-append-le m value (drop (at + length value) words) few)

pub less_or_same : (n k : ℕ) → n < k + 1 → (n < k) ⊎ (n ≡ k)
less_or_same n k under = by (nat_lt n k) refl
  where
    by : (t : Bool) → nat_lt n k ≡ t → (n < k) ⊎ (n ≡ k)
    by true e = inl (grind (arith, nat_tests))
    by false e = let least : k ≤ n = grind (arith, nat_tests) in inr (omega (arith, least, under))

-- ---- a page that was located
module _ (p : Pack) (f : Fid) (k at : ℕ) (form : Shape) (info : PageInfo) (buffer : Sector) (words pages words_now pages_now : List ℕ) (once : EachOnce (sights p)) (seen : Seen form (page_number f (k + 1)) at info buffer) (stands : Stands p (page_number f (k + 1)) at buffer)
    (so_far : ReadTo p f k words pages) (long : length words ≡ 1280) (room : length pages ≡ 5) (put : k < 5 → words_now ≡ put_at (256 * k) buffer.value words) (kept : k < 5 → pages_now ≡ set pages k at) (others : 5 ≤ k → pages_now ≡ pages) where
  abbrev value : List ℕ
  value = (sector_at p at).value

  placed : place (sights p) f (suc k) ≡ Some at
  placed = ap (place (sights p) f) (sym (add-one k)) ∙ carried_once_is_in_place p (page_number f (k + 1)) at once stands.carries

  sized : length value ≡ 256
  sized = ap (λ (s : Sector). length s.value) (sym stands.holds) ∙ seen.sized

  counts : length (bytes_at p at) ≡ info.bytes
  counts = (labels_count p f k at placed).says sized ∙ ap (λ (s : Sector). word s.label 3) (sym stands.holds) ∙ sym (ap (λ (i : PageInfo). i.bytes) seen.tells)

  abbrev many : ℕ
  many = length (words_at p at)

  half : many ≡ info.bytes / 2
  half = let few = few_bytes seen in length-take-le (length (bytes_at p at) / 2) value (omega (arith, sized, counts, few)) ∙ ap (λ n. n / 2) counts

  mine : take many buffer.value ≡ words_at p at
  mine = ap (λ n. take n buffer.value) (half ∙ ap (λ n. n / 2) (sym counts)) ∙ ap (λ (s : Sector). take (length (bytes_at p at) / 2) s.value) stands.holds

  taken : k < 5 → take (256 * k + many) words_now ≡ take (256 * k + many) (file_words p f)
  taken low =
      let few = few_bytes seen in
      let own = seen.sized in
      ap (take (256 * k + many)) (put low)
      ∙ put_taken (256 * k) many buffer.value words (omega (arith, low, long)) (omega (arith, own, half, few))
      ∙ ap (λ r. r ++ take many buffer.value) (so_far.words_are (omega (arith, low)))
      ∙ ap (λ r. take (256 * k) (file_words p f) ++ r) mine
      ∙ page_words_go_on p f k at so_far.before placed

  sectors : (n : ℕ) → n < k + 1 → n < 5 → place (sights p) f (n + 1) ≡ Some (get_or pages_now n 0)
  sectors n under low = elim (less_or_same n k under) [
    | inl less ↦ so_far.pages_are n less low ∙ ap Some (sym (other less))
    | inr same ↦
        let k_low : k < 5 = omega (arith, low, same) in
        ap (place (sights p) f) (add-one n ∙ ap suc same) ∙ placed ∙ ap Some (sym (ap (λ l. get_or l n 0) (kept k_low) ∙ ap (λ i. get_or (set pages k at) i 0) same ∙ get_or-set_same pages k at 0 (omega (arith, room, k_low))))
  ]
    where
      other : n < k → get_or pages_now n 0 ≡ get_or pages n 0
      other less = by (nat_lt k 5) refl
        where
          by : (t : Bool) → nat_lt k 5 ≡ t → get_or pages_now n 0 ≡ get_or pages n 0
          by true e = let k_low : k < 5 = grind (arith, nat_tests) in ap (λ l. get_or l n 0) (kept k_low) ∙ get_or-set_other pages k n at 0 (λ is. omega (arith, is, less))
          by false e = let high : 5 ≤ k = grind (arith, nat_tests) in ap (λ l. get_or l n 0) (others high)

  -- it is full
  pub read_more : info.bytes ≡ 512 → ReadTo p f (k + 1) words_now pages_now
  read_more full =
      let next : 256 * k + many ≡ 256 * (k + 1) = omega (arith, half, full) in
      record {
        before = subst (FullBefore p f) (sym (add-one k)) (full_before_the_next p f k so_far.before (record { at = at; sector = placed; full = counts ∙ full }));
        words_are = λ low. subst (λ n. take n words_now ≡ take n (file_words p f)) next (taken (omega (arith, low)));
        pages_are = sectors;
      }

  -- it is the last one
  pub read_last : (info.bytes ≡ 512 → ⊥) → IsRead p f words_now pages_now (512 * k + info.bytes)
  read_last short =
      let few = few_bytes seen in
      let less : info.bytes < 512 = omega (arith, few, short) in
      let end = (last_page_ends_the_file p f k at so_far.before placed (inl (omega (arith, less, counts)))).size in
      let size = length-words_of (file_bytes (sights p) f) in
      let upto : (512 * k + info.bytes) / 2 ≡ 256 * k + many = omega (arith, half) in
      record {
        size_is = omega (arith, end, counts);
        words_are = λ low. ap (λ n. take n words_now) upto ∙ taken (omega (arith, low)) ∙ take_all (256 * k + many) (file_words p f) (omega (arith, size, end, counts, half));
        pages_are = λ low n under. sectors n (omega (arith, under, less)) (omega (arith, under, less, low));
      }

-- no page comes after the one with the greatest number
pub read_all_pages : (p : Pack) (f : Fid) (k : ℕ) (words pages : List ℕ) → k ≡ 65535 → ReadTo p f k words pages → IsRead p f words pages (512 * 65535)
read_all_pages p f k words pages top so_far = record {
  size_is = let end = missing_page_ends_the_file p f k so_far.before (none (place (sights p) f (suc k)) refl) in omega (arith, end, top);
  words_are = λ low. absurd (omega (arith, low));
  pages_are = λ low. absurd (omega (arith, low));
}
  where
    none : (r : Option ℕ) → place (sights p) f (suc k) ≡ r → place (sights p) f (suc k) ≡ None
    none None e = e
    none (Some at) e = let low = page_numbers_are_words p f (suc k) at e in absurd (omega (arith, low, top))

-- the sectors that are kept are sectors
pub sectors_kept : (form : Shape) (k at : ℕ) (pages pages_now : List ℕ) → AreSectors form pages → 1 ≤ at → at < pages_of form → (k < 5 → pages_now ≡ set pages k at) → (5 ≤ k → pages_now ≡ pages) → AreSectors form pages_now
sectors_kept form k at pages pages_now are first last kept others = by (nat_lt k 5) refl
  where
    by : (t : Bool) → nat_lt k 5 ≡ t → AreSectors form pages_now
    by true e = let low : k < 5 = grind (arith, nat_tests) in subst (AreSectors form) (sym (kept low)) (All-set (λ i. (1 ≤ i) × (i < pages_of form)) pages k at (first, last) are)
    by false e = let high : 5 ≤ k = grind (arith, nat_tests) in subst (AreSectors form) (sym (others high)) are

-- hints over two calls
pub handy_twice : (p q : Pack) (a b c : Cached) → q ≡ p → KeepsHandy p a b → KeepsHandy q b c → KeepsHandy p a c
handy_twice p q a b c same first next = λ whole links f handy. (subst (λ r. KeepsHandy r b c) same next) whole links f (first whole links f handy)

-- ---- a page that wasn't located
pub misled_as : (T U : Type 0) (P : Place → ℕ → Page → Option (List ℕ) → Type 0) (e : FileError) → IfMisled {T = T} (Err e) P → IfMisled {T = U} (Err e) P
misled_as T U P (Misled place at wanted found) h = h
misled_as T U P (Beyond n) h = tt
misled_as T U P DiskFault h = tt
misled_as T U P Memory h = tt

pub never_past : (T U : Type 0) (p : Pack) (f : Fid) (k : ℕ) (e : FileError) → EachOnce (sights p) → FullBefore p f k → IfBeyond {T = T} (Err e) (IsEnd p f (k + 1)) → IfBeyond {T = U} (Err e) (λ n. ⊥)
never_past T U p f k (Misled place at wanted found) once full h = tt
never_past T U p f k (Beyond n) once full h = not_beyond p f k n once full h
never_past T U p f k DiskFault once full h = tt
never_past T U p f k Memory once full h = tt

pub cause_before : (first a b : Taped) (e : FileError) → Unfailed first a → IsCause a b (cause_of_file e) → IsCause first b (cause_of_file e)
cause_before first a b (Misled place at wanted found) none h = h ∙ none
cause_before first a b (Beyond n) none h = h ∙ none
cause_before first a b DiskFault none h = omega (arith, none, h)
cause_before first a b Memory none h = h ∙ none
