-- One page of a walk, and its end.
use Rattle.std.proofs.Common.{◌≡◌, ℕ, suc, ◌+◌, ◌*◌, ◌/◌, ◌≤◌, ◌⊎◌, inl, inr, List, ◌++◌, length, take, Option, Some, Result, Err, IsErrOf, OnOk, refl, sym, ◌∙◌, ap, subst, add-one, arith}
use Rattle.std.specs.List.{FoldsTo}
use Rattle.alto_words.specs.declared.fid.Fid.{Fid}
use Rattle.dir_slots.specs.Walks.{Walked, Walking}
use Rattle.disk_records.specs.declared.records.Page.{Page}
use Rattle.disk_records.specs.declared.records.Place.{Place}
use Rattle.disk_records.specs.declared.records.Sector.{Sector}
use Rattle.disk_records.specs.declared.shape.Shape.{Shape}
use Rattle.disk_records.specs.Causes.{HasCause, IsCause, Unfailed}
use Rattle.disk_records.specs.Packs.{Pack, carried, sector_at}
use Rattle.disk_records.specs.Tapes.{Taped}
use Rattle.disk_records.specs.Words.{word}
use Rattle.hint_cache.specs.Caches.{Cached, address_in}
use Rattle.file_pages.specs.label_check.specs.declared.errors.PageInfo.{PageInfo}
use Rattle.file_pages.specs.laws_contents.specs.PageLaws.{FullBefore, bytes_at}
use Rattle.file_pages.specs.laws_contents.specs.WordContents.{file_words, words_at}
use Rattle.pack_model.specs.hints.Links.{LinksTrue, dir_slots}
use Rattle.pack_model.specs.operations.Committing.{page_of_byte}
use Rattle.pack_model.specs.reading.Files.{place}
use Rattle.pack_model.specs.reading.Sights.{sights}
use Rattle.pack_model.specs.reading.SlotWords.{SlotAt}
use Rattle.pack_model.specs.states.Sentences.{EachOnce}
use Rattle.pack_model.specs.states.Whole.{Whole}
use Rattle.page_seeking.specs.Causes.{cause_of_file, cause_of_length}
use Rattle.page_seeking.specs.declared.refs.FileError.{FileError}
use Rattle.page_seeking.specs.declared.refs.FileError.TheVariants.{Misled, Beyond, DiskFault, Memory}
use Rattle.page_seeking.specs.Refs.{IfBeyond, IfMisled}
use Rattle.page_seeking.specs.Seeking.{IsEnd, Links, Lists, Refused, Seen, Stands, file_length, page_number}
use Rattle.page_seeking.proofs.Parting.{few_bytes}
use Rattle.directory.specs.Found.{IsQuick}
use Rattle.directory.specs.Visits.{Visits, ended}
use Rattle.directory.proofs.Paging.{VisitedTo, counts_here, ends_full, ends_here, visited_last, visited_more, words_here}
use Rattle.directory.proofs.Quickly.{IsAhead, ahead_next, found_soon}
use Rattle.directory.proofs.Standing.{not_beyond, placed_at}

-- ---- a page that was located
module _ (p : Pack) (f : Fid) (k at : ℕ) (form : Shape) (info : PageInfo) (buffer : Sector) (once : EachOnce (sights p)) (seen : Seen form (page_number f (k + 1)) at info buffer) (stands : Stands p (page_number f (k + 1)) at buffer) where
  placed : place (sights p) f (suc k) ≡ Some at
  placed = placed_at p f k at once stands.carries

  placed_there : place (sights p) f (k + 1) ≡ Some at
  placed_there = ap (place (sights p) f) (add-one k) ∙ placed

  sized : length (sector_at p at).value ≡ 256
  sized = ap (λ (s : Sector). length s.value) (sym stands.holds) ∙ seen.sized

  counts : length (bytes_at p at) ≡ info.bytes
  counts = counts_here p f k at placed seen stands.holds

  -- it has the last number, if it isn't full
  pub last_number : FullBefore p f k → (info.bytes ≡ 512 → ⊥) → k + 1 ≡ page_of_byte (file_length p f)
  last_number full short = let small = few_bytes seen in add-one k ∙ sym (ends_here p f k at full placed (omega (arith, small, short, counts)))

  module _ {V : Type 0} (step : V → SlotAt → V → Type 0) (words : List ℕ) (walk later : Walking) (u v w : V) (is : words ≡ take (info.bytes / 2) buffer.value) (so_far : VisitedTo step p f k walk u v)
      (visits : (given : List ℕ) → Walked given walk → Visits step given (given ++ words) later v w) where
    page : Visits step (take (256 * k) (file_words p f)) (take (256 * k) (file_words p f) ++ words_at p at) later v w
    page = subst (λ l. Visits step (take (256 * k) (file_words p f)) (take (256 * k) (file_words p f) ++ l) later v w) (is ∙ words_here p f k at placed seen stands.holds) (visits (take (256 * k) (file_words p f)) so_far.walked)

    -- it is full
    pub page_more : info.bytes ≡ 512 → VisitedTo step p f (k + 1) later u w
    page_more full = subst (λ n. VisitedTo step p f n later u w) (sym (add-one k)) (visited_more step p f k at walk later u v w so_far placed sized (counts ∙ full) page)

    -- it is the last one
    pub page_last : (info.bytes ≡ 512 → ⊥) → FoldsTo step u (dir_slots p f) w
    page_last short = let few = few_bytes seen in visited_last step p f k at walk later u v w so_far placed sized (omega (arith, few, short, counts)) page

  module _ (before mid now : Cached) (old here new : Taped) (ahead : IsAhead p f (k + 1) before mid old here) (grows : mid.refused ≤ now.refused) (quick : mid ≡ before → new.runs ≤ here.runs + (k + 1 + 1))
      (soon : (i : ℕ) → address_in mid.entries (page_number f (k + 1)) ≡ Some i → carried p i ≡ Some (page_number f (k + 1)) → new.runs ≤ here.runs + 1) where
    few : (new.runs ≤ old.runs + (k + 1 + 1)) ⊎ Refused before now
    few = found_soon p f (k + 1) at before mid now old here new (omega arith) ahead grows placed_there stands.carries quick soon

    pub quick_more : Whole p → LinksTrue p → info.bytes ≡ 512 → before.refused ≤ mid.refused → p.shape ≡ form → Lists form (page_number f (k + 1)) at info mid now → IsAhead p f (k + 1 + 1) before now old new
    quick_more whole links full first same lists =
        ahead_next p f (k + 1) at info.bytes info.next before mid now old new whole links (omega arith) full placed_there (ap (λ (i : PageInfo). i.next) seen.tells ∙ ap (λ (s : Sector). word s.label 0) stands.holds) first
        (λ i goes l. lists.next i goes (subst (λ (s : Shape). Links s info.next i) same l)) few

    pub quick_last : FullBefore p f k → (info.bytes ≡ 512 → ⊥) → IsQuick p f before now old new
    quick_last full short =
        let small = few_bytes seen in
        let end = ends_here p f k at full placed (omega (arith, small, short, counts)) in
        elim few [ inl runs ↦ inl (omega (arith, runs, end)) | inr rose ↦ inr rose ]

-- ---- the end of the pages
pub quick_end : (p : Pack) (f : Fid) (k : ℕ) (before now : Cached) (old new : Taped) → FullBefore p f k → k ≡ 65535 → IsAhead p f (k + 1) before now old new → IsQuick p f before now old new
quick_end p f k before now old new full top ahead =
    let end = ends_full p f k full top in
    elim (ahead.later (omega (arith, top))) [ inl l ↦ let runs = l.runs in inl (omega (arith, runs, end)) | inr rose ↦ inr rose ]

-- ---- a page that wasn't located
-- past the end of a directory whose pages are full up to there no page is sought
pub ok_of_beyond : (X T : Type 0) (p : Pack) (f : Fid) (k : ℕ) (e : FileError) (r : Result (Unit {0}) FileError) → r ≡ ended e → EachOnce (sights p) → FullBefore p f k → IfBeyond {T = T} (Err e) (IsEnd p f (k + 1)) → OnOk r X
ok_of_beyond X T p f k (Misled from at wanted found) r is once full beyond = rw is tt
ok_of_beyond X T p f k (Beyond n) r is once full beyond = absurd (not_beyond p f k n once full beyond)
ok_of_beyond X T p f k DiskFault r is once full beyond = rw is tt
ok_of_beyond X T p f k Memory r is once full beyond = rw is tt

pub ended_misled : (T : Type 0) (P : Place → ℕ → Page → Option (List ℕ) → Type 0) (e : FileError) (r : Result (Unit {0}) FileError) → r ≡ ended e → IfMisled {T = T} (Err e) P → IfMisled r P
ended_misled T P (Misled from at wanted found) r is h = rw is h
ended_misled T P (Beyond n) r is h = rw is tt
ended_misled T P DiskFault r is h = rw is tt
ended_misled T P Memory r is h = rw is tt

pub ended_within : (e : FileError) (r : Result (Unit {0}) FileError) → r ≡ ended e → IfBeyond r (λ n. ⊥)
ended_within (Misled from at wanted found) r is = rw is tt
ended_within (Beyond n) r is = rw is tt
ended_within DiskFault r is = rw is tt
ended_within Memory r is = rw is tt

pub ended_cause : (first a b : Taped) (e : FileError) (r : Result (Unit {0}) FileError) → r ≡ ended e → Unfailed first a → IsCause a b (cause_of_file e) → HasCause cause_of_length first b r
ended_cause first a b (Misled from at wanted found) r is none h = rw is (h ∙ none)
ended_cause first a b (Beyond n) r is none h = rw is (h ∙ none)
ended_cause first a b DiskFault r is none h = rw is (omega (arith, none, h))
ended_cause first a b Memory r is none h = rw is (h ∙ none)

pub ended_memory : (T : Type 0) (e : FileError) (r : Result (Unit {0}) FileError) → r ≡ ended e → IsErrOf r Memory → IsErrOf {T = T} (Err e) Memory
ended_memory T (Misled from at wanted found) r is m = absurd cc
ended_memory T (Beyond n) r is m = absurd cc
ended_memory T DiskFault r is m = absurd cc
ended_memory T Memory r is m = refl
