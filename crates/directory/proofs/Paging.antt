-- The slots of a directory, page by page.
use Rattle.std.proofs.Common.{◌≡◌, ℕ, zero, suc, ◌+◌, ◌*◌, ◌/◌, ◌<◌, ◌≤◌, List, [], ◌∷◌, ◌++◌, length, take, get_or, Option, Some, None, refl, sym, ◌∙◌, ap, subst, inl, arith, append_assoc}
use Rattle.std.specs.List.{All, FoldsTo}
use Rattle.std.proofs.lemmas.Fn.{FoldsTo-push}
use Rattle.std.proofs.lemmas.List.{append-nil, length-take-le, take_all}
use Rattle.alto_words.specs.declared.fid.Fid.{Fid}
use Rattle.dir_slots.specs.declared.others.Passing.{Passing}
use Rattle.dir_slots.specs.declared.walk.PlacedSlot.{PlacedSlot}
use Rattle.dir_slots.specs.Others.{IsOther, Passes}
use Rattle.dir_slots.specs.Walks.{Meets, Walked, Walking, placed_slots, slot_met}
use Rattle.disk_records.specs.declared.records.Page.{Page}
use Rattle.disk_records.specs.declared.records.Sector.{Sector}
use Rattle.disk_records.specs.declared.shape.Shape.{Shape}
use Rattle.disk_records.specs.Packs.{Pack, sector_at}
use Rattle.disk_records.specs.Words.{word}
use Rattle.disk_records.proofs.Bytes.{length-words_of}
use Rattle.file_pages.specs.label_check.specs.declared.errors.PageInfo.{PageInfo}
use Rattle.file_pages.specs.laws_contents.proofs.ends.Laws.{last_page_ends_the_file, missing_page_ends_the_file}
use Rattle.file_pages.specs.laws_contents.proofs.pages.Laws.{full_before_the_next, labels_count, none_before_the_first, page_numbers_are_words}
use Rattle.file_pages.specs.laws_contents.proofs.words.Laws.{page_words_go_on}
use Rattle.file_pages.specs.laws_contents.specs.PageLaws.{FullBefore, bytes_at}
use Rattle.file_pages.specs.laws_contents.specs.WordContents.{file_words, words_at}
use Rattle.pack_model.specs.hints.Links.{dir_slots}
use Rattle.pack_model.specs.operations.Committing.{page_of_byte}
use Rattle.pack_model.specs.reading.Files.{file_bytes, place}
use Rattle.pack_model.specs.reading.Sights.{sights}
use Rattle.pack_model.specs.reading.SlotWords.{SlotAt}
use Rattle.page_seeking.specs.Seeking.{Seen, file_length}
use Rattle.directory.specs.Visits.{Visits}
use Rattle.directory.proofs.Standing.{full_bytes}

-- ---- steps one after another
pub folds_on : {V A : Type 0} (step : V → A → V → Type 0) (xs ys : List A) (u v w : V) → FoldsTo step u xs v → FoldsTo step v ys w → FoldsTo step u (xs ++ ys) w
folds_on step [] ys u v w first next = subst (λ x. FoldsTo step x ys w) (sym first) next
folds_on step (x ∷ xs) ys u v w first next = (first.0, first.1, folds_on step xs ys first.0 v w first.2 next)

-- one slot more
pub visits_next : {V : Type 0} (step : V → SlotAt → V → Type 0) (given mid later : List ℕ) (old walk : Walking) (u v w : V) (met : PlacedSlot) → Visits step given mid old u v → Meets mid later walk (Some met) → step v (slot_met met) w → Visits step given later walk u w
visits_next step given mid later old walk u v w met before meets on = record {
  walked = meets.walked;
  seen = before.seen ++ slot_met met ∷ [];
  slots = meets.slots ∙ ap (λ l. l ++ slot_met met ∷ []) before.slots ∙ append_assoc (placed_slots given) before.seen (slot_met met ∷ []);
  folds = FoldsTo-push step u before.seen v (slot_met met) w before.folds on;
}

-- no slot ends in what is left
pub visits_end : {V : Type 0} (step : V → SlotAt → V → Type 0) (given mid later : List ℕ) (old walk : Walking) (u v : V) → Visits step given mid old u v → Meets mid later walk None → Visits step given later walk u v
visits_end step given mid later old walk u v before meets = record { walked = meets.walked; seen = before.seen; slots = meets.slots ∙ append-nil (placed_slots mid) ∙ before.slots; folds = before.folds }

-- slots at which a visitor stays as it is
stays : {V A : Type 0} (step : V → A → V → Type 0) (v : V) (xs : List A) → All (λ x. step v x v) xs → FoldsTo step v xs v
stays step v [] all = refl
stays step v (x ∷ xs) all = (v, all 0 x (omega arith), stays step v xs (λ k d l. all (suc k) d (omega (arith, l))))

pub visits_passed : {V : Type 0} (step : V → SlotAt → V → Type 0) (passing : Passing) (given later : List ℕ) (walk : Walking) (v : V) → ((s : SlotAt) → IsOther passing s.item → step v s v) → Passes passing given later walk → Visits step given later walk v v
visits_passed step passing given later walk v same passes = record { walked = passes.walked; seen = passes.seen; slots = passes.slots; folds = stays step v passes.seen (λ k d l. same (get_or passes.seen k d) (passes.others k d l)) }

-- words after others
pub visits_on : {V : Type 0} (step : V → SlotAt → V → Type 0) (given mid later : List ℕ) (old walk : Walking) (u v w : V) → Visits step given mid old u v → Visits step mid later walk v w → Visits step given later walk u w
visits_on step given mid later old walk u v w first next = record {
  walked = next.walked;
  seen = first.seen ++ next.seen;
  slots = next.slots ∙ ap (λ l. l ++ next.seen) first.slots ∙ append_assoc (placed_slots given) first.seen next.seen;
  folds = folds_on step first.seen next.seen u v w first.folds next.folds;
}

-- ---- pages of a directory
-- The first k data pages are full, and the slots that end in them were taken.
pub record VisitedTo {V : Type 0} (step : V → SlotAt → V → Type 0) (p : Pack) (f : Fid) (k : ℕ) (walk : Walking) (old new : V) : Type 0 where
  pub before : FullBefore p f k
  pub walked : Walked (take (256 * k) (file_words p f)) walk
  pub folds : FoldsTo step old (placed_slots (take (256 * k) (file_words p f))) new

module _ {V : Type 0} (step : V → SlotAt → V → Type 0) (p : Pack) (f : Fid) where
  pub visited_none : (walk : Walking) (v : V) → Walked [] walk → placed_slots [] ≡ [] → VisitedTo step p f 0 walk v v
  visited_none walk v walked none = record { before = none_before_the_first p f; walked = walked; folds = subst (λ l. FoldsTo step v l v) (sym none) refl }

  -- what a page adds
  page_taken : (k at : ℕ) (walk later : Walking) (u v w : V) → VisitedTo step p f k walk u v → place (sights p) f (suc k) ≡ Some at → Visits step (take (256 * k) (file_words p f)) (take (256 * k) (file_words p f) ++ words_at p at) later v w
      → Walked (take (256 * k + length (words_at p at)) (file_words p f)) later × FoldsTo step u (placed_slots (take (256 * k + length (words_at p at)) (file_words p f))) w
  page_taken k at walk later u v w so_far placed page =
      let on = page_words_go_on p f k at so_far.before placed in (
        subst (λ l. Walked l later) on page.walked,
        subst (λ l. FoldsTo step u (placed_slots l) w) on (subst (λ l. FoldsTo step u l w) (sym page.slots) (folds_on step (placed_slots (take (256 * k) (file_words p f))) page.seen u v w so_far.folds page.folds)),
      )

  -- a full page more
  pub visited_more : (k at : ℕ) (walk later : Walking) (u v w : V) → VisitedTo step p f k walk u v → place (sights p) f (suc k) ≡ Some at → length (sector_at p at).value ≡ 256 → length (bytes_at p at) ≡ 512
      → Visits step (take (256 * k) (file_words p f)) (take (256 * k) (file_words p f) ++ words_at p at) later v w → VisitedTo step p f (suc k) later u w
  visited_more k at walk later u v w so_far placed sized full page =
      let both = page_taken k at walk later u v w so_far placed page in
      let half : length (bytes_at p at) / 2 ≡ 256 = omega (arith, full) in
      let long : length (words_at p at) ≡ 256 = ap (λ n. length (take n (sector_at p at).value)) half ∙ length-take-le 256 (sector_at p at).value (omega (arith, sized)) in
      let next : 256 * k + length (words_at p at) ≡ 256 * suc k = omega (arith, long) in
      record {
        before = full_before_the_next p f k so_far.before (record { at = at; sector = placed; full = full });
        walked = subst (λ n. Walked (take n (file_words p f)) later) next both.0;
        folds = subst (λ n. FoldsTo step u (placed_slots (take n (file_words p f))) w) next both.1;
      }

  -- all words were given
  all_given : (n : ℕ) (u w : V) → length (file_words p f) ≤ n → FoldsTo step u (placed_slots (take n (file_words p f))) w → FoldsTo step u (dir_slots p f) w
  all_given n u w all folds = subst (λ l. FoldsTo step u (placed_slots l) w) (take_all n (file_words p f) all) folds

  -- the last page
  pub visited_last : (k at : ℕ) (walk later : Walking) (u v w : V) → VisitedTo step p f k walk u v → place (sights p) f (suc k) ≡ Some at → length (sector_at p at).value ≡ 256 → length (bytes_at p at) < 512
      → Visits step (take (256 * k) (file_words p f)) (take (256 * k) (file_words p f) ++ words_at p at) later v w → FoldsTo step u (dir_slots p f) w
  visited_last k at walk later u v w so_far placed sized short page =
      let both = page_taken k at walk later u v w so_far placed page in
      let end = (last_page_ends_the_file p f k at so_far.before placed (inl short)).size in
      let words = length-words_of (file_bytes (sights p) f) in
      let long = length-take-le (length (bytes_at p at) / 2) (sector_at p at).value (omega (arith, sized, short)) in
      all_given (256 * k + length (words_at p at)) u w (omega (arith, end, words, long)) both.1

  -- no page comes after the one with the greatest number
  pub visited_all : (k : ℕ) (walk : Walking) (u v : V) → k ≡ 65535 → VisitedTo step p f k walk u v → FoldsTo step u (dir_slots p f) v
  visited_all k walk u v top so_far =
      let size = missing_page_ends_the_file p f k so_far.before (none (place (sights p) f (suc k)) refl) in
      let words = length-words_of (file_bytes (sights p) f) in
      all_given (256 * k) u v (omega (arith, size, words)) so_far.folds
    where
      none : (r : Option ℕ) → place (sights p) f (suc k) ≡ r → place (sights p) f (suc k) ≡ None
      none None e = e
      none (Some at) e = let low = page_numbers_are_words p f (suc k) at e in absurd (omega (arith, low, top))

-- ---- the words of a page that was located
pub take_short : (n : ℕ) (words : List ℕ) → length (take n words) ≤ n
take_short zero words = omega arith
take_short (suc n) [] = omega arith
take_short (suc n) (w ∷ words) = let h = take_short n words in omega (arith, h)

-- as many bytes count as its label says
pub counts_here : {form : Shape} {page : Page} {info : PageInfo} {buffer : Sector} (p : Pack) (f : Fid) (k at : ℕ) → place (sights p) f (suc k) ≡ Some at → Seen form page at info buffer → buffer ≡ sector_at p at → length (bytes_at p at) ≡ info.bytes
counts_here {info = info} {buffer} p f k at placed seen holds =
    let sized : length (sector_at p at).value ≡ 256 = ap (λ (s : Sector). length s.value) (sym holds) ∙ seen.sized in
    (labels_count p f k at placed).says sized ∙ ap (λ (s : Sector). word s.label 3) (sym holds) ∙ sym (ap (λ (i : PageInfo). i.bytes) seen.tells)

-- and the words of the buffer up to there are the page's
pub words_here : {form : Shape} {page : Page} {info : PageInfo} {buffer : Sector} (p : Pack) (f : Fid) (k at : ℕ) → place (sights p) f (suc k) ≡ Some at → Seen form page at info buffer → buffer ≡ sector_at p at → take (info.bytes / 2) buffer.value ≡ words_at p at
words_here {buffer = buffer} p f k at placed seen holds =
    ap (λ n. take (n / 2) buffer.value) (sym (counts_here p f k at placed seen holds)) ∙ ap (λ (s : Sector). take (length (bytes_at p at) / 2) s.value) holds

-- the end of the directory is in its last page
pub ends_here : (p : Pack) (f : Fid) (k at : ℕ) → FullBefore p f k → place (sights p) f (suc k) ≡ Some at → length (bytes_at p at) < 512 → page_of_byte (file_length p f) ≡ suc k
ends_here p f k at before placed short = let end = (last_page_ends_the_file p f k at before placed (inl short)).size in omega (arith, end, short)

-- of the greatest number too
pub ends_full : (p : Pack) (f : Fid) (k : ℕ) → FullBefore p f k → k ≡ 65535 → k ≤ page_of_byte (file_length p f)
ends_full p f k before top = let many = full_bytes p f k before in omega (arith, many)
