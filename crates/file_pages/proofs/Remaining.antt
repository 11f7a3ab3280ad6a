-- Which pages of a file are left midway.
use Rattle.std.proofs.Common.{Bool, List, None, Option, Some, [], add-one, ap, arith, cond, false, inl, inr, refl, set, suc, sym, true, zero, ℕ, ◌++◌, ◌+◌, ◌∙◌, ◌∷◌, ◌≡◌, ◌≢◌, ◌<◌, ◌≤◌, ◌⊎◌}
use Rattle.std.proofs.lemmas.Bool.{cases_eq}
use Rattle.alto_words.specs.declared.fid.Fid.{Fid}
use Rattle.disk_records.specs.Commands.{release_writes}
use Rattle.disk_records.specs.Packs.{Pack, carried, is_usable, sector_at}
use Rattle.disk_records.specs.Words.{word}
use Rattle.disk_records.specs.declared.records.Page.{Page}
use Rattle.label_check.specs.declared.errors.PageInfo.{PageInfo}
use Rattle.laws_call.specs.laws_contents.proofs.pages.Laws.{page_numbers_are_words}
use Rattle.laws_hint.specs.MapChanges.{marked}
use Rattle.laws_operation.proofs.lengths.Laws.{full_page_is_not_the_last, length_by_the_last_page}
use Rattle.laws_call.specs.laws_record.proofs.Carried.{carried_place}
use Rattle.laws_call.specs.pack_laws.proofs.Sighted.{counted}
use Rattle.pack_model.specs.operations.Commands.{releases_writes}
use Rattle.pack_model.specs.operations.Committing.{page_of_byte}
use Rattle.pack_model.specs.reading.Files.{place}
use Rattle.pack_model.specs.reading.Sights.{sights}
use Rattle.pack_model.specs.states.Whole.{Whole}
use Rattle.disk_records.specs.Labels.{in_range, tag}
use Rattle.page_seeking.specs.Seeking.{IsFull, file_length, length_at, page_number}
use Rattle.file_pages.specs.Releasing.{IsKnown, AreAfter}

one : {T : Type 0} {a b : T} → ◌≡◌ {A = Option T} (Some a) (Some b) → a ≡ b
one e = cc

-- a label that names a page is in range
ranged : (p : Pack) (at : ℕ) (page : Page) → carried p at ≡ Some page → in_range (tag (sector_at p at).label) ≡ true
ranged p at page e = by (is_usable p.shape at (sector_at p at)) (in_range (tag (sector_at p at).label)) refl e
  where
    by : (u r : Bool) → in_range (tag (sector_at p at).label) ≡ r → cond u (cond r (Some (record { fid = (tag (sector_at p at).label).fid; number = (tag (sector_at p at).label).page })) None) None ≡ Some page → in_range (tag (sector_at p at).label) ≡ true
    by false r is e = absurd cc
    by true false is e = absurd cc
    by true true is e = is

-- a page that is known counts 512 bytes at most
pub most_bytes : (p : Pack) (page : Page) (at : ℕ) (info : PageInfo) → IsKnown p page at info → info.bytes ≤ 512
most_bytes p page at info known =
    let count : info.bytes ≡ word (sector_at p at).label 3 = ap (λ (i : PageInfo). i.bytes) (known.tells) in
    let most = counted (tag (sector_at p at).label) (ranged p at page (known.carries)) in
    omega (arith, count, most)

-- ---- another page comes
-- the first of those that are left, in its sector, and the rest
pub record NextOf (p : Pack) (f : Fid) (number : ℕ) (pages : List ℕ) : Type 0 where
  pub to : ℕ
  pub rest : List ℕ
  pub split : pages ≡ to ∷ rest
  pub alone : (i : ℕ) → carried p i ≡ Some (page_number f (number + 1)) → i ≡ to
  pub left : AreAfter p f (number + 1) rest

pub more_after : (p : Pack) (f : Fid) (number at : ℕ) (info : PageInfo) → IsKnown p (page_number f number) at info → IsFull (page_number f number) info.bytes → Whole p → number < page_of_byte (file_length p f)
more_after p f number at info known (inl first) whole = omega (arith, first)
more_after p f zero at info known (inr full) whole = omega arith
more_after p f (suc k) at info known (inr full) whole =
    full_page_is_not_the_last p f k at whole (record { sector = carried_place p whole at (page_number f (suc k)) (known.carries); sized = known.sized; bytes = sym (ap (λ (i : PageInfo). i.bytes) (known.tells)) ∙ full })

pub next_of : (p : Pack) (f : Fid) (number at : ℕ) (info : PageInfo) (pages : List ℕ) → IsKnown p (page_number f number) at info → IsFull (page_number f number) info.bytes → AreAfter p f number pages → NextOf p f number pages
next_of p f number at info [] known full left = let count = left.count in let more = more_after p f number at info known full left.whole in absurd (omega (arith, count, more))
next_of p f number at info (x ∷ xs) known full left =
    let count = left.count in
    let next : number + 1 ≡ suc number = add-one number in
    record {
      to = x;
      rest = xs;
      split = refl;
      alone = λ i there. one (sym (carried_place p left.whole i (page_number f (number + 1)) there) ∙ ap (place (sights p) f) next ∙ left.bear.0);
      left = record { whole = left.whole; bear = rw next left.bear.1; count = omega (arith, count) };
    }

-- ---- no other page comes
-- a page that isn't full tells the length
pub short_size : (p : Pack) (f : Fid) (number at : ℕ) (info : PageInfo) → IsKnown p (page_number f number) at info → Whole p → 1 ≤ number → info.bytes ≢ 512 → length_at number info.bytes ≡ file_length p f
short_size p f zero at info known whole first short = absurd (omega (arith, first))
short_size p f (suc k) at info known whole first short =
    let most = most_bytes p (page_number f (suc k)) at info known in
    let is = length_by_the_last_page p f k at info.bytes whole (record { sector = carried_place p whole at (page_number f (suc k)) known.carries; sized = known.sized; bytes = sym (ap (λ (i : PageInfo). i.bytes) known.tells) }) (omega (arith, most, short)) in
    omega (arith, is)

-- and no page comes after it
pub short_end : (p : Pack) (f : Fid) (number at : ℕ) (info : PageInfo) → IsKnown p (page_number f number) at info → Whole p → 1 ≤ number → info.bytes ≢ 512 → page_of_byte (file_length p f) ≤ number
short_end p f number at info known whole first short =
    let size = short_size p f number at info known whole first short in
    let most = most_bytes p (page_number f number) at info known in
    omega (arith, size, first, short, most)

-- no page has a number past that of the last
pub up_to_end : (p : Pack) (f : Fid) (number at : ℕ) (info : PageInfo) → IsKnown p (page_number f number) at info → Whole p → number ≤ page_of_byte (file_length p f)
up_to_end p f zero at info known whole = omega arith
up_to_end p f (suc k) at info known whole = elim (cases_eq info.bytes 512) [
  | inl full ↦ let more = more_after p f (suc k) at info known (inr full) whole in omega (arith, more)
  | inr short ↦
      let size = short_size p f (suc k) at info known whole (omega arith) short in
      let most = most_bytes p (page_number f (suc k)) at info known in
      omega (arith, size, most, short)
]

pub none_left : (p : Pack) (f : Fid) (number at : ℕ) (info : PageInfo) (pages : List ℕ) → IsKnown p (page_number f number) at info → 1 ≤ number → (info.bytes ≢ 512) ⊎ (number ≡ 65535) → AreAfter p f number pages → pages ≡ []
none_left p f number at info [] known first ends left = refl
none_left p f number at info (x ∷ pages) known first (inl short) left =
    let size = short_size p f number at info known left.whole first short in
    let most = most_bytes p (page_number f number) at info known in
    let count = left.count in
    absurd (omega (arith, size, first, short, most, count))
none_left p f number at info (x ∷ pages) known first (inr top) left = let word = page_numbers_are_words p f (suc number) x left.bear.0 in absurd (omega (arith, word, top))

-- ---- lists that get one more
pub releases_more : (done : List ℕ) (to : ℕ) → releases_writes (done ++ to ∷ []) ≡ releases_writes done ++ release_writes to
releases_more [] to = refl
releases_more (x ∷ done) to = ap (λ l. release_writes x ++ l) (releases_more done to)

pub releases_joined : (done rest : List ℕ) → releases_writes (done ++ rest) ≡ releases_writes done ++ releases_writes rest
releases_joined [] rest = refl
releases_joined (x ∷ done) rest = ap (λ l. release_writes x ++ l) (releases_joined done rest)

pub marked_more : (done : List ℕ) (to : ℕ) (busy : Bool) (table : List Bool) → marked busy (done ++ to ∷ []) table ≡ set (marked busy done table) to busy
marked_more [] to busy table = refl
marked_more (x ∷ done) to busy table = marked_more done to busy (set table x busy)
