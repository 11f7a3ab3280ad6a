-- Lengths of files by the counts of their pages.
use Rattle.std.proofs.Common.{Bool, List, None, Option, Some, [], ap, arith, false, get_or, inl, inr, leb-true, length, min, nat_le, refl, suc, sym, true, zero, ℕ, ◌*◌, ◌++◌, ◌+◌, ◌<◌, ◌∙◌, ◌∷◌, ◌≡◌}
use Rattle.std.proofs.lemmas.Bool.{le-leb}
use Rattle.std.proofs.lemmas.List.{append-nil, length-append, length-take}
use Rattle.std.specs.Option.{is_some}
use Rattle.laws_contents.specs.alto_words.specs.declared.fid.Fid.{Fid}
use Rattle.laws_contents.specs.disk_records.specs.Labels.{tag}
use Rattle.laws_contents.specs.disk_records.specs.Packs.{Pack, sector_at}
use Rattle.laws_contents.specs.disk_records.specs.declared.records.Sector.{Sector}
use Rattle.laws_contents.specs.disk_records.specs.declared.shape.Shape.{Shape}
use Rattle.laws_contents.specs.pack_model.specs.reading.Bytes.{bytes_of}
use Rattle.laws_contents.specs.pack_model.specs.operations.Committing.{page_of_byte}
use Rattle.laws_contents.specs.pack_model.specs.reading.Files.{carries_page, file_bytes, lives, place}
use Rattle.laws_contents.specs.pack_model.specs.reading.Model.{good_one}
use Rattle.laws_contents.specs.pack_model.specs.reading.Sights.{Sight, sight, sights}
use Rattle.laws_contents.specs.pack_model.specs.reading.Sights.Sight.{hidden, holds}
use Rattle.laws_contents.specs.pack_model.specs.states.Whole.{HasPages, FileWhole, IsLaid, PageAt, Whole, absent, present}
use Rattle.laws_contents.specs.pack_laws.proofs.Bytes.{length-bytes_of}
use Rattle.laws_contents.specs.pack_laws.proofs.Placing.{carries-holds, page_of_place, place_none}
use Rattle.laws_contents.specs.pack_laws.proofs.Sighted.{counted, shows_page}
use Rattle.laws_contents.specs.laws_record.proofs.Seats.{seat_range}
use Rattle.laws_operation.proofs.Changing.{length-together, seat_of}
use Rattle.laws_operation.proofs.Lying.{bytes_laid, seat_here, together-append, within}
use Rattle.laws_operation.proofs.Rows.{pages_by_bytes}
use Rattle.laws_operation.proofs.Seating.{carries_none, laid_back, laid_front, leader_none_is}
use Rattle.laws_operation.proofs.Showing.{sight_is}
use Rattle.laws_operation.specs.ByteLaws.{together}
use Rattle.laws_operation.proofs.inside.looks.Borne.{file_lives_in_a_place}
use Rattle.laws_operation.specs.LengthLaws.{CountsPage, FullPageIsNotTheLast, LengthByTheLastPage, PagesBeforeTheLastAreFull, PlacedPagesAreThoseUpToTheLast}

-- ---- one page of a whole file
-- of a value of 256 words as many bytes count as the label says
page_count : (shape : Shape) (at : ℕ) (s : Sector) (f : Fid) (n : ℕ) (bytes : List ℕ) → length s.value ≡ 256 → sight shape at s ≡ holds f n bytes → length bytes ≡ (tag s.label).bytes
page_count shape at s f n bytes long e =
    let h = shows_page shape at s f n bytes e in
    let most = counted (tag s.label) h.ranged in
    let size : length bytes ≡ min (tag s.label).bytes (length (bytes_of s.value)) = ap length h.bytes_are ∙ length-take (tag s.label).bytes (bytes_of s.value) in
    let twice = length-bytes_of s.value in
    omega arith

-- pages after one that isn't full are none
none_behind : (c : PageAt) (later : List PageAt) → IsLaid (c ∷ later) → length c.1 < 512 → later ≡ []
none_behind c [] l short = refl
none_behind c (d ∷ later) l short = absurd (let e = l.0 in omega arith)

-- and one after which there are some is full
full_before : (c : PageAt) (later : List PageAt) → IsLaid (c ∷ later) → 0 < length later → length c.1 ≡ 512
full_before c [] l some = absurd (omega arith)
full_before c (d ∷ later) l some = l.0

-- What the pages of a file are around one of them.
record Among (p : Pack) (f : Fid) (k count : ℕ) : Type 0 where
  front : List PageAt
  here : PageAt
  later : List PageAt
  number : length front ≡ k
  size : length here.1 ≡ count
  before : length (together front) ≡ 512 * k
  laid : IsLaid (here ∷ later)
  all : length (file_bytes (sights p) f) ≡ length (together front) + length (together (here ∷ later))
  last : page_of_byte (length (file_bytes (sights p) f)) ≡ k + suc (length later)

among : (p : Pack) (f : Fid) (k at count : ℕ) → Whole p → CountsPage p f k at count → Among p f k count
among p f k at count w h =
    let ss : List Sight = sights p in
    let s = page_of_place ss f k at h.sector in
    let pl = seat_of ss f k at s.bytes (w.files f) (s.shows hidden) in
    let c : PageAt = (at, s.bytes) in
    let pages : List PageAt = pl.front ++ c ∷ pl.later in
    let bytes : length (file_bytes ss f) ≡ length (together pages) = ap length (bytes_laid ss f pages (length pages) [] (carries_none ss f pages 0 (length pages) pl.carries) (omega arith) pl.laid pl.few) in
    let parts : length (together pages) ≡ length (together pl.front) + length (together (c ∷ pl.later)) = ap length (together-append pl.front (c ∷ pl.later)) ∙ length-append (together pl.front) (together (c ∷ pl.later)) in
    let number = pl.number in
    let many : length pages ≡ length pl.front + suc (length pl.later) = length-append pl.front (c ∷ pl.later) in
    record {
      front = pl.front;
      here = c;
      later = pl.later;
      number = pl.number;
      size = page_count p.shape at (sector_at p at) f k s.bytes h.sized (sym (sight_is p at (ap good_one (s.shows hidden))) ∙ s.shows hidden) ∙ h.bytes;
      before = length-together pl.front (laid_front pl.front c pl.later pl.laid) ∙ ap (λ n. 512 * n) pl.number;
      laid = laid_back pl.front c pl.later pl.laid;
      all = bytes ∙ parts;
      last = ap page_of_byte bytes ∙ sym (pages_by_bytes pages pl.laid) ∙ many ∙ ap (λ n. n + suc (length pl.later)) number;
    }

pub length_by_the_last_page : LengthByTheLastPage
length_by_the_last_page p f k at count w h short =
    let a = among p f k at count w h in
    let size = a.size in
    let none : a.later ≡ [] = none_behind a.here a.later a.laid (omega arith) in
    let one : length (together (a.here ∷ a.later)) ≡ count = ap (λ x. length (together (a.here ∷ x))) none ∙ ap length (append-nil a.here.1) ∙ size in
    let all = a.all in
    let before = a.before in
    omega arith

pub pages_before_the_last_are_full : PagesBeforeTheLastAreFull
pages_before_the_last_are_full p f k at count w h low =
    let a = among p f k at count w h in
    let last = a.last in
    sym a.size ∙ full_before a.here a.later a.laid (omega arith)

pub full_page_is_not_the_last : FullPageIsNotTheLast
full_page_is_not_the_last p f k at w h =
    let a = among p f k at 512 w h in
    let all = a.all in
    let before = a.before in
    let size = a.size in
    let parts : length (together (a.here ∷ a.later)) ≡ length a.here.1 + length (together a.later) = length-append a.here.1 (together a.later) in
    omega arith

-- ---- all pages
-- which data pages of a file that carries these have a place
placed_pages : (ss : List Sight) (f : Fid) (pages : List PageAt) → HasPages ss f pages 0 [] → (m : ℕ) → is_some (place ss f (suc m)) ≡ nat_le (suc m) (length pages)
placed_pages ss f pages c m = by (place ss f (suc m)) refl (nat_le (suc m) (length pages)) refl
  where
    by : (r : Option ℕ) → place ss f (suc m) ≡ r → (t : Bool) → nat_le (suc m) (length pages) ≡ t → is_some (place ss f (suc m)) ≡ nat_le (suc m) (length pages)
    by (Some i) e true l = ap is_some e ∙ sym l
    by None e false l = ap is_some e ∙ sym l
    by (Some i) e false l =
        let h = page_of_place ss f m i e in
        absurd (elim (c.only i m h.bytes (h.shows hidden)) [ inl s ↦ let r = seat_range 0 pages m i s in let g = le-leb (suc m) (length pages) (let below = r.1 in omega arith) in cc | inr s ↦ s ])
    by None e true l =
        let at : ℕ = (get_or pages m (0, [])).0 in
        let shown : get_or ss at hidden ≡ holds f (0 + m) (get_or pages m (0, [])).1 = (seat_here ss f 0 pages m (leb-true (suc m) (length pages) l) c.seated).0 in
        let z : 0 + m ≡ m = omega arith in
        let carried : carries_page f (suc m) (get_or ss at hidden) ≡ true = ap (carries_page f (suc m)) (shown ∙ ap (λ n. holds f n (get_or pages m (0, [])).1) z) ∙ carries-holds f m (get_or pages m (0, [])).1 in
        let not_carried = place_none ss f (suc m) at hidden e (within ss at (ap good_one shown)) in
        absurd cc

-- all of them
placed_numbers : (p : Pack) (f : Fid) → FileWhole (sights p) f → lives (sights p) f ≡ true → (n : ℕ) → is_some (place (sights p) f n) ≡ nat_le n (page_of_byte (length (file_bytes (sights p) f)))
placed_numbers p f whole live zero = sym (file_lives_in_a_place p f) ∙ live ∙ sym (le-leb 0 (page_of_byte (length (file_bytes (sights p) f))) (omega arith))
placed_numbers p f (absent h c) live (suc m) = let dead : lives (sights p) f ≡ false = ap is_some (leader_none_is (sights p) f h) in absurd cc
placed_numbers p f (present at l pages h c laid few) live (suc m) =
    let bytes : file_bytes (sights p) f ≡ together pages = bytes_laid (sights p) f pages (length pages) [] (carries_none (sights p) f pages 0 (length pages) c) (omega arith) laid few in
    placed_pages (sights p) f pages c m ∙ ap (nat_le (suc m)) (pages_by_bytes pages laid ∙ sym (ap (λ b. page_of_byte (length b)) bytes))

pub placed_pages_are_those_up_to_the_last : PlacedPagesAreThoseUpToTheLast
placed_pages_are_those_up_to_the_last p f n w live = placed_numbers p f (w.files f) live n
