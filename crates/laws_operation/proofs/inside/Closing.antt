-- Closing: DiskDescriptor's data pages are written, from the last to the first.
use Rattle.std.proofs.Common.{List, Some, [], ap, arith, get_or, inl, inr, length, refl, set, subst, suc, sym, ℕ, ◌*◌, ◌++◌, ◌+◌, ◌/◌, ◌<◌, ◌∙◌, ◌∷◌, ◌≡◌, ◌≤◌, ◌⊎◌}
use Rattle.std.proofs.lemmas.Bool.{cases_eq, cases_lt}
use Rattle.std.proofs.lemmas.List.{get_or_append_left, length-append, length-take, set_past}
use Rattle.laws_contents.specs.alto_words.specs.Fid.{disk_descriptor}
use Rattle.laws_contents.specs.disk_records.specs.Addresses.{descriptor_length}
use Rattle.laws_contents.specs.disk_records.specs.Commands.{value_writes}
use Rattle.laws_contents.specs.disk_records.specs.Labels.{tag}
use Rattle.laws_contents.specs.disk_records.specs.Packs.{Pack, after, no_sector, sector_at, with_part}
use Rattle.laws_contents.specs.disk_records.specs.Words.{word}
use Rattle.laws_contents.specs.pack_model.specs.reading.Bytes.{bytes_of, words_of}
use Rattle.laws_contents.specs.pack_model.specs.reading.Files.{file_bytes, lives, place}
use Rattle.laws_contents.specs.pack_model.specs.reading.Model.{descriptor_words, is_named, last_serial, read_as, read_sights}
use Rattle.laws_contents.specs.pack_model.specs.reading.Sights.{Sight, sights}
use Rattle.laws_contents.specs.pack_model.specs.reading.Sights.Sight.{holds}
use Rattle.laws_contents.specs.pack_model.specs.states.Whole.{PageAt, SaysShape, Tidy, TidySights, Whole, WholeSights}
use Rattle.laws_contents.specs.pack_laws.proofs.Bytes.{length-bytes_of, length-words_of}
use Rattle.laws_contents.specs.laws_record.specs.QuietLaws.{counted_of}
use Rattle.laws_operation.proofs.inside.DescriptorValue.{descriptor_reads, descriptor_tidy, descriptor_whole, lives_still, one_page_of, page_stays}
use Rattle.laws_operation.proofs.inside.Evens.{even_by, words_of-append}
use Rattle.laws_operation.proofs.Lying.{together-append}
use Rattle.laws_operation.proofs.inside.OpeningMark.{last_read, last_there}
use Rattle.laws_operation.proofs.Seating.{AllFull, laid_front}
use Rattle.laws_operation.specs.ByteLaws.{together}
use Rattle.laws_operation.specs.DescriptorLaws.{KeepsSound}
use Rattle.laws_contents.specs.pack_laws.proofs.Guarding.{here_written, other_kept}

-- ---- what stays until the last record write
-- What is read, what is whole and sound, the words before the map, and how long the values are.
pub record Mid (p q : Pack) : Type 0 where
  pub shape : q.shape ≡ p.shape
  pub read : read_as q ≡ read_as p
  pub keeps : KeepsSound p q
  pub words : (j : ℕ) → j < 9 → word (descriptor_words (sights q)) j ≡ word (descriptor_words (sights p)) j
  pub sized : (i : ℕ) → length (sector_at p i).value ≡ 256 → length (sector_at q i).value ≡ 256

-- from one pack to the next
pub mid_twice : (p q r : Pack) → Mid p q → Mid q r → Mid p r
mid_twice p q r x y = record {
  shape = y.shape ∙ x.shape;
  read = y.read ∙ x.read;
  keeps = record { whole = y.keeps.whole; tidy = y.keeps.tidy; sound = λ s. y.keeps.sound (x.keeps.sound s); places = λ n. y.keeps.places n ∙ x.keeps.places n };
  words = λ j l. y.words j l ∙ x.words j l;
  sized = λ i e. y.sized i (x.sized i e);
}

-- the pack itself
pub mid_itself : (p : Pack) → Whole p → Tidy p → Mid p p
mid_itself p w t = record { shape = refl; read = refl; keeps = record { whole = w; tidy = t; sound = λ s. s; places = λ n. refl }; words = λ j l. refl; sized = λ i e. e }

-- ---- one data page
-- a value of 256 words has as many counted bytes as another
pub sizes_same : (p : Pack) (at : ℕ) (v w : List ℕ) → length v ≡ 256 → length w ≡ 256 → length (counted_of p at w) ≡ length (counted_of p at v)
sizes_same p at v w a b =
    let c : ℕ = (tag (sector_at p at).label).bytes in
    let x = length-take c (bytes_of w) in
    let y = length-take c (bytes_of v) in
    let s = length-bytes_of w in
    let t = length-bytes_of v in
    omega (arith, a, b, x, y, s, t)

-- a value leaves a sector's length, and those of others
pub value_sized : (p : Pack) (at i : ℕ) (value : List ℕ) → length value ≡ 256 → length (sector_at p i).value ≡ 256 → length (sector_at (after p (value_writes at value)) i).value ≡ 256
value_sized p at i value size e = elim (cases_eq i at) [
  | inl same ↦ by (value_there p at value i)
  | inr other ↦ ap (λ s. length s.value) (other_kept p at 2 value i other) ∙ e
]
  where
    by : (sector_at (after p (value_writes at value)) i ≡ sector_at p i) ⊎ ((i ≡ at) × ((sector_at (after p (value_writes at value)) i).value ≡ value)) → length (sector_at (after p (value_writes at value)) i).value ≡ 256
    by (inl same) = ap (λ s. length s.value) same ∙ e
    by (inr here) = ap length here.1 ∙ size

    value_there : (p : Pack) (at : ℕ) (value : List ℕ) (i : ℕ) → (sector_at (after p (value_writes at value)) i ≡ sector_at p i) ⊎ ((i ≡ at) × ((sector_at (after p (value_writes at value)) i).value ≡ value))
    value_there p at value i = elim (cases_lt at (length p.sectors)) [
      | inl l ↦ elim (cases_eq i at) [
        | inl same ↦ inr (same, ap (λ k. (sector_at (after p (value_writes at value)) k).value) same ∙ ap (λ s. s.value) (here_written p at 2 value l))
        | inr other ↦ inl (other_kept p at 2 value i other)
      ]
      | inr l ↦ inl (ap (λ ss. get_or ss i no_sector) (set_past p.sectors at (with_part 2 value (sector_at p at)) l))
    ]

-- the words before the map stand in the first page
head_words : (c : PageAt) (more : List PageAt) (j : ℕ) → length c.1 ≡ 512 → j < 9 → word (words_of (together (c ∷ more))) j ≡ word (words_of c.1) j
head_words c more j full l =
    let half : length (words_of c.1) ≡ length c.1 / 2 = length-words_of c.1 in
    ap (λ ws. word ws j) (words_of-append c.1 (together more) (even_by 256 c.1 full)) ∙ get_or_append_left (words_of c.1) (words_of (together more)) 0 j (omega (arith, half, full, l))

-- a page that isn't the first one
later_words : (front : List PageAt) (at : ℕ) (x y : List ℕ) (later : List PageAt) (k j : ℕ) → AllFull front → length front ≡ suc k → j < 9 → word (words_of (together (front ++ (at, x) ∷ later))) j ≡ word (words_of (together (front ++ (at, y) ∷ later))) j
later_words [] at x y later k j full n l = absurd (omega (arith, n))
later_words (c ∷ front) at x y later k j full n l = head_words c (front ++ (at, x) ∷ later) j full.0 l ∙ sym (head_words c (front ++ (at, y) ∷ later) j full.0 l)

-- as DiskDescriptor is whole, its words are there
words_long : (p : Pack) → Whole p → 16 ≤ length (descriptor_words (sights p))
words_long p w = let half = length-words_of (file_bytes (sights p) disk_descriptor) in let all = w.descriptor_fits.size in omega (arith, half, all)

-- the last serial by its words
serial_by : (a b : List ℕ) → 16 ≤ length a → 16 ≤ length b → word a 4 ≡ word b 4 → word a 5 ≡ word b 5 → last_serial a ≡ last_serial b
serial_by a b x y e f = last_there a x ∙ (λ i. e i * 65536 + f i) ∙ sym (last_there b y)

-- such a page gets another value
pub later_page : (p : Pack) → Whole p → Tidy p → (k at : ℕ) (value : List ℕ) → place (sights p) disk_descriptor (suc (suc k)) ≡ Some at → length (sector_at p at).value ≡ 256 → length value ≡ 256 → Mid p (after p (value_writes at value))
later_page p w t k at value sector was size =
    let q : Pack = after p (value_writes at value) in
    let o = one_page_of p w (suc k) at value sector (sizes_same p at (sector_at p at).value value was size) in
    let pl = o.spot in
    let us : List Sight = set (sights p) at (holds disk_descriptor (suc k) (counted_of p at value)) in
    let same : length (counted_of p at value) ≡ length o.old = sizes_same p at (sector_at p at).value value was size ∙ ap length (sym o.old_is) in
    let words : (j : ℕ) → j < 9 → word (descriptor_words us) j ≡ word (descriptor_words (sights p)) j = λ j l.
    ap (λ b. word (words_of b) j) o.change.since ∙ later_words pl.front at (counted_of p at value) o.old pl.later k j (laid_front pl.front (at, o.old) pl.later pl.laid) pl.number l ∙ sym (ap (λ b. word (words_of b) j) o.change.before) in
    let sums : (x : List ℕ) → length (together (pl.front ++ (at, x) ∷ pl.later)) ≡ length (together pl.front) + (length x + length (together pl.later)) = λ x.
    ap length (together-append pl.front ((at, x) ∷ pl.later)) ∙ length-append (together pl.front) (x ++ together pl.later) ∙ ap (λ n. length (together pl.front) + n) (length-append x (together pl.later)) in
    let total : length (together (pl.front ++ (at, counted_of p at value) ∷ pl.later)) ≡ length (together (pl.front ++ (at, o.old) ∷ pl.later)) = sums (counted_of p at value) ∙ ap (λ n. length (together pl.front) + (n + length (together pl.later))) same ∙ sym (sums o.old) in
    let long = words_long p w in
    let half = length-words_of (file_bytes us disk_descriptor) in
    let all : length (file_bytes us disk_descriptor) ≡ descriptor_length p.shape = ap length o.change.since ∙ total ∙ ap length (sym o.change.before) ∙ w.descriptor_fits.size in
    let long_now : 16 ≤ length (descriptor_words us) = omega (arith, half, all) in
    let serial : last_serial (descriptor_words us) ≡ last_serial (descriptor_words (sights p)) = serial_by (descriptor_words us) (descriptor_words (sights p)) long_now long (words 4 (omega arith)) (words 5 (omega arith)) in
    let s = w.descriptor_fits.says in
    let says : SaysShape p.shape (descriptor_words us) = record { disks = words 0 (omega arith) ∙ s.disks; cylinders = words 1 (omega arith) ∙ s.cylinders; heads = words 2 (omega arith) ∙ s.heads; sectors = words 3 (omega arith) ∙ s.sectors; table = words 8 (omega arith) ∙ s.table } in
    let x = last_read p in
    let whole : Whole q = subst (WholeSights p.shape) (sym o.sights_are) (descriptor_whole p.shape (sights p) us pl.lead _ _ o.change w says total (omega (arith, x, serial))) in
    let tidy : Tidy q = subst TidySights (sym o.sights_are) (descriptor_tidy p.shape (sights p) us pl.lead _ _ o.change t) in
    let read : read_as q ≡ read_as p = ap (read_sights p.shape) o.sights_are ∙ descriptor_reads p.shape (sights p) us pl.lead _ _ o.change ∙ ap (λ n. record (read_as p) { last = n }) (serial ∙ sym x) in
    let live : lives (sights q) ≡ lives (sights p) = ap lives o.sights_are ∙ lives_still p.shape (sights p) us pl.lead _ _ o.change in
    record {
      shape = refl;
      read = read;
      keeps = record { whole = whole; tidy = tidy; sound = λ s. record { whole = whole; tidy = tidy; named = λ f alive. ap (λ m. is_named m f) read ∙ s.named f (sym (ap (λ v. v f) live) ∙ alive) }; places = page_stays p (suc k) at value o };
      words = λ j l. ap (λ ss. word (descriptor_words ss) j) o.sights_are ∙ words j l;
      sized = λ i e. value_sized p at i value size e;
    }
