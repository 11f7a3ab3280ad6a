-- Closing: the first data page, which is written last.
use Rattle.std.proofs.Common.{Bool, List, Some, [], ap, arith, drop, get_or, length, refl, set, subst, suc, sym, take, ℕ, ◌%◌, ◌*◌, ◌++◌, ◌+◌, ◌-◌, ◌/◌, ◌<◌, ◌∙◌, ◌∷◌, ◌≡◌, ◌≤◌}
use Rattle.std.proofs.lemmas.List.{get_or-take, get_or_append_left, length-append, length-replicate, length-take}
use Rattle.std.specs.Prelude.{replicate}
use Rattle.laws_contents.specs.alto_words.specs.Fid.{disk_descriptor}
use Rattle.laws_contents.specs.disk_records.specs.Addresses.{descriptor_length}
use Rattle.laws_contents.specs.disk_records.specs.Commands.{value_writes}
use Rattle.laws_contents.specs.disk_records.specs.Labels.{tag}
use Rattle.laws_contents.specs.disk_records.specs.Packs.{Pack, after, sector_at}
use Rattle.laws_contents.specs.disk_records.specs.Words.{word}
use Rattle.laws_contents.specs.disk_records.specs.declared.shape.Shape.{Shape}
use Rattle.laws_contents.specs.pack_model.specs.reading.Bytes.{bytes_of, words_of}
use Rattle.laws_contents.specs.pack_model.specs.sessions.Descriptor.{descriptor_text, descriptor_value}
use Rattle.laws_contents.specs.pack_model.specs.reading.Files.{file_bytes, lives, place}
use Rattle.laws_contents.specs.pack_model.specs.reading.Model.{descriptor_words, is_named, last_serial, read_as, read_sights}
use Rattle.laws_contents.specs.pack_model.specs.operations.PageWords.{filled}
use Rattle.laws_contents.specs.pack_model.specs.reading.Sights.{Sight, sights}
use Rattle.laws_contents.specs.pack_model.specs.reading.Sights.Sight.{holds}
use Rattle.laws_contents.specs.pack_model.specs.states.Sound.{mark_clean, mark_of}
use Rattle.laws_contents.specs.pack_model.specs.states.Whole.{PageAt, SaysShape, Tidy, TidySights, Whole, WholeSights}
use Rattle.laws_contents.specs.pack_laws.proofs.Bytes.{length-bytes_of, length-words_of, words_of-bytes_of}
use Rattle.laws_contents.specs.laws_record.proofs.Differing.{word_bytes}
use Rattle.laws_contents.specs.laws_record.specs.QuietLaws.{counted_of}
use Rattle.laws_operation.proofs.inside.Closing.{sizes_same}
use Rattle.laws_operation.proofs.inside.DescriptorValue.{descriptor_reads, descriptor_tidy, descriptor_whole, lives_still, one_page_of, page_stays}
use Rattle.laws_operation.proofs.FirstWords.{first_page_long}
use Rattle.laws_operation.proofs.Lying.{together-append}
use Rattle.laws_operation.proofs.inside.OpeningMark.{last_there}
use Rattle.laws_operation.specs.ByteLaws.{together}
use Rattle.laws_operation.specs.DescriptorLaws.{KeepsSound}

-- ---- the first data page
-- as many items as are asked for
filled_size : (n : ℕ) (items : List ℕ) → length items ≤ n → length (filled n items) ≡ n
filled_size n items l = let r : length {A = ℕ} (replicate (n - length items) 0) ≡ n - length items = length-replicate {A = ℕ} (n - length items) 0 in let z = length-append items (replicate (n - length items) 0) in omega (arith, l, r, z)

-- a page's value has 256 words
pub close_value_size : (shape : Shape) (last mark : ℕ) (busy : List Bool) (n : ℕ) → length (descriptor_value shape last mark busy n) ≡ 256
close_value_size shape last mark busy n = filled_size 256 (take 256 (drop (256 * n) (descriptor_text shape last mark busy))) (let z = length-take 256 (drop (256 * n) (descriptor_text shape last mark busy)) in omega arith)

-- the words of bytes, the first of which are those of these words
first_words : (c : ℕ) (value more : List ℕ) (j : ℕ) → j < 9 → 32 ≤ length (take c (bytes_of value)) → word (words_of (take c (bytes_of value) ++ more)) j ≡ word value j
first_words c value more j l long =
    let fresh : List ℕ = take c (bytes_of value) in
    let size = length-take c (bytes_of value) in
    let all = length-append fresh more in
    let half = length-words_of (fresh ++ more) in
    let twice = length-bytes_of value in
    let there : (i : ℕ) → i < 18 → get_or (fresh ++ more) i 0 ≡ get_or (bytes_of value) i 0 = λ i m. get_or_append_left fresh more 0 i (omega arith) ∙ get_or-take c (bytes_of value) i 0 (omega arith) in
    let whole : words_of (bytes_of value) ≡ value = words_of-bytes_of value in
    let count : length (words_of (bytes_of value)) ≡ length value = ap length whole in
    word_bytes (fresh ++ more) j (omega arith) ∙ (λ i. there (2 * j) (omega arith) i * 256 + there (suc (2 * j)) (omega arith) i) ∙ sym (word_bytes (bytes_of value) j (omega arith)) ∙ ap (λ ws. word ws j) whole

-- it has no page before it
none_before : (front : List PageAt) (at : ℕ) (x : List ℕ) (later : List PageAt) → length front ≡ 0 → together (front ++ (at, x) ∷ later) ≡ x ++ together later
none_before [] at x later n = refl
none_before (c ∷ front) at x later n = absurd (omega (arith, n))

-- What the last record write leaves.
pub record Marks (p q : Pack) : Type 0 where
  pub read : read_as q ≡ read_as p
  pub keeps : KeepsSound p q
  pub marked : mark_of (sights q) ≡ mark_clean

-- so it is
pub first_page : (p : Pack) → Whole p → Tidy p → (at : ℕ) (busy : List Bool) → place (sights p) disk_descriptor 1 ≡ Some at → length (sector_at p at).value ≡ 256 → Marks p (after p (value_writes at (descriptor_value p.shape (read_as p).last mark_clean busy 0)))
first_page p w t at busy sector was =
    let last : ℕ = (read_as p).last in
    let value : List ℕ = descriptor_value p.shape last mark_clean busy 0 in
    let size : length value ≡ 256 = close_value_size p.shape last mark_clean busy 0 in
    let q : Pack = after p (value_writes at value) in
    let same_count : length (counted_of p at value) ≡ length (counted_of p at (sector_at p at).value) = sizes_same p at (sector_at p at).value value was size in
    let o = one_page_of p w 0 at value sector same_count in
    let pl = o.spot in
    let us : List Sight = set (sights p) at (holds disk_descriptor 0 (counted_of p at value)) in
    let long : 32 ≤ length (counted_of p at value) = let x = first_page_long p w at sector in omega (arith, x, same_count) in
    let words : (j : ℕ) → j < 9 → word (descriptor_words us) j ≡ word value j = λ j l.
    ap (λ b. word (words_of b) j) (o.change.since ∙ none_before pl.front at (counted_of p at value) pl.later pl.number) ∙ first_words (tag (sector_at p at).label).bytes value (together pl.later) j l long in
    let same : length (counted_of p at value) ≡ length o.old = same_count ∙ ap length (sym o.old_is) in
    let sums : (x : List ℕ) → length (together (pl.front ++ (at, x) ∷ pl.later)) ≡ length (together pl.front) + (length x + length (together pl.later)) = λ x.
    ap length (together-append pl.front ((at, x) ∷ pl.later)) ∙ length-append (together pl.front) (x ++ together pl.later) ∙ ap (λ n. length (together pl.front) + n) (length-append x (together pl.later)) in
    let total : length (together (pl.front ++ (at, counted_of p at value) ∷ pl.later)) ≡ length (together (pl.front ++ (at, o.old) ∷ pl.later)) = sums (counted_of p at value) ∙ ap (λ n. length (together pl.front) + (n + length (together pl.later))) same ∙ sym (sums o.old) in
    let half = length-words_of (file_bytes us disk_descriptor) in
    let all : length (file_bytes us disk_descriptor) ≡ descriptor_length p.shape = ap length o.change.since ∙ total ∙ ap length (sym o.change.before) ∙ w.descriptor_fits.size in
    let long_now : 16 ≤ length (descriptor_words us) = omega (arith, half, all) in
    let halves_are : last / 65536 * 65536 + last % 65536 ≡ last = omega arith in
    let serial : last_serial (descriptor_words us) ≡ last = last_there (descriptor_words us) long_now ∙ (λ i. words 4 (omega arith) i * 65536 + words 5 (omega arith) i) ∙ halves_are in
    let says : SaysShape p.shape (descriptor_words us) = record { disks = words 0 (omega arith); cylinders = words 1 (omega arith); heads = words 2 (omega arith); sectors = words 3 (omega arith); table = words 8 (omega arith) } in
    let whole : Whole q = subst (WholeSights p.shape) (sym o.sights_are) (descriptor_whole p.shape (sights p) us pl.lead _ _ o.change w says total (omega (arith, serial))) in
    let tidy : Tidy q = subst TidySights (sym o.sights_are) (descriptor_tidy p.shape (sights p) us pl.lead _ _ o.change t) in
    let read : read_as q ≡ read_as p = ap (read_sights p.shape) o.sights_are ∙ descriptor_reads p.shape (sights p) us pl.lead _ _ o.change ∙ ap (λ n. record (read_as p) { last = n }) serial in
    let live : lives (sights q) ≡ lives (sights p) = ap lives o.sights_are ∙ lives_still p.shape (sights p) us pl.lead _ _ o.change in
    record {
      read = read;
      keeps = record { whole = whole; tidy = tidy; sound = λ s. record { whole = whole; tidy = tidy; named = λ f alive. ap (λ m. is_named m f) read ∙ s.named f (sym (ap (λ v. v f) live) ∙ alive) }; places = page_stays p 0 at value o };
      marked = ap (λ ss. word (descriptor_words ss) 6) o.sights_are ∙ words 6 (omega arith);
    }
