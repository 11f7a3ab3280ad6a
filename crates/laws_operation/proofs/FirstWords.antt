-- Words of DiskDescriptor's first data page: opening the mark, and a new serial.
use Rattle.std.proofs.Common.{List, Some, [], ap, arith, get_or, length, set, subst, sym, take, ℕ, ◌*◌, ◌++◌, ◌+◌, ◌/◌, ◌∙◌, ◌∷◌, ◌≡◌, ◌≤◌}
use Rattle.laws_contents.specs.alto_words.specs.Fid.{disk_descriptor}
use Rattle.laws_contents.specs.disk_records.specs.Addresses.{descriptor_length}
use Rattle.laws_contents.specs.disk_records.specs.Commands.{value_writes}
use Rattle.laws_contents.specs.disk_records.specs.Labels.{tag}
use Rattle.laws_contents.specs.disk_records.specs.Packs.{Pack, after, sector_at}
use Rattle.laws_contents.specs.pack_model.specs.reading.Bytes.{bytes_of, put_at, words_of}
use Rattle.laws_contents.specs.pack_model.specs.reading.Files.{file_bytes, lives, place}
use Rattle.laws_contents.specs.pack_model.specs.reading.Model.{descriptor_words, is_named, last_serial, read_as, read_sights}
use Rattle.laws_contents.specs.pack_model.specs.reading.Sights.{Sight, sights}
use Rattle.laws_contents.specs.pack_model.specs.reading.Sights.Sight.{hidden, holds}
use Rattle.laws_contents.specs.pack_model.specs.states.Whole.{PageAt, SaysShape, Tidy, TidySights, Whole, WholeSights}
use Rattle.laws_contents.specs.pack_laws.proofs.Bytes.{length-bytes_of, length-put_at, length-words_of, take-put_at}
use Rattle.laws_contents.specs.pack_laws.proofs.Placing.{page_of_place}
use Rattle.laws_contents.specs.laws_record.proofs.DirWords.{put_bytes, put_words}
use Rattle.laws_contents.specs.laws_record.specs.QuietLaws.{counted_of}
use Rattle.laws_operation.proofs.Changing.{seat_of}
use Rattle.laws_operation.proofs.inside.DescriptorValue.{OnePage, descriptor_reads, descriptor_tidy, descriptor_whole, lives_still, one_page_of, page_stays}
use Rattle.laws_operation.proofs.Grown.{old_counted}
use Rattle.laws_operation.proofs.Lying.{bytes_laid}
use Rattle.laws_operation.proofs.OneValue.{fits_page, put_there}
use Rattle.laws_operation.proofs.Seating.{carries_none, laid_front}
use Rattle.laws_operation.specs.ByteLaws.{together}
use Rattle.laws_operation.specs.DescriptorLaws.{KeepsSound}

-- the first data page has all words before the map
pub first_page_long : (p : Pack) (w : Whole p) (at : ℕ) → place (sights p) disk_descriptor 1 ≡ Some at → 32 ≤ length (counted_of p at (sector_at p at).value)
first_page_long p w at sector =
    let ss : List Sight = sights p in
    let here = page_of_place ss disk_descriptor 0 at sector in
    let old : List ℕ = here.bytes in
    let is : get_or ss at hidden ≡ holds disk_descriptor 0 old = here.shows hidden in
    let old_is : old ≡ counted_of p at (sector_at p at).value = old_counted p disk_descriptor 0 at old is in
    let pl = seat_of ss disk_descriptor 0 at old (w.files disk_descriptor) is in
    let pages : List PageAt = pl.front ++ (at, old) ∷ pl.later in
    let size : length (file_bytes ss disk_descriptor) ≡ length (together pages) = ap length (bytes_laid ss disk_descriptor pages (length pages) [] (carries_none ss disk_descriptor pages 0 (length pages) pl.carries) (omega arith) pl.laid pl.few) in
    let all = w.descriptor_fits.size in
    let l : 0 + 32 ≤ length old = fits_page pl.front at 0 old pl.later 0 32 pl.laid pl.number (omega arith) (omega (arith, size, all)) in
    subst (λ x. 32 ≤ length x) old_is (omega (arith, l))

-- Some of its words are written.
pub record WordsWritten (p : Pack) (at word_at : ℕ) (new : List ℕ) : Type 0 where
  pub page : OnePage p 0 at (put_at word_at new (sector_at p at).value)
  pub words : descriptor_words (sights (after p (value_writes at (put_at word_at new (sector_at p at).value)))) ≡ put_at word_at new (descriptor_words (sights p))
  pub size : length (together (page.spot.front ++ (at, counted_of p at (put_at word_at new (sector_at p at).value)) ∷ page.spot.later)) ≡ length (together (page.spot.front ++ (at, page.old) ∷ page.spot.later))
  pub long : 16 ≤ length (descriptor_words (sights p))

-- so it is within the first sixteen words
pub words_written : (p : Pack) (w : Whole p) (at word_at : ℕ) (new : List ℕ) → place (sights p) disk_descriptor 1 ≡ Some at → word_at + length new ≤ 16 → WordsWritten p at word_at new
words_written p w at word_at new sector few =
    let ss : List Sight = sights p in
    let v : List ℕ = (sector_at p at).value in
    let c : ℕ = (tag (sector_at p at).label).bytes in
    let value : List ℕ = put_at word_at new v in
    let long = first_page_long p w at sector in
    let twice : length (bytes_of new) ≡ 2 * length new = length-bytes_of new in
    let fits : 2 * word_at + length (bytes_of new) ≤ length (take c (bytes_of v)) = omega (arith, long, twice, few) in
    let counted : counted_of p at value ≡ put_at (2 * word_at) (bytes_of new) (counted_of p at v) = ap (take c) (put_bytes word_at new v) ∙ take-put_at c (2 * word_at) (bytes_of new) (bytes_of v) fits in
    let page = one_page_of p w 0 at value sector (ap length counted ∙ length-put_at (2 * word_at) (bytes_of new) (counted_of p at v) fits) in
    let pl = page.spot in
    let old : List ℕ = page.old in
    let fits_old : 2 * word_at + length (bytes_of new) ≤ length old = subst (λ x. 2 * word_at + length (bytes_of new) ≤ length x) (sym page.old_is) fits in
    let z : 512 * 0 + 2 * word_at ≡ 2 * word_at = omega arith in
    let before : List ℕ = together (pl.front ++ (at, old) ∷ pl.later) in
    let now : together (pl.front ++ (at, counted_of p at value) ∷ pl.later) ≡ put_at (2 * word_at) (bytes_of new) before =
    ap (λ x. together (pl.front ++ (at, x) ∷ pl.later)) (counted ∙ ap (put_at (2 * word_at) (bytes_of new)) (sym page.old_is))
    ∙ sym (put_there pl.front at 0 old pl.later (2 * word_at) (bytes_of new) (laid_front pl.front (at, old) pl.later pl.laid) pl.number fits_old) ∙ ap (λ k. put_at k (bytes_of new) before) z in
    let all = w.descriptor_fits.size in
    let total : length before ≡ descriptor_length p.shape = ap length (sym page.change.before) ∙ all in
    let within : 2 * word_at + length (bytes_of new) ≤ length before = omega (arith, total, twice, few) in
    let half : length (descriptor_words ss) ≡ length (file_bytes ss disk_descriptor) / 2 = length-words_of (file_bytes ss disk_descriptor) in
    record {
      page = page;
      words = ap descriptor_words page.sights_are ∙ ap words_of (page.change.since ∙ now) ∙ put_words word_at new before within ∙ ap (λ x. put_at word_at new (words_of x)) (sym page.change.before);
      size = ap length now ∙ length-put_at (2 * word_at) (bytes_of new) before within;
      long = omega (arith, half, all);
    }

-- what stays of a whole and tidy pack, where the words say the shape as before
pub kept_sound : (p : Pack) (w : Whole p) → Tidy p → (at word_at : ℕ) (new : List ℕ) (h : WordsWritten p at word_at new) → SaysShape p.shape (put_at word_at new (descriptor_words (sights p))) → (read_as p).last ≤ last_serial (put_at word_at new (descriptor_words (sights p)))
    → KeepsSound p (after p (value_writes at (put_at word_at new (sector_at p at).value)))
kept_sound p w t at word_at new h says grows =
    let value : List ℕ = put_at word_at new (sector_at p at).value in
    let q : Pack = after p (value_writes at value) in
    let o = h.page in
    let us : List Sight = set (sights p) at (holds disk_descriptor 0 (counted_of p at value)) in
    let words : descriptor_words us ≡ put_at word_at new (descriptor_words (sights p)) = ap descriptor_words (sym o.sights_are) ∙ h.words in
    let whole : Whole q = subst (WholeSights p.shape) (sym o.sights_are) (descriptor_whole p.shape (sights p) us o.spot.lead _ _ o.change w (subst (SaysShape p.shape) (sym words) says) h.size (subst (λ x. (read_as p).last ≤ last_serial x) (sym words) grows)) in
    let tidy : Tidy q = subst TidySights (sym o.sights_are) (descriptor_tidy p.shape (sights p) us o.spot.lead _ _ o.change t) in
    let live : lives (sights q) ≡ lives (sights p) = ap lives o.sights_are ∙ lives_still p.shape (sights p) us o.spot.lead _ _ o.change in
    let reads : read_as q ≡ record (read_as p) { last = last_serial (descriptor_words us) } = ap (read_sights p.shape) o.sights_are ∙ descriptor_reads p.shape (sights p) us o.spot.lead _ _ o.change in
    record {
      whole = whole;
      tidy = tidy;
      sound = λ s. record { whole = whole; tidy = tidy; named = λ f alive. ap (λ m. is_named m f) reads ∙ s.named f (sym (ap (λ v. v f) live) ∙ alive) };
      places = page_stays p 0 at value o;
    }

-- what is read then
pub words_read : (p : Pack) (at word_at : ℕ) (new : List ℕ) → WordsWritten p at word_at new → read_as (after p (value_writes at (put_at word_at new (sector_at p at).value))) ≡ record (read_as p) { last = last_serial (put_at word_at new (descriptor_words (sights p))) }
words_read p at word_at new h =
    let value : List ℕ = put_at word_at new (sector_at p at).value in
    let o = h.page in
    let us : List Sight = set (sights p) at (holds disk_descriptor 0 (counted_of p at value)) in
    ap (read_sights p.shape) o.sights_are ∙ descriptor_reads p.shape (sights p) us o.spot.lead _ _ o.change ∙ ap (λ x. record (read_as p) { last = last_serial x }) (ap descriptor_words (sym o.sights_are) ∙ h.words)
