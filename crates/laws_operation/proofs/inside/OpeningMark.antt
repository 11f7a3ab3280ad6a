-- Opening the mark, and a new serial.
use Rattle.std.proofs.Common.{Bool, List, [], ap, arith, cond, eqb-true, false, length, refl, sym, true, ℕ, ◌%◌, ◌*◌, ◌+◌, ◌/◌, ◌∙◌, ◌∷◌, ◌≡◌, ◌≤◌}
use Rattle.std.proofs.lemmas.Bool.{le-leb}
use Rattle.std.specs.Prelude.{◌==◌}
use Rattle.laws_contents.specs.disk_records.specs.Commands.{value_writes}
use Rattle.laws_contents.specs.disk_records.specs.Packs.{Pack, after, sector_at}
use Rattle.laws_contents.specs.disk_records.specs.Words.{double, word}
use Rattle.laws_contents.specs.disk_records.specs.declared.shape.Shape.{Shape}
use Rattle.laws_contents.specs.pack_model.specs.reading.Bytes.{put_at}
use Rattle.laws_contents.specs.pack_model.specs.sessions.Descriptor.{opened_value, serial_writes}
use Rattle.laws_contents.specs.pack_model.specs.reading.Model.{descriptor_words, last_serial, read_as, read_sights}
use Rattle.laws_contents.specs.pack_model.specs.sessions.Moves.{rest, write}
use Rattle.laws_contents.specs.pack_model.specs.operations.Operations.Move.{quiet}
use Rattle.laws_contents.specs.pack_model.specs.operations.PageWords.{halves}
use Rattle.laws_contents.specs.pack_model.specs.reading.Sights.{sights}
use Rattle.laws_contents.specs.pack_model.specs.states.Sound.{mark_of, mark_open}
use Rattle.laws_contents.specs.pack_model.specs.showing.View.{view}
use Rattle.laws_contents.specs.pack_model.specs.states.Whole.{SaysShape, Tidy, Whole}
use Rattle.laws_contents.specs.pack_laws.proofs.Bytes.{length-put_at}
use Rattle.laws_contents.specs.laws_record.proofs.Describing.{view_files}
use Rattle.laws_contents.specs.laws_record.proofs.Slotwise.{put_before, put_after, put_here}
use Rattle.laws_operation.proofs.FirstWords.{kept_sound, words_read, words_written}
use Rattle.laws_operation.specs.DescriptorLaws.{KeepsSound, OpenCarriesOut, OpensMark, SerialCarriesOut}

-- words 4 and 5, or word 6, are no words of the shape
says_still : (shape : Shape) (words : List ℕ) (word_at : ℕ) (new : List ℕ) → 4 ≤ word_at → word_at + length new ≤ 8 → 16 ≤ length words → SaysShape shape words → SaysShape shape (put_at word_at new words)
says_still shape words word_at new low high long s =
    let fits : word_at + length new ≤ length words = omega arith in
    record {
      disks = put_before word_at new words 0 fits (omega arith) ∙ s.disks;
      cylinders = put_before word_at new words 1 fits (omega arith) ∙ s.cylinders;
      heads = put_before word_at new words 2 fits (omega arith) ∙ s.heads;
      sectors = put_before word_at new words 3 fits (omega arith) ∙ s.sectors;
      table = put_after word_at new words 8 fits (omega arith) ∙ s.table;
    }

-- the last serial is words 4 and 5, which are there
pub last_there : (words : List ℕ) → 16 ≤ length words → last_serial words ≡ double words 4
last_there words long = ap (λ c. cond c (double words 4) 0) (le-leb 6 (length words) (omega arith))

-- the last serial in the model
pub last_read : (p : Pack) → (read_as p).last ≡ last_serial (descriptor_words (sights p))
unfolding read_sights
last_read p = refl

-- ---- the mark
-- the mark is no word of it
mark_last : (words : List ℕ) → 16 ≤ length words → last_serial (put_at 6 (mark_open ∷ []) words) ≡ last_serial words
mark_last words long =
    let fits : 6 + length (mark_open ∷ []) ≤ length words = (let z : length (mark_open ∷ []) ≡ 1 = refl in omega arith) in
    let size = length-put_at 6 (mark_open ∷ []) words fits in
    last_there (put_at 6 (mark_open ∷ []) words) (omega arith) ∙ (λ i. put_before 6 (mark_open ∷ []) words 4 fits (omega arith) i * 65536 + put_before 6 (mark_open ∷ []) words 5 fits (omega arith) i) ∙ sym (last_there words long)

-- nothing is written
keeps_itself : (p : Pack) → Whole p → Tidy p → KeepsSound p p
keeps_itself p w t = record { whole = w; tidy = t; sound = λ s. s; places = λ n. refl }

-- the mark is opened, where it is not open
pub open_carries_out : OpenCarriesOut
open_carries_out p at o ops w t sector = by (mark_of (sights p) == mark_open) refl
  where
    by : (c : Bool) → (mark_of (sights p) == mark_open) ≡ c → OpensMark p (cond c [] (value_writes at (opened_value (sector_at p at).value))) (cond c [] (quiet ∷ []))
    by true e = record { obeys = rest refl; keeps = keeps_itself p w t; marked = eqb-true (mark_of (sights p)) mark_open e }
    by false e =
        let words : List ℕ = descriptor_words (sights p) in
        let new : List ℕ = mark_open ∷ [] in
        let one : length new ≡ 1 = refl in
        let h = words_written p w at 6 new sector (omega arith) in
        let long = h.long in
        let fits : 6 + length new ≤ length words = omega arith in
        let same_last = mark_last words long in
        let reads : read_as (after p (value_writes at (opened_value (sector_at p at).value))) ≡ read_as p = words_read p at 6 new h ∙ ap (λ x. record (read_as p) { last = x }) (same_last ∙ sym (last_read p)) in
        let z : 6 + 0 ≡ 6 = omega arith in
        record {
          obeys = write refl tt (rest reads);
          keeps = kept_sound p w t at 6 new h (says_still p.shape words 6 new (omega arith) (omega arith) long w.descriptor_fits.says) (let x = last_read p in omega (arith, x, same_last));
          marked = ap (λ ws. word ws 6) h.words ∙ put_here 6 new words 0 fits (omega arith);
        }

-- ---- a new serial
-- the last serial is written
pub serial_carries_out : SerialCarriesOut
serial_carries_out p at last w t sector more =
    let words : List ℕ = descriptor_words (sights p) in
    let new : List ℕ = halves last in
    let two_words : length new ≡ 2 = refl in
    let h = words_written p w at 4 new sector (omega arith) in
    let long = h.long in
    let fits : 4 + length new ≤ length words = omega arith in
    let size = length-put_at 4 new words fits in
    let halves_are : last / 65536 * 65536 + last % 65536 ≡ last = omega arith in
    let last_is : last_serial (put_at 4 new words) ≡ last = last_there (put_at 4 new words) (omega arith) ∙ (λ i. put_here 4 new words 0 fits (omega arith) i * 65536 + put_here 4 new words 1 fits (omega arith) i) ∙ halves_are in
    let reads : read_as (after p (serial_writes at last (sector_at p at).value)) ≡ record (read_as p) { last = last } = words_read p at 4 new h ∙ ap (λ x. record (read_as p) { last = x }) last_is in
    record {
      obeys = write refl tt (rest (ap view reads ∙ view_files (record (read_as p) { last = last }) (read_as p) refl));
      reads = reads;
      keeps = kept_sound p w t at 4 new h (says_still p.shape words 4 new (omega arith) (omega arith) long w.descriptor_fits.says) (omega (arith, more, last_is));
      mark = ap (λ ws. word ws 6) h.words ∙ put_after 4 new words 6 fits (omega arith);
    }
