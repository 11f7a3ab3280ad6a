-- Words of directories that are written: the pack that they leave, and what they keep.
use Rattle.std.proofs.Common.{◌≡◌, ℕ, ◌+◌, ◌/◌, ◌<◌, Bool, true, false, List, [], ◌∷◌, ◌++◌, None, Result, Ok, Err, refl, sym, ap, subst, ◌∙◌, leb-true, leb-false, arith}
use Rattle.std.proofs.lemmas.List.{length-append, length-take, nil_from_length}
use Rattle.std.proofs.Math.Seq.{take-append_seam}
use Rattle.std.specs.Option.{option_map_or}
use Rattle.std.specs.Prelude.{IfOk, cond, drop, length, min, nat_eq, nat_le, take}
use Rattle.std.specs.Cmp.Lexicographic.{bytes_decides, pointwise, same_text}
use Rattle.disk_records.specs.declared.records.Event.{Event}
use Rattle.disk_records.specs.Commands.{value_writes}
use Rattle.disk_records.specs.Packs.{Pack, after, sector_at}
use Rattle.disk_records.specs.Tapes.{Grown, Taped, added, pack}
use Rattle.disk_records.proofs.Growing.{pack-after}
use Rattle.laws_names.specs.Keeping.{AllKeepOpen, KeepsOpen}
use Rattle.laws_names.proofs.joins.Laws.{keeps_open_breaks_off, nothing_keeps_open, one_keeps_open}
use Rattle.laws_names.proofs.writes.Laws.{standing_words_write_nothing}
use Rattle.scav_pages.specs.laws_operation.proofs.EntryWrite.{put_drop}
use Rattle.scav_pages.specs.laws_record.specs.DirLaws.{dir_written}
use Rattle.pack_model.specs.operations.PageWords.{in_page}
use Rattle.pack_model.specs.reading.Bytes.{put_at}
use Rattle.pack_model.specs.reading.Files.{place}
use Rattle.pack_model.specs.reading.Sights.{sights}
use Rattle.scav_pages.proofs.Changing.{change_first, change_join, value_changes}
use Rattle.scav_pages.specs.Changes.{AllChange}
use Rattle.scav_pages.specs.declared.errors.Stop.{Stop}
use Rattle.scav_names.specs.declared.words.DirWord.{DirWord}
use Rattle.scav_names.specs.Does.{Does}
use Rattle.scav_names.specs.Words.{WritesPageWords, page_writes, word_writes, words_writes}

-- ---- words in one page
-- the pack with them, also where they stand there already
pub page_left : (p : Pack) (w at : ℕ) (new : List ℕ) → after p (page_writes p at (in_page w) new) ≡ dir_written p w at new
page_left p w at new = by (pointwise nat_eq (take (length new) (drop (in_page w) (sector_at p at).value)) new) refl
  where
    by : (t : Bool) → pointwise nat_eq (take (length new) (drop (in_page w) (sector_at p at).value)) new ≡ t → after p (cond t [] (value_writes at (put_at (in_page w) new (sector_at p at).value))) ≡ dir_written p w at new
    by true e = sym (standing_words_write_nothing p w at new (same_text (take (length new) (drop (in_page w) (sector_at p at).value)) new (sym e)))
    by false e = refl

-- what that keeps is kept at each crash point
pub page_keeps : (p : Pack) (w at : ℕ) (new : List ℕ) → KeepsOpen p (dir_written p w at new) → AllKeepOpen p (page_writes p at (in_page w) new)
page_keeps p w at new keeps = by (pointwise nat_eq (take (length new) (drop (in_page w) (sector_at p at).value)) new)
  where
    by : (t : Bool) → AllKeepOpen p (cond t [] (value_writes at (put_at (in_page w) new (sector_at p at).value)))
    by true = nothing_keeps_open p
    by false = one_keeps_open p at 2 (put_at (in_page w) new (sector_at p at).value) keeps

-- ---- record writes that change what stands
-- words that are put in a list that has them there
put_stands : (from : ℕ) (new old : List ℕ) → put_at from new old ≡ old → take (length new) (drop from old) ≡ new
put_stands from new old same = by (nat_le (from + length new) (length old)) refl
  where
    by : (t : Bool) → nat_le (from + length new) (length old) ≡ t → take (length new) (drop from old) ≡ new
    by true e = ap (λ l. take (length new) (drop from l)) (sym same) ∙ ap (take (length new)) (put_drop from new old (leb-true (from + length new) (length old) e)) ∙ take-append_seam new (drop (from + length new) old)
    by false e =
        let rest : List ℕ = drop (from + length new) old in
        let past : length old < from + length new = leb-false (from + length new) (length old) e in
        let all : length (put_at from new old) ≡ (min from (length old) + length new) + length rest = length-append (take from old ++ new) rest ∙ ap (λ n. n + length rest) (length-append (take from old) new ∙ ap (λ n. n + length new) (length-take from old)) in
        let size : length (put_at from new old) ≡ length old = ap length same in
        let none : new ≡ [] = nil_from_length new (omega (arith, all, size, past)) in
        ap (λ l. take (length l) (drop from old)) none ∙ sym none

-- so it is with words that are put in the place of others in a page
pub page_changes : (p : Pack) (at from : ℕ) (new : List ℕ) → AllChange p (page_writes p at from new)
page_changes p at from new = by (pointwise nat_eq (take (length new) (drop from (sector_at p at).value)) new) refl
  where
    by : (t : Bool) → pointwise nat_eq (take (length new) (drop from (sector_at p at).value)) new ≡ t → AllChange p (cond t [] (value_writes at (put_at from new (sector_at p at).value)))
    by true e = tt
    by false e = value_changes p at (put_at from new (sector_at p at).value) (λ same.
        (let wrong : true ≡ false = sym ((bytes_decides (take (length new) (drop from (sector_at p at).value)) new).1 (put_stands from new (sector_at p at).value same)) ∙ e in cc))

-- with words of directories, one after another
pub words_change : (p : Pack) (words : List DirWord) → AllChange p (words_writes p words)
words_change p [] = tt
words_change p (w ∷ ws) = change_join None p (word_writes p w) (words_writes (after p (word_writes p w)) ws) (page_changes p (option_map_or (λ at. at) (place (sights p) w.dir (w.place / 256 + 1)) 0) (in_page w.place) (w.word ∷ []))
    (words_change (after p (word_writes p w)) ws)

-- ---- a call that does exact record writes
-- it leaves what they leave, keeps what they keep, and changes what they change
pub does_writes : {old new : Taped} {Leaves : Pack → Pack → Unit {0} → Type 0} {writes : List Event} (result : Result (Unit {0}) Stop) → Grown old new → WritesPageWords writes old new result → AllKeepOpen (pack old) writes → AllChange (pack old) writes → Leaves (pack old) (after (pack old) writes) tt → Does Leaves old new result
does_writes {old} {new} {Leaves} {writes} result grown wrote keeps changes leaves = record {
  leaves = by result wrote;
  found = wrote.found;
  keeps = keeps_open_breaks_off (pack old) writes (added old new) wrote.some keeps;
  changes = change_first None (pack old) writes (added old new) wrote.some changes;
}
  where
    by : (r : Result (Unit {0}) Stop) → WritesPageWords writes old new r → IfOk r (Leaves (pack old) (pack new))
    by (Ok v) w = subst (λ q. Leaves (pack old) q tt) (sym (pack-after grown ∙ ap (after (pack old)) w.ok)) leaves
    by (Err e) w = tt
