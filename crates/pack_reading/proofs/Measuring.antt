-- What a sweep of all sectors keeps of lengths, by what each of its steps does.
use Rattle.std.proofs.Common.{◌≡◌, ℕ, zero, suc, ◌+◌, ◌<◌, ◌≤◌, Bool, true, false, cond, IsTrue, List, [], ◌∷◌, ◌++◌, length, get_or, map, take, Option, Some, None, refl, sym, ◌∙◌, ap, subst, arith}
use Rattle.std.specs.Prelude.{◌&&◌, ◌==◌}
use Rattle.std.specs.Option.{option_map, option_or}
use Rattle.std.proofs.lemmas.List.{map-append, length-take-le, take_more}
use Rattle.alto_words.specs.declared.fid.Fid.{Fid}
use Rattle.alto_words.specs.Fid.{is_directory, is_fid}
use Rattle.disk_records.specs.Tapes.{Taped, pack}
use Rattle.disk_records.proofs.Bytes.{length-bytes_of}
use Rattle.pack_model.specs.reading.Bytes.{bytes_of}
use Rattle.pack_model.specs.reading.Sights.{Sight, sights, page_sight}
use Rattle.pack_model.specs.reading.Sights.Sight.{hidden, holds}
use Rattle.pack_model.specs.reading.Files.{page, page_at, file_bytes, joined, most_pages}
use Rattle.label_sweep.specs.pack_laws.proofs.Keys.{is_fid-sym}
use Rattle.label_sweep.specs.pack_laws.proofs.Firsts.{first_more, or_none}
use Rattle.label_sweep.specs.Swept as sweeps
use Rattle.label_sweep.proofs.Visiting.{kept_by_steps}
use Rattle.pack_reading.specs.declared.counts.Counts.{Counts}
use Rattle.pack_reading.specs.declared.lengths.Measuring.{Measuring}
use Rattle.pack_reading.specs.declared.shown.FileLength.{FileLength}
use Rattle.pack_reading.specs.declared.shown.ShownFile.{ShownFile}
use Rattle.pack_reading.specs.declared.swept.Pages.{Pages}
use Rattle.pack_reading.specs.Kept.{leader_kept, page_kept, KeepsSight, HoldsSights}
use Rattle.pack_reading.specs.Lengths.{count_kept, without_data, length_in, CountsPages, CountsFiles, KeepsLength, HoldsLengths}
use Rattle.pack_reading.proofs.Keeping.{suc-eqb, page_keeps}
use Rattle.pack_reading.proofs.Measured.{apart}
use Rattle.pack_reading.proofs.Sweeping.{map_or, nothing_first, holds_none, holds_more}

-- ---- one data page
-- of a directory: its bytes are kept, and the counts stay
pub directory_keeps : (old : Measuring) (new : Pages) (f : Fid) (number count : ℕ) (value bytes : List ℕ) → is_directory f ≡ true → (number ≡ 0 → ⊥) → bytes ≡ take count (bytes_of value)
    → ((g : Fid) (n : ℕ) → page_kept new g n ≡ option_or (page_kept old.swept.pages g n) (cond (is_fid g f && suc n == number) (Some bytes) None))
    → KeepsLength (page_sight f number count value) old (record { alloc = old.alloc; swept = record { leaders = old.swept.leaders; pages = new }; counts = old.counts })
directory_keeps old new f zero count value bytes one some is kept = absurd (some refl)
directory_keeps old new f (suc k) count value bytes one some is kept = record {
  swept = subst (λ b. KeepsSight (cond b (holds f k (take count (bytes_of value))) hidden) old.swept (record { leaders = old.swept.leaders; pages = new })) (sym one) (page_keeps old.swept new f (suc k) count value bytes some is kept);
  counts = λ g ordinary n.
      sym (
      ap (λ b. option_or (count_kept old.counts g n) (option_map length (cond (b && n == k) (Some (take count (bytes_of value))) None))) (is_fid-sym g f ∙ apart f g one ordinary (is_fid f g) refl)
      ∙ or_none (count_kept old.counts g n)
      );
}

-- of an ordinary file: how many of its bytes count is kept
bytes_counted : (b : Bool) (count : ℕ) (value : List ℕ) → count ≤ 512 → length value ≡ 256 → cond b (Some count) None ≡ option_map length (cond b (Some (take count (bytes_of value))) None)
bytes_counted true count value few whole = ap Some (sym (length-take-le count (bytes_of value) (omega (arith, few, whole, length-bytes_of value))))
bytes_counted false count value few whole = refl

pub ordinary_keeps : (old : Measuring) (new : Counts) (f : Fid) (number count : ℕ) (value : List ℕ) → is_directory f ≡ false → (number ≡ 0 → ⊥) → count ≤ 512 → length value ≡ 256
    → ((g : Fid) (n : ℕ) → count_kept new g n ≡ option_or (count_kept old.counts g n) (cond (is_fid g f && suc n == number) (Some count) None))
    → KeepsLength (page_sight f number count value) old (record { alloc = old.alloc; swept = old.swept; counts = new })
ordinary_keeps old new f zero count value ordinary some few whole kept = absurd (some refl)
ordinary_keeps old new f (suc k) count value ordinary some few whole kept = record {
  swept = subst (λ b. KeepsSight (cond b (holds f k (take count (bytes_of value))) hidden) old.swept old.swept) (sym ordinary) (record {
    leaders = λ g. sym (or_none (leader_kept old.swept.leaders g));
    pages = λ g n. sym (or_none (page_kept old.swept.pages g n));
  });
  counts = λ g _ n.
      kept g n
      ∙ (λ i. option_or (count_kept old.counts g n) (cond (is_fid g f && suc-eqb n k i) (Some count) None))
      ∙ ap (option_or (count_kept old.counts g n)) (bytes_counted (is_fid g f && n == k) count value few whole);
}

-- ---- all sectors
-- before the first sector
measures_none : (v : Measuring) → ((f : Fid) → leader_kept v.swept.leaders f ≡ None) → ((f : Fid) (n : ℕ) → page_kept v.swept.pages f n ≡ None) → ((f : Fid) (n : ℕ) → count_kept v.counts f n ≡ None) → HoldsLengths (hidden ∷ []) v
measures_none v leaders pages counts = record {
  swept = holds_none v.swept leaders pages;
  counts = λ f ordinary n. counts f n ∙ ap (option_map length) (nothing_first (page_at f n) refl);
}

-- one sector more
measures_more : (ss : List Sight) (s : Sight) (old new : Measuring) → HoldsLengths ss old → KeepsLength s old new → HoldsLengths (ss ++ s ∷ []) new
measures_more ss s old new so_far kept = record {
  swept = subst (λ l. HoldsSights l new.swept) (sym (map-append without_data ss (s ∷ []))) (holds_more (map without_data ss) (without_data s) old.swept new.swept so_far.swept kept.swept);
  counts = λ f ordinary n.
      kept.counts f ordinary n
      ∙ ap (λ o. option_or o (option_map length (page_at f n s))) (so_far.counts f ordinary n)
      ∙ map_or length (page ss f n) (page_at f n s)
      ∙ ap (option_map length) (sym (first_more (page_at f n) ss s));
}

-- what a step does
abbrev Step : Measuring → ℕ → Sight → Measuring → Type 0
Step old at s new = KeepsLength s old new

pub measures_all : {told : Bool} {t : Taped} (before after : Measuring) → ((f : Fid) → leader_kept before.swept.leaders f ≡ None) → ((f : Fid) (n : ℕ) → page_kept before.swept.pages f n ≡ None) → ((f : Fid) (n : ℕ) → count_kept before.counts f n ≡ None)
    → sweeps.Swept told Step t before after → IsTrue told → HoldsLengths (sights (pack t)) after
measures_all before after leaders pages counts swept h =
    kept_by_steps Step (λ ss v. HoldsLengths ss v) (λ rs u w s so_far step. measures_more rs s u w so_far step) (measures_none before leaders pages counts) swept h

-- ---- the lengths
-- of a directory, and of an ordinary file
pub directory_length : (ss : List Sight) (f : Fid) → is_directory f ≡ true → record { fid = f; length = None } ≡ length_in ss f
directory_length ss f one = λ i. record { fid = f; length = (sym (ap (λ b. cond b None (Some (length (file_bytes ss f)))) one)) i }

pub ordinary_length : (ss : List Sight) (counts : Counts) (f : Fid) (total : ℕ) → is_directory f ≡ false → CountsFiles ss counts → ((pages : ℕ → Option (List ℕ)) → CountsPages counts f pages → total ≡ length (joined most_pages pages))
    → record { fid = f; length = Some total } ≡ length_in ss f
unfolding file_bytes
ordinary_length ss counts f total ordinary counted is =
    let all : Some total ≡ cond (is_directory f) None (Some (length (file_bytes ss f))) = ap Some (is (page ss f) (counted f ordinary)) ∙ sym (ap (λ b. cond b None (Some (length (file_bytes ss f)))) ordinary) in
    λ i. record { fid = f; length = all i }

-- one file more
pub lengths_more : (ss : List Sight) (files : List ShownFile) (i : ℕ) (file : ShownFile) (so_far : List FileLength) (one : FileLength) → i < length files → file ≡ get_or files i file → one ≡ length_in ss file.fid → so_far ≡ map (λ x. length_in ss x.fid) (take i files)
    → so_far ++ one ∷ [] ≡ map (λ x. length_in ss x.fid) (take (i + 1) files)
lengths_more ss files i file so_far one more here is are =
    (λ j. are j ++ is j ∷ [])
    ∙ sym (
    ap (map (λ x. length_in ss x.fid)) (take_more files i file more ∙ ap (λ s. take i files ++ s ∷ []) (sym here))
    ∙ map-append (λ (x : ShownFile). length_in ss x.fid) (take i files) (file ∷ [])
    )
