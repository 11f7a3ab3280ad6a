-- What a pack shows, with the lengths of files in the place of their bytes.
use Rattle.std.specs.Prelude.{◌≡◌, ℕ, suc, false, cond, List, length, map, Option, Some, None}
use Rattle.std.specs.Option.{option_map, option_or}
use Rattle.std.specs.BTreeMap.{get}
use Rattle.alto_words.specs.declared.fid.Fid.{Fid}
use Rattle.alto_words.specs.Fid.{is_directory}
use Rattle.pack_model.specs.reading.Sights.{Sight}
use Rattle.pack_model.specs.reading.Sights.Sight.{hidden, free, stray, leads, holds}
use Rattle.pack_model.specs.reading.Files.{page, page_at, file_bytes}
use Rattle.pack_model.specs.showing.View.{Seen, View}
use Rattle.pack_model.specs.showing.Listing.{shown_files, shown_names}
use Rattle.pack_reading.specs.declared.counts.Counts.{Counts}
use Rattle.pack_reading.specs.declared.lengths.Measuring.{Measuring}
use Rattle.pack_reading.specs.declared.shown.FileLength.{FileLength}
use Rattle.pack_reading.specs.declared.shown.ShownLengths.{ShownLengths}
use Rattle.pack_reading.specs.Kept.{page_cmp, KeepsSight, HoldsSights}
use Rattle.pack_reading.specs.Shows.{shown_name}

-- ---- counts
-- how many bytes of page n of f count, the page counted from 0 here
abbrev pub count_kept : Counts → Fid → ℕ → Option ℕ
count_kept counts f n = get page_cmp counts.kept (record { fid = f; number = suc n })

-- the counts of a file are those of these pages
abbrev pub CountsPages : Counts → Fid → (ℕ → Option (List ℕ)) → Type 0
CountsPages counts f pages = (n : ℕ) → count_kept counts f n ≡ option_map length (pages n)

-- the counts of each ordinary file are those of the pages that these sectors show
abbrev pub CountsFiles : List Sight → Counts → Type 0
CountsFiles ss counts = (f : Fid) → is_directory f ≡ false → CountsPages counts f (page ss f)

-- ---- the sweep
-- what is kept of a sector beside counts: no page of an ordinary file
abbrev pub without_data : Sight → Sight
without_data hidden = hidden
without_data free = free
without_data stray = stray
without_data (leads f readable l) = leads f readable l
without_data (holds f n bytes) = cond (is_directory f) (holds f n bytes) hidden

-- what one sector more shows is kept, where nothing was
pub record KeepsLength (s : Sight) (old new : Measuring) : Type 0 where
  pub swept : KeepsSight (without_data s) old.swept new.swept
  pub counts : (f : Fid) → is_directory f ≡ false → (n : ℕ) → count_kept new.counts f n ≡ option_or (count_kept old.counts f n) (option_map length (page_at f n s))

-- what is kept is what these sectors show
pub record HoldsLengths (ss : List Sight) (measuring : Measuring) : Type 0 where
  pub swept : HoldsSights (map without_data ss) measuring.swept
  pub counts : CountsFiles ss measuring.counts

-- ---- what is shown
-- the length of a file by the sectors that carry it, none of a directory
abbrev pub length_in : List Sight → Fid → FileLength
length_in ss f = record { fid = f; length = cond (is_directory f) None (Some (length (file_bytes ss f))) }

-- and by what is seen of it
abbrev pub shown_length : Fid × Seen → FileLength
shown_length e = record { fid = e.0; length = option_map (λ bytes. length bytes) e.1.bytes }

-- all files of a view with their lengths, and all names, in order
pub record ShowsLengths (shown : ShownLengths) (v : View) : Type 0 where
  pub files : shown.files ≡ map shown_length (shown_files v)
  pub names : shown.names ≡ map shown_name (shown_names v)
