-- What holds of labels.
use Rattle.std.specs.Prelude.{◌≡◌, ℕ, ◌≤◌, ◌<◌, true, Some}
use Rattle.alto_words.specs.Fid.{is_full_name}
use Rattle.disk_records.specs.declared.records.Page.{Page}
use Rattle.disk_records.specs.Labels.{page_of, label_of}

-- the label of a page of a file names that page, whatever its links
abbrev pub LabelReadsBack : Type 0
LabelReadsBack = (page : Page) (bytes next previous : ℕ) → is_full_name page.fid ≡ true → page.number < 65536 → bytes ≤ 512 → page_of (label_of page bytes next previous) ≡ Some page
