-- The words that are written, as the laws of operations want them.
use Rattle.std.specs.Prelude.{All, List, Some, [], length, ℕ, ◌+◌, ◌<◌, ◌≡◌, ◌≤◌}
use Rattle.laws_contents.specs.disk_records.specs.Labels.{page_of, tag}
use Rattle.laws_contents.specs.disk_records.specs.Packs.{Pack, sector_at}
use Rattle.laws_contents.specs.disk_records.specs.declared.records.Page.{Page}
use Rattle.laws_contents.specs.pack_model.specs.reading.Bytes.{put_at}
use Rattle.laws_contents.specs.pack_model.specs.operations.PageWords.{put_value, relabelled}
use Rattle.laws_contents.specs.laws_record.specs.QuietLaws.{counted_of}

-- another count and another next link: the label names the page that it named
abbrev pub LabelWithAnotherCount : Type 0
LabelWithAnotherCount = (label : List ℕ) (page : Page) (bytes next : ℕ) → page_of label ≡ Some page → bytes ≤ 512 → (page_of (relabelled label bytes next) ≡ Some page) × ((tag (relabelled label bytes next)).bytes ≡ bytes)

-- bytes in the place of others in a value, within those that its label counts: they are so among the counted ones
abbrev pub BytesInAValue : Type 0
BytesInAValue = (p : Pack) (at offset : ℕ) (new : List ℕ) → All (λ byte. byte < 256) new → offset + length new ≤ length (counted_of p at (sector_at p at).value)
    → counted_of p at (put_value offset new [] (sector_at p at).value) ≡ put_at offset new (counted_of p at (sector_at p at).value)
