-- What a caller knows before it cuts a file: where the pages are that stay the last or go.
use Rattle.std.specs.Prelude.{List, length, true, ℕ, ◌≡◌, ◌≤◌}
use Rattle.laws_hint.specs.alto_words.specs.declared.fid.Fid.{Fid}
use Rattle.laws_hint.specs.disk_records.specs.Packs.{Pack}
use Rattle.laws_hint.specs.laws_operation.specs.ByteLaws.{IsOrdinary}
use Rattle.laws_hint.specs.laws_operation.specs.FileWords.{CanCut}
use Rattle.laws_hint.specs.pack_model.specs.reading.Files.{file_bytes, lives}
use Rattle.laws_hint.specs.pack_model.specs.reading.Sights.{sights}
use Rattle.laws_hint.specs.pack_model.specs.states.Whole.{Whole}

-- The sector of the page that becomes the last where the first n bytes are kept, and those of all later pages.
pub record HasCut (p : Pack) (f : Fid) (n : ℕ) : Type 0 where
  pub at : ℕ
  pub later : List ℕ
  pub can : CanCut p f n at later

-- on a whole pack a living ordinary file of at least n bytes has them
abbrev pub WholeFileMayBeCut : Type 0
WholeFileMayBeCut = (p : Pack) (f : Fid) (n : ℕ) → Whole p → IsOrdinary f → lives (sights p) f ≡ true → n ≤ length (file_bytes (sights p) f) → HasCut p f n

-- they are these, and no others
abbrev pub CutIsOfTheseSectors : Type 0
CutIsOfTheseSectors = (p : Pack) (f : Fid) (n at bt : ℕ) (later others : List ℕ) → CanCut p f n at later → CanCut p f n bt others → (at ≡ bt) × (later ≡ others)
