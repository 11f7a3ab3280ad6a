-- What a calling program can know before it makes a file or writes one, and the words that the laws of operations want then.
use Rattle.std.specs.List.{AllPairs}
use Rattle.std.specs.Prelude.{All, List, Some, [], false, length, suc, true, ℕ, ◌%◌, ◌+◌, ◌<◌, ◌≡◌, ◌≢◌, ◌≤◌, ◌⊎◌}
use Rattle.laws_contents.specs.alto_words.specs.Fid.{disk_descriptor, is_fid, is_full_name, serial_of}
use Rattle.laws_contents.specs.alto_words.specs.Names.{is_stored_name}
use Rattle.laws_contents.specs.alto_words.specs.declared.fid.Fid.{Fid}
use Rattle.laws_contents.specs.disk_records.specs.Packs.{Pack, is_free_at, sector_at}
use Rattle.laws_contents.specs.pack_model.specs.reading.Bytes.{bytes_of}
use Rattle.laws_contents.specs.pack_model.specs.operations.Commands.{cut_label, first_page_claim, grown_claims, grown_label, grown_value, leader_claim}
use Rattle.laws_contents.specs.pack_model.specs.operations.Committing.{page_of_byte, pages_added, pages_cut}
use Rattle.laws_contents.specs.pack_model.specs.reading.Files.{file_bytes, lives, place}
use Rattle.laws_contents.specs.pack_model.specs.reading.Model.{read_as}
use Rattle.laws_contents.specs.pack_model.specs.operations.PageWords.{put_value, stamped_value, titled_value}
use Rattle.laws_contents.specs.pack_model.specs.reading.Sights.{sights}
use Rattle.laws_contents.specs.pack_model.specs.states.Whole.{Whole}
use Rattle.laws_operation.specs.ByteLaws.{Bear, IsOrdinary, MayCut, MayGrow, MayPut}
use Rattle.laws_operation.specs.LeaderLaws.{MayWriteLeader, stamped, titled}
use Rattle.laws_operation.specs.LifeLaws.{MayMake}

-- ---- make
-- A full name that can be given, whose serial is the last one given out, of no living file; a stored name; two free sectors.
pub record CanMake (p : Pack) (f : Fid) (name : List ℕ) (leader_at page_at : ℕ) : Type 0 where
  pub no_descriptor : is_fid f disk_descriptor ≡ false
  pub full_name : is_full_name f ≡ true
  pub not_there : lives (sights p) f ≡ false
  pub last : (read_as p).last ≡ serial_of f
  pub stored : is_stored_name name ≡ true
  pub leader_free : is_free_at p leader_at ≡ true
  pub page_free : is_free_at p page_at ≡ true
  pub two : leader_at ≢ page_at

-- the two claims, whatever the moment
abbrev pub MakeWordsFit : Type 0
MakeWordsFit = (p : Pack) (f : Fid) (name : List ℕ) (moment leader_at page_at : ℕ) → CanMake p f name leader_at page_at
    → MayMake p f name moment (first_page_claim p.shape f leader_at page_at) (leader_claim p.shape f name moment leader_at page_at)

-- ---- put
-- Some bytes within one page and within an ordinary file, and the page's sector.
pub record CanPut (p : Pack) (f : Fid) (offset : ℕ) (new : List ℕ) (at : ℕ) : Type 0 where
  pub file : IsOrdinary f
  pub sector : place (sights p) f (page_of_byte offset) ≡ Some at
  pub one_page : offset % 512 + length new ≤ 512
  pub within : offset + length new ≤ length (file_bytes (sights p) f)
  pub bytes : All (λ b. b < 256) new

-- the page's value with them in place
abbrev pub PutWordsFit : Type 0
PutWordsFit = (p : Pack) (f : Fid) (offset : ℕ) (new : List ℕ) (at : ℕ) → Whole p → CanPut p f offset new at → MayPut p f offset new at (put_value (offset % 512) new [] (sector_at p at).value)

-- Words that are written in the page after these bytes, if with them the file ends; of a value of 256 words.
pub record ArePastTheEnd (p : Pack) (f : Fid) (offset : ℕ) (new past : List ℕ) (at : ℕ) : Type 0 where
  pub words : All (λ w. w < 65536) past
  pub room : offset % 512 + length new + length (bytes_of past) ≤ 512
  pub last : (past ≡ []) ⊎ (offset + length new ≡ length (file_bytes (sights p) f))
  pub sized : length (sector_at p at).value ≡ 256

-- the page's value with both in place
abbrev pub PutPastWordsFit : Type 0
PutPastWordsFit = (p : Pack) (f : Fid) (offset : ℕ) (new past : List ℕ) (at : ℕ) → Whole p → CanPut p f offset new at → ArePastTheEnd p f offset new past at → MayPut p f offset new at (put_value (offset % 512) new past (sector_at p at).value)

-- ---- grow, and widen
-- More bytes for a file of b bytes, and words after them in the page that is the last one then; the sector of the page that is the
-- last one before, with a value of 256 words; and as many free sectors as there come pages, each of them once.
pub record CanGrow (p : Pack) (f : Fid) (b : ℕ) (new past fresh : List ℕ) (at : ℕ) : Type 0 where
  pub size : b ≡ length (file_bytes (sights p) f)
  pub sector : place (sights p) f (page_of_byte b) ≡ Some at
  pub sized : length (sector_at p at).value ≡ 256
  pub bytes : All (λ x. x < 256) new
  pub words : All (λ w. w < 65536) past
  pub room : (b + length new) % 512 + length (bytes_of past) ≤ 512
  pub number : length fresh ≡ pages_added b (length new)
  pub free : All (λ i. is_free_at p i ≡ true) fresh
  pub distinct : AllPairs (λ i j. i ≢ j) fresh

-- the claims, and the label and the value of the old last page
abbrev pub GrowWordsFit : Type 0
GrowWordsFit = (p : Pack) (f : Fid) (b : ℕ) (new past fresh : List ℕ) (at : ℕ) → Whole p → IsOrdinary f → CanGrow p f b new past fresh at
    → MayGrow p f new (grown_claims p.shape f b at new past fresh) at (grown_label p.shape b new fresh (sector_at p at).label) (grown_value b new past fresh (sector_at p at).value)

-- ---- cut
-- The first n bytes of an ordinary file are kept: the sectors of the page that becomes the last, and of all later ones, rising.
pub record CanCut (p : Pack) (f : Fid) (n at : ℕ) (later : List ℕ) : Type 0 where
  pub file : IsOrdinary f
  pub sector : place (sights p) f (page_of_byte n) ≡ Some at
  pub within : n ≤ length (file_bytes (sights p) f)
  pub number : length later ≡ pages_cut (length (file_bytes (sights p) f)) n
  pub later_are : Bear (sights p) f (suc (page_of_byte n)) later

-- its label with another count, and no next link
abbrev pub CutWordsFit : Type 0
CutWordsFit = (p : Pack) (f : Fid) (n at : ℕ) (later : List ℕ) → CanCut p f n at later → MayCut p f n at (cut_label n (sector_at p at).label) later

-- ---- title and stamp
-- The sector of an ordinary file's leader, with a value of 256 words.
pub record CanWriteLeader (p : Pack) (f : Fid) (at : ℕ) : Type 0 where
  pub file : IsOrdinary f
  pub sector : place (sights p) f 0 ≡ Some at
  pub sized : length (sector_at p at).value ≡ 256

-- its value with another stored name
abbrev pub TitleWordsFit : Type 0
TitleWordsFit = (p : Pack) (f : Fid) (name : List ℕ) (at : ℕ) → CanWriteLeader p f at → is_stored_name name ≡ true → MayWriteLeader p f (titled name) at (titled_value name (sector_at p at).value)

-- its value with another written date, and any hints of the last page
abbrev pub StampWordsFit : Type 0
StampWordsFit = (p : Pack) (f : Fid) (moment at last_at number bytes : ℕ) → Whole p → CanWriteLeader p f at → MayWriteLeader p f (stamped moment) at (stamped_value moment last_at number bytes (sector_at p at).value)
