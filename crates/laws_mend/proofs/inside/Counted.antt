-- Pages that are within their files' ends, and those that aren't in use.
use Rattle.std.proofs.Common.{◌/◌, ◌∙◌, ◌≡◌, ◌≤◌, Bool, List, None, Option, Some, ap, arith, cond, false, le-leb, length, nat_le, get_or, refl, suc, subst, sym, true, zero, ℕ}
use Rattle.std.specs.FinMap.{get}
use Rattle.std.specs.Option.{is_some, option_map}
use Rattle.std.specs.Prelude.{◌&&◌}
use Rattle.laws_room.specs.alto_words.specs.declared.fid.Fid.{Fid}
use Rattle.laws_room.specs.alto_words.specs.Fid.{disk_descriptor, is_directory, is_fid}
use Rattle.laws_room.specs.disk_records.specs.Addresses.{descriptor_length}
use Rattle.laws_room.specs.disk_records.specs.Labels.{tag}
use Rattle.laws_room.specs.disk_records.specs.Packs.{Pack, carried, sector_at}
use Rattle.laws_room.specs.disk_records.specs.declared.records.Page.{Page}
use Rattle.laws_room.specs.disk_records.specs.declared.shape.Shape.{Shape}
use Rattle.laws_room.specs.pack_model.specs.reading.Bodies.{body_length, body_of}
use Rattle.laws_room.specs.pack_model.specs.reading.Bodies.Body.{data_of, items_of}
use Rattle.laws_room.specs.pack_model.specs.reading.Bytes.{words_of}
use Rattle.laws_room.specs.pack_model.specs.reading.Files.{file_bytes, leader, lives, place}
use Rattle.laws_room.specs.pack_model.specs.reading.Leaders.{Leader}
use Rattle.laws_room.specs.pack_model.specs.reading.Sights.{Sight, page_sight, sights}
use Rattle.laws_room.specs.pack_model.specs.reading.Sights.Sight.{hidden}
use Rattle.laws_room.specs.pack_model.specs.reading.Slots.{slots}
use Rattle.laws_room.specs.pack_model.specs.states.InUse.{counts, in_use, is_place, is_within, last_page}
use Rattle.laws_room.specs.pack_model.specs.states.Sentences.{EachOnce}
use Rattle.laws_room.specs.pack_laws.proofs.Bytes.{length-words_of}
use Rattle.laws_room.specs.pack_laws.proofs.Keys.{same_fid}
use Rattle.laws_room.specs.laws_record.proofs.Carried.{carried_shows}
use Rattle.laws_room.specs.laws_record.proofs.Heads.{all_read, all_within}
use Rattle.laws_room.specs.laws_record.proofs.Reading.{get-found, get_by, read_file}
use Rattle.laws_room.specs.laws_record.proofs.Recording.{carried_sight}
use Rattle.laws_room.specs.laws_record.proofs.Staying.{FilesStay}
use Rattle.laws_room.specs.laws_record.proofs.Systemic.{described_get}
use Rattle.laws_room.specs.laws_operation.proofs.Widening.{directory_length}
use Rattle.laws_mend.specs.Parts.{Ended}

-- ---- between two packs
-- the same pages are within their files' ends where the same files are found; of DiskDescriptor only whether it lives counts
pub counts_stay : (p q : Pack) → FilesStay p q → (f : Fid) (n : ℕ) → counts p.shape (sights q) f n ≡ counts p.shape (sights p) f n
counts_stay p q s f n = by (is_fid f disk_descriptor) refl
  where
    own : (r : Option Leader) → is_within p.shape disk_descriptor n (option_map (read_file disk_descriptor (file_bytes (sights q) disk_descriptor)) r) ≡ is_within p.shape disk_descriptor n (option_map (read_file disk_descriptor (file_bytes (sights p) disk_descriptor)) r)
    own None = refl
    own (Some l) = refl

    by : (b : Bool) → is_fid f disk_descriptor ≡ b → counts p.shape (sights q) f n ≡ counts p.shape (sights p) f n
    by false e = ap (is_within p.shape f n) (sym (described_get (sights q) f e) ∙ ap (λ files. get files f) s.files ∙ described_get (sights p) f e)
    by true e = subst (λ g. counts p.shape (sights q) g n ≡ counts p.shape (sights p) g n) (sym (same_fid f disk_descriptor e))
        (ap (is_within p.shape disk_descriptor n) (get-found (sights q) disk_descriptor ∙ ap (option_map (read_file disk_descriptor (file_bytes (sights q) disk_descriptor))) (s.leaders disk_descriptor))
        ∙ own (leader (sights p) disk_descriptor)
        ∙ sym (ap (is_within p.shape disk_descriptor n) (get-found (sights p) disk_descriptor)))

-- ---- one sector
-- whether the sector of a page is in use
pub page_in_use : (shape : Shape) (ss : List Sight) (at : ℕ) (f : Fid) (n c : ℕ) (v : List ℕ) → in_use shape ss (at, page_sight f n c v) ≡ (counts shape ss f n && is_place at (place ss f n))
page_in_use shape ss at f zero c v = refl
page_in_use shape ss at f (suc n) c v = refl

pub carried_in_use : (p : Pack) (at : ℕ) (page : Page) → carried p at ≡ Some page → in_use p.shape (sights p) (at, get_or (sights p) at hidden) ≡ (counts p.shape (sights p) page.fid page.number && is_place at (place (sights p) page.fid page.number))
carried_in_use p at page here =
    ap (λ s. in_use p.shape (sights p) (at, s)) (carried_sight p at page here)
    ∙ page_in_use p.shape (sights p) at page.fid page.number (tag (sector_at p at).label).bytes (sector_at p at).value

-- it isn't where its page doesn't count
pub uncounted : (p : Pack) (at : ℕ) (page : Page) → carried p at ≡ Some page → counts p.shape (sights p) page.fid page.number ≡ false → in_use p.shape (sights p) (at, get_or (sights p) at hidden) ≡ false
uncounted p at page here none = carried_in_use p at page here ∙ ap (λ b. b && is_place at (place (sights p) page.fid page.number)) none

-- where no page is carried twice one sector carries it
pub only_carrier : (p : Pack) (at : ℕ) (page : Page) → EachOnce (sights p) → carried p at ≡ Some page → (j : ℕ) → carried p j ≡ Some page → j ≡ at
only_carrier p at page alone here j there = alone page.fid page.number j at (carried_shows p j page there) (carried_shows p at page here)

-- ---- pages that don't count
-- the bytes of a body are no more than those of its file
body_within : (f : Fid) (bytes : List ℕ) → body_length (body_of f bytes) ≤ length bytes
body_within f bytes = by (is_directory f)
  where
    by : (b : Bool) → body_length (cond b (items_of (slots (words_of bytes))) (data_of bytes)) ≤ length bytes
    by true = let w = all_within (slots (words_of bytes)) (words_of bytes) refl in let s = length-words_of bytes in omega arith
    by false = omega arith

-- ---- pages that count
-- where each directory ends with its slots, the bytes of a living file, except of DiskDescriptor, are its body
pub body_ends : (p : Pack) → Ended p → (f : Fid) → lives (sights p) f ≡ true → body_length (body_of f (file_bytes (sights p) f)) ≡ length (file_bytes (sights p) f)
body_ends p ended f live = by (is_directory f) refl
  where
    by : (b : Bool) → is_directory f ≡ b → body_length (cond b (items_of (slots (words_of (file_bytes (sights p) f)))) (data_of (file_bytes (sights p) f))) ≡ length (file_bytes (sights p) f)
    by false ordinary = refl
    by true dir =
        let r = ended.directories f live dir in
        let h = all_read (words_of (file_bytes (sights p) f)) r.items r.reads in
        ap (λ is. body_length (items_of is)) h.0 ∙ directory_length r.items (file_bytes (sights p) f) r.even h.1

-- so its pages count up to the one of that end
pub counts_end : (p : Pack) → Ended p → (f : Fid) → lives (sights p) f ≡ true → is_fid f disk_descriptor ≡ false → (n : ℕ) → counts p.shape (sights p) f n ≡ nat_le n (suc (length (file_bytes (sights p) f) / 512))
counts_end p ended f live other n = by (leader (sights p) f) refl
  where
    by : (r : Option Leader) → leader (sights p) f ≡ r → counts p.shape (sights p) f n ≡ nat_le n (suc (length (file_bytes (sights p) f) / 512))
    by None e = absurd (let c : false ≡ true = sym (ap is_some e) ∙ live in cc)
    by (Some l) e =
        ap (is_within p.shape f n) (get_by (sights p) f l (file_bytes (sights p) f) e refl)
        ∙ ap (λ b. nat_le n (suc ((cond b (descriptor_length p.shape) (body_length (body_of f (file_bytes (sights p) f)))) / 512))) other
        ∙ ap (λ e. nat_le n (suc (e / 512))) (body_ends p ended f live)

-- a leader page does
pub led_counts : (p : Pack) (f : Fid) (l : Leader) → leader (sights p) f ≡ Some l → counts p.shape (sights p) f 0 ≡ true
led_counts p f l e = ap (is_within p.shape f 0) (get_by (sights p) f l (file_bytes (sights p) f) e refl) ∙ le-leb 0 (last_page p.shape f (body_of f (file_bytes (sights p) f))) (omega arith)
