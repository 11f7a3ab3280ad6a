-- The files of the model by the values of their pages.
use Rattle.std.proofs.Common.{Bool, List, None, Some, [], ap, arith, cond, false, get_or, length, not, refl, subst, sym, true, ℕ, ◌*◌, ◌<◌, ◌∙◌, ◌≡◌}
use Rattle.std.specs.FinMap.{get}
use Rattle.std.specs.Option.{is_some}
use Rattle.laws_record.specs.alto_words.specs.Fid.{disk_descriptor, is_directory, is_fid}
use Rattle.laws_record.specs.alto_words.specs.declared.fid.Fid.{Fid}
use Rattle.laws_record.specs.disk_records.specs.Packs.{Pack, sector_at}
use Rattle.laws_record.specs.pack_model.specs.hints.Links.{dir_words}
use Rattle.laws_record.specs.pack_model.specs.operations.Committing.{length_in}
use Rattle.laws_record.specs.pack_model.specs.reading.Bodies.{body_length, described, found, is_described, items_in}
use Rattle.laws_record.specs.pack_model.specs.reading.Bodies.Body.{data_of, items_of}
use Rattle.laws_record.specs.pack_model.specs.reading.Bytes.{words_of}
use Rattle.laws_record.specs.pack_model.specs.reading.Files.{carries_page, file_bytes, lives, place}
use Rattle.laws_record.specs.pack_model.specs.reading.Leaders.{Leader, is_readable, leader_of, leader_words}
use Rattle.laws_record.specs.pack_model.specs.reading.Model.{read_sights}
use Rattle.laws_record.specs.pack_model.specs.reading.Sights.{sights}
use Rattle.laws_record.specs.pack_model.specs.reading.Sights.Sight.{hidden, leads}
use Rattle.laws_record.specs.pack_model.specs.reading.Slots.{IsEven, all_words, slots}
use Rattle.laws_record.specs.pack_model.specs.reading.Slots.IsEven.{none, two}
use Rattle.laws_record.specs.pack_model.specs.states.Whole.{Whole}
use Rattle.laws_record.specs.pack_laws.proofs.Carrying.{leader_shown, names_of_sight}
use Rattle.laws_record.specs.pack_laws.proofs.Placing.{leader_of_place, place_is, place_of_leader}
use Rattle.laws_record.specs.pack_laws.proofs.Sighted.{length-sights, sights-get}
use Rattle.laws_record.proofs.DirReads.{has_leader, not_descriptor}
use Rattle.laws_record.proofs.Entered.{directory}
use Rattle.laws_record.proofs.Heads.{all_read}
use Rattle.laws_record.proofs.Keeping.{get-tidied_plain, get-where}
use Rattle.laws_record.proofs.Reading.{get_by, read_file}
use Rattle.laws_record.proofs.Scanned.{tidied_items}
use Rattle.laws_record.proofs.Tidying.{tidy_same}
use Rattle.laws_record.proofs.sentences.Laws.{sentences_hold}
use Rattle.laws_contents.specs.ModelContents.{DirectoryIsItsPages, LeaderIsItsValue, ModelLengthsAreOfBytes, OrdinaryFileIsItsPages, WholeDirectoryIsAllSlots, WholeLeaderIsReadable}

-- ---- leaders
-- what the place of a leader shows
leader_shown_at : (p : Pack) (f : Fid) (at : ℕ) → place (sights p) f 0 ≡ Some at → get_or (sights p) at hidden ≡ leads f (is_readable (leader_words (sector_at p at).value)) (leader_of f (sector_at p at).value)
leader_shown_at p f at e =
    let h = place_is (sights p) f 0 at e in
    let l : at < length p.sectors = subst (λ n. at < n) (length-sights p) h.within in
    let shown = sights-get p at hidden l in
    shown ∙ leader_shown p.shape at (sector_at p at) f (names_of_sight p.shape at (sector_at p at) f 0 (ap (carries_page f 0) (sym shown) ∙ h.carries hidden))

pub leader_is_its_value : LeaderIsItsValue
leader_is_its_value p f at e =
    let h = leader_of_place (sights p) f at e in
    let both : leads f h.readable h.lead ≡ leads f (is_readable (leader_words (sector_at p at).value)) (leader_of f (sector_at p at).value) = sym (h.shows hidden) ∙ leader_shown_at p f at e in
    let same : h.lead ≡ leader_of f (sector_at p at).value = cc in
    record { living = ap is_some h.leader_is; says = h.leader_is ∙ ap Some same }

pub whole_leader_is_readable : WholeLeaderIsReadable
whole_leader_is_readable p f at w e =
    (sentences_hold p w).pages.readable f (leader_is_its_value p f at e).living at (is_readable (leader_words (sector_at p at).value)) (leader_of f (sector_at p at).value) e (leader_shown_at p f at e)

-- ---- files
-- a file of any pack, before its entries are looked at
described_at : (p : Pack) (f : Fid) (at : ℕ) → is_fid f disk_descriptor ≡ false → place (sights p) f 0 ≡ Some at → get (described (sights p)) f ≡ Some (read_file f (file_bytes (sights p) f) (leader_of f (sector_at p at).value))
described_at p f at other e =
    get-where (found (sights p)) is_described f ∙ ap (λ b. cond (not b) (get (found (sights p)) f) None) other
    ∙ get_by (sights p) f (leader_of f (sector_at p at).value) (file_bytes (sights p) f) (leader_is_its_value p f at e).says refl

pub ordinary_file_is_its_pages : OrdinaryFileIsItsPages
unfolding read_sights
ordinary_file_is_its_pages p f at plain other e =
    let l : Leader = leader_of f (sector_at p at).value in
    let bytes : List ℕ = file_bytes (sights p) f in
    get-tidied_plain (lives (sights p)) (described (sights p)) f (record { leader = l; body = data_of bytes })
    (described_at p f at other e ∙ ap (λ b. Some (record { leader = l; body = cond b (items_of (slots (words_of bytes))) (data_of bytes) })) plain)
    (bytes, refl)

pub directory_is_its_pages : DirectoryIsItsPages
unfolding read_sights
directory_is_its_pages p d at dir e =
    let l : Leader = leader_of d (sector_at p at).value in
    let bytes : List ℕ = file_bytes (sights p) d in
    let there : get (described (sights p)) d ≡ Some (record { leader = l; body = items_of (slots (words_of bytes)) }) =
    described_at p d at (not_descriptor d dir) e ∙ ap (λ b. Some (record { leader = l; body = cond b (items_of (slots (words_of bytes))) (data_of bytes) })) dir in
    let kept = tidied_items (lives (sights p)) (described (sights p)) d l (slots (words_of bytes)) there in
    kept ∙ ap (λ is. Some (directory l is)) (sym (ap items_in kept))

-- ---- on a whole pack
-- bytes in whole words
even_words : (bytes : List ℕ) → IsEven bytes → length bytes ≡ 2 * length (words_of bytes)
even_words [] none = refl
even_words _ (two {bytes = bytes} e) = let h = even_words bytes e in omega arith

pub whole_directory_is_all_slots : WholeDirectoryIsAllSlots
whole_directory_is_all_slots p d w dir live =
    let h = w.directories d live dir in
    let r = all_read (dir_words p d) h.items h.reads in
    record { words = ap all_words r.0 ∙ r.1; bytes = even_words (file_bytes (sights p) d) h.even }

-- the length of a body by its bytes
length_by : (p : Pack) (f : Fid) → Whole p → lives (sights p) f ≡ true → (b : Bool) → is_directory f ≡ b → body_length (cond b (items_of (slots (dir_words p f))) (data_of (file_bytes (sights p) f))) ≡ length (file_bytes (sights p) f)
length_by p f w live false e = refl
length_by p f w live true e = let h = whole_directory_is_all_slots p f w e live in let words = h.words in let bytes = h.bytes in omega arith

pub model_lengths_are_of_bytes : ModelLengthsAreOfBytes
unfolding read_sights
model_lengths_are_of_bytes p f w t other live =
    let l = has_leader (sights p) f live in
    let at = place_of_leader (sights p) f l.0 l.1 in
    ap (λ m. length_in (get m f)) (tidy_same (lives (sights p)) (described (sights p)) t) ∙ ap length_in (described_at p f at.0 other at.1) ∙ length_by p f w live (is_directory f) refl
