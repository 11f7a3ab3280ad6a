-- Where a file ends: its bytes end there, and its pages up to the one of that end count.
use Rattle.std.proofs.Common.{◌*◌, ◌/◌, ◌∙◌, ◌≡◌, ◌<◌, Bool, List, None, Some, ap, arith, cond, false, length, nat_le, refl, suc, sym, true, ℕ}
use Rattle.std.specs.Option.{is_some}
use Rattle.std.specs.Option.{option_map}
use Rattle.pack_laws.specs.alto_words.specs.Fid.{disk_descriptor, is_directory, is_fid}
use Rattle.pack_laws.specs.alto_words.specs.declared.fid.Fid.{Fid}
use Rattle.pack_laws.specs.disk_records.specs.Addresses.{descriptor_length}
use Rattle.pack_laws.specs.disk_records.specs.Packs.{Pack, sector_at}
use Rattle.pack_laws.specs.disk_records.specs.declared.records.Page.{Page}
use Rattle.pack_laws.specs.disk_records.specs.declared.shape.Shape.{Shape}
use Rattle.pack_laws.specs.pack_model.specs.reading.Bodies.{body_length, body_of}
use Rattle.pack_laws.specs.pack_model.specs.reading.Bodies.Body.{data_of, items_of}
use Rattle.pack_laws.specs.pack_model.specs.reading.Bytes.{words_of}
use Rattle.pack_laws.specs.pack_model.specs.reading.Files.{file_bytes, leader, lives, most_pages, place}
use Rattle.pack_laws.specs.pack_model.specs.states.InUse.{counts, end_of, is_within}
use Rattle.pack_laws.specs.pack_model.specs.reading.Leaders.{Leader}
use Rattle.pack_laws.specs.pack_model.specs.reading.Sights.{Sight, sights}
use Rattle.pack_laws.specs.pack_model.specs.reading.Slots.{IsEven, SlotsReachEnd, none, slots, two}
use Rattle.pack_laws.proofs.Bytes.{length-words_of}
use Rattle.pack_laws.proofs.Guarding.{carried_parts}
use Rattle.pack_laws.proofs.Joining.{most_is}
use Rattle.pack_laws.proofs.Keys.{same_fid}
use Rattle.laws_record.proofs.Copying.{place_carried}
use Rattle.laws_record.proofs.Heads.{all_read}
use Rattle.laws_record.proofs.Reading.{get-found, get_by, read_file}
use Rattle.laws_record.proofs.Recording.{number_below}

-- ---- the bytes of a file end where its body does
-- What a whole pack says of the ends of directories and of DiskDescriptor.
pub record EndsFit (shape : Shape) (ss : List Sight) : Type 0 where
  pub directories : (d : Fid) → lives ss d ≡ true → is_directory d ≡ true → SlotsReachEnd (file_bytes ss d)
  pub descriptor : length (file_bytes ss disk_descriptor) ≡ descriptor_length shape

-- bytes in whole words are twice as many
twice : (bytes : List ℕ) → IsEven bytes → length bytes / 2 * 2 ≡ length bytes
twice bytes none = refl
twice bytes (two {bytes = rest} even) = let e = twice rest even in omega arith

module _ (shape : Shape) (ss : List Sight) (fit : EndsFit shape ss) where
  -- a living file ends with its bytes
  pub end_is : (f : Fid) → lives ss f ≡ true → end_of shape f (body_of f (file_bytes ss f)) ≡ length (file_bytes ss f)
  end_is f live = by (is_fid f disk_descriptor) (is_directory f) refl refl
    where
      by : (a b : Bool) → is_fid f disk_descriptor ≡ a → is_directory f ≡ b → cond a (descriptor_length shape) (body_length (cond b (items_of (slots (words_of (file_bytes ss f)))) (data_of (file_bytes ss f)))) ≡ length (file_bytes ss f)
      by true b own dir = sym fit.descriptor ∙ ap (λ g. length (file_bytes ss g)) (sym (same_fid f disk_descriptor own))
      by false true own dir =
          let r = fit.directories f live dir in
          let h = all_read (words_of (file_bytes ss f)) r.items r.reads in
          ap (λ is. body_length (items_of is)) h.0 ∙ ap (λ n. n * 2) (h.1 ∙ length-words_of (file_bytes ss f)) ∙ twice (file_bytes ss f) r.even
      by false false own dir = refl

  -- so the pages that count are those up to the one of that end
  pub counts_is : (f : Fid) (l : Leader) (n : ℕ) → leader ss f ≡ Some l → counts shape ss f n ≡ nat_le n (suc (length (file_bytes ss f) / 512))
  counts_is f l n lead =
      ap (is_within shape f n) (get_by ss f l (file_bytes ss f) lead refl) ∙ ap (λ e. nat_le n (suc (e / 512))) (end_is f (ap is_some lead))

-- of a file that doesn't live no page counts
pub counts_none : (shape : Shape) (ss : List Sight) (f : Fid) (n : ℕ) → leader ss f ≡ None → counts shape ss f n ≡ false
counts_none shape ss f n dead = ap (is_within shape f n) (get-found ss f ∙ ap (option_map (read_file f (file_bytes ss f))) dead)

-- ---- numbers
-- a label's page number is a word
pub number_few : (p : Pack) (f : Fid) (n at : ℕ) → place (sights p) f (suc n) ≡ Some at → n < most_pages
number_few p f n at e =
    let x : Page = record { fid = f; number = suc n } in
    let below = number_below (sector_at p at).label x (carried_parts p at x (place_carried p x at e)).1 in
    rw most_is (omega arith)
