-- Files without entries of their own, and the sectors of a drop.
use Rattle.std.proofs.Common.{Bool, List, None, Option, Some, [], ap, arith, cond, false, le-leb, length, refl, suc, sym, true, zero, ℕ, ◌+◌, ◌<◌, ◌∙◌, ◌∷◌, ◌≡◌, ◌≤◌}
use Rattle.std.specs.FinMap.{get}
use Rattle.std.specs.List.{list_any}
use Rattle.std.specs.Option.{is_some, option_map}
use Rattle.laws_operation.specs.alto_words.specs.Fid.{is_directory}
use Rattle.laws_operation.specs.alto_words.specs.declared.fid.Fid.{Fid}
use Rattle.laws_operation.specs.disk_records.specs.Packs.{Pack}
use Rattle.laws_operation.specs.pack_model.specs.hints.Links.{dir_words}
use Rattle.laws_operation.specs.pack_model.specs.operations.Committing.{page_of_byte}
use Rattle.laws_operation.specs.pack_model.specs.reading.Bodies.{body_items, described, found, is_described, items_in}
use Rattle.laws_operation.specs.pack_model.specs.reading.Bodies.Body.{data_of, items_of}
use Rattle.laws_operation.specs.pack_model.specs.reading.Bytes.{words_of}
use Rattle.laws_operation.specs.pack_model.specs.reading.Files.{file_bytes, leader, lives, place}
use Rattle.laws_operation.specs.pack_model.specs.reading.Leaders.{Leader}
use Rattle.laws_operation.specs.pack_model.specs.reading.Model.{dir_items, read_as, read_sights}
use Rattle.laws_operation.specs.pack_model.specs.reading.Namings.{namings_in}
use Rattle.laws_operation.specs.pack_model.specs.reading.Sights.{Sight, sights}
use Rattle.laws_operation.specs.pack_model.specs.reading.Slots.{Item, slots}
use Rattle.laws_operation.specs.pack_model.specs.reading.Slots.Item.{entry, space}
use Rattle.laws_operation.specs.pack_model.specs.states.Whole.{Tidy}
use Rattle.laws_operation.specs.laws_record.proofs.Keeping.{get-where}
use Rattle.laws_operation.specs.laws_record.proofs.Reading.{get-found, read_file}
use Rattle.laws_operation.specs.laws_record.proofs.Tidying.{tidy_same}
use Rattle.laws_operation.proofs.entries.Laws.{items_are_slots}
use Rattle.laws_operation.proofs.lengths.Laws.{placed_pages_are_those_up_to_the_last}
use Rattle.laws_operation.specs.ByteLaws.{Bear}
use Rattle.laws_lookup.specs.DropLaws.{BareFileMayBeDropped, DropIsOfTheseSectors, EmptyDirectoryIsBare, OrdinaryFileIsBare, is_an_entry}

-- ---- no entries of its own
-- an ordinary file has no slots
no_slots : (p : Pack) (f : Fid) → Tidy p → is_directory f ≡ false → dir_items (read_as p) f ≡ []
unfolding read_sights
no_slots p f t ordinary =
    ap (λ m. items_in (get m f)) (tidy_same (lives (sights p)) (described (sights p)) t)
    ∙ ap items_in (get-where (found (sights p)) is_described f ∙ ap (λ r. cond (is_described f) r None) (get-found (sights p) f))
    ∙ by (is_described f) (leader (sights p) f)
  where
    by : (b : Bool) (r : Option Leader) → items_in (cond b (option_map (read_file f (file_bytes (sights p) f)) r) None) ≡ []
    by true (Some l) = ap (λ c. body_items (cond c (items_of (slots (words_of (file_bytes (sights p) f)))) (data_of (file_bytes (sights p) f)))) ordinary
    by true None = refl
    by false r = refl

pub ordinary_file_is_bare : OrdinaryFileIsBare
ordinary_file_is_bare p f t ordinary = ap (namings_in f) (no_slots p f t ordinary)

no_names : (d : Fid) (is : List Item) → list_any is_an_entry is ≡ false → namings_in d is ≡ []
no_names d [] h = refl
no_names d (space n ∷ is) h = no_names d is h
no_names d (entry f name ∷ is) h = absurd cc

pub empty_directory_is_bare : EmptyDirectoryIsBare
empty_directory_is_bare p d t live dir none = ap (namings_in d) (items_are_slots p d t live dir) ∙ no_names d (slots (dir_words p d)) none

-- ---- pages
-- so many pages in a row that have places
record Row (ss : List Sight) (f : Fid) (k count : ℕ) : Type 0 where
  ats : List ℕ
  number : length ats ≡ count
  bear : Bear ss f k ats

some_of : (r : Option ℕ) → is_some r ≡ true → (x : ℕ) × (r ≡ Some x)
some_of None e = absurd cc
some_of (Some x) e = (x, refl)

row : (ss : List Sight) (f : Fid) (k count : ℕ) → ((n : ℕ) → k ≤ n → n < k + count → is_some (place ss f n) ≡ true) → Row ss f k count
row ss f k zero h = record { ats = []; number = refl; bear = tt }
row ss f k (suc count) h =
    let first = some_of (place ss f k) (h k (omega arith) (omega arith)) in
    let rest = row ss f (suc k) count (λ n l m. h n (omega arith) (omega arith)) in
    record { ats = first.0 ∷ rest.ats; number = ap suc rest.number; bear = (first.1, rest.bear) }

pub bare_file_may_be_dropped : BareFileMayBeDropped
bare_file_may_be_dropped p f w live system bare =
    let last : ℕ = page_of_byte (length (file_bytes (sights p) f)) in
    let placed : (n : ℕ) → n ≤ last → is_some (place (sights p) f n) ≡ true = λ n l. placed_pages_are_those_up_to_the_last p f n w live ∙ le-leb n (page_of_byte (length (file_bytes (sights p) f))) l in
    let leader_at = some_of (place (sights p) f 0) (placed 0 (omega arith)) in
    let pages = row (sights p) f 1 last (λ n l m. placed n (omega arith)) in
    record { at = leader_at.0; pages = pages.ats; may = record { no_system = system; sector = leader_at.1; bare = bare; number = pages.number; pages_are = pages.bear } }

-- ---- one list of sectors
one_some : (r : Option ℕ) (a b : ℕ) → r ≡ Some a → r ≡ Some b → a ≡ b
one_some r a b x y = let both : Some a ≡ Some b = sym x ∙ y in cc

one_row : (ss : List Sight) (f : Fid) (k : ℕ) (a b : List ℕ) → length a ≡ length b → Bear ss f k a → Bear ss f k b → a ≡ b
one_row ss f k [] [] e x y = refl
one_row ss f k [] (j ∷ b) e x y = absurd (omega (arith, e))
one_row ss f k (i ∷ a) [] e x y = absurd (omega (arith, e))
one_row ss f k (i ∷ a) (j ∷ b) e x y =
    let first : i ≡ j = one_some (place ss f k) i j x.0 y.0 in
    let rest : a ≡ b = one_row ss f (suc k) a b (omega (arith, e)) x.1 y.1 in
    λ n. first n ∷ rest n

pub drop_is_of_these_sectors : DropIsOfTheseSectors
drop_is_of_these_sectors p f at bt pages others x y = (one_some (place (sights p) f 0) at bt x.sector y.sector, one_row (sights p) f 1 pages others (x.number ∙ sym y.number) x.pages_are y.pages_are)
