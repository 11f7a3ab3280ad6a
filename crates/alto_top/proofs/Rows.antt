-- The rows of the listing in order, and their text.
use Rattle.std.proofs.Common.{◌≡◌, ℕ, List, [], ◌∷◌, ◌++◌, map, refl, sym, ap, ◌∙◌, append_assoc, append-nil}
use Rattle.std.specs.Prelude.{length}
use Rattle.std.specs.List.{flat_map}
use Rattle.std.specs.BTreeSet.{insert_key}
use Rattle.std.proofs.lemmas.List.{length-map}
use Rattle.std.proofs.lemmas.List.Folds.{flat_map-map}
use Rattle.pack_model.specs.reading.Namings.{Naming}
use Rattle.pack_model.specs.showing.View.{View}
use Rattle.pack_model.specs.showing.Listing.{Listed, line_of, listed_cmp, listing, in_order, shown_names, shown_files}
use Rattle.session_boot.specs.pack_laws.proofs.Inserting.{in_order-none, in_order-cons, map-insert_key}
use Rattle.session_boot.specs.pack_laws.proofs.Orders.{listed_total}
use Rattle.pack_reading.specs.declared.shown.ShownLengths.{ShownLengths}
use Rattle.pack_reading.specs.declared.shown.ShownName.{ShownName}
use Rattle.pack_reading.specs.Lengths.{shown_length, ShowsLengths}
use Rattle.pack_reading.specs.Shows.{naming, shown_name}
use Rattle.alto_top.specs.declared.row.Row.{Row}
use Rattle.alto_top.specs.Orders.{row_cmp}
use Rattle.alto_top.specs.Looking.{listed_in}
use Rattle.alto_top.specs.Showing.{line_text, count_text, listing_text}

abbrev pub line_for : View → ShownName → Listed
line_for v n = line_of v (naming n)

-- the rows of the last of some names are in order, and these names are left
pub record Listing (v : View) (rows : List Row) (left all : List ShownName) : Type 0 where
  pub done : List ShownName
  pub split : left ++ done ≡ all
  pub listed : map listed_in rows ≡ in_order listed_cmp (map (line_for v) done)

pub listing_none : (v : View) (rows : List Row) (all : List ShownName) → rows ≡ [] → Listing v rows all all
listing_none v rows all none = record {
  done = [];
  split = append-nil all;
  listed = ap (map listed_in) none ∙ sym (in_order-none listed_cmp);
}

pub listing_more : (v : View) (rows new : List Row) (row : Row) (n : ShownName) (left before all : List ShownName) → Listing v rows before all → before ≡ left ++ n ∷ [] → listed_in row ≡ line_for v n → new ≡ insert_key row_cmp rows row → Listing v new left all
listing_more v rows new row n left before all c last is inserted = record {
  done = n ∷ c.done;
  split = sym (append_assoc left (n ∷ []) c.done) ∙ ap (λ l. l ++ c.done) (sym last) ∙ c.split;
  listed =
      ap (map listed_in) inserted
      ∙ map-insert_key row_cmp listed_cmp listed_in (λ x y. refl) rows row
      ∙ (λ i. insert_key listed_cmp (c.listed i) (is i))
      ∙ sym (in_order-cons listed_total (line_for v n) (map (line_for v) c.done));
}

-- ---- the text
names_back : (v : View) (ns : List Naming) → map (line_for v) (map shown_name ns) ≡ map (line_of v) ns
names_back v [] = refl
names_back v (n ∷ ns) = ap (λ l. line_of v n ∷ l) (names_back v ns)

pub listing_is : (v : View) (shown : ShownLengths) (rows : List Row) (text : List ℕ) → ShowsLengths shown v → map listed_in rows ≡ in_order listed_cmp (map (line_for v) shown.names) → text ≡ flat_map (λ l. line_text (listed_in l)) rows ++ count_text (length shown.files) → text ≡ listing_text v
unfolding listing_text
listing_is v shown rows text shows listed is =
    let in_lines : map listed_in rows ≡ listing v = listed ∙ ap (λ l. in_order listed_cmp (map (line_for v) l)) shows.names ∙ ap (in_order listed_cmp) (names_back v (shown_names v)) in
    let count : length shown.files ≡ length (shown_files v) = ap length shows.files ∙ length-map (shown_files v) shown_length in
    is
    ∙ ap (λ l. l ++ count_text (length shown.files)) (sym (flat_map-map line_text listed_in rows) ∙ ap (flat_map line_text) in_lines)
    ∙ ap (λ n. flat_map line_text (listing v) ++ count_text n) count
