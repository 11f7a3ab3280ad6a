-- The scan of all directories, entry by entry.
use Rattle.std.proofs.Common.{◌≡◌, ℕ, ◌+◌, ◌<◌, ◌≤◌, Bool, true, cond, List, [], ◌∷◌, ◌++◌, length, take, drop, get_or, None, Some, refl, sym, ap, subst, ◌∙◌}
use Rattle.std.specs.Prelude.{fold}
use Rattle.std.specs.FinMap.{FinMap}
use Rattle.std.proofs.lemmas.List.{append_assoc, append-nil, take_more}
use Rattle.alto_words.specs.declared.fid.Fid.{Fid}
use Rattle.alto_words.specs.Fid.{fid_cmp, is_directory}
use Rattle.pack_model.specs.reading.Bytes.{words_of}
use Rattle.pack_model.specs.reading.Slots.{Item, item_words, slot_at, slots}
use Rattle.pack_model.specs.reading.Slots.Item.{space, entry}
use Rattle.pack_model.specs.reading.Bodies.Body.{data_of, items_of}
use Rattle.pack_model.specs.reading.Namings.{namings_in, body_namings}
use Rattle.pack_model.specs.showing.View.{Home}
use Rattle.kept_names.specs.declared.names.Names.{Names}
use Rattle.kept_names.specs.Homes.{considered, StandsFor}
use Rattle.pack_reading.specs.declared.files.Found.{Found}
use Rattle.pack_reading.specs.Scans.{namings_of, all_namings}
use Rattle.pack_reading.proofs.Slots.{slots-none, slots-some}

-- ---- many entries
pub fold-append : {X Y : Type 0} (g : Y → X → Y) (z : Y) (xs ys : List X) → fold g z (xs ++ ys) ≡ fold g (fold g z xs) ys
fold-append g z [] ys = refl
fold-append g z (x ∷ xs) ys = fold-append g (g z x) xs ys

pub namings_in-append : (d : Fid) (is js : List Item) → namings_in d (is ++ js) ≡ namings_in d is ++ namings_in d js
namings_in-append d [] js = refl
namings_in-append d (space n ∷ is) js = namings_in-append d is js
namings_in-append d (entry f name ∷ is) js = ap (λ l. record { dir = d; name = name; fid = f } ∷ l) (namings_in-append d is js)

pub all_namings-push : (files : List Found) (file : Found) → all_namings (files ++ file ∷ []) ≡ all_namings files ++ namings_of file
all_namings-push [] file = append-nil (namings_of file)
all_namings-push (x ∷ files) file = ap (λ l. namings_of x ++ l) (all_namings-push files file) ∙ sym (append_assoc (namings_of x) (all_namings files) (namings_of file))

-- ---- directories
pub directory_namings : (file : Found) → is_directory file.fid ≡ true → namings_of file ≡ namings_in file.fid (slots (words_of file.bytes))
directory_namings file is = ap (λ b. body_namings file.fid (cond b (items_of (slots (words_of file.bytes))) (data_of file.bytes))) is

-- ---- a directory's words, slot by slot
-- so far the scan has come: the entries of the words that are left, considered on from here, come to all of these
pub record ComesTo (lives : Fid → Bool) (d : Fid) (names : Names) (rest : List ℕ) (all : FinMap fid_cmp Home) : Type 0 where
  pub homes : FinMap fid_cmp Home
  pub stands : StandsFor names homes
  pub ahead : fold (considered lives) homes (namings_in d (slots rest)) ≡ all

module _ (lives : Fid → Bool) (d : Fid) where
  -- the first slot of these words, and then those after it
  pub slot_considered : (words : List ℕ) (i : Item) (homes : FinMap fid_cmp Home) → slot_at words ≡ Some i → 1 ≤ item_words i → item_words i ≤ length words
      → fold (considered lives) (fold (considered lives) homes (namings_in d (i ∷ []))) (namings_in d (slots (drop (item_words i) words))) ≡ fold (considered lives) homes (namings_in d (slots words))
  slot_considered words i homes some least most =
      let behind : List Item = slots (drop (item_words i) words) in
      sym (
      ap (λ is. fold (considered lives) homes (namings_in d is)) (slots-some words i some least most)
      ∙ ap (fold (considered lives) homes) (namings_in-append d (i ∷ []) behind)
      ∙ fold-append (considered lives) homes (namings_in d (i ∷ [])) (namings_in d behind)
      )

  -- no slot is left
  pub none_left : (names : Names) (words : List ℕ) (all : FinMap fid_cmp Home) → slot_at words ≡ None → ComesTo lives d names words all → StandsFor names all
  none_left names words all none so_far = subst (StandsFor names) (ap (λ is. fold (considered lives) so_far.homes (namings_in d is)) (sym (slots-none words none)) ∙ so_far.ahead) so_far.stands

-- ---- one file more
pub file_more : (lives : Fid → Bool) (all : List Found) (i : ℕ) (file : Found) (homes : FinMap fid_cmp Home) → i < length all → file ≡ get_or all i file
    → fold (considered lives) (fold (considered lives) homes (all_namings (take i all))) (namings_of file) ≡ fold (considered lives) homes (all_namings (take (i + 1) all))
file_more lives all i file homes more is =
    sym (
    ap (λ l. fold (considered lives) homes (all_namings l)) (take_more all i file more ∙ ap (λ s. take i all ++ s ∷ []) (sym is))
    ∙ ap (fold (considered lives) homes) (all_namings-push (take i all) file)
    ∙ fold-append (considered lives) homes (all_namings (take i all)) (namings_of file)
    )
