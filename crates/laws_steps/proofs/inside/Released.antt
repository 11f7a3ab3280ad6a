-- After the releases of a drop, before its entry's slot is freed.
use Rattle.std.proofs.Common.{Bool, List, [], ap, false, inl, refl, subst, sym, true, ℕ, ◌∙◌, ◌≡◌}
use Rattle.laws_call.specs.alto_words.specs.Fid.{is_fid}
use Rattle.laws_call.specs.alto_words.specs.declared.fid.Fid.{Fid}
use Rattle.laws_call.specs.disk_records.specs.Packs.{Pack, after}
use Rattle.laws_call.specs.disk_records.specs.declared.records.Place.{Place}
use Rattle.laws_call.specs.disk_records.specs.declared.records.Place.TheVariants.{Entry, Held, Next, Root}
use Rattle.laws_call.specs.laws_lookup.proofs.others.Laws.{release_leaves_others}
use Rattle.laws_call.specs.laws_lookup.proofs.sources.Laws.{found_file_stays_found}
use Rattle.laws_call.specs.laws_lookup.specs.OtherLaws.{LeavesOthers}
use Rattle.laws_call.specs.laws_lookup.specs.SourceLaws.{IsElsewhere}
use Rattle.laws_call.specs.laws_operation.proofs.entries.Laws.{items_are_slots}
use Rattle.laws_call.specs.laws_operation.specs.DirectoryWords.{HasEntry}
use Rattle.laws_call.specs.laws_operation.specs.LifeLaws.{MayDrop}
use Rattle.pack_laws.proofs.Keys.{same_fid}
use Rattle.laws_call.specs.pack_model.specs.hints.Links.{dir_words}
use Rattle.laws_call.specs.pack_model.specs.hints.Misled.{StandsInEntry, leader_page}
use Rattle.laws_call.specs.pack_model.specs.hints.Sources.{IsFrom}
use Rattle.laws_call.specs.pack_model.specs.operations.Committing.{page_of_word}
use Rattle.laws_call.specs.pack_model.specs.operations.Operations.{release_file_writes}
use Rattle.laws_call.specs.pack_model.specs.reading.Bytes.{words_of}
use Rattle.laws_call.specs.pack_model.specs.reading.Model.{dir_items, read_as}
use Rattle.laws_call.specs.pack_model.specs.reading.Namings.{namings_in}
use Rattle.laws_call.specs.pack_model.specs.reading.Slots.{Item, all_words, slots}
use Rattle.laws_call.specs.pack_model.specs.states.Whole.{Tidy, Whole}
use Rattle.laws_steps.proofs.inside.Beside.{no_entry}

-- a file that was found elsewhere than in an entry of this one
pub elsewhere : (p : Pack) (f g : Fid) (at : ℕ) (from : Place) → ((d : Fid) (k : ℕ) → StandsInEntry p d k at (leader_page g) → is_fid d f ≡ false) → IsFrom p g at from → IsElsewhere f from
elsewhere p f g at Root none h = tt
elsewhere p f g at (Entry d k) none h = none d k h
elsewhere p f g at (Next i) none h = tt
elsewhere p f g at (Held i) none h = tt

-- ---- the releases of a file
module _ (p : Pack) (w : Whole p) (t : Tidy p) (f : Fid) (at : ℕ) (pages : List ℕ) (may : MayDrop p f at pages) where
  pub others : LeavesOthers f p (after p (release_file_writes at pages))
  others = release_leaves_others p f at pages w t may

  -- no entry stands in it
  none_stands : (d : Fid) (k bt : ℕ) (g : Fid) → StandsInEntry p d k bt (leader_page g) → is_fid d f ≡ false
  none_stands d k bt g s = by (is_fid d f) refl
    where
      by : (b : Bool) → is_fid d f ≡ b → b ≡ false
      by false e = refl
      by true e =
          let bare : namings_in d (slots (dir_words p d)) ≡ [] = ap (namings_in d) (sym (items_are_slots p d t s.lives s.directory)) ∙ subst (λ x. namings_in x (dir_items (read_as p) x) ≡ []) (sym (same_fid d f e)) may.bare in
          absurd (no_entry d (dir_words p d) 0 (slots (dir_words p d)) s.slot g s.name bare s.stands s.item)

  -- so all other files that were found are found
  pub found_released : (g : Fid) (bt : ℕ) (from : Place) → is_fid g f ≡ false → IsFrom p g bt from → IsFrom (after p (release_file_writes at pages)) g bt from
  found_released g bt from other h = found_file_stays_found f p (release_file_writes at pages) g bt from w others (elsewhere p f g bt from (λ d k s. none_stands d k bt g s) h) (inl other) h

  -- ---- another directory
  -- has its slots
  pub words : (d : Fid) → is_fid d f ≡ false → dir_words (after p (release_file_writes at pages)) d ≡ dir_words p d
  words d other = ap words_of (others.bytes d other)

  -- and its entries, and no others
  pub entry_stays : (d : Fid) → is_fid d f ≡ false → (slot_at : ℕ) (a b : List Item) (g : Fid) (own : List ℕ) → HasEntry p d slot_at a b g own → HasEntry (after p (release_file_writes at pages)) d slot_at a b g own
  entry_stays d other slot_at a b g own has = record {
    directory = has.directory;
    living = others.living d other ∙ has.living;
    slots_are = ap slots (words d other) ∙ has.slots_are;
    sector = others.places d (page_of_word (all_words a)) other ∙ has.sector;
  }

  pub entry_stood : (d : Fid) → is_fid d f ≡ false → (slot_at : ℕ) (a b : List Item) (g : Fid) (own : List ℕ) → HasEntry (after p (release_file_writes at pages)) d slot_at a b g own → HasEntry p d slot_at a b g own
  entry_stood d other slot_at a b g own has = record {
    directory = has.directory;
    living = sym (others.living d other) ∙ has.living;
    slots_are = ap slots (sym (words d other)) ∙ has.slots_are;
    sector = sym (others.places d (page_of_word (all_words a)) other) ∙ has.sector;
  }
