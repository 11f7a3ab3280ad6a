-- All other files after a whole drop.
use Rattle.std.proofs.Common.{Bool, List, [], ap, false, refl, subst, sym, true, ℕ, ◌++◌, ◌∙◌, ◌∷◌, ◌≡◌}
use Rattle.laws_hint.specs.alto_words.specs.Fid.{is_fid}
use Rattle.laws_hint.specs.alto_words.specs.declared.fid.Fid.{Fid}
use Rattle.laws_hint.specs.disk_records.proofs.Growing.{after-append}
use Rattle.laws_hint.specs.disk_records.specs.Commands.{value_writes}
use Rattle.laws_hint.specs.disk_records.specs.Packs.{Pack, after, sector_at}
use Rattle.laws_hint.specs.laws_lookup.proofs.others.Laws.{place_is_of_its_file, release_leaves_others, values_leave_others}
use Rattle.laws_hint.specs.laws_lookup.specs.OtherLaws.{LeavesOthers}
use Rattle.laws_hint.specs.laws_operation.proofs.drop.Laws.{drop_carries_out, release_carries_out, slot_words_fit}
use Rattle.laws_hint.specs.laws_operation.proofs.entries.Laws.{items_are_slots}
use Rattle.laws_hint.specs.laws_operation.proofs.places.Laws.{values_keep_places}
use Rattle.laws_hint.specs.laws_operation.specs.DirectoryWords.{HasEntry}
use Rattle.laws_hint.specs.laws_operation.specs.LifeLaws.{MayDrop}
use Rattle.laws_hint.specs.laws_operation.specs.PlaceLaws.{SamePlaces}
use Rattle.laws_hint.specs.pack_laws.proofs.Keys.{same_fid}
use Rattle.laws_hint.specs.pack_model.specs.operations.Committing.{page_of_word}
use Rattle.laws_hint.specs.pack_model.specs.operations.Operations.{drop_writes, release_file_writes}
use Rattle.laws_hint.specs.pack_model.specs.operations.PageWords.{freed_value}
use Rattle.laws_hint.specs.pack_model.specs.reading.Model.{dir_items, read_as}
use Rattle.laws_hint.specs.pack_model.specs.reading.Namings.{namings_in}
use Rattle.laws_hint.specs.pack_model.specs.reading.Slots.Item.{entry, space}
use Rattle.laws_hint.specs.pack_model.specs.reading.Slots.{Item, all_words, item_words}
use Rattle.laws_hint.specs.pack_model.specs.states.Whole.{Tidy, Whole}
use Rattle.laws_midway.specs.DroppedLaws.{DropLeavesOthers, LeavesOthersOfTwo}

-- ---- the directory isn't the file
some_named : (d : Fid) (a b : List Item) (f : Fid) (own : List ℕ) → namings_in d (a ++ entry f own ∷ b) ≡ [] → ⊥
some_named d [] b f own e = cc
some_named d (space n ∷ a) b f own e = some_named d a b f own e
some_named d (entry g name ∷ a) b f own e = cc

apart : (p : Pack) (f d : Fid) (at : ℕ) (pages : List ℕ) (slot_at : ℕ) (a b : List Item) (own : List ℕ) → Tidy p → MayDrop p f at pages → HasEntry p d slot_at a b f own → is_fid d f ≡ false
apart p f d at pages slot_at a b own t may has = by (is_fid d f) refl
  where
    by : (same : Bool) → is_fid d f ≡ same → is_fid d f ≡ false
    by false e = e
    by true e =
        let is : d ≡ f = same_fid d f e in
        let items = items_are_slots p d t has.living has.directory ∙ has.slots_are in
        absurd (some_named d a b f own (sym (ap (namings_in d) items) ∙ ap (λ g. namings_in g (dir_items (read_as p) g)) is ∙ may.bare))

-- ---- both parts
pub drop_leaves_others : DropLeavesOthers
drop_leaves_others p f d at pages slot_at a b own w t may has = record { apart = other; others = both }
  where
    other : is_fid d f ≡ false
    other = apart p f d at pages slot_at a b own t may has

    value : List ℕ
    value = freed_value (all_words a) (item_words (entry f own)) (sector_at p slot_at).value

    mid : Pack
    mid = after p (release_file_writes at pages)

    end : Pack
    end = after mid (value_writes slot_at value)

    joined : after p (drop_writes at pages slot_at value) ≡ end
    joined = after-append p (release_file_writes at pages) (value_writes slot_at value)

    first : LeavesOthers f p mid
    first = release_leaves_others p f at pages w t may

    same : SamePlaces mid end
    same = values_keep_places mid ((slot_at, value) ∷ [])

    whole : Whole end
    whole = subst Whole joined (drop_carries_out p f at pages d slot_at a b own w t may (slot_words_fit p d slot_at a b f own has)).meets.whole

    next : LeavesOthers d mid end
    next = values_leave_others mid d ((slot_at, value) ∷ []) (release_carries_out p f at pages w t may).drops.whole whole (place_is_of_its_file mid d (page_of_word (all_words a)) slot_at (first.places d (page_of_word (all_words a)) other ∙ has.sector), tt)

    both_to : LeavesOthersOfTwo f d p end
    both_to = record {
      living = λ g x y. next.living g y ∙ first.living g x;
      places = λ g n x. same.places g n ∙ first.places g n x;
      sectors = λ g n i x y there. next.sectors g n i y (first.places g n x ∙ there) ∙ first.sectors g n i x there;
      bytes = λ g x y. next.bytes g y ∙ first.bytes g x;
    }

    both : LeavesOthersOfTwo f d p (after p (drop_writes at pages slot_at value))
    both = subst (LeavesOthersOfTwo f d p) (sym joined) both_to
