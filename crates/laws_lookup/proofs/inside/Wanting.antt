-- The entry that is meant where slots stand, and the one that is wanted among items.
use Rattle.std.proofs.Common.{Bool, List, None, Option, Some, [], ap, cond, false, length, refl, sym, true, ℕ, ◌&&◌, ◌+◌, ◌∙◌, ◌∷◌, ◌≡◌, ◌||◌}
use Rattle.std.specs.Prelude.{fold, nat_lt}
use Rattle.std.specs.Option.{option_map}
use Rattle.laws_operation.specs.alto_words.specs.Names.{is_same_name, version_of}
use Rattle.laws_operation.specs.alto_words.specs.declared.wanted.Wanted.TheVariants.{Exact, Newest}
use Rattle.laws_operation.specs.pack_model.specs.hints.Links.{dir_words}
use Rattle.laws_operation.specs.pack_model.specs.reading.Lookup.{EntryAt, entered, entry_at, holds_base, meant_by, meant_item, version_met}
use Rattle.laws_operation.specs.pack_model.specs.reading.SlotWords.{SlotAt, address_at, slots_at}
use Rattle.laws_operation.specs.pack_model.specs.reading.Slots.{Item, entry_length, slots}
use Rattle.laws_operation.specs.pack_model.specs.reading.Slots.Item.{entry, space}
use Rattle.laws_operation.specs.pack_model.specs.reading.Versions.{entry_wanted, exact, greatest_version, has_base, is_held, newest_from, version_found}
use Rattle.laws_operation.proofs.entries.Laws.{items_are_slots}
use Rattle.laws_lookup.specs.SlotLaws.{EntryAtIsTheEntryWanted, GreatestIsTheModels, HeldAtIsHeld, HeldIsTheModels, LookupIsTheModels, VersionMetIsTheGreatest}

-- ---- a base
same_version : (best : Option EntryAt) → version_met best ≡ version_found (option_map entered best)
same_version None = refl
same_version (Some e) = refl

chosen_one : (b : Bool) (e : EntryAt) (best : Option EntryAt) → option_map entered (cond b (Some e) best) ≡ cond b (Some (entered e)) (option_map entered best)
chosen_one true e best = refl
chosen_one false e best = refl

newest_items : (base words : List ℕ) (place : ℕ) (best : Option EntryAt) (is : List Item) → option_map entered (fold (meant_by (Newest base)) best (slots_at words place is)) ≡ newest_from base (option_map entered best) is
unfolding slots_at
newest_items base words place best [] = refl
newest_items base words place best (space n ∷ is) = newest_items base words (place + n) best is
newest_items base words place best (entry f own ∷ is) =
    let e : EntryAt = record { fid = f; name = own; place = place; address = address_at words place (entry f own) } in
    newest_items base words (place + entry_length (length own)) (meant_item (Newest base) best place (entry f own) (address_at words place (entry f own))) is
    ∙ ap (λ r. newest_from base r is) (chosen_one (has_base base own && nat_lt (version_met best) (version_of own)) e best ∙ ap (λ n. cond (has_base base own && nat_lt n (version_of own)) (Some (f, own)) (option_map entered best)) (same_version best))

-- ---- an exact name
-- the first one stays
exact_stays : (name : List ℕ) (e : EntryAt) (met : List SlotAt) → fold (meant_by (Exact name)) (Some e) met ≡ Some e
exact_stays name e [] = refl
exact_stays name e (s ∷ met) = ap (λ b. fold (meant_by (Exact name)) b met) (one s.item) ∙ exact_stays name e met
  where
    one : (i : Item) → meant_item (Exact name) (Some e) s.place i s.address ≡ Some e
    one (space n) = refl
    one (entry f own) = refl

exact_items : (name words : List ℕ) (place : ℕ) (is : List Item) → option_map entered (fold (meant_by (Exact name)) None (slots_at words place is)) ≡ exact name is
unfolding slots_at
exact_items name words place [] = refl
exact_items name words place (space n ∷ is) = exact_items name words (place + n) is
exact_items name words place (entry f own ∷ is) = by (exact_items name words (place + entry_length (length own)) is) (is_same_name own name)
  where
    by : option_map entered (fold (meant_by (Exact name)) None (slots_at words (place + entry_length (length own)) is)) ≡ exact name is → (b : Bool) → option_map entered (fold (meant_by (Exact name)) (cond b (Some (record { fid = f; name = own; place = place; address = address_at words place (entry f own) })) None) (slots_at words (place + entry_length (length own)) is)) ≡ cond b (Some (f, own)) (exact name is)
    by h true = ap (option_map entered) (exact_stays name (record { fid = f; name = own; place = place; address = address_at words place (entry f own) }) (slots_at words (place + entry_length (length own)) is))
    by h false = h

pub entry_at_is_the_entry_wanted : EntryAtIsTheEntryWanted
entry_at_is_the_entry_wanted (Exact name) words place is = exact_items name words place is
entry_at_is_the_entry_wanted (Newest base) words place is = newest_items base words place None is

-- ---- bases that are held
or_false : (b : Bool) → (b || false) ≡ b
or_false true = refl
or_false false = refl

or_or : (a b c : Bool) → ((a || b) || c) ≡ (a || (b || c))
or_or true b c = refl
or_or false b c = refl

held_items : (base words : List ℕ) (place : ℕ) (h : Bool) (is : List Item) → fold (λ held s. held || holds_base base s.item) h (slots_at words place is) ≡ (h || is_held base is)
unfolding slots_at
held_items base words place h [] = sym (or_false h)
held_items base words place h (space n ∷ is) = held_items base words (place + n) (h || false) is ∙ ap (λ b. b || is_held base is) (or_false h)
held_items base words place h (entry f own ∷ is) =
    held_items base words (place + entry_length (length own)) (h || holds_base base (entry f own)) is ∙ or_or h (holds_base base (entry f own)) (is_held base is)

pub held_at_is_held : HeldAtIsHeld
held_at_is_held base words place is = held_items base words place false is

-- ---- in the model
pub lookup_is_the_models : LookupIsTheModels
lookup_is_the_models p d w t live dir = entry_at_is_the_entry_wanted w (dir_words p d) 0 (slots (dir_words p d)) ∙ ap (entry_wanted w) (sym (items_are_slots p d t live dir))

pub held_is_the_models : HeldIsTheModels
held_is_the_models p d base t live dir = held_at_is_held base (dir_words p d) 0 (slots (dir_words p d)) ∙ ap (is_held base) (sym (items_are_slots p d t live dir))

-- ---- the greatest version
pub version_met_is_the_greatest : VersionMetIsTheGreatest
version_met_is_the_greatest base words place is = same_version (entry_at (Newest base) (slots_at words place is)) ∙ ap version_found (entry_at_is_the_entry_wanted (Newest base) words place is)

pub greatest_is_the_models : GreatestIsTheModels
greatest_is_the_models p d base t live dir = version_met_is_the_greatest base (dir_words p d) 0 (slots (dir_words p d)) ∙ ap (greatest_version base) (sym (items_are_slots p d t live dir))
