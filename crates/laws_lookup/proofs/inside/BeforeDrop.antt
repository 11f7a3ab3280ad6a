-- Hints that mislead after a whole drop.
use Rattle.std.proofs.Common.{Bool, List, None, Option, Some, [], ap, cond, false, length, refl, subst, sym, true, ℕ, ◌++◌, ◌+◌, ◌/◌, ◌∙◌, ◌∷◌, ◌≡◌, ◌≤◌, ◌||◌}
use Rattle.std.proofs.lemmas.List.Folds.{list_any-append}
use Rattle.std.specs.FinMap.{get, get-remove, remove}
use Rattle.std.specs.List.{list_any}
use Rattle.std.specs.Option.{is_some, option_map}
use Rattle.laws_operation.specs.alto_words.specs.Fid.{disk_descriptor, is_fid, sys_dir}
use Rattle.laws_operation.specs.alto_words.specs.declared.fid.Fid.{Fid}
use Rattle.laws_operation.specs.disk_records.proofs.Growing.{after-append}
use Rattle.laws_operation.specs.disk_records.specs.Commands.{value_writes}
use Rattle.laws_operation.specs.disk_records.specs.Packs.{Pack, after, sector_at}
use Rattle.laws_operation.specs.disk_records.specs.declared.records.Event.{Event}
use Rattle.laws_operation.specs.disk_records.specs.declared.records.Page.{Page}
use Rattle.laws_operation.specs.disk_records.specs.declared.records.Place.{Place}
use Rattle.laws_operation.specs.disk_records.specs.declared.records.Place.TheVariants.{Entry, Held, Next, Root}
use Rattle.laws_operation.specs.pack_model.specs.hints.Links.{dir_words}
use Rattle.laws_operation.specs.pack_model.specs.hints.Misled.{IsOnDisk, Misled, StandsInEntry, StandsInLink}
use Rattle.laws_operation.specs.pack_model.specs.operations.Operations.{drop_writes, release_file_writes}
use Rattle.laws_operation.specs.pack_model.specs.operations.PageWords.{freed_value}
use Rattle.laws_operation.specs.pack_model.specs.operations.Step.{file_without, item_without, items_without, step}
use Rattle.laws_operation.specs.pack_model.specs.operations.Step.Operation.{drop_file}
use Rattle.laws_operation.specs.pack_model.specs.reading.Bodies.{Body, File, items_in}
use Rattle.laws_operation.specs.pack_model.specs.reading.Bodies.Body.{data_of, items_of}
use Rattle.laws_operation.specs.pack_model.specs.reading.Bytes.{words_of}
use Rattle.laws_operation.specs.pack_model.specs.reading.Files.{lives}
use Rattle.laws_operation.specs.pack_model.specs.reading.Model.{Model, dir_items, read_as}
use Rattle.laws_operation.specs.pack_model.specs.reading.Namings.{Naming, namings_in}
use Rattle.laws_operation.specs.pack_model.specs.reading.Sights.{sights}
use Rattle.laws_operation.specs.pack_model.specs.reading.Slots.{Item, all_words, item_words, slots}
use Rattle.laws_operation.specs.pack_model.specs.reading.Slots.Item.{entry, space}
use Rattle.laws_operation.specs.pack_model.specs.states.Whole.{Tidy, Whole}
use Rattle.laws_operation.specs.pack_laws.proofs.Keys.{fid_same, fid_total, is_fid-itself, same_fid}
use Rattle.laws_operation.specs.pack_laws.proofs.Mapping.{get-map_values}
use Rattle.laws_operation.specs.laws_record.proofs.Entered.{namings_in-append}
use Rattle.laws_operation.specs.laws_record.proofs.Tidying.{or_false, or_false_right}
use Rattle.laws_operation.specs.laws_record.specs.DirLaws.{Frees}
use Rattle.laws_operation.proofs.drop.Laws.{drop_carries_out, release_carries_out}
use Rattle.laws_operation.proofs.entries.Laws.{items_are_slots}
use Rattle.laws_operation.proofs.places.Laws.{model_has_the_living}
use Rattle.laws_operation.specs.LifeLaws.{MayDrop}
use Rattle.laws_lookup.proofs.inside.Before.{release_misled_before}
use Rattle.laws_lookup.proofs.inside.BeforeDirs.{leave_misled_before}
use Rattle.laws_lookup.proofs.inside.Found.{parts}
use Rattle.laws_lookup.proofs.inside.LeftAlone.{release_leaves_others}
use Rattle.laws_lookup.proofs.inside.TrueHints.{page_lives}
use Rattle.laws_lookup.specs.BeforeLaws.{DropMisledBefore}
use Rattle.laws_lookup.specs.OtherLaws.{LeavesOthers}
use Rattle.laws_lookup.specs.StayLaws.{MisledBefore}

-- ---- entries of one file
abbrev is_of : Fid → Item → Bool
is_of f (space n) = false
is_of f (entry g name) = is_fid g f

-- none is left once they are free slots
one_gone : (f : Fid) (i : Item) → is_of f (item_without f i) ≡ false
one_gone f (space n) = refl
one_gone f (entry g name) = by (is_fid g f) refl
  where
    by : (b : Bool) → is_fid g f ≡ b → is_of f (cond b (space (item_words (entry g name))) (entry g name)) ≡ false
    by true e = refl
    by false e = e

all_gone : (f : Fid) (is : List Item) → list_any (is_of f) (items_without f is) ≡ false
all_gone f [] = refl
all_gone f (i ∷ is) = or_false (is_of f (item_without f i)) (list_any (is_of f) (items_without f is)) (one_gone f i) (all_gone f is)

-- so it is in a directory of the model after a drop
gone_items : (m : Model) (f d : Fid) → list_any (is_of f) (dir_items (step m (drop_file f)) d) ≡ false
gone_items m f d = ap (λ r. list_any (is_of f) (items_in r)) (get-map_values fid_total fid_same (file_without f) (remove m.files f) d) ∙ by (get (remove m.files f) d)
  where
    of_body : (x : File) (b : Body) → list_any (is_of f) (items_in (Some (file_without f d (record { leader = x.leader; body = b })))) ≡ false
    of_body x (data_of bytes) = refl
    of_body x (items_of is) = all_gone f is

    by : (r : Option File) → list_any (is_of f) (items_in (option_map (file_without f d) r)) ≡ false
    by None = refl
    by (Some x) = of_body x x.body

-- one that stands among others
some_left : (f : Fid) (before later : List Item) (name : List ℕ) → list_any (is_of f) (before ++ entry f name ∷ later) ≡ false → ⊥
some_left f before later name h =
    let e = sym (list_any-append (is_of f) before (entry f name ∷ later)) ∙ h in
    let x : (is_fid f f || list_any (is_of f) later) ≡ false = or_false_right (list_any (is_of f) before) (is_fid f f || list_any (is_of f) later) e in
    let y : (true || list_any (is_of f) later) ≡ false = ap (λ b. b || list_any (is_of f) later) (sym (is_fid-itself f)) ∙ x in
    cc

-- ---- a file with an entry in a directory that has none of its own
not_none : (x : List Naming) (e : Naming) (y : List Naming) → x ++ e ∷ y ≡ [] → ⊥
not_none [] e y h = absurd cc
not_none (n ∷ x) e y h = absurd cc

apart : (p : Pack) (f d : Fid) (a b : List Item) (own : List ℕ) → dir_items (read_as p) d ≡ a ++ entry f own ∷ b → namings_in f (dir_items (read_as p) f) ≡ [] → is_fid d f ≡ false
apart p f d a b own items bare = by (is_fid d f) refl
  where
    by : (c : Bool) → is_fid d f ≡ c → c ≡ false
    by false e = refl
    by true e = absurd (not_none (namings_in d a) (record { dir = d; name = own; fid = f }) (namings_in d b)
        (sym (namings_in-append d a (entry f own ∷ b)) ∙ sym (ap (namings_in d) items) ∙ subst (λ g. namings_in g (dir_items (read_as p) g) ≡ []) (sym (same_fid d f e)) bare))

-- ---- the drop
module _ (p : Pack) (f : Fid) (at : ℕ) (pages : List ℕ) (d : Fid) (slot_at : ℕ) (a b : List Item) (own : List ℕ) (w : Whole p) (t : Tidy p) (h : MayDrop p f at pages) (fr : Frees p d slot_at a (entry f own ∷ []) b) where
  -- after the releases, and at the end
  abbrev middle : Pack
  middle = after p (release_file_writes at pages)

  abbrev last_value : List Event
  last_value = value_writes slot_at (freed_value (all_words a) (item_words (entry f own)) (sector_at p slot_at).value)

  abbrev done : Pack
  done = after p (drop_writes at pages slot_at (freed_value (all_words a) (item_words (entry f own)) (sector_at p slot_at).value))

  others : LeavesOthers f p (after p (release_file_writes at pages))
  others = release_leaves_others p f at pages w t h

  ne : is_fid d f ≡ false
  ne = apart p f d a b own (items_are_slots p d t fr.write.lives fr.write.directory ∙ fr.slots_are) h.bare

  -- the slot is there still
  frees : Frees (after p (release_file_writes at pages)) d slot_at a (entry f own ∷ []) b
  frees =
      let words : dir_words middle d ≡ dir_words p d = ap words_of (others.bytes d ne) in
      record {
        slots_are = ap slots words ∙ fr.slots_are;
        some = fr.some;
        most = fr.most;
        write = record {
          directory = fr.write.directory;
          lives = others.living d ne ∙ fr.write.lives;
          sector = others.places d (all_words a / 256 + 1) ne ∙ fr.write.sector;
          some = fr.write.some;
          one_page = fr.write.one_page;
          within = subst (λ ws. all_words a + 1 ≤ length ws) (sym words) fr.write.within;
        };
      }

  -- and the last value is written on it
  end_is : after p (drop_writes at pages slot_at (freed_value (all_words a) (item_words (entry f own)) (sector_at p slot_at).value)) ≡ after (after p (release_file_writes at pages)) (value_writes slot_at (freed_value (all_words a) (item_words (entry f own)) (sector_at (after p (release_file_writes at pages)) slot_at).value))
  end_is = after-append p (release_file_writes at pages) last_value
      ∙ ap (λ s. after middle (value_writes slot_at (freed_value (all_words a) (item_words (entry f own)) s.value))) (sym (others.sectors d (all_words a / 256 + 1) slot_at ne fr.write.sector))

  -- the file doesn't live then
  dead : lives (sights (after p (drop_writes at pages slot_at (freed_value (all_words a) (item_words (entry f own)) (sector_at p slot_at).value)))) f ≡ false
  dead =
      let out = drop_carries_out p f at pages d slot_at a b own w t h fr in
      sym (model_has_the_living done f (or_false_right (is_fid f sys_dir) (is_fid f disk_descriptor) h.no_system)) ∙ ap (λ m. is_some (get m.files f)) out.ends
      ∙ ap is_some (get-map_values fid_total fid_same (file_without f) (remove (read_as p).files f) f ∙ ap (option_map (file_without f f)) (get-remove fid_total (read_as p).files f f ∙ ap (λ c. cond c None (get (read_as p).files f)) (is_fid-itself f)))

  -- and no hint means a page of it
  none_means_it : (place : Place) (bt : ℕ) (wanted : Page) → IsOnDisk place → wanted.fid ≡ f
      → Misled (after p (drop_writes at pages slot_at (freed_value (all_words a) (item_words (entry f own)) (sector_at p slot_at).value))) place bt wanted → ⊥
  none_means_it Root bt wanted on own m = on
  none_means_it (Held i) bt wanted on own m = on
  none_means_it (Next i) bt wanted on own_fid m =
      let s : StandsInLink done i bt wanted = m.stands in
      let out = drop_carries_out p f at pages d slot_at a b own w t h fr in
      let fid : s.page.fid ≡ f = ap (λ (x : Page). x.fid) (sym s.means) ∙ own_fid in
      let clash : true ≡ false = sym (page_lives done out.meets.whole s.page i s.carries) ∙ ap (lives (sights done)) fid ∙ dead in
      cc
  none_means_it (Entry e k) bt wanted on own_fid m =
      let s : StandsInEntry done e k bt wanted = m.stands in
      let out = drop_carries_out p f at pages d slot_at a b own w t h fr in
      let r = parts (dir_words done e) 0 (slots (dir_words done e)) s.slot s.stands in
      let items : dir_items (step (read_as p) (drop_file f)) e ≡ r.before ++ entry f s.name ∷ r.later =
      ap (λ m. dir_items m e) (sym out.ends) ∙ items_are_slots done e out.meets.tidy s.lives s.directory ∙ r.items ∙ ap (λ i. r.before ++ i ∷ r.later) (s.item ∙ ap (λ g. entry g s.name) own_fid) in
      some_left f r.before r.later s.name (ap (list_any (is_of f)) (sym items) ∙ gone_items (read_as p) f e)

  pub dropped_before : MisledBefore p (drop_writes at pages slot_at (freed_value (all_words a) (item_words (entry f own)) (sector_at p slot_at).value))
  dropped_before place bt wanted on m =
      let out = drop_carries_out p f at pages d slot_at a b own w t h fr in
      let mid = release_carries_out p f at pages w t h in
      elim (is_fid wanted.fid f) as (λ c. is_fid wanted.fid f ≡ c → Misled p place bt wanted) [
        | true ↦ λ mine. absurd (none_means_it place bt wanted on (same_fid wanted.fid f mine) m)
        | false ↦ λ other.
            release_misled_before p f at pages place bt wanted w t h on other
            (leave_misled_before middle d slot_at a b f own mid.drops.whole (subst Whole end_is out.meets.whole) frees place bt wanted on (subst (λ r. Misled r place bt wanted) end_is m))
      ] refl

pub drop_misled_before : DropMisledBefore
drop_misled_before p f at pages d slot_at a b own w t h fr = dropped_before p f at pages d slot_at a b own w t h fr
