-- The names of a directory's entries in their order.
use Rattle.std.proofs.Common.{◌≡◌, ℕ, Bool, true, false, not, List, [], ◌∷◌, ◌++◌, map, Option, Some, None, refl, sym, ap, subst, ◌∙◌, append_assoc, append-nil}
use Rattle.std.specs.BTreeSet.{insert_key}
use Rattle.std.specs.Option.{unwrap_or}
use Rattle.alto_words.specs.declared.fid.Fid.{Fid}
use Rattle.alto_words.specs.Fid.{is_directory, sys_dir}
use Rattle.alto_words.specs.Names.{folded_cmp}
use Rattle.dir_slots.specs.Items.{items_of}
use Rattle.dir_slots.specs.declared.slot.Slot.{Slot}
use Rattle.dir_slots.specs.declared.slot.Slot.TheVariants.{Free, Entry}
use Rattle.directory.specs.Found.{AreSlots}
use Rattle.disk_records.specs.Packs.{Pack}
use Rattle.exec_words.specs.Texts.{list_text}
use Rattle.exec_words.specs.declared.line.Line.TheVariants as line
use Rattle.exec_words.specs.declared.reply.Refusal.TheVariants as refusal
use Rattle.exec_session.specs.laws_operation.proofs.entries.Laws.{items_are_slots}
use Rattle.exec_session.specs.pack_laws.proofs.Inserting.{in_order-none, in_order-cons, map-insert_key}
use Rattle.exec_session.specs.pack_laws.proofs.Orders.{name_total}
use Rattle.pack_model.specs.reading.Files.{lives}
use Rattle.pack_model.specs.reading.Model.{dir_items, read_as}
use Rattle.pack_model.specs.reading.Namings.{namings_in}
use Rattle.pack_model.specs.reading.Sights.{sights}
use Rattle.pack_model.specs.reading.Slots.{Item}
use Rattle.pack_model.specs.reading.Slots.Item.{entry, space}
use Rattle.pack_model.specs.showing.Listing.{in_order}
use Rattle.pack_model.specs.states.Sound.{Sound}
use Rattle.session_model.specs.Effects.{names_in}
use Rattle.session_model.specs.Finding.{dir_of}
use Rattle.session_model.specs.Refusals.{when}
use Rattle.session_model.specs.Replies.{refusal as refusal_to}
use Rattle.session_model.specs.Worlds.{World}
use Rattle.exec_words.specs.declared.reply.Refusal.{Refusal}
use Rattle.exec_session.specs.Found.{IsNoDirOf}
use Rattle.exec_session.specs.Meant.{IsTakenUpBy}
use Rattle.executive.specs.declared.order.Listed.{Listed}
use Rattle.executive.specs.Orders.{listed_cmp, with_name}
use Rattle.executive.specs.Reads.{IsSaid}
use Rattle.executive.proofs.Untaken.{list_absent, list_found, list_refused, root_refused}

-- the names of entries, whatever directory they are in
abbrev pub names_among : List Item → List (List ℕ)
names_among is = map (λ n. n.name) (namings_in sys_dir is)

names_anywhere : (d : Fid) (is : List Item) → names_among is ≡ map (λ n. n.name) (namings_in d is)
names_anywhere d [] = refl
names_anywhere d (space n ∷ is) = names_anywhere d is
names_anywhere d (entry f name ∷ is) = ap (λ l. name ∷ l) (names_anywhere d is)

-- ---- in their order
-- the names of the last of some slots are in order, and these slots are left
pub record Ordered (names : List Listed) (left all : List Slot) : Type 0 where
  pub done : List Slot
  pub split : left ++ done ≡ all
  pub listed : map (λ l. l.name) names ≡ in_order folded_cmp (names_among (items_of done))

pub ordered_none : (names : List Listed) (all : List Slot) → names ≡ [] → Ordered names all all
ordered_none names all none = record {
  done = [];
  split = append-nil all;
  listed = ap (map (λ (l : Listed). l.name)) none ∙ sym (in_order-none folded_cmp);
}

-- a slot more: a free one, or an entry
pub ordered_more : (names new : List Listed) (slot : Slot) (left before all : List Slot) → Ordered names before all → before ≡ left ++ slot ∷ [] → new ≡ with_name names slot → Ordered new left all
ordered_more names new (Free n) left before all o last is = record {
  done = Free n ∷ o.done;
  split = sym (append_assoc left (Free n ∷ []) o.done) ∙ ap (λ l. l ++ o.done) (sym last) ∙ o.split;
  listed = ap (map (λ (l : Listed). l.name)) is ∙ o.listed;
}
ordered_more names new (Entry f address name) left before all o last is = record {
  done = Entry f address name ∷ o.done;
  split = sym (append_assoc left (Entry f address name ∷ []) o.done) ∙ ap (λ l. l ++ o.done) (sym last) ∙ o.split;
  listed =
      ap (map (λ (l : Listed). l.name)) is
      ∙ map-insert_key listed_cmp folded_cmp (λ (l : Listed). l.name) (λ x y. refl) names (record { name = name })
      ∙ ap (λ l. insert_key folded_cmp l name) o.listed
      ∙ sym (in_order-cons name_total name (names_among (items_of o.done)));
}

-- ---- `list`
-- the directory that is meant isn't refused
unrefused_dir : (p : Pack) (w : World) (name : Option (List ℕ)) (d : Fid) → IsTakenUpBy w (line.ListNames name) → dir_of (read_as p) name ≡ Some d → is_directory d ≡ true → refusal_to (line.ListNames name) (read_as p) w ≡ None
unrefused_dir p w None d taken is directory = root_refused (read_as p) w taken
unrefused_dir p w (Some name) d taken is directory = list_refused (read_as p) w name taken ∙ list_found (read_as p) name d is ∙ ap (λ b. when (not b) refusal.NotADirectory) directory

pub list_said : (p : Pack) (w : World) (name : Option (List ℕ)) (d : Fid) (slots : List Slot) → Sound p → IsTakenUpBy w (line.ListNames name) → dir_of (read_as p) name ≡ Some d → is_directory d ≡ true → lives (sights p) d ≡ true → AreSlots p d slots → IsSaid p (line.ListNames name) w (list_text (names_among (items_of slots)))
list_said p w name d slots sound taken is directory living are = record {
  unrefused = unrefused_dir p w name d taken is directory;
  text_is =
      ap (λ l. list_text (names_among l)) (are.items ∙ sym (items_are_slots p d sound.tidy living directory))
      ∙ ap list_text (names_anywhere d (dir_items (read_as p) d))
      ∙ ap (λ g. list_text (names_in (read_as p) g)) (sym (ap (λ x. unwrap_or x sys_dir) is));
}

-- no directory of this name is there
pub no_dir_refused : (p : Pack) (w : World) (name : Option (List ℕ)) (x : Refusal) → IsTakenUpBy w (line.ListNames name) → IsNoDirOf p name x → refusal_to (line.ListNames name) (read_as p) w ≡ Some x
no_dir_refused p w None x taken none = absurd (let n : Some sys_dir ≡ None = none.1 in cc)
no_dir_refused p w (Some name) x taken none = list_refused (read_as p) w name taken ∙ list_absent (read_as p) name none.1 ∙ ap Some (sym none.0)

-- what has this name is none
pub wrong_dir_refused : (p : Pack) (w : World) (name : Option (List ℕ)) (d : Fid) → IsTakenUpBy w (line.ListNames name) → dir_of (read_as p) name ≡ Some d → not (is_directory d) ≡ true → refusal_to (line.ListNames name) (read_as p) w ≡ Some refusal.NotADirectory
wrong_dir_refused p w None d taken is otherwise = absurd (
    let same : sys_dir ≡ d = let n : Some sys_dir ≡ Some d = is in cc in
    let other : false ≡ true = subst (λ f. not (is_directory f) ≡ true) (sym same) otherwise in
    cc
    )
wrong_dir_refused p w (Some name) d taken is otherwise = list_refused (read_as p) w name taken ∙ list_found (read_as p) name d is ∙ ap (λ b. when b refusal.NotADirectory) otherwise

pub is_dir : (b : Bool) → not b ≡ false → b ≡ true
is_dir true e = refl
is_dir false e = cc
