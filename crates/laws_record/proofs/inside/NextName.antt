-- The next entry that settling adds leaves what is shown.
use Rattle.std.proofs.Common.{List, None, Some, [], ap, cond, false, length, not, refl, subst, sym, ℕ, ◌++◌, ◌+◌, ◌∙◌, ◌∷◌, ◌≡◌}
use Rattle.std.specs.FinMap.{get, insert}
use Rattle.pack_laws.specs.alto_words.specs.Fid.{is_system, sys_dir}
use Rattle.pack_laws.specs.alto_words.specs.declared.fid.Fid.{Fid}
use Rattle.pack_laws.specs.pack_model.specs.reading.Leaders.{Leader}
use Rattle.pack_laws.specs.pack_model.specs.reading.Model.{Model, read_as}
use Rattle.pack_laws.specs.pack_model.specs.reading.Namings.{namings_in}
use Rattle.pack_laws.specs.pack_model.specs.operations.Rooms.{left_over}
use Rattle.pack_laws.specs.pack_model.specs.showing.Settling.{chosen, settle}
use Rattle.pack_laws.specs.pack_model.specs.reading.Slots.{Item, entry_length}
use Rattle.pack_laws.specs.pack_model.specs.reading.Slots.Item.{entry, space}
use Rattle.pack_laws.specs.pack_model.specs.showing.View.{Seen, names_of, view}
use Rattle.laws_record.proofs.DirReads.{insert_same}
use Rattle.laws_record.proofs.Entered.{directory, namings_in-append}
use Rattle.laws_record.proofs.Entering.{back_slots, dir_leader, enter_reads, front_slots, model_dir}
use Rattle.laws_record.proofs.Keeping.{get-where}
use Rattle.laws_record.proofs.SystemEntries.{left_names}
use Rattle.laws_record.proofs.Viewing.{adopt_shows, view_slots}
use Rattle.laws_record.specs.EnterLaws.{IsNext, NextNameThatSettlingGives}

-- a file without a name in the view has none in the model
nameless_model : (m : Model) (f : Fid) → is_system f ≡ false → get (view m).names f ≡ None → get (names_of m.files) f ≡ None
unfolding view
nameless_model m f ordinary e = sym (get-where (names_of m.files) (λ f. not (is_system f)) f ∙ ap (λ b. cond (not b) (get (names_of m.files) f) None) ordinary) ∙ e

-- slots with the same entries are viewed the same
slots_view : (m : Model) (d : Fid) (l : Leader) (is js : List Item) → get m.files d ≡ Some (directory l is) → namings_in d js ≡ namings_in d is → view (record m { files = insert m.files d (directory l js) }) ≡ view m
slots_view m d l is js here e =
    view_slots m.shape m.good m.last m.files d l is [] [] here js is e
    ∙ ap (λ files. view (record m { files = files })) (insert_same m.files d (directory l is) here)

-- the next entry, in a model
next_model : (m : Model) (l : Leader) (a b : List Item) (total left : ℕ) (f : Fid) (x : Seen) → get m.files sys_dir ≡ Some (directory l (a ++ space total ∷ b)) → IsNext (view m) f x → is_system f ≡ false
    → settle (view (record m { files = insert m.files sys_dir (directory l (a ++ entry f (chosen (view m).names x.leader.name) ∷ left_over left b)) })) ≡ settle (view m)
next_model m l a b total left f x here next ordinary =
    let lo : List Item = left_over left b in
    let old : Model = record m { files = insert m.files sys_dir (directory l (a ++ space 0 ∷ lo)) } in
    let entries_same : namings_in sys_dir (a ++ space 0 ∷ lo) ≡ namings_in sys_dir (a ++ space total ∷ b) =
    namings_in-append sys_dir a (space 0 ∷ lo) ∙ ap (λ r. namings_in sys_dir a ++ r) (left_names sys_dir left b) ∙ sym (namings_in-append sys_dir a (space total ∷ b)) in
    let same : view old ≡ view m = slots_view m sys_dir l (a ++ space total ∷ b) (a ++ space 0 ∷ lo) here entries_same in
    let next_old : IsNext (view old) f x = subst (λ w. IsNext w f x) (sym same) next in
    ap (λ w. settle (view (record m { files = insert m.files sys_dir (directory l (a ++ entry f (chosen w.names x.leader.name) ∷ lo)) }))) (sym same)
    ∙ adopt_shows m.shape m.good m.last m.files sys_dir l (a ++ space total ∷ b) a lo here f x 0 ordinary refl next_old (nameless_model old f ordinary next_old.nameless)
    ∙ ap settle same

-- the next entry that settling adds
pub next_name_that_settling_gives : NextNameThatSettlingGives
next_name_that_settling_gives p at new a b f x left next ordinary h may =
    let name : List ℕ = chosen (view (read_as p)).names x.leader.name in
    ap (λ m. settle (view m)) (enter_reads p sys_dir at new a b f name left h may)
    ∙ next_model (read_as p) (dir_leader p sys_dir at new a b f name left h may) (front_slots p sys_dir at new a b f name left h may) (back_slots p sys_dir at new a b f name left h may) (entry_length (length name) + left) left f x
    (model_dir p sys_dir at new a b f name left h may) next ordinary
