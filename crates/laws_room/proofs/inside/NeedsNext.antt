-- SysDir gets the entries that are lacking: what is needed stays.
use Rattle.std.proofs.Common.{◌*◌, ◌+◌, ◌∙◌, ◌∷◌, ◌≡◌, ◌≤◌, List, None, Option, Some, [], ap, arith, cond, refl, suc, ℕ}
use Rattle.std.specs.FinMap.{entries, get, get-insert, insert}
use Rattle.laws_operation.specs.alto_words.specs.Fid.{sys_dir}
use Rattle.laws_operation.specs.alto_words.specs.declared.fid.Fid.{Fid}
use Rattle.laws_operation.specs.disk_records.specs.declared.shape.Shape.{Shape}
use Rattle.laws_operation.specs.pack_model.specs.reading.Bodies.{Files, items_in, pages_for}
use Rattle.laws_operation.specs.pack_model.specs.reading.Leaders.{Leader}
use Rattle.laws_operation.specs.pack_model.specs.scavenger.Mended.{lacking, needs, on_room, widens, with_page}
use Rattle.laws_operation.specs.pack_model.specs.reading.Model.{Model, files_pages, root_items}
use Rattle.laws_operation.specs.pack_model.specs.operations.Rooms.{placed}
use Rattle.laws_operation.specs.pack_model.specs.reading.Slots.{Item, all_words, item_words}
use Rattle.laws_operation.specs.pack_model.specs.reading.Slots.Item.{entry}
use Rattle.laws_room.proofs.inside.Needing.{pages_around}
use Rattle.laws_room.proofs.Standing.{page_places, placed_words}
use Rattle.laws_operation.specs.pack_laws.proofs.Keys.{fid_total, is_fid-itself}
use Rattle.laws_record.proofs.Entered.{directory}

-- ---- an entry is made, or SysDir is widened
module _ (shape : Shape) (good last : ℕ) (files : Files) (l : Leader) (is : List Item) (in_files : get files sys_dir ≡ Some (directory l is)) where
  -- the model with other slots of SysDir
  abbrev with_items : List Item → Model
  with_items js = record { shape = shape; good = good; last = last; files = insert files sys_dir (directory l js) }

  -- the model before
  abbrev old : Model
  old = record { shape = shape; good = good; last = last; files = files }

  -- it has these slots
  items_now : (js : List Item) → root_items (with_items js) ≡ js
  items_now js = ap items_in (get-insert fid_total files sys_dir _ sys_dir ∙ ap (λ b. cond b (Some (directory l js)) (get files sys_dir)) (is_fid-itself sys_dir))

  -- and had those
  items_was : root_items old ≡ is
  items_was = ap items_in in_files

  -- what is needed, by the slots and what is lacking
  needs_is : (m : Model) (js : List Item) (todo : List (Fid × List ℕ)) → root_items m ≡ js → lacking m ≡ todo → needs m ≡ files_pages (entries m.files) + widens js todo
  unfolding needs
  needs_is m js todo a b = λ i. files_pages (entries m.files) + widens (a i) (b i)

  -- the next entry
  pub enter_needs : (e : Fid × List ℕ) (es : List (Fid × List ℕ)) (js : List Item) → lacking old ≡ e ∷ es → placed (entry e.0 e.1) is ≡ Some js → lacking (with_items js) ≡ es → needs (with_items js) ≡ needs old
  unfolding widens
  enter_needs e es js todo room rest =
      let words = placed_words (entry e.0 e.1) is js room in
      let pages : files_pages (entries (insert files sys_dir (directory l js))) ≡ 0 + files_pages (entries files) = pages_around files sys_dir (directory l is) (directory l js) 0 in_files (let q : pages_for (all_words js * 2) ≡ pages_for (all_words is * 2) = ap (λ n. pages_for (n * 2)) words in omega arith) in
      let now = needs_is (with_items js) js es (items_now js) rest in
      let was = needs_is old is (e ∷ es) items_was todo in
      let w : widens is (e ∷ es) ≡ widens js es = ap (λ o. on_room o (λ js. widens js es) (suc (on_room (placed (entry e.0 e.1) (with_page is)) (λ js. widens js es) 0))) room in
      omega arith

  -- a page more
  pub widen_needs : (e : Fid × List ℕ) (es : List (Fid × List ℕ)) → lacking old ≡ e ∷ es → placed (entry e.0 e.1) is ≡ None → item_words (entry e.0 e.1) ≤ 256 → lacking (with_items (with_page is)) ≡ e ∷ es → needs (with_items (with_page is)) ≡ needs old
  unfolding widens
  widen_needs e es todo none small rest =
      let more : pages_for (all_words (with_page is) * 2) ≡ 1 + pages_for (all_words is * 2) = let w = page_words is in omega arith in
      let pages : files_pages (entries (insert files sys_dir (directory l (with_page is)))) ≡ 1 + files_pages (entries files) = pages_around files sys_dir (directory l is) (directory l (with_page is)) 1 in_files more in
      let now = needs_is (with_items (with_page is)) (with_page is) (e ∷ es) (items_now (with_page is)) rest in
      let was = needs_is old is (e ∷ es) items_was todo in
      let w : widens is (e ∷ es) ≡ suc (widens (with_page is) (e ∷ es)) = ap (λ o. on_room o (λ js. widens js es) (suc (on_room (placed (entry e.0 e.1) (with_page is)) (λ js. widens js es) 0))) none ∙ ap suc (some_room (placed (entry e.0 e.1) (with_page is)) (page_places (entry e.0 e.1) is small)) in
      omega arith
    where
      page_words : (is : List Item) → all_words (with_page is) ≡ all_words is + 256
      page_words [] = refl
      page_words (i ∷ is) = let h = page_words is in omega arith

      some_room : (o : Option (List Item)) → (o ≡ None → ⊥) → on_room o (λ js. widens js es) 0 ≡ on_room o (λ js. widens js es) (suc (on_room (placed (entry e.0 e.1) (with_page (with_page is))) (λ js. widens js es) 0))
      some_room None some = absurd (some refl)
      some_room (Some js) some = refl

  -- free slots made one, where the next entry comes to stand as before
  pub join_needs : (e : Fid × List ℕ) (es : List (Fid × List ℕ)) (js ks : List Item) → lacking old ≡ e ∷ es → placed (entry e.0 e.1) is ≡ Some ks → placed (entry e.0 e.1) js ≡ Some ks → all_words js ≡ all_words is → lacking (with_items js) ≡ e ∷ es → needs (with_items js) ≡ needs old
  unfolding widens
  join_needs e es js ks todo room same words rest =
      let pages : files_pages (entries (insert files sys_dir (directory l js))) ≡ 0 + files_pages (entries files) = pages_around files sys_dir (directory l is) (directory l js) 0 in_files (let q : pages_for (all_words js * 2) ≡ pages_for (all_words is * 2) = ap (λ n. pages_for (n * 2)) words in omega arith) in
      let now = needs_is (with_items js) js (e ∷ es) (items_now js) rest in
      let was = needs_is old is (e ∷ es) items_was todo in
      let w : widens is (e ∷ es) ≡ widens ks es = ap (λ o. on_room o (λ js. widens js es) (suc (on_room (placed (entry e.0 e.1) (with_page is)) (λ js. widens js es) 0))) room in
      let v : widens js (e ∷ es) ≡ widens ks es = ap (λ o. on_room o (λ js. widens js es) (suc (on_room (placed (entry e.0 e.1) (with_page js)) (λ js. widens js es) 0))) same in
      omega arith
