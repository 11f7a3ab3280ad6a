-- The pages that an operation adds to a model, and those that it frees.
use Rattle.std.proofs.Common.{◌++◌, ◌*◌, ◌+◌, ◌∙◌, ◌∷◌, ◌≡◌, Bool, List, None, Option, Some, [], ap, arith, cond, false, length, length-append, not, refl, subst, sym, take, true, ℕ}
use Rattle.std.proofs.lemmas.List.{length-take-le}
use Rattle.std.specs.FinMap.{entries, get, remove}
use Rattle.std.specs.Option.{is_some, unwrap_or}
use Rattle.laws_operation.specs.alto_words.specs.Fid.{is_directory, is_fid}
use Rattle.laws_operation.specs.alto_words.specs.Names.{is_same_name}
use Rattle.laws_operation.specs.alto_words.specs.declared.fid.Fid.{Fid}
use Rattle.laws_operation.specs.pack_model.specs.reading.Bodies.{Body, File, body_length, pages_for}
use Rattle.laws_operation.specs.pack_model.specs.reading.Bodies.Body.{data_of, items_of}
use Rattle.laws_operation.specs.pack_model.specs.reading.Bytes.{put_at}
use Rattle.laws_operation.specs.pack_model.specs.operations.Committing.{length_in, length_of, pages_added, pages_cut, pages_for_operation}
use Rattle.laws_operation.specs.pack_model.specs.sessions.Maps.{map_entries, update}
use Rattle.laws_operation.specs.pack_model.specs.reading.Model.{Model, files_pages}
use Rattle.laws_operation.specs.pack_model.specs.operations.Rooms.{items_entered, placed}
use Rattle.laws_operation.specs.pack_model.specs.reading.Slots.{Item, all_words, item_words}
use Rattle.laws_operation.specs.pack_model.specs.reading.Slots.Item.{entry, space}
use Rattle.laws_operation.specs.pack_model.specs.operations.Step.{Operation, body_bytes, body_slots, file_without, item_without, items_left, items_without, new_body, new_file, on_bytes, on_items, on_leader, step}
use Rattle.laws_operation.specs.pack_model.specs.operations.Step.Operation.{make, put, grow, cut, title, stamp, drop_file, leave, enter, widen}
use Rattle.laws_room.proofs.Standing.{placed_words}
use Rattle.laws_operation.specs.pack_laws.proofs.Bytes.{length-put_at}
use Rattle.laws_operation.specs.pack_laws.proofs.Keys.{fid_same, fid_total}
use Rattle.laws_operation.specs.pack_laws.proofs.Mapping.{entries-map_values}
use Rattle.laws_record.proofs.FilePages.{new_pages}
use Rattle.laws_record.proofs.Slotwise.{words-append}
use Rattle.laws_room.proofs.FilesPages.{gone_pages, pages_of, updated_pages}
use Rattle.laws_room.proofs.inside.BodyKinds.{HasKinds, is_data}
use Rattle.laws_room.specs.UseLaws.{MayBeDone, pages_freed}
use Rattle.laws_operation.specs.pack_laws.proofs.Placing.{none_of_false}

-- ---- slots keep their words
-- where an entry leaves
left_words : (name : List ℕ) (is : List Item) → all_words (items_left name is) ≡ all_words is
left_words name [] = refl
left_words name (space n ∷ is) = ap (λ k. n + k) (left_words name is)
left_words name (entry f own ∷ is) = by (left_words name is) (is_same_name own name)
  where
    by : all_words (items_left name is) ≡ all_words is → (b : Bool) → all_words (cond b (space (item_words (entry f own)) ∷ is) (entry f own ∷ items_left name is)) ≡ item_words (entry f own) + all_words is
    by again true = refl
    by again false = ap (λ k. item_words (entry f own) + k) again

-- one slot does where the entries of a file leave
pub item_kept : (f : Fid) (i : Item) → item_words (item_without f i) ≡ item_words i
item_kept f (space n) = refl
item_kept f (entry g name) = elim (is_fid g f) as (λ b. item_words (cond b (space (item_words (entry g name))) (entry g name)) ≡ item_words (entry g name)) [ true ↦ refl | false ↦ refl ]

-- so all do
without_words : (f : Fid) (is : List Item) → all_words (items_without f is) ≡ all_words is
without_words f [] = refl
without_words f (i ∷ is) = let here = item_kept f i in let rest = without_words f is in omega arith

-- where an item is placed, or has no room
entered_words : (i : Item) (is : List Item) → all_words (items_entered i is) ≡ all_words is
entered_words i is = by (placed i is) refl
  where
    by : (r : Option (List Item)) → placed i is ≡ r → all_words (unwrap_or r is) ≡ all_words is
    by None e = refl
    by (Some js) e = placed_words i is js e

-- ---- files keep their pages
-- with the entries of one file gone
pub without_pages : (f : Fid) (es : List (Fid × File)) → files_pages (map_entries (file_without f) es) ≡ files_pages es
without_pages f [] = refl
without_pages f (e ∷ es) = let here = ap pages_for (one e.1.body) in let rest = without_pages f es in omega arith
  where
    one : (b : Body) → body_length (file_without f e.0 (record { leader = e.1.leader; body = b })).body ≡ body_length b
    one (data_of bytes) = refl
    one (items_of is) = ap (λ k. k * 2) (without_words f is)

-- with other slots of as many words
slots_pages : (g : List Item → List Item) → ((is : List Item) → all_words (g is) ≡ all_words is) → (x : File) → pages_of (on_items g x) ≡ pages_of x
slots_pages g same x = ap pages_for (one x.body)
  where
    one : (b : Body) → body_length (body_slots g b) ≡ body_length b
    one (data_of bytes) = refl
    one (items_of is) = ap (λ k. k * 2) (same is)

-- a new file has two
pub first_pages : (f : Fid) → pages_for (body_length (new_body f)) ≡ 2
first_pages f = elim (is_directory f) as (λ b. pages_for (body_length (cond b (items_of (space 255 ∷ [])) (data_of []))) ≡ 2) [ true ↦ refl | false ↦ refl ]

-- a file that is there
there : (r : Option File) → is_some r ≡ true → (x : File) × (r ≡ Some x)
there None e = absurd cc
there (Some x) e = (x, refl)

-- a body of bytes
data_body : (b : Body) → is_data b ≡ true → (bytes : List ℕ) × (b ≡ data_of bytes)
data_body (data_of bytes) e = (bytes, refl)
data_body (items_of is) e = absurd cc

-- a body of slots
items_body : (b : Body) → is_data b ≡ false → (is : List Item) × (b ≡ items_of is)
items_body (data_of bytes) e = absurd cc
items_body (items_of is) e = (is, refl)

module _ (m : Model) (kinds : HasKinds m) where
  -- an ordinary file's bytes change
  bytes_pages : (f : Fid) (g : List ℕ → List ℕ) (a b : ℕ) → is_directory f ≡ false → ((bytes : List ℕ) → length_of m f ≡ length bytes → pages_for (length (g bytes)) + a ≡ pages_for (length bytes) + b) → (get m.files f ≡ None → a ≡ b)
      → files_pages (entries (update m.files f (on_bytes g))) + a ≡ files_pages (entries m.files) + b
  bytes_pages f g a b ordinary size none = updated_pages m.files f (on_bytes g) a b (λ x is.
      let d = data_body x.body (kinds f x is ∙ ap not ordinary) in
      subst (λ body. pages_for (body_length (body_bytes g body)) + a ≡ pages_for (body_length body) + b) (sym d.1) (size d.0 (ap length_in is ∙ ap body_length d.1))) none

  -- a directory gets a page more
  wider_pages : (d : Fid) (x : File) → get m.files d ≡ Some x → is_directory d ≡ true → pages_of (on_items (λ is. is ++ space 256 ∷ []) x) ≡ pages_of x + 1
  wider_pages d x is dir =
      let b = items_body x.body (kinds d x is ∙ ap not dir) in
      subst (λ body. pages_for (body_length (body_slots (λ is. is ++ space 256 ∷ []) body)) ≡ pages_for (body_length body) + 1) (sym b.1) (let h = words-append b.0 (space 256 ∷ []) in omega arith)

  -- what an operation adds, and what it frees
  pub step_pages : (o : Operation) → MayBeDone m o → files_pages (entries (step m o).files) + pages_freed m o ≡ files_pages (entries m.files) + pages_for_operation m o
  step_pages (make f name moment) fit = let h = new_pages m.files f (new_file f name moment) (none_of_false (get m.files f) fit) in let two = first_pages f in omega arith
  step_pages (put f offset new) fit = bytes_pages f (put_at offset new) 0 0 fit.0 (λ bytes e. let l = fit.1 in ap (λ n. pages_for n + 0) (length-put_at offset new bytes (omega arith))) (λ none. refl)
  step_pages (grow f new) fit = bytes_pages f (λ bytes. bytes ++ new) 0 (pages_added (length_of m f) (length new)) fit.0 (λ bytes e. let l = length-append bytes new in omega arith) (λ none. absurd (let n : false ≡ true = sym (ap is_some none) ∙ fit.1 in cc))
  step_pages (cut f n) fit = bytes_pages f (take n) (pages_cut (length_of m f) n) 0 fit.0 (λ bytes e. let low = fit.1 in let l : length (take n bytes) ≡ n = length-take-le n bytes (omega arith) in omega arith) (λ none. let low = fit.1 in let z : length_of m f ≡ 0 = ap length_in none in omega arith)
  step_pages (title f name) fit = updated_pages m.files f (on_leader (λ l. record l { name = name })) 0 0 (λ x is. refl) (λ none. refl)
  step_pages (stamp f moment) fit = updated_pages m.files f (on_leader (λ l. record l { written = moment })) 0 0 (λ x is. refl) (λ none. refl)
  step_pages (drop_file f) fit =
      let t = there (get m.files f) fit in
      let h = gone_pages m.files f t.0 t.1 in
      let kept = ap files_pages (entries-map_values fid_total fid_same (file_without f) (remove m.files f)) ∙ without_pages f (entries (remove m.files f)) in
      let size = ap (λ r. pages_for (length_in r)) t.1 in
      omega arith
  step_pages (leave d name) fit = updated_pages m.files d (on_items (items_left name)) 0 0 (λ x is. ap (λ k. k + 0) (slots_pages (items_left name) (left_words name) x)) (λ none. refl)
  step_pages (enter d name f) fit = updated_pages m.files d (on_items (items_entered (entry f name))) 0 0 (λ x is. ap (λ k. k + 0) (slots_pages (items_entered (entry f name)) (entered_words (entry f name)) x)) (λ none. refl)
  step_pages (widen d) fit = updated_pages m.files d (on_items (λ is. is ++ space 256 ∷ [])) 0 1 (λ x is. let h = wider_pages d x is fit.0 in omega arith) (λ none. absurd (let n : false ≡ true = sym (ap is_some none) ∙ fit.1 in cc))
