-- Slots that stay, and names that stay free, on any model.
use Rattle.std.proofs.Common.{Bool, List, None, Option, Some, [], ap, cond, false, not, refl, suc, sym, true, zero, ℕ, nat_le, ◌&&◌, ◌++◌, ◌-◌, ◌∙◌, ◌∷◌, ◌≡◌, ◌||◌}
use Rattle.std.proofs.lemmas.List.Folds.{list_any-append}
use Rattle.std.specs.FinMap.{get, get-insert, get-remove, remove}
use Rattle.std.specs.List.{list_any}
use Rattle.std.specs.Option.{option_map, option_or, unwrap_or}
use Rattle.laws_operation.specs.alto_words.specs.Fid.{is_directory, is_fid}
use Rattle.laws_operation.specs.alto_words.specs.Names.{is_same_name}
use Rattle.laws_operation.specs.alto_words.specs.declared.fid.Fid.{Fid}
use Rattle.laws_operation.specs.pack_model.specs.operations.Rooms.{in_run, items_entered, left_over, most_free, placed, run}
use Rattle.laws_operation.specs.pack_model.specs.operations.Step.{body_bytes, file_without, item_without, items_left, items_without, new_body, new_file, on_items}
use Rattle.laws_operation.specs.pack_model.specs.operations.Step.Operation.{cut, drop_file, enter, grow, leave, make, put, stamp, title, widen}
use Rattle.laws_operation.specs.pack_model.specs.reading.Bodies.{Body, File, Files, body_items, items_in}
use Rattle.laws_operation.specs.pack_model.specs.reading.Bodies.Body.{data_of, items_of}
use Rattle.laws_operation.specs.pack_model.specs.reading.Slots.{Item, item_words}
use Rattle.laws_operation.specs.pack_model.specs.reading.Slots.Item.{entry, space}
use Rattle.laws_operation.specs.pack_model.specs.sessions.Maps.{update}
use Rattle.laws_operation.specs.pack_laws.proofs.Keys.{fid_same, fid_total, same_fid}
use Rattle.laws_operation.specs.pack_laws.proofs.Mapping.{get-map_values, get-update}
use Rattle.laws_operation.specs.laws_record.proofs.RoomPlaced.{run_is}
use Rattle.laws_operation.specs.laws_record.proofs.Tidying.{or_false, or_false_left, or_false_right}
use Rattle.laws_operation.specs.EntryLaws.{is_of_another}
use Rattle.laws_lookup.specs.NameStayLaws.{OpenNameStaysOpen, SlotsStay}

not_true : (b : Bool) → not b ≡ true → b ≡ false
not_true false e = refl
not_true true e = absurd cc

-- ---- slots that stay
-- a file is changed, and not its slots
same_slots : (files : Files) (f d : Fid) (g : File → File) → ((x : File) → body_items (g x).body ≡ body_items x.body) → items_in (get (update files f g) d) ≡ items_in (get files d)
same_slots files f d g same = ap items_in (get-update fid_total fid_same files f g d) ∙ by (is_fid d f) refl
  where
    mapped : (r : Option File) → items_in (option_map g r) ≡ items_in r
    mapped None = refl
    mapped (Some x) = same x

    by : (b : Bool) → is_fid d f ≡ b → items_in (cond b (option_map g (get files f)) (get files d)) ≡ items_in (get files d)
    by false e = refl
    by true e = mapped (get files f) ∙ ap (λ k. items_in (get files k)) (sym (same_fid d f e))

-- another file is
other_slots : (files : Files) (f d : Fid) (g : File → File) → is_fid d f ≡ false → items_in (get (update files f g) d) ≡ items_in (get files d)
other_slots files f d g other = ap items_in (get-update fid_total fid_same files f g d ∙ ap (λ b. cond b (option_map g (get files f)) (get files d)) other)

bytes_alone : (g : List ℕ → List ℕ) (b : Body) → body_items (body_bytes g b) ≡ body_items b
bytes_alone g (data_of bytes) = refl
bytes_alone g (items_of is) = refl

pub slots_stay : SlotsStay
slots_stay m d (make f name moment) e = ap items_in (get-insert fid_total m.files f (new_file f name moment) d ∙ ap (λ b. cond b (Some (new_file f name moment)) (get m.files d)) (not_true (is_fid d f) e))
slots_stay m d (put f offset new) e = same_slots m.files f d _ (λ x. bytes_alone _ x.body)
slots_stay m d (grow f new) e = same_slots m.files f d _ (λ x. bytes_alone _ x.body)
slots_stay m d (cut f n) e = same_slots m.files f d _ (λ x. bytes_alone _ x.body)
slots_stay m d (title f name) e = same_slots m.files f d _ (λ x. refl)
slots_stay m d (stamp f moment) e = same_slots m.files f d _ (λ x. refl)
slots_stay m d (drop_file f) e = absurd cc
slots_stay m d (leave k name) e = other_slots m.files k d _ (not_true (is_fid d k) e)
slots_stay m d (enter k name f) e = other_slots m.files k d _ (not_true (is_fid d k) e)
slots_stay m d (widen k) e = other_slots m.files k d _ (not_true (is_fid d k) e)

-- ---- a test that no slot passes
module _ (t : Item → Bool) (free : (n : ℕ) → t (space n) ≡ false) where
  -- a name is taken out
  left_none : (name : List ℕ) (is : List Item) → list_any t is ≡ false → list_any t (items_left name is) ≡ false
  left_none name [] h = refl
  left_none name (space n ∷ is) h = or_false (t (space n)) (list_any t (items_left name is)) (free n) (left_none name is (or_false_right (t (space n)) (list_any t is) h))
  left_none name (entry f own ∷ is) h = by (left_none name is (or_false_right (t (entry f own)) (list_any t is) h)) (is_same_name own name)
    where
      by : list_any t (items_left name is) ≡ false → (b : Bool) → list_any t (cond b (space (item_words (entry f own)) ∷ is) (entry f own ∷ items_left name is)) ≡ false
      by rest true = or_false (t (space (item_words (entry f own)))) (list_any t is) (free (item_words (entry f own))) (or_false_right (t (entry f own)) (list_any t is) h)
      by rest false = or_false (t (entry f own)) (list_any t (items_left name is)) (or_false_left (t (entry f own)) (list_any t is) h) rest

  -- a file is
  one_without : (g : Fid) (i : Item) → t i ≡ false → t (item_without g i) ≡ false
  one_without g (space n) h = h
  one_without g (entry f own) h = by (is_fid f g)
    where
      by : (b : Bool) → t (cond b (space (item_words (entry f own))) (entry f own)) ≡ false
      by true = free (item_words (entry f own))
      by false = h

  without_none : (g : Fid) (is : List Item) → list_any t is ≡ false → list_any t (items_without g is) ≡ false
  without_none g [] h = refl
  without_none g (i ∷ is) h = or_false (t (item_without g i)) (list_any t (items_without g is)) (one_without g i (or_false_left (t i) (list_any t is) h)) (without_none g is (or_false_right (t i) (list_any t is) h))

  -- an item comes that doesn't pass it
  left_over_none : (n : ℕ) (is : List Item) → list_any t is ≡ false → list_any t (left_over n is) ≡ false
  left_over_none zero is h = h
  left_over_none (suc n) is h = or_false (t (space (suc n))) (list_any t is) (free (suc n)) h

  back_none : (a b : List Item) → list_any t (a ++ b) ≡ false → list_any t b ≡ false
  back_none [] b h = h
  back_none (i ∷ a) b h = back_none a b (or_false_right (t i) (list_any t (a ++ b)) h)

  -- what a list of slots, where there is one, has
  abbrev NonePasses : Option (List Item) → Type 0
  NonePasses r = (js : List Item) → r ≡ Some js → list_any t js ≡ false

  in_run_none : (i : Item) (is : List Item) (r : Option (ℕ × List Item)) → run (item_words i) is ≡ r → t i ≡ false → list_any t is ≡ false → NonePasses (in_run i r)
  in_run_none i is None e apart h js is_js = absurd cc
  in_run_none i is (Some r) e apart h js is_js = by (nat_le r.0 most_free) is_js
    where
      rest : list_any t r.1 ≡ false
      rest = let x = run_is (item_words i) is r e in back_none x.free r.1 (ap (list_any t) (sym x.are) ∙ h)

      by : (b : Bool) → cond b (Some (i ∷ left_over (r.0 - item_words i) r.1)) None ≡ Some js → list_any t js ≡ false
      by true is = let one : i ∷ left_over (r.0 - item_words i) r.1 ≡ js = cc in ap (list_any t) (sym one) ∙ or_false (t i) (list_any t (left_over (r.0 - item_words i) r.1)) apart (left_over_none (r.0 - item_words i) r.1 rest)
      by false is = absurd cc

  placed_none : (i : Item) (is : List Item) → t i ≡ false → list_any t is ≡ false → NonePasses (placed i is)
  unfolding placed
  placed_none i [] apart h js is = absurd cc
  placed_none i (j ∷ is) apart h js e = by (in_run i (run (item_words i) (j ∷ is))) (placed i is) (in_run_none i (j ∷ is) (run (item_words i) (j ∷ is)) refl apart h) (placed_none i is apart (or_false_right (t j) (list_any t is) h)) e
    where
      by : (r s : Option (List Item)) → NonePasses r → NonePasses s → option_or r (option_map (λ ks. j ∷ ks) s) ≡ Some js → list_any t js ≡ false
      by (Some ks) s x y z = x js z
      by None None x y z = absurd cc
      by None (Some ks) x y z = let one : j ∷ ks ≡ js = cc in ap (list_any t) (sym one) ∙ or_false (t j) (list_any t ks) (or_false_left (t j) (list_any t is) h) (y ks refl)

  entered_none : (i : Item) (is : List Item) → t i ≡ false → list_any t is ≡ false → list_any t (items_entered i is) ≡ false
  entered_none i is apart h = by (placed i is) (placed_none i is apart h)
    where
      by : (r : Option (List Item)) → NonePasses r → list_any t (unwrap_or r is) ≡ false
      by None x = h
      by (Some js) x = x js refl

  -- ---- of files
  mapped_none : (g : List Item → List Item) → ((is : List Item) → list_any t is ≡ false → list_any t (g is) ≡ false) → (r : Option File) → list_any t (items_in r) ≡ false → list_any t (items_in (option_map (on_items g) r)) ≡ false
  mapped_none g each None h = refl
  mapped_none g each (Some x) h = by x.body h
    where
      by : (b : Body) → list_any t (body_items b) ≡ false → list_any t (items_in (Some (on_items g (record { leader = x.leader; body = b })))) ≡ false
      by (data_of bytes) h = refl
      by (items_of is) h = each is h

  update_none : (files : Files) (e d : Fid) (g : List Item → List Item) → (is_fid d e ≡ true → (is : List Item) → list_any t is ≡ false → list_any t (g is) ≡ false) → list_any t (items_in (get files d)) ≡ false → list_any t (items_in (get (update files e (on_items g)) d)) ≡ false
  update_none files e d g each h = ap (λ r. list_any t (items_in r)) (get-update fid_total fid_same files e (on_items g) d) ∙ by (is_fid d e) refl
    where
      by : (b : Bool) → is_fid d e ≡ b → list_any t (items_in (cond b (option_map (on_items g) (get files e)) (get files d))) ≡ false
      by false is = h
      by true is = mapped_none g (each is) (get files e) (ap (λ k. list_any t (items_in (get files k))) (sym (same_fid d e is)) ∙ h)

  removed_none : (files : Files) (f d : Fid) (r : Option File) → list_any t (items_in r) ≡ false → list_any t (items_in (option_map (file_without f d) (cond (is_fid d f) None r))) ≡ false
  removed_none files f d r h = by (is_fid d f) r h
    where
      of_body : (x : File) (b : Body) → list_any t (body_items b) ≡ false → list_any t (items_in (Some (file_without f d (record { leader = x.leader; body = b })))) ≡ false
      of_body x (data_of bytes) h = refl
      of_body x (items_of is) h = without_none f is h

      by : (b : Bool) (r : Option File) → list_any t (items_in r) ≡ false → list_any t (items_in (option_map (file_without f d) (cond b None r))) ≡ false
      by true r h = refl
      by false None h = refl
      by false (Some x) h = of_body x x.body h

-- ---- names
new_none : (g f : Fid) (name : List ℕ) → list_any (is_of_another f name) (body_items (new_body g)) ≡ false
new_none g f name = by (is_directory g)
  where
    by : (b : Bool) → list_any (is_of_another f name) (body_items (cond b (items_of (space 255 ∷ [])) (data_of []))) ≡ false
    by true = refl
    by false = refl

and_false : (b : Bool) → (b && false) ≡ false
and_false true = refl
and_false false = refl

pub open_name_stays_open : OpenNameStaysOpen
open_name_stays_open m d f name (make g own moment) e h = ap (λ r. list_any (is_of_another f name) (items_in r)) (get-insert fid_total m.files g (new_file g own moment) d) ∙ by (is_fid d g)
  where
    by : (b : Bool) → list_any (is_of_another f name) (items_in (cond b (Some (new_file g own moment)) (get m.files d))) ≡ false
    by true = new_none g f name
    by false = h
open_name_stays_open m d f name (put g offset new) e h = ap (list_any (is_of_another f name)) (slots_stay m d (put g offset new) refl) ∙ h
open_name_stays_open m d f name (grow g new) e h = ap (list_any (is_of_another f name)) (slots_stay m d (grow g new) refl) ∙ h
open_name_stays_open m d f name (cut g n) e h = ap (list_any (is_of_another f name)) (slots_stay m d (cut g n) refl) ∙ h
open_name_stays_open m d f name (title g own) e h = ap (list_any (is_of_another f name)) (slots_stay m d (title g own) refl) ∙ h
open_name_stays_open m d f name (stamp g moment) e h = ap (list_any (is_of_another f name)) (slots_stay m d (stamp g moment) refl) ∙ h
open_name_stays_open m d f name (drop_file g) e h =
    ap (λ r. list_any (is_of_another f name) (items_in r)) (get-map_values fid_total fid_same (file_without g) (remove m.files g) d ∙ ap (option_map (file_without g d)) (get-remove fid_total m.files g d))
    ∙ removed_none (is_of_another f name) (λ n. refl) m.files g d (get m.files d) h
open_name_stays_open m d f name (leave k own) e h = update_none (is_of_another f name) (λ n. refl) m.files k d (items_left own) (λ same. left_none (is_of_another f name) (λ n. refl) own) h
open_name_stays_open m d f name (enter k own g) e h =
    update_none (is_of_another f name) (λ n. refl) m.files k d (items_entered (entry g own))
    (λ same is. entered_none (is_of_another f name) (λ n. refl) (entry g own) is
    (ap (λ b. not (is_fid g f) && b) (sym (ap (λ b. b && is_same_name own name) same) ∙ e) ∙ and_false (not (is_fid g f)))) h
open_name_stays_open m d f name (widen k) e h =
    update_none (is_of_another f name) (λ n. refl) m.files k d (λ is. is ++ space 256 ∷ []) (λ same is none. list_any-append (is_of_another f name) is (space 256 ∷ []) ∙ ap (λ b. b || false) none) h
