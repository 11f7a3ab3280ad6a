-- SysDir's slots change, in the files as the Scavenger will find them.
use Rattle.std.proofs.Common.{◌∙◌, ◌∷◌, ◌≡◌, ◌≤◌, List, None, Some, [], ap, append-nil, cond, refl, sym, ℕ}
use Rattle.std.specs.FinMap.{entries, get, get-insert, insert}
use Rattle.std.specs.List.{list_any}
use Rattle.laws_operation.specs.alto_words.specs.Fid.{disk_descriptor, is_fid, sys_dir}
use Rattle.laws_operation.specs.alto_words.specs.declared.fid.Fid.{Fid}
use Rattle.laws_operation.specs.disk_records.specs.Packs.{Pack}
use Rattle.laws_operation.specs.pack_model.specs.reading.Bodies.{Files}
use Rattle.laws_operation.specs.pack_model.specs.scavenger.Mended.{lacking, mended, needs, with_page}
use Rattle.laws_operation.specs.pack_model.specs.reading.Model.{Model, descriptor_words, good_sectors, last_serial}
use Rattle.laws_operation.specs.pack_model.specs.reading.Namings.{Naming, descriptor_name, namings, namings_in, sys_dir_name}
use Rattle.laws_operation.specs.pack_model.specs.operations.Rooms.{placed}
use Rattle.laws_operation.specs.pack_model.specs.showing.Settling.{given_names, settle, unless}
use Rattle.laws_operation.specs.pack_model.specs.reading.Sights.{sights}
use Rattle.laws_operation.specs.pack_model.specs.reading.Slots.{Item, all_words, item_words}
use Rattle.laws_operation.specs.pack_model.specs.reading.Slots.Item.{entry, space}
use Rattle.laws_operation.specs.pack_model.specs.showing.View.{View, view}
use Rattle.laws_room.proofs.inside.Balancing.{needs_files, needs_keep}
use Rattle.laws_room.proofs.inside.DirRooted.{zeros}
use Rattle.laws_room.proofs.inside.Lacking.{same_namings}
use Rattle.laws_room.proofs.inside.NeedsNext.{enter_needs, join_needs, widen_needs}
use Rattle.laws_room.proofs.NextLacking.{entered}
use Rattle.laws_room.proofs.Standing.{placed_stands}
use Rattle.laws_room.specs.KeepLaws.{KeepsWithRoot}
use Rattle.laws_operation.specs.pack_laws.proofs.Keys.{fid_total, is_fid-itself}
use Rattle.laws_record.proofs.Describing.{view_files}
use Rattle.laws_record.proofs.DirReads.{insert_same}
use Rattle.laws_record.proofs.Entered.{directory, namings_in-append}
use Rattle.laws_record.proofs.Mending.{mended_view}
use Rattle.laws_record.proofs.Systemic.{mended_files}
use Rattle.laws_record.proofs.Viewing.{view_slots}

-- what is lacking is read off the files
lacking_files : (m n : Model) → m.files ≡ n.files → lacking m ≡ lacking n
unfolding lacking view
lacking_files m n e = ap (λ fs. lacking (record { shape = m.shape; good = m.good; last = m.last; files = fs })) e

-- the list of what is lacking, by the entries and the view
abbrev pub listed : List Naming → View → List (Fid × List ℕ)
listed ns v = unless (list_any (λ n. is_fid n.fid sys_dir) ns) (sys_dir, sys_dir_name) (unless (list_any (λ n. is_fid n.fid disk_descriptor) ns) (disk_descriptor, descriptor_name) (given_names v.names (entries v.files)))

-- These are SysDir's slots before and after, and all else stays.
pub record RootTurns (p q : Pack) (is js : List Item) : Type 0 where
  pub shape : q.shape ≡ p.shape
  pub good : good_sectors (sights q) ≡ good_sectors (sights p)
  pub was : get (mended_files (sights p)) sys_dir ≡ Some (directory zeros is)
  pub now : mended_files (sights q) ≡ insert (mended_files (sights p)) sys_dir (directory zeros js)

module _ (p q : Pack) (is js : List Item) (t : RootTurns p q is js) where
  -- the last serial
  abbrev pub last : ℕ
  last = last_serial (descriptor_words (sights p))

  -- the model before
  abbrev pub before : Model
  before = record { shape = p.shape; good = good_sectors (sights p); last = last; files = mended_files (sights p) }

  -- and with the new slots
  abbrev pub behind : Model
  behind = record { shape = p.shape; good = good_sectors (sights p); last = last; files = insert (mended_files (sights p)) sys_dir (directory zeros js) }

  -- the first is what the Scavenger finds
  pub before_is : mended p.shape (sights p) ≡ before
  unfolding mended
  before_is = refl

  -- of the second the files are
  after_is : (mended q.shape (sights q)).files ≡ behind.files
  unfolding mended
  after_is = t.now

  -- what is lacking then
  pub lacks : lacking (mended q.shape (sights q)) ≡ lacking behind
  lacks = lacking_files (mended q.shape (sights q)) behind after_is

  -- SysDir before, in the model
  pub root_was : get (mended p.shape (sights p)).files sys_dir ≡ Some (directory zeros is)
  unfolding mended
  root_was = t.was

  -- and then
  pub root_now : get (mended q.shape (sights q)).files sys_dir ≡ Some (directory zeros js)
  root_now = ap (λ files. get files sys_dir) after_is ∙ get-insert fid_total (mended_files (sights p)) sys_dir (directory zeros js) sys_dir ∙ ap (λ b. cond b (Some (directory zeros js)) (get (mended_files (sights p)) sys_dir)) (is_fid-itself sys_dir)

  -- from these models to the packs
  pub turn_keeps : settle (view behind) ≡ settle (view before) → needs behind ≡ needs before → KeepsWithRoot p q
  turn_keeps shown need =
      needs_keep p q t.shape t.good
      (needs_files (mended q.shape (sights q)) behind after_is ∙ need ∙ ap needs (sym before_is))
      (ap settle (sym (mended_view q.shape (sights q)) ∙ view_files (mended q.shape (sights q)) behind after_is)
      ∙ shown ∙ ap settle (ap view (sym before_is) ∙ mended_view p.shape (sights p)))

  -- slots with the same entries: the same is viewed and lacking
  pub same_lacking : namings_in sys_dir js ≡ namings_in sys_dir is → (lacking behind ≡ lacking before) × (view behind ≡ view before)
  unfolding lacking
  same_lacking e =
      let files : Files = mended_files (sights p) in
      let good : ℕ = good_sectors (sights p) in
      let v = view_slots p.shape good last files sys_dir zeros is is [] t.was js is e ∙ ap (λ fs. view (record { shape = p.shape; good = good; last = last; files = fs })) (insert_same files sys_dir (directory zeros is) t.was) in
      let n = same_namings p.shape good last files zeros is t.was js is e ∙ ap (λ fs. namings (entries fs)) (insert_same files sys_dir (directory zeros is) t.was) in
      ((λ i. listed (n i) (v i)), v)

  -- the next entry comes
  pub turn_enters : (f : Fid) (name : List ℕ) (rest : List (Fid × List ℕ)) → lacking (mended p.shape (sights p)) ≡ (f, name) ∷ rest → placed (entry f name) is ≡ Some js → KeepsWithRoot p q × (lacking (mended q.shape (sights q)) ≡ rest)
  turn_enters f name rest next room =
      let files : Files = mended_files (sights p) in
      let good : ℕ = good_sectors (sights p) in
      let todo : lacking before ≡ (f, name) ∷ rest = sym (ap lacking before_is) ∙ next in
      let e = entered p.shape good last files zeros is t.was f name js rest (placed_stands sys_dir f name is js room) todo in
      (turn_keeps e.shown (enter_needs p.shape good last files zeros is t.was (f, name) rest js todo room e.rest), lacks ∙ e.rest)

  -- free slots are made one, and it is placed as before
  pub turn_joins : (f : Fid) (name : List ℕ) (rest : List (Fid × List ℕ)) (ks : List Item) → lacking (mended p.shape (sights p)) ≡ (f, name) ∷ rest → placed (entry f name) is ≡ Some ks → placed (entry f name) js ≡ Some ks → all_words js ≡ all_words is → namings_in sys_dir js ≡ namings_in sys_dir is → KeepsWithRoot p q × (lacking (mended q.shape (sights q)) ≡ (f, name) ∷ rest)
  turn_joins f name rest ks next room same words names =
      let files : Files = mended_files (sights p) in
      let good : ℕ = good_sectors (sights p) in
      let s = same_lacking names in
      let todo : lacking before ≡ (f, name) ∷ rest = sym (ap lacking before_is) ∙ next in
      (turn_keeps (ap settle s.1) (join_needs p.shape good last files zeros is t.was (f, name) rest js ks todo room same words (s.0 ∙ todo)), lacks ∙ s.0 ∙ todo)

-- SysDir gets a free slot more, where the next entry has no room
pub turn_widens : (p q : Pack) (is : List Item) → RootTurns p q is (with_page is) → (f : Fid) (name : List ℕ) (rest : List (Fid × List ℕ)) → lacking (mended p.shape (sights p)) ≡ (f, name) ∷ rest → placed (entry f name) is ≡ None → item_words (entry f name) ≤ 256 → KeepsWithRoot p q × (lacking (mended q.shape (sights q)) ≡ (f, name) ∷ rest)
turn_widens p q is t f name rest next none small =
    let files : Files = mended_files (sights p) in
    let good : ℕ = good_sectors (sights p) in
    let js : List Item = with_page is in
    let s = same_lacking p q is js t (namings_in-append sys_dir is (space 256 ∷ []) ∙ append-nil (namings_in sys_dir is)) in
    let todo : lacking (before p q is js t) ≡ (f, name) ∷ rest = sym (ap lacking (before_is p q is js t)) ∙ next in
    (turn_keeps p q is js t (ap settle s.1) (widen_needs p.shape good (last p q is js t) files zeros is t.was (f, name) rest todo none small (s.0 ∙ todo)), lacks p q is js t ∙ s.0 ∙ todo)
