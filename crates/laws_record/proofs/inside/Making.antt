-- A new leader: the record write is the make.
use Rattle.std.proofs.Common.{◌&&◌, ◌∙◌, ◌∷◌, ◌≡◌, Bool, Equal, Greater, Less, List, None, Some, [], ap, cond, false, not, refl, set, sym, true, ℕ}
use mathlib.Core.Path.{fun_ext}
use Rattle.std.specs.FinMap.{entries, entries-insert, find, from_entries, get, get-entries, get-from_entries, get-insert, insert, retain_keys, same_map}
use Rattle.std.specs.FinMap.Entries.{by_order, find-put, put}
use Rattle.std.specs.List.{list_any}
use Rattle.std.specs.Option.{is_some, option_map}
use Rattle.std.specs.Ordering.{is_eq}
use Rattle.std.specs.declared.cmp.Ordering.{Ordering}
use Rattle.pack_laws.specs.alto_words.specs.Fid.{disk_descriptor, fid_cmp, is_directory, is_fid}
use Rattle.pack_laws.specs.alto_words.specs.declared.fid.Fid.{Fid}
use Rattle.pack_laws.specs.disk_records.specs.Labels.{tag}
use Rattle.pack_laws.specs.disk_records.specs.Packs.{sector_at}
use Rattle.pack_laws.specs.disk_records.specs.declared.records.Page.{Page}
use Rattle.pack_laws.specs.pack_model.specs.reading.Bodies.{Body, File, Files, described, found, is_described}
use Rattle.pack_laws.specs.pack_model.specs.reading.Bodies.Body.{data_of, items_of}
use Rattle.pack_laws.specs.pack_model.specs.reading.Bytes.{words_of}
use Rattle.pack_laws.specs.pack_model.specs.reading.Files.{file_bytes, leader, leader_at, lives, page_at}
use Rattle.pack_laws.specs.pack_model.specs.reading.Leaders.{Leader, is_readable, leader_of, leader_words}
use Rattle.pack_laws.specs.pack_model.specs.reading.Model.{good_one, last_serial, read_sights}
use Rattle.pack_laws.specs.pack_model.specs.reading.Namings.{Naming, body_kept, body_namings, clashes, files_kept, fits, is_kept, item_kept, items_kept, kept_after, kept_after_body, kept_by, namings, namings_in, tidied}
use Rattle.pack_laws.specs.pack_model.specs.reading.Sights.{Sight, page_sight, sights}
use Rattle.pack_laws.specs.pack_model.specs.reading.Sights.Sight.{hidden}
use Rattle.pack_laws.specs.pack_model.specs.reading.Slots.{Item, item_words}
use Rattle.pack_laws.specs.pack_model.specs.reading.Slots.Item.{entry, space}
use Rattle.pack_laws.specs.pack_model.specs.operations.Step.{new_body, new_file}
use Rattle.pack_laws.specs.pack_model.specs.states.Whole.{living_too}
use Rattle.laws_record.proofs.Beside.{any_first, any_second}
use Rattle.pack_laws.proofs.Firsts.{first_new, first_same}
use Rattle.laws_record.proofs.Framing.{bytes_same, good_set, model_same}
use Rattle.pack_laws.proofs.Guarding.{free_parts}
use Rattle.laws_record.proofs.Keeping.{kept_insert}
use Rattle.pack_laws.proofs.Keys.{fid_same, fid_total, same_fid}
use Rattle.pack_laws.proofs.Placing.{leader_at-leads}
use Rattle.laws_record.proofs.Reading.{get-found, get_alike, get_by, insert_from_get, read_file}
use Rattle.laws_record.proofs.Recording.{free_sight, free_within, label_sights}
use Rattle.laws_record.proofs.Systemic.{described_get}
use Rattle.laws_record.proofs.Tidying.{or_false_left, or_false_right}
use Rattle.laws_record.specs.QuietLaws.{with_label}
use Rattle.laws_record.specs.StepLaws.{MakeIsTheStep}

-- ---- a file that no entry names
module _ (v : Fid → Bool) (f : Fid) where
  -- whether it lives is nothing to the entries of others
  kept_of_others : (before : List Naming) (e : Naming) → is_fid e.fid f ≡ false → is_kept (living_too f v) before e ≡ is_kept v before e
  kept_of_others before e other = ap (λ t. (cond t true (v e.fid) && fits e) && not (list_any (clashes e) before)) other

  -- slots
  items_unnamed : (d : Fid) (is : List Item) (before : List Naming) → list_any (λ n. is_fid n.fid f) (namings_in d is) ≡ false
      → (items_kept (is_kept (living_too f v)) d before is ≡ items_kept (is_kept v) d before is) × (kept_after (is_kept (living_too f v)) d before is ≡ kept_after (is_kept v) d before is)
  items_unnamed d [] before none = (refl, refl)
  items_unnamed d (space n ∷ is) before none = let r = items_unnamed d is before none in (ap (λ q. space n ∷ q) r.0, r.1)
  items_unnamed d (entry g name ∷ is) before none =
      let e : Naming = record { dir = d; name = name; fid = g } in
      let same = kept_of_others before e (or_false_left (is_fid g f) _ none) in
      let r = items_unnamed d is (kept_by (is_kept v) d before (entry g name)) (or_false_right (is_fid g f) _ none) in (
        ap (λ t. cond t (entry g name) (space (item_words (entry g name))) ∷ items_kept (is_kept (living_too f v)) d (cond t (e ∷ before) before) is) same ∙ ap (λ q. item_kept (is_kept v) d before (entry g name) ∷ q) r.0,
        ap (λ t. kept_after (is_kept (living_too f v)) d (cond t (e ∷ before) before) is) same ∙ r.1,
      )

  -- a body
  body_unnamed : (d : Fid) (x : Body) (before : List Naming) → list_any (λ n. is_fid n.fid f) (body_namings d x) ≡ false
      → (body_kept (is_kept (living_too f v)) d before x ≡ body_kept (is_kept v) d before x) × (kept_after_body (is_kept (living_too f v)) d before x ≡ kept_after_body (is_kept v) d before x)
  body_unnamed d (data_of bytes) before none = (refl, refl)
  body_unnamed d (items_of is) before none = let r = items_unnamed d is before none in (ap items_of r.0, r.1)

  -- all files
  files_unnamed : (es : List (Fid × File)) (before : List Naming) → list_any (λ n. is_fid n.fid f) (namings es) ≡ false → files_kept (is_kept (living_too f v)) before es ≡ files_kept (is_kept v) before es
  files_unnamed [] before none = refl
  files_unnamed (e ∷ es) before none =
      let r = body_unnamed e.0 e.1.body before (any_first (λ n. is_fid n.fid f) (body_namings e.0 e.1.body) (namings es) none) in
      (λ i. (e.0, record { leader = e.1.leader; body = r.0 i }) ∷ files_kept (is_kept (living_too f v)) (r.1 i) es)
      ∙ ap (λ q. (e.0, record { leader = e.1.leader; body = body_kept (is_kept v) e.0 before e.1.body }) ∷ q) (files_unnamed es (kept_after_body (is_kept v) e.0 before e.1.body) (any_second (λ n. is_fid n.fid f) (body_namings e.0 e.1.body) (namings es) none))

-- ---- a file without entries comes
-- the scan passes its body
IsBare : Fid → Body → Type 0
IsBare d x = (ok : List Naming → Naming → Bool) (before : List Naming) → (body_kept ok d before x ≡ x) × (kept_after_body ok d before x ≡ before)

-- a new file has such a body
new_bare : (f : Fid) → IsBare f (new_body f)
unfolding IsBare
new_bare f ok before = by (is_directory f)
  where
    by : (t : Bool) → (body_kept ok f before (cond t (items_of (space 255 ∷ [])) (data_of [])) ≡ cond t (items_of (space 255 ∷ [])) (data_of [])) × (kept_after_body ok f before (cond t (items_of (space 255 ∷ [])) (data_of [])) ≡ before)
    by true = (refl, refl)
    by false = (refl, refl)

-- so the scan passes the file, where it wasn't there
scan_put : (ok : List Naming → Naming → Bool) (f : Fid) (x : File) → IsBare f x.body → (before : List Naming) (es : List (Fid × File)) → find fid_cmp f es ≡ None → files_kept ok before (put fid_cmp f x es) ≡ put fid_cmp f x (files_kept ok before es)
unfolding IsBare
scan_put ok f x bare before [] none = let r = bare ok before in ap (λ b. (f, record { leader = x.leader; body = b }) ∷ []) r.0
scan_put ok f x bare before (e ∷ es) none = by (fid_cmp f e.0) none (scan_put ok f x bare (kept_after_body ok e.0 before e.1.body) es)
  where
    by : (r : Ordering) → cond (is_eq r) (Some e.1) (find fid_cmp f es) ≡ None
        → (find fid_cmp f es ≡ None → files_kept ok (kept_after_body ok e.0 before e.1.body) (put fid_cmp f x es) ≡ put fid_cmp f x (files_kept ok (kept_after_body ok e.0 before e.1.body) es))
        → files_kept ok before (by_order r ((f, x) ∷ e ∷ es) ((e.0, x) ∷ es) (e ∷ put fid_cmp f x es))
        ≡ by_order r ((f, x) ∷ files_kept ok before (e ∷ es)) ((e.0, x) ∷ files_kept ok (kept_after_body ok e.0 before e.1.body) es) ((e.0, record { leader = e.1.leader; body = body_kept ok e.0 before e.1.body }) ∷ put fid_cmp f x (files_kept ok (kept_after_body ok e.0 before e.1.body) es))
    by Less n again = let r = bare ok before in λ i. (f, record { leader = x.leader; body = r.0 i }) ∷ files_kept ok (r.1 i) (e ∷ es)
    by Equal n again = absurd (let clash : Some e.1 ≡ None = n in cc)
    by Greater n again = ap (λ q. (e.0, record { leader = e.1.leader; body = body_kept ok e.0 before e.1.body }) ∷ q) (again n)

-- also in the map
tidied_put : (v : Fid → Bool) (files : Files) (f : Fid) (x : File) → IsBare f x.body → get files f ≡ None → tidied v (insert files f x) ≡ insert (tidied v files) f x
unfolding tidied
tidied_put v files f x bare none = same_map fid_total fid_same _ _ (λ g.
    get-from_entries fid_total (files_kept (is_kept v) [] (entries (insert files f x))) g
    ∙ ap (λ es. find fid_cmp g (files_kept (is_kept v) [] es)) (entries-insert fid_total files f x)
    ∙ ap (find fid_cmp g) (scan_put (is_kept v) f x bare [] (entries files) (sym (get-entries files f) ∙ none))
    ∙ find-put fid_cmp fid_total g f x (files_kept (is_kept v) [] (entries files))
    ∙ ap (cond (is_fid g f) (Some x)) (sym (get-from_entries fid_total (files_kept (is_kept v) [] (entries files)) g))
    ∙ sym (get-insert fid_total (from_entries {R = fid_cmp} (files_kept (is_kept v) [] (entries files))) f x g))

-- where no entry names it, whether it lives changes nothing
tidied_unnamed : (v : Fid → Bool) (files : Files) (f : Fid) → list_any (λ n. is_fid n.fid f) (namings (entries files)) ≡ false → tidied (living_too f v) files ≡ tidied v files
unfolding tidied
tidied_unnamed v files f none = ap (from_entries {R = fid_cmp}) (files_unnamed v f (entries files) [] none)

-- ---- the pack
-- the label of a new leader
pub make_is_the_step : MakeIsTheStep
unfolding read_sights
make_is_the_step p at f name moment label h =
    let ss : List Sight = sights p in
    let x : Page = record { fid = f; number = 0 } in
    let value : List ℕ = (sector_at p at).value in
    let s : Sight = page_sight f 0 (tag label).bytes value in
    let us : List Sight = set ss at s in
    let new : Leader = leader_of f value in
    let blank = free_sight p at h.is_free in
    let within = free_within p at h.is_free in
    let shown : sights (with_label p at label) ≡ us = label_sights p at x label (free_parts p at h.is_free).0 h.names in
    let lead : leader us f ≡ Some new = first_new (leader_at f) ss at s within h.headless ∙ leader_at-leads f (is_readable (leader_words value)) new in
    let leaders : (g : Fid) → is_fid g f ≡ false → leader us g ≡ leader ss g = λ g e. first_same (leader_at g) ss at s hidden (ap (λ b. cond b (Some new) None) e ∙ sym (ap (leader_at g) blank)) in
    let bytes : (g : Fid) → file_bytes us g ≡ file_bytes ss g = λ g. bytes_same ss at s g (λ n. sym (ap (page_at g n) blank)) in
    let live : lives us ≡ living_too f (lives ss) = fun_ext (λ g. elim (is_fid g f) as (λ b. is_fid g f ≡ b → is_some (leader us g) ≡ cond b true (is_some (leader ss g))) [
      | true ↦ λ e. ap (λ k. is_some (leader us k)) (same_fid g f e) ∙ ap is_some lead
      | false ↦ λ e. ap is_some (leaders g e)
    ] refl) in
    let gone : get (described ss) f ≡ None = described_get ss f h.described ∙ get-found ss f ∙ ap (option_map (read_file f (file_bytes ss f))) h.headless in
    let file : File = new_file f name moment in
    let made : read_file f (file_bytes ss f) new ≡ file = (λ i. record { leader = h.leader_is i; body = h.body_is i }) in
    let files : described us ≡ insert (described ss) f file =
    ap (λ m. retain_keys m is_described)
    (insert_from_get (found ss) (found us) f file (get_by us f new (file_bytes ss f) lead (bytes f) ∙ ap Some made) (λ g e. get_alike ss us g (leaders g e) (bytes g)))
    ∙ kept_insert (found ss) is_described f file (ap not h.described) in
    ap (read_sights p.shape) shown
    ∙ model_same p.shape _ _ _ _ _ _ (good_set ss at s hidden (sym (ap good_one blank))) (ap (λ b. last_serial (words_of b)) (bytes disk_descriptor) ∙ h.last)
    (ap (λ v. tidied v (described us)) live
    ∙ ap (tidied (living_too f (lives ss))) files
    ∙ tidied_put (living_too f (lives ss)) (described ss) f file (new_bare f) gone
    ∙ ap (λ m. insert m f file) (tidied_unnamed (lives ss) (described ss) f h.unnamed))
