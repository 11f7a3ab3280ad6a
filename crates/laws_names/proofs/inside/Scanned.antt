-- The slots of a living directory, as the scan leaves them after all living files before it.
use Rattle.std.proofs.Common.{◌++◌, ◌∙◌, ◌∷◌, ◌≡◌, Bool, Less, List, None, Option, Some, T, [], ap, cond, false, not, refl, subst, sym, true, ℕ, get_or, length}
use Rattle.std.proofs.Math.Seq.{get_or-append_seam}
use Rattle.std.specs.FinMap.{entries, entries_sorted, find, get, get-entries, is_sorted}
use Rattle.std.specs.FinMap.Entries.{below_all, where_key}
use Rattle.std.specs.Option.{option_map}
use Rattle.std.specs.Ordering.{is_eq, is_lt}
use Rattle.laws_mend.specs.alto_words.specs.Fid.{disk_descriptor, fid_cmp, is_directory, is_fid}
use Rattle.laws_mend.specs.alto_words.specs.declared.fid.Fid.{Fid}
use Rattle.laws_mend.specs.disk_records.specs.Packs.{Pack}
use Rattle.laws_mend.specs.pack_model.specs.hints.Links.{dir_words}
use Rattle.laws_mend.specs.pack_model.specs.reading.Bodies.{File, described, file_of, found, is_described, items_in}
use Rattle.laws_mend.specs.pack_model.specs.reading.Bodies.Body.{data_of, items_of}
use Rattle.laws_mend.specs.pack_model.specs.reading.Bytes.{words_of}
use Rattle.laws_mend.specs.pack_model.specs.reading.Files.{file_bytes, leader, lives}
use Rattle.laws_mend.specs.pack_model.specs.reading.Leaders.{Leader}
use Rattle.laws_mend.specs.pack_model.specs.reading.Model.{read_sights}
use Rattle.laws_mend.specs.pack_model.specs.reading.Namings.{Naming, is_kept, item_kept, items_kept, kept_after, kept_after_body, kept_by}
use Rattle.laws_mend.specs.pack_model.specs.reading.Sights.{sights}
use Rattle.laws_mend.specs.pack_model.specs.reading.Slots.{slots}
use Rattle.laws_mend.specs.pack_model.specs.reading.Slots.Item.{entry}
use Rattle.laws_mend.specs.pack_model.specs.reading.Stored.{StoredFile, files_shown}
use Rattle.laws_mend.specs.pack_model.specs.sessions.Maps.{map_entries}
use Rattle.laws_mend.specs.pack_laws.proofs.ByLists.{entries-retain_keys}
use Rattle.laws_mend.specs.pack_laws.proofs.Keys.{fid_same, fid_total, is_fid-itself, same_fid}
use Rattle.laws_mend.specs.pack_laws.proofs.Mapping.{entries-map_values}
use Rattle.laws_mend.specs.laws_record.proofs.Around.{around, first_part, is_less, second_part}
use Rattle.laws_mend.specs.laws_record.proofs.DirReads.{not_descriptor}
use Rattle.laws_mend.specs.laws_record.proofs.Entered.{directory}
use Rattle.laws_mend.specs.laws_record.proofs.EnterScan.{items_kept-append, length-items_kept}
use Rattle.laws_mend.specs.laws_record.proofs.Reading.{get-found, get_by, read_file}
use Rattle.laws_mend.specs.laws_record.proofs.Scanned.{kept_before, none_in_front, tidied_items}
use Rattle.laws_mend.specs.laws_record.proofs.Systemic.{described_get}
use Rattle.laws_mend.specs.laws_record.proofs.Unkept.{after_files}
use Rattle.laws_names.proofs.inside.Models.{mended_is_read}
use Rattle.laws_names.specs.ModelLaws.{MendedSlot, MendedSlots, kept_past}

-- ---- files in their order, around one of them
-- it is there
pub there : {X : Type 0} (d : Fid) (x : X) (a b : List (Fid × X)) → find fid_cmp d (a ++ (d, x) ∷ b) ≡ None → ⊥
there d x [] b e = (let c : Some x ≡ None = sym (ap (λ t. cond t (Some x) (find fid_cmp d b)) (is_fid-itself d)) ∙ e in cc)
there d x (y ∷ a) b e = by (there d x a b) (is_fid d y.0) e
  where
    by : (find fid_cmp d (a ++ (d, x) ∷ b) ≡ None → ⊥) → (t : Bool) → cond t (Some y.1) (find fid_cmp d (a ++ (d, x) ∷ b)) ≡ None → ⊥
    by again true e = cc
    by again false e = again e

-- a key below all others is below it
below : (k d : Fid) (x : File) (a b : List (Fid × File)) → T (below_all fid_cmp k (a ++ (d, x) ∷ b)) → fid_cmp k d ≡ Less
below k d x [] b h = is_less (fid_cmp k d) (first_part (is_lt (fid_cmp k d)) (below_all fid_cmp k b) h)
below k d x (y ∷ a) b h = below k d x a b (second_part (is_lt (fid_cmp k y.0)) (below_all fid_cmp k (a ++ (d, x) ∷ b)) h)

-- so none before it has its key
apart : (d : Fid) (x : File) (a b : List (Fid × File)) → T (is_sorted fid_cmp (a ++ (d, x) ∷ b)) → find fid_cmp d a ≡ None
apart d x [] b h = refl
apart d x (y ∷ a) b h =
    let less : fid_cmp y.0 d ≡ Less = below y.0 d x a b (first_part (below_all fid_cmp y.0 (a ++ (d, x) ∷ b)) (is_sorted fid_cmp (a ++ (d, x) ∷ b)) h) in
    by less (apart d x a b (second_part (below_all fid_cmp y.0 (a ++ (d, x) ∷ b)) (is_sorted fid_cmp (a ++ (d, x) ∷ b)) h)) (is_fid d y.0) refl
  where
    by : fid_cmp y.0 d ≡ Less → find fid_cmp d a ≡ None → (t : Bool) → is_fid d y.0 ≡ t → cond t (Some y.1) (find fid_cmp d a) ≡ None
    by less rest false e = rest
    by less rest true e = absurd (let c : false ≡ true = sym (ap is_eq (ap (λ k. fid_cmp k d) (same_fid d y.0 e) ∙ less)) ∙ is_fid-itself d in cc)

-- those before it, if they are told in two ways
same_front : (d : Fid) (x y : File) (a b c e : List (Fid × File)) → find fid_cmp d a ≡ None → find fid_cmp d c ≡ None → a ++ (d, x) ∷ b ≡ c ++ (d, y) ∷ e → a ≡ c
same_front d x y [] b [] e m n q = refl
same_front d x y [] b (z ∷ c) e m n q = absurd (
    let first : (d, x) ≡ z = cc in
    let key : d ≡ z.0 = ap (λ r. r.0) first in
    let s : Some z.1 ≡ None = sym (ap (λ t. cond t (Some z.1) (find fid_cmp d c)) (ap (is_fid d) (sym key) ∙ is_fid-itself d)) ∙ n in cc)
same_front d x y (z ∷ a) b [] e m n q = absurd (
    let first : (d, y) ≡ z = cc in
    let key : d ≡ z.0 = ap (λ r. r.0) first in
    let s : Some z.1 ≡ None = sym (ap (λ t. cond t (Some z.1) (find fid_cmp d a)) (ap (is_fid d) (sym key) ∙ is_fid-itself d)) ∙ m in cc)
same_front d x y (z ∷ a) b (w ∷ c) e m n q =
    let first : z ≡ w = cc in
    let rest : a ++ (d, x) ∷ b ≡ c ++ (d, y) ∷ e = cc in
    let same : a ≡ c = same_front d x y a b c e (later z a m) (later w c n) rest in
    λ i. first i ∷ same i
  where
    later : (z : Fid × File) (a : List (Fid × File)) → cond (is_fid d z.0) (Some z.1) (find fid_cmp d a) ≡ None → find fid_cmp d a ≡ None
    later z a h = by (is_fid d z.0) h
      where
        by : (t : Bool) → cond t (Some z.1) (find fid_cmp d a) ≡ None → find fid_cmp d a ≡ None
        by true h = absurd cc
        by false h = h

-- ---- the entries kept before it
same_past : (ok : List Naming → Naming → Bool) (before : List Naming) (es : List (Fid × File)) → kept_past ok before es ≡ after_files ok before es
same_past ok before [] = refl
same_past ok before (e ∷ es) = same_past ok (kept_after_body ok e.0 before e.1.body) es

-- DiskDescriptor has none
AllPlain : List (Fid × File) → Type 0
AllPlain [] = Unit {0}
AllPlain (e ∷ es) = (is_described e.0 ≡ false → (bytes : List ℕ) × (e.1.body ≡ data_of bytes)) × AllPlain es

all_plain : (es : List (Fid × StoredFile)) → AllPlain (map_entries file_of es)
unfolding AllPlain
all_plain [] = tt
all_plain (e ∷ es) = (λ own. (e.1.bytes, plain e own), all_plain es)
  where
    plain : (e : Fid × StoredFile) → is_described e.0 ≡ false → (file_of e.0 e.1).body ≡ data_of e.1.bytes
    plain e own = ap (λ c. cond c (items_of (slots (words_of e.1.bytes))) (data_of e.1.bytes)) (ap is_directory (same_fid e.0 disk_descriptor (by (is_fid e.0 disk_descriptor) own)))
      where
        by : (b : Bool) → not b ≡ false → b ≡ true
        by true h = refl
        by false h = cc

first_plain : (a b : List (Fid × File)) → AllPlain (a ++ b) → AllPlain a
unfolding AllPlain
first_plain [] b h = tt
first_plain (e ∷ a) b h = (h.0, first_plain a b h.1)

-- so it counts nowhere
past_described : (ok : List Naming → Naming → Bool) (before : List Naming) (es : List (Fid × File)) → AllPlain es → kept_past ok before (where_key fid_cmp is_described es) ≡ kept_past ok before es
unfolding AllPlain
past_described ok before [] h = refl
past_described ok before (e ∷ es) h = by (is_described e.0) refl (λ k. past_described ok k es h.1)
  where
    by : (b : Bool) → is_described e.0 ≡ b → ((k : List Naming) → kept_past ok k (where_key fid_cmp is_described es) ≡ kept_past ok k es)
        → kept_past ok before (cond b (e ∷ where_key fid_cmp is_described es) (where_key fid_cmp is_described es)) ≡ kept_past ok (kept_after_body ok e.0 before e.1.body) es
    by true own again = again (kept_after_body ok e.0 before e.1.body)
    by false own again = again before ∙ ap (λ b. kept_past ok (kept_after_body ok e.0 before b) es) (sym (h.0 own).1)

where_append : (a b : List (Fid × File)) → where_key fid_cmp is_described (a ++ b) ≡ where_key fid_cmp is_described a ++ where_key fid_cmp is_described b
where_append [] b = refl
where_append (e ∷ a) b = by (is_described e.0) (where_append a b)
  where
    by : (t : Bool) → where_key fid_cmp is_described (a ++ b) ≡ where_key fid_cmp is_described a ++ where_key fid_cmp is_described b
        → cond t (e ∷ where_key fid_cmp is_described (a ++ b)) (where_key fid_cmp is_described (a ++ b)) ≡ cond t (e ∷ where_key fid_cmp is_described a) (where_key fid_cmp is_described a) ++ where_key fid_cmp is_described b
    by true again = ap (λ r. e ∷ r) again
    by false again = again

-- ---- the law
module _ (p : Pack) (d : Fid) (front back : List (Fid × File)) (x : File) (dir : is_directory d ≡ true) (split : entries (found (sights p)) ≡ front ++ (d, x) ∷ back) where
  -- it has a leader
  led : (l : Leader) × (leader (sights p) d ≡ Some l)
  led = by (leader (sights p) d) refl
    where
      by : (r : Option Leader) → leader (sights p) d ≡ r → (l : Leader) × (leader (sights p) d ≡ Some l)
      by (Some l) e = (l, e)
      by None e = absurd (there d x front back (ap (find fid_cmp d) (sym split) ∙ sym (get-entries (found (sights p)) d) ∙ get-found (sights p) d ∙ ap (option_map (read_file d (file_bytes (sights p) d))) e))

  here : get (described (sights p)) d ≡ Some (directory led.0 (slots (dir_words p d)))
  here =
      described_get (sights p) d (not_descriptor d dir) ∙ get_by (sights p) d led.0 (file_bytes (sights p) d) led.1 refl
      ∙ ap (λ b. Some (record { leader = led.0; body = cond b (items_of (slots (dir_words p d))) (data_of (file_bytes (sights p) d)) })) dir

  -- the files before it, DiskDescriptor aside
  listed : entries (described (sights p)) ≡ where_key fid_cmp is_described front ++ (d, x) ∷ where_key fid_cmp is_described back
  listed =
      entries-retain_keys fid_total fid_same (found (sights p)) is_described ∙ ap (where_key fid_cmp is_described) split ∙ where_append front ((d, x) ∷ back)
      ∙ ap (λ b. where_key fid_cmp is_described front ++ cond (not b) ((d, x) ∷ where_key fid_cmp is_described back) (where_key fid_cmp is_described back)) (not_descriptor d dir)

  before : kept_before (lives (sights p)) (described (sights p)) d led.0 (slots (dir_words p d)) here ≡ kept_past (is_kept (lives (sights p))) [] front
  unfolding found
  before =
      let r = around fid_total fid_same (described (sights p)) d (directory led.0 (slots (dir_words p d))) here in
      let sorted : T (is_sorted fid_cmp (where_key fid_cmp is_described front ++ (d, x) ∷ where_key fid_cmp is_described back)) = subst (λ es. T (is_sorted fid_cmp es)) listed (entries_sorted (described (sights p))) in
      let same : r.front ≡ where_key fid_cmp is_described front = same_front d (directory led.0 (slots (dir_words p d))) x r.front r.back (where_key fid_cmp is_described front) (where_key fid_cmp is_described back)
      (none_in_front (described (sights p)) d (directory led.0 (slots (dir_words p d))) r) (apart d x (where_key fid_cmp is_described front) (where_key fid_cmp is_described back) sorted) (sym r.was ∙ listed) in
      let plain : AllPlain front = first_plain front ((d, x) ∷ back) (subst AllPlain (sym (entries-map_values fid_total fid_same file_of (files_shown (sights p))) ∙ split) (all_plain (entries (files_shown (sights p))))) in
      ap (after_files (is_kept (lives (sights p))) []) same ∙ sym (same_past (is_kept (lives (sights p))) [] (where_key fid_cmp is_described front)) ∙ past_described (is_kept (lives (sights p))) [] front plain

pub mended_slots : MendedSlots
unfolding read_sights
mended_slots p d front back x m dir split =
    (mended_is_read p m).items_are d
    ∙ ap items_in (tidied_items (lives (sights p)) (described (sights p)) d (led p d front back x dir split).0 (slots (dir_words p d)) (here p d front back x dir split))
    ∙ ap (λ k. items_kept (is_kept (lives (sights p))) d k (slots (dir_words p d))) (before p d front back x dir split)

pub mended_slot : MendedSlot
mended_slot p d front back x a b f name m dir split slots_are =
    let ok : List Naming → Naming → Bool = is_kept (lives (sights p)) in
    let past : List Naming = kept_past ok [] front in
    ap (λ is. get_or is (length a) (entry f name)) (mended_slots p d front back x m dir split ∙ ap (items_kept ok d past) slots_are ∙ (items_kept-append ok d past a (entry f name ∷ b)).0)
    ∙ ap (λ n. get_or (items_kept ok d past a ++ items_kept ok d (kept_after ok d past a) (entry f name ∷ b)) n (entry f name)) (sym (length-items_kept ok d past a))
    ∙ get_or-append_seam (items_kept ok d past a) (item_kept ok d (kept_after ok d past a) (entry f name)) (items_kept ok d (kept_by ok d (kept_after ok d past a) (entry f name)) b) (entry f name)
