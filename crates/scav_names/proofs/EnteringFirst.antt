-- What may be entered in SysDir once the slots that aren't kept are free.
use Rattle.std.proofs.Common.{◌≡◌, ℕ, zero, suc, ◌+◌, ◌/◌, ◌<◌, Bool, true, false, cond, List, [], ◌∷◌, length, get_or, map, Option, Some, None, refl, sym, ap, subst, ◌∙◌, arith}
use Rattle.std.specs.Prelude.{All}
use Rattle.std.specs.Option.{is_some, option_map, option_map_or}
use Rattle.std.specs.FinMap.{FinMap, contains_key, entries, find, get-entries}
use Rattle.std.specs.FinMap.Entries.{where_key}
use Rattle.std.proofs.lemmas.List.Elements.{All-cons, All-head, All-nil, All-tail}
use Rattle.alto_words.specs.declared.fid.Fid.{Fid}
use Rattle.alto_words.specs.Fid.{disk_descriptor, fid_cmp, is_fid, sys_dir}
use Rattle.disk_records.specs.Packs.{Pack, is_free_at}
use Rattle.disk_records.proofs.Bytes.{length-words_of}
use Rattle.laws_names.proofs.models.Laws.{mended_is_read, mended_slots, tidy_mended_is_read}
use Rattle.scav_pages.specs.laws_operation.proofs.places.Laws.{file_lives_in_a_place}
use Rattle.scav_pages.specs.laws_record.proofs.Around.{around}
use Rattle.scav_pages.specs.laws_record.proofs.DirReads.{has_leader}
use Rattle.scav_pages.specs.laws_record.proofs.Heads.{all_read}
use Rattle.scav_pages.specs.laws_record.proofs.Mending.{entries-tidied}
use Rattle.scav_pages.specs.laws_record.proofs.Reading.{get-found, read_file}
use Rattle.laws_room.proofs.SystemFiles.{leader_shown}
use Rattle.laws_room.specs.NextLaws.{mended_pack}
use Rattle.scav_pages.specs.pack_laws.proofs.ByLists.{described_list, found_by, found_list, is_shown, seen_list}
use Rattle.scav_pages.specs.pack_laws.proofs.Keys.{fid_same, fid_total, is_fid-itself}
use Rattle.pack_model.specs.hints.Links.{dir_words}
use Rattle.pack_model.specs.reading.Bodies.{File, described, found, is_described}
use Rattle.pack_model.specs.reading.Files.{file_bytes, leader, lives, place}
use Rattle.pack_model.specs.reading.Model.{Model, is_named, read_as, read_sights, root_items}
use Rattle.pack_model.specs.reading.Namings.{Naming, body_kept, descriptor_name, files_kept, is_kept, items_kept, kept_after_body, kept_by, sys_dir_name}
use Rattle.pack_model.specs.reading.Sights.{sights}
use Rattle.pack_model.specs.reading.Slots.{Item, SlotsReachEnd, all_words, item_words, slots}
use Rattle.pack_model.specs.reading.Slots.Item.{space, entry}
use Rattle.pack_model.specs.scavenger.Mended.{lacking}
use Rattle.pack_model.specs.sessions.Maps.{map_entries}
use Rattle.pack_model.specs.showing.Settling.{adopted, chosen, given_names, unless}
use Rattle.pack_model.specs.showing.View.{Home, Seen, seen_of, view}
use Rattle.pack_model.specs.scavenger.Reports.{PagesMended}
use Rattle.scav_names.specs.declared.catalogue.Catalogue.{Catalogue}
use Rattle.scav_names.specs.declared.rooms.Rooms.{Rooms}
use Rattle.scav_names.specs.Catalogues.{HoldsNames, root_slots}
use Rattle.scav_names.specs.Lacking.{entry_for, lacking_file, lacking_files}
use Rattle.scav_names.specs.Living.{leader_sector}
use Rattle.scav_names.specs.Parts.{UnkeptFreed}
use Rattle.scav_names.specs.Rooms.{HasRooms, HasSlots}
use Rattle.scav_names.specs.Roots.{IsLed, MayBeEntered}

-- ---- the words of SysDir
-- SysDir lives
pub root_lives : (p : Pack) → PagesMended p → lives (sights p) sys_dir ≡ true
root_lives p m = leader_shown (sights p) sys_dir 1 m.pages.root.1 m.pages.root.0 m.pages.root.2

-- slots have as many words, whichever of their entries are kept
words_kept : (ok : List Naming → Naming → Bool) (d : Fid) (before : List Naming) (is : List Item) → all_words (items_kept ok d before is) ≡ all_words is
words_kept ok d before [] = refl
words_kept ok d before (space n ∷ is) = ap (λ k. n + k) (words_kept ok d before is)
words_kept ok d before (entry f name ∷ is) =
    let rest = words_kept ok d (kept_by ok d before (entry f name)) is in
    ap (λ k. k + all_words (items_kept ok d (kept_by ok d before (entry f name)) is)) (one (ok before (record { dir = d; name = name; fid = f }))) ∙ ap (λ k. item_words (entry f name) + k) rest
  where
    one : (c : Bool) → item_words (cond c (entry f name) (space (item_words (entry f name)))) ≡ item_words (entry f name)
    one true = refl
    one false = refl

-- the slots as the Scavenger will find them have the words of those that stand
root_words : (p : Pack) → PagesMended p → all_words (root_items (mended_pack p)) ≡ all_words (slots (dir_words p sys_dir))
root_words p m =
    let l = has_leader (sights p) sys_dir (root_lives p m) in
    let x : File = read_file sys_dir (file_bytes (sights p) sys_dir) l.0 in
    let r = around fid_total fid_same (found (sights p)) sys_dir x (get-found (sights p) sys_dir ∙ ap (option_map (read_file sys_dir (file_bytes (sights p) sys_dir))) l.1) in
    ap all_words (mended_slots p sys_dir r.front r.back x m refl r.was) ∙ words_kept (is_kept (lives (sights p))) sys_dir _ (slots (dir_words p sys_dir))

-- and they are all words
root_ends : (p : Pack) (m : PagesMended p) → all_words (slots (dir_words p sys_dir)) ≡ length (dir_words p sys_dir)
root_ends p m =
    let ends : SlotsReachEnd (file_bytes (sights p) sys_dir) = m.pages.directories sys_dir (root_lives p m) refl in
    let read = all_read (dir_words p sys_dir) ends.items ends.reads in
    ap all_words read.0 ∙ read.1

-- ---- what is lacking
pairs_are : (p : Pack) (es : List (Fid × List ℕ)) → map entry_for (map (lacking_file p) es) ≡ es
pairs_are p [] = refl
pairs_are p (e ∷ es) = ap (λ l. e ∷ l) (pairs_are p es)

-- each of a file that lives
module _ (P : Fid → Type 0) where
  with_keys : {X : Type 0} (test : Fid → Bool) (es : List (Fid × X)) → All (λ e. P e.0) es → All (λ e. P e.0) (where_key fid_cmp test es)
  with_keys {X} test [] h = All-nil (λ (e : Fid × X). P e.0)
  with_keys {X} test (e ∷ es) h = by (test e.0) (with_keys test es (All-tail (λ (x : Fid × X). P x.0) e es h))
    where
      by : (b : Bool) → All (λ (x : Fid × X). P x.0) (where_key fid_cmp test es) → All (λ (x : Fid × X). P x.0) (cond b (e ∷ where_key fid_cmp test es) (where_key fid_cmp test es))
      by true rest = All-cons (λ (x : Fid × X). P x.0) e (where_key fid_cmp test es) (All-head (λ (x : Fid × X). P x.0) e es h) rest
      by false rest = rest

  keys_kept : (ok : List Naming → Naming → Bool) (before : List Naming) (es : List (Fid × File)) → All (λ e. P e.0) es → All (λ e. P e.0) (files_kept ok before es)
  keys_kept ok before [] h = All-nil (λ (e : Fid × File). P e.0)
  keys_kept ok before (e ∷ es) h =
      All-cons (λ (x : Fid × File). P x.0) (e.0, record { leader = e.1.leader; body = body_kept ok e.0 before e.1.body }) (files_kept ok (kept_after_body ok e.0 before e.1.body) es) (All-head (λ (x : Fid × File). P x.0) e es h)
      (keys_kept ok (kept_after_body ok e.0 before e.1.body) es (All-tail (λ (x : Fid × File). P x.0) e es h))

  keys_seen : (es : List (Fid × File)) → All (λ e. P e.0) es → All (λ e. P e.0) (map_entries seen_of es)
  keys_seen [] h = All-nil (λ (e : Fid × Seen). P e.0)
  keys_seen (e ∷ es) h = All-cons (λ (x : Fid × Seen). P x.0) (e.0, seen_of e.0 e.1) (map_entries seen_of es) (All-head (λ (x : Fid × File). P x.0) e es h) (keys_seen es (All-tail (λ (x : Fid × File). P x.0) e es h))

  key_unless : (b : Bool) (e : Fid × List ℕ) (es : List (Fid × List ℕ)) → P e.0 → All (λ x. P x.0) es → All (λ x. P x.0) (unless b e es)
  key_unless true e es h rest = rest
  key_unless false e es h rest = All-cons (λ (x : Fid × List ℕ). P x.0) e es h rest

  keys_given : (names : FinMap fid_cmp Home) (es : List (Fid × Seen)) → All (λ e. P e.0) es → All (λ e. P e.0) (given_names names es)
  keys_given names [] h = All-nil (λ (e : Fid × List ℕ). P e.0)
  keys_given names (e ∷ es) h =
      key_unless (contains_key names e.0) (e.0, chosen names e.1.leader.name) (given_names (adopted names e) es) (All-head (λ (x : Fid × Seen). P x.0) e es h)
      (keys_given (adopted names e) es (All-tail (λ (x : Fid × Seen). P x.0) e es h))

found_in : (es : List (Fid × File)) (k : ℕ) (z : Fid × File) → k < length es → is_some (find fid_cmp (get_or es k z).0 es) ≡ true
found_in [] k z l = absurd (omega (arith, l))
found_in (x ∷ es) zero z l = ap (λ b. is_some (cond b (Some x.1) (find fid_cmp x.0 es))) (is_fid-itself x.0)
found_in (x ∷ es) (suc k) z l = by (is_fid (get_or es k z).0 x.0) (found_in es k z (omega (arith, l)))
  where
    by : (b : Bool) → is_some (find fid_cmp (get_or es k z).0 es) ≡ true → is_some (cond b (Some x.1) (find fid_cmp (get_or es k z).0 es)) ≡ true
    by true h = refl
    by false h = h

some_mapped : {A B : Type 0} (g : A → B) (o : Option A) → is_some (option_map g o) ≡ is_some o
some_mapped g None = refl
some_mapped g (Some x) = refl

pub found_live : (p : Pack) → All (λ x. lives (sights p) x.0 ≡ true) (entries (found (sights p)))
found_live p k z within =
    let f = (get_or (entries (found (sights p))) k z).0 in
    sym (some_mapped (read_file f (file_bytes (sights p) f)) (leader (sights p) f)) ∙ ap is_some (sym (get-found (sights p) f) ∙ get-entries (found (sights p)) f) ∙ found_in (entries (found (sights p))) k z within

read_live : (p : Pack) → All (λ x. lives (sights p) x.0 ≡ true) (entries (read_as p).files)
unfolding read_sights
read_live p =
    let P : Fid → Type 0 = λ f. lives (sights p) f ≡ true in
    let listed = subst (All (λ (x : Fid × File). P x.0)) (found_list (sights p)) (found_live p) in
    let told = subst (All (λ (x : Fid × File). P x.0)) (sym (described_list (sights p))) (with_keys P is_described (found_by (sights p)) listed) in
    subst (All (λ (x : Fid × File). P x.0)) (sym (entries-tidied (lives (sights p)) (described (sights p)))) (keys_kept P (is_kept (lives (sights p))) [] (entries (described (sights p))) told)

lacking_live : (p : Pack) → PagesMended p → All (λ e. lives (sights p) e.0 ≡ true) (lacking (mended_pack p))
unfolding lacking
lacking_live p m = subst (All (λ (e : Fid × List ℕ). lives (sights p) e.0 ≡ true)) (sym (mended_is_read p m).lacking_is) by
  where
    by : All (λ (e : Fid × List ℕ). lives (sights p) e.0 ≡ true) (lacking (read_as p))
    by =
        let P : Fid → Type 0 = λ f. lives (sights p) f ≡ true in
        let r : Model = read_as p in
        let seen = subst (All (λ (x : Fid × Seen). P x.0)) (sym (seen_list r)) (with_keys P is_shown (map_entries seen_of (entries r.files)) (keys_seen P (entries r.files) (read_live p))) in
        let given = given_names (view r).names (entries (view r).files) in
        key_unless P (is_named r sys_dir) (sys_dir, sys_dir_name) (unless (is_named r disk_descriptor) (disk_descriptor, descriptor_name) given) (root_lives p m)
        (key_unless P (is_named r disk_descriptor) (disk_descriptor, descriptor_name) given m.pages.descriptor_lives (keys_given P (view r).names (entries (view r).files) seen))

-- and so with the sector of its leader page
led_there : (p : Pack) (f : Fid) → lives (sights p) f ≡ true → place (sights p) f 0 ≡ Some (leader_sector (sights p) f)
led_there p f living = by (place (sights p) f 0) (sym (file_lives_in_a_place p f) ∙ living)
  where
    by : (o : Option ℕ) → is_some o ≡ true → o ≡ Some (option_map_or (λ at. at) o 0)
    by None some = absurd cc
    by (Some at) some = refl

all_led : (p q : Pack) → ((f : Fid) (n : ℕ) → place (sights q) f n ≡ place (sights p) f n) → (es : List (Fid × List ℕ)) → All (λ e. lives (sights p) e.0 ≡ true) es → All (IsLed q) (map (lacking_file p) es)
all_led p q places [] h = All-nil (IsLed q)
all_led p q places (e ∷ es) h =
    All-cons (IsLed q) (lacking_file p e) (map (lacking_file p) es) (places e.0 0 ∙ led_there p e.0 (All-head (λ (x : Fid × List ℕ). lives (sights p) x.0 ≡ true) e es h))
    (all_led p q places es (All-tail (λ (x : Fid × List ℕ). lives (sights p) x.0 ≡ true) e es h))

-- sector 0 is never free
none_first : (p : Pack) (k : ℕ) → k < 1 → is_free_at p k ≡ false
none_first p zero l = refl
none_first p (suc k) l = absurd (omega (arith, l))

-- ---- all of it
pub first_may_be_entered : {p q : Pack} {names : Catalogue} {rooms : Rooms} → PagesMended p → HoldsNames p names → UnkeptFreed p q tt → HasSlots rooms (root_items (mended_pack p))
    → MayBeEntered q (record { rooms = rooms; pages = names.root_pages; from = 1 }) (lacking_files p)
first_may_be_entered {p} {q} {names} {rooms} m holds freed has = record {
  scavengeable = freed.named.scavengeable;
  pages = freed.named.pages;
  tidy = freed.tidy;
  known = record {
    pages = λ n l. freed.places sys_dir (suc n) ∙ holds.pages n l;
    page_count = (let count = counted (place (sights p) sys_dir (suc (length (file_bytes (sights p) sys_dir) / 512))) refl (m.pages.last_pages sys_dir (root_lives p m)) in count ∙ ap (λ n. n / 256 + 1) (sym (root_ends p m) ∙ sym same ∙ root_ends q freed.named.pages));
    none_below = none_first q;
  };
  rooms = subst (HasRooms rooms) (sym freed.root ∙ tidy_mended_is_read q freed.named.pages freed.tidy sys_dir (root_lives q freed.named.pages) refl) has.rooms_are;
  lacking_are = freed.lacking_is ∙ sym (pairs_are p (lacking (mended_pack p)));
  led = all_led p q freed.places (lacking (mended_pack p)) (lacking_live p m);
}
  where
    same : all_words (slots (dir_words q sys_dir)) ≡ all_words (slots (dir_words p sys_dir))
    same = sym (root_words q freed.named.pages) ∙ ap all_words freed.root ∙ root_words p m

    slots_are : root_slots p ≡ slots (dir_words p sys_dir)
    slots_are = ap (λ b. cond b (slots (dir_words p sys_dir)) []) (root_lives p m)

    number : all_words (root_slots p) / 256 + 1 ≡ suc (length (file_bytes (sights p) sys_dir) / 512)
    number = (let half = length-words_of (file_bytes (sights p) sys_dir) in let all = ap all_words slots_are ∙ root_ends p m ∙ half in omega (arith, all))

    counted : (o : Option ℕ) → place (sights p) sys_dir (suc (length (file_bytes (sights p) sys_dir) / 512)) ≡ o → is_some o ≡ true → length names.root_pages ≡ length (dir_words p sys_dir) / 256 + 1
    counted None e some = absurd cc
    counted (Some at) e some =
        holds.page_count (root_lives p m) (m.pages.directories sys_dir (root_lives p m) refl) at (ap (place (sights p) sys_dir) number ∙ e)
        ∙ ap (λ n. n / 256 + 1) (ap all_words slots_are ∙ root_ends p m)
