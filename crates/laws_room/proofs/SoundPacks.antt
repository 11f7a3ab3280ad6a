-- A sound pack needs nothing: no page lacks, and each file has an entry.
use Rattle.std.proofs.Common.{◌∙◌, ◌∷◌, ◌≡◌, ◌||◌, Bool, List, None, Option, Some, [], ap, arith, cond, false, not, refl, sym, true, ℕ}
use Rattle.std.specs.FinMap.{FinMap, contains_key, entries, find, get, get-from_entries, retain_keys}
use Rattle.std.specs.List.{list_any}
use Rattle.std.specs.Option.{is_some, option_map}
use Rattle.laws_operation.specs.alto_words.specs.Fid.{disk_descriptor, fid_cmp, is_fid, is_system, sys_dir}
use Rattle.laws_operation.specs.alto_words.specs.declared.fid.Fid.{Fid}
use Rattle.laws_operation.specs.disk_records.specs.Packs.{Pack}
use Rattle.laws_operation.specs.disk_records.specs.declared.shape.Shape.{Shape}
use Rattle.laws_operation.specs.pack_model.specs.reading.Bodies.{File, described, found, is_described}
use Rattle.laws_operation.specs.pack_model.specs.reading.Files.{file_bytes, leader, lives}
use Rattle.laws_operation.specs.pack_model.specs.reading.Leaders.{Leader}
use Rattle.laws_operation.specs.pack_model.specs.sessions.Maps.{map_values}
use Rattle.laws_operation.specs.pack_model.specs.scavenger.Mended.{lacking, mended, widens}
use Rattle.laws_operation.specs.pack_model.specs.reading.Model.{IsNamed, Model, descriptor_pages, read_as, read_sights, root_items}
use Rattle.laws_operation.specs.pack_model.specs.reading.Namings.{Naming, descriptor_name, namings, sys_dir_name}
use Rattle.laws_operation.specs.pack_model.specs.scavenger.Needed.{needed}
use Rattle.laws_operation.specs.pack_model.specs.scavenger.Scavenging.{root_stands}
use Rattle.laws_operation.specs.pack_model.specs.showing.Settling.{chosen, given, given_names, unless}
use Rattle.laws_operation.specs.pack_model.specs.reading.Sights.{Sight, sights}
use Rattle.laws_operation.specs.pack_model.specs.reading.Slots.{Item}
use Rattle.laws_operation.specs.pack_model.specs.showing.View.{Home, Seen, homes, names_of, seen_of, view}
use Rattle.laws_operation.specs.pack_model.specs.states.Whole.{Whole, WholeSights}
use Rattle.laws_operation.specs.pack_laws.proofs.Keys.{fid_same, fid_total, is_fid-sym}
use Rattle.laws_operation.specs.pack_laws.proofs.Mapping.{get-map_values}
use Rattle.laws_record.proofs.DirReads.{has_leader}
use Rattle.laws_record.proofs.Keeping.{get-where}
use Rattle.laws_record.proofs.Mending.{get-seen}
use Rattle.laws_record.proofs.Reading.{get-found, read_file}
use Rattle.laws_room.proofs.Each.{Each, each_entry}
use Rattle.laws_room.proofs.FreeRoom.{root_lives}
use Rattle.laws_room.proofs.SystemFiles.{lacking_read}
use Rattle.laws_room.proofs.inside.WholeFiles.{files_complete}
use Rattle.laws_room.specs.RoomLaws.{SoundNeedsNothing}

-- ---- names
-- where each file has a name none is given
none_given : (names : FinMap fid_cmp Home) (es : List (Fid × Seen)) → Each (λ f x. contains_key names f ≡ true) es → given_names names es ≡ []
none_given names [] h = refl
none_given names (e ∷ es) h = ap (λ c. unless c (e.0, chosen names e.1.leader.name) (given_names (cond c names (given names e.0 e.1)) es)) h.0 ∙ none_given names es h.1

-- a file that an entry names has a home
pub named_find : (f : Fid) (ns : List Naming) → list_any (λ n. is_fid n.fid f) ns ≡ true → is_some (find fid_cmp f (homes ns)) ≡ true
named_find f [] e = absurd cc
named_find f (n ∷ ns) e = by (named_find f ns) (is_fid n.fid f) refl e
  where
    by : (list_any (λ n. is_fid n.fid f) ns ≡ true → is_some (find fid_cmp f (homes ns)) ≡ true) → (b : Bool) → is_fid n.fid f ≡ b → (b || list_any (λ n. is_fid n.fid f) ns) ≡ true → is_some (find fid_cmp f (homes (n ∷ ns))) ≡ true
    by again true q e = ap (λ c. is_some (cond c (Some (record { dir = n.dir; name = n.name })) (find fid_cmp f (homes ns)))) (is_fid-sym f n.fid ∙ q)
    by again false q e = ap (λ c. is_some (cond c (Some (record { dir = n.dir; name = n.name })) (find fid_cmp f (homes ns)))) (is_fid-sym f n.fid ∙ q) ∙ again e

-- a file of the model lives
pub model_lives : (shape : Shape) (ss : List Sight) (f : Fid) → is_some (get (read_sights shape ss).files f) ≡ true → lives ss f ≡ true
unfolding read_sights
model_lives shape ss f there = by (leader ss f) refl
  where
    kept : (x y : Option File) → option_map (seen_of f) x ≡ option_map (seen_of f) y → is_some x ≡ is_some y
    kept None None e = refl
    kept None (Some y) e = cc
    kept (Some x) None e = cc
    kept (Some x) (Some y) e = refl

    none : (b : Bool) → cond {A = Option File} b None None ≡ None
    none true = refl
    none false = refl

    by : (r : Option Leader) → leader ss f ≡ r → is_some (leader ss f) ≡ true
    by (Some l) e = ap is_some e
    by None e =
        let gone : get (described ss) f ≡ None = get-where (found ss) is_described f ∙ ap (λ r. cond (is_described f) r None) (get-found ss f ∙ ap (option_map (read_file f (file_bytes ss f))) e) ∙ none (is_described f) in
        absurd (let n : true ≡ false = sym there ∙ kept _ _ (get-seen (lives ss) (described ss) f) ∙ ap is_some gone in cc)

-- a file that is shown is one of the model
map_some : {X Y : Type 0} (g : X → Y) (r : Option X) (y : Y) → option_map g r ≡ Some y → is_some r ≡ true
map_some g None y e = cc
map_some g (Some x) y e = refl

-- where each file has an entry, each that is shown has a name
pub names_all : (m : Model) → ((f : Fid) → is_some (get m.files f) ≡ true → IsNamed m f) → (f : Fid) (x : Seen) → get (view m).files f ≡ Some x → contains_key (view m).names f ≡ true
unfolding view
names_all m named f x is = by (is_system f) refl (sym (get-where (map_values seen_of m.files) (λ f. not (is_system f)) f) ∙ is)
  where
    by : (b : Bool) → is_system f ≡ b → cond (not b) (get (map_values {R = fid_cmp} seen_of m.files) f) None ≡ Some x → is_some (get (retain_keys (names_of m.files) (λ f. not (is_system f))) f) ≡ true
    by true e q = absurd (let n : None ≡ Some x = q in cc)
    by false e q =
        ap is_some (get-where (names_of m.files) (λ f. not (is_system f)) f ∙ ap (λ b. cond (not b) (get (names_of m.files) f) None) e ∙ get-from_entries fid_total (homes (namings (entries m.files))) f)
        ∙ named_find f (namings (entries m.files)) (named f (map_some (seen_of f) (get m.files f) x (sym (get-map_values fid_total fid_same seen_of m.files f) ∙ q)))

-- so nothing is lacking
none_lacking : (shape : Shape) (ss : List Sight) → WholeSights shape ss → ((f : Fid) → lives ss f ≡ true → IsNamed (read_sights shape ss) f) → lacking (read_sights shape ss) ≡ []
unfolding lacking
none_lacking shape ss w named =
    let m : Model = read_sights shape ss in
    ap (λ b. unless b (sys_dir, sys_dir_name) (unless (list_any (λ n. is_fid n.fid disk_descriptor) (namings (entries m.files))) (disk_descriptor, descriptor_name) (given_names (view m).names (entries (view m).files)))) w.root_named
    ∙ ap (λ b. unless b (disk_descriptor, descriptor_name) (given_names (view m).names (entries (view m).files))) w.descriptor_named
    ∙ none_given (view m).names (entries (view m).files) (each_entry (λ f x. contains_key (view m).names f ≡ true) (view m).files (names_all m (λ f there. named f (model_lives shape ss f there))))

-- no entry needs no page
pub no_widening : (is : List Item) → widens is [] ≡ 0
unfolding widens
no_widening is = refl

-- ---- the law
pub needs_nothing : (p : Pack) → Whole p → ((f : Fid) → lives (sights p) f ≡ true → IsNamed (read_as p) f) → needed p.shape (sights p) ≡ 0
unfolding needed
needs_nothing p w named =
    let shape : Shape = p.shape in
    let ss : List Sight = sights p in
    let lead = has_leader ss sys_dir (root_lives shape ss w) in
    let complete = files_complete p w in
    let root : ◌≡◌ {A = ℕ} (cond {A = ℕ} (lives ss sys_dir) 0 2) 0 = ap (λ b. cond {A = ℕ} b 0 2) (root_lives shape ss w) in
    let own : ◌≡◌ {A = ℕ} (cond {A = ℕ} (lives ss disk_descriptor) 0 (descriptor_pages shape)) 0 = ap (λ b. cond {A = ℕ} b 0 (descriptor_pages shape)) w.descriptor_lives in
    let wide : widens (root_items (mended shape ss)) (lacking (mended shape ss)) ≡ 0 = ap (widens (root_items (mended shape ss))) (lacking_read shape ss lead.0 lead.1 w.descriptor_lives ∙ none_lacking shape ss w named) ∙ no_widening (root_items (mended shape ss)) in
    omega arith

-- and it is scavengeable
pub sound_needs_nothing : SoundNeedsNothing
sound_needs_nothing p s =
    let none = needs_nothing p s.whole s.named in
    (none, record { root = ap (root_stands p.shape (sights p)) s.whole.root.1; room = omega arith })
