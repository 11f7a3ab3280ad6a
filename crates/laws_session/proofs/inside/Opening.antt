-- A sound pack is ready to be entered if and only if its mark is clean.
use Rattle.std.proofs.Common.{◌≡◌, ◌⊎◌, ◌||◌, ◌==◌, Bool, true, false, cond, List, [], ◌∷◌, ◌++◌, Option, Some, None, inl, inr, refl, sym, subst, ◌∙◌, ap, eq-eqb}
use Rattle.std.specs.FinMap.{entries, get}
use Rattle.std.specs.List.{list_any}
use Rattle.std.specs.Option.{option_map, option_or}
use Rattle.laws_line.specs.alto_words.specs.declared.fid.Fid.{Fid}
use Rattle.laws_line.specs.alto_words.specs.Fid.{is_fid, sys_dir, disk_descriptor}
use Rattle.laws_line.specs.alto_words.specs.Names.{is_same_name}
use Rattle.laws_line.specs.disk_records.specs.Packs.{Pack, carried}
use Rattle.laws_line.specs.pack_laws.proofs.Keys.{same_fid}
use Rattle.laws_line.specs.pack_model.specs.hints.Misled.{leader_page}
use Rattle.laws_line.specs.pack_model.specs.reading.Bodies.{File, Files, body_items, items_in}
use Rattle.laws_line.specs.pack_model.specs.reading.Files.{carries_page, first}
use Rattle.laws_line.specs.pack_model.specs.reading.Model.{read_as, read_sights, dir_items}
use Rattle.laws_line.specs.pack_model.specs.reading.Namings.{Naming, AllKept, alike, body_namings, descriptor_name, fits, is_kept, is_own, keeps_system, may_stand, namings, namings_in}
use Rattle.laws_line.specs.pack_model.specs.reading.Sights.{sights}
use Rattle.laws_line.specs.pack_model.specs.reading.Slots.{Item}
use Rattle.laws_line.specs.pack_model.specs.reading.Slots.Item.{entry, space}
use Rattle.laws_line.specs.pack_model.specs.reading.Versions.{exact}
use Rattle.laws_line.specs.pack_model.specs.states.Sound.{mark_clean, mark_of}
use Rattle.laws_line.specs.pack_model.specs.states.Whole.{Tidy, Whole}
use Rattle.laws_line.specs.laws_record.proofs.Carried.{place_of_carried}
use Rattle.laws_line.specs.laws_record.proofs.Copying.{place_carried}
use Rattle.laws_line.specs.laws_record.proofs.Heads.{and_left, and_right}
use Rattle.laws_line.specs.laws_record.proofs.Tidying.{tidy_same}
use Rattle.laws_line.specs.laws_room.proofs.Each.{Each, each_entry}
use Rattle.laws_line.specs.laws_room.proofs.FreeRoom.{root_lives}
use Rattle.laws_line.specs.laws_operation.proofs.Dropped.{bodies_bare}
use Rattle.laws_line.specs.laws_operation.proofs.entries.Laws.{items_are_slots}
use Rattle.session_model.specs.Opening.{Unready, unless_so, is_root, is_descriptor, descriptor_entry, not_clean}
use Rattle.laws_session.specs.BeginLaws.{SoundPacksAreReady}

-- ---- what holds of each entry
abbrev EachNaming : (Naming → Type 0) → List Naming → Type 0
EachNaming P [] = Unit {0}
EachNaming P (n ∷ ns) = P n × EachNaming P ns

abbrev Keeps : Naming → Type 0
Keeps n = keeps_system n ≡ true

each_first : (P : Naming → Type 0) (a b : List Naming) → EachNaming P (a ++ b) → EachNaming P a
each_first P [] b h = tt
each_first P (n ∷ a) b h = (h.0, each_first P a b h.1)

each_second : (P : Naming → Type 0) (a b : List Naming) → EachNaming P (a ++ b) → EachNaming P b
each_second P [] b h = h
each_second P (n ∷ a) b h = each_second P a b h.1

-- kept entries keep the names of system files
all_keep : (lives : Fid → Bool) (before ns : List Naming) → AllKept (is_kept lives) before ns → EachNaming Keeps ns
all_keep lives before [] h = tt
all_keep lives before (n ∷ ns) h = (and_right _ (keeps_system n) (and_right (lives n.fid) (fits n) (and_left (may_stand lives n) _ h.0)), all_keep lives (n ∷ before) ns h.1)

any_either : (t : Naming → Bool) (a b : List Naming) → list_any t (a ++ b) ≡ true → (list_any t a ≡ true) ⊎ (list_any t b ≡ true)
any_either t [] b h = inr h
any_either t (n ∷ a) b h = by (t n) h (any_either t a b) where
  by : (c : Bool) → (c || list_any t (a ++ b)) ≡ true → (list_any t (a ++ b) ≡ true → (list_any t a ≡ true) ⊎ (list_any t b ≡ true)) → ((c || list_any t a) ≡ true) ⊎ (list_any t b ≡ true)
  by true h again = inl refl
  by false h again = again h

-- ---- the entry of DiskDescriptor
abbrev is_of : Naming → Bool
is_of n = is_fid n.fid disk_descriptor

-- of DiskDescriptor it is in SysDir under its name, and no other has its name there
owns : (n : Naming) → Keeps n → is_of n ≡ true → is_own descriptor_name n ≡ true
unfolding keeps_system
owns n h is = ap (λ b. alike b (is_own descriptor_name n)) (sym is) ∙ and_right (alike (is_fid n.fid sys_dir) _) _ h

owned : (n : Naming) → Keeps n → is_own descriptor_name n ≡ true → is_of n ≡ true
unfolding keeps_system
owned n h own = by (is_of n) (and_right (alike (is_fid n.fid sys_dir) _) _ h) where
  by : (b : Bool) → alike b (is_own descriptor_name n) ≡ true → b ≡ true
  by true e = refl
  by false e = cc

-- it is an entry of SysDir
in_root : (d : Fid) (is : List Item) → EachNaming Keeps (namings_in d is) → list_any is_of (namings_in d is) ≡ true → is_fid d sys_dir ≡ true
in_root d [] h some = cc
in_root d (space n ∷ is) h some = in_root d is h some
in_root d (entry f own ∷ is) h some = by (is_fid f disk_descriptor) refl some (in_root d is h.1) where
  by : (b : Bool) → is_fid f disk_descriptor ≡ b → (b || list_any is_of (namings_in d is)) ≡ true → (list_any is_of (namings_in d is) ≡ true → is_fid d sys_dir ≡ true) → is_fid d sys_dir ≡ true
  by true e s again = and_left (is_fid d sys_dir) _ (owns (record { dir = d; name = own; fid = f }) h.0 e)
  by false e s again = again s

-- and the first of its name
first_named : (is : List Item) → EachNaming Keeps (namings_in sys_dir is) → list_any is_of (namings_in sys_dir is) ≡ true → is_descriptor (option_map (λ e. e.0) (exact descriptor_name is)) ≡ true
first_named [] h some = cc
first_named (space n ∷ is) h some = first_named is h some
first_named (entry f own ∷ is) h some = by (is_same_name own descriptor_name) refl (is_fid f disk_descriptor) refl some (first_named is h.1) where
  by : (b : Bool) → is_same_name own descriptor_name ≡ b → (c : Bool) → is_fid f disk_descriptor ≡ c → (c || list_any is_of (namings_in sys_dir is)) ≡ true
      → (list_any is_of (namings_in sys_dir is) ≡ true → is_descriptor (option_map (λ e. e.0) (exact descriptor_name is)) ≡ true) → is_descriptor (option_map (λ e. e.0) (cond b (Some (f, own)) (exact descriptor_name is))) ≡ true
  by true e c k s again = owned (record { dir = sys_dir; name = own; fid = f }) h.0 e
  by false e true k s again = let both : true ≡ false = sym (owns (record { dir = sys_dir; name = own; fid = f }) h.0 k) ∙ e in absurd cc
  by false e false k s again = again s

-- SysDir's slots have it
record Stands (files : Files) : Type 0 where
  own : File
  there : get files sys_dir ≡ Some own
  keeps : EachNaming Keeps (namings_in sys_dir (body_items own.body))
  some : list_any is_of (namings_in sys_dir (body_items own.body)) ≡ true

stands : (files : Files) → EachNaming Keeps (namings (entries files)) → list_any is_of (namings (entries files)) ≡ true → Stands files
stands files keeps some = somewhere (entries files) (each_entry (λ k x. get files k ≡ Some x) files (λ k x is. is)) keeps some where
  somewhere : (es : List (Fid × File)) → Each (λ k x. get files k ≡ Some x) es → EachNaming Keeps (namings es) → list_any is_of (namings es) ≡ true → Stands files
  somewhere [] found keeps some = absurd cc
  somewhere (e ∷ es) found keeps some = by (any_either is_of (body_namings e.0 e.1.body) (namings es) some) (somewhere es found.1 (each_second Keeps (body_namings e.0 e.1.body) (namings es) keeps)) where
    by : (list_any is_of (body_namings e.0 e.1.body) ≡ true) ⊎ (list_any is_of (namings es) ≡ true) → (list_any is_of (namings es) ≡ true → Stands files) → Stands files
    by (inl here) again =
        let each = subst (EachNaming Keeps) (bodies_bare e.0 e.1.body) (each_first Keeps (body_namings e.0 e.1.body) (namings es) keeps) in
        let one = subst (λ ns. list_any is_of ns ≡ true) (bodies_bare e.0 e.1.body) here in
        let root : e.0 ≡ sys_dir = same_fid e.0 sys_dir (in_root e.0 (body_items e.1.body) each one) in
        record {
          own = e.1;
          there = subst (λ k. get files k ≡ Some e.1) root found.0;
          keeps = subst (λ k. EachNaming Keeps (namings_in k (body_items e.1.body))) root each;
          some = subst (λ k. list_any is_of (namings_in k (body_items e.1.body)) ≡ true) root one;
        }
    by (inr later) again = again later

entry_is : (p : Pack) → Whole p → Tidy p → is_descriptor (descriptor_entry p) ≡ true
unfolding read_sights
entry_is p whole tidy =
    let same = tidy_same _ _ tidy in
    let keeps : EachNaming Keeps (namings (entries (read_as p).files)) = subst (λ files. EachNaming Keeps (namings (entries files))) (sym same) (all_keep _ [] _ tidy) in
    let s = stands (read_as p).files keeps whole.descriptor_named in
    let items : dir_items (read_as p) sys_dir ≡ body_items s.own.body = ap items_in s.there in
    subst (λ is. is_descriptor (option_map (λ e. e.0) (exact descriptor_name is)) ≡ true) (sym items ∙ items_are_slots p sys_dir tidy (root_lives p.shape (sights p) whole) refl) (first_named (body_items s.own.body) s.keeps s.some)

-- ---- sector 1
root_carried : (p : Pack) → Whole p → carried p 1 ≡ Some (leader_page sys_dir)
root_carried p whole = place_carried p (leader_page sys_dir) 1 (place_of_carried (sights p) sys_dir (whole.files sys_dir) 0 1 (ap (carries_page sys_dir 0) whole.root.1))

-- ---- the tests, one after another
passed : (b : Bool) (u : Unready) (rest : Option Unready) → b ≡ true → option_or (unless_so b u) rest ≡ rest
passed true u rest e = refl
passed false u rest e = cc

last_test : (b : Bool) (u : Unready) → option_or (unless_so b u) None ≡ unless_so b u
last_test true u = refl
last_test false u = refl

pub sound_packs_are_ready : SoundPacksAreReady
unfolding first
sound_packs_are_ready p sound =
    let whole = sound.whole in
    let says = whole.descriptor_fits.says in
    passed _ _ _ (ap is_root (root_carried p whole))
    ∙ passed _ _ _ (entry_is p whole sound.tidy)
    ∙ passed _ _ _ (eq-eqb _ _ whole.descriptor_fits.size)
    ∙ passed _ _ _ (eq-eqb _ _ says.disks)
    ∙ passed _ _ _ (eq-eqb _ _ says.cylinders)
    ∙ passed _ _ _ (eq-eqb _ _ says.heads)
    ∙ passed _ _ _ (eq-eqb _ _ says.sectors)
    ∙ passed _ _ _ (eq-eqb _ _ says.table)
    ∙ last_test (mark_of (sights p) == mark_clean) (not_clean (mark_of (sights p)))
