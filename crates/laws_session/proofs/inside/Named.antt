-- Files that names and serials mean on a sound pack: they live, and the entries are there.
use Rattle.std.proofs.Common.{◌≡◌, ◌⊎◌, ℕ, ◌==◌, ◌&&◌, ◌||◌, Bool, true, false, cond, nat_lt, List, [], ◌∷◌, ◌++◌, Option, Some, None, inl, inr, map, refl, sym, subst, ◌∙◌, ap}
use Rattle.std.specs.FinMap.{entries, get}
use Rattle.std.specs.List.{list_any}
use Rattle.std.specs.Option.{is_some, option_map, option_or, unwrap_or}
use Rattle.laws_line.specs.alto_words.specs.declared.fid.Fid.{Fid}
use Rattle.laws_line.specs.alto_words.specs.declared.wanted.Wanted.{Wanted}
use Rattle.laws_line.specs.alto_words.specs.declared.wanted.Wanted.TheVariants.{Exact, Newest}
use Rattle.laws_line.specs.alto_words.specs.Fid.{disk_descriptor, is_fid, serial_of, sys_dir}
use Rattle.laws_line.specs.alto_words.specs.Names.{fold_case, is_same_name, version_of}
use Rattle.laws_line.specs.disk_records.specs.Packs.{Pack}
use Rattle.laws_line.specs.pack_model.specs.reading.Bodies.{Body, File, items_in}
use Rattle.laws_line.specs.pack_model.specs.reading.Bodies.Body.{data_of, items_of}
use Rattle.laws_line.specs.pack_model.specs.reading.Files.{first, lives}
use Rattle.laws_line.specs.pack_model.specs.reading.Leaders.{Leader}
use Rattle.laws_line.specs.pack_model.specs.reading.Model.{Model, dir_items, is_named, read_as, root_items}
use Rattle.laws_line.specs.pack_model.specs.reading.Namings.{Naming, clashes, namings, namings_in}
use Rattle.laws_line.specs.pack_model.specs.reading.Sights.{sights}
use Rattle.laws_line.specs.pack_model.specs.reading.Slots.{Item}
use Rattle.laws_line.specs.pack_model.specs.reading.Slots.Item.{entry, space}
use Rattle.laws_line.specs.pack_model.specs.reading.Versions.{Entered, entry_wanted, exact, has_base, newest_from, version_found}
use Rattle.laws_line.specs.pack_model.specs.states.Whole.{Whole}
use Rattle.laws_line.specs.pack_laws.proofs.Keys.{is_fid-itself, same_fid}
use Rattle.laws_line.specs.laws_record.proofs.DirReads.{insert_same}
use Rattle.laws_line.specs.laws_record.proofs.DirSteps.{apart_before}
use Rattle.laws_line.specs.laws_record.proofs.Entered.{directory, spot}
use Rattle.laws_line.specs.laws_record.proofs.Fitting.{same_equiv, same_sym}
use Rattle.laws_line.specs.laws_record.proofs.Tidying.{or_false, or_false_left, or_false_right}
use Rattle.laws_line.specs.laws_operation.proofs.entries.Laws.{entries_name_living_files, read_entries_are_kept}
use Rattle.laws_line.specs.laws_operation.proofs.places.Laws.{model_has_the_living}
use Rattle.laws_line.specs.laws_room.proofs.Each.{Each, each_entry}
use Rattle.laws_line.specs.laws_room.proofs.FreeRoom.{root_lives}
use Rattle.laws_line.specs.LineLaws.{IsEntered}
use Rattle.session_model.specs.exec_words.specs.declared.line.Path.{Path}
use Rattle.session_model.specs.exec_words.specs.declared.line.Target.{Target}
use Rattle.session_model.specs.exec_words.specs.declared.line.Target.TheVariants.{ByPath, BySerial}
use Rattle.session_model.specs.Finding.{dir_of, entry_in, fid_of, file_at, own_name}

-- ---- an entry among slots
-- The slots with this entry among them.
pub record Among (f : Fid) (own : List ℕ) (is : List Item) : Type 0 where
  pub before : List Item
  pub behind : List Item
  pub are : is ≡ before ++ entry f own ∷ behind

one_more : {f : Fid} {own : List ℕ} {is : List Item} (i : Item) → Among f own is → Among f own (i ∷ is)
one_more i a = record { before = i ∷ a.before; behind = a.behind; are = ap (λ r. i ∷ r) a.are }

same_pair : {g f : Fid} {other own : List ℕ} → ◌≡◌ {A = Option Entered} (Some (g, other)) (Some (f, own)) → ◌≡◌ {A = Entered} (g, other) (f, own)
same_pair e = cc

here_among : (g f : Fid) (other own : List ℕ) (is : List Item) → ◌≡◌ {A = Entered} (g, other) (f, own) → Among f own (entry g other ∷ is)
here_among g f other own is same = record { before = []; behind = is; are = ap (λ (x : Entered). entry x.0 x.1 ∷ is) same }

exact_among : (name : List ℕ) (is : List Item) (f : Fid) (own : List ℕ) → exact name is ≡ Some (f, own) → Among f own is
exact_among name [] f own e = absurd (let n : None ≡ Some (f, own) = e in cc)
exact_among name (space n ∷ is) f own e = one_more (space n) (exact_among name is f own e)
exact_among name (entry g other ∷ is) f own e = by (is_same_name other name) e (λ k. exact_among name is f own k)
  where
    by : (b : Bool) → cond b (Some (g, other)) (exact name is) ≡ Some (f, own) → (exact name is ≡ Some (f, own) → Among f own is) → Among f own (entry g other ∷ is)
    by true k more = here_among g f other own is (same_pair k)
    by false k more = one_more (entry g other) (more k)

-- one that was found before, or one among the slots
newest_among : (base : List ℕ) (best : Option Entered) (is : List Item) (f : Fid) (own : List ℕ) → newest_from base best is ≡ Some (f, own) → (best ≡ Some (f, own)) ⊎ Among f own is
newest_among base best [] f own e = inl e
newest_among base best (space n ∷ is) f own e = further (newest_among base best is f own e)
  where
    further : (best ≡ Some (f, own)) ⊎ Among f own is → (best ≡ Some (f, own)) ⊎ Among f own (space n ∷ is)
    further (inl found) = inl found
    further (inr a) = inr (one_more (space n) a)
newest_among base best (entry g other ∷ is) f own e = by (has_base base other && nat_lt (version_found best) (version_of other)) e (λ b k. newest_among base b is f own k)
  where
    by : (b : Bool) → newest_from base (cond b (Some (g, other)) best) is ≡ Some (f, own) → ((b : Option Entered) → newest_from base b is ≡ Some (f, own) → (b ≡ Some (f, own)) ⊎ Among f own is) → (best ≡ Some (f, own)) ⊎ Among f own (entry g other ∷ is)
    by false k more = further (more best k)
      where
        further : (best ≡ Some (f, own)) ⊎ Among f own is → (best ≡ Some (f, own)) ⊎ Among f own (entry g other ∷ is)
        further (inl found) = inl found
        further (inr a) = inr (one_more (entry g other) a)
    by true k more = further (more (Some (g, other)) k)
      where
        further : (◌≡◌ {A = Option Entered} (Some (g, other)) (Some (f, own))) ⊎ Among f own is → (best ≡ Some (f, own)) ⊎ Among f own (entry g other ∷ is)
        further (inl found) = inr (here_among g f other own is (same_pair found))
        further (inr a) = inr (one_more (entry g other) a)

pub wanted_among : (w : Wanted) (is : List Item) (f : Fid) (own : List ℕ) → entry_wanted w is ≡ Some (f, own) → Among f own is
wanted_among (Exact name) is f own e = exact_among name is f own e
wanted_among (Newest base) is f own e = by (newest_among base None is f own e)
  where
    by : (◌≡◌ {A = Option Entered} None (Some (f, own))) ⊎ Among f own is → Among f own is
    by (inl found) = absurd (let n : ◌≡◌ {A = Option Entered} None (Some (f, own)) = found in cc)
    by (inr a) = a

-- ---- an entry of a model
-- a file with slots among which there is an entry is a directory
record IsThere (r : Option File) (is : List Item) : Type 0 where
  lead : Leader
  here : r ≡ Some (directory lead is)

not_none : (a b : List Item) (f : Fid) (own : List ℕ) → [] ≡ a ++ entry f own ∷ b → ⊥
not_none [] b f own e = cc
not_none (i ∷ a) b f own e = cc

is_there : (r : Option File) (a b : List Item) (f : Fid) (own : List ℕ) → items_in r ≡ a ++ entry f own ∷ b → IsThere r (a ++ entry f own ∷ b)
is_there None a b f own e = absurd (not_none a b f own e)
is_there (Some x) a b f own e = by x.body e
  where
    by : (y : Body) → items_in (Some (record { leader = x.leader; body = y })) ≡ a ++ entry f own ∷ b → IsThere (Some (record { leader = x.leader; body = y })) (a ++ entry f own ∷ b)
    by (data_of bytes) k = absurd (not_none a b f own k)
    by (items_of is) k = record { lead = x.leader; here = ap (λ js. Some (directory x.leader js)) k }

any_among : (f : Fid) (a b : List Naming) (e : Naming) → is_fid e.fid f ≡ true → list_any (λ n. is_fid n.fid f) (a ++ e ∷ b) ≡ true
any_among f [] b e is = ap (λ t. t || list_any (λ n. is_fid n.fid f) b) is
any_among f (n ∷ a) b e is = by (is_fid n.fid f) (any_among f a b e is)
  where
    by : (t : Bool) → list_any (λ n. is_fid n.fid f) (a ++ e ∷ b) ≡ true → (t || list_any (λ n. is_fid n.fid f) (a ++ e ∷ b)) ≡ true
    by true more = refl
    by false more = more

-- no clash with those before, so that none of them has the name
none_same : (d f : Fid) (own : List ℕ) (a : List Item) → list_any (clashes (record { dir = d; name = own; fid = f })) (namings_in d a) ≡ false → list_any (λ e. is_same_name e.name own) (namings_in d a) ≡ false
none_same d f own [] h = refl
none_same d f own (space n ∷ a) h = none_same d f own a h
none_same d f own (entry g other ∷ a) h =
    let x : Naming = record { dir = d; name = own; fid = f } in
    let y : Naming = record { dir = d; name = other; fid = g } in
    let apart : (is_fid d d && is_same_name own other) ≡ false = or_false_right (is_fid f g) (is_fid d d && is_same_name own other) (or_false_left (clashes x y) (list_any (clashes x) (namings_in d a)) h) in
    let other_is : is_same_name other own ≡ false = same_sym other own ∙ sym (ap (λ t. t && is_same_name own other) (is_fid-itself d)) ∙ apart in
    or_false (is_same_name other own) (list_any (λ e. is_same_name e.name own) (namings_in d a)) other_is (none_same d f own a (or_false_right (clashes x y) (list_any (clashes x) (namings_in d a)) h))

module _ (p : Pack) (d f : Fid) (own : List ℕ) (h : Among f own (dir_items (read_as p) d)) where
  abbrev m : Model
  m = read_as p

  there : IsThere (get m.files d) (h.before ++ entry f own ∷ h.behind)
  there = is_there (get m.files d) h.before h.behind f own h.are

  -- so the file has a name
  named : is_named m f ≡ true
  named =
      let s = spot m.files d there.lead (h.before ++ entry f own ∷ h.behind) h.before h.behind there.here in
      ap (λ files. list_any (λ n. is_fid n.fid f) (namings (entries files))) (sym (insert_same m.files d (directory there.lead (h.before ++ entry f own ∷ h.behind)) there.here))
      ∙ ap (list_any (λ n. is_fid n.fid f)) (s.with f own)
      ∙ any_among f s.before s.later (record { dir = d; name = own; fid = f }) (is_fid-itself f)

  -- and lives
  pub entry_lives : lives (sights p) f ≡ true
  entry_lives = by (lives (sights p) f) refl
    where
      by : (b : Bool) → lives (sights p) f ≡ b → lives (sights p) f ≡ true
      by true e = e
      by false e = absurd (let clash : true ≡ false = sym named ∙ entries_name_living_files p f e in cc)

  -- no entry before it has its name
  pub entry_first : IsEntered m d own f
  entry_first = record {
    before = h.before;
    own = own;
    behind = h.behind;
    items_are = h.are;
    same = same_equiv.refl (map fold_case own);
    first = none_same d f own h.before (apart_before (lives (sights p)) m.files d there.lead h.before h.behind f own (read_entries_are_kept p) there.here);
  }

-- ---- directories
-- the one of this name is there
pub dir_lives : (p : Pack) (name : Option (List ℕ)) (d : Fid) → Whole p → dir_of (read_as p) name ≡ Some d → lives (sights p) d ≡ true
dir_lives p None d whole e =
    let same : sys_dir ≡ d = cc in
    subst (λ k. lives (sights p) k ≡ true) same (root_lives p.shape (sights p) whole)
dir_lives p (Some name) d whole e = by (exact name (root_items (read_as p))) refl e
  where
    by : (r : Option Entered) → exact name (root_items (read_as p)) ≡ r → fid_of r ≡ Some d → lives (sights p) d ≡ true
    by None is k = absurd (let n : None ≡ Some d = k in cc)
    by (Some x) is k =
        let same : x.0 ≡ d = cc in
        subst (λ g. lives (sights p) g ≡ true) same (entry_lives p sys_dir x.0 x.1 (exact_among name (root_items (read_as p)) x.0 x.1 is))

-- ---- files
-- the name of an entry that was found
abbrev name_in : Option Entered → List ℕ
name_in r = unwrap_or (option_map (λ e. e.1) r) []

-- The entry that a path means.
pub record Meant (m : Model) (path : Path) (f : Fid) : Type 0 where
  pub dir : Fid
  pub dir_is : dir_of m path.dir ≡ Some dir
  pub own : List ℕ
  pub is : entry_wanted path.wanted (dir_items m dir) ≡ Some (f, own)
  pub own_is : own_name m path ≡ own

pub meant : (m : Model) (path : Path) (f : Fid) → file_at m (ByPath path) ≡ Some f → Meant m path f
meant m path f e = by (dir_of m path.dir) refl e
  where
    by : (r : Option Fid) → dir_of m path.dir ≡ r → fid_of (entry_in m path r) ≡ Some f → Meant m path f
    by None is k = absurd (let n : None ≡ Some f = k in cc)
    by (Some d) is k = found (entry_wanted path.wanted (dir_items m d)) refl k
      where
        found : (x : Option Entered) → entry_wanted path.wanted (dir_items m d) ≡ x → fid_of x ≡ Some f → Meant m path f
        found None q j = absurd (let n : None ≡ Some f = j in cc)
        found (Some x) q j =
            let same : x.0 ≡ f = cc in
            record { dir = d; dir_is = is; own = x.1; is = q ∙ ap (λ g. Some (g, x.1)) same; own_is = ap (λ r. name_in (entry_in m path r)) is ∙ ap name_in q }

-- a living file of the model, or DiskDescriptor
key_lives : (p : Pack) → Whole p → (f : Fid) (x : File) → get (read_as p).files f ≡ Some x → lives (sights p) f ≡ true
key_lives p whole f x e = by (is_fid f disk_descriptor) refl
  where
    by : (b : Bool) → is_fid f disk_descriptor ≡ b → lives (sights p) f ≡ true
    by true is = ap (lives (sights p)) (same_fid f disk_descriptor is) ∙ whole.descriptor_lives
    by false is = sym (model_has_the_living p f is) ∙ ap is_some e

serial_among : (n : ℕ) (p : Pack) (es : List (Fid × File)) (f : Fid) → Each (λ g x. lives (sights p) g ≡ true) es → first (λ e. cond (serial_of e.0 == n) (Some e.0) None) es ≡ Some f → lives (sights p) f ≡ true
unfolding first
serial_among n p [] f all e = absurd (let x : None ≡ Some f = e in cc)
serial_among n p (x ∷ es) f all e = by (serial_of x.0 == n) e (serial_among n p es f all.1)
  where
    by : (b : Bool) → option_or (cond b (Some x.0) None) (first (λ e. cond (serial_of e.0 == n) (Some e.0) None) es) ≡ Some f → (first (λ e. cond (serial_of e.0 == n) (Some e.0) None) es ≡ Some f → lives (sights p) f ≡ true) → lives (sights p) f ≡ true
    by true k more = let same : x.0 ≡ f = cc in subst (λ g. lives (sights p) g ≡ true) same all.0
    by false k more = more k

-- what an operand means lives
pub meant_lives : (p : Pack) (target : Target) (f : Fid) → Whole p → file_at (read_as p) target ≡ Some f → lives (sights p) f ≡ true
meant_lives p (ByPath path) f whole e =
    let k = meant (read_as p) path f e in
    entry_lives p k.dir f k.own (wanted_among path.wanted (dir_items (read_as p) k.dir) f k.own k.is)
meant_lives p (BySerial n) f whole e = by (n == serial_of disk_descriptor) e
  where
    by : (b : Bool) → cond b (Some disk_descriptor) (first (λ e. cond (serial_of e.0 == n) (Some e.0) None) (entries (read_as p).files)) ≡ Some f → lives (sights p) f ≡ true
    by true k = let same : disk_descriptor ≡ f = cc in subst (λ g. lives (sights p) g ≡ true) same whole.descriptor_lives
    by false k = serial_among n p (entries (read_as p).files) f (each_entry (λ g x. lives (sights p) g ≡ true) (read_as p).files (key_lives p whole)) k
