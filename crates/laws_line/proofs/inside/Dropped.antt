-- A file goes, and its entry with it: the others keep their names.
use Rattle.std.proofs.Common.{Bool, List, None, Option, Some, [], ap, arith, cond, false, inl, length, refl, subst, sym, true, ◌||◌, ◌∙◌, ◌∷◌, ◌≡◌, ◌≤◌}
use Rattle.std.proofs.lemmas.List.Elements.{All-cons, All-head, All-tail}
use Rattle.std.specs.FinMap.{entries, get, get-remove, remove, same_map}
use Rattle.std.specs.List.{list_any}
use Rattle.std.specs.Option.{is_some, option_map}
use Rattle.std.specs.Prelude.{All}
use Rattle.laws_room.specs.alto_words.specs.Fid.{disk_descriptor, is_fid, sys_dir}
use Rattle.laws_room.specs.alto_words.specs.declared.fid.Fid.{Fid}
use Rattle.laws_line.proofs.inside.Mentions.{Mentioned, mentioned, mentions, named_there}
use Rattle.laws_line.proofs.inside.Runs.{IsShort}
use Rattle.laws_line.proofs.inside.Throughout.{settled_ready}
use Rattle.laws_line.specs.LineLaws.{DropLeavesRoom, MayGo}
use Rattle.laws_line.specs.Ready.{Ready, Settled}
use Rattle.laws_room.specs.pack_laws.proofs.Keys.{fid_same, fid_total, is_fid-sym, same_fid}
use Rattle.laws_room.specs.pack_laws.proofs.Mapping.{entries-map_values, get-map_values}
use Rattle.pack_model.specs.reading.Bodies.{Body, File, Files, body_items, items_in}
use Rattle.pack_model.specs.reading.Bodies.Body.{data_of, items_of}
use Rattle.pack_model.specs.sessions.Maps.{map_values}
use Rattle.pack_model.specs.reading.Model.{IsNamed, Model, dir_items, files_pages}
use Rattle.pack_model.specs.reading.Namings.{namings_in}
use Rattle.pack_model.specs.reading.Slots.{Item, item_words}
use Rattle.pack_model.specs.reading.Slots.Item.{entry, space}
use Rattle.pack_model.specs.operations.Step.{body_without, file_without, item_without, items_without, step}
use Rattle.pack_model.specs.operations.Step.Operation.{drop_file}
use Rattle.laws_room.proofs.FilesPages.{gone_pages}
use Rattle.laws_room.proofs.Stepping.{item_kept, without_pages}
use Rattle.laws_room.specs.laws_record.proofs.Tidying.{or_false_left, or_false_right}

-- ---- slots without the entries of the file
-- each has its words
pub short_kept : (f : Fid) (is : List Item) → All IsShort is → All IsShort (items_without f is)
short_kept f [] h = h
short_kept f (i ∷ is) h =
    let s : IsShort i = All-head IsShort i is h in
    let k = item_kept f i in
    All-cons IsShort (item_without f i) (items_without f is) (omega arith) (short_kept f is (All-tail IsShort i is h))

-- and the others are still there
others_kept : (f q d : Fid) (is : List Item) → is_fid f q ≡ false → mentions q d (items_without f is) ≡ mentions q d is
others_kept f q d [] other = refl
others_kept f q d (space n ∷ is) other = others_kept f q d is other
others_kept f q d (entry g name ∷ is) other = by (is_fid g f) refl (others_kept f q d is other)
  where
    by : (b : Bool) → is_fid g f ≡ b → mentions q d (items_without f is) ≡ mentions q d is → mentions q d (cond b (space (item_words (entry g name))) (entry g name) ∷ items_without f is) ≡ (is_fid g q || mentions q d is)
    by true e again = again ∙ ap (λ c. c || mentions q d is) (sym (ap (λ k. is_fid k q) (same_fid g f e) ∙ other))
    by false e again = ap (λ c. is_fid g q || c) again

-- ---- all files
-- a file that isn't there
none_gone : (files : Files) (f : Fid) → get files f ≡ None → remove files f ≡ files
none_gone files f none = same_map fid_total fid_same _ _ (λ g. get-remove fid_total files f g ∙ at g)
  where
    at : (g : Fid) → cond (is_fid g f) None (get files g) ≡ get files g
    at g = elim (is_fid g f) as (λ b. is_fid g f ≡ b → cond b None (get files g) ≡ get files g) [
      | true ↦ λ e. sym (ap (get files) (same_fid g f e) ∙ none)
      | false ↦ λ e. refl
    ] refl

module _ (m : Model) (f : Fid) (s : Settled m) (h : MayGo m f) where
  -- the files then
  abbrev pub now : Files
  now = map_values (file_without f) (remove m.files f)

  -- a look-up
  got : (q : Fid) → get now q ≡ option_map (file_without f q) (cond (is_fid q f) None (get m.files q))
  got q = get-map_values fid_total fid_same (file_without f) (remove m.files f) q ∙ ap (option_map (file_without f q)) (get-remove fid_total m.files f q)

  -- of another file
  pub got_other : (q : Fid) → is_fid q f ≡ false → get now q ≡ option_map (file_without f q) (get m.files q)
  got_other q e = got q ∙ ap (λ b. option_map (file_without f q) (cond b None (get m.files q))) e

  -- no more pages
  fewer : files_pages (entries now) ≤ files_pages (entries m.files)
  fewer = by (get m.files f) refl
    where
      pages : files_pages (entries now) ≡ files_pages (entries (remove m.files f))
      pages = ap files_pages (entries-map_values fid_total fid_same (file_without f) (remove m.files f)) ∙ without_pages f (entries (remove m.files f))

      by : (r : Option File) → get m.files f ≡ r → files_pages (entries now) ≤ files_pages (entries m.files)
      by None e = let n = pages in let b = ap (λ fs. files_pages (entries fs)) (none_gone m.files f e) in omega arith
      by (Some x) e =
          let n = pages in
          let p = gone_pages m.files f x e in
          omega arith

  -- What is known of a file that is there then.
  pub record Stays (q : Fid) (y : File) : Type 0 where
    pub other : is_fid q f ≡ false
    pub own : File
    pub there : get m.files q ≡ Some own
    pub same : file_without f q own ≡ y

  pub stays : (q : Fid) (y : File) → get now q ≡ Some y → Stays q y
  stays q y is = by (is_fid q f) refl (get m.files q) refl (sym (got q) ∙ is)
    where
      by : (b : Bool) → is_fid q f ≡ b → (r : Option File) → get m.files q ≡ r → option_map (file_without f q) (cond b None r) ≡ Some y → Stays q y
      by true e r g is = absurd cc
      by false e None g is = absurd cc
      by false e (Some x) g is = record { other = e; own = x; there = g; same = cc }

  -- SysDir isn't the file
  pub root_other : is_fid sys_dir f ≡ false
  root_other = is_fid-sym sys_dir f ∙ or_false_left (is_fid f sys_dir) (is_fid f disk_descriptor) h.no_system

  -- its slots are slots
  root_short : All IsShort (items_in (get now sys_dir))
  root_short = subst (λ r. All IsShort (items_in r)) (sym (got_other sys_dir root_other)) (by (get m.files sys_dir) s.fitting.slots)
    where
      by : (r : Option File) → All IsShort (items_in r) → All IsShort (items_in (option_map (file_without f sys_dir) r))
      by None k = k
      by (Some x) k = body x.body k
        where
          body : (b : Body) → All IsShort (body_items b) → All IsShort (body_items (body_without f b))
          body (data_of bytes) k = k
          body (items_of is) k = short_kept f is k

  -- another file is named as before
  pub named_still : (q : Fid) → is_fid q f ≡ false → IsNamed m q → IsNamed (step m (drop_file f)) q
  named_still q other named = named_there now q (at (mentioned m.files q named))
    where
      body : (d : Fid) (b : Body) → mentions q d (body_items b) ≡ true → mentions q d (body_items (body_without f b)) ≡ true
      body d (data_of bytes) k = k
      body d (items_of is) k = others_kept f q d is (is_fid-sym f q ∙ other) ∙ k

      at : Mentioned m.files q → Mentioned now q
      at k = by (is_fid k.dir f) refl
        where
          by : (b : Bool) → is_fid k.dir f ≡ b → Mentioned now q
          by true e = absurd (
              let bare : namings_in k.dir (body_items k.own.body) ≡ [] = ap (λ r. namings_in k.dir (items_in r)) (sym k.there) ∙ ap (λ d. namings_in d (dir_items m d)) (same_fid k.dir f e) ∙ h.bare in
              let clash : true ≡ false = sym k.says ∙ ap (list_any (λ n. is_fid n.fid q)) bare in cc)
          by false e = record { dir = k.dir; own = file_without f k.dir k.own; there = got_other k.dir e ∙ ap (option_map (file_without f k.dir)) k.there; says = body k.dir k.own.body k.says }

  -- so the model is ready then
  dropped_ready : Ready (step m (drop_file f))
  dropped_ready =
      let main = named_still sys_dir root_other s.main in
      let p = s.fitting.pages in
      let l = fewer in
      record {
        fitting = record {
          pages = omega arith;
          names = λ q y is. let k = stays q y is in let n = s.fitting.names q k.own k.there in let e = ap (λ z. length z.leader.name) k.same in omega arith;
          slots = root_short;
        };
        nameless = sys_dir;
        named = record {
          main = main;
          descriptor = named_still disk_descriptor (is_fid-sym disk_descriptor f ∙ or_false_right (is_fid f sys_dir) (is_fid f disk_descriptor) h.no_system) s.descriptor;
          others = λ g there other. still g (get now g) refl there;
        };
        room = inl main;
      }
    where
      still : (g : Fid) (r : Option File) → get now g ≡ r → is_some r ≡ true → IsNamed (step m (drop_file f)) g
      still g None e t = cc
      still g (Some y) e t = let k = stays g y e in named_still g k.other (s.all g (ap is_some k.there))

pub drop_leaves_room : DropLeavesRoom
drop_leaves_room m f s h = (settled_ready m s, dropped_ready m f s h)
