-- An entry goes: its file alone has no name then, and SysDir keeps the run for it.
use Rattle.std.proofs.Common.{◌++◌, ◌+◌, ◌∙◌, ◌∷◌, ◌≡◌, ◌≤◌, List, Some, [], ap, append_assoc, arith, cond, false, refl, subst, sym, true, ℕ}
use Rattle.std.proofs.lemmas.List.Elements.{All-cons, All-head, All-tail}
use Rattle.std.specs.FinMap.{entries, get}
use Rattle.std.specs.List.{list_any}
use Rattle.std.specs.Prelude.{All}
use Rattle.laws_room.specs.alto_words.specs.Fid.{disk_descriptor, is_fid, is_system, sys_dir}
use Rattle.laws_room.specs.alto_words.specs.Names.{is_same_name}
use Rattle.laws_room.specs.alto_words.specs.declared.fid.Fid.{Fid}
use Rattle.laws_line.proofs.inside.FreeWords.{row_freed}
use Rattle.laws_line.proofs.inside.Mentions.{mentions, mentions_less}
use Rattle.laws_line.proofs.inside.Runs.{IsShort}
use Rattle.laws_line.proofs.inside.Spared.{Spared}
use Rattle.laws_line.proofs.inside.Updates.{items_updated, named_updated, names_updated, pages_updated, there_updated}
use Rattle.laws_line.specs.LineLaws.{IsEntered}
use Rattle.laws_room.specs.pack_laws.proofs.Keys.{is_fid-sym}
use Rattle.pack_model.specs.reading.Bodies.{Body, File, body_items, body_length, items_in, pages_for}
use Rattle.pack_model.specs.reading.Bodies.Body.{data_of, items_of}
use Rattle.pack_model.specs.reading.Model.{IsNamed, Model, dir_items, files_pages}
use Rattle.pack_model.specs.reading.Namings.{namings_in}
use Rattle.pack_model.specs.operations.Rooms.{largest_run}
use Rattle.pack_model.specs.reading.Slots.{Item, all_words, item_words}
use Rattle.pack_model.specs.reading.Slots.Item.{entry, space}
use Rattle.pack_model.specs.operations.Step.{body_slots, items_left, longest_entry, on_items, on_leader, step}
use Rattle.pack_model.specs.operations.Step.Operation.{leave, title, widen}
use Rattle.laws_room.specs.laws_record.proofs.Tidying.{or_false_left, or_false_right}

-- The first of these slots under this name, in whatever case, is of the file.
pub record EntersIn (d : Fid) (name : List ℕ) (f : Fid) (is : List Item) : Type 0 where
  pub before : List Item
  pub own : List ℕ
  pub later : List Item
  pub items_are : is ≡ before ++ entry f own ∷ later
  pub same : is_same_name own name ≡ true
  pub first : list_any (λ e. is_same_name e.name name) (namings_in d before) ≡ false

pub enters_in : (m : Model) (d : Fid) (name : List ℕ) (f : Fid) → IsEntered m d name f → EntersIn d name f (dir_items m d)
enters_in m d name f h = record { before = h.before; own = h.own; later = h.behind; items_are = h.items_are; same = h.same; first = h.first }

-- also with a page more, of whatever directory
pub enters_widened : (m : Model) (d e : Fid) (name : List ℕ) (f : Fid) → EntersIn d name f (dir_items m d) → EntersIn d name f (dir_items (step m (widen e)) d)
enters_widened m d e name f h = items_updated m e (on_items (λ is. is ++ space 256 ∷ [])) (EntersIn d name f) d (λ x is k. body x.body k) h
  where
    body : (b : Body) → EntersIn d name f (body_items b) → EntersIn d name f (body_items (body_slots (λ is. is ++ space 256 ∷ []) b))
    body (data_of bytes) k = k
    body (items_of is) k = record {
      before = k.before;
      own = k.own;
      later = k.later ++ space 256 ∷ [];
      items_are = ap (λ is. is ++ space 256 ∷ []) k.items_are ∙ append_assoc k.before (entry f k.own ∷ k.later) (space 256 ∷ []);
      same = k.same;
      first = k.first;
    }

-- and with another leader's name
pub enters_titled : (m : Model) (d g : Fid) (name title_of : List ℕ) (f : Fid) → EntersIn d name f (dir_items m d) → EntersIn d name f (dir_items (step m (title g title_of)) d)
enters_titled m d g name title_of f h = items_updated m g (on_leader (λ l. record l { name = title_of })) (EntersIn d name f) d (λ x is k. k) h

-- ---- slots
-- the entry is the one that goes
left_here : (d f : Fid) (name own : List ℕ) (a b : List Item) → is_same_name own name ≡ true → list_any (λ e. is_same_name e.name name) (namings_in d a) ≡ false → items_left name (a ++ entry f own ∷ b) ≡ a ++ space (item_words (entry f own)) ∷ b
left_here d f name own [] b same first = ap (λ t. cond t (space (item_words (entry f own)) ∷ b) (entry f own ∷ items_left name b)) same
left_here d f name own (space n ∷ a) b same first = ap (λ is. space n ∷ is) (left_here d f name own a b same first)
left_here d f name own (entry g other ∷ a) b same first =
    ap (λ t. cond t (space (item_words (entry g other)) ∷ (a ++ entry f own ∷ b)) (entry g other ∷ items_left name (a ++ entry f own ∷ b))) (or_false_left (is_same_name other name) _ first)
    ∙ ap (λ is. entry g other ∷ is) (left_here d f name own a b same (or_false_right (is_same_name other name) _ first))

-- a free slot in its place
short_freed : (a b : List Item) (f : Fid) (own : List ℕ) → All IsShort (a ++ entry f own ∷ b) → All IsShort (a ++ space (item_words (entry f own)) ∷ b)
short_freed [] b f own h = All-cons IsShort (space (item_words (entry f own))) b (All-head IsShort (entry f own) b h) (All-tail IsShort (entry f own) b h)
short_freed (i ∷ a) b f own h = All-cons IsShort i (a ++ space (item_words (entry f own)) ∷ b) (All-head IsShort i (a ++ entry f own ∷ b) h) (short_freed a b f own (All-tail IsShort i (a ++ entry f own ∷ b) h))

words_freed : (a b : List Item) (f : Fid) (own : List ℕ) → all_words (a ++ space (item_words (entry f own)) ∷ b) ≡ all_words (a ++ entry f own ∷ b)
words_freed [] b f own = refl
words_freed (i ∷ a) b f own = ap (λ n. item_words i + n) (words_freed a b f own)

-- What becomes of slots: they have as many words, no other file's entry goes, and as many words are free in a row.
record Leaves (d f : Fid) (is js : List Item) : Type 0 where
  words : all_words js ≡ all_words is
  short : All IsShort is → All IsShort js
  named : (q : Fid) → is_fid f q ≡ false → mentions q d is ≡ true → mentions q d js ≡ true
  row : largest_run is ≤ largest_run js

slots_leave : (d f : Fid) (name : List ℕ) (is : List Item) → EntersIn d name f is → Leaves d f is (items_left name is)
slots_leave d f name is h =
    let k : ℕ = item_words (entry f h.own) in
    subst (λ is. Leaves d f is (items_left name is)) (sym h.items_are)
    (subst (Leaves d f (h.before ++ entry f h.own ∷ h.later)) (sym (left_here d f name h.own h.before h.later h.same h.first)) (record {
      words = words_freed h.before h.later f h.own;
      short = short_freed h.before h.later f h.own;
      named = λ q other e. mentions_less q d h.before h.later f h.own k other e;
      row = row_freed h.before h.later f h.own k;
    }))

-- ---- the model
module _ (m : Model) (d : Fid) (name : List ℕ) (f : Fid) (h : EntersIn d name f (dir_items m d)) where
  abbrev leaving : File → File
  leaving = on_items (items_left name)

  body_leave : (b : Body) → EntersIn d name f (body_items b) → Leaves d f (body_items b) (body_items (body_slots (items_left name) b))
  body_leave (data_of bytes) k = record { words = refl; short = λ h. h; named = λ q other h. h; row = omega arith }
  body_leave (items_of is) k = slots_leave d f name is k

  body_pages : (b : Body) → EntersIn d name f (body_items b) → body_length (body_slots (items_left name) b) ≡ body_length b
  body_pages (data_of bytes) k = refl
  body_pages (items_of is) k = let w = (slots_leave d f name is k).words in omega arith

  -- the directory's slots
  here : (x : File) → get m.files d ≡ Some x → EntersIn d name f (body_items x.body)
  here x e = subst (λ r. EntersIn d name f (items_in r)) e h

  leaves : (x : File) → get m.files d ≡ Some x → Leaves d f (body_items x.body) (body_items (leaving x).body)
  leaves x e = body_leave x.body (here x e)

  -- no more pages
  pub left_pages : files_pages (entries (step m (leave d name)).files) ≤ files_pages (entries m.files) + 0
  left_pages = pages_updated m d leaving 0 (λ x e. let p = ap pages_for (body_pages x.body (here x e)) in omega arith)

  -- the file alone loses its name
  pub left_spared : Spared m f → is_system f ≡ false → Spared (step m (leave d name)) f
  left_spared s ordinary =
      let p = left_pages in
      let q = s.fitting.pages in
      record {
        fitting = record {
          pages = omega arith;
          names = names_updated m d leaving (λ x e h. h) s.fitting.names;
          slots = items_updated m d leaving (All IsShort) sys_dir (λ x e. (leaves x e).short) s.fitting.slots;
        };
        named = record {
          main = named sys_dir (or_false_left (is_fid f sys_dir) (is_fid f disk_descriptor) ordinary) s.named.main;
          descriptor = named disk_descriptor (or_false_right (is_fid f sys_dir) (is_fid f disk_descriptor) ordinary) s.named.descriptor;
          others = λ g there other. named g (is_fid-sym f g ∙ other) (s.named.others g (sym (there_updated m d leaving g) ∙ there) other);
        };
        run = items_updated m d leaving (λ is. longest_entry ≤ largest_run is) sys_dir (λ x e k. let r = (leaves x e).row in omega arith) s.run;
      }
    where
      named : (q : Fid) → is_fid f q ≡ false → IsNamed m q → IsNamed (step m (leave d name)) q
      named q other k = named_updated m d leaving q (λ x e. (leaves x e).named q other) k
