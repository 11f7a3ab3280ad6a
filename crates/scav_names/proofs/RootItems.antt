-- SysDir's slots as they will stand when names are entered, by the entries that aren't kept.
use Rattle.std.proofs.Common.{◌≡◌, ℕ, suc, ◌+◌, ◌<◌, ◌≤◌, Bool, true, false, cond, not, List, [], ◌∷◌, ◌++◌, length, get_or, drop, Option, Some, None, Less, Equal, Greater, refl, sym, ap, subst, ◌∙◌, append_assoc, drop-cons, arith}
use Rattle.std.specs.Prelude.{All, T, ◌&&◌}
use Rattle.std.specs.Option.{is_some, option_map}
use Rattle.std.specs.Ordering.{is_eq, is_lt}
use Rattle.std.specs.declared.cmp.Ordering.{Ordering}
use Rattle.std.specs.FinMap.{entries, entries-insert, entries_sorted, find, get, get-entries, insert, is_sorted}
use Rattle.std.specs.FinMap.Entries.{below_all, by_order, put, where_key}
use Rattle.std.proofs.lemmas.Bool.{eq-eqb, ne_eqb}
use Rattle.std.proofs.lemmas.List.{drop_all}
use Rattle.std.proofs.lemmas.List.Elements.{All-append, All-cons, All-head, All-nil, All-tail}
use Rattle.alto_words.specs.declared.fid.Fid.{Fid}
use Rattle.alto_words.specs.Fid.{disk_descriptor, fid_cmp, is_directory, is_fid, sys_dir}
use Rattle.disk_records.specs.Packs.{Pack}
use Rattle.dir_slots.proofs.Slots.{all_words-append}
use Rattle.scav_pages.specs.laws_record.proofs.Around.{around}
use Rattle.scav_pages.specs.laws_record.proofs.Mending.{entries-tidied}
use Rattle.laws_room.specs.NextLaws.{mended_pack}
use Rattle.scav_pages.specs.laws_record.proofs.Reading.{get-found, read_file}
use Rattle.scav_pages.specs.laws_record.proofs.Systemic.{described_get}
use Rattle.scav_pages.specs.pack_laws.proofs.ByLists.{described_list, found_list, puts}
use Rattle.scav_pages.specs.pack_laws.proofs.Keys.{fid_same, fid_total, is_fid-sym, same_fid}
use Rattle.pack_model.specs.hints.Links.{dir_slots, dir_words}
use Rattle.pack_model.specs.reading.Bodies.{File, body_items, body_of, described, file_of, found, is_described, items_in}
use Rattle.pack_model.specs.reading.Bodies.Body.{data_of, items_of}
use Rattle.pack_model.specs.reading.Files.{file_bytes, leader, lives}
use Rattle.pack_model.specs.reading.Leaders.{Leader}
use Rattle.pack_model.specs.reading.Model.{root_items}
use Rattle.pack_model.specs.reading.Namings.{Naming, body_kept, files_kept, is_kept, items_kept, kept_after, kept_after_body}
use Rattle.pack_model.specs.reading.Sights.{Sight, sights}
use Rattle.pack_model.specs.reading.SlotWords.{address_at, slots_at}
use Rattle.pack_model.specs.reading.Slots.{Item, all_words, entry_length, item_words, slots}
use Rattle.pack_model.specs.reading.Slots.Item.{space, entry}
use Rattle.pack_model.specs.reading.Stored.{leader_entries, stored_file}
use Rattle.pack_model.specs.scavenger.Mended.{mended, root_body, root_file, rooted}
use Rattle.pack_model.specs.sessions.Maps.{map_entries}
use Rattle.scav_names.specs.declared.placed.PlacedEntry.{PlacedEntry}
use Rattle.scav_names.specs.declared.rooms.Rooms.{Rooms}
use Rattle.scav_names.specs.Catalogues.{entries_among, entries_of, file_entries, naming_of, pack_entries, root_slots}
use Rattle.scav_names.specs.Parting.{kept_names_of, lives_then, unkept_among, unkept_entries}
use Rattle.scav_names.specs.Rooms.{HasSlots, freed_at, words_at, words_from}
use Rattle.scav_names.proofs.Growing.{HasWords, freed_is, freed_words, have_words}

-- ---- entries of SysDir become free slots
abbrev pub free_one : PlacedEntry → List Item → List Item
free_one e is = cond (is_fid e.dir sys_dir) (freed_at e.place (entry_length (length e.name)) is) is

abbrev pub free_all : List PlacedEntry → List Item → List Item
free_all [] is = is
free_all (e ∷ es) is = free_all es (free_one e is)

free_append : (xs ys : List PlacedEntry) (is : List Item) → free_all (xs ++ ys) is ≡ free_all ys (free_all xs is)
free_append [] ys is = refl
free_append (x ∷ xs) ys is = free_append xs ys (free_one x is)

unkept_append : (alive : Fid → Bool) (before : List Naming) (xs ys : List PlacedEntry) → unkept_among alive before (xs ++ ys) ≡ unkept_among alive before xs ++ unkept_among alive (kept_names_of alive before xs) ys
unkept_append alive before [] ys = refl
unkept_append alive before (x ∷ xs) ys = elim (is_kept alive before (naming_of x)) as (λ b.
    cond b (unkept_among alive (naming_of x ∷ before) (xs ++ ys)) (x ∷ unkept_among alive before (xs ++ ys))
    ≡ cond b (unkept_among alive (naming_of x ∷ before) xs) (x ∷ unkept_among alive before xs) ++ unkept_among alive (kept_names_of alive (cond b (naming_of x ∷ before) before) xs) ys) [
      | true ↦ unkept_append alive (naming_of x ∷ before) xs ys
      | false ↦ ap (λ l. x ∷ l) (unkept_append alive before xs ys)
    ]

-- ---- the entries of one directory
module _ (alive : Fid → Bool) (words : List ℕ) where
  among_apart : (d : Fid) → is_fid d sys_dir ≡ false → (before : List Naming) (place : ℕ) (is items : List Item) → free_all (unkept_among alive before (entries_among d (slots_at words place is))) items ≡ items
  unfolding slots_at
  among_apart d apart before place [] items = refl
  among_apart d apart before place (space n ∷ is) items = among_apart d apart before (place + n) is items
  among_apart d apart before place (entry f name ∷ is) items =
      let n : Naming = record { dir = d; name = name; fid = f } in
      let rest : ℕ = place + item_words (entry f name) in
      elim (is_kept alive before n) as (λ b. free_all (cond b (unkept_among alive (n ∷ before) (entries_among d (slots_at words rest is))) (record { dir = d; place = place; fid = f; leader_at = address_at words place (entry f name); name = name } ∷ unkept_among alive before (entries_among d (slots_at words rest is)))) items ≡ items) [
        | true ↦ among_apart d apart (n ∷ before) rest is items
        | false ↦ ap (λ b. free_all (unkept_among alive before (entries_among d (slots_at words rest is))) (cond b (freed_at place (entry_length (length name)) items) items)) apart ∙ among_apart d apart before rest is items
      ]

  pub among_kept : (d : Fid) (before : List Naming) (place : ℕ) (is : List Item) → kept_names_of alive before (entries_among d (slots_at words place is)) ≡ kept_after (is_kept alive) d before is
  unfolding slots_at
  among_kept d before place [] = refl
  among_kept d before place (space n ∷ is) = among_kept d before (place + n) is
  among_kept d before place (entry f name ∷ is) =
      let n : Naming = record { dir = d; name = name; fid = f } in
      among_kept d (cond (is_kept alive before n) (n ∷ before) before) (place + item_words (entry f name)) is

  among_root : (before : List Naming) (place : ℕ) (pre is : List Item) → All HasWords (pre ++ is) → place ≡ all_words pre
      → free_all (unkept_among alive before (entries_among sys_dir (slots_at words place is))) (pre ++ is) ≡ pre ++ items_kept (is_kept alive) sys_dir before is
  unfolding slots_at
  among_root before place pre [] sizes here = refl
  among_root before place pre (space n ∷ is) sizes here =
      let more : place + n ≡ all_words (pre ++ space n ∷ []) = let h = all_words-append pre (space n ∷ []) in omega arith in
      let same : pre ++ space n ∷ is ≡ (pre ++ space n ∷ []) ++ is = sym (append_assoc pre (space n ∷ []) is) in
      ap (free_all (unkept_among alive before (entries_among sys_dir (slots_at words (place + n) is)))) same
      ∙ among_root before (place + n) (pre ++ space n ∷ []) is (subst (All HasWords) same sizes) more
      ∙ append_assoc pre (space n ∷ []) (items_kept (is_kept alive) sys_dir before is)
  among_root before place pre (entry f name ∷ is) sizes here = by (is_kept alive before n) (λ b x h e. among_root b (place + w) (pre ++ x ∷ []) is h e)
    where
      n : Naming
      n = record { dir = sys_dir; name = name; fid = f }

      w : ℕ
      w = item_words (entry f name)

      Rest : List Naming → Item → Type 0
      Rest b x = free_all (unkept_among alive b (entries_among sys_dir (slots_at words (place + w) is))) ((pre ++ x ∷ []) ++ is) ≡ (pre ++ x ∷ []) ++ items_kept (is_kept alive) sys_dir b is

      all_more : (x : Item) → item_words x ≡ w → place + w ≡ all_words (pre ++ x ∷ [])
      all_more x e = let h = all_words-append pre (x ∷ []) in omega arith

      freed : freed_at place w (pre ++ entry f name ∷ is) ≡ pre ++ space w ∷ is
      freed = freed_is 0 place w pre is (entry f name) sizes (omega arith)

      before_all : All HasWords pre
      before_all = by_left pre sizes
        where
          by_left : (l : List Item) → All HasWords (l ++ entry f name ∷ is) → All HasWords l
          by_left [] h = All-nil HasWords
          by_left (x ∷ l) h = All-cons HasWords x l (All-head HasWords x (l ++ entry f name ∷ is) h) (by_left l (All-tail HasWords x (l ++ entry f name ∷ is) h))

      after_all : All HasWords is
      after_all = by_right pre sizes
        where
          by_right : (l : List Item) → All HasWords (l ++ entry f name ∷ is) → All HasWords is
          by_right [] h = All-tail HasWords (entry f name) is h
          by_right (x ∷ l) h = by_right l (All-tail HasWords x (l ++ entry f name ∷ is) h)

      sized : (x : Item) → HasWords x → All HasWords ((pre ++ x ∷ []) ++ is)
      sized x h = All-append HasWords (pre ++ x ∷ []) is (All-append HasWords pre (x ∷ []) before_all (All-cons HasWords x [] h (All-nil HasWords))) after_all

      by : (b : Bool) → ((c : List Naming) (x : Item) → All HasWords ((pre ++ x ∷ []) ++ is) → place + w ≡ all_words (pre ++ x ∷ []) → Rest c x)
          → free_all (cond b (unkept_among alive (n ∷ before) (entries_among sys_dir (slots_at words (place + w) is))) (record { dir = sys_dir; place = place; fid = f; leader_at = address_at words place (entry f name); name = name } ∷ unkept_among alive before (entries_among sys_dir (slots_at words (place + w) is)))) (pre ++ entry f name ∷ is)
          ≡ pre ++ cond b (entry f name) (space w) ∷ items_kept (is_kept alive) sys_dir (cond b (n ∷ before) before) is
      by true again =
          ap (free_all (unkept_among alive (n ∷ before) (entries_among sys_dir (slots_at words (place + w) is)))) (sym (append_assoc pre (entry f name ∷ []) is))
          ∙ again (n ∷ before) (entry f name) (sized (entry f name) (omega arith)) (all_more (entry f name) refl)
          ∙ append_assoc pre (entry f name ∷ []) (items_kept (is_kept alive) sys_dir (n ∷ before) is)
      by false again =
          ap (free_all (unkept_among alive before (entries_among sys_dir (slots_at words (place + w) is)))) (freed ∙ sym (append_assoc pre (space w ∷ []) is))
          ∙ again before (space w) (sized (space w) (omega arith)) (all_more (space w) refl)
          ∙ append_assoc pre (space w ∷ []) (items_kept (is_kept alive) sys_dir before is)

-- ---- all living files
abbrev files_by : List Sight → List (Fid × Leader) → List (Fid × File)
files_by ss ls = map_entries file_of (map_entries (stored_file ss) ls)

module _ (p : Pack) (alive : Fid → Bool) where
  -- what is kept once a file is passed
  pub file_kept : (f : Fid) (before : List Naming) → kept_names_of alive before (file_entries p f) ≡ kept_after_body (is_kept alive) f before (body_of f (file_bytes (sights p) f))
  file_kept f before = by (is_directory f)
    where
      by : (b : Bool) → kept_names_of alive before (cond b (entries_among f (dir_slots p f)) []) ≡ kept_after_body (is_kept alive) f before (cond b (items_of (slots (dir_words p f))) (data_of (file_bytes (sights p) f)))
      by true = among_kept alive (dir_words p f) f before 0 (slots (dir_words p f))
      by false = refl

  file_apart : (f : Fid) → is_fid f sys_dir ≡ false → (before : List Naming) (items : List Item) → free_all (unkept_among alive before (file_entries p f)) items ≡ items
  file_apart f apart before items = by (is_directory f)
    where
      by : (b : Bool) → free_all (unkept_among alive before (cond b (entries_among f (dir_slots p f)) [])) items ≡ items
      by true = among_apart alive (dir_words p f) f apart before 0 (slots (dir_words p f)) items
      by false = refl

  -- one file after another
  free_files : (before : List Naming) (f : Fid) (es : List (Fid × File)) (x : File) (items : List Item)
      → free_all (unkept_among alive before (entries_of p ((f, x) ∷ es))) items ≡ free_all (unkept_among alive (kept_after_body (is_kept alive) f before (body_of f (file_bytes (sights p) f))) (entries_of p es)) (free_all (unkept_among alive before (file_entries p f)) items)
  free_files before f es x items =
      ap (λ l. free_all l items) (unkept_append alive before (file_entries p f) (entries_of p es))
      ∙ free_append (unkept_among alive before (file_entries p f)) (unkept_among alive (kept_names_of alive before (file_entries p f)) (entries_of p es)) items
      ∙ ap (λ b. free_all (unkept_among alive b (entries_of p es)) (free_all (unkept_among alive before (file_entries p f)) items)) (file_kept f before)

  -- without SysDir
  others_apart : (ls : List (Fid × Leader)) → is_some (find fid_cmp sys_dir (files_by (sights p) ls)) ≡ false → (before : List Naming) (items : List Item) → free_all (unkept_among alive before (entries_of p (files_by (sights p) ls))) items ≡ items
  others_apart [] none before items = refl
  others_apart ((f, l) ∷ ls) none before items = by (is_fid sys_dir f) refl none (λ n. others_apart ls n (kept_after_body (is_kept alive) f before (body_of f (file_bytes (sights p) f))) items)
    where
      by : (b : Bool) → is_fid sys_dir f ≡ b → is_some (cond b (Some (file_of f (stored_file (sights p) f l))) (find fid_cmp sys_dir (files_by (sights p) ls))) ≡ false
          → (is_some (find fid_cmp sys_dir (files_by (sights p) ls)) ≡ false → free_all (unkept_among alive (kept_after_body (is_kept alive) f before (body_of f (file_bytes (sights p) f))) (entries_of p (files_by (sights p) ls))) items ≡ items)
          → free_all (unkept_among alive before (entries_of p (files_by (sights p) ((f, l) ∷ ls)))) items ≡ items
      by true e none again = absurd cc
      by false e none again =
          free_files before f (files_by (sights p) ls) (file_of f (stored_file (sights p) f l)) items
          ∙ ap (free_all (unkept_among alive (kept_after_body (is_kept alive) f before (body_of f (file_bytes (sights p) f))) (entries_of p (files_by (sights p) ls)))) (file_apart f (is_fid-sym f sys_dir ∙ e) before items)
          ∙ again none

  -- above SysDir it isn't again
  none_above : (ls : List (Fid × Leader)) → T (below_all fid_cmp sys_dir (files_by (sights p) ls)) → is_some (find fid_cmp sys_dir (files_by (sights p) ls)) ≡ false
  none_above [] h = refl
  none_above ((f, l) ∷ ls) h = by (fid_cmp sys_dir f) h (none_above ls)
    where
      by : (r : Ordering) → T (is_lt r && below_all fid_cmp sys_dir (files_by (sights p) ls)) → (T (below_all fid_cmp sys_dir (files_by (sights p) ls)) → is_some (find fid_cmp sys_dir (files_by (sights p) ls)) ≡ false)
          → is_some (cond (is_eq r) (Some (file_of f (stored_file (sights p) f l))) (find fid_cmp sys_dir (files_by (sights p) ls))) ≡ false
      by Less h again = again h
      by Equal h again = absurd h
      by Greater h again = absurd h

  sorted_parts : (b c : Bool) → T (b && c) → T b × T c
  sorted_parts true c h = (tt, h)
  sorted_parts false c h = absurd h

  -- SysDir among them
  root_freed : (ls : List (Fid × Leader)) → T (is_sorted fid_cmp (files_by (sights p) ls)) → is_some (find fid_cmp sys_dir (files_by (sights p) ls)) ≡ true → All HasWords (slots (dir_words p sys_dir)) → (before : List Naming)
      → free_all (unkept_among alive before (entries_of p (files_by (sights p) ls))) (slots (dir_words p sys_dir)) ≡ items_in (find fid_cmp sys_dir (files_kept (is_kept alive) before (files_by (sights p) ls)))
  root_freed [] sorted some words before = absurd cc
  root_freed ((f, l) ∷ ls) sorted some words before = by (is_fid sys_dir f) refl some (λ s. root_freed ls (sorted_parts (below_all fid_cmp f (files_by (sights p) ls)) (is_sorted fid_cmp (files_by (sights p) ls)) sorted).1 s words after)
    where
      after : List Naming
      after = kept_after_body (is_kept alive) f before (body_of f (file_bytes (sights p) f))

      rest : List (Fid × File)
      rest = files_by (sights p) ls

      file : File
      file = file_of f (stored_file (sights p) f l)

      W : List Item
      W = slots (dir_words p sys_dir)

      zero_is : 0 ≡ all_words []
      zero_is = refl

      whole : f ≡ sys_dir → free_all (unkept_among alive before (file_entries p f)) W ≡ body_items (body_kept (is_kept alive) f before (body_of f (file_bytes (sights p) f)))
      whole is =
          ap (λ g. free_all (unkept_among alive before (file_entries p g)) W) is
          ∙ among_root alive (dir_words p sys_dir) before 0 [] W words zero_is
          ∙ sym (ap (λ g. body_items (body_kept (is_kept alive) g before (body_of g (file_bytes (sights p) g)))) is)

      by : (b : Bool) → is_fid sys_dir f ≡ b → is_some (cond b (Some file) (find fid_cmp sys_dir rest)) ≡ true
          → (is_some (find fid_cmp sys_dir rest) ≡ true → free_all (unkept_among alive after (entries_of p rest)) W ≡ items_in (find fid_cmp sys_dir (files_kept (is_kept alive) after rest)))
          → free_all (unkept_among alive before (entries_of p ((f, file) ∷ rest))) W ≡ items_in (cond b (Some (record { leader = file.leader; body = body_kept (is_kept alive) f before file.body })) (find fid_cmp sys_dir (files_kept (is_kept alive) after rest)))
      by true e some again =
          let is : f ≡ sys_dir = sym (same_fid sys_dir f e) in
          let above = subst (λ g. T (below_all fid_cmp g rest)) is (sorted_parts (below_all fid_cmp f rest) (is_sorted fid_cmp rest) sorted).0 in
          free_files before f rest file W
          ∙ ap (free_all (unkept_among alive after (entries_of p rest))) (whole is)
          ∙ others_apart ls (none_above ls above) after (body_items (body_kept (is_kept alive) f before (body_of f (file_bytes (sights p) f))))
      by false e some again =
          free_files before f rest file W
          ∙ ap (free_all (unkept_among alive after (entries_of p rest))) (file_apart f (is_fid-sym f sys_dir ∙ e) before W)
          ∙ again some

-- ---- the mended files have SysDir's slots so
module _ (ok : List Naming → Naming → Bool) where
  -- whatever its leader is
  same_body : (front back : List (Fid × File)) (before : List Naming) (x y : File) → x.body ≡ y.body
      → items_in (find fid_cmp sys_dir (files_kept ok before (front ++ (sys_dir, x) ∷ back))) ≡ items_in (find fid_cmp sys_dir (files_kept ok before (front ++ (sys_dir, y) ∷ back)))
  same_body [] back before x y e = ap (λ b. body_items (body_kept ok sys_dir before b)) e
  same_body (z ∷ front) back before x y e =
      let f : Fid = z.0 in
      elim (is_fid sys_dir z.0) as (λ b. items_in (cond b (Some (record { leader = z.1.leader; body = body_kept ok z.0 before z.1.body })) (find fid_cmp sys_dir (files_kept ok (kept_after_body ok z.0 before z.1.body) (front ++ (sys_dir, x) ∷ back))))
      ≡ items_in (cond b (Some (record { leader = z.1.leader; body = body_kept ok z.0 before z.1.body })) (find fid_cmp sys_dir (files_kept ok (kept_after_body ok z.0 before z.1.body) (front ++ (sys_dir, y) ∷ back))))) [
        | true ↦ refl
        | false ↦ same_body front back (kept_after_body ok z.0 before z.1.body) x y e
      ]

  fresh_items : (es : List (Fid × File)) (before : List Naming) → find fid_cmp sys_dir es ≡ None → items_in (find fid_cmp sys_dir (files_kept ok before (put fid_cmp sys_dir (root_file (root_body None)) es))) ≡ space 255 ∷ []
  fresh_items [] before none = refl
  fresh_items (e ∷ es) before none = by (fid_cmp sys_dir e.0) refl none (fresh_items es (kept_after_body ok e.0 before e.1.body))
    where
      x : File
      x = root_file (root_body None)

      by : (r : Ordering) → fid_cmp sys_dir e.0 ≡ r → cond (is_eq r) (Some e.1) (find fid_cmp sys_dir es) ≡ None
          → (find fid_cmp sys_dir es ≡ None → items_in (find fid_cmp sys_dir (files_kept ok (kept_after_body ok e.0 before e.1.body) (put fid_cmp sys_dir x es))) ≡ space 255 ∷ [])
          → items_in (find fid_cmp sys_dir (files_kept ok before (by_order r ((sys_dir, x) ∷ e ∷ es) ((e.0, x) ∷ es) (e ∷ put fid_cmp sys_dir x es)))) ≡ space 255 ∷ []
      by Less is n again = refl
      by Equal is n again = absurd cc
      by Greater is n again = ap (λ r. items_in (cond (is_eq r) (Some (record { leader = e.1.leader; body = body_kept ok e.0 before e.1.body })) (find fid_cmp sys_dir (files_kept ok (kept_after_body ok e.0 before e.1.body) (put fid_cmp sys_dir x es))))) is ∙ again n

  -- without DiskDescriptor
  described_items : (ss : List Sight) (ls : List (Fid × Leader)) (before : List Naming) → items_in (find fid_cmp sys_dir (files_kept ok before (where_key fid_cmp is_described (files_by ss ls)))) ≡ items_in (find fid_cmp sys_dir (files_kept ok before (files_by ss ls)))
  described_items ss [] before = refl
  described_items ss ((f, l) ∷ ls) before = by (is_fid f disk_descriptor) refl (λ b. described_items ss ls b)
    where
      rest : List (Fid × File)
      rest = files_by ss ls

      file : File
      file = file_of f (stored_file ss f l)

      by : (d : Bool) → is_fid f disk_descriptor ≡ d → ((b : List Naming) → items_in (find fid_cmp sys_dir (files_kept ok b (where_key fid_cmp is_described rest))) ≡ items_in (find fid_cmp sys_dir (files_kept ok b rest)))
          → items_in (find fid_cmp sys_dir (files_kept ok before (cond (not d) ((f, file) ∷ where_key fid_cmp is_described rest) (where_key fid_cmp is_described rest)))) ≡ items_in (find fid_cmp sys_dir (files_kept ok before ((f, file) ∷ rest)))
      by true e again =
          let is : f ≡ disk_descriptor = same_fid f disk_descriptor e in
          again before ∙ sym (ap (λ g. items_in (cond (is_fid sys_dir g) (Some (record { leader = l; body = body_kept ok g before (body_of g (file_bytes ss f)) })) (find fid_cmp sys_dir (files_kept ok (kept_after_body ok g before (body_of g (file_bytes ss f))) rest)))) is)
      by false e again = elim (is_fid sys_dir f) as (λ b. items_in (cond b (Some (record { leader = file.leader; body = body_kept ok f before file.body })) (find fid_cmp sys_dir (files_kept ok (kept_after_body ok f before file.body) (where_key fid_cmp is_described rest))))
          ≡ items_in (cond b (Some (record { leader = file.leader; body = body_kept ok f before file.body })) (find fid_cmp sys_dir (files_kept ok (kept_after_body ok f before file.body) rest)))) [
            | true ↦ refl
            | false ↦ again (kept_after_body ok f before file.body)
          ]

-- ---- of a pack
found_some : (p : Pack) → is_some (find fid_cmp sys_dir (files_by (sights p) (puts fid_cmp (leader_entries (sights p))))) ≡ lives (sights p) sys_dir
found_some p =
    ap (λ es. is_some (find fid_cmp sys_dir es)) (sym (found_list (sights p)))
    ∙ ap is_some (sym (get-entries (found (sights p)) sys_dir) ∙ get-found (sights p) sys_dir)
    ∙ some_mapped (leader (sights p) sys_dir)
  where
    some_mapped : (o : Option Leader) → is_some (option_map (read_file sys_dir (file_bytes (sights p) sys_dir)) o) ≡ is_some o
    some_mapped None = refl
    some_mapped (Some l) = refl

mended_root : (p : Pack) → root_items (mended_pack p) ≡ items_in (find fid_cmp sys_dir (files_kept (is_kept (lives_then p)) [] (entries (rooted (described (sights p))))))
unfolding mended
mended_root p = ap items_in (get-entries (mended_pack p).files sys_dir ∙ ap (find fid_cmp sys_dir) (entries-tidied (lives_then p) (rooted (described (sights p)))))

root_in_found : (p : Pack) (o : Option File) → get (described (sights p)) sys_dir ≡ o → is_some o ≡ true
    → items_in (find fid_cmp sys_dir (files_kept (is_kept (lives_then p)) [] (entries (insert (described (sights p)) sys_dir (root_file (root_body o))))))
    ≡ items_in (find fid_cmp sys_dir (files_kept (is_kept (lives_then p)) [] (files_by (sights p) (puts fid_cmp (leader_entries (sights p))))))
root_in_found p None e some = absurd cc
root_in_found p (Some x) e some =
    let ok = is_kept (lives_then p) in
    let files = described (sights p) in
    let r = around fid_total fid_same files sys_dir x e in
    ap (λ es. items_in (find fid_cmp sys_dir (files_kept ok [] es))) (entries-insert fid_total files sys_dir (root_file x.body) ∙ r.now (root_file x.body))
    ∙ same_body ok r.front r.back [] (root_file x.body) x refl
    ∙ ap (λ es. items_in (find fid_cmp sys_dir (files_kept ok [] es))) (sym r.was ∙ described_list (sights p))
    ∙ described_items ok (sights p) (puts fid_cmp (leader_entries (sights p))) []

fresh_in_found : (p : Pack) (o : Option File) → get (described (sights p)) sys_dir ≡ o → is_some o ≡ false
    → items_in (find fid_cmp sys_dir (files_kept (is_kept (lives_then p)) [] (entries (insert (described (sights p)) sys_dir (root_file (root_body o)))))) ≡ space 255 ∷ []
fresh_in_found p (Some x) e none = absurd cc
fresh_in_found p None e none =
    let files = described (sights p) in
    ap (λ es. items_in (find fid_cmp sys_dir (files_kept (is_kept (lives_then p)) [] es))) (entries-insert fid_total files sys_dir (root_file (root_body None)))
    ∙ fresh_items (is_kept (lives_then p)) (entries files) [] (sym (get-entries files sys_dir) ∙ e)

described_some : (p : Pack) → is_some (get (described (sights p)) sys_dir) ≡ lives (sights p) sys_dir
described_some p =
    ap is_some (described_get (sights p) sys_dir refl ∙ get-entries (found (sights p)) sys_dir) ∙ ap (λ es. is_some (find fid_cmp sys_dir es)) (found_list (sights p)) ∙ found_some p

sorted_found : (p : Pack) → T (is_sorted fid_cmp (files_by (sights p) (puts fid_cmp (leader_entries (sights p)))))
sorted_found p = subst (λ es. T (is_sorted fid_cmp es)) (found_list (sights p)) (entries_sorted (found (sights p)))

unkept_listed : (p : Pack) → unkept_entries p ≡ unkept_among (lives_then p) [] (entries_of p (files_by (sights p) (puts fid_cmp (leader_entries (sights p)))))
unkept_listed p = ap (λ es. unkept_among (lives_then p) [] (entries_of p es)) (found_list (sights p))

pub root_then : (p : Pack) → lives (sights p) sys_dir ≡ true → All HasWords (root_slots p) → free_all (unkept_entries p) (root_slots p) ≡ root_items (mended_pack p)
root_then p alive words =
    let slots_are : root_slots p ≡ slots (dir_words p sys_dir) = ap (λ b. cond b (slots (dir_words p sys_dir)) []) alive in
    (λ i. free_all (unkept_listed p i) (slots_are i))
    ∙ root_freed p (lives_then p) (puts fid_cmp (leader_entries (sights p))) (sorted_found p) (found_some p ∙ alive) (subst (All HasWords) slots_are words) []
    ∙ sym (mended_root p ∙ root_in_found p (get (described (sights p)) sys_dir) refl (described_some p ∙ alive))

pub none_then : (p : Pack) → lives (sights p) sys_dir ≡ false → free_all (unkept_entries p) (root_slots p) ≡ []
none_then p dead =
    let none : root_slots p ≡ [] = ap (λ b. cond b (slots (dir_words p sys_dir)) []) dead in
    (λ i. free_all (unkept_listed p i) (none i)) ∙ others_apart p (lives_then p) (puts fid_cmp (leader_entries (sights p))) (found_some p ∙ dead) [] []

pub fresh_then : (p : Pack) → lives (sights p) sys_dir ≡ false → space 255 ∷ [] ≡ root_items (mended_pack p)
fresh_then p dead = sym (mended_root p ∙ fresh_in_found p (get (described (sights p)) sys_dir) refl (described_some p ∙ dead))

-- ---- each entry of SysDir stands at its place
abbrev pub StandAll : List PlacedEntry → List Item → Type 0
StandAll [] is = Unit {0}
StandAll (e ∷ es) is = (is_fid e.dir sys_dir ≡ true → words_at e.place is ≡ Some (entry_length (length e.name))) × StandAll es is

stand_append : (xs ys : List PlacedEntry) (is : List Item) → StandAll xs is → StandAll ys is → StandAll (xs ++ ys) is
stand_append [] ys is a b = b
stand_append (x ∷ xs) ys is a b = (a.0, stand_append xs ys is a.1 b)

stand_unkept : (alive : Fid → Bool) (before : List Naming) (es : List PlacedEntry) (is : List Item) → StandAll es is → StandAll (unkept_among alive before es) is
stand_unkept alive before [] is h = h
stand_unkept alive before (e ∷ es) is h = by (is_kept alive before (naming_of e)) (stand_unkept alive (naming_of e ∷ before) es is h.1) (stand_unkept alive before es is h.1)
  where
    by : (b : Bool) → StandAll (unkept_among alive (naming_of e ∷ before) es) is → StandAll (unkept_among alive before es) is → StandAll (cond b (unkept_among alive (naming_of e ∷ before) es) (e ∷ unkept_among alive before es)) is
    by true one other = one
    by false one other = (h.0, other)

words_here : (at place : ℕ) (pre is : List Item) (i : Item) → All HasWords (pre ++ i ∷ is) → place ≡ at + all_words pre → words_from at place (pre ++ i ∷ is) ≡ Some (item_words i)
words_here at place [] is i sizes here = ap (λ b. cond b (Some (item_words i)) (words_from (at + item_words i) place is)) (eq-eqb at place (omega arith))
words_here at place (j ∷ pre) is i sizes here =
    let some = All-head HasWords j (pre ++ i ∷ is) sizes in
    ap (λ b. cond b (Some (item_words j)) (words_from (at + item_words j) place (pre ++ i ∷ is))) (ne_eqb at place (λ e. omega arith))
    ∙ words_here (at + item_words j) place pre is i (All-tail HasWords j (pre ++ i ∷ is) sizes) (omega arith)

stand_among : (d : Fid) (words : List ℕ) (place : ℕ) (pre is : List Item) → All HasWords (pre ++ is) → place ≡ all_words pre → StandAll (entries_among d (slots_at words place is)) (pre ++ is)
unfolding slots_at
stand_among d words place pre [] sizes here = tt
stand_among d words place pre (space n ∷ is) sizes here =
    let more : place + n ≡ all_words (pre ++ space n ∷ []) = let h = all_words-append pre (space n ∷ []) in omega arith in
    let same : pre ++ space n ∷ is ≡ (pre ++ space n ∷ []) ++ is = sym (append_assoc pre (space n ∷ []) is) in
    subst (StandAll (entries_among d (slots_at words (place + n) is))) (sym same) (stand_among d words (place + n) (pre ++ space n ∷ []) is (subst (All HasWords) same sizes) more)
stand_among d words place pre (entry f name ∷ is) sizes here =
    let w : ℕ = item_words (entry f name) in
    let more : place + w ≡ all_words (pre ++ entry f name ∷ []) = let h = all_words-append pre (entry f name ∷ []) in omega arith in
    let same : pre ++ entry f name ∷ is ≡ (pre ++ entry f name ∷ []) ++ is = sym (append_assoc pre (entry f name ∷ []) is) in (
      λ _. words_here 0 place pre is (entry f name) sizes (omega arith),
      subst (StandAll (entries_among d (slots_at words (place + w) is))) (sym same) (stand_among d words (place + w) (pre ++ entry f name ∷ []) is (subst (All HasWords) same sizes) more),
    )

stand_apart : (d : Fid) (words : List ℕ) (place : ℕ) (is js : List Item) → is_fid d sys_dir ≡ false → StandAll (entries_among d (slots_at words place is)) js
unfolding slots_at
stand_apart d words place [] js apart = tt
stand_apart d words place (space n ∷ is) js apart = stand_apart d words (place + n) is js apart
stand_apart d words place (entry f name ∷ is) js apart = (λ e. absurd (let h : true ≡ false = sym e ∙ apart in cc), stand_apart d words (place + item_words (entry f name)) is js apart)

stand_file : (p : Pack) (f : Fid) (items : List Item) → All HasWords items → (is_fid sys_dir f ≡ true → items ≡ slots (dir_words p sys_dir)) → StandAll (file_entries p f) items
stand_file p f items sizes root = by (is_directory f)
  where
    inside : (b : Bool) → is_fid sys_dir f ≡ b → StandAll (entries_among f (dir_slots p f)) items
    inside true e =
        let is : f ≡ sys_dir = sym (same_fid sys_dir f e) in
        let are : items ≡ slots (dir_words p f) = root e ∙ ap (λ g. slots (dir_words p g)) (sym is) in
        subst (StandAll (entries_among f (dir_slots p f))) (sym are) (stand_among f (dir_words p f) 0 [] (slots (dir_words p f)) (subst (All HasWords) are sizes) refl)
    inside false e = stand_apart f (dir_words p f) 0 (slots (dir_words p f)) items (is_fid-sym f sys_dir ∙ e)

    by : (b : Bool) → StandAll (cond b (entries_among f (dir_slots p f)) []) items
    by true = inside (is_fid sys_dir f) refl
    by false = tt

stand_files : (p : Pack) (ls : List (Fid × Leader)) (items : List Item) → All HasWords items → (is_some (find fid_cmp sys_dir (files_by (sights p) ls)) ≡ true → items ≡ slots (dir_words p sys_dir)) → StandAll (entries_of p (files_by (sights p) ls)) items
stand_files p [] items sizes root = tt
stand_files p ((f, l) ∷ ls) items sizes root =
    let file : File = file_of f (stored_file (sights p) f l) in
    let rest : Option File = find fid_cmp sys_dir (files_by (sights p) ls) in
    stand_append (file_entries p f) (entries_of p (files_by (sights p) ls)) items
    (stand_file p f items sizes (λ e. root (ap (λ b. is_some (cond b (Some file) rest)) e)))
    (stand_files p ls items sizes (λ some. root (either (is_fid sys_dir f) file rest some)))
  where
    either : (b : Bool) (x : File) (o : Option File) → is_some o ≡ true → is_some (cond b (Some x) o) ≡ true
    either true x o h = refl
    either false x o h = h

pub unkept_stand : (p : Pack) → All HasWords (root_slots p) → StandAll (unkept_entries p) (root_slots p)
unkept_stand p sizes =
    stand_unkept (lives_then p) [] (pack_entries p) (root_slots p)
    (subst (λ es. StandAll (entries_of p es) (root_slots p)) (sym (found_list (sights p)))
    (stand_files p (puts fid_cmp (leader_entries (sights p))) (root_slots p) sizes (λ some. ap (λ b. cond b (slots (dir_words p sys_dir)) []) (sym (found_some p) ∙ some))))

-- ---- one after another
stand_then : (es : List PlacedEntry) (q n : ℕ) (is : List Item) → words_at q is ≡ Some n → All HasWords is → StandAll es is → StandAll es (freed_at q n is)
stand_then [] q n is found sizes h = tt
stand_then (e ∷ es) q n is found sizes h = (λ root. freed_words 0 q n e.place is found sizes ∙ h.0 root, stand_then es q n is found sizes h.1)

-- The rooms are those of SysDir's slots, of which the entries that are left become free.
pub record IsFreeing (rooms : Rooms) (left : List PlacedEntry) (all : List Item) : Type 0 where
  pub items : List Item
  pub has : HasSlots rooms items
  pub stand : StandAll left items
  pub sum : free_all left items ≡ all

pub freeing_root : (rooms new : Rooms) (e : PlacedEntry) (left : List PlacedEntry) (all : List Item) → is_fid e.dir sys_dir ≡ true → (f : IsFreeing rooms (e ∷ left) all) → HasSlots new (freed_at e.place (entry_length (length e.name)) f.items) → IsFreeing new left all
freeing_root rooms new e left all root f has = record {
  items = freed_at e.place (entry_length (length e.name)) f.items;
  has = has;
  stand = stand_then left e.place (entry_length (length e.name)) f.items (f.stand.0 root) (have_words f.items f.has.rooms_are.sizes) f.stand.1;
  sum = ap (λ b. free_all left (cond b (freed_at e.place (entry_length (length e.name)) f.items) f.items)) (sym root) ∙ f.sum;
}

pub freeing_other : (rooms : Rooms) (e : PlacedEntry) (left : List PlacedEntry) (all : List Item) → is_fid e.dir sys_dir ≡ false → IsFreeing rooms (e ∷ left) all → IsFreeing rooms left all
freeing_other rooms e left all other f = record {
  items = f.items;
  has = f.has;
  stand = f.stand.1;
  sum = ap (λ b. free_all left (cond b (freed_at e.place (entry_length (length e.name)) f.items) f.items)) (sym other) ∙ f.sum;
}

pub freeing_begins : (rooms : Rooms) (p : Pack) (left : List PlacedEntry) → HasSlots rooms (root_slots p) → left ≡ unkept_entries p → IsFreeing rooms left (free_all (unkept_entries p) (root_slots p))
freeing_begins rooms p left has are = record {
  items = root_slots p;
  has = has;
  stand = subst (λ l. StandAll l (root_slots p)) (sym are) (unkept_stand p (have_words (root_slots p) has.rooms_are.sizes));
  sum = ap (λ l. free_all l (root_slots p)) are;
}

pub next_left : (all : List PlacedEntry) (i : ℕ) (e : PlacedEntry) → i < length all → e ≡ get_or all i e → drop i all ≡ e ∷ drop (i + 1) all
next_left all i e within here =
    let next : suc i ≡ i + 1 = omega arith in
    drop-cons all i e within ∙ ap (λ y. y ∷ drop (suc i) all) (sym here) ∙ ap (λ k. e ∷ drop k all) next

pub freeing_ends : (rooms : Rooms) (all : List PlacedEntry) (i : ℕ) (items : List Item) → length all ≤ i → IsFreeing rooms (drop i all) items → HasSlots rooms items
freeing_ends rooms all i items done f = subst (HasSlots rooms) (sym (ap (λ l. free_all l f.items) (drop_all i all done)) ∙ f.sum) f.has
