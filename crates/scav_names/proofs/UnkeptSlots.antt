-- The slot of the first entry that isn't kept is made free: which entries the pack has then.
use Rattle.std.proofs.Common.{◌≡◌, inl, inr, ℕ, ◌+◌, ◌<◌, ◌≤◌, Bool, true, false, cond, List, [], ◌∷◌, ◌++◌, length, get_or, drop, refl, sym, ap, subst, ◌∙◌, append_assoc, arith}
use Rattle.std.specs.Prelude.{All, Contains}
use Rattle.std.specs.Option.{is_some, option_map}
use Rattle.std.specs.FinMap.{entries, entries_sorted}
use Rattle.std.proofs.lemmas.List.Elements.{All-cons, All-contains, All-head, All-nil, All-tail, Contains-append_cases, Contains-append_right}
use Rattle.alto_words.specs.declared.fid.Fid.{Fid}
use Rattle.alto_words.specs.Fid.{fid_cmp, is_fid}
use Rattle.dir_slots.proofs.Hands.{slots_within}
use Rattle.dir_slots.proofs.Slots.{all_words-append}
use Rattle.disk_records.specs.Packs.{Pack}
use Rattle.scav_pages.specs.laws_contents.proofs.words.Laws.{each_word_has_its_page}
use Rattle.scav_pages.specs.laws_lookup.proofs.Replacing.{range, replacing_turns_round, split_at, still}
use Rattle.laws_names.specs.ModelLaws.{kept_past}
use Rattle.laws_names.specs.WriteLaws.{SlotIsFreed}
use Rattle.laws_names.proofs.entries.Laws.{slot_splits}
use Rattle.laws_names.proofs.models.Laws.{mended_lives, mended_slot}
use Rattle.laws_names.proofs.writes.Laws.{unkept_slot_is_freed}
use Rattle.scav_pages.specs.laws_operation.proofs.places.Laws.{file_lives_in_a_place}
use Rattle.scav_pages.specs.laws_record.proofs.Addressing.{entry_words_many}
use Rattle.scav_pages.specs.laws_record.proofs.Around.{around}
use Rattle.scav_pages.specs.laws_record.proofs.DirReads.{has_leader}
use Rattle.scav_pages.specs.laws_record.proofs.Heads.{head_of, slots_cons}
use Rattle.scav_pages.specs.laws_record.proofs.Reading.{get-found, read_file}
use Rattle.scav_pages.specs.laws_record.specs.DirLaws.{Frees, freed}
use Rattle.laws_room.specs.NextLaws.{mended_pack}
use Rattle.scav_pages.specs.pack_laws.proofs.ByLists.{found_list, puts}
use Rattle.scav_pages.specs.pack_laws.proofs.Keys.{fid_same, fid_total, same_fid}
use Rattle.pack_model.specs.hints.Links.{dir_slots, dir_words}
use Rattle.pack_model.specs.operations.Rooms.{most_free}
use Rattle.pack_model.specs.reading.Bodies.{File, body_of, file_of, found}
use Rattle.pack_model.specs.reading.Bytes.{words_of}
use Rattle.pack_model.specs.reading.Files.{file_bytes, lives}
use Rattle.pack_model.specs.reading.Leaders.{Leader}
use Rattle.pack_model.specs.reading.Model.{dir_items}
use Rattle.pack_model.specs.reading.Namings.{Naming, is_kept, kept_after, kept_after_body}
use Rattle.pack_model.specs.reading.Sights.{Sight, sights}
use Rattle.pack_model.specs.reading.SlotWords.{SlotAt, address_at, slots_at}
use Rattle.pack_model.specs.reading.Slots.{Item, all_words, item_words, slots}
use Rattle.pack_model.specs.reading.Slots.Item.{space, entry}
use Rattle.pack_model.specs.reading.Stored.{leader_entries, stored_file}
use Rattle.pack_model.specs.scavenger.Mended.{with_system}
use Rattle.pack_model.specs.scavenger.Reports.{PagesMended}
use Rattle.pack_model.specs.sessions.Maps.{map_entries}
use Rattle.scav_names.specs.declared.placed.PlacedEntry.{PlacedEntry}
use Rattle.scav_names.specs.Catalogues.{entries_among, entries_of, file_entries, naming_of, pack_entries, with_entry}
use Rattle.scav_names.specs.Parting.{kept_among, kept_entries, kept_names_of, lives_then, unkept_among, unkept_entries}
use Rattle.scav_names.specs.Parts.{AreInOrder, StandsThere, slot_of}
use Rattle.scav_names.proofs.EnteringLeft.{entries_append, entries_stand, entry_at, files_order, in_pack}
use Rattle.scav_names.proofs.RootItems.{among_kept, file_kept}
use Rattle.scav_names.proofs.UnkeptLists.{FirstUnkept, at_front, beside, in_front, not_twice, or_itself, order_without, same_entry, same_in_order, same_prefix}

-- ---- in parts
among_append : (d : Fid) (xs ys : List SlotAt) → entries_among d (xs ++ ys) ≡ entries_among d xs ++ entries_among d ys
among_append d [] ys = refl
among_append d (s ∷ xs) ys = by s.item (among_append d xs ys)
  where
    by : (i : Item) → entries_among d (xs ++ ys) ≡ entries_among d xs ++ entries_among d ys → with_entry d s.place s.address i (entries_among d (xs ++ ys)) ≡ with_entry d s.place s.address i (entries_among d xs) ++ entries_among d ys
    by (space n) r = r
    by (entry f name) r = ap (λ l. entry_at d s f name ∷ l) r

kept_append : (alive : Fid → Bool) (before : List Naming) (xs ys : List PlacedEntry) → kept_names_of alive before (xs ++ ys) ≡ kept_names_of alive (kept_names_of alive before xs) ys
kept_append alive before [] ys = refl
kept_append alive before (x ∷ xs) ys = kept_append alive (cond (is_kept alive before (naming_of x)) (naming_of x ∷ before) before) xs ys

-- the files have the bodies of their bytes
abbrev IsBody : List Sight → Fid × File → Type 0
IsBody ss x = x.1.body ≡ body_of x.0 (file_bytes ss x.0)

bodies_by : (ss : List Sight) (ls : List (Fid × Leader)) → All (IsBody ss) (map_entries file_of (map_entries (stored_file ss) ls))
bodies_by ss [] = All-nil (IsBody ss)
bodies_by ss (l ∷ ls) = All-cons (IsBody ss) (l.0, file_of l.0 (stored_file ss l.0 l.1)) (map_entries file_of (map_entries (stored_file ss) ls)) refl (bodies_by ss ls)

all_left : {X : Type 0} (P : X → Type 0) (xs ys : List X) → All P (xs ++ ys) → All P xs
all_left P [] ys h = All-nil P
all_left P (x ∷ xs) ys h = All-cons P x xs (All-head P x (xs ++ ys) h) (all_left P xs ys (All-tail P x (xs ++ ys) h))

past_files : (p : Pack) (alive : Fid → Bool) (before : List Naming) (es : List (Fid × File)) → All (IsBody (sights p)) es → kept_names_of alive before (entries_of p es) ≡ kept_past (is_kept alive) before es
past_files p alive before [] h = refl
past_files p alive before (x ∷ es) h =
    kept_append alive before (file_entries p x.0) (entries_of p es)
    ∙ ap (λ b. kept_names_of alive b (entries_of p es)) (file_kept p alive x.0 before ∙ ap (kept_after_body (is_kept alive) x.0 before) (sym (All-head (IsBody (sights p)) x es h)))
    ∙ past_files p alive (kept_after_body (is_kept alive) x.0 before x.1.body) es (All-tail (IsBody (sights p)) x es h)

-- a slot that is read has at most 1,023 words
short_at : (a : List Item) (i : Item) (b : List Item) (words : List ℕ) → slots words ≡ a ++ i ∷ b → item_words i ≤ most_free
short_at [] i b words e = let l = (head_of words i (slots_cons words i b e).0).most in omega (arith, l)
short_at (x ∷ a) i b words e = short_at a i b (drop (item_words x) words) (slots_cons words x (a ++ i ∷ b) e).1

-- ---- where it stands
pub record StandsUnkept (p : Pack) (e : PlacedEntry) : Type 0 where
  pub there : StandsThere p e
  pub before : List Item
  pub behind : List Item
  pub slots_are : slots (dir_words p e.dir) ≡ before ++ entry e.fid e.name ∷ behind
  pub place : e.place ≡ all_words before
  pub unkept : get_or (dir_items (mended_pack p) e.dir) (length before) (entry e.fid e.name) ≡ space (item_words (entry e.fid e.name))

pub order_of : (p : Pack) → AreInOrder (pack_entries p)
order_of p = files_order p (entries (found (sights p))) (entries_sorted (found (sights p)))

pub stands_unkept : (p : Pack) (e : PlacedEntry) (es : List PlacedEntry) → PagesMended p → FirstUnkept (lives_then p) [] (pack_entries p) e es → StandsUnkept p e
unfolding slots_at
stands_unkept p e es m r =
    let ss = sights p in
    let d : Fid = e.dir in
    let w : List ℕ = dir_words p e.dir in
    let alive : Fid → Bool = lives_then p in
    let has : Contains (pack_entries p) e = subst (λ l. Contains l e) (sym r.are) (Contains-append_right r.pre (e ∷ r.post) e (at_front e r.post)) in
    let there : StandsThere p e = All-contains (StandsThere p) (pack_entries p) e (entries_stand p) has in
    let splits = slot_splits p e.dir (slot_of e) there.stands in
    let a : List Item = splits.before in
    let b : List Item = splits.behind in
    let i : Item = entry e.fid e.name in
    let l = has_leader ss d there.living in
    let x : File = read_file d (file_bytes ss d) l.0 in
    let ar = around fid_total fid_same (found ss) d x (get-found ss d ∙ ap (option_map (read_file d (file_bytes ss d))) l.1) in
    let at : ℕ = 0 + all_words a in
    let here : PlacedEntry = record { dir = d; place = at; fid = e.fid; leader_at = address_at w at i; name = e.name } in
    let mine : List PlacedEntry = entries_among d (slots_at w 0 a) in
    let later : List PlacedEntry = entries_among d (slots_at w (at + item_words i) b) in
    let first : List PlacedEntry = entries_of p ar.front in
    let last : List PlacedEntry = entries_of p ar.back in
    let file : file_entries p d ≡ mine ++ here ∷ later =
    ap (λ c. cond c (entries_among d (dir_slots p d)) []) there.directory ∙ ap (λ is. entries_among d (slots_at w 0 is)) splits.slots_are ∙ ap (entries_among d) (split_at w 0 a (i ∷ b)) ∙ among_append d (slots_at w 0 a) (slots_at w at (i ∷ b)) in
    let whole : pack_entries p ≡ (first ++ mine) ++ here ∷ (later ++ last) =
    ap (entries_of p) ar.was ∙ entries_append p ar.front ((d, x) ∷ ar.back) ∙ ap (λ f. first ++ (f ++ last)) file ∙ ap (λ f. first ++ f) (append_assoc mine (here ∷ later) last) ∙ sym (append_assoc first mine (here ∷ (later ++ last))) in
    let order = order_of p in
    let found_here : Contains (pack_entries p) here = subst (λ k. Contains k here) (sym whole) (Contains-append_right (first ++ mine) (here ∷ (later ++ last)) here (at_front here (later ++ last))) in
    let same : here ≡ e = same_entry (pack_entries p) here e order found_here has refl (let z = splits.place in omega (arith, z)) in
    let prefix : r.pre ≡ first ++ mine = same_prefix r.pre (first ++ mine) e r.post (later ++ last) (subst AreInOrder r.are order) (sym r.are ∙ whole ∙ ap (λ y. (first ++ mine) ++ y ∷ (later ++ last)) same) in
    let bodies = all_left (IsBody ss) ar.front ((d, x) ∷ ar.back) (subst (All (IsBody ss)) (sym (found_list ss) ∙ ar.was) (bodies_by ss (puts fid_cmp (leader_entries ss)))) in
    let state : kept_names_of alive [] r.pre ≡ kept_after (is_kept alive) d (kept_past (is_kept alive) [] ar.front) a =
    ap (kept_names_of alive []) prefix ∙ kept_append alive [] first mine ∙ ap (λ k. kept_names_of alive k mine) (past_files p alive [] ar.front bodies) ∙ among_kept alive w d (kept_past (is_kept alive) [] ar.front) 0 a in
    let gone = subst (λ v. is_kept v (kept_after (is_kept v) d (kept_past (is_kept v) [] ar.front) a) (naming_of e) ≡ false) (mended_lives p m) (ap (λ k. is_kept alive k (naming_of e)) (sym state) ∙ r.unkept) in
    record {
      there = there;
      before = a;
      behind = b;
      slots_are = splits.slots_are;
      place = splits.place;
      unkept = mended_slot p d ar.front ar.back x a b e.fid e.name m there.directory ar.was splits.slots_are ∙ ap (λ c. cond c i (space (item_words i))) gone;
    }

-- it may be freed
pub unkept_frees : (p : Pack) (e : PlacedEntry) (s : StandsUnkept p e) → (at : ℕ) × Frees p e.dir at s.before (entry e.fid e.name ∷ []) s.behind
unkept_frees p e s =
    let size : all_words (slots (dir_words p e.dir)) ≡ all_words s.before + (item_words (entry e.fid e.name) + all_words s.behind) = ap all_words s.slots_are ∙ all_words-append s.before (entry e.fid e.name ∷ s.behind) in
    let within = slots_within (dir_words p e.dir) in
    let many = entry_words_many (length e.name) in
    let short = short_at s.before (entry e.fid e.name) s.behind (dir_words p e.dir) s.slots_are in
    let fits : all_words s.before < length (dir_words p e.dir) = omega (arith, size, within, many) in
    let has = each_word_has_its_page p e.dir (all_words s.before) fits in (
      has.at,
      record {
        slots_are = s.slots_are;
        some = omega (arith, many);
        most = omega (arith, short);
        write = record {
          directory = s.there.directory;
          lives = s.there.living;
          sector = has.stands.sector;
          some = omega arith;
          one_page = omega arith;
          within = omega (arith, fits);
        };
      },
    )

-- ---- the pack with it freed
module _ (p : Pack) (m : PagesMended p) (e : PlacedEntry) (es : List PlacedEntry) (r : FirstUnkept (lives_then p) [] (pack_entries p) e es) (s : StandsUnkept p e) (at : ℕ) (frees : Frees p e.dir at s.before (entry e.fid e.name ∷ []) s.behind) where
  abbrev pub pack_freed : Pack
  pack_freed = freed p at s.before (entry e.fid e.name ∷ [])

  pub slot_freed : SlotIsFreed p pack_freed e.dir s.before s.behind e.fid e.name
  slot_freed = unkept_slot_is_freed p e.dir at s.before s.behind e.fid e.name m frees s.unkept

  lived : (f : Fid) → lives (sights pack_freed) f ≡ lives (sights p) f
  lived f = file_lives_in_a_place pack_freed f ∙ ap is_some (slot_freed.written.places_are f 0) ∙ sym (file_lives_in_a_place p f)

  -- slots of other directories
  other_slots : (d : Fid) → is_fid d e.dir ≡ false → dir_slots pack_freed d ≡ dir_slots p d
  other_slots d other = ap (λ bytes. slots_at (words_of bytes) 0 (slots (words_of bytes))) (slot_freed.written.others d other)

  -- each other entry stands
  stays : (y : PlacedEntry) → Contains (r.pre ++ r.post) y → Contains (pack_entries pack_freed) y
  unfolding slots_at
  stays y h =
      let old : Contains (pack_entries p) y = subst (λ l. Contains l y) (sym r.are) (beside r.pre e r.post y h) in
      let there : StandsThere p y = All-contains (StandsThere p) (pack_entries p) y (entries_stand p) old in
      in_pack pack_freed y.dir (slot_of y) y.fid y.name (lived y.dir ∙ there.living) there.directory (by (is_fid y.dir e.dir) refl there.stands old) refl
    where
      has : Contains (pack_entries p) e
      has = subst (λ l. Contains l e) (sym r.are) (Contains-append_right r.pre (e ∷ r.post) e (at_front e r.post))

      by : (b : Bool) → is_fid y.dir e.dir ≡ b → Contains (dir_slots p y.dir) (slot_of y) → Contains (pack_entries p) y → Contains (dir_slots pack_freed y.dir) (slot_of y)
      by false other c old = subst (λ l. Contains l (slot_of y)) (sym (other_slots y.dir other)) c
      by true mine c old =
          let dir : y.dir ≡ e.dir = same_fid y.dir e.dir mine in
          elim (still p pack_freed e.dir s.before (entry e.fid e.name ∷ []) (space (item_words (entry e.fid e.name)) ∷ []) s.behind slot_freed.slots_are (slot_of y) (subst (λ d. Contains (dir_slots p d) (slot_of y)) dir c)) [
            | inl there ↦ subst (λ d. Contains (dir_slots pack_freed d) (slot_of y)) (sym dir) there
            | inr gone ↦ elim (in_front (record { place = all_words s.before; item = entry e.fid e.name; address = address_at (dir_words p e.dir) (all_words s.before) (entry e.fid e.name) }) [] (slot_of y) gone) [
              | inl one ↦
                  let z : e ≡ y = same_entry (pack_entries p) e y (order_of p) has old (sym dir) (s.place ∙ ap (λ (t : SlotAt). t.place) one) in
                  absurd (not_twice r.pre e r.post (subst AreInOrder r.are (order_of p)) (subst (Contains (r.pre ++ r.post)) (sym z) h))
              | inr none ↦ absurd (let l = none.1 in omega (arith, l))
            ]
          ]

  -- it stands no more
  itself_gone : Contains (dir_slots pack_freed e.dir) (slot_of e) → ⊥
  unfolding slots_at
  itself_gone c =
      let w : List ℕ = dir_words pack_freed e.dir in
      let many = entry_words_many (length e.name) in
      let place = s.place in
      let n : ℕ = item_words (entry e.fid e.name) in
      let parts : dir_slots pack_freed e.dir ≡ slots_at w 0 s.before ++ slots_at w (0 + all_words s.before) (space n ∷ s.behind) = ap (slots_at w 0) slot_freed.slots_are.are ∙ split_at w 0 s.before (space n ∷ s.behind) in
      elim (Contains-append_cases (slots_at w 0 s.before) (slots_at w (0 + all_words s.before) (space n ∷ s.behind)) (slot_of e) (subst (λ l. Contains l (slot_of e)) parts c)) [
        | inl low ↦ (let h = (range w 0 s.before (slot_of e) low).high in omega (arith, h, place, many))
        | inr high ↦ elim (in_front (record { place = 0 + all_words s.before; item = space n; address = 0 }) (slots_at w (0 + all_words s.before + n) s.behind) (slot_of e) high) [
          | inl one ↦ (let clash : space n ≡ entry e.fid e.name = ap (λ (t : SlotAt). t.item) one in cc)
          | inr more ↦ (let h = (range w (0 + all_words s.before + n) s.behind (slot_of e) more).low in omega (arith, h, place, many))
        ]
      ]

  -- and none comes
  was_there : (y : PlacedEntry) → Contains (pack_entries pack_freed) y → Contains (r.pre ++ r.post) y
  unfolding slots_at
  was_there y h =
      let there : StandsThere pack_freed y = All-contains (StandsThere pack_freed) (pack_entries pack_freed) y (entries_stand pack_freed) h in
      let old = in_pack p y.dir (slot_of y) y.fid y.name (sym (lived y.dir) ∙ there.living) there.directory (by (is_fid y.dir e.dir) refl there.stands) refl in
      elim (or_itself r.pre e r.post y (subst (λ l. Contains l y) r.are old)) [
        | inl z ↦ absurd (itself_gone (subst (λ (x : PlacedEntry). Contains (dir_slots pack_freed x.dir) (slot_of x)) (sym z) there.stands))
        | inr other ↦ other
      ]
    where
      by : (b : Bool) → is_fid y.dir e.dir ≡ b → Contains (dir_slots pack_freed y.dir) (slot_of y) → Contains (dir_slots p y.dir) (slot_of y)
      by false other c = subst (λ l. Contains l (slot_of y)) (other_slots y.dir other) c
      by true mine c =
          let dir : y.dir ≡ e.dir = same_fid y.dir e.dir mine in
          let n : ℕ = item_words (entry e.fid e.name) in
          let turned = replacing_turns_round p pack_freed e.dir s.before (entry e.fid e.name ∷ []) (space n ∷ []) s.behind slot_freed.slots_are in
          elim (still pack_freed p e.dir s.before (space n ∷ []) (entry e.fid e.name ∷ []) s.behind turned (slot_of y) (subst (λ d. Contains (dir_slots pack_freed d) (slot_of y)) dir c)) [
            | inl there ↦ subst (λ d. Contains (dir_slots p d) (slot_of y)) (sym dir) there
            | inr gone ↦ elim (in_front (record { place = all_words s.before; item = space n; address = 0 }) [] (slot_of y) gone) [
              | inl one ↦ absurd (let clash : space n ≡ entry y.fid y.name = ap (λ (t : SlotAt). t.item) one in cc)
              | inr none ↦ absurd (let l = none.1 in omega (arith, l))
            ]
          ]

  entries_now : pack_entries pack_freed ≡ r.pre ++ r.post
  entries_now = same_in_order (pack_entries pack_freed) (r.pre ++ r.post) (order_of pack_freed) (order_without r.pre e r.post (subst AreInOrder r.are (order_of p))) was_there stays

  alive_now : lives_then pack_freed ≡ lives_then p
  alive_now = λ i. with_system (λ f. lived f i)

  -- the others are kept, or not, as they were
  pub unkept_now : unkept_entries pack_freed ≡ es
  unkept_now = (λ i. unkept_among (alive_now i) [] (entries_now i)) ∙ r.left

  pub kept_now : kept_entries pack_freed ≡ kept_entries p
  kept_now = (λ i. kept_among (alive_now i) [] (entries_now i)) ∙ r.kept
