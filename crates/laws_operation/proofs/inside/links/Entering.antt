-- An entering: the address of the file's leader comes with its entry.
use Rattle.std.proofs.Common.{List, Some, [], ap, arith, cond, false, get_or, length, refl, subst, suc, sym, ℕ, ◌++◌, ◌+◌, ◌-◌, ◌<◌, ◌==◌, ◌∙◌, ◌∷◌, ◌≡◌, ◌≤◌}
use Rattle.std.specs.FinMap.{get, get-insert}
use Rattle.laws_contents.specs.alto_words.specs.declared.fid.Fid.{Fid}
use Rattle.laws_contents.specs.disk_records.proofs.Growing.{after-append}
use Rattle.laws_contents.specs.disk_records.specs.Commands.{value_writes}
use Rattle.laws_contents.specs.disk_records.specs.Packs.{Pack, after, sector_at}
use Rattle.laws_contents.specs.disk_records.specs.Words.{word}
use Rattle.laws_contents.specs.pack_model.specs.reading.Bodies.{items_in}
use Rattle.laws_contents.specs.pack_model.specs.reading.Bodies.Body.{data_of, items_of}
use Rattle.laws_contents.specs.pack_model.specs.reading.Bytes.{put_at}
use Rattle.laws_contents.specs.pack_model.specs.operations.Commands.{values_writes}
use Rattle.laws_contents.specs.pack_model.specs.operations.Committing.{page_of_word}
use Rattle.laws_contents.specs.pack_model.specs.operations.Entering.{EntryRoom, entry_value, after_joining, joining, overlapping, values_first}
use Rattle.laws_contents.specs.pack_model.specs.reading.Files.{file_bytes, place}
use Rattle.laws_contents.specs.pack_model.specs.reading.Leaders.{Leader}
use Rattle.laws_contents.specs.pack_model.specs.hints.Links.{LinksTrue, dir_words}
use Rattle.laws_contents.specs.pack_model.specs.reading.Model.{Model, dir_items, read_as}
use Rattle.laws_contents.specs.pack_model.specs.operations.Operations.{enter_writes}
use Rattle.laws_contents.specs.pack_model.specs.operations.PageWords.{freed_value, in_page, later, near, page_number}
use Rattle.laws_contents.specs.pack_model.specs.operations.Rooms.{items_entered, left_over}
use Rattle.laws_contents.specs.pack_model.specs.reading.Sights.{sights}
use Rattle.laws_contents.specs.pack_model.specs.reading.SlotWords.{address_at, address_word}
use Rattle.laws_contents.specs.pack_model.specs.reading.Slots.{Item, all_words, entry_length, item_words, slots}
use Rattle.laws_contents.specs.pack_model.specs.reading.Slots.Item.{entry, space}
use Rattle.laws_contents.specs.pack_model.specs.operations.Step.{step}
use Rattle.laws_contents.specs.pack_model.specs.operations.Step.Operation.{enter}
use Rattle.laws_contents.specs.pack_model.specs.states.Whole.{Tidy, Whole}
use Rattle.laws_contents.specs.pack_laws.proofs.Keys.{fid_total, is_fid-itself}
use Rattle.laws_contents.specs.laws_record.proofs.Addressing.{entry_words_many}
use Rattle.laws_contents.specs.laws_record.proofs.Copying.{place_carried}
use Rattle.laws_contents.specs.laws_record.proofs.DirReads.{has_leader, not_descriptor}
use Rattle.laws_contents.specs.laws_record.proofs.Entered.{directory}
use Rattle.laws_contents.specs.laws_record.proofs.Entering.{on_slots}
use Rattle.laws_contents.specs.laws_record.proofs.Heads.{all_within}
use Rattle.laws_contents.specs.laws_record.proofs.Slotwise.{words-append}
use Rattle.laws_contents.specs.laws_record.specs.DirLaws.{dir_written}
use Rattle.laws_operation.proofs.Dropped.{read_there}
use Rattle.laws_operation.proofs.EnterLaw.{items_are}
use Rattle.laws_operation.proofs.EnterMoves.{enter_carries_out, values-append}
use Rattle.laws_operation.proofs.Rejoining.{entered_there}
use Rattle.laws_operation.specs.NameLaws.{MayEnterAt, entry_room}
use Rattle.laws_operation.proofs.inside.links.Addresses.{AllTrue, left_true, true_replaced}
use Rattle.laws_operation.proofs.inside.links.DirValues.{dir_values}
use Rattle.laws_operation.proofs.inside.links.Directories.{dirs_true, other_items}
use Rattle.laws_operation.proofs.inside.links.EnterWords.{Apart, Spot, Stage, apart_twice, join_words, near_words, next_there, over_words}
use Rattle.laws_operation.proofs.inside.links.Framing.{AllConcern, OfOne}
use Rattle.laws_operation.proofs.inside.links.Values.{AllOf, of_carried, of_join, of_one, values_concern}
use Rattle.laws_operation.specs.NameLinkLaws.{EnterKeepsLinks}
use Rattle.laws_contents.specs.laws_record.proofs.SystemEntries.{left_split, left_words}

-- a directory's slots in the model after an entering
entered_items : (m : Model) (d f : Fid) (name : List ℕ) (l : Leader) (is : List Item) → get m.files d ≡ Some (directory l is) → dir_items (step m (enter d name f)) d ≡ items_entered (entry f name) is
entered_items m d f name l is gets =
    ap (λ n. dir_items n d) (sym (on_slots m d l is (items_entered (entry f name) is) (items_entered (entry f name)) gets refl))
    ∙ ap items_in (get-insert fid_total m.files d (directory l (items_entered (entry f name) is)) d ∙ ap (λ b. cond b (Some (directory l (items_entered (entry f name) is))) (get m.files d)) (is_fid-itself d))

module _ (p : Pack) (w : Whole p) (t : Tidy p) (d : Fid) (name : List ℕ) (f : Fid) (a old b : List Item) (left : ℕ) (words : List ℕ) (at next_at : ℕ) (h : MayEnterAt p d name f a old b left words at next_at) where
  -- the entry's words, and the room's
  long : 7 ≤ entry_length (length name)
  long = entry_words_many (length name)

  -- at most 26 of the entry
  few : entry_length (length name) ≤ 26
  few = let s = h.words_are.short in omega arith

  -- the slots before
  was : dir_items (read_as p) d ≡ a ++ (old ++ b)
  was = h.room.split

  -- where the words go
  spot : Spot p d (all_words a) (all_words old) words at next_at
  spot =
      let all = all_within (a ++ (old ++ b)) (dir_words p d) (sym (items_are p t d h.living h.directory) ∙ was) in
      let x = words-append a (old ++ b) in
      let y = words-append old b in
      record { directory = h.directory; living = h.living; sector = h.sector; next_sector = h.next_sector; within = omega arith }

  -- the room isn't empty
  some : 0 < all_words old
  some = let l = long in let r = h.total in omega arith

  -- nor are the words
  many : 1 ≤ length words
  many = let l = long in let s = h.words_are.size in omega arith

  -- which fit in it
  most : length words ≤ all_words old
  most = let r = h.total in let s = h.words_are.size in omega arith

  -- and in a page
  short : length words ≤ 256
  short = let l = few in let s = h.words_are.size in omega arith

  -- value by value
  abbrev first : Pack
  first = after_joining p (entry_room a old at next_at)

  -- with the words over the page's end
  abbrev second : Pack
  second = after first (values_writes (overlapping first (all_words a) words next_at))

  -- with all words
  abbrev third : Pack
  third = dir_written second (all_words a) at (near (all_words a) words)

  -- free slots are made one
  stage1 : Stage p (after_joining p (entry_room a old at next_at)) d (all_words a) (all_words old) words at next_at
  stage1 = join_words p d (all_words a) (all_words old) words at next_at spot (item_words (get_or old 0 (space 0)) == all_words old) some

  -- the words over the page's end
  abbrev stage2 : (q : Stage first second d (all_words a) (all_words old) words at next_at) × ((j : ℕ) → length (near (all_words a) words) ≤ j → j < length words → word (dir_words second d) (all_words a + j) ≡ word words j)
  stage2 = over_words first d (all_words a) (all_words old) words at next_at stage1.spot many most short (page_of_word (all_words a + length words - 1) == page_of_word (all_words a)) refl

  -- and the others
  abbrev stage3 : (q : Stage second third d (all_words a) (all_words old) words at next_at) × ((j : ℕ) → j < length words → word (dir_words third d) (all_words a + j) ≡ word words j)
  stage3 = near_words second d (all_words a) (all_words old) words at next_at stage2.0.spot many most short stage2.1

  -- the list of all values
  abbrev before_values : List (ℕ × List ℕ)
  before_values = values_first p (entry_room a old at next_at) words

  -- they are all record writes
  pub events_are : values_writes (values_first p (entry_room a old at next_at) words ++ (at, entry_value p (entry_room a old at next_at) words) ∷ []) ≡ enter_writes (values_first p (entry_room a old at next_at) words) at (entry_value p (entry_room a old at next_at) words)
  events_are = values-append before_values ((at, entry_value p (entry_room a old at next_at) words) ∷ [])

  -- the pack at the end
  pub end_is : after p (values_writes (values_first p (entry_room a old at next_at) words ++ (at, entry_value p (entry_room a old at next_at) words) ∷ []))
      ≡ dir_written (after (after_joining p (entry_room a old at next_at)) (values_writes (overlapping (after_joining p (entry_room a old at next_at)) (all_words a) words next_at))) (all_words a) at (near (all_words a) words)
  end_is =
      let x : List (ℕ × List ℕ) = joining p (entry_room a old at next_at) in
      let y : List (ℕ × List ℕ) = overlapping first (all_words a) words next_at in
      let twice : after first (values_writes y) ≡ after p (values_writes (x ++ y)) = sym (after-append p (values_writes x) (values_writes y)) ∙ ap (after p) (sym (values-append x y)) in
      ap (after p) events_are ∙ after-append p (values_writes before_values) (value_writes at (entry_value p (entry_room a old at next_at) words))
      ∙ ap (λ q. after q (value_writes at (put_at (in_page (all_words a)) (near (all_words a) words) (sector_at q at).value))) (sym twice)

  -- the words around the room stand as they did, and in it the entry's
  pub entered_words_apart : (q : Apart (dir_words p d) (dir_words (dir_written (after (after_joining p (entry_room a old at next_at)) (values_writes (overlapping (after_joining p (entry_room a old at next_at)) (all_words a) words next_at))) (all_words a) at (near (all_words a) words)) d) (all_words a) (all_words old))
      × (word (dir_words (dir_written (after (after_joining p (entry_room a old at next_at)) (values_writes (overlapping (after_joining p (entry_room a old at next_at)) (all_words a) words next_at))) (all_words a) at (near (all_words a) words)) d) (all_words a + 5) ≡ word words 5)
  entered_words_apart = let l = long in let s = h.words_are.size in (apart_twice (apart_twice stage1.apart stage2.0.apart) stage3.0.apart, stage3.1 5 (omega arith))

  -- the addresses of its slots are true
  own_true : place (sights p) f 0 ≡ Some (word words (address_word 0)) → LinksTrue p → (k : ℕ) → k ≡ all_words old - entry_length (length name)
      → AllTrue (sights p) (dir_words (dir_written (after (after_joining p (entry_room a old at next_at)) (values_writes (overlapping (after_joining p (entry_room a old at next_at)) (all_words a) words next_at))) (all_words a) at (near (all_words a) words)) d) 0 (a ++ entry f name ∷ left_over k b)
  own_true address links k k_is =
      let r = h.total in
      let l = long in
      let s = h.words_are.size in
      let new : List Item = entry f name ∷ left_over k [] in
      let apart : Apart (dir_words p d) (dir_words third d) (all_words a) (all_words old) = apart_twice (apart_twice stage1.apart stage2.0.apart) stage3.0.apart in
      let left_is : all_words (left_over k []) ≡ k + 0 = left_words k [] in
      let enough : all_words new ≡ all_words old = omega arith in
      let stands : word (dir_words third d) (all_words a + 5) ≡ word words 5 = stage3.1 5 (omega arith) in
      let here : place (sights p) f 0 ≡ Some (address_at (dir_words third d) (all_words a) (entry f name)) = address ∙ ap Some (sym stands) in
      let old_true : AllTrue (sights p) (dir_words p d) 0 (a ++ (old ++ b)) = subst (AllTrue (sights p) (dir_words p d) 0) was (dirs_true p links.entries d h.living h.directory) in
      let all : AllTrue (sights p) (dir_words third d) 0 (a ++ (new ++ b)) =
      true_replaced (sights p) (dir_words p d) (dir_words third d) a old new b apart.before apart.behind enough (here, left_true (sights p) (dir_words third d) (all_words a + item_words (entry f name)) k) old_true in
      subst (λ x. AllTrue (sights p) (dir_words third d) 0 (a ++ entry f name ∷ x)) (sym (left_split k b)) all

  -- the sectors are of the directory
  pub values_of : AllOf d p (values_first p (entry_room a old at next_at) words ++ (at, entry_value p (entry_room a old at next_at) words) ∷ [])
  values_of =
      let of_at : OfOne d p at = of_carried d (page_of_word (all_words a)) p at (place_carried p (page_number d (page_of_word (all_words a))) at h.sector) in
      let next : (page_of_word (all_words a + length words - 1) == page_of_word (all_words a)) ≡ false → OfOne d p next_at = λ e.
      of_carried d (suc (page_of_word (all_words a))) p next_at (place_carried p (page_number d (suc (page_of_word (all_words a)))) next_at (next_there p d (all_words a) (all_words old) words at next_at spot many most short e)) in
      of_join d p before_values ((at, entry_value p (entry_room a old at next_at) words) ∷ [])
      (of_join d p (joining p (entry_room a old at next_at)) (overlapping first (all_words a) words next_at)
      (of_one d p (item_words (get_or old 0 (space 0)) == all_words old) (at, freed_value (all_words a) (all_words old) (sector_at p at).value) (λ e. of_at))
      (of_one d p (page_of_word (all_words a + length words - 1) == page_of_word (all_words a)) (next_at, put_at 0 (later (all_words a) words) (sector_at first next_at).value) next))
      (of_at, tt)

-- the slots of its directory then
pub entered_slots : (p : Pack) (d : Fid) (name : List ℕ) (f : Fid) (a old b : List Item) (left : ℕ) (words : List ℕ) (at next_at : ℕ) (w : Whole p) (t : Tidy p) (h : MayEnterAt p d name f a old b left words at next_at)
    → dir_items (read_as (after p (enter_writes (values_first p (entry_room a old at next_at) words) at (entry_value p (entry_room a old at next_at) words)))) d ≡ a ++ entry f name ∷ left_over (all_words old - item_words (entry f name)) b
entered_slots p d name f a old b left words at next_at w t h =
    let out = enter_carries_out p d name f a old b left words at next_at w t h in
    let lead = has_leader (sights p) d h.living in
    let gets : get (read_as p).files d ≡ Some (directory lead.0 (dir_items (read_as p) d)) =
    read_there p d lead.0 t (not_descriptor d h.directory) lead.1 ∙ ap (λ c. Some (record { leader = lead.0; body = cond c (items_of (slots (dir_words p d))) (data_of (file_bytes (sights p) d)) })) h.directory
    ∙ ap (λ is. Some (directory lead.0 is)) (sym (items_are p t d h.living h.directory)) in
    ap (λ m. dir_items m d) out.ends ∙ entered_items (read_as p) d f name lead.0 (dir_items (read_as p) d) gets ∙ entered_there (entry f name) (dir_items (read_as p) d) a old b h.room

-- an entering
pub enter_keeps_links : EnterKeepsLinks
enter_keeps_links p d name f a old b left words at next_at w t h address links =
    let r : EntryRoom = entry_room a old at next_at in
    let vs : List (ℕ × List ℕ) = values_first p r words ++ (at, entry_value p r words) ∷ [] in
    let out = enter_carries_out p d name f a old b left words at next_at w t h in
    let es = events_are p w t d name f a old b left words at next_at h in
    let q : Pack = after p (values_writes vs) in
    let wq : Whole q = subst (λ x. Whole (after p x)) (sym es) out.sees.whole in
    let tq : Tidy q = subst (λ x. Tidy (after p x)) (sym es) out.sees.tidy in
    let of : AllOf d p vs = values_of p w t d name f a old b left words at next_at h in
    let all : AllConcern d p (values_writes vs) = values_concern d vs p of in
    let k : ℕ = all_words old - item_words (entry f name) in
    let items : dir_items (read_as q) d ≡ a ++ entry f name ∷ left_over k b = ap (λ x. dir_items (read_as (after p x)) d) es ∙ entered_slots p d name f a old b left words at next_at w t h in
    let words_are : dir_words q d ≡ _ = ap (λ x. dir_words x d) (end_is p w t d name f a old b left words at next_at h) in
    let own : AllTrue (sights p) (dir_words q d) 0 (dir_items (read_as q) d) =
    subst (λ ws. AllTrue (sights p) ws 0 (dir_items (read_as q) d)) (sym words_are) (subst (AllTrue (sights p) _ 0) (sym items) (own_true p w t d name f a old b left words at next_at h address links k refl)) in
    subst (λ x. LinksTrue (after p x)) es (dir_values vs p d w wq of (λ g ne live dir. other_items p d (values_writes vs) w wq all t tq g ne live dir) own links)
