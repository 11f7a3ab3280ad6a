-- After the front of a line the directory has room for the entry, so the file has its name where that comes.
use Rattle.std.proofs.Common.{◌∙◌, ◌∷◌, ◌≡◌, ◌≤◌, ◌||◌, Bool, List, None, Option, Some, [], ap, arith, cond, false, leb-true, length, nat_le, refl, subst, sym, true, ℕ}
use Rattle.std.specs.FinMap.{contains_key, get}
use Rattle.std.specs.Option.{is_some, option_map, unwrap_or}
use Rattle.laws_room.specs.alto_words.specs.Fid.{is_fid, sys_dir}
use Rattle.laws_room.specs.alto_words.specs.declared.fid.Fid.{Fid}
use Rattle.laws_room.proofs.Standing.{placed_stands}
use Rattle.laws_line.proofs.inside.Coming.{body_enter, entering}
use Rattle.laws_line.proofs.inside.Mentions.{mentions, mentions_own, named_there}
use Rattle.laws_line.proofs.inside.Roomy.{Roomy, roomy_more, roomy_steps, roomy_widened}
use Rattle.laws_line.proofs.inside.Runs.{placed_somewhere}
use Rattle.laws_line.proofs.inside.Spared.{behind, front, leaves_front, page_leaves, run_after}
use Rattle.laws_line.proofs.inside.Throughout.{steps_both}
use Rattle.laws_line.proofs.inside.Updates.{got_updated, named_updated, there_updated}
use Rattle.laws_line.specs.Ready.{NamedBut, Settled, steps_of}
use Rattle.laws_room.specs.pack_laws.proofs.Keys.{is_fid-itself, same_fid}
use Rattle.pack_model.specs.reading.Bodies.{body_items}
use Rattle.pack_model.specs.reading.Model.{IsNamed, Model, dir_items, root_items}
use Rattle.pack_model.specs.operations.Rooms.{items_entered, largest_run, placed}
use Rattle.pack_model.specs.reading.Slots.{Item, entry_length}
use Rattle.pack_model.specs.reading.Slots.Item.{entry}
use Rattle.pack_model.specs.operations.Step.{longest_entry, on_items, room_widening, spare_widening, step}
use Rattle.pack_model.specs.operations.Step.Operation.{enter, widen}

-- ---- the front of a line
module _ (m : Model) (d : Fid) (name : List ℕ) (s : Settled m) (short : length name ≤ 39) (h : Roomy 0 m d) where
  abbrev words : ℕ
  words = entry_length (length name)

  -- a page more for the directory
  with_page : Roomy words (step (steps_of m (spare_widening m)) (widen d)) d
  with_page = roomy_widened 0 words (steps_of m (spare_widening m)) d (omega arith) (roomy_steps 0 m (spare_widening m) d (page_leaves m sys_dir (nat_le longest_entry (largest_run (root_items m)))) h)

  -- the words for the entry are free in a row after it
  pub roomy_after : Roomy words (behind m d name s) d
  roomy_after = by (is_fid d sys_dir) refl (nat_le words (largest_run (dir_items m d))) refl
    where
      by : (b : Bool) → is_fid d sys_dir ≡ b → (c : Bool) → nat_le words (largest_run (dir_items m d)) ≡ c → Roomy words (behind m d name s) d
      by true e c k =
          let r = run_after m d name s in
          let same = ap (λ q. largest_run (dir_items (behind m d name s) q)) (same_fid d sys_dir e) in
          roomy_more 0 words (behind m d name s) d (roomy_steps 0 m (front m d name s) d (leaves_front m d name s) h) (omega arith)
      by false e true k = roomy_steps words m (front m d name s) d (leaves_front m d name s) (roomy_more 0 words m d h (leb-true words (largest_run (dir_items m d)) k))
      by false e false k =
          subst (λ n. Roomy words n d) (sym (steps_both m (spare_widening m) (room_widening m d name)))
          (subst (λ t. Roomy words (steps_of (steps_of m (spare_widening m)) (cond t [] (widen d ∷ []))) d) (sym (ap (λ b. b || nat_le words (largest_run (dir_items m d))) e ∙ k)) with_page)

-- ---- the entering
module _ (n : Model) (d : Fid) (name : List ℕ) (f : Fid) (short : length name ≤ 39) (h : Roomy (entry_length (length name)) n d) where
  abbrev entered : Model
  entered = step n (enter d name f)

  abbrev one : Item
  one = entry f name

  -- the entry is among the slots then
  among : mentions f d (items_entered one h.slotted.slots) ≡ true
  among = by (placed one h.slotted.slots) refl (let r = h.slotted.row in placed_somewhere one (omega arith) (omega arith) h.slotted.slots h.slotted.short r)
    where
      by : (r : Option (List Item)) → placed one h.slotted.slots ≡ r → is_some r ≡ true → mentions f d (unwrap_or r h.slotted.slots) ≡ true
      by None e some = absurd cc
      by (Some js) e some = let s = placed_stands d f name h.slotted.slots js e in ap (mentions f d) s.now ∙ mentions_own d s.front s.back f name

  -- so the file has its name
  own_named : IsNamed entered f
  own_named = named_there entered.files f (record {
    dir = d;
    own = on_items (items_entered one) h.own;
    there = got_updated n d (on_items (items_entered one)) d ∙ ap (λ b. cond b (option_map (on_items (items_entered one)) (get n.files d)) (get n.files d)) (is_fid-itself d) ∙ ap (option_map (on_items (items_entered one))) h.there;
    says = ap (λ x. mentions f d (body_items (on_items (items_entered one) x).body)) h.slotted.is ∙ among;
  })

  -- and all others keep theirs
  pub all_named : NamedBut n f → (g : Fid) → contains_key entered.files g ≡ true → IsNamed entered g
  all_named but g there = by (is_fid g f) refl
    where
      by : (b : Bool) → is_fid g f ≡ b → IsNamed entered g
      by true e = subst (IsNamed entered) (sym (same_fid g f e)) own_named
      by false e = named_updated n d (entering d f name short) g (λ x k. (body_enter d f name short x.body).named g) (but.others g (sym (there_updated n d (entering d f name short) g) ∙ there) e)
