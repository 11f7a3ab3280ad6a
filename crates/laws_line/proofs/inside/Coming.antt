-- An entry comes: its file has a name then, or the entry has no room and nothing changes.
use Rattle.std.proofs.Common.{◌*◌, ◌+◌, ◌∙◌, ◌≡◌, ◌≤◌, ◌⊎◌, Bool, List, None, Option, Some, ap, arith, cond, false, inl, inr, length, refl, sym, true, ℕ}
use Rattle.std.specs.FinMap.{entries, get}
use Rattle.std.specs.List.{list_any}
use Rattle.std.specs.Option.{option_map, unwrap_or}
use Rattle.std.specs.Prelude.{All}
use Rattle.laws_room.specs.alto_words.specs.Fid.{disk_descriptor, is_fid, sys_dir}
use Rattle.laws_room.specs.alto_words.specs.declared.fid.Fid.{Fid}
use Rattle.laws_room.proofs.Standing.{placed_stands, placed_words}
use Rattle.laws_line.proofs.inside.EnteredSlots.{placed_short}
use Rattle.laws_line.proofs.inside.Mentions.{mentions, mentions_more, mentions_own, named_there}
use Rattle.laws_line.proofs.inside.Runs.{IsShort}
use Rattle.laws_line.proofs.inside.Spared.{Spared}
use Rattle.laws_line.proofs.inside.Updates.{got_updated, items_updated, named_updated, names_updated, pages_updated, there_updated}
use Rattle.laws_line.specs.Ready.{Ready}
use Rattle.laws_room.specs.pack_laws.proofs.Keys.{same_fid}
use Rattle.pack_model.specs.reading.Bodies.{Body, File, body_items, body_length, items_in, pages_for}
use Rattle.pack_model.specs.reading.Bodies.Body.{data_of, items_of}
use Rattle.pack_model.specs.reading.Model.{IsNamed, Model, files_pages, root_items}
use Rattle.pack_model.specs.operations.Rooms.{items_entered, largest_run, placed}
use Rattle.pack_model.specs.reading.Slots.{Item, all_words}
use Rattle.pack_model.specs.reading.Slots.Item.{entry}
use Rattle.pack_model.specs.operations.Step.{body_slots, longest_entry, on_items, step}
use Rattle.pack_model.specs.operations.Step.Operation.{enter}

-- What becomes of slots: they have as many words, no entry goes, and the file has one, or they are as before.
pub record Enters (d f : Fid) (is js : List Item) : Type 0 where
  pub words : all_words js ≡ all_words is
  pub short : All IsShort is → All IsShort js
  pub named : (q : Fid) → mentions q d is ≡ true → mentions q d js ≡ true
  pub own : (mentions f d js ≡ true) ⊎ (js ≡ is)

pub slots_enter : (d f : Fid) (name : List ℕ) (is : List Item) → length name ≤ 39 → Enters d f is (items_entered (entry f name) is)
slots_enter d f name is short = by (placed (entry f name) is) refl
  where
    by : (r : Option (List Item)) → placed (entry f name) is ≡ r → Enters d f is (unwrap_or r is)
    by None e = record { words = refl; short = λ h. h; named = λ q h. h; own = inr refl }
    by (Some js) e =
        let s = placed_stands d f name is js e in
        record {
          words = placed_words (entry f name) is js e;
          short = λ h. placed_short (entry f name) is js (omega arith) h e;
          named = λ q h. ap (mentions q d) s.now ∙ mentions_more q d s.front s.back f name (sym (ap (list_any (λ n. is_fid n.fid q)) s.was) ∙ h);
          own = inl (ap (mentions f d) s.now ∙ mentions_own d s.front s.back f name);
        }

-- the same of a file
module _ (d f : Fid) (name : List ℕ) (short : length name ≤ 39) where
  abbrev pub entering : File → File
  entering = on_items (items_entered (entry f name))

  pub body_enter : (b : Body) → Enters d f (body_items b) (body_items (body_slots (items_entered (entry f name)) b))
  body_enter (data_of bytes) = record { words = refl; short = λ h. h; named = λ q h. h; own = inr refl }
  body_enter (items_of is) = slots_enter d f name is short

  body_pages : (b : Body) → pages_for (body_length (body_slots (items_entered (entry f name)) b)) ≡ pages_for (body_length b)
  body_pages (data_of bytes) = refl
  body_pages (items_of is) = ap (λ n. pages_for (n * 2)) (slots_enter d f name is short).words

  -- ---- the model
  module _ (m : Model) where
    -- no more pages
    pub entered_pages : files_pages (entries (step m (enter d name f)).files) ≤ files_pages (entries m.files) + 0
    entered_pages = pages_updated m d entering 0 (λ x e. let p = body_pages x.body in omega arith)

    -- it is ready, if the file alone had no name and SysDir the run
    pub entered_ready : Spared m f → Ready (step m (enter d name f))
    entered_ready s =
        let p = entered_pages in
        let q = s.fitting.pages in
        record {
          fitting = record {
            pages = omega arith;
            names = names_updated m d entering (λ x e h. h) s.fitting.names;
            slots = items_updated m d entering (All IsShort) sys_dir (λ x e. (body_enter x.body).short) s.fitting.slots;
          };
          nameless = f;
          named = record {
            main = named sys_dir s.named.main;
            descriptor = named disk_descriptor s.named.descriptor;
            others = λ g there other. named g (s.named.others g (sym (there_updated m d entering g) ∙ there) other);
          };
          room = in_root (is_fid sys_dir d) refl;
        }
      where
        named : (q : Fid) → IsNamed m q → IsNamed (step m (enter d name f)) q
        named q h = named_updated m d entering q (λ x e. (body_enter x.body).named q) h

        in_root : (b : Bool) → is_fid sys_dir d ≡ b → IsNamed (step m (enter d name f)) f ⊎ (longest_entry ≤ largest_run (root_items (step m (enter d name f))))
        in_root false e =
            let same : root_items (step m (enter d name f)) ≡ root_items m = ap items_in (got_updated m d entering sys_dir ∙ ap (λ b. cond b (option_map entering (get m.files d)) (get m.files sys_dir)) e) in
            let r = ap largest_run same in
            let h = s.run in
            inr (omega arith)
        in_root true e = at (get m.files d) refl
          where
            now : get (step m (enter d name f)).files d ≡ option_map entering (get m.files d)
            now = got_updated m d entering d ∙ ap (λ b. cond b (option_map entering (get m.files d)) (get m.files d)) (ap (λ k. is_fid k d) (sym (same_fid sys_dir d e)) ∙ e)

            root_now : root_items (step m (enter d name f)) ≡ items_in (option_map entering (get m.files d))
            root_now = ap (λ k. items_in (get (step m (enter d name f)).files k)) (same_fid sys_dir d e) ∙ ap items_in now

            root_was : root_items m ≡ items_in (get m.files d)
            root_was = ap (λ k. items_in (get m.files k)) (same_fid sys_dir d e)

            at : (r : Option File) → get m.files d ≡ r → IsNamed (step m (enter d name f)) f ⊎ (longest_entry ≤ largest_run (root_items (step m (enter d name f))))
            at None g = absurd (let h = s.run in let n = ap largest_run (root_was ∙ ap items_in g) in omega arith)
            at (Some x) g = own (body_enter x.body).own
              where
                own : (mentions f d (body_items (entering x).body) ≡ true) ⊎ (body_items (entering x).body ≡ body_items x.body) → IsNamed (step m (enter d name f)) f ⊎ (longest_entry ≤ largest_run (root_items (step m (enter d name f))))
                own (inl k) = inl (named_there (step m (enter d name f)).files f (record { dir = d; own = entering x; there = now ∙ ap (option_map entering) g; says = k }))
                own (inr k) =
                    let h = s.run in
                    let a = ap largest_run (root_was ∙ ap items_in g) in
                    let b = ap largest_run (root_now ∙ ap (λ r. items_in (option_map entering r)) g ∙ k) in
                    inr (omega arith)
