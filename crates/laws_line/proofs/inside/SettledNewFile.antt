-- After the line that makes a file every file has a name, and a new directory has its slots.
use Rattle.std.proofs.Common.{List, Some, [], ap, arith, cond, false, length, subst, sym, true, ℕ, ◌∙◌, ◌∷◌, ◌≡◌, ◌≤◌}
use Rattle.std.proofs.lemmas.List.Elements.{All-cons, All-nil}
use Rattle.std.specs.FinMap.{contains_key, get, get-insert}
use Rattle.std.specs.Option.{is_some}
use Rattle.laws_room.specs.alto_words.specs.Fid.{is_directory, sys_dir}
use Rattle.laws_room.specs.alto_words.specs.declared.fid.Fid.{Fid}
use Rattle.laws_line.proofs.inside.NewFile.{entered, fresh_after, leaves_entered, made, made_after, new_file_leaves_room}
use Rattle.laws_line.proofs.inside.RoomFound.{all_named, roomy_after}
use Rattle.laws_line.proofs.inside.Roomy.{Roomy, directory_roomy, roomy_directory, roomy_enter, roomy_make, roomy_steps, root_is_directory}
use Rattle.laws_line.proofs.inside.Runs.{IsShort}
use Rattle.laws_line.proofs.inside.SettledAgain.{after_line}
use Rattle.laws_line.proofs.inside.Spared.{behind, front, keeps_all, leaves_front, prepared_line}
use Rattle.laws_line.proofs.inside.Throughout.{steps_both}
use Rattle.laws_line.specs.AfterLaws.{IsDirectory, NewDirectory, SettledAfterNewFile}
use Rattle.laws_line.specs.LineLaws.{LeaveNames, new_file_line}
use Rattle.laws_line.specs.Ready.{Settled, steps_of}
use Rattle.laws_room.specs.pack_laws.proofs.Keys.{fid_total, is_fid-itself}
use Rattle.pack_model.specs.reading.Bodies.Body.{data_of, items_of}
use Rattle.pack_model.specs.operations.Committing.{pages_for_operations}
use Rattle.pack_model.specs.reading.Model.{IsNamed, Model, room}
use Rattle.pack_model.specs.reading.Slots.{entry_length}
use Rattle.pack_model.specs.reading.Slots.Item.{space}
use Rattle.pack_model.specs.operations.Step.{Operation, new_file, new_leader}
use Rattle.pack_model.specs.operations.Step.Operation.{enter, make}

module _ (m : Model) (d : Fid) (name : List ℕ) (f : Fid) (moment : ℕ) (rest : List Operation) (s : Settled m) (short : length name ≤ 39) (fresh : contains_key m.files f ≡ false) where
  abbrev line : List Operation
  line = make f name moment ∷ enter d name f ∷ rest

  -- the models after the making and the entering, and the last one
  abbrev new_made : Model
  new_made = made m d name f moment rest s short fresh

  abbrev new_entered : Model
  new_entered = entered m d name f moment rest s short fresh

  abbrev last : Model
  last = steps_of new_entered rest

  last_is : steps_of m (new_file_line m d name f moment rest) ≡ last
  last_is = steps_both m (front m d name s) line

  module _ (leaves : LeaveNames new_entered rest) where
    -- a directory stays one
    made_directory : (k : ℕ) (e : Fid) → Roomy k (behind m d name s) e → Roomy k new_made e
    made_directory k e = roomy_make k (behind m d name s) f name moment e (fresh_after m d name f moment rest s short fresh)

    last_directory : (e : Fid) → Roomy 0 new_made e → Roomy 0 last e
    last_directory e h = roomy_steps 0 new_entered rest e leaves (roomy_enter new_made d name f e short h)

    stays : (e : Fid) → Roomy 0 m e → Roomy 0 last e
    stays e h = last_directory e (made_directory 0 e (roomy_steps 0 m (front m d name s) e (leaves_front m d name s) h))

    -- every file has a name
    named : Roomy 0 m d → pages_for_operations m (new_file_line m d name f moment rest) ≤ room m → (g : Fid) → contains_key last.files g ≡ true → IsNamed last g
    named h few g there =
        let k = keeps_all new_entered rest leaves in
        let but = (made_after m d name f moment rest s short fresh (prepared_line m d name s line few)).named in
        k.named g (all_named new_made d name f short (made_directory (entry_length (length name)) d (roomy_after m d name s short h)) but g (sym (k.there g) ∙ there))

  -- a directory that is made has a free slot of 255 words
  new_slots : is_directory f ≡ true → Roomy 0 new_made f
  new_slots e = record {
    own = new_file f name moment;
    there = get-insert fid_total (behind m d name s).files f (new_file f name moment) f ∙ ap (λ b. cond b (Some (new_file f name moment)) (get (behind m d name s).files f)) (is_fid-itself f);
    slotted = record {
      lead = new_leader name moment;
      slots = space 255 ∷ [];
      is = ap (λ b. record { leader = new_leader name moment; body = cond b (items_of (space 255 ∷ [])) (data_of []) }) e;
      short = All-cons IsShort (space 255) [] (omega arith) (All-nil IsShort);
      row = omega arith;
    };
  }

pub settled_after_new_file : SettledAfterNewFile
settled_after_new_file m d name f moment rest s dir short fresh after_leaves few =
    let leaves = leaves_entered m d name f moment rest s short fresh after_leaves in
    after_line m (new_file_line m d name f moment rest) (last m d name f moment rest s short fresh) (last_is m d name f moment rest s short fresh) s
    (new_file_leaves_room m d name f moment rest s short fresh after_leaves few) (named m d name f moment rest s short fresh leaves (directory_roomy m d dir) few)
    (λ e there h. stays m d name f moment rest s short fresh leaves e h)
    (ap is_some (stays m d name f moment rest s short fresh leaves sys_dir (directory_roomy m sys_dir (root_is_directory m s))).there)

pub new_directory : NewDirectory
new_directory m d name f moment rest s kind short fresh after_leaves =
    subst (λ n. IsDirectory n f) (sym (last_is m d name f moment rest s short fresh))
    (roomy_directory 0 (last m d name f moment rest s short fresh) f
    (last_directory m d name f moment rest s short fresh (leaves_entered m d name f moment rest s short fresh after_leaves) f (new_slots m d name f moment rest s short fresh kind)))
