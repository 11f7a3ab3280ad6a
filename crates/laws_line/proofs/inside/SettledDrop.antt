-- After a file that goes the others have their names, and directories their slots.
use Rattle.std.proofs.Common.{None, Option, Some, [], ap, arith, refl, true, ◌∙◌, ◌∷◌, ◌≡◌}
use Rattle.std.specs.FinMap.{contains_key, get}
use Rattle.std.specs.Option.{is_some, option_map}
use Rattle.laws_room.specs.alto_words.specs.Fid.{sys_dir}
use Rattle.laws_room.specs.alto_words.specs.declared.fid.Fid.{Fid}
use Rattle.laws_line.proofs.inside.Dropped.{drop_leaves_room, got_other, named_still, now, root_other, short_kept, stays}
use Rattle.laws_line.proofs.inside.Roomy.{Roomy, Slotted, slotted_by}
use Rattle.laws_line.proofs.inside.SettledAgain.{after_line}
use Rattle.laws_line.specs.AfterLaws.{SettledAfterDrop}
use Rattle.laws_line.specs.LineLaws.{MayGo}
use Rattle.laws_line.specs.Ready.{Settled}
use Rattle.pack_model.specs.reading.Bodies.{File}
use Rattle.pack_model.specs.reading.Model.{IsNamed, Model}
use Rattle.pack_model.specs.operations.Step.{file_without, items_without, step}
use Rattle.pack_model.specs.operations.Step.Operation.{drop_file}

module _ (m : Model) (f : Fid) (s : Settled m) (h : MayGo m f) where
  -- a file that is there then has its name
  all_named : (g : Fid) (r : Option File) → get (now m f s h) g ≡ r → is_some r ≡ true → IsNamed (step m (drop_file f)) g
  all_named g None e t = cc
  all_named g (Some y) e t = let k = stays m f s h g y e in named_still m f s h g k.other (s.all g (ap is_some k.there))

  -- a directory has slots without the file's entries
  without : (d : Fid) (x : File) → Slotted 0 x → Slotted 0 (file_without f d x)
  without d = slotted_by (file_without f d) 0 0 (λ l is short row. record { lead = l; slots = items_without f is; is = refl; short = short_kept f is short; row = omega arith })

  directory : (d : Fid) → Roomy 0 m d → (r : Option File) → get (now m f s h) d ≡ r → is_some r ≡ true → Roomy 0 (step m (drop_file f)) d
  directory d k None e t = absurd cc
  directory d k (Some y) e t = record {
    own = file_without f d k.own;
    there = got_other m f s h d (stays m f s h d y e).other ∙ ap (option_map (file_without f d)) k.there;
    slotted = without d k.own k.slotted;
  }

  -- SysDir is another file
  root_there : contains_key (now m f s h) sys_dir ≡ true
  root_there = ap is_some (got_other m f s h sys_dir (root_other m f s h) ∙ ap (option_map (file_without f sys_dir)) s.root.2)

pub settled_after_drop : SettledAfterDrop
settled_after_drop m f s h = after_line m (drop_file f ∷ []) (step m (drop_file f)) refl s (drop_leaves_room m f s h) (λ g there. all_named m f s h g (get (now m f s h) g) refl there)
    (λ d there k. directory m f s h d k (get (now m f s h) d) refl there) (root_there m f s h)
