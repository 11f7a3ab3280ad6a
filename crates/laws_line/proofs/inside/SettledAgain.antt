-- Models after a line in which every file has a name.
use Rattle.std.proofs.Common.{List, [], ap, refl, subst, sym, true, ◌∙◌, ◌∷◌, ◌≡◌}
use Rattle.std.specs.FinMap.{contains_key}
use Rattle.std.specs.Option.{is_some}
use Rattle.laws_room.specs.alto_words.specs.Fid.{sys_dir}
use Rattle.laws_room.specs.alto_words.specs.declared.fid.Fid.{Fid}
use Rattle.laws_line.proofs.inside.Roomy.{Roomy, directory_roomy, roomy_directory, roomy_steps, root_is_directory}
use Rattle.laws_line.proofs.inside.Spared.{keeps_all}
use Rattle.laws_line.proofs.inside.Throughout.{changes_leave_room, last_ready}
use Rattle.laws_line.specs.AfterLaws.{PrefixReady, IsDirectory, SettledAfterChanges, SettledAfter}
use Rattle.laws_line.specs.Ready.{Ready, ReadyThroughout, Settled, steps_of}
use Rattle.pack_model.specs.reading.Model.{IsNamed, Model}
use Rattle.pack_model.specs.operations.Step.{Operation, step}

-- the first of several models is ready
pub first_ready : (m : Model) (more : List Operation) → ReadyThroughout m more → Ready m
first_ready m [] h = h
first_ready m (o ∷ more) h = h.0

pub prefix_ready : PrefixReady
prefix_ready m [] more h = first_ready m more h
prefix_ready m (o ∷ ops) more h = (h.0, prefix_ready (step m o) ops more h.1)

-- a ready model in which SysDir is there with its slots and every file has a name
settled_last : (n : Model) → Ready n → IsDirectory n sys_dir → ((g : Fid) → contains_key n.files g ≡ true → IsNamed n g) → Settled n
settled_last n r root all = record {
  fitting = r.fitting;
  root = (root.lead, root.slots, root.there);
  main = r.named.main;
  descriptor = r.named.descriptor;
  all = all;
}

-- so after a line, whose last model this is
pub after_line : (m : Model) (ops : List Operation) (n : Model) → steps_of m ops ≡ n → Settled m → ReadyThroughout m ops
    → ((g : Fid) → contains_key n.files g ≡ true → IsNamed n g)
    → ((d : Fid) → contains_key n.files d ≡ true → Roomy 0 m d → Roomy 0 n d) → contains_key n.files sys_dir ≡ true → SettledAfter m ops
after_line m ops n e s ready all stays root = record {
  ready = ready;
  behind = subst Settled (sym e) (settled_last n (subst Ready e (last_ready m ops ready)) (roomy_directory 0 n sys_dir (stays sys_dir root (directory_roomy m sys_dir (root_is_directory m s)))) all);
  directories = λ d h there. subst (λ k. IsDirectory k d) (sym e) (roomy_directory 0 n d (stays d (ap (λ k. contains_key k.files d) (sym e) ∙ there) (directory_roomy m d h)));
}

-- ---- operations that leave names as they are
pub settled_after_changes : SettledAfterChanges
settled_after_changes m ops s leaves few =
    let k = keeps_all m ops leaves in
    after_line m ops (steps_of m ops) refl s (changes_leave_room m ops s leaves few) (λ g there. k.named g (s.all g (sym (k.there g) ∙ there))) (λ d there h. roomy_steps 0 m ops d leaves h)
    (k.there sys_dir ∙ ap is_some s.root.2)
