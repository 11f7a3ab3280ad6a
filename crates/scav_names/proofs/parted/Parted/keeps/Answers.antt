use Rattle.std.proofs.Common.{◌≡◌, ◌∙◌, not, refl, sym, ap}
use Rattle.std.specs.Prelude.{◌&&◌}
use Rattle.alto_words.specs.Fid.{is_fid, sys_dir, disk_descriptor}
use Rattle.alto_words.specs.Names.{is_same_name}
use Rattle.scav_pages.specs.pack_laws.proofs.Keys.{same_fid}
use Rattle.pack_model.specs.reading.Namings.{descriptor_name, sys_dir_name}
use Rattle.kept_names.proofs.Tests.{fid_eq}
use Rattle.scav_names.proofs.Parting.{judged_descriptor, judged_by, judged_root}
use Rattle.scav_names.proofs.parted.Parted.keeps.Goals as goal
use Rattle.scav_names.proofs.parted.Parted.keeps.Goals.{then-not-self, else-not-self, then-not-self-2, else-not-self-2}

pub returns-then-eq : goal.returns-then-eq
returns-then-eq c = λ alive before lets lives h.
    let e = c.args.entry.now in
    let keeps : c.if-not-self.keeps ≡ (not c.args.self.now.names_root && (is_fid e.dir sys_dir && is_same_name e.name sys_dir_name)) = elim c.if-not-self.branch [
      | then-not-self w ↦ w.keeps-is ∙ w.is_own-keeps.ensures ∙ ap (λ b. not b && (is_fid e.dir sys_dir && is_same_name e.name sys_dir_name)) (sym w.if-not-self.true)
      | else-not-self w ↦ w.keeps-is ∙ ap not w.if-not-self.false ∙ ap (λ b. not b && (is_fid e.dir sys_dir && is_same_name e.name sys_dir_name)) (sym w.if-not-self.false)
    ] in
    judged_root alive before e c.args.self.now _ c.if-not-self.keeps lets h refl refl (same_fid e.fid sys_dir (fid_eq e.fid sys_dir ∙ sym c.eq.ensures ∙ c.if-eq.true)) keeps refl refl refl

pub returns-then-eq-2 : goal.returns-then-eq-2
returns-then-eq-2 c = λ alive before lets lives h.
    let e = c.args.entry.now in
    let keeps : c.if-not-self-2.keeps ≡ (not c.args.self.now.names_descriptor && (is_fid e.dir sys_dir && is_same_name e.name descriptor_name)) = elim c.if-not-self-2.branch [
      | then-not-self-2 w ↦ w.keeps-is ∙ w.is_own-keeps-then-not-self-2.ensures ∙ ap (λ b. not b && (is_fid e.dir sys_dir && is_same_name e.name descriptor_name)) (sym w.if-not-self-2.true)
      | else-not-self-2 w ↦ w.keeps-is ∙ ap not w.if-not-self-2.false ∙ ap (λ b. not b && (is_fid e.dir sys_dir && is_same_name e.name descriptor_name)) (sym w.if-not-self-2.false)
    ] in
    judged_descriptor alive before e c.args.self.now _ c.if-not-self-2.keeps lets h refl refl (same_fid e.fid disk_descriptor (fid_eq e.fid disk_descriptor ∙ sym c.eq-2.ensures ∙ c.if-eq-2.true)) keeps refl refl refl

pub returns : goal.returns
returns c = λ alive before lets lives h.
    let e = c.args.entry.now in
    judged_by alive before e c.args.self.now _ lets h refl refl (fid_eq e.fid sys_dir ∙ sym c.eq.ensures ∙ c.if-eq.false) (fid_eq e.fid disk_descriptor ∙ sym c.eq-2.ensures ∙ c.if-eq-2.false)
    c.consider.result (c.consider.ensures.kept alive _ lives h.names) (c.consider.ensures.names alive _ lives h.names) refl refl
