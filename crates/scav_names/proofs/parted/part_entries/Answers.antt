use Rattle.std.proofs.Common.{◌≡◌, ◌∙◌, ◌++◌, ◌∷◌, [], take, sym, ap, subst}
use Rattle.std.proofs.lemmas.List.{take_more, take_all}
use Rattle.scav_names.specs.Living.{Rises, lives_in}
use Rattle.scav_names.specs.Parting.{IsPartedTo, lives_then}
use Rattle.scav_names.proofs.LivingFiles.{lets_system, lives_in_is, living_rise}
use Rattle.scav_names.proofs.parted.part_entries.Goals as goal

pub loop-entry-init : goal.loop-entry-init
loop-entry-init c = λ p has. c.new-parted.ensures (lives_then p)

pub loop-entry-preserved : goal.loop-entry-preserved
loop-entry-preserved c = λ p has.
    let living : c.as_slice-living.result.now ≡ c.args.names.now.living = c.as_slice-living.ensures in
    let rises : Rises c.as_slice-living.result.now = subst Rises (sym (living ∙ has.living)) (living_rise p) in
    let alive = c.lives_in.ensures rises ∙ ap (λ l. lives_in l c.entry-item.result.fid) (living ∙ has.living) ∙ lives_in_is p c.entry-item.result.fid in
    subst (λ l. IsPartedTo (lives_then p) l c.take.new.self) (ap (λ x. take c.loop-entry.entry-index c.as_slice-entry-items.result.now ++ x ∷ []) c.entry-item.is ∙ sym (take_more c.as_slice-entry-items.result.now c.loop-entry.entry-index c.entry-item.result c.loop-entry-test.true))
    (c.in_ok-take.ensures (lives_then p) (take c.loop-entry.entry-index c.as_slice-entry-items.result.now) (lets_system p) alive (c.loop-entry.invariant p has))

pub returns : goal.returns
returns c = λ p has.
    subst (λ l. IsPartedTo (lives_then p) l c.loop-entry.parted) (take_all c.loop-entry.entry-index c.as_slice-entry-items.result.now c.loop-entry-test.false ∙ c.as_slice-entry-items.ensures ∙ has.entries_are) (c.loop-entry.invariant p has)
