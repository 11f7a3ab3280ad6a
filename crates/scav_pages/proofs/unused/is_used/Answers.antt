use Rattle.std.proofs.Common.{◌≡◌, ◌&&◌, not, refl, sym, ap, ◌∙◌}
use Rattle.laws_mend.specs.pack_laws.proofs.Keys.{same_fid}
use Rattle.pack_model.specs.reading.Sights.{sights}
use Rattle.pack_model.specs.states.InUse.{counts}
use Rattle.alto_words.specs.Fid.{disk_descriptor}
use Rattle.scav_pages.specs.contracts.files.Met.{the_type}
use Rattle.scav_pages.specs.declared.files.Met.{Met}
use Rattle.scav_pages.specs.declared.files.Met.TheVariants.{Copy, Leader, Next, Past}
use Rattle.scav_pages.proofs.Counting.{counts_described, counts_met, fid_by_words, is_past}
use Rattle.scav_pages.proofs.unused.is_used.Goals as goal
use Rattle.scav_pages.proofs.unused.is_used.Goals.{then-eq, else-eq}
use denote.Enum.Bare.{sameb}

past_is : (met : Met) → sameb the_type met Past ≡ is_past met
past_is Copy = refl
past_is Leader = refl
past_is Next = refl
past_is Past = refl

pub returns-then-lives-clause-used : goal.returns-then-lives-clause-used
returns-then-lives-clause-used c = λ p last ended most walked first.
    let row = c.args.row.now in
    let met = c.meet-met.result in
    let walk = c.meet-met.new.self in
    let meets = c.meet-met.ensures.met p last walked first in
    let now = c.meet-met.ensures.walked p last walked first in
    let all : (walk.lives && c.if-eq.is_within) ≡ counts p.shape (sights p) row.page.fid row.page.number = elim c.if-eq.branch [
      | then-eq w ↦ ap (λ b. walk.lives && b) w.is_within-is ∙ counts_described row c.args.most met ended most first now c.meet-met.ensures.hand meets (same_fid row.page.fid disk_descriptor (sym (c.eq.ensures ∙ fid_by_words row.page.fid) ∙ w.if-eq.true))
      | else-eq w ↦ ap (λ b. walk.lives && b) (w.is_within-is ∙ w.ne-is_within.ensures ∙ ap not (past_is met)) ∙ counts_met row c.args.most met ended most first now c.meet-met.ensures.hand meets (sym (c.eq.ensures ∙ fid_by_words row.page.fid) ∙ w.if-eq.false)
    ] in
    sym (ap (λ l. l && c.if-eq.is_within) (sym c.lives.ensures ∙ c.if-lives.true)) ∙ all

pub returns-else-lives-clause-used : goal.returns-else-lives-clause-used
returns-else-lives-clause-used c = λ p last ended most walked first.
    let row = c.args.row.now in
    let met = c.meet-met.result in
    let walk = c.meet-met.new.self in
    let meets = c.meet-met.ensures.met p last walked first in
    let now = c.meet-met.ensures.walked p last walked first in
    let all : (walk.lives && c.if-eq.is_within) ≡ counts p.shape (sights p) row.page.fid row.page.number = elim c.if-eq.branch [
      | then-eq w ↦ ap (λ b. walk.lives && b) w.is_within-is ∙ counts_described row c.args.most met ended most first now c.meet-met.ensures.hand meets (same_fid row.page.fid disk_descriptor (sym (c.eq.ensures ∙ fid_by_words row.page.fid) ∙ w.if-eq.true))
      | else-eq w ↦ ap (λ b. walk.lives && b) (w.is_within-is ∙ w.ne-is_within.ensures ∙ ap not (past_is met)) ∙ counts_met row c.args.most met ended most first now c.meet-met.ensures.hand meets (sym (c.eq.ensures ∙ fid_by_words row.page.fid) ∙ w.if-eq.false)
    ] in
    c.if-lives.false ∙ sym (ap (λ l. l && c.if-eq.is_within) (sym c.lives.ensures ∙ c.if-lives.false)) ∙ all
