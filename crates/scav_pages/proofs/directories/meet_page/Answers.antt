use Rattle.std.proofs.Common.{◌≡◌, ℕ, List, ◌++◌, take, ap, ◌∙◌, refl, sym, subst, arith, length-take}
use Rattle.alto_words.specs.Fid.{is_directory}
use Rattle.disk_records.proofs.Growing.{alone_here}
use Rattle.dir_slots.specs.Walks as slot_walk
use Rattle.scav_pages.specs.declared.files.Met.TheVariants.{Next}
use Rattle.scav_pages.proofs.Causing.{cause_of_guarded}
use Rattle.scav_pages.proofs.Cutting.{label_counts}
use Rattle.scav_pages.proofs.DirectoryReading.{going_of, next_of, not_next, number_of, read_fed, read_other, read_past}
use Rattle.scav_pages.proofs.directories.meet_page.Goals as goal
use Rattle.scav_pages.proofs.directories.meet_page.Goals.{then-ne-via-then-ne, then-ne-via-else-ne+then-not-wants}

pub returns-then-ne-clause-read : goal.returns-then-ne-clause-read
returns-then-ne-clause-read g c = λ told p last is first at.
    let same = c.requires.same in
    let walked = c.meet.ensures.walked p last is.walked first in
    elim c.then-ne.branch [
      | then-ne-via-then-ne w ↦ read_other p last c.args.row.now c.args.dir.now _ is same walked c.meet.ensures.hand c.meet.result (c.meet.ensures.pages same) (c.meet.ensures.bytes same) (not_next c.meet.result (sym c.ne.ensures ∙ w.if-ne.true)) refl refl
      | then-ne-via-else-ne+then-not-wants w ↦
          let next : c.meet.result ≡ Next = next_of c.meet.result (sym c.ne.ensures ∙ w.if-ne.false) in
          read_past p last c.args.row.now c.args.dir.now _ is same walked c.meet.ensures.hand c.meet.result (c.meet.ensures.pages same) (c.meet.ensures.bytes same) next (c.meet.ensures.goes p last is.walked first next) (sym w.wants.ensures ∙ w.if-not-wants.true) refl refl
    ]

pub shared_ref_as_front-feed : goal.shared_ref_as_front-feed
shared_ref_as_front-feed g c =
    let few = label_counts c.read_page.new.buf.label (record { fid = c.args.row.now.page.fid; number = c.args.row.now.page.number }) c.in_ok-info.ensures.page.names in
    let tells = ap (λ i. i.bytes) c.in_ok-info.ensures.tells in
    let from = c.from.ensures in
    omega (arith, few, tells, from)

pub feed-requires : goal.feed-requires
feed-requires g c = record {
  fits =
      let few = c.args.dir.now.few in
      let cut = length-take c.from.result c.read_page.new.buf.value in
      let whole = c.in_ok-info.ensures.whole in
      let pages = c.meet.ensures.pages c.requires.same in
      let low = c.args.dir.now.walk.low in
      let few_words = label_counts c.read_page.new.buf.label (record { fid = c.args.row.now.page.fid; number = c.args.row.now.page.number }) c.in_ok-info.ensures.page.names in
      let tells = ap (λ i. i.bytes) c.in_ok-info.ensures.tells in
      let from = c.from.ensures in
      omega (arith, few, cut, whole, low, few_words, tells, from);
}

pub returns-then-page-from-clause-read : goal.returns-then-page-from-clause-read
returns-then-page-from-clause-read g c = λ told p last is first at.
    let same = c.requires.same in
    let walked = c.meet.ensures.walked p last is.walked first in
    let next : c.meet.result ≡ Next = next_of c.meet.result (sym c.ne.ensures ∙ c.if-ne.false) in
    let goes = c.meet.ensures.goes p last is.walked first next in
    let pages = c.meet.ensures.pages same in
    let bytes = c.meet.ensures.bytes same in
    let number = number_of c.args.dir.now.walk c.meet.new.self c.args.row.now c.meet.result pages next goes in
    let place = c.page.ensures in
    let from = c.from-2.ensures in
    let holds = (c.in_ok-info.ensures.read told).holds ∙ at in
    let tells = ap (λ i. i.bytes) c.in_ok-info.ensures.tells in
    let wanted = sym c.wants.ensures ∙ c.if-not-wants.false in
    let walks = λ (given : List ℕ) (w : slot_walk.Walked given c.args.dir.now.slots). subst (λ k. slot_walk.Walked (given ++ take k c.read_page.new.buf.value) c.feed.new.self) c.from.ensures (c.feed.ensures.walked given w) in
    read_fed p last c.args.row.now c.args.dir.now _ is same walked c.meet.ensures.hand c.meet.result pages bytes next goes first (c.meet.ensures.met p last is.walked first) c.read_page.new.buf c.in_ok-info.info.bytes holds tells (going_of c.meet.new.self.lives (is_directory c.args.row.now.page.fid) c.args.dir.now.slots.ended wanted) walks
    (λ here. refl) (λ other. absurd (let one = c.if-page-from.true in other (omega (arith, one, place, from, number))))

pub returns-else-page-from-clause-read : goal.returns-else-page-from-clause-read
returns-else-page-from-clause-read g c = λ told p last is first at.
    let same = c.requires.same in
    let walked = c.meet.ensures.walked p last is.walked first in
    let next : c.meet.result ≡ Next = next_of c.meet.result (sym c.ne.ensures ∙ c.if-ne.false) in
    let goes = c.meet.ensures.goes p last is.walked first next in
    let pages = c.meet.ensures.pages same in
    let bytes = c.meet.ensures.bytes same in
    let number = number_of c.args.dir.now.walk c.meet.new.self c.args.row.now c.meet.result pages next goes in
    let place = c.page.ensures in
    let from = c.from-2.ensures in
    let holds = (c.in_ok-info.ensures.read told).holds ∙ at in
    let tells = ap (λ i. i.bytes) c.in_ok-info.ensures.tells in
    let wanted = sym c.wants.ensures ∙ c.if-not-wants.false in
    let walks = λ (given : List ℕ) (w : slot_walk.Walked given c.args.dir.now.slots). subst (λ k. slot_walk.Walked (given ++ take k c.read_page.new.buf.value) c.feed.new.self) c.from.ensures (c.feed.ensures.walked given w) in
    read_fed p last c.args.row.now c.args.dir.now _ is same walked c.meet.ensures.hand c.meet.result pages bytes next goes first (c.meet.ensures.met p last is.walked first) c.read_page.new.buf c.in_ok-info.info.bytes holds tells (going_of c.meet.new.self.lives (is_directory c.args.row.now.page.fid) c.args.dir.now.slots.ended wanted) walks
    (λ here. absurd (let one = c.if-page-from.false in one (omega (arith, here, place, from, number)))) (λ other. refl)

pub returns-in_err-info-clause-cause : goal.returns-in_err-info-clause-cause
returns-in_err-info-clause-cause g c = cause_of_guarded c.in_err-info.field-0.0 c.from_residual.result (alone_here _) refl c.in_err-info.ensures.looks.alone c.in_err-info.ensures.cause c.from_residual.ensures.1
