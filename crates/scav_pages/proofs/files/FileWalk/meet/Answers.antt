use Rattle.std.proofs.Common.{rules, Option, sym, subst}
use Rattle.disk_records.specs.Packs.{Pack}
use Rattle.scav_table.specs.declared.row.Row.{Row}
use Rattle.scav_table.specs.Laws.{IsFirstAbove}
use Rattle.scav_pages.specs.Begins.{Begun}
use Rattle.scav_pages.specs.Walks.{IsOtherFile, Walked}
use Rattle.scav_pages.proofs.Passing.{contrary}
use Rattle.scav_pages.proofs.Walking.{begun_fresh, begun_here, copy_walked, met_copy, other_file, row_in_hand}
use Rattle.scav_pages.proofs.files.FileWalk.meet.Goals as goal
use Rattle.scav_pages.proofs.files.FileWalk.meet.Goals.{else-leaves, then-leaves}

pub returns-then-repeats-clause-walked : goal.returns-then-repeats-clause-walked
returns-then-repeats-clause-walked c = λ p last w first.
    let hand = row_in_hand c.args.self.now c.args.row.now.page (c.repeats.ensures.copy.0 (search rules)) in
    copy_walked hand.0 w c.repeats.ensures.words first hand.1 hand.2

pub returns-then-repeats-clause-met : goal.returns-then-repeats-clause-met
returns-then-repeats-clause-met c = λ p last w first.
    let hand = row_in_hand c.args.self.now c.args.row.now.page (c.repeats.ensures.copy.0 (search rules)) in
    met_copy hand.0 w c.repeats.ensures.words first hand.1 hand.2

begun : (c : goal.After-take) (p : Pack) (last : Option Row) → Walked p last c.args.self.now → IsFirstAbove p last c.args.row.now → Begun p last c.args.row.now c.if-leaves.self
begun c p last w first =
    let words = c.repeats.ensures.words in
    elim c.if-leaves.branch [
      | then-leaves x ↦
          let other : IsOtherFile c.args.self.now c.args.row.now = c.leaves.ensures.0 (search rules) in
          subst (Begun p last c.args.row.now) (sym x.self-is) (begun_fresh x.new.ensures.fresh w.formed words (other_file c.args.row.now w other) first)
      | else-leaves x ↦ subst (Begun p last c.args.row.now) (sym x.self-is) (begun_here w words first (λ e. contrary (c.repeats.ensures.copy.1 e) c.if-repeats.false) (λ other. contrary (c.leaves.ensures.1 other) x.if-leaves.false))
    ]

pub returns-clause-walked : goal.returns-clause-walked
returns-clause-walked c = λ p last w first. c.take.ensures.walked p last (begun c p last w first)

pub returns-clause-met : goal.returns-clause-met
returns-clause-met c = λ p last w first. c.take.ensures.met p last (begun c p last w first)

pub returns-clause-goes : goal.returns-clause-goes
returns-clause-goes c = λ p last w first is. c.take.ensures.goes p last (begun c p last w first) is
