use Rattle.std.proofs.Common.{◌≡◌, ◌+◌, ap, sym, ◌∙◌, arith, subst, max}
use Rattle.pack_model.specs.reading.Slots.{item_words}
use Rattle.dir_slots.specs.Items.{item_of}
use Rattle.dir_slots.proofs.Runs.{Running, next_run, running_none, running_more, running_all, take_words, words_within}
use Rattle.dir_slots.proofs.room.largest_run.Goals as goal
use Rattle.dir_slots.proofs.room.largest_run.Goals.{in-Free, in-Entry}

pub loop-slot-init : goal.loop-slot-init
loop-slot-init c = running_none c.args.slots.now

pub overflow_add-run : goal.overflow_add-run
overflow_add-run c =
    let slots = c.args.slots.now in
    let i = c.loop-slot.slot-index in
    let more = take_words slots i c.slot-item.result c.loop-slot-test.true c.slot-item.is in
    let own = ap (λ s. item_words (item_of s)) c.in-Free.is in
    let all = words_within slots (i + 1) in
    let within = c.loop-slot.invariant.within in
    let bound = c.loop-slot.invariant.bound in
    let few = c.requires in
    omega arith

pub loop-slot-preserved : goal.loop-slot-preserved
loop-slot-preserved c =
    let next : c.match-slot.run ≡ next_run c.loop-slot.run (item_of c.slot-item.result) = elim c.match-slot.branch [
      | in-Free w ↦ w.run-is ∙ ap (λ s. next_run c.loop-slot.run (item_of s)) (sym w.in-Free.is)
      | in-Entry w ↦ w.run-is ∙ ap (λ s. next_run c.loop-slot.run (item_of s)) (sym w.in-Entry.is)
    ] in
    rw c.max-largest.ensures (subst (λ n. Running c.args.slots.now (c.loop-slot.slot-index + 1) n (max n c.loop-slot.largest)) (sym next)
    (running_more c.args.slots.now c.loop-slot.slot-index c.loop-slot.run c.loop-slot.largest c.slot-item.result c.loop-slot-test.true c.slot-item.is c.loop-slot.invariant))

pub returns : goal.returns
returns c = running_all c.args.slots.now c.loop-slot.slot-index c.loop-slot.run c.loop-slot.largest c.loop-slot-test.false c.loop-slot.invariant
