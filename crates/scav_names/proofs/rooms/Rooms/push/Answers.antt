use Rattle.std.proofs.Common.{◌∙◌, ◌+◌, min, ap}
use Rattle.scav_names.proofs.Growing.{entry_pushed, free_slot_pushed, slot_pushed, slots_pushed}
use Rattle.scav_names.proofs.rooms.Rooms.push.Goals as goal
use Rattle.scav_names.proofs.rooms.Rooms.push.Goals.{in-Free+in_ok-insert, in_default}

pub returns-clause-rooms : goal.returns-clause-rooms
returns-clause-rooms c = λ is has few.
    let then = c.saturating_add-self.ensures ∙ ap (λ x. min (c.match-slot.self.end + x) 4294967295) (c.from.ensures ∙ c.words.ensures) in
    elim c.match-slot.branch [
      | in-Free+in_ok-insert w ↦
          slot_pushed c.args.self.now c.match-slot.self c.args.slot.now _ is has c.requires.size few
          (free_slot_pushed c.args.self.now c.match-slot.self c.args.slot.now w.in-Free.words is has w.in-Free.is (ap (λ r. r.free.entries) w.self-is ∙ w.in_ok-insert.ensures.entries))
          (record { end_is = ap (λ r. r.end) w.self-is; from = ap (λ r. r.from) w.self-is; then = then })
      | in_default w ↦
          slot_pushed c.args.self.now c.match-slot.self c.args.slot.now _ is has c.requires.size few
          (entry_pushed c.args.self.now c.match-slot.self c.args.slot.now is has w.in_default.not-Free (ap (λ r. r.free.entries) w.self-is))
          (record { end_is = ap (λ r. r.end) w.self-is; from = ap (λ r. r.from) w.self-is; then = then })
    ]

pub returns-clause-slots : goal.returns-clause-slots
returns-clause-slots c = λ is has few.
    let rooms = returns-clause-rooms c is has.rooms_are few in
    elim c.match-slot.branch [
      | in-Free+in_ok-insert w ↦ slots_pushed c.args.self.now _ is _ has (ap (λ r. r.from) w.self-is) rooms
      | in_default w ↦ slots_pushed c.args.self.now _ is _ has (ap (λ r. r.from) w.self-is) rooms
    ]
