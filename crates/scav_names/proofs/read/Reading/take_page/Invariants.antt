use Rattle.std.proofs.Common.{◌≡◌, ◌+◌, ◌-◌, ◌≤◌, ◌++◌, ℕ, List, length, take}
use Rattle.dir_slots.specs.Walks as slot_walk
use Rattle.scav_names.specs.Readings.{MeetsSlots}
use Rattle.scav_names.proofs.read.Reading.take_page.Given as goal

abbrev pub decreases-loop-met : goal.decreases-loop-met
decreases-loop-met g l = length l.words - l.from

abbrev pub invariant-loop-met : goal.invariant-loop-met
invariant-loop-met g l = record {
  within : l.from ≤ length l.words;
  long : length l.words ≤ 256;
  few : l.self.slots.place + l.self.slots.held ≤ l.fn.self.slots.place + l.fn.self.slots.held + l.from;
  walk : l.self.walk ≡ l.fn.self.walk;
  living : l.self.catalogue.living ≡ l.fn.self.catalogue.living;
  pages : l.self.catalogue.root_pages ≡ l.fn.self.catalogue.root_pages;
  met : (given : List ℕ) → slot_walk.Walked given l.fn.self.slots → MeetsSlots l.row.page.fid given (given ++ take l.from l.words) l.fn.self.catalogue l.self.catalogue l.self.slots;
}
