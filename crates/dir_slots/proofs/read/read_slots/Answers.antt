use Rattle.std.proofs.Common.{◌≡◌, length, drop, Some, None, sym, ap, ◌∙◌, refl, arith, rules}
use Rattle.std.proofs.lemmas.List.{take_rest, length-drop}
use Rattle.std.proofs.lemmas.List.Elements.{All-push, All-weaker}
use Rattle.pack_model.specs.reading.Slots.{slot_at, all_words}
use Rattle.pack_model.specs.reading.SlotWords.{address_at}
use Rattle.dir_slots.specs.Items.{item_of, address_of, IsInRange, HasFreeLength}
use Rattle.dir_slots.specs.Laws.{HasStoredName}
use Rattle.dir_slots.proofs.Heads.{free_in_range}
use Rattle.dir_slots.proofs.Slots.{items_more, addresses_more, all_words_more, items_end, addresses_end}
use Rattle.dir_slots.proofs.read.read_slots.Goals as goal

pub loop-slot-init : goal.loop-slot-init
loop-slot-init c = record {
  items = rw c.new-read.ensures.items refl;
  addresses = rw c.new-read.ensures.items refl;
  in_range = search rules;
  stored = search rules;
  size = rw c.new-read.ensures.items refl;
  within = search rules;
}

pub loop-slot-preserved : goal.loop-slot-preserved
loop-slot-preserved c =
    let words = c.args.words.now in
    let at = c.loop-slot.at in
    let read = c.loop-slot.read.items in
    let slot = c.in-Some.slot in
    let rest = take_rest words at in
    let some : slot_at (drop at words) ≡ Some (item_of slot) = sym (ap slot_at rest) ∙ sym c.in-Some.ensures.item in
    let address : address_of slot ≡ address_at (drop at words) 0 (item_of slot) = c.in-Some.ensures.address ∙ ap (λ l. address_at l 0 (item_of slot)) rest in
    let most = c.in-Some.ensures.most in
    record {
      items = rw (c.in_ok-push.ensures.items, c.words.ensures) (items_more words at read slot some c.loop-slot.invariant.items);
      addresses = rw (c.in_ok-push.ensures.items, c.words.ensures) (addresses_more words at read slot some address c.loop-slot.invariant.addresses);
      in_range = rw c.in_ok-push.ensures.items (All-push IsInRange read slot c.loop-slot.invariant.in_range c.in-Some.ensures.in_range);
      stored = rw c.in_ok-push.ensures.items (All-push HasStoredName read slot c.loop-slot.invariant.stored c.in-Some.ensures.stored);
      size = rw (c.in_ok-push.ensures.items, c.words.ensures) (let e = all_words_more read slot in omega arith);
      within = rw c.words.ensures (let e = ap length rest in let f = length-drop at words in omega (arith, most));
    }

pub returns-clause-items : goal.returns-clause-items
returns-clause-items c =
    let words = c.args.words.now in
    let none : slot_at (drop c.loop-slot.at words) ≡ None = sym (ap slot_at (take_rest words c.loop-slot.at)) ∙ sym c.in_default.ensures.item in
    rw c.from_vec.ensures (items_end words c.loop-slot.at c.loop-slot.read.items none c.loop-slot.invariant.items)

pub returns-clause-addresses : goal.returns-clause-addresses
returns-clause-addresses c =
    let words = c.args.words.now in
    let none : slot_at (drop c.loop-slot.at words) ≡ None = sym (ap slot_at (take_rest words c.loop-slot.at)) ∙ sym c.in_default.ensures.item in
    rw c.from_vec.ensures (addresses_end words c.loop-slot.at c.loop-slot.read.items none c.loop-slot.invariant.addresses)

pub returns-clause-length : goal.returns-clause-length
returns-clause-length c =
    let words = c.args.words.now in
    let none : slot_at (drop c.loop-slot.at words) ≡ None = sym (ap slot_at (take_rest words c.loop-slot.at)) ∙ sym c.in_default.ensures.item in
    c.loop-slot.invariant.size ∙ ap all_words (items_end words c.loop-slot.at c.loop-slot.read.items none c.loop-slot.invariant.items)

pub returns-clause-free : goal.returns-clause-free
returns-clause-free c = rw c.from_vec.ensures (All-weaker IsInRange HasFreeLength free_in_range c.loop-slot.read.items c.loop-slot.invariant.in_range)
