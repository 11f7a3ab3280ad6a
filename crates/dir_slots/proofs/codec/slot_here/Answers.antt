use Rattle.std.proofs.Common.{◌≡◌, ◌%◌, take, Some, sym, ap, ◌∙◌, arith, inl, inr}
use Rattle.std.specs.Option.{option_map}
use Rattle.std.proofs.lemmas.List.{length-take, take-take}
use Rattle.pack_model.specs.reading.Slots.{first_length}
use Rattle.pack_model.specs.reading.Slots.Item.{space}
use Rattle.dir_slots.specs.Inside.{entry_of}
use Rattle.dir_slots.specs.Items.{item_of}
use Rattle.dir_slots.proofs.Entries.{entry_of-long}
use Rattle.dir_slots.proofs.Heads.{none_first, first_is, slot_at-none, slot_at-free, slot_at-file, address_front}
use Rattle.dir_slots.proofs.codec.slot_here.Goals as goal

pub returns-in_err-first-clause-item : goal.returns-in_err-first-clause-item
returns-in_err-first-clause-item c = λ words long front. ap (option_map item_of) c.from_residual.ensures ∙ sym (none_first c.args.front.now words front c.in_err-first.ensures.value)

pub returns-then-length-eq0-clause-item : goal.returns-then-length-eq0-clause-item
returns-then-length-eq0-clause-item c = λ words long front.
    let first = first_is c.args.front.now words c.in_ok-first.field-0.now front c.in_ok-first.ensures.value in
    sym (slot_at-none words (inl (ap (λ w. w % 1024) first ∙ c.if-length-eq0.true)))

pub returns-then-length-left-clause-item : goal.returns-then-length-left-clause-item
returns-then-length-left-clause-item c = λ words long front.
    let first = first_is c.args.front.now words c.in_ok-first.field-0.now front c.in_ok-first.ensures.value in
    let states = ap (λ w. w % 1024) first in
    let past = c.if-length-left.true in
    sym (slot_at-none words (inr (omega arith)))

pub returns-then-first-length-clause-item : goal.returns-then-first-length-clause-item
returns-then-first-length-clause-item c = λ words long front.
    let first = first_is c.args.front.now words c.in_ok-first.field-0.now front c.in_ok-first.ensures.value in
    let states : first_length words ≡ c.in_ok-first.field-0.now % 1024 = ap (λ w. w % 1024) first in
    sym (slot_at-free words (omega arith) (omega arith) (first ∙ c.if-first-length.true ∙ sym states) ∙ ap (λ n. Some (space n)) states)

pub returns-then-length-gt-MAX_ENTRY_WORDS-clause-item : goal.returns-then-length-gt-MAX_ENTRY_WORDS-clause-item
returns-then-length-gt-MAX_ENTRY_WORDS-clause-item c = λ words long front.
    let first = first_is c.args.front.now words c.in_ok-first.field-0.now front c.in_ok-first.ensures.value in
    let states : first_length words ≡ c.in_ok-first.field-0.now % 1024 = ap (λ w. w % 1024) first in
    let taken = length-take (first_length words) words in
    sym (slot_at-file words (omega arith) (omega arith) (λ same. c.if-first-length.false (sym first ∙ same ∙ states)) ∙ entry_of-long (take (first_length words) words) (omega arith))

pub returns-clause-item : goal.returns-clause-item
returns-clause-item c = λ words long front.
    let n = c.in_ok-first.field-0.now % 1024 in
    let first = first_is c.args.front.now words c.in_ok-first.field-0.now front c.in_ok-first.ensures.value in
    let states : first_length words ≡ n = ap (λ w. w % 1024) first in
    c.read_entry.ensures.item
    ∙ ap entry_of (ap (take n) front ∙ take-take n 26 words (omega arith) ∙ ap (λ m. take m words) (sym states))
    ∙ sym (slot_at-file words (omega arith) (omega arith) (λ same. c.if-first-length.false (sym first ∙ same ∙ states)))

pub returns-clause-address : goal.returns-clause-address
returns-clause-address c = λ words long front.
    let n = c.in_ok-first.field-0.now % 1024 in
    let taken = length-take n c.args.front.now in
    address_front c.read_entry.result (take n c.args.front.now) words n (ap (take n) front ∙ take-take n 26 words (omega arith)) (omega arith) c.read_entry.ensures.size c.read_entry.ensures.address
