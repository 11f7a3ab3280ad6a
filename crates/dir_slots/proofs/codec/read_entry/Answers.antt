use Rattle.std.proofs.Common.{Some, sym, ap, ◌∙◌, eq-eqb}
use Rattle.std.specs.Option.{option_map}
use Rattle.std.proofs.lemmas.Bool.{both_ways, and_from, and_parts, eqb-true}
use Rattle.std.proofs.lemmas.Option.{none-some}
use Rattle.alto_words.specs.Fid.{is_full_name}
use Rattle.pack_model.specs.reading.Slots.Item.{entry}
use Rattle.dir_slots.specs.Inside.{name_of}
use Rattle.dir_slots.specs.Items.{item_of}
use Rattle.dir_slots.proofs.Words.{name_after}
use Rattle.dir_slots.proofs.Entries.{entry_of-short, entry_of-none, entry_of-some, same_size, named_stored}
use Rattle.dir_slots.proofs.codec.read_entry.Goals as goal

pub returns-then-words-lt-MIN_ENTRY_WORDS-clause-item : goal.returns-then-words-lt-MIN_ENTRY_WORDS-clause-item
returns-then-words-lt-MIN_ENTRY_WORDS-clause-item c = sym (entry_of-short c.args.words.now c.if-words-lt-MIN_ENTRY_WORDS.true)

pub returns-then-not-is_entry_head-clause-item : goal.returns-then-not-is_entry_head-clause-item
returns-then-not-is_entry_head-clause-item c =
    sym (entry_of-none c.args.words.now (λ parts. both_ways _ (sym c.is_entry_head.ensures ∙ c.if-not-is_entry_head.true) (and_from _ _ (eq-eqb _ _ parts.first) (eq-eqb _ _ parts.zero))))

pub returns-then-not-is_full_name-clause-item : goal.returns-then-not-is_full_name-clause-item
returns-then-not-is_full_name-clause-item c =
    sym (entry_of-none c.args.words.now (λ parts. both_ways _ (sym c.is_full_name.ensures ∙ c.if-not-is_full_name.true) (ap is_full_name c.fid_of-fid.ensures ∙ parts.full)))

pub returns-in_err-name-clause-item : goal.returns-in_err-name-clause-item
returns-in_err-name-clause-item c =
    ap (option_map item_of) c.from_residual.ensures ∙ sym (entry_of-none c.args.words.now (λ parts. none-some _ (c.in_err-name.ensures ∙ ap name_of (name_after c.args.words.now) ∙ parts.named)))

pub returns-then-entry_words-words-clause-item : goal.returns-then-entry_words-words-clause-item
returns-then-entry_words-words-clause-item c =
    sym (entry_of-none c.args.words.now (λ parts. c.if-entry_words-words.true (c.entry_words.ensures.words ∙ same_size c.args.words.now _ (sym (c.in_ok-name.ensures ∙ ap name_of (name_after c.args.words.now))) parts)))

pub returns-clause-item : goal.returns-clause-item
returns-clause-item c =
    let same = and_parts _ _ (sym c.is_entry_head.ensures ∙ c.if-not-is_entry_head.false) in
    ap (λ f. Some (entry f c.in_ok-name.name)) c.fid_of-fid.ensures
    ∙ sym (entry_of-some c.args.words.now c.in_ok-name.name (record {
      first = eqb-true _ _ same.0;
      size = sym c.if-entry_words-words.false ∙ c.entry_words.ensures.words;
      named = sym (c.in_ok-name.ensures ∙ ap name_of (name_after c.args.words.now));
      zero = eqb-true _ _ same.1;
      full = sym (ap is_full_name c.fid_of-fid.ensures) ∙ sym c.is_full_name.ensures ∙ c.if-not-is_full_name.false;
    }))

pub returns-clause-stored : goal.returns-clause-stored
returns-clause-stored c = named_stored c.args.words.now c.in_ok-name.name (sym (c.in_ok-name.ensures ∙ ap name_of (name_after c.args.words.now)))
