-- When words, and no more, are the entry of a file.
use Rattle.std.proofs.Common.{◌≡◌, ℕ, ◌+◌, ◌<◌, ◌≤◌, true, List, length, Some, None, sym, ap, ◌∙◌, subst, arith}
use Rattle.std.specs.Prelude.{◌==◌, ◌&&◌}
use Rattle.std.specs.List.{list_all}
use Rattle.std.proofs.lemmas.Bool.{eq-eqb, cond-true, cond-false, false_from_ne_true, eqb-true, and_parts, and_from}
use Rattle.std.proofs.lemmas.Option.{cond_some}
use Rattle.alto_words.specs.Fid.{is_full_name}
use Rattle.alto_words.specs.Names.{is_stored_name}
use Rattle.alto_words.proofs.Versions.{is_stored_name-fits}
use Rattle.disk_records.specs.Words.{word}
use Rattle.pack_model.specs.reading.Slots.{entry_length, slot_bytes, slot_name, slot_pad, slot_fid, is_entry}
use Rattle.pack_model.specs.reading.Slots.Item.{entry}
use Rattle.dir_slots.specs.Inside.{name_of, entry_of}
use Rattle.dir_slots.proofs.Names.{stored_least}

pub record EntryParts (words name : List ℕ) : Type 0 where
  pub first : word words 0 ≡ 1024 + length words
  pub size : length words ≡ entry_length (length name)
  pub named : name_of (slot_bytes words) ≡ Some name
  pub zero : word words 4 ≡ 0
  pub full : is_full_name (slot_fid words) ≡ true

-- a name is a stored name, and stands where names do
pub named_parts : (words name : List ℕ) → name_of (slot_bytes words) ≡ Some name → (((length (slot_name words) == word (slot_bytes words) 0) && is_stored_name (slot_name words) && list_all (λ b. b == 0) (slot_pad words)) ≡ true) × (slot_name words ≡ name)
unfolding name_of
named_parts words name named = cond_some _ (slot_name words) name named

pub named_stored : (words name : List ℕ) → name_of (slot_bytes words) ≡ Some name → is_stored_name name ≡ true
named_stored words name named =
    let n = named_parts words name named in
    subst (λ t. is_stored_name t ≡ true) n.1 (and_parts _ _ (and_parts _ _ n.0).0).1

pub entry_from : (words name : List ℕ) → EntryParts words name → is_entry words ≡ true
unfolding is_entry
entry_from words name parts =
    let n = named_parts words name parts.named in
    let pad = and_parts _ _ n.0 in
    let stored = and_parts _ _ pad.0 in
    let size : length words ≡ entry_length (length (slot_name words)) = parts.size ∙ ap (λ t. entry_length (length t)) (sym n.1) in
    and_from _ _ (and_from _ _ (and_from _ _ (and_from _ _ (and_from _ _ (and_from _ _ (eq-eqb _ _ parts.first) (eq-eqb _ _ size)) stored.0) stored.1) pad.1) (eq-eqb _ _ parts.zero)) parts.full

pub entry_parts : (words : List ℕ) → is_entry words ≡ true → EntryParts words (slot_name words)
unfolding is_entry name_of
entry_parts words is =
    let full = and_parts _ _ is in
    let zero = and_parts _ _ full.0 in
    let pad = and_parts _ _ zero.0 in
    let stored = and_parts _ _ pad.0 in
    let long = and_parts _ _ stored.0 in
    let size = and_parts _ _ long.0 in
    record {
      first = eqb-true _ _ size.0;
      size = eqb-true _ _ size.1;
      named = cond-true _ (Some (slot_name words)) None (and_from _ _ (and_from _ _ long.1 stored.1) pad.1);
      zero = eqb-true _ _ zero.1;
      full = full.1;
    }

-- words that are an entry have its length
pub same_size : (words name : List ℕ) → name_of (slot_bytes words) ≡ Some name → EntryParts words (slot_name words) → entry_length (length name) ≡ length words
same_size words name named parts = ap (λ t. entry_length (length t)) (sym (named_parts words name named).1) ∙ sym parts.size

-- the name's length
pub entry_size : (words name : List ℕ) → EntryParts words name → (2 ≤ length name) × (length name ≤ 39)
entry_size words name parts =
    let n = named_parts words name parts.named in
    let stored = (and_parts _ _ (and_parts _ _ n.0).0).1 in
    (subst (λ t. 2 ≤ length t) n.1 (stored_least (slot_name words) stored), subst (λ t. length t ≤ 39) n.1 (is_stored_name-fits (slot_name words) stored))

-- words that lack a part are no entry
pub entry_of-none : (words : List ℕ) → (EntryParts words (slot_name words) → ⊥) → entry_of words ≡ None
entry_of-none words lacks = cond-false _ _ None (false_from_ne_true _ (λ e. lacks (entry_parts words e)))

-- an entry has 8 to 26 words
pub entry_of-short : (words : List ℕ) → length words < 8 → entry_of words ≡ None
entry_of-short words short = entry_of-none words (λ parts. let size = entry_size words _ parts in let e = parts.size in omega arith)

pub entry_of-long : (words : List ℕ) → 26 < length words → entry_of words ≡ None
entry_of-long words long = entry_of-none words (λ parts. let size = entry_size words _ parts in let e = parts.size in omega arith)

-- words with all parts are one
pub entry_of-some : (words name : List ℕ) → EntryParts words name → entry_of words ≡ Some (entry (slot_fid words) name)
entry_of-some words name parts =
    cond-true _ (Some (entry (slot_fid words) (slot_name words))) None (entry_from words name parts)
    ∙ ap (λ t. Some (entry (slot_fid words) t)) (named_parts words name parts.named).1
