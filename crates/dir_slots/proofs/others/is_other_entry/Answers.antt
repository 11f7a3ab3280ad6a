use Rattle.std.proofs.Common.{◌≡◌, ℕ, false, IfSome, List, Option, subst, sym}
use Rattle.alto_words.specs.Names.{is_same_name}
use Rattle.pack_model.specs.reading.Slots.{slot_name}
use Rattle.dir_slots.proofs.others.is_other_entry.Goals as goal

pub is_named_otherwise-requires : goal.is_named_otherwise-requires
is_named_otherwise-requires c = (c.is_bare_entry.ensures c.if-not-is_bare_entry.false).size

pub returns-in-Some : goal.returns-in-Some
returns-in-Some c = λ is.
    let own = slot_name c.args.words.now in
    let other = subst (λ (n : List ℕ). is_same_name own n ≡ false) c.as_bytes.ensures.value (c.is_named_otherwise.ensures is) in
    record {
      entry = c.is_bare_entry.ensures c.if-not-is_bare_entry.false;
      other = subst (λ (o : Option (List ℕ)). IfSome o (λ n. is_same_name own n ≡ false)) (sym c.in-Some.is) other;
    }

pub returns-in-None : goal.returns-in-None
returns-in-None c = λ is.
    let own = slot_name c.args.words.now in
    record {
      entry = c.is_bare_entry.ensures c.if-not-is_bare_entry.false;
      other = subst (λ (o : Option (List ℕ)). IfSome o (λ n. is_same_name own n ≡ false)) (sym c.in-None.is) tt;
    }
