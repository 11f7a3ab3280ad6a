-- Two entries in the same words.
use Rattle.std.proofs.Common.{List, [], ap, arith, inl, inr, sym, ◌++◌, ◌+◌, ◌∙◌, ◌∷◌, ◌≡◌, ◌≤◌, ◌⊎◌}
use Rattle.laws_hint.specs.alto_words.specs.Fid.{is_fid}
use Rattle.laws_hint.specs.laws_lookup.proofs.slots.Laws.{found_entry_splits_the_slots}
use Rattle.laws_hint.specs.pack_laws.proofs.Keys.{is_fid-itself}
use Rattle.laws_hint.specs.pack_model.specs.reading.Slots.Item.{entry}
use Rattle.laws_hint.specs.pack_model.specs.reading.Slots.{Item, all_words, item_words}
use Rattle.laws_midway.specs.FoundLaws.{EntriesStandApart}

-- of two slots of one list they are one, or one comes after the other
in_order : (a c : List Item) (x y : Item) (b e : List Item) → a ++ x ∷ b ≡ c ++ y ∷ e → (x ≡ y) ⊎ ((all_words a + item_words x ≤ all_words c) ⊎ (all_words c + item_words y ≤ all_words a))
in_order [] [] x y b e h = inl cc
in_order [] (j ∷ c) x y b e h =
    let first : x ≡ j = cc in
    let words : item_words x ≡ item_words j = ap item_words first in
    inr (inl (omega (arith, words)))
in_order (i ∷ a) [] x y b e h =
    let first : i ≡ y = cc in
    let words : item_words i ≡ item_words y = ap item_words first in
    inr (inr (omega (arith, words)))
in_order (i ∷ a) (j ∷ c) x y b e h =
    let first : i ≡ j = cc in
    let rest : a ++ x ∷ b ≡ c ++ y ∷ e = cc in
    let words : item_words i ≡ item_words j = ap item_words first in
    elim (in_order a c x y b e rest) [
      | inl same ↦ inl same
      | inr (inl l) ↦ inr (inl (omega (arith, words)))
      | inr (inr l) ↦ inr (inr (omega (arith, words)))
    ]

pub entries_stand_apart : EntriesStandApart
entries_stand_apart words v w d e hd he other =
    let s = found_entry_splits_the_slots words v d hd in
    let t = found_entry_splits_the_slots words w e he in
    let sp = s.place in
    let tp = t.place in
    elim (in_order s.before t.before (entry d.fid d.name) (entry e.fid e.name) s.later t.later (sym s.slots_are ∙ t.slots_are)) [
      | inl same ↦
          let one : d.fid ≡ e.fid = cc in
          let clash = sym (ap (λ g. is_fid d.fid g) one) ∙ is_fid-itself d.fid in
          absurd cc
      | inr (inl l) ↦ inr (omega arith)
      | inr (inr l) ↦ inl (omega arith)
    ]
