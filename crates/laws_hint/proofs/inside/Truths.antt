-- True hints from the opening of a pack to its closing.
use Rattle.std.proofs.Common.{Bool, ap, arith, eq-eqb, eqb-true, false, length, refl, subst, sym, true, ◌*◌, ◌∙◌, ◌≡◌, ◌≤◌}
use Rattle.std.specs.Prelude.{◌==◌}
use Rattle.laws_line.specs.disk_records.specs.Addresses.{pages_of, table_words}
use Rattle.laws_line.specs.disk_records.specs.Packs.{after}
use Rattle.laws_line.specs.pack_model.specs.hints.Tables.{HintsTrue, bits_from, true_table, words_of_bits}
use Rattle.laws_line.specs.pack_model.specs.reading.Sights.{sights}
use Rattle.laws_line.specs.pack_model.specs.states.Sound.{mark_clean, mark_of}
use Rattle.laws_hint.proofs.inside.ClosedHints.{closing_leaves_a_clean_pack, closing_leaves_hints_true}
use Rattle.laws_hint.proofs.inside.Meaning.{length-free_table}
use Rattle.laws_hint.proofs.inside.TrueMap.{true_is_free}
use Rattle.laws_hint.proofs.inside.Wording.{whole_pack_describes_the_table_read, words_give_the_map_back}
use Rattle.laws_hint.specs.ClosingLaws.{closing_writes}
use Rattle.laws_hint.specs.TruthLaws.{TruthAtClosing, TruthAtOpening, TruthGoesOn}
use Rattle.laws_line.specs.laws_room.proofs.marks.Laws.{unmarked_is_unclean}

-- ---- opening
pub truth_at_opening : TruthAtOpening
truth_at_opening p whole each hints = record {
  links = hints.links;
  table = whole_pack_describes_the_table_read p whole ∙ ap (λ words. bits_from words 0 (pages_of p.shape)) hints.table ∙ ap (bits_from (words_of_bits (table_words p.shape) (true_table p)) 0) (sym size) ∙ words_give_the_map_back (table_words p.shape) (true_table p) enough;
  described = λ clean. hints;
}
  where
    size : length (true_table p) ≡ pages_of p.shape
    size = ap length (true_is_free p whole) ∙ length-free_table p ∙ each

    enough : length (true_table p) ≤ 16 * table_words p.shape
    enough = omega (arith, size)

-- ---- while the mark is open
pub truth_goes_on : TruthGoesOn
truth_goes_on p events old new h links whole unmarked table = record {
  links = links h.links;
  table = table;
  described = λ clean. absurd (unmarked_is_unclean (after p events) unmarked (record { lives = whole.descriptor_lives; mark = clean }));
}

-- ---- closing
pub truth_at_closing : TruthAtClosing
truth_at_closing p busy pages whole tidy may h = by (mark_of (sights p) == mark_clean) refl
  where
    by : (b : Bool) → (mark_of (sights p) == mark_clean) ≡ b → HintsTrue (after p (closing_writes p busy pages))
    by true e = let clean = eqb-true (mark_of (sights p)) mark_clean e in subst (λ l. HintsTrue (after p l)) (sym (closing_leaves_a_clean_pack p busy pages clean)) (h.described clean)
    by false e = (closing_leaves_hints_true p busy pages whole tidy may (λ clean. let both : true ≡ false = sym (eq-eqb (mark_of (sights p)) mark_clean clean) ∙ e in cc) h.links h.table).hints
