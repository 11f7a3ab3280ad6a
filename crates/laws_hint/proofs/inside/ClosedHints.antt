-- Closing with the true map leaves all hints true.
use Rattle.std.proofs.Common.{Bool, List, Some, [], ap, arith, cond, drop, eqb-true, false, length, not, refl, reverse, subst, suc, sym, take, true, ℕ, ◌+◌, ◌<◌, ◌∙◌, ◌≡◌, ◌≢◌}
use Rattle.std.proofs.lemmas.List.{take_all}
use Rattle.std.specs.Prelude.{◌==◌}
use Rattle.laws_line.specs.alto_words.specs.Fid.{disk_descriptor}
use Rattle.laws_line.specs.disk_records.specs.Addresses.{table_words}
use Rattle.laws_line.specs.disk_records.specs.Packs.{Pack, after, crash, sector_at}
use Rattle.laws_line.specs.disk_records.specs.Words.{word}
use Rattle.laws_line.specs.disk_records.specs.declared.records.Event.{Event}
use Rattle.laws_line.specs.pack_model.specs.operations.Commands.{values_writes}
use Rattle.laws_line.specs.pack_model.specs.sessions.Descriptor.{close_writes, closed_values, data_pages, descriptor_text, descriptor_value}
use Rattle.laws_line.specs.pack_model.specs.reading.Files.{place}
use Rattle.laws_line.specs.pack_model.specs.states.InUse.{free_sector_count, how_many}
use Rattle.laws_line.specs.pack_model.specs.hints.Links.{LinksTrue}
use Rattle.laws_line.specs.pack_model.specs.reading.Model.{descriptor_words, read_as}
use Rattle.laws_line.specs.pack_model.specs.reading.Sights.{sights}
use Rattle.laws_line.specs.pack_model.specs.states.Sound.{mark_clean, mark_of}
use Rattle.laws_line.specs.pack_model.specs.hints.Tables.{TableTrue, WordsTrue, described_free, true_table, words_of_bits}
use Rattle.laws_line.specs.pack_model.specs.states.Whole.{Tidy, Whole}
use Rattle.laws_line.specs.laws_operation.specs.DescriptorLaws.{KeepsSound, MayClose}
use Rattle.laws_hint.proofs.inside.ClosedValues.{closed_value}
use Rattle.laws_hint.proofs.inside.ClosedWords.{closed_words, words_many}
use Rattle.laws_hint.proofs.inside.TrueMap.{true_is_free, true_many, values_free}
use Rattle.laws_hint.specs.ClosingLaws.{ClosedTrue, ClosingLeavesACleanPack, ClosingLeavesHintsTrue, closing_writes}
use Rattle.laws_line.specs.laws_operation.proofs.descriptor.Laws.{close_carries_out, close_keeps_links}

-- what holds at each crash holds after all record writes
pub at_end : (P : Pack → Type 0) (p : Pack) (events : List Event) → ((k : ℕ) → P (crash p events k)) → P (after p events)
at_end P p events h = subst (λ es. P (after p es)) (take_all (length events) events (omega arith)) (h (length events))

-- values leave the true map of a whole pack
map_stays : (vs : List (ℕ × List ℕ)) (p : Pack) → Whole p → Whole (after p (values_writes vs)) → true_table (after p (values_writes vs)) ≡ true_table p
map_stays vs p wp wq = true_is_free (after p (values_writes vs)) wq ∙ values_free vs p ∙ sym (true_is_free p wp)

-- ---- the words of the map, and the number of free sectors
module _ (p q : Pack) (busy : List Bool) (shape : q.shape ≡ p.shape) (words : descriptor_words (sights q) ≡ descriptor_text p.shape (read_as p).last mark_clean busy) (same : busy ≡ true_table q) where
  -- the map is true
  map_true : WordsTrue q
  map_true =
      let map : List ℕ = words_of_bits (table_words q.shape) busy in
      ap (λ ws. take (table_words q.shape) (drop 16 ws)) words
      ∙ ap (λ s. take (table_words q.shape) (words_of_bits (table_words s) busy)) (sym shape)
      ∙ take_all (table_words q.shape) map (let n = words_many (table_words q.shape) busy in omega arith)
      ∙ ap (words_of_bits (table_words q.shape)) same

  -- and so is the number
  number_true : Whole q → described_free q ≡ free_sector_count (sights q)
  number_true w = ap (λ ws. word ws 7) words ∙ ap (how_many not) same ∙ true_many q w

-- ---- closing
-- the words of DiskDescriptor after the record writes, where the mark isn't clean
values_text : (p : Pack) (busy : List Bool) (pages : List ℕ) → MayClose p pages → let q : Pack = after p (values_writes (reverse (closed_values p.shape (read_as p).last busy 0 pages))) in
    KeepsSound p q → descriptor_words (sights q) ≡ descriptor_text p.shape (read_as p).last mark_clean busy
values_text p busy pages h keeps =
    let q : Pack = after p (values_writes (reverse (closed_values p.shape (read_as p).last busy 0 pages))) in
    let number = h.number in
    let values : (k at : ℕ) → k < data_pages q.shape → place (sights q) disk_descriptor (suc k) ≡ Some at → (sector_at q at).value ≡ descriptor_value q.shape (read_as p).last mark_clean busy k = λ k at low is.
    let z : 0 + k ≡ k = omega arith in
    closed_value p (read_as p).last busy pages 0 h.pages_are k at (omega (arith, low, number)) (ap (λ n. place (sights p) disk_descriptor (suc n)) z ∙ sym (keeps.places (suc k)) ∙ is)
    ∙ ap (descriptor_value p.shape (read_as p).last mark_clean busy) z in
    closed_words q keeps.whole (read_as p).last busy values

-- with the true map
closed_true : (p : Pack) (busy : List Bool) (pages : List ℕ) → Whole p → MayClose p pages → TableTrue p busy → let vs : List (ℕ × List ℕ) = reverse (closed_values p.shape (read_as p).last busy 0 pages) in
    LinksTrue (after p (values_writes vs)) → KeepsSound p (after p (values_writes vs)) → mark_of (sights (after p (values_writes vs))) ≡ mark_clean → ClosedTrue p (after p (values_writes vs))
closed_true p busy pages w h true_map links keeps marked =
    let vs : List (ℕ × List ℕ) = reverse (closed_values p.shape (read_as p).last busy 0 pages) in
    let q : Pack = after p (values_writes vs) in
    let words = values_text p busy pages h keeps in
    let same : busy ≡ true_table q = true_map ∙ sym (map_stays vs p w keeps.whole) in
    record {
      hints = record { links = links; table = map_true p q busy refl words same; free = number_true p q busy refl words same keeps.whole };
      clean = record { lives = keeps.whole.descriptor_lives; mark = marked };
      sound = keeps.sound;
    }

-- the words after closing
pub closing_text : (p : Pack) (busy : List Bool) (pages : List ℕ) → Whole p → Tidy p → MayClose p pages → mark_of (sights p) ≢ mark_clean → descriptor_words (sights (after p (closing_writes p busy pages))) ≡ descriptor_text p.shape (read_as p).last mark_clean busy
closing_text p busy pages w t h unclean = by (mark_of (sights p) == mark_clean) refl (at_end (KeepsSound p) p (closing_writes p busy pages) (close_carries_out p busy pages w t h).keeps)
  where
    writes : Bool → List Event
    writes c = cond c [] (values_writes (reverse (closed_values p.shape (read_as p).last busy 0 pages)))

    by : (c : Bool) → (mark_of (sights p) == mark_clean) ≡ c → KeepsSound p (after p (writes c)) → descriptor_words (sights (after p (writes c))) ≡ descriptor_text p.shape (read_as p).last mark_clean busy
    by true e keeps = absurd (unclean (eqb-true (mark_of (sights p)) mark_clean e))
    by false e keeps = values_text p busy pages h keeps

-- the laws
pub closing_leaves_hints_true : ClosingLeavesHintsTrue
closing_leaves_hints_true p busy pages w t h unclean links true_map =
    let closes = close_carries_out p busy pages w t h in
    by (mark_of (sights p) == mark_clean) refl
    (at_end LinksTrue p (closing_writes p busy pages) (λ k. close_keeps_links p busy pages k w t h links))
    (at_end (KeepsSound p) p (closing_writes p busy pages) closes.keeps) closes.marked
  where
    writes : Bool → List Event
    writes c = cond c [] (values_writes (reverse (closed_values p.shape (read_as p).last busy 0 pages)))

    by : (c : Bool) → (mark_of (sights p) == mark_clean) ≡ c → LinksTrue (after p (writes c)) → KeepsSound p (after p (writes c)) → mark_of (sights (after p (writes c))) ≡ mark_clean → ClosedTrue p (after p (writes c))
    by true e links keeps marked = absurd (unclean (eqb-true (mark_of (sights p)) mark_clean e))
    by false e links keeps marked = closed_true p busy pages w h true_map links keeps marked

pub closing_leaves_a_clean_pack : ClosingLeavesACleanPack
closing_leaves_a_clean_pack p busy pages e = ap (λ mark. close_writes mark p.shape (read_as p).last busy pages) e
