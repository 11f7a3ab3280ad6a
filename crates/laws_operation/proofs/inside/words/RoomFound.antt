-- The room that was found for an entry, among the slots of its directory.
use Rattle.std.proofs.Common.{List, Some, ap, arith, get_or, length, subst, suc, sym, ℕ, ◌++◌, ◌<◌, ◌∙◌, ◌≡◌, ◌≤◌}
use Rattle.laws_contents.specs.pack_model.specs.operations.Committing.{page_of_word}
use Rattle.laws_contents.specs.pack_model.specs.reading.Files.{place}
use Rattle.laws_contents.specs.pack_model.specs.reading.Model.{dir_items, read_as}
use Rattle.laws_contents.specs.pack_model.specs.operations.PageWords.{entered_words, later}
use Rattle.laws_contents.specs.pack_model.specs.reading.Sights.{sights}
use Rattle.laws_contents.specs.pack_model.specs.reading.Slots.{Item, all_words, entry_length, item_words}
use Rattle.laws_contents.specs.pack_model.specs.reading.Slots.Item.{space}
use Rattle.laws_contents.specs.laws_record.proofs.Roomy.{run_enough}
use Rattle.laws_operation.proofs.inside.words.EntryBytes.{entry_words_fit}
use Rattle.laws_operation.proofs.inside.words.Labels.{living_name}
use Rattle.laws_operation.proofs.Rejoining.{parted}
use Rattle.laws_operation.specs.DirectoryWords.{EnterWordsFit, left_in}
use Rattle.laws_operation.proofs.EnterMoves.{first_slot}

-- ---- an entering there
pub enter_words_fit : EnterWordsFit
enter_words_fit p d name f address r at next_at h =
    let n : ℕ = entry_length (length name) in
    let is : List Item = dir_items (read_as p) d in
    let b = parted n 0 0 is r h.found in
    let first : r.first ≡ length b.before = b.first_is ∙ omega arith in
    let begin : r.place ≡ all_words b.before = b.place_is ∙ omega arith in
    let total = b.total in
    let enough : n ≤ r.total = run_enough n (b.old ++ b.behind) (r.total, b.behind) b.runs in
    let front : get_or is r.first (space 0) ≡ get_or b.old 0 (space 0) = (λ i. get_or (b.split i) (first i) (space 0)) ∙ first_slot b.before b.old b.behind (omega arith) in
    record {
      before = b.before;
      old = b.old;
      behind = b.behind;
      may = record {
        directory = h.directory;
        living = h.living;
        no_system = h.no_system;
        entry_is = h.entry_is;
        room = record {
          split = b.split;
          found = h.found ∙ (λ i. Some (record { first = first i; place = begin i; total = total i }));
          run_is = b.runs ∙ (λ i. Some (total i, b.behind));
          most = let l = b.most in omega arith;
        };
        total = omega arith;
        words_are = entry_words_fit f address name (left_in r name) (living_name p f h.entry_is.lives) h.stored;
        sector = ap (λ x. place (sights p) d (page_of_word x)) (sym begin) ∙ h.sector;
        next_sector = λ some. ap (λ x. place (sights p) d (suc (page_of_word x))) (sym begin) ∙ h.next_sector (subst (λ x. 0 < length (later x (entered_words f address name (left_in r name)))) (sym begin) some);
      };
      room = λ i. record { place = sym begin i; first_words = item_words (sym front i); total = sym total i; at = at; next_at = next_at };
    }
