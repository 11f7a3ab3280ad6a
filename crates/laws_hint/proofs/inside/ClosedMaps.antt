-- What DiskDescriptor says after closing with any map.
use Rattle.std.proofs.Common.{Bool, List, ap, arith, drop, length, sym, take, ◌*◌, ◌∙◌, ◌≡◌, ◌≤◌}
use Rattle.std.proofs.lemmas.List.{take_all}
use Rattle.laws_line.specs.disk_records.specs.Addresses.{pages_of, table_words}
use Rattle.laws_line.specs.disk_records.specs.Packs.{Pack}
use Rattle.laws_line.specs.disk_records.specs.Words.{word}
use Rattle.laws_line.specs.pack_model.specs.hints.Tables.{bits_from, true_table, words_of_bits}
use Rattle.laws_hint.proofs.inside.ClosedHints.{closing_text}
use Rattle.laws_hint.proofs.inside.ClosedWords.{words_many}
use Rattle.laws_hint.proofs.inside.TrueMap.{true_is_free}
use Rattle.laws_hint.proofs.inside.MarkedOperations.{descriptor_writes_leave_the_map}
use Rattle.laws_hint.proofs.inside.Meaning.{length-free_table}
use Rattle.laws_hint.proofs.inside.Wording.{words_give_the_map_back}
use Rattle.laws_hint.specs.MapClosing.{ClosedMapIsReadBack, ClosedMapIsTrueWhereItWas, ClosingDescribesItsMap}

-- the words, and the number
pub closing_describes_its_map : ClosingDescribesItsMap
closing_describes_its_map p busy pages w t h unclean =
    let text = closing_text p busy pages w t h unclean in
    let size = words_many (table_words p.shape) busy in
    record {
      text = text;
      words = ap (λ ws. take (table_words p.shape) (drop 16 ws)) text ∙ take_all (table_words p.shape) (words_of_bits (table_words p.shape) busy) (omega (arith, size));
      free = ap (λ ws. word ws 7) text;
    }

-- a pack's map has enough words
enough : (p : Pack) (bits : List Bool) → length bits ≡ pages_of p.shape → length bits ≤ 16 * table_words p.shape
enough p bits size = omega (arith, size)

-- maps with a bit for each sector whose words are the same
same_maps : (p : Pack) (a b : List Bool) → length a ≡ pages_of p.shape → length b ≡ pages_of p.shape → words_of_bits (table_words p.shape) a ≡ words_of_bits (table_words p.shape) b → a ≡ b
same_maps p a b x y same =
    sym (words_give_the_map_back (table_words p.shape) a (enough p a x))
    ∙ ap (λ ws. bits_from ws 0 (length a)) same
    ∙ ap (bits_from (words_of_bits (table_words p.shape) b) 0) (x ∙ sym y)
    ∙ words_give_the_map_back (table_words p.shape) b (enough p b y)

-- the map
pub closed_map_is_read_back : ClosedMapIsReadBack
closed_map_is_read_back p busy pages w t h unclean size =
    ap (λ ws. bits_from ws 0 (pages_of p.shape)) (closing_describes_its_map p busy pages w t h unclean).words
    ∙ ap (bits_from (words_of_bits (table_words p.shape) busy) 0) (sym size)
    ∙ words_give_the_map_back (table_words p.shape) busy (enough p busy size)

-- and whether it is true
pub closed_map_is_true_where_it_was : ClosedMapIsTrueWhereItWas
closed_map_is_true_where_it_was p busy pages w t h unclean each size =
    let words = (closing_describes_its_map p busy pages w t h unclean).words in
    let stays = (descriptor_writes_leave_the_map p w t).closes busy pages h in
    let whole_size : length (true_table p) ≡ pages_of p.shape = ap length (true_is_free p w) ∙ length-free_table p ∙ each in (
      λ is. same_maps p busy (true_table p) size whole_size (sym words ∙ is ∙ ap (words_of_bits (table_words p.shape)) stays),
      λ same. words ∙ ap (words_of_bits (table_words p.shape)) (same ∙ sym stays),
    )
