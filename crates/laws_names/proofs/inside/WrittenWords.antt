-- Words that were written stand there, and those that stood there already change nothing.
use Rattle.std.proofs.Common.{◌++◌, ◌+◌, ◌∙◌, ◌≡◌, List, ap, append_assoc, drop, get_or, length, set, sym, take, ℕ}
use Rattle.std.proofs.lemmas.List.{drop-drop, set-get_or, take-append-drop}
use Rattle.std.proofs.Math.Seq.{take-append_seam}
use Rattle.laws_mend.specs.disk_records.specs.Packs.{no_sector, sector_at, with_part}
use Rattle.laws_mend.specs.pack_model.specs.hints.Links.{dir_words}
use Rattle.laws_mend.specs.pack_model.specs.operations.PageWords.{in_page}
use Rattle.laws_mend.specs.pack_model.specs.reading.Bytes.{put_at}
use Rattle.laws_mend.specs.laws_record.proofs.DirWords.{dir_change}
use Rattle.laws_mend.specs.laws_operation.proofs.EntryWrite.{put_drop}
use Rattle.laws_names.specs.WriteLaws.{StandingWordsWriteNothing, WrittenWordsStand}

pub written_words_stand : WrittenWordsStand
written_words_stand p d w at new h =
    ap (λ ws. take (length new) (drop w ws)) (dir_change p d w at new h).words_are
    ∙ ap (take (length new)) (put_drop w new (dir_words p d) h.within) ∙ take-append_seam new (drop (w + length new) (dir_words p d))

-- words put in the place of the same
put_same : (k : ℕ) (new old : List ℕ) → take (length new) (drop k old) ≡ new → put_at k new old ≡ old
put_same k new old e =
    append_assoc (take k old) new (drop (k + length new) old)
    ∙ ap (λ x. take k old ++ (x ++ drop (k + length new) old)) (sym e)
    ∙ ap (λ x. take k old ++ (take (length new) (drop k old) ++ x)) (sym (drop-drop (length new) k old))
    ∙ ap (λ x. take k old ++ x) (take-append-drop (length new) (drop k old))
    ∙ take-append-drop k old

pub standing_words_write_nothing : StandingWordsWriteNothing
standing_words_write_nothing p w at new e =
    ap (λ v. record { shape = p.shape; sectors = set p.sectors at (with_part 2 v (get_or p.sectors at no_sector)) }) (put_same (in_page w) new (sector_at p at).value e)
    ∙ ap (λ ss. record { shape = p.shape; sectors = ss }) (set-get_or p.sectors at no_sector)
