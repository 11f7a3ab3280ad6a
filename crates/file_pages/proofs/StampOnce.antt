-- A stamp, as one value of a leader page.
use Rattle.std.proofs.Common.{List, Some, [], ap, length, refl, subst, sym, ℕ, ◌%◌, ◌∙◌, ◌≡◌}
use Rattle.alto_words.specs.declared.fid.Fid.{Fid}
use Rattle.disk_records.specs.Commands.{value_writes}
use Rattle.disk_records.specs.Packs.{Pack, carried, sector_at}
use Rattle.laws_call.proofs.writing.Laws.{written_acts}
use Rattle.laws_call.specs.Writing.{Written, stamps}
use Rattle.laws_operation.proofs.places.Laws.{carried_in_place}
use Rattle.laws_operation.specs.ByteLaws.{IsOrdinary}
use Rattle.laws_operation.specs.FileWords.{CanWriteLeader}
use Rattle.pack_model.specs.operations.Committing.{page_of_byte}
use Rattle.pack_model.specs.operations.PageWords.{stamped_value}
use Rattle.pack_model.specs.operations.Step.Operation.{stamp}
use Rattle.pack_model.specs.reading.Files.{place}
use Rattle.pack_model.specs.reading.Sights.{sights}
use Rattle.pack_model.specs.states.Whole.{Tidy, Whole}
use Rattle.page_seeking.specs.Seeking.{IsLast, file_length, page_number}
use Rattle.page_seeking.specs.declared.ends.LastPage.{LastPage}
use Rattle.file_pages.specs.Calls.{IsOneValue}

-- these words are those of the file's end
stamped_words : (p : Pack) (f : Fid) (moment : ℕ) (end : LastPage) (old : List ℕ) → IsLast p f end
    → stamped_value moment end.at end.number end.info.bytes old ≡ stamped_value moment end.at (page_of_byte (file_length p f)) (file_length p f % 512) old
stamped_words p f moment end old is = ap (λ n. stamped_value moment end.at n end.info.bytes old) is.number ∙ ap (λ b. stamped_value moment end.at (page_of_byte (file_length p f)) b old) is.bytes

pub stamped_once : (p : Pack) (f : Fid) (moment at : ℕ) (end : LastPage) (value old : List ℕ) → Whole p → Tidy p → IsOrdinary f → carried p at ≡ Some (page_number f 0) → old ≡ (sector_at p at).value → length old ≡ 256 → IsLast p f end
    → value ≡ stamped_value moment end.at end.number end.info.bytes old → IsOneValue p (stamp f moment) (value_writes at value)
stamped_once p f moment at end value old whole tidy ordinary carries is sized ends new =
    let can : CanWriteLeader p f at = record { file = ordinary; sector = carried_in_place p (page_number f 0) at whole carries; sized = ap length (sym is) ∙ sized } in
    let words : List ℕ = stamped_value moment end.at (page_of_byte (file_length p f)) (file_length p f % 512) (sector_at p at).value in
    let exact : Written p (stamp f moment) [] [] (value_writes at words) = stamps can refl (ap (place (sights p) f) (sym ends.number) ∙ ends.placed) in
    subst (λ v. IsOneValue p (stamp f moment) (value_writes at v)) (sym (new ∙ stamped_words p f moment end old ends ∙ ap (stamped_value moment end.at (page_of_byte (file_length p f)) (file_length p f % 512)) is))
    (record { exact = exact; acts = written_acts p (stamp f moment) [] [] (value_writes at words) whole tidy exact; moves = refl })
