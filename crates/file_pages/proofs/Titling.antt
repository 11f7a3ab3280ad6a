-- A title, as one value of a leader page.
use Rattle.std.proofs.Common.{List, Some, [], ap, refl, subst, sym, true, length, ℕ, ◌∙◌, ◌≡◌}
use Rattle.alto_words.specs.Names.{is_stored_name}
use Rattle.alto_words.specs.declared.fid.Fid.{Fid}
use Rattle.disk_records.specs.Commands.{value_writes}
use Rattle.disk_records.specs.Packs.{Pack, carried, sector_at}
use Rattle.pack_model.specs.operations.PageWords.{titled_value}
use Rattle.pack_model.specs.operations.Step.Operation.{title}
use Rattle.pack_model.specs.states.Whole.{Tidy, Whole}
use Rattle.laws_call.proofs.writing.Laws.{written_acts}
use Rattle.laws_call.specs.Writing.{titles}
use Rattle.laws_operation.proofs.places.Laws.{carried_in_place}
use Rattle.laws_operation.specs.ByteLaws.{IsOrdinary}
use Rattle.laws_operation.specs.FileWords.{CanWriteLeader}
use Rattle.page_seeking.specs.Seeking.{page_number}
use Rattle.file_pages.specs.Calls.{IsOneValue}

pub titled_once : (p : Pack) (f : Fid) (name : List ℕ) (at : ℕ) (value old : List ℕ) → Whole p → Tidy p → IsOrdinary f → carried p at ≡ Some (page_number f 0) → old ≡ (sector_at p at).value → length old ≡ 256 → is_stored_name name ≡ true → value ≡ titled_value name old
    → IsOneValue p (title f name) (value_writes at value)
titled_once p f name at value old whole tidy ordinary carries is sized stored new =
    let can : CanWriteLeader p f at = record { file = ordinary; sector = carried_in_place p (page_number f 0) at whole carries; sized = ap length (sym is) ∙ sized } in
    subst (λ v. IsOneValue p (title f name) (value_writes at v)) (sym (new ∙ ap (titled_value name) is))
    (record { exact = titles can stored; acts = written_acts p (title f name) [] [] (value_writes at (titled_value name (sector_at p at).value)) whole tidy (titles can stored); moves = refl })
