-- A put, as one value of a page.
use Rattle.std.proofs.Common.{All, List, Result, Some, [], arith, length, refl, ℕ, ◌%◌, ◌*◌, ◌+◌, ◌<◌, ◌≡◌, ◌≤◌}
use Rattle.alto_words.specs.declared.fid.Fid.{Fid}
use Rattle.disk_records.proofs.Bytes.{length-bytes_of}
use Rattle.disk_records.specs.Commands.{value_writes}
use Rattle.disk_records.specs.Packs.{Pack, carried, sector_at}
use Rattle.disk_records.specs.Tapes.{pack}
use Rattle.laws_call.proofs.writing.Laws.{written_acts}
use Rattle.laws_call.specs.Acting.{Around, Operates}
use Rattle.laws_call.specs.Writing.{Written, puts}
use Rattle.laws_operation.proofs.places.Laws.{carried_in_place}
use Rattle.laws_operation.specs.ByteLaws.{IsOrdinary}
use Rattle.laws_operation.specs.FileWords.{ArePastTheEnd, CanPut}
use Rattle.pack_model.specs.operations.Committing.{page_of_byte}
use Rattle.pack_model.specs.operations.PageWords.{put_value}
use Rattle.pack_model.specs.operations.Step.Operation.{put}
use Rattle.pack_model.specs.states.Whole.{Tidy, Whole}
use Rattle.page_seeking.specs.Seeking.{file_length, page_number}
use Rattle.file_pages.specs.Calls.{IsOneValue}
use Rattle.page_seeking.specs.declared.refs.FileError.TheVariants.{DiskFault, Memory}
use Rattle.page_seeking.specs.declared.refs.FileError.{FileError}
use Rattle.file_pages.specs.Putting.{MayBePut, Puts, putting, value_put}
use Rattle.file_pages.specs.Values.{WroteValue}
use Rattle.file_pages.proofs.Valued.{value_operates}

-- Bytes, and words after them, for a page of a file.
pub record Fits (p : Pack) (f : Fid) (offset : ℕ) (new past : List ℕ) (at : ℕ) : Type 0 where
  pub carries : carried p at ≡ Some (page_number f (page_of_byte offset))
  pub sized : length (sector_at p at).value ≡ 256
  pub one_page : offset % 512 + length new + 2 * length past ≤ 512
  pub within : offset + length new ≤ file_length p f
  pub bytes : All (λ b. b < 256) new
  pub words : All (λ w. w < 65536) past

pub put_once : (p : Pack) (f : Fid) (offset : ℕ) (new past : List ℕ) (at : ℕ) → Whole p → Tidy p → IsOrdinary f → MayBePut p f offset new past → Fits p f offset new past at
    → IsOneValue p (put f offset new) (value_writes at (put_value (offset % 512) new past (sector_at p at).value))
put_once p f offset new past at whole tidy ordinary may fits =
    let room = fits.one_page in
    let long = length-bytes_of past in
    let can : CanPut p f offset new at = record { file = ordinary; sector = carried_in_place p (page_number f (page_of_byte offset)) at whole fits.carries; one_page = omega (arith, room); within = fits.within; bytes = fits.bytes } in
    let later : ArePastTheEnd p f offset new past at = record { words = fits.words; room = omega (arith, room, long); last = may.last; sized = fits.sized } in
    let exact : Written p (put f offset new) [] [] (value_writes at (put_value (offset % 512) new past (sector_at p at).value)) = puts can later in
    record { exact = exact; acts = written_acts p (put f offset new) [] [] (value_writes at (put_value (offset % 512) new past (sector_at p at).value)) whole tidy exact; moves = refl }

-- the call is to do the operation
pub put_operates : {T : Type 0} {f : Fid} {offset at : ℕ} {new past : List ℕ} {old now : Around} {result : Result T FileError} → Whole (pack old.tape) → Tidy (pack old.tape) → IsOrdinary f → MayBePut (pack old.tape) f offset new past → Fits (pack old.tape) f offset new past at
    → WroteValue at (value_put (pack old.tape) at offset new past) (put f offset new) old now result → Operates DiskFault Memory (put f offset new) [] old now result
put_operates {f = f} {offset} {at} {new} {past} {old} whole tidy ordinary may fits wrote = value_operates (put_once (pack old.tape) f offset new past at whole tidy ordinary may fits) wrote

-- and was to write these bytes
pub put_puts : {T : Type 0} {f : Fid} {offset at : ℕ} {new past : List ℕ} {old now : Around} {result : Result T FileError} → Whole (pack old.tape) → Fits (pack old.tape) f offset new past at
    → WroteValue at (value_put (pack old.tape) at offset new past) (put f offset new) old now result → Puts (pack old.tape) f offset new past old now result
put_puts {f = f} {offset} {at} {old = old} whole fits wrote = putting (carried_in_place (pack old.tape) (page_number f (page_of_byte offset)) at whole fits.carries) fits.within wrote
