-- What a pack is read as has slots in its directories, and bytes in all other files.
use Rattle.std.proofs.Common.{◌∙◌, ◌≡◌, Bool, List, None, Option, Some, ap, cond, false, not, refl, sym, true, ℕ}
use Rattle.std.specs.FinMap.{get}
use Rattle.std.specs.Option.{is_some, option_map}
use Rattle.laws_operation.specs.alto_words.specs.Fid.{is_directory}
use Rattle.laws_operation.specs.alto_words.specs.declared.fid.Fid.{Fid}
use Rattle.laws_operation.specs.disk_records.specs.declared.shape.Shape.{Shape}
use Rattle.laws_operation.specs.pack_model.specs.reading.Bodies.{Body, File, described, found, is_described}
use Rattle.laws_operation.specs.pack_model.specs.reading.Bodies.Body.{data_of, items_of}
use Rattle.laws_operation.specs.pack_model.specs.reading.Bytes.{words_of}
use Rattle.laws_operation.specs.pack_model.specs.reading.Files.{file_bytes, leader, lives}
use Rattle.laws_operation.specs.pack_model.specs.reading.Leaders.{Leader}
use Rattle.laws_operation.specs.pack_model.specs.reading.Model.{Model, read_sights}
use Rattle.laws_operation.specs.pack_model.specs.reading.Sights.{Sight}
use Rattle.laws_operation.specs.pack_model.specs.reading.Slots.{slots}
use Rattle.laws_operation.specs.pack_model.specs.showing.View.{seen_body, seen_of}
use Rattle.laws_record.proofs.Keeping.{get-where}
use Rattle.laws_record.proofs.Mending.{get-seen}
use Rattle.laws_record.proofs.Reading.{get-found, read_file}

-- the body is bytes
abbrev pub is_data : Body → Bool
is_data body = is_some (seen_body body)

-- each file but the directories is bytes
abbrev pub HasKinds : Model → Type 0
HasKinds m = (f : Fid) (x : File) → get m.files f ≡ Some x → is_data x.body ≡ not (is_directory f)

-- so it is in what a pack is read as
pub read_kinds : (shape : Shape) (ss : List Sight) → HasKinds (read_sights shape ss)
unfolding read_sights
read_kinds shape ss f x is = by (is_described f) (leader ss f) (ap (option_map (seen_of f)) (sym is) ∙ get-seen (lives ss) (described ss) f ∙ ap (option_map (seen_of f)) (get-where (found ss) is_described f ∙ ap (λ r. cond (is_described f) r None) (get-found ss f)))
  where
    kind : (b : Bool) (bytes : List ℕ) → is_data (cond b (items_of (slots (words_of bytes))) (data_of bytes)) ≡ not b
    kind true bytes = refl
    kind false bytes = refl

    by : (b : Bool) (r : Option Leader) → Some (seen_of f x) ≡ option_map (seen_of f) (cond b (option_map (read_file f (file_bytes ss f)) r) None) → is_data x.body ≡ not (is_directory f)
    by false r e = absurd (let n : Some (seen_of f x) ≡ None = e in cc)
    by true None e = absurd (let n : Some (seen_of f x) ≡ None = e in cc)
    by true (Some l) e =
        let same : seen_of f x ≡ seen_of f (read_file f (file_bytes ss f) l) = cc in
        ap (λ s. is_some s.bytes) same ∙ kind (is_directory f) (file_bytes ss f)
