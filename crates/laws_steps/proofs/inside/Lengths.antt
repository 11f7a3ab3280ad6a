-- Lengths of files within a line.
use Rattle.std.proofs.Common.{Bool, List, None, Option, Some, [], ap, cond, false, length, refl, sym, true, ℕ, ◌+◌, ◌∙◌, ◌∷◌, ◌≡◌, ◌≤◌}
use Rattle.std.specs.FinMap.{get, get-insert, insert}
use Rattle.std.specs.Option.{option_map}
use Rattle.laws_call.specs.alto_words.specs.Fid.{is_fid}
use Rattle.pack_laws.proofs.Bytes.{length-put_at}
use Rattle.pack_laws.proofs.Keys.{fid_same, fid_total, is_fid-itself, same_fid}
use Rattle.pack_laws.proofs.Mapping.{get-update}
use Rattle.laws_call.specs.pack_model.specs.operations.Committing.{length_in}
use Rattle.laws_call.specs.pack_model.specs.operations.Rooms.{items_entered}
use Rattle.laws_call.specs.pack_model.specs.operations.Step.{body_bytes, body_slots, new_file, on_bytes, on_items}
use Rattle.laws_call.specs.pack_model.specs.reading.Bodies.Body.{data_of, items_of}
use Rattle.laws_call.specs.pack_model.specs.reading.Bodies.{Body, File, Files, body_length}
use Rattle.laws_call.specs.pack_model.specs.reading.Bytes.{put_at}
use Rattle.laws_call.specs.pack_model.specs.reading.Slots.Item.{entry, space}
use Rattle.laws_call.specs.pack_model.specs.reading.Slots.{Item}
use Rattle.laws_steps.specs.LengthLaws.{NewFileIsEmpty, PutKeepsTheLength}

-- ---- bytes that are put
put_in_body : (b : Body) (offset : ℕ) (new : List ℕ) → offset + length new ≤ body_length b → body_length (body_bytes (put_at offset new) b) ≡ body_length b
put_in_body (data_of bytes) offset new within = length-put_at offset new bytes within
put_in_body (items_of is) offset new within = refl

put_in_file : (r : Option File) (offset : ℕ) (new : List ℕ) → offset + length new ≤ length_in r → length_in (option_map (on_bytes (put_at offset new)) r) ≡ length_in r
put_in_file None offset new within = refl
put_in_file (Some x) offset new within = put_in_body x.body offset new within

pub put_keeps_the_length : PutKeepsTheLength
put_keeps_the_length m f offset new within =
    ap length_in (get-update fid_total fid_same m.files f (on_bytes (put_at offset new)) f)
    ∙ ap (λ c. length_in (cond c (option_map (on_bytes (put_at offset new)) (get m.files f)) (get m.files f))) (is_fid-itself f)
    ∙ put_in_file (get m.files f) offset new within

-- ---- a new file
pub new_file_is_empty : NewFileIsEmpty
new_file_is_empty m d f name own moment ordinary =
    ap length_in (get-update fid_total fid_same made d (on_items entered) f) ∙ by (is_fid f d) refl
  where
    made : Files
    made = insert m.files f (new_file f name moment)

    entered : List Item → List Item
    entered = items_entered (entry f own)

    there : get made f ≡ Some (new_file f name moment)
    there = get-insert fid_total m.files f (new_file f name moment) f ∙ ap (λ c. cond c (Some (new_file f name moment)) (get m.files f)) (is_fid-itself f)

    by : (c : Bool) → is_fid f d ≡ c → length_in (cond c (option_map (on_items entered) (get made d)) (get made f)) ≡ 0
    by false is = ap length_in there ∙ ap (λ c. body_length (cond c (items_of (space 255 ∷ [])) (data_of []))) ordinary
    by true is =
        ap (λ k. length_in (option_map (on_items entered) (get made k))) (sym (same_fid f d is))
        ∙ ap (λ r. length_in (option_map (on_items entered) r)) there
        ∙ ap (λ c. body_length (body_slots entered (cond c (items_of (space 255 ∷ [])) (data_of [])))) ordinary
