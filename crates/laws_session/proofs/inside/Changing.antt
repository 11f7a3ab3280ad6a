-- Operations that leave names as they are, as lines on one file have them.
use Rattle.std.proofs.Common.{◌≡◌, ◌⊎◌, ℕ, ◌+◌, ◌-◌, ◌%◌, ◌≤◌, ◌==◌, zero, suc, Bool, true, false, cond, List, [], ◌∷◌, ◌++◌, Option, Some, None, inl, inr, refl, ◌∙◌, ap, length, take, drop, arith, length-drop}
use Rattle.std.proofs.lemmas.Bool.{cases_lt}
use Rattle.std.proofs.lemmas.List.{length-take}
use Rattle.std.proofs.Math.ListN.{drop_of_length-le}
use Rattle.std.specs.FinMap.{get}
use Rattle.std.specs.Option.{option_map}
use Rattle.laws_line.specs.alto_words.specs.declared.fid.Fid.{Fid}
use Rattle.laws_line.specs.pack_model.specs.operations.Committing.{length_in, length_of}
use Rattle.laws_line.specs.pack_model.specs.operations.Step.{Operation, body_bytes, on_bytes, step}
use Rattle.laws_line.specs.pack_model.specs.operations.Step.Operation.{cut, put, stamp}
use Rattle.laws_line.specs.pack_model.specs.reading.Bodies.{Body, File, body_length}
use Rattle.laws_line.specs.pack_model.specs.reading.Bodies.Body.{data_of, items_of}
use Rattle.laws_line.specs.pack_model.specs.reading.Bytes.{put_at}
use Rattle.laws_line.specs.pack_model.specs.reading.Model.{Model}
use Rattle.laws_line.specs.pack_laws.proofs.Bytes.{length-put_at}
use Rattle.laws_line.specs.pack_laws.proofs.Keys.{fid_same, fid_total, is_fid-itself}
use Rattle.laws_line.specs.pack_laws.proofs.Mapping.{get-update}
use Rattle.laws_line.specs.LineLaws.{LeaveNames}
use Rattle.laws_line.specs.Ready.{steps_of}
use Rattle.session_model.specs.Effects.{appended_ops, copied_ops, cut_ops}
use Rattle.session_model.specs.Streams.{grows, puts, puts_from}

-- ---- operations one after another
pub leave_then : (m : Model) (a b : List Operation) → LeaveNames m a → LeaveNames (steps_of m a) b → LeaveNames m (a ++ b)
leave_then m [] b first next = next
leave_then m (o ∷ a) b first next = (first.0, leave_then (step m o) a b first.1 next)

pub grows_leave : (m : Model) (f : Fid) (bytes : List ℕ) → LeaveNames m (grows f bytes)
grows_leave m f [] = tt
grows_leave m f (b ∷ bytes) = (tt, tt)

-- ---- bytes and a date
pub appended_leave : (m : Model) (f : Fid) (bytes : List ℕ) (moment : ℕ) → LeaveNames m (appended_ops f bytes moment)
appended_leave m f [] moment = (tt, tt)
appended_leave m f (b ∷ bytes) moment = (tt, (tt, tt))

pub copied_leave : (m : Model) (f : Fid) (bytes : List ℕ) (moment : ℕ) → LeaveNames m (copied_ops f bytes moment)
copied_leave m f [] moment = tt
copied_leave m f (b ∷ bytes) moment = (tt, (tt, tt))

pub cut_leaves : (m : Model) (f : Fid) (n moment : ℕ) → LeaveNames m (cut_ops m f n moment)
cut_leaves m f n moment = by (n == length_of m f)
  where
    by : (b : Bool) → LeaveNames m (cond b [] (cut f n ∷ []) ++ stamp f moment ∷ [])
    by true = (tt, tt)
    by false = (tt, (tt, tt))

-- ---- puts within a file
body_put : (b : Body) (offset : ℕ) (new : List ℕ) → offset + length new ≤ body_length b → body_length (body_bytes (put_at offset new) b) ≡ body_length b
body_put (data_of bytes) offset new l = length-put_at offset new bytes l
body_put (items_of is) offset new l = refl

put_length : (r : Option File) (offset : ℕ) (new : List ℕ) → offset + length new ≤ length_in r → length_in (option_map (on_bytes (put_at offset new)) r) ≡ length_in r
put_length None offset new l = refl
put_length (Some x) offset new l = body_put x.body offset new l

pub length_put : (m : Model) (f : Fid) (offset : ℕ) (new : List ℕ) → offset + length new ≤ length_of m f → length_of (step m (put f offset new)) f ≡ length_of m f
length_put m f offset new l =
    ap length_in (get-update fid_total fid_same m.files f (on_bytes (put_at offset new)) f)
    ∙ ap (λ b. length_in (cond b (option_map (on_bytes (put_at offset new)) (get m.files f)) (get m.files f))) (is_fid-itself f)
    ∙ put_length (get m.files f) offset new l

-- no bytes, or all within the file
abbrev Within : Model → Fid → ℕ → List ℕ → Type 0
Within m f at bytes = (bytes ≡ []) ⊎ (at + length bytes ≤ length_of m f)

-- so are those after the first put
later : (m : Model) (f : Fid) (at k : ℕ) (bs : List ℕ) → length_of (step m (put f at (take k bs))) f ≡ length_of m f → at + length bs ≤ length_of m f → Within (step m (put f at (take k bs))) f (at + k) (drop k bs)
later m f at k bs same h = elim (cases_lt k (length bs)) [
  | inl among ↦ (let size = length-drop k bs in inr (omega (arith, size, same, h, among)))
  | inr past ↦ inl (drop_of_length-le bs past)
]

puts_from_leave : (fuel : ℕ) (m : Model) (f : Fid) (at : ℕ) (bytes : List ℕ) → Within m f at bytes → LeaveNames m (puts_from fuel f at bytes)
puts_from_leave zero m f at bytes h = tt
puts_from_leave (suc fuel) m f at [] h = tt
puts_from_leave (suc fuel) m f at (b ∷ bytes) (inl e) = absurd cc
puts_from_leave (suc fuel) m f at (b ∷ bytes) (inr h) =
    let k : ℕ = 512 - at % 512 in
    let bs : List ℕ = b ∷ bytes in
    let some = length-take k bs in
    let first : at + length (take k bs) ≤ length_of m f = omega (arith, some, h) in
    let same = length_put m f at (take k bs) first in
    (first, puts_from_leave fuel (step m (put f at (take k bs))) f (at + k) (drop k bs) (later m f at k bs same h))

pub puts_leave : (m : Model) (f : Fid) (at : ℕ) (bytes : List ℕ) → at + length bytes ≤ length_of m f → LeaveNames m (puts f at bytes)
puts_leave m f at bytes h = puts_from_leave (length bytes) m f at bytes (inr h)

-- they leave the file's length
length_puts_from : (fuel : ℕ) (m : Model) (f : Fid) (at : ℕ) (bytes : List ℕ) → Within m f at bytes → length_of (steps_of m (puts_from fuel f at bytes)) f ≡ length_of m f
length_puts_from zero m f at bytes h = refl
length_puts_from (suc fuel) m f at [] h = refl
length_puts_from (suc fuel) m f at (b ∷ bytes) (inl e) = absurd cc
length_puts_from (suc fuel) m f at (b ∷ bytes) (inr h) =
    let k : ℕ = 512 - at % 512 in
    let bs : List ℕ = b ∷ bytes in
    let some = length-take k bs in
    let same = length_put m f at (take k bs) (omega (arith, some, h)) in
    length_puts_from fuel (step m (put f at (take k bs))) f (at + k) (drop k bs) (later m f at k bs same h) ∙ same

pub length_puts : (m : Model) (f : Fid) (at : ℕ) (bytes : List ℕ) → at + length bytes ≤ length_of m f → length_of (steps_of m (puts f at bytes)) f ≡ length_of m f
length_puts m f at bytes h = length_puts_from (length bytes) m f at bytes (inr h)
