-- How many bytes an ordinary file has, over operations on it and on others.
use Rattle.std.proofs.Common.{◌≡◌, ◌⊎◌, ◌≤◌, ℕ, ◌+◌, ◌-◌, ◌%◌, zero, suc, Bool, true, false, cond, not, List, [], ◌∷◌, ◌++◌, Some, None, inl, inr, min, max, length, take, drop, refl, sym, subst, ◌∙◌, ap, arith, length-append, length-drop}
use Rattle.std.proofs.lemmas.Bool.{cases_lt}
use Rattle.std.proofs.lemmas.List.{length-take}
use Rattle.std.proofs.Math.ListN.{drop_of_length-le}
use Rattle.std.specs.FinMap.{contains_key, get, get-insert, get-remove, remove}
use Rattle.std.specs.Option.{is_some, option_map}
use Rattle.laws_line.specs.alto_words.specs.declared.fid.Fid.{Fid}
use Rattle.laws_line.specs.alto_words.specs.Fid.{is_fid}
use Rattle.laws_line.specs.disk_records.specs.Packs.{Pack}
use Rattle.laws_line.specs.pack_model.specs.operations.Committing.{length_in, length_of}
use Rattle.laws_line.specs.pack_model.specs.operations.Rooms.{items_entered}
use Rattle.laws_line.specs.pack_model.specs.operations.Step.{Operation, file_without, items_left, new_file, on_bytes, on_items, on_leader, step}
use Rattle.laws_line.specs.pack_model.specs.operations.Step.Operation.{cut, drop_file, enter, grow, leave, make, put, stamp, title, widen}
use Rattle.laws_line.specs.pack_model.specs.reading.Bodies.{File, described, found, is_described}
use Rattle.laws_line.specs.pack_model.specs.reading.Bodies.Body.{data_of, items_of}
use Rattle.laws_line.specs.pack_model.specs.reading.Bytes.{put_at, words_of}
use Rattle.laws_line.specs.pack_model.specs.reading.Files.{file_bytes, lives}
use Rattle.laws_line.specs.pack_model.specs.reading.Leaders.{Leader}
use Rattle.laws_line.specs.pack_model.specs.reading.Model.{Model, read_as, read_sights}
use Rattle.laws_line.specs.pack_model.specs.reading.Sights.{Sight, sights}
use Rattle.laws_line.specs.pack_model.specs.reading.Slots.{Item, slots}
use Rattle.laws_line.specs.pack_model.specs.reading.Slots.Item.{entry, space}
use Rattle.laws_line.specs.pack_model.specs.sessions.Maps.{update}
use Rattle.laws_line.specs.pack_laws.proofs.Bytes.{length-put_at}
use Rattle.laws_line.specs.pack_laws.proofs.Keys.{fid_same, fid_total, is_fid-itself, same_fid}
use Rattle.laws_line.specs.pack_laws.proofs.Mapping.{get-map_values, get-update}
use Rattle.laws_line.specs.laws_record.proofs.DirReads.{has_leader}
use Rattle.laws_line.specs.laws_record.proofs.Keeping.{get-tidied_plain, get-where, plain}
use Rattle.laws_line.specs.laws_record.proofs.Reading.{get_by, read_file}
use Rattle.laws_line.specs.laws_operation.specs.ByteLaws.{IsOrdinary}
use Rattle.laws_line.specs.Ready.{steps_of}
use Rattle.session_model.specs.Streams.{Stream, bytes_in, data_in, flush_ops, grows, pending_from, puts, puts_from, written_ops}

-- The file is in the model, as an ordinary one of n bytes.
pub record Holds (m : Model) (f : Fid) (n : ℕ) : Type 0 where
  pub lead : Leader
  pub bytes : List ℕ
  pub here : get m.files f ≡ Some (plain lead bytes)
  pub size : length bytes ≡ n

pub holds_there : (m : Model) (f : Fid) (n : ℕ) → Holds m f n → contains_key m.files f ≡ true
holds_there m f n h = ap is_some h.here

pub holds_length : (m : Model) (f : Fid) (n : ℕ) → Holds m f n → length_of m f ≡ n
holds_length m f n h = ap length_in h.here ∙ h.size

-- its bytes are as many
pub holds_bytes : (m : Model) (f : Fid) (n : ℕ) → Holds m f n → length (bytes_in m f) ≡ n
holds_bytes m f n h = ap (λ r. length (data_in r)) h.here ∙ h.size

-- so it is of each living ordinary file that a pack is read as
pub read_holds : (p : Pack) (f : Fid) → IsOrdinary f → lives (sights p) f ≡ true → Holds (read_as p) f (length_of (read_as p) f)
unfolding read_sights
read_holds p f o live = record { lead = l; bytes = file_bytes ss f; here = here; size = sym (ap length_in here) }
  where
    ss : List Sight
    ss = sights p

    l : Leader
    l = (has_leader ss f live).0

    is_plain : read_file f (file_bytes ss f) l ≡ plain l (file_bytes ss f)
    is_plain = ap (λ b. record { leader = l; body = cond b (items_of (slots (words_of (file_bytes ss f)))) (data_of (file_bytes ss f)) }) o.no_directory

    was : get (described ss) f ≡ Some (plain l (file_bytes ss f))
    was = get-where (found ss) is_described f ∙ ap (λ b. cond b (get (found ss) f) None) (ap not o.no_descriptor) ∙ get_by ss f l (file_bytes ss f) (has_leader ss f live).1 refl ∙ ap Some is_plain

    here : get (read_as p).files f ≡ Some (plain l (file_bytes ss f))
    here = get-tidied_plain (lives ss) (described ss) f (plain l (file_bytes ss f)) was (file_bytes ss f, refl)

-- ---- a change of one file
-- a change of this one
updated : (m : Model) (g : Fid) (h : File → File) (f : Fid) (x : File) → get m.files f ≡ Some x → get (update m.files g h) f ≡ cond (is_fid f g) (Some (h x)) (Some x)
updated m g h f x is = get-update fid_total fid_same m.files g h f ∙ by (is_fid f g) refl
  where
    by : (b : Bool) → is_fid f g ≡ b → cond b (option_map h (get m.files g)) (get m.files f) ≡ cond b (Some (h x)) (Some x)
    by true e = ap (λ k. option_map h (get m.files k)) (sym (same_fid f g e)) ∙ ap (option_map h) is
    by false e = is

-- another one
of_another : (m : Model) (g : Fid) (h : File → File) (f : Fid) (n : ℕ) → is_fid f g ≡ false → Holds m f n → Holds (record m { files = update m.files g h }) f n
of_another m g h f n other k = record { lead = k.lead; bytes = k.bytes; here = updated m g h f (plain k.lead k.bytes) k.here ∙ ap (λ b. cond b (Some (h (plain k.lead k.bytes))) (Some (plain k.lead k.bytes))) other; size = k.size }

-- its bytes
of_bytes : (m : Model) (h : List ℕ → List ℕ) (f : Fid) (n : ℕ) (k : Holds m f n) (j : ℕ) → length (h k.bytes) ≡ j → Holds (record m { files = update m.files f (on_bytes h) }) f j
of_bytes m h f n k j e = record { lead = k.lead; bytes = h k.bytes; here = updated m f (on_bytes h) f (plain k.lead k.bytes) k.here ∙ ap (λ b. cond b (Some (plain k.lead (h k.bytes))) (Some (plain k.lead k.bytes))) (is_fid-itself f); size = e }

-- its leader, or that of another
of_leader : (m : Model) (g : Fid) (h : Leader → Leader) (f : Fid) (n : ℕ) → Holds m f n → Holds (record m { files = update m.files g (on_leader h) }) f n
of_leader m g h f n k = record { lead = cond (is_fid f g) (h k.lead) k.lead; bytes = k.bytes; here = updated m g (on_leader h) f (plain k.lead k.bytes) k.here ∙ by (is_fid f g); size = k.size }
  where
    by : (b : Bool) → cond b (Some (plain (h k.lead) k.bytes)) (Some (plain k.lead k.bytes)) ≡ Some (plain (cond b (h k.lead) k.lead) k.bytes)
    by true = refl
    by false = refl

-- the slots of a directory
of_items : (m : Model) (g : Fid) (h : List Item → List Item) (f : Fid) (n : ℕ) → Holds m f n → Holds (record m { files = update m.files g (on_items h) }) f n
of_items m g h f n k = record { lead = k.lead; bytes = k.bytes; here = updated m g (on_items h) f (plain k.lead k.bytes) k.here ∙ by (is_fid f g); size = k.size }
  where
    by : (b : Bool) → cond b (Some (plain k.lead k.bytes)) (Some (plain k.lead k.bytes)) ≡ Some (plain k.lead k.bytes)
    by true = refl
    by false = refl

-- ---- operations that leave its bytes
-- it isn't made, changed or dropped; titles, dates and slots may be any
abbrev pub Spares : Fid → Operation → Type 0
Spares f (make g name moment) = is_fid f g ≡ false
Spares f (put g offset new) = is_fid f g ≡ false
Spares f (grow g new) = is_fid f g ≡ false
Spares f (cut g n) = is_fid f g ≡ false
Spares f (drop_file g) = is_fid f g ≡ false
Spares f (title g name) = Unit {0}
Spares f (stamp g moment) = Unit {0}
Spares f (leave d name) = Unit {0}
Spares f (enter d name g) = Unit {0}
Spares f (widen d) = Unit {0}

abbrev pub SpareAll : Fid → List Operation → Type 0
SpareAll f [] = Unit {0}
SpareAll f (o ∷ ops) = Spares f o × SpareAll f ops

spared_step : (m : Model) (f : Fid) (n : ℕ) (o : Operation) → Spares f o → Holds m f n → Holds (step m o) f n
spared_step m f n (make g name moment) other k = record {
  lead = k.lead;
  bytes = k.bytes;
  here = get-insert fid_total m.files g (new_file g name moment) f ∙ ap (λ b. cond b (Some (new_file g name moment)) (get m.files f)) other ∙ k.here;
  size = k.size;
}
spared_step m f n (put g offset new) other k = of_another m g (on_bytes (put_at offset new)) f n other k
spared_step m f n (grow g new) other k = of_another m g (on_bytes (λ bytes. bytes ++ new)) f n other k
spared_step m f n (cut g j) other k = of_another m g (on_bytes (take j)) f n other k
spared_step m f n (drop_file g) other k = record {
  lead = k.lead;
  bytes = k.bytes;
  here = get-map_values fid_total fid_same (file_without g) (remove m.files g) f ∙ ap (option_map (file_without g f)) (get-remove fid_total m.files g f ∙ ap (λ b. cond b None (get m.files f)) other ∙ k.here);
  size = k.size;
}
spared_step m f n (title g name) other k = of_leader m g (λ l. record l { name = name }) f n k
spared_step m f n (stamp g moment) other k = of_leader m g (λ l. record l { written = moment }) f n k
spared_step m f n (leave d name) other k = of_items m d (items_left name) f n k
spared_step m f n (enter d name g) other k = of_items m d (items_entered (entry g name)) f n k
spared_step m f n (widen d) other k = of_items m d (λ is. is ++ space 256 ∷ []) f n k

pub spared : (m : Model) (f : Fid) (n : ℕ) (ops : List Operation) → SpareAll f ops → Holds m f n → Holds (steps_of m ops) f n
spared m f n [] s k = k
spared m f n (o ∷ ops) s k = spared (step m o) f n ops s.1 (spared_step m f n o s.0 k)

-- ---- what a stream writes into it
put_holds : (m : Model) (f : Fid) (n offset : ℕ) (new : List ℕ) → offset + length new ≤ n → Holds m f n → Holds (step m (put f offset new)) f n
put_holds m f n offset new within k = let size = k.size in of_bytes m (put_at offset new) f n k n (length-put_at offset new k.bytes (omega (arith, within, size)) ∙ size)

grow_holds : (m : Model) (f : Fid) (n : ℕ) (new : List ℕ) → Holds m f n → Holds (steps_of m (grows f new)) f (n + length new)
grow_holds m f n [] k = subst (Holds m f) (omega arith) k
grow_holds m f n (b ∷ new) k = of_bytes m (λ bytes. bytes ++ b ∷ new) f n k (n + length (b ∷ new)) (length-append k.bytes (b ∷ new) ∙ ap (λ i. i + length (b ∷ new)) k.size)

-- no bytes, or all within so many
abbrev AreWithin : ℕ → ℕ → List ℕ → Type 0
AreWithin n at bytes = (bytes ≡ []) ⊎ (at + length bytes ≤ n)

puts_from_hold : (fuel : ℕ) (m : Model) (f : Fid) (n at : ℕ) (bytes : List ℕ) → AreWithin n at bytes → Holds m f n → Holds (steps_of m (puts_from fuel f at bytes)) f n
puts_from_hold zero m f n at bytes h k = k
puts_from_hold (suc fuel) m f n at [] h k = k
puts_from_hold (suc fuel) m f n at (b ∷ bytes) (inl e) k = absurd cc
puts_from_hold (suc fuel) m f n at (b ∷ bytes) (inr h) k =
    let j : ℕ = 512 - at % 512 in
    let bs : List ℕ = b ∷ bytes in
    let some = length-take j bs in
    puts_from_hold fuel (step m (put f at (take j bs))) f n (at + j) (drop j bs) (rest j bs h) (put_holds m f n at (take j bs) (omega (arith, some, h)) k)
  where
    rest : (j : ℕ) (bs : List ℕ) → at + length bs ≤ n → AreWithin n (at + j) (drop j bs)
    rest j bs h = elim (cases_lt j (length bs)) [
      | inl among ↦ (let size = length-drop j bs in inr (omega (arith, size, h, among)))
      | inr past ↦ inl (drop_of_length-le bs past)
    ]

-- operations one after another
then_holds : (m : Model) (f : Fid) (n : ℕ) (a b : List Operation) → Holds (steps_of (steps_of m a) b) f n → Holds (steps_of m (a ++ b)) f n
then_holds m f n [] b k = k
then_holds m f n (o ∷ a) b k = then_holds (step m o) f n a b k

-- pending bytes, the first j of them: the file is as long as before, or ends with them
pub written_holds : (m : Model) (s : Stream) (n j : ℕ) → Holds m s.fid n → pending_from s ≤ n → j ≤ length s.pending → Holds (steps_of m (written_ops m s j)) s.fid (max n (pending_from s + j))
written_holds m s n j k within some =
    let long = holds_length m s.fid n k in
    let below : ℕ = min j (length_of m s.fid - pending_from s) in
    let front : List ℕ = take below s.pending in
    let more : List ℕ = drop below (take j s.pending) in
    let size = length-take below s.pending in
    let taken = length-take j s.pending in
    let left = length-drop below (take j s.pending) in
    let put = puts_from_hold (length front) m s.fid n (pending_from s) front (inr (omega (arith, size, long, within))) k in
    then_holds m s.fid (max n (pending_from s + j)) (puts s.fid (pending_from s) front) (grows s.fid more)
    (subst (Holds (steps_of (steps_of m (puts s.fid (pending_from s) front)) (grows s.fid more)) s.fid) (omega (arith, left, taken, some, within, long))
    (grow_holds (steps_of m (puts s.fid (pending_from s) front)) s.fid n more put))

pub flush_holds : (m : Model) (s : Stream) (n : ℕ) → Holds m s.fid n → pending_from s ≤ n → Holds (steps_of m (flush_ops m s)) s.fid (max n (pending_from s + length s.pending))
flush_holds m s n k within = written_holds m s n (length s.pending) k within (omega arith)
