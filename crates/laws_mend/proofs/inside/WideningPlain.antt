-- The words of a widening, one by one.
use Rattle.std.proofs.Common.{[], ◌%◌, ◌*◌, ◌++◌, ◌+◌, ◌-◌, ◌/◌, ◌∙◌, ◌∷◌, ◌≡◌, ◌≤◌, List, Some, ap, append-nil, append_assoc, arith, drop, length, min, refl, suc, sym, take, zero, ℕ}
use Rattle.std.proofs.lemmas.List.{drop_all, length-append, length-replicate, length-take-le}
use Rattle.std.specs.Prelude.{replicate}
use Rattle.laws_room.specs.alto_words.specs.declared.fid.Fid.{Fid}
use Rattle.laws_room.specs.disk_records.specs.Addresses.{real_of}
use Rattle.laws_room.specs.disk_records.specs.Commands.{claim_writes}
use Rattle.laws_room.specs.disk_records.specs.Labels.{Tag, label_of, page_of}
use Rattle.laws_room.specs.disk_records.specs.Packs.{Pack, sector_at}
use Rattle.laws_room.specs.disk_records.specs.Words.{word}
use Rattle.laws_room.specs.pack_model.specs.hints.Links.{no_link}
use Rattle.laws_room.specs.pack_model.specs.operations.PageWords.{filled, page_number, page_value, widening_bytes}
use Rattle.laws_room.specs.pack_model.specs.reading.Bytes.{bytes_of, put_at, words_of}
use Rattle.laws_room.specs.pack_model.specs.reading.Files.{file_bytes}
use Rattle.laws_room.specs.pack_model.specs.reading.Sights.{sights}
use Rattle.laws_room.specs.pack_model.specs.reading.SlotWords.{space_words}
use Rattle.laws_room.specs.pack_laws.proofs.Bytes.{length-bytes_of, words_of-bytes_of}
use Rattle.laws_room.specs.pack_laws.proofs.Guarding.{carried_parts}
use Rattle.laws_room.specs.laws_record.proofs.DirWords.{put_words}
use Rattle.laws_room.specs.laws_operation.proofs.Making.{named_page}
use Rattle.laws_mend.proofs.inside.WideningWords.{all_size, far, far_all, here, last, last_label, last_named, last_value, near, next_bytes, next_label, next_named, next_value}
use Rattle.laws_mend.specs.WidenLaws.{CanWiden, WideningInWords, last_number}

-- ---- words and bytes
first_bytes : (n : ℕ) (words : List ℕ) → bytes_of (take n words) ≡ take (2 * n) (bytes_of words)
first_bytes zero words = refl
first_bytes (suc n) [] = let z : suc (suc (2 * n)) ≡ 2 * suc n = omega arith in ap (λ k. take k []) z
first_bytes (suc n) (w ∷ words) = let z : suc (suc (2 * n)) ≡ 2 * suc n = omega arith in ap (λ r. (w / 256) ∷ (w % 256) ∷ r) (first_bytes n words) ∙ ap (λ k. take k (bytes_of (w ∷ words))) z

later_bytes : (n : ℕ) (words : List ℕ) → bytes_of (drop n words) ≡ drop (2 * n) (bytes_of words)
later_bytes zero words = refl
later_bytes (suc n) [] = let z : suc (suc (2 * n)) ≡ 2 * suc n = omega arith in ap (λ k. drop k []) z
later_bytes (suc n) (w ∷ words) = let z : suc (suc (2 * n)) ≡ 2 * suc n = omega arith in later_bytes n words ∙ ap (λ k. drop k (bytes_of (w ∷ words))) z

-- ---- zeros
abbrev zeros : ℕ → List ℕ
zeros n = replicate n 0

zero_bytes : (n : ℕ) → bytes_of (zeros n) ≡ zeros (2 * n)
zero_bytes zero = refl
zero_bytes (suc n) = let z : suc (suc (2 * n)) ≡ 2 * suc n = omega arith in ap (λ r. 0 ∷ 0 ∷ r) (zero_bytes n) ∙ ap zeros z

more_zeros : (a b : ℕ) → zeros a ++ zeros b ≡ zeros (a + b)
more_zeros zero b = let z : b ≡ 0 + b = omega arith in ap zeros z
more_zeros (suc a) b = let z : suc (a + b) ≡ suc a + b = omega arith in ap (λ r. 0 ∷ r) (more_zeros a b) ∙ ap zeros z

first_zeros : (a b : ℕ) → take a (zeros (a + b)) ≡ zeros a
first_zeros zero b = refl
first_zeros (suc a) b = let z : suc a + b ≡ suc (a + b) = omega arith in ap (λ k. take (suc a) (zeros k)) z ∙ ap (λ r. 0 ∷ r) (first_zeros a b)

later_zeros : (a b : ℕ) → drop a (zeros (a + b)) ≡ zeros b
later_zeros zero b = let z : 0 + b ≡ b = omega arith in ap zeros z
later_zeros (suc a) b = let z : suc a + b ≡ suc (a + b) = omega arith in ap (λ k. drop (suc a) (zeros k)) z ∙ later_zeros a b

-- ---- labels
-- the last words of eight
last_four : (l : List ℕ) → length l ≡ 8 → drop 4 l ≡ word l 4 ∷ word l 5 ∷ word l 6 ∷ word l 7 ∷ []
last_four [] e = absurd (omega arith)
last_four (a ∷ []) e = absurd (omega arith)
last_four (a ∷ b ∷ []) e = absurd (omega arith)
last_four (a ∷ b ∷ c ∷ []) e = absurd (omega arith)
last_four (a ∷ b ∷ c ∷ d ∷ l) e = four l (omega arith)
  where
    four : (l : List ℕ) → length l ≡ 4 → l ≡ word l 0 ∷ word l 1 ∷ word l 2 ∷ word l 3 ∷ []
    four [] e = absurd (omega arith)
    four (x ∷ []) e = absurd (omega arith)
    four (x ∷ y ∷ []) e = absurd (omega arith)
    four (x ∷ y ∷ z ∷ []) e = absurd (omega arith)
    four (x ∷ y ∷ z ∷ v ∷ []) e = refl
    four (x ∷ y ∷ z ∷ v ∷ t ∷ l) e = absurd (omega arith)

module _ (p : Pack) (d : Fid) (at fresh w : ℕ) (h : CanWiden p d at fresh) (long : length (sector_at p at).label ≡ 8) (size : length (file_bytes (sights p) d) ≡ 2 * w) where
  abbrev u : ℕ
  u = w % 256

  abbrev b : ℕ
  b = length (file_bytes (sights p) d)

  abbrev label : List ℕ
  label = (sector_at p at).label

  abbrev value : List ℕ
  value = (sector_at p at).value

  bytes_are : b % 512 ≡ 2 * u
  bytes_are = omega arith

  pages_are : b / 512 ≡ w / 256
  pages_are = omega arith

  room : 512 - b % 512 ≡ 2 * (256 - u)
  room = omega arith

  rest : 256 - u ≡ suc (255 - u)
  rest = omega arith

  -- ---- the new page
  next_label_is : next_label p d at fresh h ≡ label_of (page_number d (w / 256 + 2)) (2 * u) no_link (real_of p.shape at)
  next_label_is = let c : min 512 (length (far p d at fresh h)) ≡ 2 * u = next_bytes p d at fresh h ∙ bytes_are in λ i. label_of (page_number d (pages_are i + 2)) (c i) no_link (real_of p.shape at)

  far_is : far p d at fresh h ≡ zeros (2 * u)
  far_is =
      let z : 255 ≡ (255 - u) + u = omega arith in
      ap (λ n. drop n widening_bytes) room ∙ sym (later_bytes (256 - u) (space_words 256)) ∙ ap (λ n. bytes_of (drop n (space_words 256))) rest
      ∙ ap (λ n. bytes_of (drop (255 - u) (zeros n))) z ∙ ap bytes_of (later_zeros (255 - u) u) ∙ zero_bytes u

  next_value_is : next_value p d at fresh h ≡ zeros 256
  next_value_is =
      let l : length (zeros (2 * u)) ≡ 2 * u = length-replicate {A = ℕ} (2 * u) 0 in
      let z : 2 * u + (512 - length (zeros (2 * u))) ≡ 2 * 256 = omega arith in
      ap (λ x. page_value x []) (far_all p d at fresh h ∙ far_is) ∙ ap (λ x. words_of (filled 512 x)) (append-nil (zeros (2 * u)))
      ∙ ap words_of (more_zeros (2 * u) (512 - length (zeros (2 * u))) ∙ ap zeros z ∙ sym (zero_bytes 256)) ∙ words_of-bytes_of (zeros 256)

  -- ---- the old one
  last_label_is : last_label p d at fresh h ≡ label_of (page_number d (w / 256 + 1)) 512 (real_of p.shape fresh) (word label 1)
  last_label_is =
      let named = (named_page label (last p d at fresh h) (carried_parts p at (last p d at fresh h) (here p d at fresh h)).1).0 in
      let z : min 512 (b % 512 + length widening_bytes) ≡ 512 = (let s = all_size p d at fresh h in omega arith) in
      let n : last_number p d ≡ w / 256 + 1 = omega arith in
      let number : word label 4 ≡ w / 256 + 1 = ap (λ (t : Tag). t.page) named ∙ n in
      let version : word label 5 ≡ d.version = ap (λ (t : Tag). t.fid.version) named in
      let high : word label 6 ≡ d.high = ap (λ (t : Tag). t.fid.high) named in
      let low : word label 7 ≡ d.low = ap (λ (t : Tag). t.fid.low) named in
      ap (λ x. real_of p.shape fresh ∷ word label 1 ∷ 0 ∷ min 512 (b % 512 + length widening_bytes) ∷ x) (last_four label long)
      ∙ (λ i. real_of p.shape fresh ∷ word label 1 ∷ 0 ∷ z i ∷ number i ∷ version i ∷ high i ∷ low i ∷ [])

  abbrev more : List ℕ
  more = 256 ∷ zeros (255 - u)

  more_size : length more ≡ 256 - u
  more_size = let l : length (zeros (255 - u)) ≡ 255 - u = length-replicate {A = ℕ} (255 - u) 0 in omega arith

  near_is : near p d at fresh h ≡ bytes_of more
  near_is =
      let z : 255 ≡ (255 - u) + u = omega arith in
      ap (λ n. take n widening_bytes) room ∙ sym (first_bytes (256 - u) (space_words 256)) ∙ ap (λ n. bytes_of (take n (space_words 256))) rest
      ∙ ap (λ n. bytes_of (256 ∷ take (255 - u) (zeros n))) z ∙ ap (λ x. bytes_of (256 ∷ x)) (first_zeros (255 - u) u)

  last_value_is : last_value p d at fresh h ≡ filled 256 (take u value ++ 256 ∷ [])
  last_value_is =
      let s = h.sized in
      let t : length (take u value) ≡ u = length-take-le u value (omega arith) in
      let one : length (take u value ++ 256 ∷ []) ≡ length (take u value) + 1 = length-append (take u value) (256 ∷ []) in
      let z : 256 - length (take u value ++ 256 ∷ []) ≡ 255 - u = omega arith in
      let m = more_size in
      let fits : 2 * u + length (bytes_of more) ≤ length (bytes_of value) = (let x = length-bytes_of more in let y = length-bytes_of value in omega arith) in
      (λ i. words_of (put_at (bytes_are i) (append-nil (near p d at fresh h) i) (bytes_of value))) ∙ ap (λ x. words_of (put_at (2 * u) x (bytes_of value))) near_is
      ∙ put_words u more (bytes_of value) fits ∙ ap (put_at u more) (words_of-bytes_of value)
      ∙ ap (λ x. take u value ++ more ++ x) (drop_all (u + length more) value (omega arith)) ∙ append-nil (take u value ++ more)
      ∙ sym (append_assoc (take u value) (256 ∷ []) (zeros (255 - u))) ∙ ap (λ n. (take u value ++ 256 ∷ []) ++ zeros n) (sym z)

pub widening_in_words : WideningInWords
widening_in_words p d at fresh w h long size =
    let new = next_label_is p d at fresh w h long size in
    let old = last_label_is p d at fresh w h long size in
    let next_number : suc (last_number p d) ≡ w / 256 + 2 = omega arith in
    let last_number_is : last_number p d ≡ w / 256 + 1 = omega arith in
    record {
      writes_are = λ i. claim_writes fresh (new i) (next_value_is p d at fresh w h long size i) ++ claim_writes at (old i) (last_value_is p d at fresh w h long size i);
      new_page = ap page_of (sym new) ∙ next_named p d at fresh h ∙ ap (λ n. Some (page_number d n)) next_number;
      old_page = ap page_of (sym old) ∙ (last_named p d at fresh h).0 ∙ ap (λ n. Some (page_number d n)) last_number_is;
    }
