-- The words of a directory that gets a page more, on any pack.
use Rattle.std.proofs.Common.{[], ◌++◌, ◌%◌, ◌&&◌, ◌*◌, ◌+◌, ◌-◌, ◌/◌, ◌<◌, ◌∙◌, ◌∷◌, ◌≡◌, ◌≤◌, Bool, List, None, Some, ap, append-nil, append_assoc, arith, cond, drop, inl, inr, le-leb, length, length-take, min, subst, suc, sym, take, take-append-drop, true, ℕ}
use Rattle.std.proofs.lemmas.Bool.{lt-ltb}
use Rattle.std.proofs.lemmas.List.{drop_all, length-append, length-drop, length-replicate, length-take-le, take_all, take_at}
use Rattle.std.proofs.lemmas.List.Elements.{All-append, All-cons, All-drop, All-replicate, All-take}
use Rattle.std.specs.Prelude.{All, nat_le, nat_lt, not, replicate, ◌==◌}
use Rattle.laws_room.specs.alto_words.specs.declared.fid.Fid.{Fid}
use Rattle.laws_room.specs.alto_words.specs.Fid.{serial_of}
use Rattle.laws_room.specs.disk_records.specs.Addresses.{real_of}
use Rattle.laws_room.specs.disk_records.specs.Labels.{Tag, in_range, label_of, page_of, tag}
use Rattle.laws_room.specs.disk_records.specs.Packs.{Pack, carried, sector_at}
use Rattle.laws_room.specs.disk_records.specs.declared.records.Page.{Page}
use Rattle.laws_room.specs.pack_model.specs.hints.Links.{no_link}
use Rattle.laws_room.specs.pack_model.specs.operations.Commands.{grown_label, grown_value}
use Rattle.laws_room.specs.pack_model.specs.operations.Committing.{page_of_byte}
use Rattle.laws_room.specs.pack_model.specs.operations.PageWords.{filled, page_value, widening_bytes}
use Rattle.laws_room.specs.pack_model.specs.reading.Bytes.{bytes_of, words_of}
use Rattle.laws_room.specs.pack_model.specs.reading.Files.{file_bytes, place}
use Rattle.laws_room.specs.pack_model.specs.reading.Sights.{sights}
use Rattle.laws_room.specs.pack_model.specs.reading.SlotWords.{space_words}
use Rattle.laws_room.specs.pack_laws.proofs.Bytes.{bytes_below, bytes_of-put, bytes_of-words_of, length-bytes_of, pairs_of_bytes}
use Rattle.laws_room.specs.pack_laws.proofs.Guarding.{carried_parts}
use Rattle.laws_room.specs.laws_record.proofs.Copying.{place_carried}
use Rattle.laws_room.specs.laws_record.proofs.Heads.{and_left, and_right}
use Rattle.laws_room.specs.laws_record.specs.QuietLaws.{counted_of}
use Rattle.laws_room.specs.laws_operation.proofs.Making.{named_page}
use Rattle.laws_room.specs.laws_operation.proofs.values.Laws.{label_with_another_count}
use Rattle.laws_room.specs.laws_contents.proofs.ends.Laws.{each_file_has_its_end}
use Rattle.laws_room.specs.laws_contents.specs.EndLaws.{HasItsEnd}
use Rattle.laws_room.specs.laws_contents.specs.PageLaws.{bytes_at}
use Rattle.laws_mend.proofs.inside.Seats.{few_seats}
use Rattle.laws_mend.specs.WidenLaws.{CanWiden, GrowthCanWiden, last_number}

-- ---- labels
-- another page of the same file, and another count
range_other : (t : Tag) (n c : ℕ) → in_range t ≡ true → c ≤ 512 → n < 65536 → in_range (record { fid = t.fid; page = n; bytes = c }) ≡ true
unfolding in_range
range_other t n c e few low =
    let one : Bool = nat_le t.bytes 512 in
    let two : Bool = nat_le 1 t.fid.version in
    let three : Bool = nat_le t.fid.version 65534 in
    let four : Bool = not (serial_of t.fid == 0) in
    let five : Bool = nat_lt t.page 65536 in
    let front : (one && two && three && four) ≡ true = and_left (one && two && three && four) five e in
    let some : four ≡ true = and_right (one && two && three) four front in
    let given : (one && two && three) ≡ true = and_left (one && two && three) four front in
    let most : three ≡ true = and_right (one && two) three given in
    let least : two ≡ true = and_right one two (and_left (one && two) three given) in
    λ i. le-leb c 512 few i && least i && most i && some i && lt-ltb n 65536 low i

module _ (p : Pack) (d : Fid) (at fresh : ℕ) (h : CanWiden p d at fresh) where
  abbrev b : ℕ
  b = length (file_bytes (sights p) d)

  abbrev pub r : ℕ
  r = b % 512

  abbrev pub last : Page
  last = record { fid = d; number = last_number p d }

  abbrev pub next : Page
  next = record { fid = d; number = suc (last_number p d) }

  abbrev label : List ℕ
  label = (sector_at p at).label

  abbrev value : List ℕ
  value = (sector_at p at).value

  -- the words of the free slot, those in the old page and those in the new one
  abbrev pub near : List ℕ
  near = take (512 - r) widening_bytes

  abbrev pub far : List ℕ
  far = drop (512 - r) widening_bytes

  -- the label and the value of the new page, and of the old one
  abbrev pub next_label : List ℕ
  next_label = label_of (record { fid = d; number = b / 512 + 2 }) (min 512 (length far)) no_link (real_of p.shape at)

  abbrev pub next_value : List ℕ
  next_value = page_value (take 512 far) []

  abbrev pub last_label : List ℕ
  last_label = grown_label p.shape b widening_bytes (fresh ∷ []) label

  abbrev pub last_value : List ℕ
  last_value = grown_value b widening_bytes [] (fresh ∷ []) value

  -- ---- numbers
  pub here : carried p at ≡ Some last
  here = place_carried p last at h.sector

  ending : HasItsEnd p d
  ending = each_file_has_its_end p d

  pub counted : length (bytes_at p at) ≡ r
  counted = elim ending.end [
    | inl missing ↦ absurd (let c : None ≡ Some at = sym missing.0 ∙ h.sector in cc)
    | inr there ↦ (let e : Some there.0 ≡ Some at = sym there.1 ∙ h.sector in let same : there.0 ≡ at = cc in ap (λ k. length (bytes_at p k)) (sym same) ∙ there.2)
  ]

  value_size : length (bytes_of value) ≡ 512
  value_size = length-bytes_of value ∙ ap (λ n. 2 * n) h.sized

  count : (tag label).bytes ≡ r
  count = let short : length (take (tag label).bytes (bytes_of value)) ≡ min (tag label).bytes (length (bytes_of value)) = length-take (tag label).bytes (bytes_of value) in omega (arith, short, counted, value_size)

  pub old_is : bytes_at p at ≡ take r (bytes_of value)
  old_is = ap (λ n. take n (bytes_of value)) count

  -- ---- the free slot
  pub all_size : length widening_bytes ≡ 512
  all_size = length-bytes_of (space_words 256)

  below : All (λ x. x < 256) widening_bytes
  below = bytes_below (space_words 256) (All-cons (λ w. w < 65536) 256 (replicate 255 0) (omega arith) (All-replicate (λ w. w < 65536) 255 0 (omega arith)))

  near_size : length near ≡ 512 - r
  near_size = length-take-le (512 - r) widening_bytes (omega (arith, all_size))

  pub far_size : length far ≡ r
  far_size = let l : length far ≡ length widening_bytes - (512 - r) = length-drop (512 - r) widening_bytes in omega (arith, l, all_size)

  -- ---- the old page
  near_all : length (near ++ []) ≡ 512 - r
  near_all = ap length (append-nil near) ∙ near_size

  last_bytes : bytes_of last_value ≡ take r (bytes_of value) ++ near
  last_bytes =
      bytes_of-put r (near ++ []) value (omega (arith, near_all, value_size)) (subst (All (λ x. x < 256)) (sym (append-nil near)) (All-take (λ x. x < 256) (512 - r) widening_bytes below))
      ∙ ap (λ x. take r (bytes_of value) ++ (near ++ []) ++ x) (drop_all (r + length (near ++ [])) (bytes_of value) (omega (arith, near_all, value_size)))
      ∙ append-nil (take r (bytes_of value) ++ (near ++ [])) ∙ ap (λ x. take r (bytes_of value) ++ x) (append-nil near)

  pub last_kept : counted_of p at last_value ≡ bytes_at p at
  last_kept =
      ap (λ n. take n (bytes_of last_value)) count ∙ ap (take r) last_bytes
      ∙ take_at (take r (bytes_of value)) near r (length-take-le r (bytes_of value) (omega (arith, value_size))) ∙ sym old_is

  pub last_named : (page_of last_label ≡ Some last) × ((tag last_label).bytes ≡ 512)
  last_named =
      let z : min 512 (r + length widening_bytes) ≡ 512 = omega (arith, all_size) in
      let l = label_with_another_count label last (min 512 (r + length widening_bytes)) (real_of p.shape fresh) (carried_parts p at last here).1 (omega arith) in
      (l.0, l.1 ∙ z)

  pub last_counted : take (tag last_label).bytes (bytes_of last_value) ≡ bytes_at p at ++ near
  last_counted =
      ap (λ n. take n (bytes_of last_value)) last_named.1 ∙ ap (take 512) last_bytes
      ∙ take_all 512 (take r (bytes_of value) ++ near) (let l = length-append (take r (bytes_of value)) near in let m = length-take-le r (bytes_of value) (omega (arith, value_size)) in omega (arith, l, m, near_size))
      ∙ ap (λ x. x ++ near) (sym old_is)

  pub last_size : length (take (tag last_label).bytes (bytes_of last_value)) ≡ 512
  last_size = let l = length-append (bytes_at p at) near in ap length last_counted ∙ omega (arith, l, counted, near_size)

  -- ---- the new page
  -- its number is a word, since the pages before it have as many sectors
  pub few : suc (last_number p d) < 65536
  few =
      let n : ℕ = b / 512 in
      let l = few_seats p d n (λ j l. let x = ending.before.each j l in (x.at, x.sector)) in
      let most = p.shape.most_pages in
      omega arith

  number_is : b / 512 + 2 ≡ suc (last_number p d)
  number_is = omega arith

  pub next_named : page_of next_label ≡ Some next
  next_named =
      let named = named_page label last (carried_parts p at last here).1 in
      let low : b / 512 + 2 < 65536 = (let f = few in omega arith) in
      let range : in_range (tag next_label) ≡ true =
      ap (λ f. in_range (record { fid = f; page = b / 512 + 2; bytes = min 512 (length far) })) (sym (ap (λ (t : Tag). t.fid) named.0))
      ∙ range_other (tag label) (b / 512 + 2) (min 512 (length far)) named.1 (omega arith) low in
      ap (λ c. cond c (Some (record { fid = d; number = b / 512 + 2 })) None) range ∙ ap (λ n. Some (record { fid = d; number = n })) number_is

  pub far_all : take 512 far ≡ far
  far_all = take_all 512 far (omega (arith, far_size))

  pub next_bytes : (tag next_label).bytes ≡ r
  next_bytes = omega (arith, far_size)

  pub next_counted : take (tag next_label).bytes (bytes_of next_value) ≡ far
  next_counted =
      let zeros : List ℕ = replicate (512 - length far) 0 in
      let size : length (far ++ zeros) ≡ 512 = (let l = length-append far zeros in let m = length-replicate {A = ℕ} (512 - length far) 0 in omega (arith, l, m, far_size)) in
      let low : All (λ x. x < 256) (far ++ zeros) = All-append (λ x. x < 256) far zeros (All-drop (λ x. x < 256) (512 - r) widening_bytes below) (All-replicate (λ x. x < 256) (512 - length far) 0 (omega arith)) in
      let same : next_value ≡ page_value far [] = ap (λ x. page_value x []) far_all in
      let none : filled 512 (far ++ []) ≡ far ++ zeros = ap (filled 512) (append-nil far) in
      ap (λ v. take (tag next_label).bytes (bytes_of v)) (same ∙ ap words_of none)
      ∙ ap (take (tag next_label).bytes) (bytes_of-words_of (far ++ zeros) (pairs_of_bytes (far ++ zeros) 256 size low))
      ∙ take_at far zeros (tag next_label).bytes (far_size ∙ sym next_bytes)

  -- both pages have the old bytes, and then the new ones
  pub together_are : take (tag last_label).bytes (bytes_of last_value) ++ take (tag next_label).bytes (bytes_of next_value) ≡ bytes_at p at ++ widening_bytes
  together_are = (λ i. last_counted i ++ next_counted i) ∙ append_assoc (bytes_at p at) near far ∙ ap (λ x. bytes_at p at ++ x) (take-append-drop (512 - r) widening_bytes)

-- ---- a growth
pub growth_can_widen : GrowthCanWiden
growth_can_widen p d b past at fresh dir g = record {
  directory = dir;
  sector = subst (λ n. place (sights p) d (page_of_byte n) ≡ Some at) g.size g.sector;
  sized = g.sized;
  free = g.free 0 0 (omega arith);
}
