-- Two files are those of one pack alone.
use Rattle.std.proofs.Common.{◌≡◌, ℕ, ◌+◌, ◌*◌, List, ◌++◌, length, take, drop, All, sym, ap, ◌∙◌, arith}
use Rattle.std.proofs.lemmas.List.{length-take, length-drop, take-append-drop}
use Rattle.std.proofs.lemmas.List.Elements.{All-append, All-take, All-drop}
use Rattle.disk_records.specs.declared.records.Sector.{Sector}
use Rattle.disk_records.specs.declared.shape.Shape.{Shape}
use Rattle.disk_records.specs.Addresses.{pages_of}
use Rattle.disk_image.specs.Images.{pack_bytes, IsWhole, AreImages, IsPackLength, first_drive}
use Rattle.disk_image.proofs.Shapes.{shape_same}
use Rattle.disk_image.proofs.Inverses.{length-pack_bytes, packs_same}

-- the sectors of two drives
pub two_drives : (shape : Shape) → shape.disks ≡ 2 → pages_of shape ≡ first_drive shape + first_drive shape
two_drives shape two = ap (λ (d : ℕ). d * shape.cylinders * 24) two ∙ omega arith

front_length : (shape : Shape) (sectors : List Sector) (first second : List ℕ) → AreImages shape sectors first second → length (take (first_drive shape) sectors) ≡ first_drive shape
front_length shape sectors first second images = let both = two_drives shape images.two in omega (arith, length-take (first_drive shape) sectors, images.count)

back_length : (shape : Shape) (sectors : List Sector) (first second : List ℕ) → AreImages shape sectors first second → length (drop (first_drive shape) sectors) ≡ first_drive shape
back_length shape sectors first second images = let both = two_drives shape images.two in omega (arith, length-drop (first_drive shape) sectors, images.count)

-- the bytes of each file
first_length : (shape : Shape) (sectors : List Sector) (first second : List ℕ) → AreImages shape sectors first second → length first ≡ first_drive shape * 532
first_length shape sectors first second images =
    let bytes = length-pack_bytes (take (first_drive shape) sectors) (All-take IsWhole (first_drive shape) sectors images.whole) in
    ap length images.first_is ∙ bytes ∙ ap (λ (n : ℕ). n * 532) (front_length shape sectors first second images)

second_length : (shape : Shape) (sectors : List Sector) (first second : List ℕ) → AreImages shape sectors first second → length second ≡ first_drive shape * 532
second_length shape sectors first second images =
    let bytes = length-pack_bytes (drop (first_drive shape) sectors) (All-drop IsWhole (first_drive shape) sectors images.whole) in
    ap length images.second_is ∙ bytes ∙ ap (λ (n : ℕ). n * 532) (back_length shape sectors first second images)

pub images_accepted : (shape : Shape) (sectors : List Sector) (first second : List ℕ) → AreImages shape sectors first second → IsPackLength (length first) × (length second ≡ length first)
images_accepted shape sectors first second images =
    let one = first_length shape sectors first second images in
    let other = second_length shape sectors first second images in
    (record { cylinders = shape.cylinders; least = shape.least; most = shape.most; whole = omega arith }, other ∙ sym one)

-- two lists that are the same up to a place, and from it on
joined : (xs ys : List Sector) (n : ℕ) → take n xs ≡ take n ys → drop n xs ≡ drop n ys → xs ≡ ys
joined xs ys n front back = sym (take-append-drop n xs) ∙ ap (λ (l : List Sector). l ++ drop n xs) front ∙ ap (λ (l : List Sector). take n ys ++ l) back ∙ take-append-drop n ys

pub images_same : (shape other : Shape) (sectors others : List Sector) (first second : List ℕ) → AreImages shape sectors first second → AreImages other others first second → (other ≡ shape) × (others ≡ sectors)
images_same shape other sectors others first second one two =
    let same : first_drive other ≡ first_drive shape = omega (arith, first_length shape sectors first second one, first_length other others first second two) in
    let front = packs_same (take (first_drive other) others) (take (first_drive shape) sectors)
    (front_length other others first second two ∙ same ∙ sym (front_length shape sectors first second one))
    (All-take IsWhole (first_drive other) others two.whole) (All-take IsWhole (first_drive shape) sectors one.whole) (sym two.first_is ∙ one.first_is) in
    let back = packs_same (drop (first_drive other) others) (drop (first_drive shape) sectors)
    (back_length other others first second two ∙ same ∙ sym (back_length shape sectors first second one))
    (All-drop IsWhole (first_drive other) others two.whole) (All-drop IsWhole (first_drive shape) sectors one.whole) (sym two.second_is ∙ one.second_is) in
    let shapes : other ≡ shape = shape_same other shape (two.two ∙ sym one.two) (omega (arith, same)) in
    (shapes, joined others sectors (first_drive shape) (ap (λ (n : ℕ). take n others) (sym same) ∙ front) (ap (λ (n : ℕ). drop n others) (sym same) ∙ back))

whole_joined : (n : ℕ) (sectors one : List Sector) → take n sectors ≡ one → All IsWhole one → All IsWhole (drop n sectors) → All IsWhole sectors
whole_joined n sectors one same front back = rw (← take-append-drop n sectors) (All-append IsWhole (take n sectors) (drop n sectors) (rw same front) back)

-- what is read of the first file into an empty list, and then of the second
pub images_read : (shape : Shape) (n m : ℕ) (one both : List Sector) (first second : List ℕ) → shape.disks ≡ 2 → n ≡ 0 → m ≡ n + first_drive shape → All IsWhole (drop n one) → first ≡ pack_bytes (drop n one) → length both ≡ m + first_drive shape → take m both ≡ one → All IsWhole (drop m both) → second ≡ pack_bytes (drop m both) → AreImages shape both first second
images_read shape n m one both first second two empty count whole bytes all kept rest others =
    let half : m ≡ first_drive shape = omega arith in
    let pages = two_drives shape two in
    let fronts : All IsWhole one = rw empty at whole in
    let front : first ≡ pack_bytes one = rw empty at bytes in
    record {
      two = two;
      count = omega arith;
      whole = whole_joined m both one kept fronts rest;
      first_is = front ∙ ap pack_bytes (sym kept ∙ ap (λ (i : ℕ). take i both) half);
      second_is = others ∙ ap (λ (i : ℕ). pack_bytes (drop i both)) half;
    }

-- what is written as the first file, and as the second
pub images_written : (shape : Shape) (sectors front back : List Sector) (first second : List ℕ) → shape.disks ≡ 2 → length sectors ≡ pages_of shape → front ≡ take (first_drive shape) sectors → back ≡ drop (first_drive shape) sectors → All IsWhole front → All IsWhole back → first ≡ pack_bytes front → second ≡ pack_bytes back → AreImages shape sectors first second
images_written shape sectors front back first second two count fronts backs whole also bytes others = record {
  two = two;
  count = count;
  whole = whole_joined (first_drive shape) sectors front (sym fronts) whole (rw (← backs) also);
  first_is = bytes ∙ ap pack_bytes fronts;
  second_is = others ∙ ap pack_bytes backs;
}
