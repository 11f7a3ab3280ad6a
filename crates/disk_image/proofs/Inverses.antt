-- A file is that of one pack alone.
use Rattle.std.proofs.Common.{◌≡◌, ℕ, suc, ◌*◌, ◌/◌, ◌%◌, ◌<◌, List, [], ◌∷◌, ◌++◌, length, take, drop, All, refl, sym, ap, ◌∙◌, arith}
use Rattle.std.proofs.lemmas.List.{length-append}
use Rattle.std.proofs.Math.Seq.{take-append_seam, drop-append_seam}
use Rattle.disk_records.specs.declared.records.Sector.{Sector}
use Rattle.disk_records.specs.declared.shape.Shape.{Shape}
use Rattle.disk_records.specs.Words.{word}
use Rattle.disk_records.specs.Addresses.{pages_of}
use Rattle.disk_records.specs.Bytes.{bytes_of}
use Rattle.disk_records.proofs.Bytes.{length-bytes_of}
use Rattle.disk_image.specs.Images.{sector_bytes, pack_bytes, IsWhole, IsImage, IsPackLength}
use Rattle.disk_image.proofs.Shapes.{shape_same}

-- two lists that are joined at the same place
pub fronts_same : {A : Type 0} (a b c d : List A) → length a ≡ length c → a ++ b ≡ c ++ d → a ≡ c
fronts_same a b c d len same = sym (take-append_seam a b) ∙ ap (take (length a)) same ∙ ap (λ n. take n (c ++ d)) len ∙ take-append_seam c d

backs_same : {A : Type 0} (a b c d : List A) → length a ≡ length c → a ++ b ≡ c ++ d → b ≡ d
backs_same a b c d len same = sym (drop-append_seam a b) ∙ ap (drop (length a)) same ∙ ap (λ n. drop n (c ++ d)) len ∙ drop-append_seam c d

pub length-sector_bytes : (s : Sector) → IsWhole s → length (sector_bytes s) ≡ 532
length-sector_bytes s whole =
    let header = length-bytes_of s.header in
    let label = length-bytes_of s.label in
    let value = length-bytes_of s.value in
    let inner = length-append (bytes_of s.label) (bytes_of s.value) in
    let outer = length-append (bytes_of s.header) (bytes_of s.label ++ bytes_of s.value) in
    omega (arith, header, label, value, inner, outer, whole.header, whole.label, whole.value)

first_whole : (s : Sector) (sectors : List Sector) → All IsWhole (s ∷ sectors) → IsWhole s
first_whole s sectors all = all 0 s (omega arith)

rest_whole : (s : Sector) (sectors : List Sector) → All IsWhole (s ∷ sectors) → All IsWhole sectors
rest_whole s sectors all = λ k d lt. all (suc k) d (omega arith)

pub length-pack_bytes : (sectors : List Sector) → All IsWhole sectors → length (pack_bytes sectors) ≡ length sectors * 532
length-pack_bytes [] all = refl
length-pack_bytes (s ∷ sectors) all =
    let first = length-sector_bytes s (first_whole s sectors all) in
    let rest = length-pack_bytes sectors (rest_whole s sectors all) in
    let both = length-append (sector_bytes s) (pack_bytes sectors) in
    omega (arith, first, rest, both)

-- two words with the same bytes
word_same : (v w : ℕ) → v < 65536 → w < 65536 → v / 256 ≡ w / 256 → v % 256 ≡ w % 256 → v ≡ w
word_same v w fits also high low = omega arith

words_same : (xs ys : List ℕ) → length xs ≡ length ys → ((k : ℕ) → word xs k < 65536) → ((k : ℕ) → word ys k < 65536) → bytes_of xs ≡ bytes_of ys → xs ≡ ys
words_same [] [] len fits also same = refl
words_same [] (y ∷ ys) len fits also same = absurd (omega (arith, len))
words_same (x ∷ xs) [] len fits also same = absurd (omega (arith, len))
words_same (x ∷ xs) (y ∷ ys) len fits also same =
    let first : x ≡ y = word_same x y (fits 0) (also 0) (ap (λ l. word l 0) same) (ap (λ l. word l 1) same) in
    let rest : xs ≡ ys = words_same xs ys (omega (arith, len)) (λ k. fits (suc k)) (λ k. also (suc k)) (ap (drop 2) same) in
    ap (λ (z : ℕ). z ∷ xs) first ∙ ap (λ (l : List ℕ). y ∷ l) rest

sector_same : (s t : Sector) → IsWhole s → IsWhole t → sector_bytes s ≡ sector_bytes t → s ≡ t
sector_same s t whole also same =
    let two : length (bytes_of s.header) ≡ length (bytes_of t.header) = omega (arith, length-bytes_of s.header, length-bytes_of t.header, whole.header, also.header) in
    let eight : length (bytes_of s.label) ≡ length (bytes_of t.label) = omega (arith, length-bytes_of s.label, length-bytes_of t.label, whole.label, also.label) in
    let front = fronts_same (bytes_of s.header) _ (bytes_of t.header) _ two same in
    let back = backs_same (bytes_of s.header) _ (bytes_of t.header) _ two same in
    let middle = fronts_same (bytes_of s.label) (bytes_of s.value) (bytes_of t.label) (bytes_of t.value) eight back in
    let last = backs_same (bytes_of s.label) (bytes_of s.value) (bytes_of t.label) (bytes_of t.value) eight back in
    let header : s.header ≡ t.header = words_same s.header t.header (whole.header ∙ sym also.header) whole.header_words also.header_words front in
    let label : s.label ≡ t.label = words_same s.label t.label (whole.label ∙ sym also.label) whole.label_words also.label_words middle in
    let value : s.value ≡ t.value = words_same s.value t.value (whole.value ∙ sym also.value) whole.value_words also.value_words last in
    λ i. record { header = header i; label = label i; value = value i }

pub packs_same : (xs ys : List Sector) → length xs ≡ length ys → All IsWhole xs → All IsWhole ys → pack_bytes xs ≡ pack_bytes ys → xs ≡ ys
packs_same [] [] len whole also same = refl
packs_same [] (y ∷ ys) len whole also same = absurd (omega (arith, len))
packs_same (x ∷ xs) [] len whole also same = absurd (omega (arith, len))
packs_same (x ∷ xs) (y ∷ ys) len whole also same =
    let one = first_whole x xs whole in
    let other = first_whole y ys also in
    let lengths : length (sector_bytes x) ≡ length (sector_bytes y) = length-sector_bytes x one ∙ sym (length-sector_bytes y other) in
    let first : x ≡ y = sector_same x y one other (fronts_same (sector_bytes x) (pack_bytes xs) (sector_bytes y) (pack_bytes ys) lengths same) in
    let rest : xs ≡ ys = packs_same xs ys (omega (arith, len)) (rest_whole x xs whole) (rest_whole y ys also) (backs_same (sector_bytes x) (pack_bytes xs) (sector_bytes y) (pack_bytes ys) lengths same) in
    ap (λ (z : Sector). z ∷ xs) first ∙ ap (λ (l : List Sector). y ∷ l) rest

-- the sectors of one drive
one_drive : (shape : Shape) → shape.disks ≡ 1 → pages_of shape ≡ shape.cylinders * 24
one_drive shape one = ap (λ (d : ℕ). d * shape.cylinders * 24) one ∙ omega arith

pub image_same : (shape other : Shape) (sectors others : List Sector) (bytes : List ℕ) → IsImage shape sectors bytes → IsImage other others bytes → (other ≡ shape) × (others ≡ sectors)
image_same shape other sectors others bytes one two =
    let same : pack_bytes others ≡ pack_bytes sectors = sym two.bytes_are ∙ one.bytes_are in
    let a = length-pack_bytes sectors one.whole in
    let b = length-pack_bytes others two.whole in
    let c = ap length same in
    let count : length others ≡ length sectors = omega (arith, a, b, c) in
    let cylinders : other.cylinders ≡ shape.cylinders = omega (arith, count, one.count ∙ one_drive shape one.one, two.count ∙ one_drive other two.one) in
    (shape_same other shape (two.one ∙ sym one.one) cylinders, packs_same others sectors count two.whole one.whole same)

pub image_accepted : (shape : Shape) (sectors : List Sector) (bytes : List ℕ) → IsImage shape sectors bytes → IsPackLength (length bytes)
image_accepted shape sectors bytes image =
    let a = length-pack_bytes sectors image.whole in
    let b = ap length image.bytes_are in
    record { cylinders = shape.cylinders; least = shape.least; most = shape.most; whole = omega (arith, a, b, image.count ∙ one_drive shape image.one) }
