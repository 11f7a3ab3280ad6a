-- Packs and their bytes.
use Rattle.std.proofs.Common.{◌≡◌, ℕ, ◌+◌, ◌<◌, List, [], ◌∷◌, ◌++◌, length, get_or, take, drop, All, sym, ap, ◌∙◌}
use Rattle.std.proofs.lemmas.Grind.{flat_map-append}
use Rattle.std.proofs.lemmas.List.{append-nil, take_more}
use Rattle.std.proofs.lemmas.List.Elements.{All-append, All-cons, All-nil}
use Rattle.std.proofs.Math.Seq.{take-add}
use Rattle.disk_records.specs.declared.records.Sector.{Sector}
use Rattle.disk_image.specs.Images.{sector_bytes, pack_bytes, IsWhole}

pack_bytes-snoc : (sectors : List Sector) (s : Sector) → pack_bytes (sectors ++ s ∷ []) ≡ pack_bytes sectors ++ sector_bytes s
pack_bytes-snoc sectors s = flat_map-append sector_bytes sectors (s ∷ []) ∙ ap (λ (l : List ℕ). pack_bytes sectors ++ l) (append-nil (sector_bytes s))

-- one sector more is read
pub pack_bytes-read : (sectors : List Sector) (s : Sector) (bytes : List ℕ) (from to n : ℕ) → to ≡ from + n → take from bytes ≡ pack_bytes sectors → sector_bytes s ≡ take n (drop from bytes) → take to bytes ≡ pack_bytes (sectors ++ s ∷ [])
pack_bytes-read sectors s bytes from to n there so_far one =
    ap (λ (k : ℕ). take k bytes) there ∙ take-add from n bytes ∙ rw (so_far, ← one) (sym (pack_bytes-snoc sectors s))

-- one sector more is written
pub pack_bytes-written : (sectors : List Sector) (i : ℕ) (d : Sector) (bytes : List ℕ) → i < length sectors → bytes ≡ pack_bytes (take i sectors) → bytes ++ sector_bytes (get_or sectors i d) ≡ pack_bytes (take (i + 1) sectors)
pack_bytes-written sectors i d bytes within so_far =
    ap (λ (l : List ℕ). l ++ sector_bytes (get_or sectors i d)) so_far ∙ sym (pack_bytes-snoc (take i sectors) (get_or sectors i d)) ∙ sym (ap pack_bytes (take_more sectors i d within))

pub whole-snoc : (sectors : List Sector) (s : Sector) → All IsWhole sectors → IsWhole s → All IsWhole (sectors ++ s ∷ [])
whole-snoc sectors s all one = All-append IsWhole sectors (s ∷ []) all (All-cons IsWhole s [] one (All-nil IsWhole))

pub whole-taken : (sectors : List Sector) (i : ℕ) (d : Sector) → i < length sectors → All IsWhole (take i sectors) → IsWhole (get_or sectors i d) → All IsWhole (take (i + 1) sectors)
whole-taken sectors i d within all one =
    let more = take_more sectors i d within in
    rw more (whole-snoc (take i sectors) (get_or sectors i d) all one)
