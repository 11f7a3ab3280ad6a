-- The order of words of directories by that of rows.
use Rattle.std.proofs.Common.{◌≡◌, ℕ, zero, suc, ◌+◌, ◌*◌, ◌/◌, ◌<◌, ◌≤◌, inl, inr, List, [], ◌∷◌, length, get_or, refl, ap, arith}
use Rattle.std.specs.declared.cmp.Ordering.{Ordering}
use Rattle.std.specs.declared.cmp.Ordering.TheVariants.{Less, Equal, Greater}
use Rattle.std.specs.Ordering.{MatchOrdering, nat_cmp, ordering_then}
use Rattle.std.proofs.lemmas.Cmp.{ranked}
use Rattle.alto_words.specs.declared.fid.Fid.{Fid}
use Rattle.alto_words.specs.Fid.{fid_cmp}
use Rattle.scav_pages.proofs.Ranking.{fid_rank, page_rank}
use Rattle.scav_names.specs.declared.words.DirWord.{DirWord}
use Rattle.scav_names.specs.Words.{ComesFirst, IsInWords, Rises, word_page}

-- a lower full name has a lower rank
pub fid_less : (f g : Fid) → IsInWords f → IsInWords g → fid_cmp f g ≡ Less → fid_rank f < fid_rank g
fid_less f g v w e = by (nat_cmp f.high g.high) (nat_cmp f.low g.low) (nat_cmp f.version g.version) (ranked f.high g.high (nat_cmp f.high g.high) refl) (ranked f.low g.low (nat_cmp f.low g.low) refl) (ranked f.version g.version (nat_cmp f.version g.version) refl) e
  where
    by : (r s t : Ordering) → MatchOrdering r (f.high < g.high) (f.high ≡ g.high) (g.high < f.high) → MatchOrdering s (f.low < g.low) (f.low ≡ g.low) (g.low < f.low) → MatchOrdering t (f.version < g.version) (f.version ≡ g.version) (g.version < f.version)
        → ordering_then r (ordering_then s t) ≡ Less → fid_rank f < fid_rank g
    by Less s t a b c is = omega (arith, v.low, v.version, a)
    by Greater s t a b c is = cc
    by Equal Less t a b c is = omega (arith, v.version, a, b)
    by Equal Greater t a b c is = cc
    by Equal Equal Less a b c is = omega (arith, a, b, c)
    by Equal Equal Equal a b c is = cc
    by Equal Equal Greater a b c is = cc

-- ---- pages of words
pub divided : (m n : ℕ) → m ≤ n → m / 256 ≤ n / 256
divided m n l = omega (arith, l)

-- those of a word that comes first are no later
pub page_rises : (w v : DirWord) → IsInWords w.dir → IsInWords v.dir → w.place / 256 + 1 < 65536 → ComesFirst w v → page_rank (word_page w) ≤ page_rank (word_page v)
page_rises w v a b few (inl less) = let low = fid_less w.dir v.dir a b less in let x : ℕ = fid_rank w.dir in let y : ℕ = fid_rank v.dir in let l : x < y = low in let h : x * 65536 + (w.place / 256 + 1) ≤ y * 65536 + (v.place / 256 + 1) = omega (arith, few, l) in h
page_rises w v a b few (inr same) =
    let x : ℕ = fid_rank w.dir in
    let y : ℕ = fid_rank v.dir in
    let e : x ≡ y = ap fid_rank same.0 in
    let h : x * 65536 + (w.place / 256 + 1) ≤ y * 65536 + (v.place / 256 + 1) = omega (arith, e, divided w.place v.place same.1) in
    h

-- ---- words that rise
pub rises_at : (words : List DirWord) → Rises words → (i j : ℕ) (d : DirWord) → i < j → j < length words → ComesFirst (get_or words i d) (get_or words j d)
rises_at [] r i j d l within = absurd (omega (arith, within))
rises_at (w ∷ ws) r zero zero d l within = absurd (omega (arith, l))
rises_at (w ∷ ws) r zero (suc j) d l within = r.0 j d (omega (arith, within))
rises_at (w ∷ ws) r (suc i) zero d l within = absurd (omega (arith, l))
rises_at (w ∷ ws) r (suc i) (suc j) d l within = rises_at ws r.1 i j d (omega (arith, l)) (omega (arith, within))
