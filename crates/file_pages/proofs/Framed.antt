-- Where the record writes of claims, of a commit and of a growth go.
use Rattle.std.proofs.Common.{All, List, [], ap, arith, inl, inr, length, subst, sym, ℕ, ◌∙◌, ◌≡◌}
use Rattle.disk_records.proofs.Framing.{writes_after_look, writes_append, writes_map}
use Rattle.disk_records.proofs.Growing.{added-twice}
use Rattle.disk_records.specs.Frames.{IsFreeSector, WritesIn}
use Rattle.disk_records.specs.Packs.{Pack}
use Rattle.disk_records.specs.Tapes.{Grown, Taped, added, pack}
use Rattle.disk_records.specs.Words.{word}
use Rattle.disk_records.specs.declared.records.Sector.{Sector}
use Rattle.label_check.specs.Guarded.{info_of}
use Rattle.label_check.specs.declared.errors.PageInfo.{PageInfo}
use Rattle.page_seeking.specs.Seeking.{EndsAtPage, Stands, page_number}
use Rattle.page_seeking.specs.declared.ends.LastPage.{LastPage}
use Rattle.alto_words.specs.declared.fid.Fid.{Fid}
use Rattle.file_pages.specs.Growing.{IsEndOf, IsEndOrFree, IsHereOrFree}

-- nothing is wanted of no elements
pub all_of_none : (P : ℕ → Type 0) (l : List ℕ) → length l ≡ 0 → All P l
all_of_none P l none k d within = absurd (omega (arith, none, within))

-- two calls, where one thing is known of the sectors of both
pub writes_join : (Here : ℕ → Type 0) {a b c : Taped} → Grown a b → Grown b c → WritesIn Here (added a b) → WritesIn Here (added b c) → WritesIn Here (added a c)
writes_join Here {a} {b} {c} x y first second = subst (WritesIn Here) (sym (added-twice x y)) (writes_append Here (added a b) (added b c) first second)

-- claims of free sectors, and then a commit in one sector
pub claims_and_commit : (at : ℕ) {a b c : Taped} → Grown a b → Grown b c → WritesIn (IsFreeSector (pack a)) (added a b) → WritesIn (λ i. i ≡ at) (added b c) → WritesIn (IsHereOrFree at (pack a)) (added a c)
claims_and_commit at {a} {b} {c} x y first second =
    writes_join (IsHereOrFree at (pack a)) x y
    (writes_map (IsFreeSector (pack a)) (IsHereOrFree at (pack a)) (λ i free. inr free) (added a b) first)
    (writes_map (λ i. i ≡ at) (IsHereOrFree at (pack a)) (λ i here. inl here) (added b c) second)

pub only_claims : (at : ℕ) (a b : Taped) → WritesIn (IsFreeSector (pack a)) (added a b) → WritesIn (IsHereOrFree at (pack a)) (added a b)
only_claims at a b first = writes_map (IsFreeSector (pack a)) (IsHereOrFree at (pack a)) (λ i free. inr free) (added a b) first

-- the last page that was found
pub end_of : (p : Pack) (f : Fid) (last : LastPage) (buf : Sector) → Stands p (page_number f last.number) last.at buf → last.info ≡ info_of buf.label → EndsAtPage last.number last.info.bytes → IsEndOf f p last.at
end_of p f last buf stands tells ends = record {
  number = last.number;
  carries = stands.carries;
  ends = subst (EndsAtPage last.number) (ap (λ (i : PageInfo). i.bytes) tells ∙ ap (λ (s : Sector). word s.label 3) stands.holds) ends;
}

-- a growth after a look for that page
pub grown_here : (f : Fid) (at : ℕ) {a b c : Taped} → Grown a b → Grown b c → added a b ≡ [] → IsEndOf f (pack a) at → WritesIn (IsHereOrFree at (pack b)) (added b c) → WritesIn (IsEndOrFree f (pack a)) (added a c)
grown_here f at {a} {b} {c} x y silent is second = writes_map (IsHereOrFree at (pack a)) (IsEndOrFree f (pack a)) then (added a c) (writes_after_look (IsHereOrFree at) x y silent second)
  where
    then : (i : ℕ) → IsHereOrFree at (pack a) i → IsEndOrFree f (pack a) i
    then i (inl here) = inl (subst (IsEndOf f (pack a)) (sym here) is)
    then i (inr free) = inr free
