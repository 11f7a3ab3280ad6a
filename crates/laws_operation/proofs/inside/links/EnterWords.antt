-- The words of an entering, value by value.
use Rattle.std.proofs.Common.{Bool, List, Some, [], add-one, ap, arith, cond, eqb-true, eq-eqb, false, get_or-drop, get_or-take, inl, inr, length, length-drop, length-take, min, refl, subst, suc, sym, true, ℕ, ◌+◌, ◌-◌, ◌/◌, ◌<◌, ◌==◌, ◌∙◌, ◌∷◌, ◌≡◌, ◌≢◌, ◌≤◌}
use Rattle.std.proofs.lemmas.Bool.{cases_lt}
use Rattle.std.specs.Option.{is_some}
use Rattle.laws_contents.specs.alto_words.specs.Fid.{is_directory}
use Rattle.laws_contents.specs.alto_words.specs.declared.fid.Fid.{Fid}
use Rattle.laws_contents.specs.disk_records.specs.Packs.{Pack, after, sector_at}
use Rattle.laws_contents.specs.disk_records.specs.Words.{word}
use Rattle.laws_contents.specs.pack_model.specs.reading.Bytes.{put_at}
use Rattle.laws_contents.specs.pack_model.specs.operations.Commands.{values_writes}
use Rattle.laws_contents.specs.pack_model.specs.operations.Committing.{page_of_word}
use Rattle.laws_contents.specs.pack_model.specs.reading.Files.{lives, place}
use Rattle.laws_contents.specs.pack_model.specs.hints.Links.{dir_words}
use Rattle.laws_contents.specs.pack_model.specs.operations.PageWords.{freed_value, in_page, later, near}
use Rattle.laws_contents.specs.pack_model.specs.reading.Sights.{sights}
use Rattle.laws_contents.specs.pack_laws.proofs.Bytes.{length-put_at}
use Rattle.laws_contents.specs.laws_record.proofs.DirWords.{dir_change}
use Rattle.laws_contents.specs.laws_record.proofs.Slotwise.{put_before, put_after, put_here}
use Rattle.laws_contents.specs.laws_record.specs.DirLaws.{DirWrite, dir_written}
use Rattle.laws_operation.proofs.Entering.{sector_still}

-- Where words go in a directory: so many words from one on, and the sectors of the page where they begin and of the next one.
pub record Spot (p : Pack) (d : Fid) (begin total : ℕ) (words : List ℕ) (at next_at : ℕ) : Type 0 where
  pub directory : is_directory d ≡ true
  pub living : lives (sights p) d ≡ true
  pub sector : place (sights p) d (page_of_word begin) ≡ Some at
  pub next_sector : 0 < length (later begin words) → place (sights p) d (suc (page_of_word begin)) ≡ Some next_at
  pub within : begin + total ≤ length (dir_words p d)

-- Words that stand as before except those.
pub record Apart (xs ys : List ℕ) (begin total : ℕ) : Type 0 where
  pub before : (k : ℕ) → k < begin → word ys k ≡ word xs k
  pub behind : (k : ℕ) → begin + total ≤ k → word ys k ≡ word xs k

-- one after another
pub apart_twice : {xs ys zs : List ℕ} {begin total : ℕ} → Apart xs ys begin total → Apart ys zs begin total → Apart xs zs begin total
apart_twice a b = record { before = λ k l. b.before k l ∙ a.before k l; behind = λ k l. b.behind k l ∙ a.behind k l }

-- What a value leaves: the spot, and the words around it.
pub record Stage (p q : Pack) (d : Fid) (begin total : ℕ) (words : List ℕ) (at next_at : ℕ) : Type 0 where
  pub spot : Spot q d begin total words at next_at
  pub apart : Apart (dir_words p d) (dir_words q d) begin total

-- nothing is written
pub no_stage : (p : Pack) (d : Fid) (begin total : ℕ) (words : List ℕ) (at next_at : ℕ) → Spot p d begin total words at next_at → Stage p p d begin total words at next_at
no_stage p d begin total words at next_at s = record { spot = s; apart = record { before = λ k l. refl; behind = λ k l. refl } }

module _ (p : Pack) (d : Fid) (begin total : ℕ) (words : List ℕ) (at next_at : ℕ) (s : Spot p d begin total words at next_at) where
  -- words within the spot are written
  pub one_stage : (w here : ℕ) (new : List ℕ) → DirWrite p d w here new → begin ≤ w → w + length new ≤ begin + total → Stage p (dir_written p w here new) d begin total words at next_at
  one_stage w here new h low high =
      let c = dir_change p d w here new h in
      let size = length-put_at w new (dir_words p d) h.within in
      record {
        spot = record {
          directory = s.directory;
          living = ap is_some (c.leaders d) ∙ s.living;
          sector = sector_still p d w here new h (page_of_word begin) ∙ s.sector;
          next_sector = λ some. sector_still p d w here new h (suc (page_of_word begin)) ∙ s.next_sector some;
          within = let l = s.within in let z : length (dir_words (dir_written p w here new) d) ≡ length (dir_words p d) = ap length c.words_are ∙ size in omega (arith, z, l);
        };
        apart = record {
          before = λ k l. ap (λ ws. word ws k) c.words_are ∙ put_before w new (dir_words p d) k h.within (omega arith);
          behind = λ k l. ap (λ ws. word ws k) c.words_are ∙ put_after w new (dir_words p d) k h.within (omega arith);
        };
      }

  -- words from the first one on, in its page
  pub here_write : (new : List ℕ) → 0 < length new → length new ≤ total → in_page begin + length new ≤ 256 → DirWrite p d begin at new
  here_write new some most one = record {
    directory = s.directory;
    lives = s.living;
    sector = ap (place (sights p) d) (add-one (begin / 256)) ∙ s.sector;
    some = some;
    one_page = one;
    within = let l = s.within in omega arith;
  }

  -- the free slots are made one, where they are several
  pub join_words : (c : Bool) → 0 < total → Stage p (after p (values_writes (cond c [] ((at, freed_value begin total (sector_at p at).value) ∷ [])))) d begin total words at next_at
  join_words true some = no_stage p d begin total words at next_at s
  join_words false some =
      let new : List ℕ = total ∷ [] in
      let one : length new ≡ 1 = refl in
      one_stage begin at new (here_write new (omega arith) (omega arith) (omega arith)) (omega arith) (omega arith)

  module _ (many : 1 ≤ length words) (most : length words ≤ total) (short : length words ≤ 256) where
    near_size : length (near begin words) ≡ min (256 - in_page begin) (length words)
    near_size = length-take (256 - in_page begin) words

    over_size : length (later begin words) ≡ length words - (256 - in_page begin)
    over_size = length-drop (256 - in_page begin) words

    -- where the last word isn't in the page of the first one, there are words over its end
    over_long : (page_of_word (begin + length words - 1) == page_of_word begin) ≡ false → 256 - in_page begin < length words
    over_long e =
        let apart : page_of_word (begin + length words - 1) ≢ page_of_word begin = λ z. (let x : true ≡ false = sym (eq-eqb (page_of_word (begin + length words - 1)) (page_of_word begin) z) ∙ e in cc) in
        elim (cases_lt (256 - in_page begin) (length words)) [ inl l ↦ l | inr l ↦ absurd (apart (omega arith)) ]

    -- so the next page is there
    pub next_there : (page_of_word (begin + length words - 1) == page_of_word begin) ≡ false → place (sights p) d (suc (page_of_word begin)) ≡ Some next_at
    next_there e = let l = over_long e in let o = over_size in s.next_sector (omega arith)

    -- the words over the page's end, where there are some
    pub over_words : (c : Bool) → (page_of_word (begin + length words - 1) == page_of_word begin) ≡ c
        → (q : Stage p (after p (values_writes (cond c [] ((next_at, put_at 0 (later begin words) (sector_at p next_at).value) ∷ [])))) d begin total words at next_at)
        × ((j : ℕ) → length (near begin words) ≤ j → j < length words → word (dir_words (after p (values_writes (cond c [] ((next_at, put_at 0 (later begin words) (sector_at p next_at).value) ∷ [])))) d) (begin + j) ≡ word words j)
    over_words true e =
        let same : page_of_word (begin + length words - 1) ≡ page_of_word begin = eqb-true (page_of_word (begin + length words - 1)) (page_of_word begin) e in
        let n = near_size in (
          no_stage p d begin total words at next_at s,
          λ j low high. absurd (omega arith),
        )
    over_words false e =
        let n = near_size in
        let o = over_size in
        let long = over_long e in
        let w2 : ℕ = begin + length (near begin words) in
        let over : List ℕ = later begin words in
        let z : in_page w2 ≡ 0 = omega arith in
        let page : w2 / 256 + 1 ≡ suc (page_of_word begin) = omega arith in
        let inside = s.within in
        let h : DirWrite p d w2 next_at over = record {
          directory = s.directory;
          lives = s.living;
          sector = ap (place (sights p) d) page ∙ next_there e;
          some = omega arith;
          one_page = omega arith;
          within = omega arith;
        } in
        let st : Stage p (dir_written p w2 next_at over) d begin total words at next_at = one_stage w2 next_at over h (omega arith) (omega arith) in
        let stands : (j : ℕ) → length (near begin words) ≤ j → j < length words → word (dir_words (dir_written p w2 next_at over) d) (begin + j) ≡ word words j = λ j low high.
        let i : ℕ = j - length (near begin words) in
        let x : begin + j ≡ w2 + i = omega arith in
        let y : 256 - in_page begin + i ≡ j = omega arith in
        ap (word (dir_words (dir_written p w2 next_at over) d)) x ∙ ap (λ ws. word ws (w2 + i)) (dir_change p d w2 next_at over h).words_are
        ∙ put_here w2 over (dir_words p d) i h.within (omega arith) ∙ get_or-drop (256 - in_page begin) words i 0 ∙ ap (word words) y in
        subst (λ k. (q : Stage p (after p (values_writes ((next_at, put_at k over (sector_at p next_at).value) ∷ []))) d begin total words at next_at)
        × ((j : ℕ) → length (near begin words) ≤ j → j < length words → word (dir_words (after p (values_writes ((next_at, put_at k over (sector_at p next_at).value) ∷ []))) d) (begin + j) ≡ word words j)) z (st, stands)

    -- and the others, where those stand
    pub near_words : ((j : ℕ) → length (near begin words) ≤ j → j < length words → word (dir_words p d) (begin + j) ≡ word words j)
        → (q : Stage p (dir_written p begin at (near begin words)) d begin total words at next_at) × ((j : ℕ) → j < length words → word (dir_words (dir_written p begin at (near begin words)) d) (begin + j) ≡ word words j)
    near_words stands =
        let new : List ℕ = near begin words in
        let n = near_size in
        let h : DirWrite p d begin at new = here_write new (omega arith) (omega arith) (omega arith) in
        let c = dir_change p d begin at new h in (
          one_stage begin at new h (omega arith) (omega arith),
          λ j l. ap (λ ws. word ws (begin + j)) c.words_are ∙ elim (cases_lt j (length new)) [
            | inl less ↦ put_here begin new (dir_words p d) j h.within less ∙ get_or-take (256 - in_page begin) words j 0 (omega arith)
            | inr past ↦ put_after begin new (dir_words p d) (begin + j) h.within (omega arith) ∙ stands j past l
          ],
        )
