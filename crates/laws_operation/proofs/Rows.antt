-- The pages of a whole file in a row: where each is, and how many there are.
use Rattle.std.proofs.Common.{List, Some, [], ap, arith, get_or, inl, inr, length, ltb-true, refl, suc, sym, zero, ℕ, ◌++◌, ◌+◌, ◌/◌, ◌<◌, ◌∙◌, ◌∷◌, ◌≡◌}
use Rattle.std.proofs.lemmas.List.{append-nil, length-append}
use Rattle.laws_contents.specs.alto_words.specs.declared.fid.Fid.{Fid}
use Rattle.laws_contents.specs.disk_records.specs.declared.shape.Shape.{Shape}
use Rattle.laws_contents.specs.pack_model.specs.reading.Bodies.{described}
use Rattle.laws_contents.specs.pack_model.specs.operations.Commands.{sectors_of}
use Rattle.laws_contents.specs.pack_model.specs.operations.Committing.{length_in, length_of, units}
use Rattle.laws_contents.specs.pack_model.specs.reading.Files.{file_bytes, leader, lives, place}
use Rattle.laws_contents.specs.pack_model.specs.reading.Leaders.{Leader}
use Rattle.laws_contents.specs.pack_model.specs.sessions.Meanings.{reading}
use Rattle.laws_contents.specs.pack_model.specs.reading.Model.{Model, read_sights}
use Rattle.laws_contents.specs.pack_model.specs.sessions.Moves.{steps}
use Rattle.laws_contents.specs.pack_model.specs.operations.Operations.{Move, claims_moves, releases_moves}
use Rattle.laws_contents.specs.pack_model.specs.operations.Operations.Move.{quiet}
use Rattle.laws_contents.specs.pack_model.specs.reading.Sights.{Sight}
use Rattle.laws_contents.specs.pack_model.specs.reading.Sights.Sight.{hidden, holds}
use Rattle.laws_contents.specs.pack_model.specs.states.Whole.{HasPages, IsLaid, IsSeat, PageAt, Seated}
use Rattle.laws_contents.specs.pack_laws.proofs.Placing.{page_of_place, place_of_page}
use Rattle.laws_contents.specs.laws_record.proofs.Keeping.{get-tidied_plain, plain}
use Rattle.laws_contents.specs.laws_record.proofs.Seats.{seat_once}
use Rattle.laws_operation.proofs.inside.Elsewhere.{same_refl}
use Rattle.laws_operation.proofs.Lying.{page_alone}
use Rattle.laws_operation.proofs.inside.OneFile.{described_was}
use Rattle.laws_operation.specs.ByteLaws.{Bear, IsOrdinary, together}

-- ---- places
-- the only sector that holds a page is its place
pub place_alone : (ss : List Sight) (f : Fid) (m i : ℕ) (b : List ℕ) → get_or ss i hidden ≡ holds f m b → ((j : ℕ) (c : List ℕ) → get_or ss j hidden ≡ holds f m c → j ≡ i) → place ss f (suc m) ≡ Some i
place_alone ss f m i b e once =
    let r = place_of_page ss f m b (page_alone ss f m i b e once) in
    let here = page_of_place ss f m r.0 r.1 in
    r.1 ∙ ap Some (once r.0 here.bytes (here.shows hidden))

-- each page of a file that carries these is where it is
seat_is_place : (ss : List Sight) (f : Fid) (pages : List PageAt) → HasPages ss f pages 0 [] → (m i : ℕ) (b : List ℕ) → get_or ss i hidden ≡ holds f m b → place ss f (suc m) ≡ Some i
seat_is_place ss f pages c m i b e = place_alone ss f m i b e (λ j d x. seat_once 0 pages m j i (seat j d x) (seat i b e))
  where
    seat : (j : ℕ) (d : List ℕ) → get_or ss j hidden ≡ holds f m d → IsSeat 0 pages m j
    seat j d x = elim (c.only j m d x) [ inl s ↦ s | inr s ↦ absurd s ]

-- the sectors that bear pages in a row are those that hold them
pub row_is : (ss : List Sight) (f : Fid) (pages : List PageAt) → HasPages ss f pages 0 [] → (ats : List ℕ) (cs : List PageAt) (k : ℕ) → length ats ≡ length cs → Bear ss f (suc k) ats → Seated ss f k cs → ats ≡ sectors_of cs
row_is ss f pages c [] [] k size bear seated = refl
row_is ss f pages c [] (d ∷ cs) k size bear seated = absurd (omega (arith, size))
row_is ss f pages c (a ∷ ats) [] k size bear seated = absurd (omega (arith, size))
row_is ss f pages c (a ∷ ats) (d ∷ cs) k size bear seated =
    let both : Some a ≡ Some d.0 = sym bear.0 ∙ seat_is_place ss f pages c k d.0 d.1 seated.0 in
    let first : a ≡ d.0 = cc in
    (λ j. first j ∷ row_is ss f pages c ats cs (suc k) (omega (arith, size)) bear.1 seated.1 j)

-- ---- counts
-- a file's pages are as many as its bytes say
pub pages_by_bytes : (cs : List PageAt) → IsLaid cs → length cs ≡ suc (length (together cs) / 512)
pages_by_bytes [] l = absurd l
pages_by_bytes (c ∷ []) l = let n : length c.1 < 512 = ltb-true (length c.1) 512 l in let e : length (c.1 ++ []) ≡ length c.1 = ap length (append-nil c.1) in omega arith
pages_by_bytes (c ∷ d ∷ cs) l =
    let r = pages_by_bytes (d ∷ cs) l.1 in
    let e : length (c.1 ++ together (d ∷ cs)) ≡ length c.1 + length (together (d ∷ cs)) = length-append c.1 (together (d ∷ cs)) in
    let n = l.0 in omega arith

-- the length of an ordinary file in the model is that of its bytes
pub ordinary_length : (shape : Shape) (ss : List Sight) (f : Fid) (l : Leader) → leader ss f ≡ Some l → IsOrdinary f → length_of (read_sights shape ss) f ≡ length (file_bytes ss f)
unfolding read_sights
ordinary_length shape ss f l is o =
    ap length_in (get-tidied_plain (lives ss) (described ss) f (plain l (file_bytes ss f)) (described_was shape ss ss f l l (same_refl f ss) is is o.no_directory o.no_descriptor) (file_bytes ss f, refl))

-- moves by the number of pages alone
pub claims_units : {X : Type 0} (cs : List X) (n : ℕ) → length cs ≡ n → claims_moves (units n) ≡ claims_moves cs
claims_units [] zero e = refl
claims_units [] (suc n) e = absurd (omega (arith, e))
claims_units (c ∷ cs) zero e = absurd (omega (arith, e))
claims_units (c ∷ cs) (suc n) e = ap (λ r. quiet ∷ quiet ∷ quiet ∷ r) (claims_units cs n (omega (arith, e)))

-- those of releases
pub releases_units : {X : Type 0} (cs : List X) (n : ℕ) → length cs ≡ n → releases_moves (units n) ≡ releases_moves cs
releases_units [] zero e = refl
releases_units [] (suc n) e = absurd (omega (arith, e))
releases_units (c ∷ cs) zero e = absurd (omega (arith, e))
releases_units (c ∷ cs) (suc n) e = ap (λ r. quiet ∷ quiet ∷ r) (releases_units cs n (omega (arith, e)))

-- quiet moves leave the model
pub claims_still : {X : Type 0} (cs : List X) (m : Model) (more : List Move) → steps reading m (claims_moves cs ++ more) ≡ steps reading m more
claims_still [] m more = refl
claims_still (c ∷ cs) m more = claims_still cs m more
