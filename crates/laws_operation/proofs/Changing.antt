-- Where a page of a whole file stands among its pages, and what a change of it makes.
use Rattle.std.proofs.Common.{Bool, List, Some, [], ap, arith, false, get_or, inl, inr, length, refl, set, subst, suc, sym, true, ℕ, ◌*◌, ◌++◌, ◌+◌, ◌<◌, ◌∙◌, ◌∷◌, ◌≡◌, ◌≤◌}
use Rattle.std.proofs.lemmas.List.{get_or-set_same, length-append}
use Rattle.laws_contents.specs.alto_words.specs.Fid.{disk_descriptor, is_directory, is_fid}
use Rattle.laws_contents.specs.alto_words.specs.declared.fid.Fid.{Fid}
use Rattle.laws_contents.specs.disk_records.specs.declared.shape.Shape.{Shape}
use Rattle.laws_contents.specs.pack_model.specs.reading.Bodies.{File}
use Rattle.laws_contents.specs.pack_model.specs.reading.Files.{file_bytes, leader, most_pages}
use Rattle.laws_contents.specs.pack_model.specs.reading.Leaders.{Leader}
use Rattle.laws_contents.specs.pack_model.specs.reading.Model.{good_one, read_sights}
use Rattle.laws_contents.specs.pack_model.specs.reading.Sights.{Sight}
use Rattle.laws_contents.specs.pack_model.specs.reading.Sights.Sight.{hidden, holds, leads}
use Rattle.laws_contents.specs.pack_model.specs.operations.Step.{update_file}
use Rattle.laws_contents.specs.pack_model.specs.states.Whole.{HasPages, FileWhole, IsLaid, IsSeat, Leads, PageAt, TidySights, WholeSights, absent, present}
use Rattle.laws_contents.specs.laws_record.proofs.Keeping.{plain}
use Rattle.laws_operation.proofs.inside.Elsewhere.{MayBe, SameBut, same_set}
use Rattle.laws_operation.proofs.Lying.{bytes_laid, seated_right, shows_set, within}
use Rattle.laws_operation.proofs.inside.OneFile.{file_step, tidy_after, whole_after}
use Rattle.laws_operation.proofs.Seating.{AllFull, carries_none, carries_set, carries_write, laid_alike, laid_back, laid_front, laid_join, leader_is, leads_set}
use Rattle.laws_operation.specs.ByteLaws.{together}

-- Where a page stands among others.
record SeatIn (k : ℕ) (cs : List PageAt) (m i : ℕ) : Type 0 where
  front : List PageAt
  bytes : List ℕ
  later : List PageAt
  is : cs ≡ front ++ (i, bytes) ∷ later
  number : k + length front ≡ m

-- each seat is such a place
seat_place : (k : ℕ) (cs : List PageAt) (m i : ℕ) → IsSeat k cs m i → SeatIn k cs m i
seat_place k [] m i h = absurd h
seat_place k (c ∷ cs) m i h = elim h [
  | inl p ↦ let e = p.1 in let n = p.0 in record { front = []; bytes = c.1; later = cs; is = λ j. (sym e j, c.1) ∷ cs; number = omega arith }
  | inr q ↦ let r = seat_place (suc k) cs m i q in
      let n = r.number in record { front = c ∷ r.front; bytes = r.bytes; later = r.later; is = ap (λ x. c ∷ x) r.is; number = omega arith }
]

-- data page k of the whole file f, counted from 0, stands in sector i
pub record Placed (ss : List Sight) (f : Fid) (k i : ℕ) (old : List ℕ) : Type 0 where
  pub at : ℕ
  pub lead : Leader
  pub front : List PageAt
  pub later : List PageAt
  pub number : length front ≡ k
  pub leads_it : Leads ss f at true lead
  pub carries : HasPages ss f (front ++ (i, old) ∷ later) 0 []
  pub laid : IsLaid (front ++ (i, old) ∷ later)
  pub few : length (front ++ (i, old) ∷ later) ≤ most_pages

-- in a whole file
placed_in : (ss : List Sight) (f : Fid) (k i : ℕ) (old : List ℕ) (at : ℕ) (l : Leader) (pages : List PageAt) → get_or ss i hidden ≡ holds f k old → Leads ss f at true l → HasPages ss f pages 0 [] → IsLaid pages → length pages ≤ most_pages → SeatIn 0 pages k i → Placed ss f k i old
placed_in ss f k i old at l pages is h c laid few r =
    let c2 : HasPages ss f (r.front ++ (i, r.bytes) ∷ r.later) 0 [] = subst (λ x. HasPages ss f x 0 []) r.is c in
    let here : get_or ss i hidden ≡ holds f (0 + length r.front) r.bytes = (seated_right ss f 0 r.front ((i, r.bytes) ∷ r.later) c2.seated).0 in
    let both : holds f (0 + length r.front) r.bytes ≡ holds f k old = sym here ∙ is in
    let b : r.bytes ≡ old = cc in
    let e : pages ≡ r.front ++ (i, old) ∷ r.later = r.is ∙ ap (λ x. r.front ++ (i, x) ∷ r.later) b in
    let n = r.number in
    record {
      at = at;
      lead = l;
      front = r.front;
      later = r.later;
      number = omega arith;
      leads_it = h;
      carries = subst (λ x. HasPages ss f x 0 []) e c;
      laid = subst IsLaid e laid;
      few = subst (λ x. length x ≤ most_pages) e few;
    }

-- so it is for each page of a whole file
pub seat_of : (ss : List Sight) (f : Fid) (k i : ℕ) (old : List ℕ) → FileWhole ss f → get_or ss i hidden ≡ holds f k old → Placed ss f k i old
seat_of ss f k i old (absent headless c) is = absurd (elim (c.only i k old is) [ inl s ↦ s | inr s ↦ s ])
seat_of ss f k i old (present at l pages h c laid few) is =
    placed_in ss f k i old at l pages is h c laid few (elim (c.only i k old is) [ inl s ↦ seat_place 0 pages k i s | inr s ↦ absurd s ])

-- the whole file f has its leader in sector i
pub record Headed (ss : List Sight) (f : Fid) (i : ℕ) (l : Leader) : Type 0 where
  pub pages : List PageAt
  pub leads_it : Leads ss f i true l
  pub carries : HasPages ss f pages 0 []
  pub laid : IsLaid pages
  pub few : length pages ≤ most_pages

-- so it is for each leader of one
pub headed : (ss : List Sight) (f : Fid) (i : ℕ) (r : Bool) (l : Leader) → FileWhole ss f → get_or ss i hidden ≡ leads f r l → Headed ss f i l
headed ss f i r l (absent headless c) is = absurd (headless i r l is)
headed ss f i r l (present at k pages h c laid few) is =
    let e : i ≡ at = h.only i r l is in
    let both : leads f true k ≡ leads f r l = sym h.shows ∙ ap (λ n. get_or ss n hidden) (sym e) ∙ is in
    let k_is : k ≡ l = cc in
    record { pages = pages; leads_it = subst (λ x. Leads ss f i true x) k_is (subst (λ n. Leads ss f n true k) (sym e) h); carries = c; laid = laid; few = few }

-- the bytes of full pages
pub length-together : (a : List PageAt) → AllFull a → length (together a) ≡ 512 * length a
length-together [] h = refl
length-together (c ∷ a) h = let r = length-together a h.1 in let e = h.0 in length-append c.1 (together a) ∙ (omega arith)

-- one page more
pub length-one : (front : List PageAt) (c : PageAt) → length (front ++ c ∷ []) ≡ suc (length front)
length-one front c = length-append front (c ∷ []) ∙ (omega arith)

-- ---- what an operation on one file makes of the sectors
pub record Changed (ss us : List Sight) (f : Fid) (l k : Leader) (b c : List ℕ) : Type 0 where
  pub same : SameBut f ss us
  pub was : leader ss f ≡ Some l
  pub now : leader us f ≡ Some k
  pub before : file_bytes ss f ≡ b
  pub since : file_bytes us f ≡ c
  pub whole : FileWhole us f

-- What is read then, and that the pack is whole and tidy again.
pub record Leaves (shape : Shape) (ss us : List Sight) (f : Fid) (g : File → File) : Type 0 where
  pub reads : read_sights shape us ≡ update_file (read_sights shape ss) f g
  pub whole : WholeSights shape us
  pub tidy : TidySights us

-- so it is for an ordinary file
pub leaves : (shape : Shape) (ss us : List Sight) (f : Fid) (l k : Leader) (b c : List ℕ) (g : File → File) → Changed ss us f l k b c → is_directory f ≡ false → is_fid f disk_descriptor ≡ false
    → g (plain l b) ≡ plain k c → WholeSights shape ss → TidySights ss → Leaves shape ss us f g
leaves shape ss us f l k b c g h ordinary shown e w t = record {
  reads = file_step shape ss us f l k h.same h.was h.now ordinary shown g (ap (λ x. g (plain l x)) h.before ∙ e ∙ ap (plain k) (sym h.since));
  whole = whole_after shape ss us f l k h.same h.was h.now ordinary shown w t h.whole;
  tidy = tidy_after shape ss us f l k h.same h.was h.now ordinary shown t;
}

-- a page holds as many bytes as before
pub page_changed : (ss : List Sight) (f : Fid) (k i : ℕ) (old new : List ℕ) (h : Placed ss f k i old) → get_or ss i hidden ≡ holds f k old → length new ≡ length old
    → Changed ss (set ss i (holds f k new)) f h.lead h.lead (together (h.front ++ (i, old) ∷ h.later)) (together (h.front ++ (i, new) ∷ h.later))
page_changed ss f k i old new h is e =
    let us : List Sight = set ss i (holds f k new) in
    let l : i < length ss = within ss i (ap good_one is) in
    let leads_us : Leads us f h.at true h.lead = leads_set ss f h.at true h.lead i (holds f k new) h.leads_it l (λ r x z. let y : holds f k old ≡ leads f r x = sym is ∙ z in absurd cc) (λ r x z. absurd cc) in
    let c : HasPages us f (h.front ++ (i, new) ∷ h.later) 0 [] = subst (λ n. HasPages (set ss i (holds f n new)) f (h.front ++ (i, new) ∷ h.later) 0 []) h.number (carries_write ss f h.front i old h.later 0 [] new h.carries (inr refl)) in
    let laid : IsLaid (h.front ++ (i, new) ∷ h.later) = laid_join h.front (i, new) h.later (laid_front h.front (i, old) h.later h.laid) (laid_alike i old new h.later e (laid_back h.front (i, old) h.later h.laid)) in
    let size : length (h.front ++ (i, new) ∷ h.later) ≡ length (h.front ++ (i, old) ∷ h.later) = length-append h.front ((i, new) ∷ h.later) ∙ sym (length-append h.front ((i, old) ∷ h.later)) in
    let few : length (h.front ++ (i, new) ∷ h.later) ≤ most_pages = subst (λ n. n ≤ most_pages) (sym size) h.few in
    record {
      same = same_set f ss i (holds f k new) (subst (MayBe f) (sym is) refl) refl;
      was = leader_is ss f h.at true h.lead h.leads_it;
      now = leader_is us f h.at true h.lead leads_us;
      before = bytes_laid ss f _ (length (h.front ++ (i, old) ∷ h.later)) [] (carries_none ss f (h.front ++ (i, old) ∷ h.later) 0 (length (h.front ++ (i, old) ∷ h.later)) h.carries) (omega arith) h.laid h.few;
      since = bytes_laid us f _ (length (h.front ++ (i, new) ∷ h.later)) [] (carries_none us f (h.front ++ (i, new) ∷ h.later) 0 (length (h.front ++ (i, new) ∷ h.later)) c) (omega arith) laid few;
      whole = present h.at h.lead (h.front ++ (i, new) ∷ h.later) leads_us c laid few;
    }

-- the leader has other words
pub leader_changed : (ss : List Sight) (f : Fid) (i : ℕ) (l k : Leader) (h : Headed ss f i l) → Changed ss (set ss i (leads f true k)) f l k (together h.pages) (together h.pages)
leader_changed ss f i l k h =
    let us : List Sight = set ss i (leads f true k) in
    let is = h.leads_it.shows in
    let n : i < length ss = within ss i (ap good_one is) in
    let leads_us : Leads us f i true k = record {
      shows = get_or-set_same ss i (leads f true k) hidden n;
      only = λ j r x e. elim (shows_set ss i (leads f true k) j (leads f r x) n e) [ inl p ↦ p.0 | inr q ↦ h.leads_it.only j r x q.1 ];
    } in
    let c : HasPages us f h.pages 0 [] = carries_set ss f h.pages 0 [] h.carries i (leads f true k) n (λ m b z. let y : leads f true l ≡ holds f m b = sym is ∙ z in absurd cc) (λ m b z. absurd cc) in
    record {
      same = same_set f ss i (leads f true k) (subst (MayBe f) (sym is) refl) refl;
      was = leader_is ss f i true l h.leads_it;
      now = leader_is us f i true k leads_us;
      before = bytes_laid ss f h.pages (length h.pages) [] (carries_none ss f h.pages 0 (length h.pages) h.carries) (omega arith) h.laid h.few;
      since = bytes_laid us f h.pages (length h.pages) [] (carries_none us f h.pages 0 (length h.pages) c) (omega arith) h.laid h.few;
      whole = present i k h.pages leads_us c h.laid h.few;
    }
