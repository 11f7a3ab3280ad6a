-- A pass over record writes at or below its row in hand: it goes on as before, and the rows above are those of the pack as it began.
use Rattle.std.proofs.Common.{◌≡◌, ◌≢◌, ◌⊎◌, inl, inr, ℕ, ◌+◌, ◌*◌, ◌<◌, ◌≤◌, ◌==◌, ◌&&◌, nat_lt, Bool, true, false, cond, IsTrue, List, [], ◌∷◌, length, Option, Some, None, refl, sym, ap, subst, ◌∙◌, arith}
use Rattle.std.proofs.lemmas.Bool.Decides.{nat_tests}
use Rattle.std.proofs.lemmas.List.{get_or-set_other, length-append, length-set}
use Rattle.disk_records.specs.declared.records.Event.{Event}
use Rattle.disk_records.specs.declared.records.Event.TheVariants.{Shown, Wrote}
use Rattle.disk_records.specs.declared.records.Page.{Page}
use Rattle.disk_records.specs.declared.records.Sector.{Sector}
use Rattle.disk_records.specs.declared.shape.Shape.{Shape}
use Rattle.disk_records.specs.Addresses.{pages_of, real_of}
use Rattle.disk_records.specs.Commands.{claim_writes, relabel_writes, release_writes, value_writes}
use Rattle.disk_records.specs.Events.{IsFirstOf}
use Rattle.disk_records.specs.Labels.{page_of}
use Rattle.disk_records.specs.Packs.{Pack, after, carried, is_usable, no_sector, sector_at, with_part}
use Rattle.disk_records.specs.Tapes.{Grown, Looks, Taped, added, pack}
use Rattle.disk_records.specs.Words.{word}
use Rattle.disk_records.proofs.Growing.{added-twice, pack-after}
use Rattle.scav_table.specs.declared.pass.Pass.{Pass as RowPass}
use Rattle.scav_table.specs.declared.row.Row.{Row}
use Rattle.scav_table.specs.Laws.{IsFirstAbove, IsNextRow, WritesAt}
use Rattle.scav_table.specs.Passes.{IsPassed, Stands, first_of}
use Rattle.scav_table.specs.Rows.{is_above, is_below, rank, row_at, row_in, row_of, rows_above}
use Rattle.scav_table.specs.Windows.{Window}
use Rattle.scav_table.proofs.Belonging.{first_is_least}
use Rattle.scav_table.proofs.Standing.{few_sectors}
use Rattle.scav_table.proofs.Staying.{pass_goes_on_over}
use Rattle.scav_pages.specs.Changes.{AllMend}
use Rattle.scav_pages.proofs.Changing.{mend_join, nothing_mends}

-- ---- a pass in its table
-- over a pack of which one sector, at or below the row in hand, is written
pub stands_over : {told : Bool} {p : Pack} {table : Window} {pass : RowPass} (q : Pack) (at : ℕ) → Stands told p table pass → (IsTrue told → WritesAt at p q × IsPassed pass.last (row_at p at) × IsPassed pass.last (row_at q at)) → Stands told q table pass
stands_over {told} {p} {table} {pass} q at s h = record {
  within = s.within;
  most = s.most;
  low = s.low;
  rises = s.rises;
  higher = s.higher;
  left = λ k. let w = h k in (pass_goes_on_over told p q table pass at s w.0 w.1 w.2).left k;
}

-- over a call that only looks
pub stands_same : {told : Bool} {p : Pack} {table : Window} {pass : RowPass} (q : Pack) → Stands told p table pass → (IsTrue told → q ≡ p) → Stands told q table pass
stands_same {told} {p} {table} {pass} q s h = record {
  within = s.within;
  most = s.most;
  low = s.low;
  rises = s.rises;
  higher = s.higher;
  left = λ k. (subst (λ x. Stands told x table pass) (sym (h k)) s).left k;
}

-- ---- the rows that were met
pub some_row : {a b : Row} → Some a ≡ Some b → a ≡ b
some_row e = cc

pub contrary : {X : Type 0} {t : Bool} → t ≡ true → t ≡ false → X
contrary a b = absurd (let both : true ≡ false = sym a ∙ b in cc)

-- a row above a higher one
pub further : (b : Option Row) (x y : Row) → is_above b x ≡ true → is_below x y ≡ true → is_above b y ≡ true
further None x y e l = refl
further (Some b) x y e l = grind (arith, nat_tests)

-- the row in hand is passed, and what was passed before
pub passed_here : (row : Row) → is_below row row ≡ false
passed_here row = grind (arith, nat_tests)

pub passed_more : (last : Option Row) (row : Row) (o : Option Row) → is_above last row ≡ true → IsPassed last o → IsPassed (Some row) o
passed_more last row None e l = tt
passed_more last row (Some x) e l = by_test (is_below row x) refl
  where
    by_test : (t : Bool) → is_below row x ≡ t → is_below row x ≡ false
    by_test true k = contrary (further last row x e k) l
    by_test false k = k

-- ---- the rows above the row in hand are those of the pack as the pass began
pub record SameAhead (p q : Pack) (last : Option Row) : Type 0 where
  pub each : (at : ℕ) → (row_at q at ≡ row_at p at) ⊎ (IsPassed last (row_at p at) × IsPassed last (row_at q at))

pub ahead_here : (p : Pack) (last : Option Row) → SameAhead p p last
ahead_here p last = record { each = λ at. inl refl }

-- with the next row in hand
pub ahead_moves : {p q : Pack} {last : Option Row} (row : Row) → SameAhead p q last → is_above last row ≡ true → SameAhead p q (Some row)
ahead_moves {p} {q} {last} row s e = record {
  each = λ at. elim (s.each at) [
    | inl same ↦ inl same
    | inr both ↦ inr (passed_more last row (row_at p at) e both.0, passed_more last row (row_at q at) e both.1)
  ];
}

-- the row of a sector that isn't written
pub row_stays : {at : ℕ} {q r : Pack} (i : ℕ) → WritesAt at q r → i ≢ at → row_at r i ≡ row_at q i
row_stays {q = q} {r = r} i w other = ap (λ shape. row_of shape i (sector_at r i)) w.shape ∙ ap (row_of q.shape i) (w.others i other)

-- over a record write at or below the row in hand
pub ahead_writes : {p q : Pack} {last : Option Row} (r : Pack) (at : ℕ) → SameAhead p q last → WritesAt at q r → IsPassed last (row_at q at) → IsPassed last (row_at r at) → SameAhead p r last
ahead_writes {p} {q} {last} r at s w old now = record { each = λ i. by_test i (i == at) refl }
  where
    by_test : (i : ℕ) (t : Bool) → (i == at) ≡ t → (row_at r i ≡ row_at p i) ⊎ (IsPassed last (row_at p i) × IsPassed last (row_at r i))
    by_test i true e =
        let same : i ≡ at = grind (arith, nat_tests, e) in
        subst (λ k. (row_at r k ≡ row_at p k) ⊎ (IsPassed last (row_at p k) × IsPassed last (row_at r k))) (sym same) (inr (elim (s.each at) [ inl is ↦ subst (IsPassed last) is old | inr both ↦ both.0 ], now))
    by_test i false e =
        let other : i ≢ at = λ same. (let no = subst (λ k. (k == at) ≡ false) same e in grind (arith, nat_tests, no)) in
        let stays : row_at r i ≡ row_at q i = row_stays i w other in
        elim (s.each i) [ inl is ↦ inl (stays ∙ is) | inr both ↦ inr (both.0, subst (IsPassed last) (sym stays) both.1) ]

-- over one for the next row
pub ahead_stays : {p q : Pack} {last : Option Row} (row : Row) (r : Pack) (at : ℕ) → SameAhead p q last → is_above last row ≡ true → WritesAt at q r → IsPassed (Some row) (row_at q at) → IsPassed (Some row) (row_at r at) → SameAhead p r (Some row)
ahead_stays row r at s e w old now = ahead_writes r at (ahead_moves row s e) w old now

-- so the next row is one of that pack
pub first_above_stays : {p q : Pack} {last : Option Row} {row : Row} → SameAhead p q last → IsFirstAbove q last row → IsFirstAbove p last row
first_above_stays {p} {q} {last} {row} s f = record {
  here = elim (s.each row.at) [
    | inl is ↦ sym is ∙ f.here
    | inr both ↦ contrary f.above (subst (IsPassed last) f.here both.1)
  ];
  above = f.above;
  least = λ at r e l. elim (s.each at) [
    | inl is ↦ f.least at r (is ∙ e) l
    | inr both ↦ contrary l (subst (IsPassed last) e both.0)
  ];
}

pub next_row_stays : {p q : Pack} {last : Option Row} (next : Option Row) → SameAhead p q last → IsNextRow q last next → IsNextRow p last next
next_row_stays {p} {q} {last} None s n = λ at. elim (s.each at) [ inl is ↦ subst (IsPassed last) is (n at) | inr both ↦ both.0 ]
next_row_stays (Some row) s n = first_above_stays s n

-- the next row of a pass
pub next_is : (t : Taped) (last next : Option Row) → length t.base ≡ pages_of t.form → next ≡ first_of (rows_above (pack t) last) → IsNextRow (pack t) last next
next_is t last next sized e = subst (IsNextRow (pack t) last) (sym e) (first_is_least (pack t) last (few_sectors t sized))

-- ---- the row of a sector, by the page that it carries
of_page : (shape : Shape) (at : ℕ) (s : Sector) (page : Page) → cond (is_usable shape at s) (page_of s.label) None ≡ Some page → row_of shape at s ≡ Some (record { page = page; at = at; bytes = word s.label 3 })
unfolding row_of
of_page shape at s page e = by_test (is_usable shape at s) (page_of s.label) e
  where
    by_test : (t : Bool) (o : Option Page) → cond t o None ≡ Some page → cond t (row_in at (word s.label 3) o) None ≡ Some (record { page = page; at = at; bytes = word s.label 3 })
    by_test true (Some x) h = let same : x ≡ page = cc in ap (λ y. Some (record { page = y; at = at; bytes = word s.label 3 })) same
    by_test true None h = cc
    by_test false o h = cc

of_none : (shape : Shape) (at : ℕ) (s : Sector) → cond (is_usable shape at s) (page_of s.label) None ≡ None → row_of shape at s ≡ None
unfolding row_of
of_none shape at s e = by_test (is_usable shape at s) (page_of s.label) e
  where
    by_test : (t : Bool) (o : Option Page) → cond t o None ≡ None → cond t (row_in at (word s.label 3) o) None ≡ None
    by_test true (Some x) h = cc
    by_test true None h = refl
    by_test false o h = refl

row_is : (shape : Shape) (at : ℕ) (s : Sector) (row : Row) → row_of shape at s ≡ Some row → cond (is_usable shape at s) (page_of s.label) None ≡ Some row.page
unfolding row_of
row_is shape at s row e = by_test (is_usable shape at s) (page_of s.label) e
  where
    by_test : (t : Bool) (o : Option Page) → cond t (row_in at (word s.label 3) o) None ≡ Some row → cond t o None ≡ Some row.page
    by_test true (Some x) h = let same : record { page = x; at = at; bytes = word s.label 3 } ≡ row = cc in ap (λ r. Some r.page) same
    by_test true None h = cc
    by_test false o h = cc

pub row_carried : (p : Pack) (at : ℕ) (page : Page) → carried p at ≡ Some page → row_at p at ≡ Some (record { page = page; at = at; bytes = word (sector_at p at).label 3 })
row_carried p at page e = of_page p.shape at (sector_at p at) page e

pub row_none : (p : Pack) (at : ℕ) → carried p at ≡ None → row_at p at ≡ None
row_none p at e = of_none p.shape at (sector_at p at) e

pub carried_row : (p : Pack) (at : ℕ) (row : Row) → row_at p at ≡ Some row → carried p at ≡ Some row.page
carried_row p at row e = row_is p.shape at (sector_at p at) row e

-- from sector 1 on, and within the pack
placed_of : (shape : Shape) (at : ℕ) (s : Sector) (row : Row) → row_of shape at s ≡ Some row → (row.at ≡ at) × (1 ≤ at) × (at < pages_of shape)
unfolding row_of
placed_of shape at s row e = let in_pack = usable (nat_lt 0 at) (nat_lt at (pages_of shape)) refl refl e in (own (is_usable shape at s) (page_of s.label) e, in_pack.0, in_pack.1)
  where
    own : (t : Bool) (o : Option Page) → cond t (row_in at (word s.label 3) o) None ≡ Some row → row.at ≡ at
    own true (Some x) h = let same : record { page = x; at = at; bytes = word s.label 3 } ≡ row = cc in sym (ap (λ r. r.at) same)
    own true None h = cc
    own false o h = cc

    usable : (a b : Bool) → nat_lt 0 at ≡ a → nat_lt at (pages_of shape) ≡ b → cond (a && (b && (word s.header 1 == real_of shape at))) (row_in at (word s.label 3) (page_of s.label)) None ≡ Some row → (1 ≤ at) × (at < pages_of shape)
    usable true true x y h = (grind (arith, nat_tests, x), grind (arith, nat_tests, y))
    usable true false x y h = cc
    usable false b x y h = cc

pub row_placed : (p : Pack) (at : ℕ) (row : Row) → row_at p at ≡ Some row → (row.at ≡ at) × (1 ≤ at) × (at < pages_of p.shape)
row_placed p at row e = placed_of p.shape at (sector_at p at) row e

-- it is passed, if it carries nothing, or the page of a row that is in hand or was passed
pub passed_none : (p : Pack) (at : ℕ) (last : Option Row) → carried p at ≡ None → IsPassed last (row_at p at)
passed_none p at last e = subst (IsPassed last) (sym (row_none p at e)) tt

pub same_rank : (a b : Row) → a.page ≡ b.page → a.at ≡ b.at → rank a ≡ rank b
unfolding rank
same_rank a b e f = (λ i. ((((e i).fid.high * 65536 + (e i).fid.low) * 65536 + (e i).fid.version) * 65536 + (e i).number) * 65536 + f i)

passed_as : (last : Option Row) (a b : Row) → a.page ≡ b.page → a.at ≡ b.at → is_above last a ≡ false → is_above last b ≡ false
passed_as None a b e f l = l
passed_as (Some x) a b e f l = let same : rank a ≡ rank b = same_rank a b e f in grind (arith, nat_tests)

pub passed_row : (p : Pack) (row : Row) → row_at p row.at ≡ Some row → IsPassed (Some row) (row_at p row.at)
passed_row p row e = subst (IsPassed (Some row)) (sym e) (passed_here row)

pub passed_page : (q : Pack) (last : Option Row) (row : Row) → is_above last row ≡ false → carried q row.at ≡ Some row.page → IsPassed last (row_at q row.at)
passed_page q last row l e = subst (IsPassed last) (sym (row_carried q row.at row.page e)) (passed_as last row (record { page = row.page; at = row.at; bytes = word (sector_at q row.at).label 3 }) refl refl l)

pub passed_carried : (p q : Pack) (at : ℕ) (last : Option Row) → carried q at ≡ carried p at → IsPassed last (row_at p at) → IsPassed last (row_at q at)
passed_carried p q at last e l = by_page (carried p at) refl
  where
    by_page : (o : Option Page) → carried p at ≡ o → IsPassed last (row_at q at)
    by_page None is = passed_none q at last (e ∙ is)
    by_page (Some page) is =
        let old : is_above last (record { page = page; at = at; bytes = word (sector_at p at).label 3 }) ≡ false = subst (IsPassed last) (row_carried p at page is) l in
        passed_page q last (record { page = page; at = at; bytes = word (sector_at p at).label 3 }) old (e ∙ is)

-- ---- record writes in one sector
pub writes_here : (at : ℕ) (p : Pack) → WritesAt at p p
writes_here at p = record { shape = refl; size = refl; others = λ i other. refl }

pub writes_twice : {at : ℕ} {p q r : Pack} → WritesAt at p q → WritesAt at q r → WritesAt at p r
writes_twice a b = record { shape = b.shape ∙ a.shape; size = b.size ∙ a.size; others = λ i other. b.others i other ∙ a.others i other }

pub writes_one : (p : Pack) (at part : ℕ) (words : List ℕ) → WritesAt at p (after p (Wrote at part words ∷ []))
writes_one p at part words = record {
  shape = refl;
  size = length-set p.sectors at (with_part part words (sector_at p at));
  others = λ i other. get_or-set_other p.sectors at i (with_part part words (sector_at p at)) no_sector other;
}

-- all of these record writes are in the sector
abbrev pub AreAt : ℕ → List Event → Type 0
AreAt at [] = Unit {0}
AreAt at (Wrote i part words ∷ events) = (i ≡ at) × AreAt at events
AreAt at (Shown byte ∷ events) = AreAt at events

pub writes_all : (p : Pack) (at : ℕ) (events : List Event) → AreAt at events → WritesAt at p (after p events)
writes_all p at [] are = writes_here at p
writes_all p at (Wrote i part words ∷ events) are = writes_twice (subst (λ k. WritesAt k p (after p (Wrote i part words ∷ []))) are.0 (writes_one p i part words)) (writes_all (after p (Wrote i part words ∷ [])) at events are.1)
writes_all p at (Shown byte ∷ events) are = writes_all p at events are

-- a prefix of them too
pub first_at : (at : ℕ) (events some : List Event) → IsFirstOf events some → AreAt at events → AreAt at some
first_at at events [] is are = tt
first_at at [] (e ∷ some) is are = absurd is
first_at at (Wrote i part words ∷ events) (e ∷ some) is are = subst (λ x. AreAt at (x ∷ some)) (sym is.0) (are.0, first_at at events some is.1 are.1)
first_at at (Shown byte ∷ events) (e ∷ some) is are = subst (λ x. AreAt at (x ∷ some)) (sym is.0) (first_at at events some is.1 are)

pub writes_first : (p : Pack) (at : ℕ) (events some : List Event) → IsFirstOf events some → AreAt at events → WritesAt at p (after p some)
writes_first p at events some is are = writes_all p at some (first_at at events some is are)

pub release_at : (p : Pack) (at : ℕ) → WritesAt at p (after p (release_writes at))
release_at p at = writes_all p at (release_writes at) (refl, (refl, tt))

pub claim_at : (p : Pack) (at : ℕ) (label value : List ℕ) → WritesAt at p (after p (claim_writes at label value))
claim_at p at label value = writes_all p at (claim_writes at label value) (refl, (refl, (refl, tt)))

pub relabel_at : (p : Pack) (at : ℕ) (label value : List ℕ) → WritesAt at p (after p (relabel_writes at label value))
relabel_at p at label value = writes_all p at (relabel_writes at label value) (refl, (refl, tt))

pub value_at : (p : Pack) (at : ℕ) (value : List ℕ) → WritesAt at p (after p (value_writes at value))
value_at p at value = writes_one p at 2 value

-- ---- calls one after another
pub mends_added : {a b c : Taped} → Grown a b → Grown b c → AllMend (pack a) (added a b) → AllMend (pack b) (added b c) → AllMend (pack a) (added a c)
mends_added {a} {b} {c} x y one two =
    subst (AllMend (pack a)) (sym (added-twice x y))
    (mend_join (pack a) (added a b) (added b c) one (subst (λ p. AllMend p (added b c)) (pack-after x) two))

pub mends_looks : {told : Bool} {most : ℕ} {a b : Taped} → Looks told most a b → IsTrue told → AllMend (pack a) (added a b)
mends_looks {a = a} l h = subst (AllMend (pack a)) (sym (l.silent h)) (nothing_mends (pack a))

-- a call that has no room for two record writes had none before what was written in between
pub want_added : {a b c : Taped} → Grown a b → Grown b c → b.spare < length (added b c) + 3 → a.spare < length (added a c) + 3
want_added {a} {b} {c} x y l = let e : length (added a c) ≡ length (added a b) + length (added b c) = ap length (added-twice x y) ∙ length-append (added a b) (added b c) in let s = x.spare in omega (arith, e, s, l)
