-- A pass that cuts directories: the rows to come are those of the pack as it began, and each directory that was left ends with its slots.
use Rattle.std.proofs.Common.{◌≡◌, ◌≢◌, ◌⊎◌, inl, inr, ℕ, suc, ◌/◌, ◌==◌, Bool, true, false, IsTrue, length, Option, Some, None, Result, Ok, Err, IfOk, refl, sym, ap, subst, ◌∙◌, arith, IsErrAnd}
use Rattle.std.proofs.lemmas.Bool.Decides.{nat_tests}
use Rattle.std.specs.Option.{option_map}
use Rattle.alto_words.specs.declared.fid.Fid.{Fid}
use Rattle.alto_words.specs.Fid.{is_directory}
use Rattle.disk_records.specs.declared.records.Page.{Page}
use Rattle.disk_records.specs.Packs.{AreFormed, Pack, carried, sector_at}
use Rattle.disk_records.specs.Tapes.{DiskAlone, Grown, Looks, Taped, pack}
use Rattle.disk_records.proofs.Looking.{looks_pack}
use Rattle.pack_model.specs.reading.Files.{file_bytes, lives, place}
use Rattle.pack_model.specs.reading.Sights.{sights}
use Rattle.pack_model.specs.reading.Bytes.{words_of}
use Rattle.pack_model.specs.reading.Slots.{SlotsReachEnd, all_words, slots}
use Rattle.laws_mend.specs.Parts.{Cleared, FreesMore}
use Rattle.laws_mend.proofs.numbers.Laws.{frees_join}
use Rattle.scav_table.specs.declared.pass.Pass.{Pass as RowPass}
use Rattle.scav_table.specs.declared.row.Row.{Row}
use Rattle.scav_table.specs.Laws.{IsFirstAbove, IsNextRow, WritesAt}
use Rattle.scav_table.specs.Passes.{IsPassed, Stands}
use Rattle.scav_table.specs.Rows.{is_above, is_below, row_at}
use Rattle.scav_table.specs.Windows.{Window}
use Rattle.scav_pages.specs.declared.directory.Directory.{Directory}
use Rattle.scav_pages.specs.declared.errors.Stop.{Stop}
use Rattle.scav_pages.specs.declared.files.FileWalk.{FileWalk}
use Rattle.scav_pages.specs.Begins.{MayBegin}
use Rattle.scav_pages.specs.Directories.{IsReadTo, MayBeCut}
use Rattle.scav_pages.specs.Does.{Does}
use Rattle.scav_pages.specs.Parts.{DirectoriesEnd, DirectoryEnds, RelabelsFor, RelabelsHand}
use Rattle.scav_pages.specs.Walks.{AreWords, IsLeft, IsOtherFile, NoneAbove, Walked, file_in_hand}
use Rattle.scav_pages.proofs.DirectoryReading.{may_cut}
use Rattle.scav_pages.proofs.Doing.{Going, does_last, does_stop_part, going_does, going_here, going_looks}
use Rattle.scav_pages.proofs.Passing.{SameAhead, ahead_here, ahead_moves, ahead_writes, carried_row, contrary, first_above_stays, further, next_row_stays, passed_carried, passed_more, stands_over}
use Rattle.scav_pages.proofs.Ranking.{living_row, met_or_next}
use Rattle.scav_pages.proofs.Walking.{hand_or, leaves_its_file, leaves_the_last_file}

-- ---- sectors to come
-- Of the pack as the pass began: the rows above the row in hand are those of the pack now, and so are the sectors that they are in.
pub record Stays (p q : Pack) (last : Option Row) : Type 0 where
  pub rows : SameAhead p q last
  pub sectors : (at : ℕ) (r : Row) → row_at p at ≡ Some r → is_above last r ≡ true → sector_at q at ≡ sector_at p at

pub stays_here : (p : Pack) (last : Option Row) → Stays p p last
stays_here p last = record { rows = ahead_here p last; sectors = λ at r is above. refl }

pub stays_moves : {p q : Pack} {last : Option Row} (row : Row) → Stays p q last → is_above last row ≡ true → Stays p q (Some row)
stays_moves {last = last} row s e = record { rows = ahead_moves row s.rows e; sectors = λ at r is above. s.sectors at r is (further last row r e above) }

-- a row that isn't above is passed
passed_not : (p : Pack) (last : Option Row) (at : ℕ) → ((r : Row) → row_at p at ≡ Some r → is_above last r ≡ true → ⊥) → IsPassed last (row_at p at)
passed_not p last at none = by (row_at p at) refl
  where
    by : (o : Option Row) → row_at p at ≡ o → IsPassed last o
    by None e = tt
    by (Some r) e = by_test (is_above last r) refl
      where
        by_test : (t : Bool) → is_above last r ≡ t → is_above last r ≡ false
        by_test true h = absurd (none r e h)
        by_test false h = h

-- the page of the file that was left is passed where it is relabelled, before and after
pub relabel_passed : {p q r : Pack} {last : Option Row} {walk : FileWalk} {at : ℕ} → SameAhead p q last → IsLeft p last walk → RelabelsFor walk at q r → IsPassed last (row_at q at) × IsPassed last (row_at r at)
relabel_passed {p} {q} {r} {last} {walk} {at} s left w = (before, passed_carried q r at last (w.carries ∙ sym w.carried_it) before)
  where
    before : IsPassed last (row_at q at)
    before = elim (s.each at) [
      | inl same ↦ passed_not q last at (λ x is above. (
          let here = carried_row q at x is in
          let page : x.page ≡ w.page = (let both : Some x.page ≡ Some w.page = sym here ∙ w.carried_it in cc) in
          left w.page.fid w.hand at x (sym same ∙ is) above (ap (λ (y : Page). y.fid) (sym page))))
      | inr both ↦ both.1
    ]

pub stays_writes : {p q : Pack} {last : Option Row} (r : Pack) (at : ℕ) → Stays p q last → WritesAt at q r → IsPassed last (row_at q at) × IsPassed last (row_at r at) → Stays p r last
stays_writes {p} {q} {last} r at s w passed = record {
  rows = ahead_writes r at s.rows w passed.0 passed.1;
  sectors = λ i x is above. by_test i x is above (i == at) refl;
}
  where
    by_test : (i : ℕ) (x : Row) → row_at p i ≡ Some x → is_above last x ≡ true → (t : Bool) → (i == at) ≡ t → sector_at r i ≡ sector_at p i
    by_test i x is above true e =
        let same : i ≡ at = grind (arith, nat_tests, e) in
        elim (s.rows.each i) [
          | inl stays ↦ contrary above (subst (IsPassed last) (stays ∙ is) (subst (λ k. IsPassed last (row_at q k)) (sym same) passed.0))
          | inr both ↦ contrary above (subst (IsPassed last) is both.0)
        ]
    by_test i x is above false e =
        let other : i ≢ at = λ same. (let no = subst (λ k. (k == at) ≡ false) same e in grind (arith, nat_tests, no)) in
        w.others i other ∙ s.sectors i x is above

-- over the end of the directory that was left
pub stays_relabels : {p q : Pack} {last : Option Row} {walk : FileWalk} (r : Pack) → Stays p q last → IsLeft p last walk → RelabelsHand walk q r → Stays p r last
stays_relabels {p} {q} {last} {walk} r s left hand = elim hand [
  | inl same ↦ subst (λ x. Stays p x last) (sym same) s
  | inr some ↦ stays_writes r some.0 s some.1.written (relabel_passed s.rows left some.1)
]

pub stands_relabels : {told : Bool} {p q : Pack} {table : Window} {pass : RowPass} {last : Option Row} {walk : FileWalk} (r : Pack) → Stands told q table pass → (IsTrue told → SameAhead p q last × IsLeft p last walk × RelabelsHand walk q r × ((o : Option Row) → IsPassed last o → IsPassed pass.last o)) → Stands told r table pass
stands_relabels {told} {p} {q} {table} {pass} {last} {walk} r s h = record {
  within = s.within;
  most = s.most;
  low = s.low;
  rises = s.rises;
  higher = s.higher;
  left = λ k. (let x = h k in (by x.2 x.0 x.1 x.3).left k);
}
  where
    by : RelabelsHand walk q r → SameAhead p q last → IsLeft p last walk → ((o : Option Row) → IsPassed last o → IsPassed pass.last o) → Stands told r table pass
    by (inl same) a left more = subst (λ x. Stands told x table pass) (sym same) s
    by (inr some) a left more =
        let passed = relabel_passed a left some.1 in
        stands_over r some.0 s (λ k. (some.1.written, more (row_at q some.0) passed.0, more (row_at r some.0) passed.1))

-- the next row is there still
pub row_there : {p q : Pack} {last : Option Row} {row : Row} → Stays p q last → IsFirstAbove p last row → (sector_at q row.at ≡ sector_at p row.at) × (carried q row.at ≡ Some row.page)
row_there {p} {q} {last} {row} s first = (
  s.sectors row.at row first.here first.above,
  elim (s.rows.each row.at) [
    | inl same ↦ carried_row q row.at row (same ∙ first.here)
    | inr both ↦ contrary first.above (subst (IsPassed last) first.here both.0)
  ],
)

-- ---- directories that were left
-- a file of which rows are to come, or that is in hand
abbrev pub IsPending : Pack → Option Row → Option Fid → Fid → Type 0
IsPending p last hand f = (hand ≡ Some f) ⊎ ((at : ℕ) × (r : Row) × (row_at p at ≡ Some r) × (is_above last r ≡ true) × (f ≡ r.page.fid))

-- Pages have their places, and a file that is pending has the bytes that it had; each directory that isn't ends with its slots.
pub record Cuts (p q : Pack) (last : Option Row) (hand : Option Fid) : Type 0 where
  pub cleared : Cleared q
  pub frees : FreesMore p q 0
  pub places_are : (f : Fid) (n : ℕ) → place (sights q) f n ≡ place (sights p) f n
  pub lives_are : (f : Fid) → lives (sights q) f ≡ lives (sights p) f
  pub pending : (f : Fid) → IsPending p last hand f → file_bytes (sights q) f ≡ file_bytes (sights p) f
  pub ended : (d : Fid) → lives (sights q) d ≡ true → is_directory d ≡ true → (IsPending p last hand d → ⊥) → SlotsReachEnd (file_bytes (sights q) d)

frees_none : (p : Pack) → FreesMore p p 0
frees_none p = record { free = omega arith; available_is = refl }

-- before the first row
pub cuts_begin : (p : Pack) → Cleared p → Cuts p p None None
cuts_begin p cleared = record {
  cleared = cleared;
  frees = frees_none p;
  places_are = λ f n. refl;
  lives_are = λ f. refl;
  pending = λ f h. refl;
  ended = λ d living isdir none. (let h = living_row p d living in absurd (none (inr (h.0, h.1.row, h.1.is, refl, ap (λ (x : Page). x.fid) (sym h.1.page_is)))));
}

-- the directory in hand is left
pub cuts_leave : {p q : Pack} {last : Option Row} {dir : Directory} (r : Pack) → Cuts p q last (file_in_hand dir.walk) → IsLeft p last dir.walk → DirectoryEnds dir q r tt → Cuts p r last None
cuts_leave {p} {q} {last} {dir} r c left e = record {
  cleared = e.cleared;
  frees = frees_join p q r 0 0 c.frees e.frees;
  places_are = λ f n. e.places_are f n ∙ c.places_are f n;
  lives_are = λ f. e.lives_are f ∙ c.lives_are f;
  pending = λ f h. elim h [
    | inl none ↦ absurd (let no : None ≡ Some f = none in cc)
    | inr some ↦ e.others f (λ hand. left f hand some.0 some.1 some.2 some.3 some.4) ∙ c.pending f (inr some)
  ];
  ended = λ d living isdir none. elim (hand_or (file_in_hand dir.walk) d) [
    | inl hand ↦ e.ends d hand living isdir
    | inr other ↦ subst SlotsReachEnd (sym (e.others d other)) (c.ended d (sym (e.lives_are d) ∙ living) isdir (λ pending. elim pending [ inl hand ↦ other hand | inr some ↦ none (inr some) ]))
  ];
}

-- the next row comes to hand
pub cuts_meet : {p q : Pack} {last : Option Row} {hand : Option Fid} {row : Row} → Cuts p q last hand → IsFirstAbove p last row → ((hand ≢ None) × (hand ≢ Some row.page.fid) → ⊥) → Cuts p q (Some row) (Some row.page.fid)
cuts_meet {p} {q} {last} {hand} {row} c first same = record {
  cleared = c.cleared;
  frees = c.frees;
  places_are = c.places_are;
  lives_are = c.lives_are;
  pending = λ f h. c.pending f (elim h [
    | inl is ↦ inr (row.at, row, first.here, first.above, (let e : row.page.fid ≡ f = cc in sym e))
    | inr some ↦ inr (some.0, some.1, some.2, further last row some.1 first.above some.3, some.4)
  ]);
  ended = λ d living isdir none. c.ended d living isdir (λ pending. elim pending [
    | inl is ↦ elim (hand_or (Some row.page.fid) d) [
      | inl here ↦ none (inl here)
      | inr other ↦ same ((λ none. (let both : Some d ≡ None = sym is ∙ none in cc)), (λ here. other (sym here ∙ is)))
    ]
    | inr some ↦ by d none some.0 some.1 some.2 some.3 some.4 (is_below row some.1) refl
  ]);
}
  where
    by : (d : Fid) → (IsPending p (Some row) (Some row.page.fid) d → ⊥) → (at : ℕ) (r : Row) → row_at p at ≡ Some r → is_above last r ≡ true → d ≡ r.page.fid → (t : Bool) → is_below row r ≡ t → ⊥
    by d none at r is above e true more = none (inr (at, r, is, more, e))
    by d none at r is above e false more = elim (met_or_next p last row first at r is more) [
      | inl old ↦ contrary above old
      | inr next ↦ none (inl (ap (λ (z : Row). Some z.page.fid) (sym next.1) ∙ ap Some (sym e)))
    ]

-- all rows were met
pub cuts_end : {p q : Pack} {last : Option Row} → Cuts p q last None → IsNextRow p last None → DirectoriesEnd p q tt
cuts_end {p} {q} {last} c none = record {
  ended = record {
    cleared = c.cleared;
    directories = λ d living isdir. c.ended d living isdir (λ pending. elim pending [
      | inl is ↦ (let no : None ≡ Some d = is in cc)
      | inr some ↦ contrary some.3 (subst (IsPassed last) some.2 (none some.0))
    ]);
  };
  frees = c.frees;
}

-- ---- the pass so far
-- What was read is of the pack as the pass began; it goes on, and cuts, if that pack is cleared.
pub record CutsTo (told : Bool) (a b : Taped) (last : Option Row) (dir : Directory) : Type 0 where
  pub stays : IsTrue told → Stays (pack a) (pack b) last
  pub read : IsTrue told → IsReadTo (pack a) last dir
  pub going : IsTrue told → Cleared (pack a) → Going a b
  pub cuts : IsTrue told → Cleared (pack a) → Cuts (pack a) (pack b) last (file_in_hand dir.walk)

-- what is known of the directory in hand is known of the pack now
may_be_cut : (p q : Pack) (dir : Directory) → MayBeCut p dir → ((d : Fid) → file_in_hand dir.walk ≡ Some d → file_bytes (sights q) d ≡ file_bytes (sights p) d) → ((f : Fid) (n : ℕ) → place (sights q) f n ≡ place (sights p) f n) → ((f : Fid) → lives (sights q) f ≡ lives (sights p) f) → MayBeCut q dir
may_be_cut p q dir may bytes places living_is d hand = (
  (may d hand).0 ∙ sym (living_is d),
  (λ living isdir.
      let r = (may d hand).1 (sym (living_is d) ∙ living) isdir in
      record {
        size = r.size ∙ sym (ap length (bytes d hand));
        end = r.end ∙ sym (ap (λ b. all_words (slots (words_of b))) (bytes d hand));
        sector = λ differs. places d (suc (dir.slots.place / 256)) ∙ r.sector differs;
      }),
)

-- a call that looks
pub cuts_look : {told : Bool} {most : ℕ} {a b c : Taped} {last : Option Row} {dir : Directory} → CutsTo told a b last dir → Looks told most b c → CutsTo told a c last dir
cuts_look {told} {most} {a} {b} {c} {last} {dir} x l = record {
  stays = λ k. subst (λ p. Stays (pack a) p last) (sym (looks_pack l k)) (x.stays k);
  read = x.read;
  going = λ k cleared. going_looks (x.going k cleared) l k;
  cuts = λ k cleared. subst (λ p. Cuts (pack a) p last (file_in_hand dir.walk)) (sym (looks_pack l k)) (x.cuts k cleared);
}

pub cuts_start : {told : Bool} {most : ℕ} {a b : Taped} (dir : Directory) → Looks told most a b → (IsTrue told → AreFormed (pack a)) → file_in_hand dir.walk ≡ None → ((p : Pack) (last : Option Row) → AreFormed p → MayBegin p last → IsReadTo p last dir) → CutsTo told a b None dir
cuts_start {told} {most} {a} {b} dir l formed none start = cuts_look here l
  where
    here : CutsTo told a a None dir
    here = record {
      stays = λ k. stays_here (pack a) None;
      read = λ k. start (pack a) None (formed k) (λ r e. cc);
      going = λ k cleared. going_here a;
      cuts = λ k cleared. subst (Cuts (pack a) (pack a) None) (sym none) (cuts_begin (pack a) cleared);
    }

module _ {told : Bool} {a b : Taped} {last : Option Row} {dir : Directory} (x : CutsTo told a b last dir) (left : IsTrue told → IsLeft (pack a) last dir.walk) where
  -- the directory in hand may be cut
  pub now_cut : IsTrue told → Cleared (pack a) → Cleared (pack b) × MayBeCut (pack b) dir
  now_cut k cleared =
      let c = x.cuts k cleared in
      (c.cleared, may_be_cut (pack a) (pack b) dir (may_cut (pack a) last dir (x.read k) (left k)) (λ d hand. c.pending d (inl hand)) c.places_are c.lives_are)

  -- and once it is
  pub cuts_left : {c : Taped} {result : Result (Unit {0}) Stop} (new : Directory) → Grown b c → (IsTrue told → Cleared (pack b) → MayBeCut (pack b) dir → Does (DirectoryEnds dir) b c result) → (IsTrue told → RelabelsHand dir.walk (pack b) (pack c)) → result ≡ Ok tt
      → ((p : Pack) (last : Option Row) → AreFormed p → MayBegin p last → IsReadTo p last new) → file_in_hand new.walk ≡ None → (IsTrue told → MayBegin (pack a) last) → CutsTo told a c last new
  cuts_left {c} {result} new grown does wrote is start none begins = record {
    stays = λ k. stays_relabels (pack c) (x.stays k) (left k) (wrote k);
    read = λ k. start (pack a) last (x.read k).walked.formed (begins k);
    going = λ k cleared. going_does (x.going k cleared) grown (done k cleared);
    cuts = λ k cleared.
        subst (Cuts (pack a) (pack c) last) (sym none) (cuts_leave (pack c) (x.cuts k cleared) (left k) (done k cleared).leaves);
  }
    where
      done : IsTrue told → Cleared (pack a) → Does (DirectoryEnds dir) b c (Ok tt)
      done k cleared = (let m = now_cut k cleared in subst (Does (DirectoryEnds dir) b c) is (does k m.0 m.1))

  -- it isn't
  pub cuts_stopped : {T : Type 0} {Leaves : Pack → Pack → T → Type 0} {c : Taped} (e : Stop) (result : Result T Stop) → Grown b c → (IsTrue told → Cleared (pack b) → MayBeCut (pack b) dir → Does {T = Unit {0}} (DirectoryEnds dir) b c (Err e)) → IsErrAnd result (λ s. s ≡ e) → IsTrue told → Cleared (pack a) → Does Leaves a c result
  cuts_stopped e result grown does is k cleared = let m = now_cut k cleared in does_stop_part e result (x.going k cleared) grown (does k m.0 m.1) is

  -- it is the last one
  pub cuts_done : {c : Taped} (result : Result (Unit {0}) Stop) → Grown b c → (IsTrue told → Cleared (pack b) → MayBeCut (pack b) dir → Does (DirectoryEnds dir) b c result) → (IsTrue told → IsNextRow (pack a) last None) → IsTrue told → Cleared (pack a) → Does DirectoriesEnd a c result
  cuts_done {c} result grown does none k cleared = let m = now_cut k cleared in does_last result (x.going k cleared) grown (does k m.0 m.1) (by result)
    where
      by : (r : Result (Unit {0}) Stop) → IfOk r (DirectoryEnds dir (pack b) (pack c)) → IfOk r (DirectoriesEnd (pack a) (pack c))
      by (Ok v) ends = cuts_end (cuts_leave (pack c) (x.cuts k cleared) (left k) ends) (none k)
      by (Err e) ends = tt

-- the next row is of another file, or there is none
pub left_at : {told : Bool} {a b : Taped} {last : Option Row} {dir : Directory} {row : Row} → CutsTo told a b last dir → (IsTrue told → IsFirstAbove (pack b) last row) → AreWords row → IsOtherFile dir.walk row → IsTrue told → IsLeft (pack a) last dir.walk
left_at {a = a} {last = last} {dir = dir} {row = row} x first words other k = leaves_its_file (pack a) last dir.walk row (x.read k).walked words (first_above_stays (x.stays k).rows (first k)) other

pub left_last : {told : Bool} {a b : Taped} {last : Option Row} {dir : Directory} → CutsTo told a b last dir → (IsTrue told → IsNextRow (pack b) last None) → IsTrue told → IsNextRow (pack a) last None × IsLeft (pack a) last dir.walk
left_last {a = a} {last = last} {dir = dir} x none k = let n = next_row_stays None (x.stays k).rows (none k) in (n, leaves_the_last_file (pack a) last dir.walk n)

-- a walk may begin after the last row of a file
pub may_begin : {p : Pack} {last : Option Row} {walk : FileWalk} → Walked p last walk → IsLeft p last walk → file_in_hand walk ≢ None → MayBegin p last
may_begin {p} {last} {walk} w left some r e = (w.words r e, by walk.last refl)
  where
    by : (o : Option Row) → walk.last ≡ o → NoneAbove p last r.page.fid
    by None h = absurd (some (ap (option_map (λ x. x.page.fid)) h))
    by (Some x) h =
        let i = w.hand x h in
        let both : Some r.page ≡ Some x.page = sym (ap (option_map (λ y. y.page)) e) ∙ i.page in
        let one : r.page ≡ x.page = cc in
        subst (λ (g : Page). NoneAbove p last g.fid) (sym one) (left x.page.fid (ap (option_map (λ y. y.page.fid)) h))

-- the next row is met
pub cuts_row : {told : Bool} {most : ℕ} {a b c : Taped} {last : Option Row} {dir new : Directory} {row : Row} → CutsTo told a b last dir → Looks told most b c → (IsTrue told → IsFirstAbove (pack a) last row) → (IsOtherFile dir.walk row → ⊥) → file_in_hand new.walk ≡ Some row.page.fid → (IsTrue told → IsReadTo (pack a) (Some row) new) → CutsTo told a c (Some row) new
cuts_row {told} {most} {a} {b} {c} {last} {dir} {new} {row} x l first same hand read = cuts_look here l
  where
    here : CutsTo told a b (Some row) new
    here = record {
      stays = λ k. stays_moves row (x.stays k) (first k).above;
      read = read;
      going = x.going;
      cuts = λ k cleared. subst (Cuts (pack a) (pack b) (Some row)) (sym hand) (cuts_meet (x.cuts k cleared) (first k) same);
    }

-- the next row may be met
pub record Ready (told : Bool) (a b : Taped) (table : Window) (pass : RowPass) (last : Option Row) (dir : Directory) (row : Row) : Type 0 where
  pub alone : DiskAlone a b
  pub stands : Stands told (pack b) table pass
  pub cuts : CutsTo told a b last dir
  pub same : IsOtherFile dir.walk row → ⊥

-- the next row comes after what was passed
pub passed_on : (last now : Option Row) (row : Row) → is_above last row ≡ true → now ≡ Some row → (o : Option Row) → IsPassed last o → IsPassed now o
passed_on last now row above is o passed = subst (λ x. IsPassed x o) (sym is) (passed_more last row o above passed)
