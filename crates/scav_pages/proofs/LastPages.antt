-- A pass along all rows that claims the last page of each file when it is left, and notes where DiskDescriptor's pages are.
use Rattle.std.proofs.Common.{◌≡◌, ◌≢◌, ◌⊎◌, inl, inr, ℕ, suc, ◌/◌, ◌<◌, ◌==◌, ◌&&◌, nat_le, Bool, true, false, cond, IsTrue, List, get_or, length, Option, Some, None, refl, sym, ap, subst, ◌∙◌, arith}
use Rattle.std.specs.Option.{is_some, option_map_or}
use Rattle.std.proofs.lemmas.Bool.{and_parts}
use Rattle.std.proofs.lemmas.Bool.Decides.{nat_tests}
use Rattle.alto_words.specs.declared.fid.Fid.{Fid}
use Rattle.alto_words.specs.Fid.{is_fid, disk_descriptor}
use Rattle.disk_records.specs.declared.records.Page.{Page}
use Rattle.disk_records.specs.Packs.{Pack, carried, is_free_at, sector_at}
use Rattle.disk_records.specs.Words.{word}
use Rattle.pack_model.specs.reading.Files.{file_bytes, lives, place}
use Rattle.pack_model.specs.reading.Sights.{sights}
use Rattle.pack_model.specs.scavenger.Scavenging.{Scavengeable}
use Rattle.pack_model.specs.states.InUse.{counts}
use Rattle.pack_model.specs.states.Sentences.{EachOnce, HasLastPage}
use Rattle.laws_mend.specs.pack_laws.proofs.Keys.{is_fid-itself, same_fid}
use Rattle.laws_mend.specs.laws_record.proofs.Copying.{place_carried}
use Rattle.laws_mend.specs.laws_contents.proofs.pages.Laws.{carried_once_is_in_place}
use Rattle.laws_mend.specs.Parts.{Rooted, RootedBut}
use Rattle.laws_mend.proofs.counting.Laws.{counts_by_its_end, used_by_its_page}
use Rattle.scav_table.specs.declared.pass.Pass.{Pass as RowPass}
use Rattle.scav_table.specs.declared.row.Row.{Row}
use Rattle.scav_table.specs.Laws.{IsFirstAbove, IsNextRow, WritesAt}
use Rattle.scav_table.specs.Passes.{IsPassed, Stands}
use Rattle.scav_table.specs.Rows.{is_above, is_below, rank, row_at}
use Rattle.scav_table.specs.Windows.{Window}
use Rattle.scav_pages.specs.declared.files.FileWalk.{FileWalk}
use Rattle.scav_pages.specs.Begins.{MayBegin}
use Rattle.scav_pages.specs.Ends.{MayClaimLast, MayDescribe, noted_at}
use Rattle.scav_pages.specs.Free.{NoneFreeBelow}
use Rattle.scav_pages.specs.Parts.{ClaimsFor, ClaimsHand, LastClaimed}
use Rattle.scav_pages.specs.Walks.{AreWords, IsOtherFile, NoneAbove, Walked, file_in_hand}
use Rattle.scav_pages.proofs.Passing.{SameAhead, ahead_moves, ahead_stays, carried_row, contrary, further, passed_here, passed_none, row_carried, stands_over, stands_same}
use Rattle.scav_pages.proofs.Ranking.{above_last, between_fids, is_lower, living_row, met_or_next, row_of_place, words_of}
use Rattle.scav_pages.proofs.Walking.{hand_of, hand_or, leaves_its_file, left_file_is_known}

-- ---- rows and files
-- no row of a file is above the next one, if none was above the last
none_more : (p : Pack) (last : Option Row) (row : Row) (f : Fid) → is_above last row ≡ true → NoneAbove p last f → NoneAbove p (Some row) f
none_more p last row f above none = λ at r is later. none at r is (further last row r above later)

-- another row that is at or below the next one is at or below the last one
not_next : (p : Pack) (last : Option Row) (row : Row) (at : ℕ) (r : Row) → IsFirstAbove p last row → row_at p at ≡ Some r → (r ≡ row → ⊥) → is_below row r ≡ false → is_above last r ≡ false
not_next p last row at r first is other low = elim (met_or_next p last row first at r is low) [ inl old ↦ old | inr next ↦ absurd (other next.1) ]

-- no row of another file than the next row's is above the last one, if none is above the next one
none_before : (p : Pack) (last : Option Row) (row : Row) (f : Fid) → IsFirstAbove p last row → (row.page.fid ≡ f → ⊥) → NoneAbove p (Some row) f → NoneAbove p last f
none_before p last row f first other none = λ at r is above same. by at r is above same (is_below row r) refl
  where
    by : (at : ℕ) (r : Row) → row_at p at ≡ Some r → is_above last r ≡ true → f ≡ r.page.fid → (t : Bool) → is_below row r ≡ t → ⊥
    by at r is above same true e = none at r is e same
    by at r is above same false e = contrary above (not_next p last row at r first is (λ r_is. other (sym (same ∙ ap (λ x. x.page.fid) r_is))) e)

-- ---- the walk so far
-- rows of p up to `last` were met, and q is alike above it
pub record Follows (p q : Pack) (last : Option Row) (walk : FileWalk) : Type 0 where
  pub walked : Walked p last walk
  pub ahead : SameAhead p q last

pub may_begin : (p : Pack) (last : Option Row) → last ≡ None → MayBegin p last
may_begin p last e = λ r is. absurd (let no : None ≡ Some r = sym e ∙ is in cc)

-- a claim is passed
module _ (p q r : Pack) (last : Option Row) (walk : FileWalk) (row : Row) (s : Follows p q last walk) (w : AreWords row) (above : is_above last row ≡ true) (other : IsOtherFile walk row) where
  claim_passed : (at : ℕ) → ClaimsFor walk at q r → IsPassed (Some row) (row_at r at)
  claim_passed at c = subst (IsPassed (Some row)) (sym is) (by (is_below row here) refl)
    where
      here : Row
      here = record { page = c.page; at = at; bytes = word (sector_at r at).label 3 }

      is : row_at r at ≡ Some here
      is = row_carried r at c.page c.carries

      by : (t : Bool) → is_below row here ≡ t → t ≡ false
      by false e = refl
      by true e =
          let h = hand_of c.page.fid s.walked c.hand in
          let fid : h.b.page.fid ≡ c.page.fid = ap (λ x. x.fid) h.page ∙ h.fid in
          let v : AreWords here = words_of r at here h.b is h.words (sym fid) in
          let low : rank h.b < rank row = above_last last h.b row h.last_is above in
          let high : rank row < rank here = is_lower row here e in
          let between : row.page.fid ≡ c.page.fid = between_fids h.b row here w v h.words.at h.words.number fid (omega (arith, low)) (omega (arith, high)) in
          absurd (other.1 (c.hand ∙ ap (λ x. Some x) (sym between)))

  pub ahead_claimed : ClaimsHand walk q r → SameAhead p r (Some row)
  ahead_claimed (inl same) = subst (λ x. SameAhead p x (Some row)) (sym same) (ahead_moves row s.ahead above)
  ahead_claimed (inr c) = ahead_stays row r c.0 s.ahead above c.1.written (passed_none q c.0 (Some row) c.1.nothing) (claim_passed c.0 c.1)

  pub writes_passed : ClaimsHand walk q r → (r ≡ q) ⊎ ((at : ℕ) × (WritesAt at q r) × (IsPassed (Some row) (row_at q at)) × (IsPassed (Some row) (row_at r at)))
  writes_passed (inl same) = inl same
  writes_passed (inr c) = inr (c.0, c.1.written, passed_none q c.0 (Some row) c.1.nothing, claim_passed c.0 c.1)

-- so the pass goes on
pub stands_written : (told : Bool) (q r : Pack) (table : Window) (pass : RowPass) → Stands told q table pass → (IsTrue told → (r ≡ q) ⊎ ((at : ℕ) × (WritesAt at q r) × (IsPassed pass.last (row_at q at)) × (IsPassed pass.last (row_at r at)))) → Stands told r table pass
stands_written false q r table pass s h = stands_over r 0 s (λ k. absurd (let no : false ≡ true = k in cc))
stands_written true q r table pass s h = elim (h refl) [ inl same ↦ stands_same r s (λ k. same) | inr w ↦ stands_over r w.0 s (λ k. (w.1, w.2, w.3)) ]

-- ---- DiskDescriptor's pages
-- the sector of its page with this number, if its row was met
pub record IsNoted (p : Pack) (last : Option Row) (n value : ℕ) : Type 0 where
  pub none : place (sights p) disk_descriptor n ≡ None → value ≡ 0
  pub passed : (at : ℕ) → place (sights p) disk_descriptor n ≡ Some at → IsPassed last (row_at p at) → value ≡ at
  pub ahead : (at : ℕ) (r : Row) → place (sights p) disk_descriptor n ≡ Some at → row_at p at ≡ Some r → is_above last r ≡ true → value ≡ 0

-- ---- what was claimed so far
-- Each file that was left has its last page; the pages of the others, and all of DiskDescriptor's, have their places.
pub record EndsSoFar (p q : Pack) (last : Option Row) (walk : FileWalk) (places : List ℕ) (from : ℕ) : Type 0 where
  pub rooted : Rooted q
  pub lives_are : (f : Fid) → lives (sights q) f ≡ lives (sights p) f
  pub bytes_are : (f : Fid) → file_bytes (sights q) f ≡ file_bytes (sights p) f
  pub gone : (f : Fid) → NoneAbove p last f → file_in_hand walk ≢ Some f → lives (sights p) f ≡ true → is_fid f disk_descriptor ≡ false → HasLastPage (sights q) f
  pub same : (f : Fid) (n : ℕ) → (NoneAbove p last f → file_in_hand walk ≢ Some f → ⊥) → place (sights q) f n ≡ place (sights p) f n
  pub own : (n : ℕ) → place (sights q) disk_descriptor n ≡ place (sights p) disk_descriptor n
  pub noted : (n : ℕ) → n < 6 → IsNoted p last n (get_or places n 0)
  pub none_below : NoneFreeBelow q from

pub ends_here : (p : Pack) (last : Option Row) (walk : FileWalk) (places : List ℕ) → last ≡ None → ((n : ℕ) → n < 6 → get_or places n 0 ≡ 0) → Rooted p → EndsSoFar p p last walk places 1
ends_here p last walk places e zeros rooted = record {
  rooted = rooted;
  lives_are = λ f. refl;
  bytes_are = λ f. refl;
  gone = λ f none other alive apart. (let r = living_row p f alive in absurd (none r.0 r.1.row r.1.is (subst (λ l. is_above l r.1.row ≡ true) (sym e) refl) (sym (ap (λ (x : Page). x.fid) r.1.page_is))));
  same = λ f n other. refl;
  own = λ n. refl;
  noted = λ n few. record {
    none = λ none. zeros n few;
    passed = λ at here passed. absurd (let r = row_of_place p (record { fid = disk_descriptor; number = n }) at here in let no : true ≡ false = subst (λ o. IsPassed None o) r.is (subst (λ l. IsPassed l (row_at p at)) e passed) in cc);
    ahead = λ at r here is above. zeros n few;
  };
  none_below = λ k low. (let zero_is : k ≡ 0 = omega (arith, low) in subst (λ i. is_free_at p i ≡ false) (sym zero_is) refl);
}

-- the last page of a file, after record writes that leave its bytes and its places
kept_last_page : (q r : Pack) (f : Fid) → file_bytes (sights r) f ≡ file_bytes (sights q) f → ((n : ℕ) → place (sights r) f n ≡ place (sights q) f n) → HasLastPage (sights q) f → HasLastPage (sights r) f
kept_last_page q r f bytes same has =
    ap (λ b. is_some (place (sights r) f (suc (length b / 512)))) bytes ∙ ap is_some (same (suc (length (file_bytes (sights q) f) / 512))) ∙ has

-- ---- the file that is left
-- the file in hand lives, since each page is in use
hand_lives : (p : Pack) (last : Option Row) (walk : FileWalk) (f : Fid) → Rooted p → Walked p last walk → file_in_hand walk ≡ Some f → is_fid f disk_descriptor ≡ false → lives (sights p) f ≡ true
hand_lives p last walk f rooted w h apart =
    let x = hand_of f w h in
    let n : ℕ = x.row.page.number in
    let carries : carried p x.row.at ≡ Some x.row.page = place_carried p x.row.page x.row.at x.hand.seated in
    let count : counts p.shape (sights p) x.row.page.fid n ≡ true = (used_by_its_page p x.row.at rooted.used.ended.cleared).0 (rooted.used.used x.row.at) x.row.page carries in
    let here : counts p.shape (sights p) f n ≡ true = ap (λ g. counts p.shape (sights p) g n) (sym x.fid) ∙ count in
    (and_parts (lives (sights p) f) (nat_le n (suc (length (file_bytes (sights p) f) / 512))) (sym (counts_by_its_end p f n rooted.used.ended apart) ∙ here)).0

pub may_claim_last : (p q : Pack) (last : Option Row) (walk : FileWalk) (places : List ℕ) (from : ℕ) → Rooted p → Scavengeable q → Walked p last walk → EndsSoFar p q last walk places from → ((f : Fid) → file_in_hand walk ≡ Some f → NoneAbove p last f) → MayClaimLast q walk from
may_claim_last p q last walk places from rooted can w s left = record {
  scavengeable = can;
  rooted = s.rooted;
  none_below = s.none_below;
  hand = λ f h apart.
      let known = left_file_is_known p last walk f w h (left f h) in
      let same = λ (n : ℕ). s.same f n (λ none other. other h) in
      record {
        living = s.lives_are f ∙ hand_lives p last walk f rooted w h apart;
        missing = λ on. (let m = known.missing on in (ap length (s.bytes_are f) ∙ sym known.size ∙ m.0, same (suc walk.pages) ∙ m.1));
        there = λ off. kept_last_page p q f (s.bytes_are f) same (known.there off);
      };
}

-- ---- the next row
module _ (p q r : Pack) (last : Option Row) (walk later : FileWalk) (row : Row) (places now : List ℕ) (from next : ℕ) (once : EachOnce (sights p)) (w : AreWords row) (first : IsFirstAbove p last row) (walked : Walked p last walk) (s : EndsSoFar p q last walk places from)
    (hand : file_in_hand later ≡ Some row.page.fid) (noted : (n : ℕ) → n < 6 → get_or now n 0 ≡ noted_at places row n) (rooted : Rooted r) (lives_are : (f : Fid) → lives (sights r) f ≡ lives (sights q) f) (bytes_are : (f : Fid) → file_bytes (sights r) f ≡ file_bytes (sights q) f)
    (others : (f : Fid) (n : ℕ) → (file_in_hand walk ≡ Some f → is_fid f disk_descriptor ≡ true) → place (sights r) f n ≡ place (sights q) f n)
    (left : (f : Fid) → file_in_hand walk ≡ Some f → (row.page.fid ≡ f → ⊥) → is_fid f disk_descriptor ≡ false → HasLastPage (sights r) f)
    (stays : file_in_hand walk ≡ Some row.page.fid → (n : ℕ) → place (sights r) row.page.fid n ≡ place (sights q) row.page.fid n) (none_below : NoneFreeBelow r next) where
  gone_before : (f : Fid) → NoneAbove p (Some row) f → (row.page.fid ≡ f → ⊥) → lives (sights p) f ≡ true → is_fid f disk_descriptor ≡ false → file_in_hand walk ≢ Some f → HasLastPage (sights r) f
  gone_before f none other alive apart not = kept_last_page q r f (bytes_are f) (λ n. others f n (λ h. absurd (not h))) (s.gone f (none_before p last row f first other none) not alive apart)

  -- a file of which rows come, or that is in hand
  same_before : (f : Fid) (n : ℕ) → (NoneAbove p (Some row) f → file_in_hand later ≢ Some f → ⊥) → place (sights q) f n ≡ place (sights p) f n
  same_before f n other = s.same f n (λ none not. other (none_more p last row f first.above none) (λ h. (let both : Some row.page.fid ≡ Some f = sym hand ∙ h in let fid : row.page.fid ≡ f = cc in none row.at row first.here first.above (sym fid))))

  same_hand : (f : Fid) (n : ℕ) → (NoneAbove p (Some row) f → file_in_hand later ≢ Some f → ⊥) → file_in_hand walk ≡ Some f → place (sights r) f n ≡ place (sights q) f n
  same_hand f n other is = elim (hand_or (Some row.page.fid) f) [
    | inl here ↦ (let same : row.page.fid ≡ f = cc in subst (λ g. place (sights r) g n ≡ place (sights q) g n) same (stays (is ∙ sym here) n))
    | inr apart ↦
        let is_other : IsOtherFile walk row = ((λ none. (let no : None ≡ Some f = sym none ∙ is in cc)), (λ here. apart (sym here ∙ is))) in
        let none = leaves_its_file p last walk row walked w first is_other f is in
        absurd (other (none_more p last row f first.above none) (λ here. apart (sym hand ∙ here)))
  ]

  same_now : (f : Fid) (n : ℕ) → (NoneAbove p (Some row) f → file_in_hand later ≢ Some f → ⊥) → place (sights r) f n ≡ place (sights q) f n
  same_now f n other = elim (hand_or (file_in_hand walk) f) [ inl is ↦ same_hand f n other is | inr not ↦ others f n (λ is. absurd (not is)) ]

  -- what is noted
  its_row : (n at : ℕ) (x : Row) → place (sights p) disk_descriptor n ≡ Some at → row_at p at ≡ Some x → (is_fid row.page.fid disk_descriptor && (row.page.number == n)) ≡ false → x ≡ row → ⊥
  its_row n at x here is test same =
      let found = row_of_place p (record { fid = disk_descriptor; number = n }) at here in
      let same_found : found.row ≡ x = (let both : Some found.row ≡ Some x = sym found.is ∙ is in cc) in
      let page : row.page ≡ record { fid = disk_descriptor; number = n } = ap (λ y. y.page) (sym (same_found ∙ same)) ∙ found.page_is in
      let no : (is_fid disk_descriptor disk_descriptor && (n == n)) ≡ false = subst (λ (y : Page). (is_fid y.fid disk_descriptor && (y.number == n)) ≡ false) page test in
      let eq : (n == n) ≡ true = grind (arith, nat_tests) in
      let yes : (is_fid disk_descriptor disk_descriptor && (n == n)) ≡ true = (λ i. is_fid-itself disk_descriptor i && eq i) in
      contrary yes no

  noted_now : (n : ℕ) → n < 6 → (t : Bool) → (is_fid row.page.fid disk_descriptor && (row.page.number == n)) ≡ t → IsNoted p (Some row) n (cond t row.at (get_or places n 0))
  noted_now n few false test =
      let before = s.noted n few in
      record {
        none = before.none;
        passed = λ at here passed.
            let found = row_of_place p (record { fid = disk_descriptor; number = n }) at here in
            let low : is_below row found.row ≡ false = subst (IsPassed (Some row)) found.is passed in
            before.passed at here (subst (IsPassed last) (sym found.is) (not_next p last row at found.row first found.is (its_row n at found.row here found.is test) low));
        ahead = λ at x here is above. before.ahead at x here is (further last row x first.above above);
      }
  noted_now n few true test =
      let both = and_parts (is_fid row.page.fid disk_descriptor) (row.page.number == n) test in
      let number : row.page.number ≡ n = grind (arith, nat_tests, both.1) in
      let seat : place (sights p) row.page.fid row.page.number ≡ Some row.at = carried_once_is_in_place p row.page row.at once (carried_row p row.at row first.here) in
      let place_is : place (sights p) disk_descriptor n ≡ Some row.at = sym (λ i. place (sights p) (same_fid row.page.fid disk_descriptor both.0 i) (number i)) ∙ seat in
      record {
        none = λ none. absurd (let no : None ≡ Some row.at = sym none ∙ place_is in cc);
        passed = λ at here passed. (let ats : Some row.at ≡ Some at = sym place_is ∙ here in cc);
        ahead = λ at x here is above. absurd (let ats : Some at ≡ Some row.at = sym here ∙ place_is in let at_is : at ≡ row.at = cc in let rows : Some x ≡ Some row = sym is ∙ ap (row_at p) at_is ∙ first.here in let same : x ≡ row = cc in contrary (subst (λ y. is_below row y ≡ true) same above) (passed_here row));
      }

  pub ends_next : EndsSoFar p r (Some row) later now next
  ends_next = record {
    rooted = rooted;
    lives_are = λ f. lives_are f ∙ s.lives_are f;
    bytes_are = λ f. bytes_are f ∙ s.bytes_are f;
    gone = λ f none other alive apart.
        let apart_from : row.page.fid ≡ f → ⊥ = λ same. other (hand ∙ ap (λ x. Some x) same) in
        elim (hand_or (file_in_hand walk) f) [ inl is ↦ left f is apart_from apart | inr not ↦ gone_before f none apart_from alive apart not ];
    same = λ f n other. same_now f n other ∙ same_before f n other;
    own = λ n. others disk_descriptor n (λ h. is_fid-itself disk_descriptor) ∙ s.own n;
    noted = λ n few. subst (IsNoted p (Some row) n) (sym (noted n few)) (noted_now n few (is_fid row.page.fid disk_descriptor && (row.page.number == n)) refl);
    none_below = none_below;
  }

-- ---- after the last row
pub rooted_but : (p : Pack) → Rooted p → RootedBut p
rooted_but p r = record { ended = r.used.ended; used = λ i. inl (r.used.used i); root = r.root }

pub may_describe : (p q r : Pack) (last : Option Row) (walk : FileWalk) (places : List ℕ) (from next : ℕ) → IsNextRow p last None → Scavengeable r → EndsSoFar p q last walk places from → LastClaimed walk next q r tt → MayDescribe r places next
may_describe p q r last walk places from next none can s c = record {
  scavengeable = can;
  rooted = rooted_but r c.rooted;
  places_are = λ n few. noted_now n few (place (sights p) disk_descriptor n) refl;
  described = λ n low. absurd (omega (arith, low));
  last_pages = λ f alive apart. elim (hand_or (file_in_hand walk) f) [ inl is ↦ c.last_page f is apart | inr not ↦ gone_now f alive apart not ];
  none_below = c.none_below;
}
  where
    own_now : (n : ℕ) → place (sights r) disk_descriptor n ≡ place (sights p) disk_descriptor n
    own_now n = c.others disk_descriptor n (λ h. is_fid-itself disk_descriptor) ∙ s.own n

    noted_now : (n : ℕ) → n < 6 → (o : Option ℕ) → place (sights p) disk_descriptor n ≡ o → get_or places n 0 ≡ option_map_or (λ i. i) (place (sights r) disk_descriptor n) 0
    noted_now n few None e = (s.noted n few).none e ∙ ap (λ o. option_map_or (λ i. i) o 0) (sym (own_now n ∙ e))
    noted_now n few (Some at) e = (s.noted n few).passed at e (none at) ∙ ap (λ o. option_map_or (λ i. i) o 0) (sym (own_now n ∙ e))

    above_none : (f : Fid) → NoneAbove p last f
    above_none f = λ at x is above same. contrary above (subst (IsPassed last) is (none at))

    gone_now : (f : Fid) → lives (sights r) f ≡ true → is_fid f disk_descriptor ≡ false → file_in_hand walk ≢ Some f → HasLastPage (sights r) f
    gone_now f alive apart other =
        kept_last_page q r f (c.bytes_are f) (λ n. c.others f n (λ h. absurd (other h))) (s.gone f (above_none f) other (sym (s.lives_are f) ∙ sym (c.lives_are f) ∙ alive) apart)
