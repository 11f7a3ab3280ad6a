-- A pass that writes words of directories: those in the pages up to the row in hand are written.
use Rattle.std.proofs.Common.{◌≡◌, ◌≢◌, ℕ, suc, ◌+◌, ◌*◌, ◌/◌, ◌<◌, ◌≤◌, ◌==◌, nat_le, Bool, true, false, cond, IsTrue, List, ◌∷◌, ◌++◌, length, drop, get_or, drop-cons, append_assoc, Option, Some, None, Result, Ok, refl, sym, ap, subst, ◌∙◌, eqb-true, leb-true, leb-false, arith}
use Rattle.std.specs.Prelude.{IsErrAnd}
use Rattle.std.proofs.lemmas.Bool.Decides.{nat_tests}
use Rattle.std.proofs.lemmas.List.{append-nil, drop_all}
use borrow.Author.Tests.{eqb-false}
use Rattle.disk_records.specs.declared.records.Page.{Page}
use Rattle.disk_records.specs.Events.{IsFirstOf}
use Rattle.disk_records.specs.Labels.{page_of}
use Rattle.disk_records.specs.Packs.{Pack, carried, is_usable, sector_at}
use Rattle.disk_records.specs.Tapes.{Grown, Looks, Taped, added, pack}
use Rattle.disk_records.specs.Words.{word}
use Rattle.disk_records.proofs.FirstOnes.{first_then}
use Rattle.disk_records.proofs.Growing.{added-twice, grown_twice}
use Rattle.disk_records.proofs.Looking.{looks_pack}
use Rattle.scav_pages.specs.laws_contents.proofs.pages.Laws.{carried_once_is_in_place, once_is_by_labels, page_numbers_are_words}
use Rattle.scav_pages.specs.laws_contents.proofs.words.Laws.{each_word_has_its_page}
use Rattle.scav_pages.specs.pack_laws.proofs.files.Laws.{places_are_lowest}
use Rattle.pack_model.specs.reading.Sights.{sights}
use Rattle.pack_model.specs.states.Sentences.{EachOnce}
use Rattle.scav_pages.specs.declared.errors.Stop.{Stop}
use Rattle.scav_pages.specs.declared.errors.Stop.TheVariants.{Astray}
use Rattle.scav_pages.specs.Links.{WritesPage}
use Rattle.scav_pages.specs.Walks.{AreWords, IsSeated}
use Rattle.scav_pages.proofs.Doing.{error_is}
use Rattle.scav_pages.proofs.Passing.{carried_row, contrary, passed_page, row_carried, row_stays, stands_over}
use Rattle.scav_pages.proofs.Ranking.{isnt_lower, page_rank, rank_is, row_ranged, same_pages, same_sector}
use Rattle.scav_table.specs.Laws.{IsFirstAbove, IsNextRow}
use Rattle.scav_table.specs.Passes.{IsPassed, Stands}
use Rattle.scav_table.specs.Rows.{is_above, is_below, row_at}
use Rattle.scav_table.specs.Windows.{Window}
use Rattle.scav_table.specs.declared.pass.Pass.{Pass as RowPass}
use Rattle.scav_table.specs.declared.row.Row.{Row}
use Rattle.scav_names.specs.declared.words.DirWord.{DirWord}
use Rattle.scav_names.specs.Words.{AreWordsOf, IsInWords, IsWordOf, WritesInPage, WritesWords, page_with, word_page, words_writes}
use Rattle.scav_names.proofs.Order.{page_rises, rises_at}

-- ---- words that are still to come
-- all rows with the page of a word are above the row in hand
abbrev pub IsAhead : Pack → Option Row → DirWord → Type 0
IsAhead p last w = (at : ℕ) (r : Row) → row_at p at ≡ Some r → r.page ≡ word_page w → is_above last r ≡ true

-- Those before the one numbered `done` are written, and those from it on are to come.
pub record WordsPassed (words : List DirWord) (a b : Taped) (last : Option Row) (done : ℕ) : Type 0 where
  pub grown : Grown a b
  pub carries : (i : ℕ) → carried (pack b) i ≡ carried (pack a) i
  pub writes : words_writes (pack a) words ≡ added a b ++ words_writes (pack b) (drop done words)
  pub ahead : (k : ℕ) (d : DirWord) → done ≤ k → k < length words → IsAhead (pack b) last (get_or words k d)

pub passed_none : {told : Bool} {most : ℕ} {a b : Taped} (words : List DirWord) → Looks told most a b → IsTrue told → WordsPassed words a b None 0
passed_none {a = a} {b = b} words looks h = record {
  grown = looks.alone.grown;
  carries = λ i. ap (λ p. carried p i) (looks_pack looks h);
  writes = ap (λ p. words_writes p words) (sym (looks_pack looks h)) ∙ ap (λ l. l ++ words_writes (pack b) words) (sym (looks.silent h));
  ahead = λ k d low within at r is page. refl;
}

-- a call that only looks changes nothing
pub passed_looks : {told : Bool} {most done : ℕ} {a b c : Taped} {words : List DirWord} {last : Option Row} → WordsPassed words a b last done → Looks told most b c → IsTrue told → WordsPassed words a c last done
passed_looks {done = done} {a = a} {b = b} {c = c} {words = words} {last = last} x looks h =
    let same = looks_pack looks h in
    let none : added a c ≡ added a b = added-twice x.grown looks.alone.grown ∙ ap (λ l. added a b ++ l) (looks.silent h) ∙ append-nil (added a b) in
    record {
      grown = grown_twice x.grown looks.alone.grown;
      carries = λ i. ap (λ p. carried p i) same ∙ x.carries i;
      writes = x.writes ∙ (λ i. sym none i ++ words_writes (sym same i) (drop done words));
      ahead = λ k d low within. subst (λ p. IsAhead p last (get_or words k d)) (sym same) (x.ahead k d low within);
    }

-- ---- a word on the pack
pub number_is : (d : DirWord) (page : Page) → word_page d ≡ page → d.place / 256 + 1 < 65536 → page_with d.dir d.place ≡ Some page
number_is d page same few = by (nat_le (d.place / 256 + 1) 65535) refl
  where
    by : (t : Bool) → nat_le (d.place / 256 + 1) 65535 ≡ t → cond t (Some (word_page d)) None ≡ Some page
    by true e = ap (λ x. Some x) same
    by false e = absurd (let high = leb-false (d.place / 256 + 1) 65535 e in omega (arith, high, few))

pub record HasPage (p : Pack) (w : DirWord) : Type 0 where
  pub at : ℕ
  pub carries : carried p at ≡ Some (word_page w)
  pub few : w.place / 256 + 1 < 65536

pub word_has_page : (p : Pack) (w : DirWord) → IsWordOf p w → HasPage p w
word_has_page p w is =
    let has = each_word_has_its_page p w.dir w.place is.within in
    record {
      at = has.at;
      carries = ((places_are_lowest p (word_page w)).lowest has.at has.stands.sector).here;
      few = page_numbers_are_words p w.dir (w.place / 256 + 1) has.at has.stands.sector;
    }

-- ---- the next row
module _ {words : List DirWord} {a b : Taped} {last : Option Row} {done : ℕ} (are : AreWordsOf (pack a) words) (so_far : WordsPassed words a b last done) where
  has_page : (k : ℕ) (d : DirWord) → k < length words → HasPage (pack b) (get_or words k d)
  has_page k d within = (let has = word_has_page (pack a) (get_or words k d) (are.each k d within) in record { at = has.at; carries = so_far.carries has.at ∙ has.carries; few = has.few })

  once_still : EachOnce (sights (pack b))
  once_still = (once_is_by_labels (pack b)).1 (λ i j page hi hj. (once_is_by_labels (pack a)).0 are.once i j page (sym (so_far.carries i) ∙ hi) (sym (so_far.carries j) ∙ hj))

  -- no row comes, so no word does
  none_left : IsNextRow (pack b) last None → length words ≤ done
  none_left none = by (nat_le (length words) done) refl
    where
      by : (t : Bool) → nat_le (length words) done ≡ t → length words ≤ done
      by true e = leb-true (length words) done e
      by false e =
          let within : done < length words = leb-false (length words) done e in
          let d : DirWord = record { dir = record { high = 0; low = 0; version = 0 }; place = 0; word = 0 } in
          let has = has_page done d within in
          let r : Row = record { page = word_page (get_or words done d); at = has.at; bytes = word (sector_at (pack b) has.at).label 3 } in
          let is : row_at (pack b) has.at ≡ Some r = row_carried (pack b) has.at (word_page (get_or words done d)) has.carries in
          contrary (so_far.ahead done d (omega arith) within has.at r is refl) (subst (IsPassed last) is (none has.at))

  pub words_end : IsNextRow (pack b) last None → added a b ≡ words_writes (pack a) words
  words_end none = sym (so_far.writes ∙ ap (λ l. added a b ++ words_writes (pack b) l) (drop_all done words (none_left none)) ∙ append-nil (added a b))

  module _ (row : Row) (row_words : AreWords row) (first : IsFirstAbove (pack b) last row) where
    pub row_is_seated : IsSeated (pack b) row
    row_is_seated = carried_once_is_in_place (pack b) row.page row.at once_still (carried_row (pack b) row.at row first.here)

    module _ {q : Pack} {more : ℕ} (wrote : WritesPage row.at row.page (pack b) q) (low : done ≤ more) (other : (w : DirWord) (ws : List DirWord) → drop more words ≡ w ∷ ws → (page_with w.dir w.place ≢ Some row.page) × IsInWords w.dir) where
      -- the first word that is left has another page
      first_other : (d : DirWord) → more < length words → word_page (get_or words more d) ≢ row.page
      first_other d within same = (other (get_or words more d) (drop (suc more) words) (drop-cons words more d within)).0 (number_is (get_or words more d) row.page same (has_page more d within).few)

      -- and so have those after it
      not_here : (k : ℕ) (d : DirWord) → more ≤ k → k < length words → word_page (get_or words k d) ≢ row.page
      not_here k d least within same = by (k == more) refl
        where
          by : (t : Bool) → (k == more) ≡ t → ⊥
          by true e = (let is : k ≡ more = eqb-true k more e in first_other d (omega (arith, is, within)) (ap (λ n. word_page (get_or words n d)) (sym is) ∙ same))
          by false e =
              let no : k ≢ more = eqb-false k more e in
              let before : more < k = omega (arith, no, least) in
              let here : more < length words = omega (arith, before, within) in
              let has = has_page more d here in
              let w = get_or words more d in
              let r : Row = record { page = word_page w; at = has.at; bytes = word (sector_at (pack b) has.at).label 3 } in
              let is : row_at (pack b) has.at ≡ Some r = row_carried (pack b) has.at (word_page w) has.carries in
              let least = isnt_lower r row (first.least has.at r is (so_far.ahead more d low here has.at r is refl)) in
              let in_row = row_ranged (pack b) has.at r is in
              let full = (other w (drop (suc more) words) (drop-cons words more d here)).1 in
              let later : IsInWords (get_or words k d).dir = subst (λ x. IsInWords x.fid) (sym same) (record { high = row_words.high; low = row_words.low; version = row_words.version }) in
              let x : ℕ = page_rank (word_page w) in
              let y : ℕ = page_rank row.page in
              let one : x ≤ y = subst (λ n. x ≤ n) (ap page_rank same) (page_rises w (get_or words k d) full later has.few (rises_at words are.rising more k d before within)) in
              let two : y * 65536 + row.at ≤ x * 65536 + has.at = omega (arith, least, rank_is r, rank_is row) in
              let few : has.at < 65536 = in_row.at in
              let tied : x ≡ y = omega (arith, one, two, few) in
              first_other d here (same_pages r row (record { high = full.high; low = full.low; version = full.version; number = has.few; at = few }) row_words tied)

      -- they are ahead still
      ahead_still : (k : ℕ) (d : DirWord) → more ≤ k → k < length words → IsAhead q (Some row) (get_or words k d)
      ahead_still k d least within at r is page = by (at == row.at) refl
        where
          above_row : (t : Bool) → is_below row r ≡ t → at ≢ row.at → row_at (pack b) at ≡ Some r → is_below r row ≡ false → is_below row r ≡ true
          above_row true e elsewhere before l = e
          above_row false e elsewhere before l = absurd (elsewhere (same_sector (pack b) at r row before row_words.at e l))

          by : (t : Bool) → (at == row.at) ≡ t → is_below row r ≡ true
          by true e =
              let same : at ≡ row.at = eqb-true at row.at e in
              let there : Some r.page ≡ Some row.page = sym (carried_row q at r is) ∙ ap (carried q) same ∙ wrote.carries in
              let pages : r.page ≡ row.page = cc in
              absurd (not_here k d least within (sym page ∙ pages))
          by false e =
              let elsewhere : at ≢ row.at = eqb-false at row.at e in
              let before : row_at (pack b) at ≡ Some r = sym (row_stays at wrote.written elsewhere) ∙ is in
              let above = so_far.ahead k d (omega (arith, low, least)) within at r before page in
              above_row (is_below row r) refl elsewhere before (first.least at r before above)

      carries_still : (i : ℕ) → carried q i ≡ carried (pack b) i
      carries_still i = by (i == row.at) refl
        where
          by : (t : Bool) → (i == row.at) ≡ t → carried q i ≡ carried (pack b) i
          by true e = (let same : i ≡ row.at = eqb-true i row.at e in ap (carried q) same ∙ wrote.carries ∙ sym wrote.was ∙ ap (carried (pack b)) (sym same))
          by false e =
              let elsewhere : i ≢ row.at = eqb-false i row.at e in
              λ j. cond (is_usable (wrote.written.shape j) i (wrote.written.others i elsewhere j)) (page_of (wrote.written.others i elsewhere j).label) None

    -- the words in its page are written
    pub passed_next : {c : Taped} {more : ℕ} → Grown b c → done ≤ more → WritesInPage words done row b c (Ok more) → WritesPage row.at row.page (pack b) (pack c) → WordsPassed words a c (Some row) more
    passed_next {c} {more} grown low wrote page = record {
      grown = grown_twice so_far.grown grown;
      carries = λ i. carries_still page low wrote.ok.other i ∙ so_far.carries i;
      writes =
          so_far.writes
          ∙ ap (λ l. added a b ++ l) wrote.ok.writes
          ∙ sym (append_assoc (added a b) (added b c) (words_writes (pack c) (drop more words)))
          ∙ ap (λ l. l ++ words_writes (pack c) (drop more words)) (sym (added-twice so_far.grown grown));
      ahead = ahead_still page low wrote.ok.other;
    }

-- ---- the pass
-- it goes on over the words in a page
pub stands_words : {told : Bool} {p q : Pack} {table : Window} {pass : RowPass} (row : Row) → Stands told p table pass → pass.last ≡ Some row → (IsTrue told → WritesPage row.at row.page p q) → Stands told q table pass
stands_words {told} {p} {q} {table} {pass} row s last wrote = stands_over q row.at s (λ k. let w = wrote k in (w.written, passed p w.was, passed q w.carries))
  where
    passed : (r : Pack) → carried r row.at ≡ Some row.page → IsPassed pass.last (row_at r row.at)
    passed r here = subst (λ l. IsPassed l (row_at r row.at)) (sym last) (passed_page r (Some row) row (grind (arith, nat_tests)) here)

-- ---- its end
-- part of the writes are done
pub words_part : {a b c : Taped} {T : Type 0} {words : List DirWord} {last : Option Row} {done : ℕ} (e : Stop) (result : Result T Stop) → WordsPassed words a b last done → Grown b c → IsFirstOf (words_writes (pack b) (drop done words)) (added b c) → (e ≡ Astray → ⊥) → IsErrAnd result (λ s. s ≡ e) → WritesWords words a c result
words_part {a} {b} {c} {words = words} {done = done} e result x grown some found is = subst (WritesWords words a c) (sym (error_is result is)) (record {
  some = subst (λ l. IsFirstOf l (added a c)) (sym x.writes) (subst (IsFirstOf (added a b ++ words_writes (pack b) (drop done words))) (sym (added-twice x.grown grown)) (first_then (added a b) (words_writes (pack b) (drop done words)) (added a b) (added b c) refl some));
  ok = tt;
  found = λ astray. (let same : e ≡ Astray = cc in found same);
})

-- none are, in a call that only looks
pub words_quiet : {told : Bool} {most done : ℕ} {a b c : Taped} {T : Type 0} {words : List DirWord} {last : Option Row} (e : Stop) (result : Result T Stop) → WordsPassed words a b last done → Looks told most b c → IsTrue told → (e ≡ Astray → ⊥) → IsErrAnd result (λ s. s ≡ e) → WritesWords words a c result
words_quiet {done = done} {b = b} {c = c} {words = words} e result x looks h found is = words_part e result x looks.alone.grown (subst (IsFirstOf (words_writes (pack b) (drop done words))) (sym (looks.silent h)) tt) found is
