-- Words of directories that stand in the page of one row, written one after another.
use Rattle.std.proofs.Common.{◌≡◌, ◌≢◌, ℕ, ◌+◌, ◌/◌, Bool, true, false, List, [], ◌∷◌, ◌++◌, append_assoc, Some, None, Result, Ok, Err, refl, sym, ap, subst, ◌∙◌, arith}
use Rattle.std.specs.Prelude.{IsErrAnd, cond, drop, length, nat_eq, nat_le, not, take}
use Rattle.std.specs.Cmp.Lexicographic.{pointwise}
use Rattle.std.specs.Option.{option_map_or}
use Rattle.alto_words.specs.declared.fid.Fid.{Fid}
use Rattle.disk_records.specs.declared.records.Event.{Event}
use Rattle.disk_records.specs.declared.records.Page.{Page}
use Rattle.disk_records.specs.declared.records.Sector.{Sector}
use Rattle.disk_records.specs.Commands.{value_writes}
use Rattle.disk_records.specs.Events.{IsFirstOf}
use Rattle.disk_records.specs.Packs.{Pack, after, carried, sector_at}
use Rattle.disk_records.specs.Tapes.{Grown, Taped, added, pack}
use Rattle.disk_records.proofs.FirstOnes.{first_all, first_front, first_then}
use Rattle.disk_records.proofs.Growing.{added-twice, grown_twice, pack-after}
use Rattle.scav_pages.specs.laws_operation.specs.PlaceLaws.{SamePlaces}
use Rattle.scav_pages.specs.laws_operation.proofs.places.Laws.{values_keep_places}
use Rattle.scav_pages.specs.pack_laws.proofs.guards.Laws.{value_writes_keep_the_page}
use Rattle.scav_pages.specs.pack_laws.proofs.files.Laws.{places_are_lowest}
use Rattle.pack_model.specs.operations.PageWords.{in_page}
use Rattle.pack_model.specs.reading.Bytes.{put_at}
use Rattle.pack_model.specs.reading.Files.{place}
use Rattle.pack_model.specs.reading.Sights.{sights}
use Rattle.scav_pages.specs.declared.errors.Stop.{Stop}
use Rattle.scav_pages.specs.declared.errors.Stop.TheVariants.{Astray}
use Rattle.scav_pages.specs.Links.{WritesPage}
use Rattle.scav_pages.specs.Walks.{IsSeated}
use Rattle.scav_pages.proofs.Doing.{error_is}
use Rattle.scav_pages.proofs.Passing.{value_at, writes_here, writes_twice}
use Rattle.scav_table.specs.declared.row.Row.{Row}
use Rattle.scav_names.specs.declared.words.DirWord.{DirWord}
use Rattle.scav_names.specs.Words.{IsInWords, WritesInPage, WritesPageWords, page_with, page_writes, word_writes, words_writes}

-- ---- the record writes of one word
-- the page with a word
pub page_is : (d : Fid) (n : ℕ) (page : Page) → page_with d n ≡ Some page → record { fid = d; number = n / 256 + 1 } ≡ page
page_is d n page e = by (nat_le (n / 256 + 1) 65535) e
  where
    by : (t : Bool) → cond t (Some (record { fid = d; number = n / 256 + 1 })) None ≡ Some page → record { fid = d; number = n / 256 + 1 } ≡ page
    by true e = cc
    by false e = cc

-- no label is written
pub same_places : (p : Pack) (at from : ℕ) (words : List ℕ) → SamePlaces p (after p (page_writes p at from words))
same_places p at from words = by (pointwise nat_eq (take (length words) (drop from (sector_at p at).value)) words)
  where
    value : List ℕ
    value = put_at from words (sector_at p at).value

    by : (t : Bool) → SamePlaces p (after p (cond t [] (value_writes at value)))
    by true = values_keep_places p []
    by false = values_keep_places p ((at, value) ∷ [])

-- and no other sector
pub page_written : (p : Pack) (at from : ℕ) (words : List ℕ) (page : Page) → carried p at ≡ Some page → WritesPage at page p (after p (page_writes p at from words))
page_written p at from words page was = by (pointwise nat_eq (take (length words) (drop from (sector_at p at).value)) words)
  where
    value : List ℕ
    value = put_at from words (sector_at p at).value

    by : (t : Bool) → WritesPage at page p (after p (cond t [] (value_writes at value)))
    by true = record { written = writes_here at p; was = was; carries = was }
    by false = record { written = value_at p at value; was = was; carries = (value_writes_keep_the_page p at page value 1 was (omega arith)).page_here }

pub page_written_more : {p : Pack} {b c : Taped} (at from : ℕ) (words : List ℕ) (page : Page) → WritesPage at page p (pack b) → Grown b c → added b c ≡ page_writes (pack b) at from words → WritesPage at page p (pack c)
page_written_more {b = b} {c = c} at from words page x grown is =
    let now : pack c ≡ after (pack b) (page_writes (pack b) at from words) = pack-after grown ∙ ap (after (pack b)) is in
    let more = subst (WritesPage at page (pack b)) (sym now) (page_written (pack b) at from words page x.carries) in
    record { written = writes_twice x.written more.written; was = x.was; carries = more.carries }

-- a call that does all of its record writes
pub all_done : {T : Type 0} {a b : Taped} {writes : List Event} (value : T) → added a b ≡ writes → WritesPageWords writes a b (Ok value)
all_done {a = a} {b = b} {writes = writes} value is = record { some = subst (IsFirstOf writes) (sym is) (first_all writes); ok = is; found = λ astray. cc }

-- ---- words of one value
-- the record writes by the sector that was read: none where the words stand there
pub puts_none : (p : Pack) (at from : ℕ) (words : List ℕ) (buf : Sector) (changed : Bool) → buf ≡ sector_at p at → changed ≡ not (pointwise nat_eq (take (length words) (drop from buf.value)) words) → changed ≡ false → page_writes p at from words ≡ []
puts_none p at from words buf changed holds is same =
    ap (λ (s : Sector). cond (pointwise nat_eq (take (length words) (drop from s.value)) words) [] (value_writes at (put_at from words s.value))) (sym holds)
    ∙ by (pointwise nat_eq (take (length words) (drop from buf.value)) words) (sym is ∙ same)
  where
    by : (t : Bool) → not t ≡ false → cond t [] (value_writes at (put_at from words buf.value)) ≡ []
    by true e = refl
    by false e = cc

-- and the value with them where others do
pub puts_value : (p : Pack) (at from : ℕ) (words : List ℕ) (buf : Sector) (changed : Bool) {value : List ℕ} → buf ≡ sector_at p at → changed ≡ not (pointwise nat_eq (take (length words) (drop from buf.value)) words) → changed ≡ true → value ≡ put_at from words buf.value
    → page_writes p at from words ≡ value_writes at value
puts_value p at from words buf changed {value} holds is other put =
    ap (λ (s : Sector). cond (pointwise nat_eq (take (length words) (drop from s.value)) words) [] (value_writes at (put_at from words s.value))) (sym holds)
    ∙ by (pointwise nat_eq (take (length words) (drop from buf.value)) words) (sym is ∙ other)
    ∙ ap (value_writes at) (sym put)
  where
    by : (t : Bool) → not t ≡ true → cond t [] (value_writes at (put_at from words buf.value)) ≡ value_writes at (put_at from words buf.value)
    by true e = cc
    by false e = refl

-- what is added after a look that wrote nothing
pub added_looked : {a b c : Taped} → Grown a b → added a b ≡ [] → Grown b c → added a c ≡ added b c
added_looked {b = b} {c = c} x silent y = added-twice x y ∙ ap (λ l. l ++ added b c) silent

-- ---- so far
-- those from the one numbered `done` up to the one numbered `more` are written
pub record WordsTo (words : List DirWord) (done : ℕ) (row : Row) (a b : Taped) (more : ℕ) : Type 0 where
  pub grown : Grown a b
  pub seated : IsSeated (pack b) row
  pub writes : words_writes (pack a) (drop done words) ≡ added a b ++ words_writes (pack b) (drop more words)

pub carries_seated : (p : Pack) (row : Row) → IsSeated p row → carried p row.at ≡ Some row.page
carries_seated p row seated = ((places_are_lowest p row.page).lowest row.at seated).here

module _ {words ws : List DirWord} {done more : ℕ} {row : Row} {a b : Taped} {w : DirWord} (so_far : WordsTo words done row a b more) (here : drop more words ≡ w ∷ ws) (page : page_with w.dir w.place ≡ Some row.page) where
  word_is : word_writes (pack b) w ≡ page_writes (pack b) row.at (in_page w.place) (w.word ∷ [])
  word_is =
      let same = page_is w.dir w.place row.page page in
      let at : place (sights (pack b)) w.dir (w.place / 256 + 1) ≡ Some row.at = ap (λ x. place (sights (pack b)) x.fid x.number) same ∙ so_far.seated in
      ap (λ o. page_writes (pack b) (option_map_or (λ i. i) o 0) (in_page w.place) (w.word ∷ [])) at

  rest_is : words_writes (pack b) (drop more words) ≡ page_writes (pack b) row.at (in_page w.place) (w.word ∷ []) ++ words_writes (after (pack b) (page_writes (pack b) row.at (in_page w.place) (w.word ∷ []))) ws
  rest_is = ap (words_writes (pack b)) here ∙ ap (λ l. l ++ words_writes (after (pack b) l) ws) word_is

  -- one word more
  pub words_next : {c : Taped} → Grown b c → added b c ≡ page_writes (pack b) row.at (in_page w.place) (w.word ∷ []) → drop (more + 1) words ≡ ws → WordsTo words done row a c (more + 1)
  words_next {c} grown is rest =
      let now : pack c ≡ after (pack b) (page_writes (pack b) row.at (in_page w.place) (w.word ∷ [])) = pack-after grown ∙ ap (after (pack b)) is in
      record {
        grown = grown_twice so_far.grown grown;
        seated = subst (λ q. IsSeated q row) (sym now) ((same_places (pack b) row.at (in_page w.place) (w.word ∷ [])).places row.page.fid row.page.number ∙ so_far.seated);
        writes =
            so_far.writes
            ∙ ap (λ l. added a b ++ l) (rest_is ∙ ap (λ l. l ++ words_writes (after (pack b) (page_writes (pack b) row.at (in_page w.place) (w.word ∷ []))) ws) (sym is) ∙ (λ i. added b c ++ words_writes (sym now i) (sym rest i)))
            ∙ sym (append_assoc (added a b) (added b c) (words_writes (pack c) (drop (more + 1) words)))
            ∙ ap (λ l. l ++ words_writes (pack c) (drop (more + 1) words)) (sym (added-twice so_far.grown grown));
      }

  -- a word that isn't written
  pub words_stop : {c : Taped} (e : Stop) (result : Result ℕ Stop) → Grown b c → WritesPageWords {T = Unit {0}} (page_writes (pack b) row.at (in_page w.place) (w.word ∷ [])) b c (Err e) → IsErrAnd result (λ s. s ≡ e) → WritesInPage words done row a c result
  words_stop {c} e result grown wrote is = subst (WritesInPage words done row a c) (sym (error_is result is)) (record {
    some = subst (λ l. IsFirstOf l (added a c)) (sym (so_far.writes ∙ ap (λ l. added a b ++ l) rest_is))
        (subst (IsFirstOf (added a b ++ (page_writes (pack b) row.at (in_page w.place) (w.word ∷ []) ++ words_writes (after (pack b) (page_writes (pack b) row.at (in_page w.place) (w.word ∷ []))) ws))) (sym (added-twice so_far.grown grown))
        (first_then (added a b) _ (added a b) (added b c) refl (first_front (page_writes (pack b) row.at (in_page w.place) (w.word ∷ [])) _ (added b c) wrote.some)));
    ok = tt;
    found = λ astray. (let same : e ≡ Astray = cc in wrote.found (ap Err same));
  })

-- ---- all of the page
pub words_done : {words : List DirWord} {done more : ℕ} {row : Row} {a b : Taped} → WordsTo words done row a b more
    → ((w : DirWord) (ws : List DirWord) → drop more words ≡ w ∷ ws → (page_with w.dir w.place ≢ Some row.page) × IsInWords w.dir) → WritesInPage words done row a b (Ok more)
words_done {words} {done} {more} {row} {a} {b} so_far other = record {
  some = subst (λ l. IsFirstOf l (added a b)) (sym so_far.writes) (first_front (added a b) (words_writes (pack b) (drop more words)) (added a b) (first_all (added a b)));
  ok = record { writes = so_far.writes; other = other };
  found = λ is. cc;
}
