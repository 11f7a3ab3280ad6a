-- Living files, as their leader pages come along the rows: they rise by full name, and in the end they are all.
use Rattle.std.proofs.Common.{◌≡◌, ◌≢◌, ◌⊎◌, inl, inr, ℕ, ◌+◌, ◌*◌, ◌<◌, ◌≤◌, Bool, true, false, cond, List, [], ◌∷◌, ◌++◌, Option, Some, None, refl, sym, ap, subst, ◌∙◌, arith}
use Rattle.std.specs.Prelude.{◌&&◌, T}
use Rattle.std.specs.Option.{option_map, option_map_or}
use Rattle.std.specs.Cmp.{nat_cmp_is}
use Rattle.std.specs.declared.cmp.Ordering.{Ordering}
use Rattle.std.specs.declared.cmp.Ordering.TheVariants.{Less, Equal}
use Rattle.std.specs.Ordering.{is_lt, nat_cmp, ordering_then}
use Rattle.std.specs.FinMap.{entries, entries_sorted, find, get-entries, is_sorted}
use Rattle.std.specs.FinMap.Entries.{below_all, same_entries}
use Rattle.alto_words.specs.declared.fid.Fid.{Fid}
use Rattle.alto_words.specs.Fid.{fid_cmp, is_fid}
use Rattle.disk_records.specs.declared.records.Page.{Page}
use Rattle.disk_records.specs.Packs.{Pack, carried, sector_at}
use Rattle.scav_pages.specs.laws_record.proofs.Recording.{carried_sight}
use Rattle.scav_pages.specs.laws_record.proofs.Reading.{get-found, read_file}
use Rattle.scav_pages.specs.pack_laws.proofs.Keys.{fid_same, fid_total, is_fid-itself, same_fid}
use Rattle.scav_pages.specs.pack_laws.proofs.Placing.{IsLeaderAt, leader_of_place, no_leader, one_page}
use Rattle.pack_model.specs.reading.Bodies.{File, found}
use Rattle.pack_model.specs.reading.Files.{file_bytes, place}
use Rattle.pack_model.specs.reading.Leaders.{is_readable, leader_of, leader_words}
use Rattle.pack_model.specs.reading.Sights.{sights}
use Rattle.pack_model.specs.reading.Sights.Sight.{hidden, leads}
use Rattle.scav_pages.specs.Walks.{AreWords}
use Rattle.scav_pages.proofs.Passing.{contrary, passed_here, passed_more}
use Rattle.scav_pages.proofs.Ranking.{above_last, above_or, fid_rank, met_or_next, rank_is, row_of_place, same_fids}
use Rattle.scav_table.specs.declared.row.Row.{Row}
use Rattle.scav_table.specs.Laws.{IsFirstAbove, IsNextRow}
use Rattle.scav_table.specs.Passes.{IsPassed}
use Rattle.scav_table.specs.Rows.{is_above, is_below, rank}
use Rattle.scav_names.specs.Living.{living_of}
use Rattle.scav_names.specs.Readings.{AreMet, FilesMet, IsMetFile, LeaderAhead}
use Rattle.scav_names.proofs.LivingFiles.{both}

-- ---- the order of files is that of their full names
pub parted : (m n : ℕ) → (m < n) ⊎ (n ≤ m)
parted m n = grind arith

less : (m n : ℕ) → m < n → nat_cmp m n ≡ Less
less m n l = sym (nat_cmp_is m n Less l)

equal : (m n : ℕ) → m ≡ n → nat_cmp m n ≡ Equal
equal m n e = sym (nat_cmp_is m n Equal e)

pub fid_less : (a b : Row) → AreWords a → AreWords b → fid_rank a.page.fid < fid_rank b.page.fid → fid_cmp a.page.fid b.page.fid ≡ Less
fid_less a b v w l = elim (parted a.page.fid.high b.page.fid.high) [
  | inl h ↦ ap (λ r. ordering_then r (ordering_then (nat_cmp a.page.fid.low b.page.fid.low) (nat_cmp a.page.fid.version b.page.fid.version))) (less a.page.fid.high b.page.fid.high h)
  | inr h ↦
      let eh : a.page.fid.high ≡ b.page.fid.high = omega (arith, v.low, v.version, w.low, w.version, h, l) in
      ap (λ r. ordering_then r (ordering_then (nat_cmp a.page.fid.low b.page.fid.low) (nat_cmp a.page.fid.version b.page.fid.version))) (equal a.page.fid.high b.page.fid.high eh)
      ∙ elim (parted a.page.fid.low b.page.fid.low) [
        | inl k ↦ ap (λ r. ordering_then r (nat_cmp a.page.fid.version b.page.fid.version)) (less a.page.fid.low b.page.fid.low k)
        | inr k ↦
            let el : a.page.fid.low ≡ b.page.fid.low = omega (arith, v.version, w.version, eh, k, l) in
            ap (λ r. ordering_then r (nat_cmp a.page.fid.version b.page.fid.version)) (equal a.page.fid.low b.page.fid.low el) ∙ less a.page.fid.version b.page.fid.version (omega (arith, eh, el, l))
      ]
]

-- ---- a file more
and_of : (a b : Bool) → T a → T b → T (a && b)
and_of true b x y = y
and_of false b x y = absurd x

lt_of : (r : Ordering) → r ≡ Less → T (is_lt r)
lt_of r e = subst (λ x. T (is_lt x)) (sym e) tt

below_push : (q : Fid) (es : List (Fid × File)) (g : Fid × File) → T (below_all fid_cmp q es) → fid_cmp q g.0 ≡ Less → T (below_all fid_cmp q (es ++ g ∷ []))
below_push q [] g h l = and_of (is_lt (fid_cmp q g.0)) true (lt_of (fid_cmp q g.0) l) tt
below_push q (e ∷ es) g h l = let p = both (is_lt (fid_cmp q e.0)) (below_all fid_cmp q es) h in and_of (is_lt (fid_cmp q e.0)) (below_all fid_cmp q (es ++ g ∷ [])) p.0 (below_push q es g p.1 l)

sorted_push : (p : Pack) (last : Option Row) (es : List (Fid × File)) (g : Fid × File) → T (is_sorted fid_cmp es) → AreMet p last es → ((e : Fid × File) → IsMetFile p last e → fid_cmp e.0 g.0 ≡ Less) → T (is_sorted fid_cmp (es ++ g ∷ []))
sorted_push p last [] g h m l = tt
sorted_push p last (e ∷ es) g h m l =
    let q = both (below_all fid_cmp e.0 es) (is_sorted fid_cmp es) h in
    and_of (below_all fid_cmp e.0 (es ++ g ∷ [])) (is_sorted fid_cmp (es ++ g ∷ [])) (below_push e.0 es g q.0 (l e m.0)) (sorted_push p last es g q.1 m.1 l)

met_push : (p : Pack) (last : Option Row) (es : List (Fid × File)) (g : Fid × File) → AreMet p last es → IsMetFile p last g → AreMet p last (es ++ g ∷ [])
met_push p last [] g m x = (x, tt)
met_push p last (e ∷ es) g m x = (m.0, met_push p last es g m.1 x)

find_push : (es : List (Fid × File)) (g : Fid × File) (f : Fid) → find fid_cmp f (es ++ g ∷ []) ≡ None → (find fid_cmp f es ≡ None) × (is_fid f g.0 ≡ false)
find_push [] g f e = (refl, by (is_fid f g.0) e)
  where
    by : (b : Bool) → cond b (Some g.1) None ≡ None → b ≡ false
    by true h = absurd cc
    by false h = refl
find_push (x ∷ es) g f e = (elim (is_fid f x.0) as (λ b. cond b (Some x.1) (find fid_cmp f (es ++ g ∷ [])) ≡ None → (cond b (Some x.1) (find fid_cmp f es) ≡ None) × (is_fid f g.0 ≡ false)) [ true ↦ λ h. absurd cc | false ↦ λ h. find_push es g f h ]) e

find_met : (p : Pack) (last : Option Row) (es : List (Fid × File)) (f : Fid) (x : File) → AreMet p last es → find fid_cmp f es ≡ Some x → IsMetFile p last (f, x)
find_met p last [] f x m e = absurd cc
find_met p last (e ∷ es) f x m is = by (find_met p last es f x m.1) (is_fid f e.0) refl is
  where
    by : (find fid_cmp f es ≡ Some x → IsMetFile p last (f, x)) → (b : Bool) → is_fid f e.0 ≡ b → cond b (Some e.1) (find fid_cmp f es) ≡ Some x → IsMetFile p last (f, x)
    by further true t h = let same : e.1 ≡ x = cc in subst (IsMetFile p last) (λ i. (sym (same_fid f e.0 t) i, same i)) m.0
    by further false t h = further h

-- ---- the next row
met_on : (p : Pack) (last : Option Row) (row : Row) (es : List (Fid × File)) → is_above last row ≡ true → AreMet p last es → AreMet p (Some row) es
met_on p last row [] above m = tt
met_on p last row (e ∷ es) above m = (record { found = m.0.found; row = m.0.row; words = m.0.words; seated = m.0.seated; page = m.0.page; passed = passed_more last row (Some m.0.row) above m.0.passed }, met_on p last row es above m.1)

ahead_on : {p : Pack} {last : Option Row} {row : Row} (f : Fid) → IsFirstAbove p last row → place (sights p) f 0 ≢ Some row.at → LeaderAhead p last f → LeaderAhead p (Some row) f
ahead_on {p} {last} {row} f first other h at r e is = by (is_below row r) refl
  where
    by : (t : Bool) → is_below row r ≡ t → is_below row r ≡ true
    by true t = t
    by false t = elim (met_or_next p last row first at r is t) [
      | inl old ↦ contrary (h at r e is) old
      | inr next ↦ absurd (other (e ∙ ap Some next.0))
    ]

pub files_start : (p : Pack) → FilesMet p None []
files_start p = record { sorted = tt; each = tt; ahead = λ f none at r e is. refl }

-- which is no leader page
pub files_on : {p : Pack} {last : Option Row} {row : Row} (met : List (Fid × File)) → IsFirstAbove p last row → ((f : Fid) → place (sights p) f 0 ≢ Some row.at) → FilesMet p last met → FilesMet p (Some row) met
files_on {p} {last} {row} met first other h = record {
  sorted = h.sorted;
  each = met_on p last row met first.above h.each;
  ahead = λ f none. ahead_on f first (other f) (h.ahead f none);
}

-- which is one
pub files_leader : {p : Pack} {last : Option Row} {row : Row} (met : List (Fid × File)) (x : File) → AreWords row → IsFirstAbove p last row → place (sights p) row.page.fid 0 ≡ Some row.at → row.page.number ≡ 0 → find fid_cmp row.page.fid (entries (found (sights p))) ≡ Some x → FilesMet p last met → FilesMet p (Some row) (met ++ (row.page.fid, x) ∷ [])
files_leader {p} {last} {row} met x words first seat zero_is is h = record {
  sorted = sorted_push p last met (row.page.fid, x) h.sorted h.each before;
  each = met_push p (Some row) met (row.page.fid, x) (met_on p last row met first.above h.each) (record { found = is; row = row; words = words; seated = seat; page = (λ i. record { fid = row.page.fid; number = zero_is i }); passed = passed_here row });
  ahead = λ f none.
      let parts = find_push met (row.page.fid, x) f none in
      ahead_on f first (λ here. (let same : f ≡ row.page.fid = (one_page (sights p) f row.page.fid 0 0 row.at here seat).0 in contrary (subst (λ g. is_fid f g ≡ true) same (is_fid-itself f)) parts.1)) (h.ahead f parts.0);
}
  where
    before : (e : Fid × File) → IsMetFile p last e → fid_cmp e.0 row.page.fid ≡ Less
    before e m = elim (above_or last m.row) [
      | inl above ↦ contrary above m.passed
      | inr s ↦
          let low : rank m.row < rank row = (let most = s.most in let more = above_last last s.b row s.is first.above in omega (arith, most, more)) in
          subst (λ f. fid_cmp f row.page.fid ≡ Less) (ap (λ (y : Page). y.fid) m.page) (fid_less m.row row m.words words (rising m low))
    ]
      where
        rising : (m : IsMetFile p last e) → rank m.row < rank row → fid_rank m.row.page.fid < fid_rank row.page.fid
        rising m low = elim (parted (fid_rank m.row.page.fid) (fid_rank row.page.fid)) [
          | inl l ↦ l
          | inr most ↦
              let number : m.row.page.number ≡ 0 = ap (λ (y : Page). y.number) m.page in
              let a : ℕ = fid_rank m.row.page.fid in
              let b : ℕ = fid_rank row.page.fid in
              let ranks : (a * 65536 + m.row.page.number) * 65536 + m.row.at < (b * 65536 + row.page.number) * 65536 + row.at = omega (arith, rank_is m.row, rank_is row, low) in
              let same : a ≡ b = omega (arith, most, ranks, number, zero_is, m.words.at, words.at) in
              let less_at : m.row.at < row.at = omega (arith, same, ranks, number, zero_is) in
              let fid : e.0 ≡ row.page.fid = sym (ap (λ (y : Page). y.fid) m.page) ∙ same_fids m.row row m.words words same in
              let ats : Some m.row.at ≡ Some row.at = sym m.seated ∙ ap (λ f. place (sights p) f 0) fid ∙ seat in
              let at_is : m.row.at ≡ row.at = cc in
              absurd (omega (arith, less_at, at_is))
        ]

-- ---- the file of a leader page
pub record LeadFile (p : Pack) (f : Fid) (at : ℕ) : Type 0 where
  pub file : File
  pub found : find fid_cmp f (entries (found (sights p))) ≡ Some file
  pub living : living_of (sights p) (f, file) ≡ record { fid = f; leader_at = at; name = (leader_of f (sector_at p at).value).name }

-- the leader that is read is the words of its sector
lead_shown : (p : Pack) (f : Fid) (at : ℕ) → place (sights p) f 0 ≡ Some at → (h : IsLeaderAt (sights p) f at) → h.lead ≡ leader_of f (sector_at p at).value
lead_shown p f at e h =
    let carries : carried p at ≡ Some (record { fid = f; number = 0 }) = (row_of_place p (record { fid = f; number = 0 }) at e).carries in
    let both : leads f h.readable h.lead ≡ leads f (is_readable (leader_words (sector_at p at).value)) (leader_of f (sector_at p at).value) = sym (h.shows hidden) ∙ carried_sight p at (record { fid = f; number = 0 }) carries in
    cc

pub lead_file : (p : Pack) (f : Fid) (at : ℕ) → place (sights p) f 0 ≡ Some at → LeadFile p f at
lead_file p f at e = record {
  file = read_file f (file_bytes (sights p) f) h.lead;
  found = sym (get-entries (found (sights p)) f) ∙ get-found (sights p) f ∙ ap (option_map (read_file f (file_bytes (sights p) f))) h.leader_is;
  living = λ i. record { fid = f; leader_at = option_map_or (λ x. x) (e i) 0; name = (same i).name };
}
  where
    h : IsLeaderAt (sights p) f at
    h = leader_of_place (sights p) f at e

    same : h.lead ≡ leader_of f (sector_at p at).value
    same = lead_shown p f at e h

-- ---- all rows were met
pub files_all : {p : Pack} {last : Option Row} (met : List (Fid × File)) → FilesMet p last met → IsNextRow p last None → met ≡ entries (found (sights p))
files_all {p} {last} met h none = same_entries fid_cmp fid_total fid_same met (entries (found (sights p))) h.sorted (entries_sorted (found (sights p))) (λ q. by q (find fid_cmp q met) refl)
  where
    unled : (q : Fid) → LeaderAhead p last q → (o : Option ℕ) → place (sights p) q 0 ≡ o → place (sights p) q 0 ≡ None
    unled q ahead None e = e
    unled q ahead (Some at) e = let r = row_of_place p (record { fid = q; number = 0 }) at e in contrary (ahead at r.row e r.is) (subst (IsPassed last) r.is (none at))

    by : (q : Fid) (o : Option File) → find fid_cmp q met ≡ o → find fid_cmp q met ≡ find fid_cmp q (entries (found (sights p)))
    by q (Some x) e = e ∙ sym (find_met p last met q x h.each e).found
    by q None e =
        e ∙ sym (sym (get-entries (found (sights p)) q) ∙ get-found (sights p) q ∙ ap (option_map (read_file q (file_bytes (sights p) q))) (no_leader (sights p) q (unled q (h.ahead q e) (place (sights p) q 0) refl)))
