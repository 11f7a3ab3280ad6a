-- A cut, by the label of the page in which it ends.
use Rattle.std.proofs.Common.{Bool, List, None, Ok, OnOk, Option, Result, Some, [], ap, arith, false, inl, inr, le-leb, length, refl, subst, suc, sym, true, zero, ℕ, ◌%◌, ◌/◌, ◌<◌, ◌∙◌, ◌≡◌, ◌≢◌, ◌≤◌}
use Rattle.std.specs.Option.{is_some}
use Rattle.alto_words.specs.declared.fid.Fid.{Fid}
use Rattle.disk_records.proofs.Growing.{pack-after}
use Rattle.disk_records.specs.Commands.{relabel_writes}
use Rattle.disk_records.specs.Labels.{page_of}
use Rattle.disk_records.specs.Packs.{Pack, after, carried, sector_at}
use Rattle.disk_records.specs.Tapes.{Grown, Taped, pack}
use Rattle.disk_records.specs.declared.records.Page.{Page}
use Rattle.disk_records.specs.declared.records.Sector.{Sector}
use Rattle.disk_records.specs.declared.records.Tally.{Tally}
use Rattle.label_check.specs.Guarded.{info_of}
use Rattle.label_check.specs.declared.errors.PageInfo.{PageInfo}
use Rattle.laws_call.proofs.writing.Laws.{written_acts}
use Rattle.laws_call.specs.Acting.{Operates, around, begun}
use Rattle.laws_call.specs.Writing.{cuts}
use Rattle.laws_call.specs.laws_contents.proofs.pages.Laws.{page_numbers_are_words}
use Rattle.laws_hint.specs.MapChanges.{marked}
use Rattle.laws_midway.proofs.cutting.Laws.{whole_file_may_be_cut}
use Rattle.laws_midway.proofs.found.Laws.{found_file_lives}
use Rattle.laws_operation.proofs.lengths.Laws.{full_page_is_not_the_last, placed_pages_are_those_up_to_the_last}
use Rattle.laws_operation.specs.ByteLaws.{IsOrdinary}
use Rattle.laws_operation.specs.FileWords.{CanCut}
use Rattle.laws_call.specs.laws_record.proofs.Carried.{carried_place}
use Rattle.pack_model.specs.hints.Links.{no_link}
use Rattle.pack_model.specs.operations.Commands.{cut_label}
use Rattle.pack_model.specs.operations.Committing.{length_of, page_of_byte, pages_cut}
use Rattle.pack_model.specs.operations.Operations.{cut_writes}
use Rattle.pack_model.specs.operations.PageWords.{relabelled}
use Rattle.pack_model.specs.operations.Step.Operation.{cut}
use Rattle.pack_model.specs.reading.Files.{lives as file_lives, place}
use Rattle.pack_model.specs.reading.Model.{read_as}
use Rattle.pack_model.specs.reading.Sights.{sights}
use Rattle.pack_model.specs.states.Whole.{Tidy, Whole}
use Rattle.page_seeking.proofs.Ending.{same_or_less}
use Rattle.page_seeking.specs.Parts.{IsPast}
use Rattle.page_seeking.specs.Refs.{FileStands}
use Rattle.page_seeking.specs.Seeking.{file_length, length_at, page_number}
use Rattle.page_seeking.specs.declared.refs.FileError.TheVariants as file
use Rattle.page_seeking.specs.declared.refs.FileError.{FileError}
use Rattle.page_seeking.specs.declared.refs.FileRef.{FileRef}
use Rattle.file_pages.proofs.Following.{follows_relabelled}
use Rattle.file_pages.proofs.Remaining.{most_bytes, short_size}
use Rattle.file_pages.specs.Cutting.{IsRead}
use Rattle.file_pages.specs.Releasing.{IsKnown, AreAfter, CommitsAndReleases, CommitsFirst, Follows}

-- a page that was read is known
pub known_read : {p : Pack} {page : Page} {at : ℕ} {info : PageInfo} {buffer : Sector} → IsRead p page at info buffer → IsKnown p page at info
known_read {p} {page} {at} {info} {buffer} read = record {
  first = read.seen.first;
  last = read.seen.last;
  carries = read.stands.carries;
  tells = read.seen.tells ∙ ap (λ (s : Sector). info_of s.label) read.stands.holds;
  sized = ap (λ (s : Sector). length s.value) (sym read.stands.holds) ∙ read.seen.sized;
}

-- ---- where the cut ends
module _ (p : Pack) (f : Fid) (n number at : ℕ) (info : PageInfo) (whole : Whole p) (known : IsKnown p (page_number f number) at info) (is : number ≡ page_of_byte n) where
  size : info.bytes ≢ 512 → length_at number info.bytes ≡ file_length p f
  size short = short_size p f number at info known whole (omega (arith, is)) short

  -- past the end
  pub cut_is_past : info.bytes < n % 512 → (m : ℕ) → m ≡ length_at number info.bytes → IsPast p f n m
  cut_is_past less m told = let long = size (omega (arith, less)) in record { is = told ∙ long; past = omega (arith, told, is, less) }

  -- at the end
  pub cut_is_at_the_end : info.bytes ≡ n % 512 → n ≡ file_length p f
  cut_is_at_the_end same = let long = size (omega (arith, same)) in omega (arith, long, is, same)

  -- within the file
  pub cut_is_within : n % 512 < info.bytes → n < file_length p f
  cut_is_within less = elim (same_or_less info.bytes 512 (most_bytes p (page_number f number) at info known)) [
    | inl full ↦ by (sym full) number is known
    | inr short ↦ let long = size (omega (arith, short)) in omega (arith, long, is, less)
  ]
    where
      by : info.bytes ≡ 512 → (number : ℕ) → number ≡ page_of_byte n → IsKnown p (page_number f number) at info → n < file_length p f
      by full zero is known = absurd (omega (arith, is))
      by full (suc k) is known =
          let more = full_page_is_not_the_last p f k at whole (record { sector = carried_place p whole at (page_number f (suc k)) (known.carries); sized = known.sized; bytes = sym (ap (λ (i : PageInfo). i.bytes) (known.tells)) ∙ full }) in
          omega (arith, more, is)

-- a file has fewer than 65,535 full pages
pub fewer_pages : (p : Pack) (file : FileRef) → FileStands p file → file_length p file.fid / 512 < 65535
fewer_pages p file stands = by (place (sights p) file.fid (page_of_byte b)) refl (placed_pages_are_those_up_to_the_last p file.fid (page_of_byte b) stands.whole lives ∙ le-leb (page_of_byte b) (page_of_byte b) (omega arith))
  where
    b : ℕ
    b = file_length p file.fid

    lives : file_lives (sights p) file.fid ≡ true
    lives = found_file_lives p file.fid file.leader_at file.from stands.whole stands.tidy stands.from

    by : (r : Option ℕ) → place (sights p) file.fid (page_of_byte b) ≡ r → is_some r ≡ true → b / 512 < 65535
    by None e some = absurd cc
    by (Some at) e some = let word = page_numbers_are_words p file.fid (page_of_byte b) at e in omega (arith, word)

-- so a length with more is past the end
pub far_past : (p : Pack) (file : FileRef) (n m : ℕ) → FileStands p file → 65535 ≤ n / 512 → m ≡ file_length p file.fid → IsPast p file.fid n m
far_past p file n m stands far is = let few = fewer_pages p file stands in record { is = is; past = omega (arith, few, far, is) }

-- ---- what a caller knows
pub record CutHere (p : Pack) (f : Fid) (n number at : ℕ) : Type 0 where
  pub later : List ℕ
  pub can : CanCut p f n at later
  pub left : AreAfter p f number later

pub cut_here : (p : Pack) (file : FileRef) (n number at : ℕ) (info : PageInfo) → FileStands p file → IsOrdinary file.fid → IsKnown p (page_number file.fid number) at info → number ≡ page_of_byte n → n ≤ file_length p file.fid → CutHere p file.fid n number at
cut_here p file n number at info stands ordinary known is within =
    let has = whole_file_may_be_cut p file.fid n stands.whole ordinary (found_file_lives p file.fid file.leader_at file.from stands.whole stands.tidy stands.from) within in
    let count = has.can.number in
    record {
      later = has.later;
      can = record {
        file = ordinary;
        sector = ap (place (sights p) file.fid) (sym is) ∙ carried_place p stands.whole at (page_number file.fid number) (known.carries);
        within = within;
        number = has.can.number;
        later_are = has.can.later_are;
      };
      left = record { whole = stands.whole; bear = rw is has.can.later_are; count = omega (arith, is, count, within) };
    }

-- ---- the call
pub cut_begun : {a c : Taped} {t u : Tally} {bits now : List Bool} (f : Fid) (n bytes at : ℕ) (later : List ℕ) (result : Result (Unit {0}) FileError) → Whole (pack a) → Tidy (pack a) → CanCut (pack a) f n at later → bytes ≡ n % 512
    → CommitsAndReleases (relabel_writes at (relabelled (sector_at (pack a) at).label bytes no_link) (sector_at (pack a) at).value) later a c t u result → OnOk result (now ≡ marked false later bits)
    → Operates file.DiskFault file.Memory (cut f n) [] (around a bits t) (around c now u) result
cut_begun {a} {c} {t} {u} {bits} {now} f n bytes at later result whole tidy can is x table =
    let y = subst (λ b. CommitsAndReleases (relabel_writes at (relabelled (sector_at (pack a) at).label b no_link) (sector_at (pack a) at).value) later a c t u result) is x in
    begun (record {
      writes = cut_writes at (cut_label n (sector_at (pack a) at).label) (sector_at (pack a) at).value later;
      released = later;
      exact = cuts can;
      acts = written_acts (pack a) (cut f n) [] later (cut_writes at (cut_label n (sector_at (pack a) at).label) (sector_at (pack a) at).value later) whole tidy (cuts can);
      some = y.some;
      all = y.all;
      table = table;
      counts = y.counts (cut f n) (pages_cut (length_of (read_as (pack a)) f) n);
      out_of_memory = y.less;
    })

-- ---- the label that commits
pub carries_at : {p q : Pack} {page : Page} {at : ℕ} {info : PageInfo} {buffer : Sector} → q ≡ p → IsRead p page at info buffer → carried q at ≡ Some page
carries_at {at = at} same read = ap (λ (q : Pack). carried q at) same ∙ read.stands.carries

-- its words by the pack as the call began
pub commits_at : {p : Pack} {a b : Taped} {page : Page} {at : ℕ} {info : PageInfo} {buffer : Sector} {label : List ℕ} {t u : Tally} (bytes : ℕ) (result : Result (Unit {0}) FileError) → pack a ≡ p → IsRead p page at info buffer → label ≡ relabelled buffer.label bytes no_link
    → CommitsFirst (relabel_writes at label (sector_at (pack a) at).value) a b t u result → CommitsFirst (relabel_writes at (relabelled (sector_at p at).label bytes no_link) (sector_at p at).value) a b t u result
commits_at {p} {a} {b} {at = at} {label = label} {t} {u} bytes result same read is x =
    subst (λ l. CommitsFirst (relabel_writes at l (sector_at p at).value) a b t u result) (is ∙ ap (λ (s : Sector). relabelled s.label bytes no_link) read.stands.holds)
    (subst (λ (q : Pack). CommitsFirst (relabel_writes at label (sector_at q at).value) a b t u result) same x)

-- later pages follow
pub follows_shortened : {p : Pack} {a b : Taped} {page : Page} {at : ℕ} {info : PageInfo} {buffer : Sector} {label : List ℕ} {t u : Tally} → pack a ≡ p → IsRead p page at info buffer → Grown a b → page_of label ≡ Some page
    → CommitsFirst (relabel_writes at label (sector_at (pack a) at).value) a b t u (Ok tt) → Follows p (pack b) page at info
follows_shortened {p} {a} {b} {page} {at} {info} {label = label} same read grown named x =
    follows_relabelled p (pack b) page.fid page.number at info label (known_read read) named (pack-after grown ∙ ap (after (pack a)) x.all ∙ ap (λ (q : Pack). after q (relabel_writes at label (sector_at q at).value)) same)
