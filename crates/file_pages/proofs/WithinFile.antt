-- Bytes in one page, by what its label counts: they are within the file, or it ends before they do.
use Rattle.std.proofs.Common.{Bool, Err, List, Ok, Result, Some, [], ap, arith, eqb-true, false, inl, inr, length, nat_lt, not, refl, subst, suc, sym, true, ℕ, ◌%◌, ◌+◌, ◌/◌, ◌<◌, ◌==◌, ◌∙◌, ◌∷◌, ◌≡◌, ◌≢◌, ◌≤◌, ◌⊎◌}
use Rattle.std.proofs.lemmas.Bool.Decides.{nat_tests}
use Rattle.alto_words.specs.declared.fid.Fid.{Fid}
use Rattle.disk_records.specs.Causes.{HasCause}
use Rattle.disk_records.specs.Labels.{tag}
use Rattle.disk_records.specs.Packs.{Pack, carried, sector_at}
use Rattle.disk_records.specs.Tapes.{Taped}
use Rattle.disk_records.specs.Words.{word}
use Rattle.laws_call.specs.Acting.{Around, IsQuiet}
use Rattle.laws_operation.proofs.lengths.Laws.{full_page_is_not_the_last, length_by_the_last_page}
use Rattle.laws_operation.proofs.places.Laws.{carried_in_place}
use Rattle.laws_operation.specs.LengthLaws.{CountsPage}
use Rattle.laws_call.specs.pack_laws.proofs.Sighted.{counted}
use Rattle.pack_model.specs.operations.Committing.{page_of_byte}
use Rattle.pack_model.specs.states.Whole.{Whole}
use Rattle.page_seeking.proofs.Ending.{ranged}
use Rattle.page_seeking.specs.Causes.{cause_of_length}
use Rattle.page_seeking.specs.Parts.{IsPast}
use Rattle.page_seeking.specs.Refs.{IfBeyond}
use Rattle.page_seeking.specs.Seeking.{IsLengthBelow, file_length, length_at, page_number}
use Rattle.page_seeking.specs.declared.refs.FileError.TheVariants.{Beyond, DiskFault, Memory, Misled}
use Rattle.page_seeking.specs.declared.refs.FileError.{FileError}
use Rattle.file_pages.specs.Putting.{EndsBeside, IsNotAt, IsNotEnd, MayBePut}

full_or : (n : ℕ) → n ≤ 512 → (n < 512) ⊎ (n ≡ 512)
full_or n most = by (nat_lt n 512) refl
  where
    by : (b : Bool) → nat_lt n 512 ≡ b → (n < 512) ⊎ (n ≡ 512)
    by true is = inl (grind (arith, nat_tests))
    by false is = inr (grind (arith, nat_tests))

module _ (p : Pack) (f : Fid) (offset at count : ℕ) (whole : Whole p) (carries : carried p at ≡ Some (page_number f (page_of_byte offset))) (sized : length (sector_at p at).value ≡ 256) where
  -- the page that the byte at the offset is in
  page_here : CountsPage p f (offset / 512) at (word (sector_at p at).label 3)
  page_here = record { sector = carried_in_place p (page_number f (page_of_byte offset)) at whole carries; sized = sized; bytes = refl }

  -- if the label counts them, they are within the file
  pub within_file : offset % 512 + count ≤ word (sector_at p at).label 3 → offset + count ≤ file_length p f
  within_file few = by (full_or (word (sector_at p at).label 3) (counted (tag (sector_at p at).label) (ranged p at (page_number f (page_of_byte offset)) carries)))
    where
      by : (word (sector_at p at).label 3 < 512) ⊎ (word (sector_at p at).label 3 ≡ 512) → offset + count ≤ file_length p f
      by (inl short) = let size = length_by_the_last_page p f (offset / 512) at (word (sector_at p at).label 3) whole page_here short in omega (arith, few, size)
      by (inr full) =
          let more = full_page_is_not_the_last p f (offset / 512) at whole (record { sector = page_here.sector; sized = sized; bytes = full }) in
          omega (arith, few, full, more)

  -- if it doesn't, the file ends in this page before they do
  pub past_file : (n : ℕ) → n ≡ length_at (page_of_byte offset) (word (sector_at p at).label 3) → offset % 512 + count ≤ 512 → word (sector_at p at).label 3 < offset % 512 + count → IsPast p f (offset + count) n
  past_file n is one_page many =
      let size = length_by_the_last_page p f (offset / 512) at (word (sector_at p at).label 3) whole page_here (omega (arith, one_page, many)) in
      record { is = omega (arith, is, size); past = omega (arith, is, many) }

  -- if it counts just these, the file ends with them
  pub ends_file : offset % 512 + count < 512 → offset % 512 + count ≡ word (sector_at p at).label 3 → offset + count ≡ file_length p f
  ends_file short is =
      let size = length_by_the_last_page p f (offset / 512) at (word (sector_at p at).label 3) whole page_here (omega (arith, short, is)) in
      omega (arith, is, size)

  -- if it counts another number, the file ends elsewhere: in this page, or after it if it is full
  pub other_end : (n : ℕ) → n ≡ length_at (page_of_byte offset) (word (sector_at p at).label 3) → word (sector_at p at).label 3 < 512 → offset % 512 + count ≢ word (sector_at p at).label 3 → IsNotAt p f (offset + count) n
  other_end n is short other =
      let size = length_by_the_last_page p f (offset / 512) at (word (sector_at p at).label 3) whole page_here short in
      record { is = omega (arith, is, size); apart = λ same. other (omega (arith, is, same)) }

  pub later_end : (n : ℕ) → n ≡ file_length p f → offset % 512 + count < 512 → 512 ≤ word (sector_at p at).label 3 → IsNotAt p f (offset + count) n
  later_end n is short most =
      let least : word (sector_at p at).label 3 ≤ 512 = counted (tag (sector_at p at).label) (ranged p at (page_number f (page_of_byte offset)) carries) in
      let more = full_page_is_not_the_last p f (offset / 512) at whole (record { sector = page_here.sector; sized = sized; bytes = omega (arith, most, least) }) in
      record { is = is; apart = λ same. omega (arith, is, same, more, short) }

-- ---- an end that isn't at the bytes
pub past_is_no_end : (ends : Bool) (p : Pack) (f : Fid) (end n : ℕ) → IsPast p f end n → IsNotEnd ends p f end n
past_is_no_end false p f end n h = h
past_is_no_end true p f end n h = record { is = h.is; apart = λ same. let past = h.past in omega (arith, same, past) }

pub below_is_no_end : (T U : Type 0) (ends : Bool) (p : Pack) (f : Fid) (offset count number : ℕ) (error : FileError) → number ≡ page_of_byte offset → IfBeyond {T = T} (Err error) (IsLengthBelow p f number) → IfBeyond {T = U} (Err error) (IsNotEnd ends p f (offset + count))
below_is_no_end T U ends p f offset count number (Misled place at wanted found) is h = tt
below_is_no_end T U ends p f offset count number (Beyond n) is h = past_is_no_end ends p f (offset + count) n (record { is = h.is; past = let below = h.below in omega (arith, below, is) })
below_is_no_end T U ends p f offset count number DiskFault is h = tt
below_is_no_end T U ends p f offset count number Memory is h = tt

pub not_at_is_no_end : (ends : Bool) (p : Pack) (f : Fid) (end n : ℕ) → ends ≡ true → IsNotAt p f end n → IsNotEnd ends p f end n
not_at_is_no_end ends p f end n is h = subst (λ b. IsNotEnd b p f end n) (sym is) h

some_words : (w : ℕ) (past : List ℕ) → (length (w ∷ past) == 0) ≡ false
some_words w past = by (length (w ∷ past) == 0) refl
  where
    by : (b : Bool) → (length (w ∷ past) == 0) ≡ b → (length (w ∷ past) == 0) ≡ false
    by true is = let none : suc (length past) ≡ 0 = eqb-true (length (w ∷ past)) 0 is in absurd (omega (arith, none))
    by false is = is

-- nothing was written then
pub ends_before : (T U : Type 0) (p : Pack) (f : Fid) (end : ℕ) (past : List ℕ) (ends : Bool) (old now : Around) (error : FileError) → ends ≡ not (length past == 0) → IsQuiet old now → IfBeyond {T = T} (Err error) (IsNotEnd ends p f end) → IfBeyond {T = U} (Err error) (EndsBeside p f end past old now)
ends_before T U p f end past ends old now (Misled place at wanted found) is quiet h = tt
ends_before T U p f end [] ends old now (Beyond n) is quiet h = let past : IsPast p f end n = subst (λ b. IsNotEnd b p f end n) is h in record { is = past.is; past = past.past; quiet = quiet }
ends_before T U p f end (w ∷ past) ends old now (Beyond n) is quiet h = let apart : IsNotAt p f end n = subst (λ b. IsNotEnd b p f end n) (is ∙ ap not (some_words w past)) h in record { is = apart.is; apart = apart.apart; quiet = quiet }
ends_before T U p f end past ends old now DiskFault is quiet h = tt
ends_before T U p f end past ends old now Memory is quiet h = tt

-- words come only where the file has to end
pub last_only : (p : Pack) (f : Fid) (offset : ℕ) (new past : List ℕ) (ends : Bool) → ends ≡ not (length past == 0) → (ends ≡ true → offset + length new ≡ file_length p f) → MayBePut p f offset new past
last_only p f offset new [] ends is last = record { last = inl refl }
last_only p f offset new (w ∷ past) ends is last = record { last = inr (last (is ∙ ap not (some_words w past))) }

-- a call that is never beyond
pub never_beyond : {T : Type 0} (P : ℕ → Type 0) (a b : Taped) (result : Result T FileError) → HasCause cause_of_length a b result → IfBeyond result P
never_beyond P a b (Ok x) h = tt
never_beyond P a b (Err (Misled place at wanted found)) h = tt
never_beyond P a b (Err (Beyond n)) h = absurd h
never_beyond P a b (Err DiskFault) h = tt
never_beyond P a b (Err Memory) h = tt
