-- The last page of a file, from a data page of it on.
use Rattle.std.proofs.Common.{Bool, IsTrue, List, None, Option, Some, [], arith, cond, false, inr, nat_lt, refl, subst, sym, true, ℕ, ◌&&◌, ◌<◌, ◌==◌, ◌≡◌, ◌≢◌, ◌≤◌}
use Rattle.std.proofs.lemmas.Bool.Decides.{nat_tests}
use Rattle.alto_words.specs.declared.fid.Fid.{Fid}
use Rattle.disk_records.proofs.Looking.{looks_pack}
use Rattle.disk_records.specs.Addresses.{pages_of, real_of}
use Rattle.disk_records.specs.Labels.{page_of}
use Rattle.disk_records.specs.Packs.{Pack, carried, sector_at}
use Rattle.disk_records.specs.Tapes.{Looks, Taped, pack}
use Rattle.disk_records.specs.Words.{word}
use Rattle.disk_records.specs.declared.records.Page.{Page}
use Rattle.disk_records.specs.declared.records.Place.{Place}
use Rattle.label_check.specs.declared.errors.PageInfo.{PageInfo}
use Rattle.pack_model.specs.operations.Committing.{page_of_byte}
use Rattle.pack_model.specs.states.Whole.{Whole}
use Rattle.page_seeking.proofs.Lasting.{is_last}
use Rattle.page_seeking.specs.Refs.{MisledBy}
use Rattle.page_seeking.specs.Seeking.{EndsAtPage, IsLast, file_length, page_number}
use Rattle.file_pages.proofs.Remaining.{more_after}
use Rattle.file_pages.specs.Ends.{IsDataPage}
use Rattle.file_pages.specs.Releasing.{Follows, IsKnown, MisledSince}

-- a sector that carries a page is a usable one
pub carried_within : (p : Pack) (at : ℕ) (page : Page) → carried p at ≡ Some page → (1 ≤ at) × (at < pages_of p.shape)
carried_within p at page = by (nat_lt 0 at) (nat_lt at (pages_of p.shape)) refl refl
  where
    by : (a b : Bool) → nat_lt 0 at ≡ a → nat_lt at (pages_of p.shape) ≡ b → cond (a && (b && (word (sector_at p at).header 1 == real_of p.shape at))) (page_of (sector_at p at).label) None ≡ Some page → (1 ≤ at) × (at < pages_of p.shape)
    by true true first last e = (grind (arith, nat_tests), grind (arith, nat_tests))
    by true false first last e = absurd cc
    by false b first last e = absurd cc

-- ---- a data page that was read
-- nothing was written since
pub page_before : {told : Bool} {n : ℕ} {a b : Taped} {f : Fid} {number at : ℕ} {info : PageInfo} → Looks told n a b → IsDataPage told (pack b) f number at info → IsDataPage told (pack a) f number at info
page_before {f = f} {number} {at} {info} looks page = record {
  first = page.first;
  most = page.most;
  known = λ told. subst (λ (p : Pack). IsKnown p (page_number f number) at info) (looks_pack looks told) (page.known told);
}

pub page_after_looks : {told : Bool} {n : ℕ} {a b : Taped} {f : Fid} {number at : ℕ} {info : PageInfo} → Looks told n a b → IsDataPage told (pack a) f number at info → IsDataPage told (pack b) f number at info
page_after_looks {f = f} {number} {at} {info} looks page = record {
  first = page.first;
  most = page.most;
  known = λ told. subst (λ (p : Pack). IsKnown p (page_number f number) at info) (sym (looks_pack looks told)) (page.known told);
}

-- one that ends the file is the last
pub last_of : {told : Bool} {p : Pack} {f : Fid} {number at : ℕ} {info : PageInfo} → Whole p → IsTrue told → IsDataPage told p f number at info → EndsAtPage number info.bytes → IsLast p f (record { number = number; at = at; info = info })
last_of {p = p} {at = at} {info} whole told page end =
    let known = page.known told in
    is_last {form = p.shape} {found = record { at = at; info = info }} whole told (record {
      first = page.first;
      known = record { first = known.first; last = known.last; carries = λ told. known.carries; tells = λ told. known.tells; sized = λ told. known.sized };
      ends = end.ends;
    })

-- and the last isn't full
pub last_is_short : {told : Bool} {p : Pack} {f : Fid} {number at : ℕ} {info : PageInfo} → Whole p → IsTrue told → IsDataPage told p f number at info → number ≡ page_of_byte (file_length p f) → info.bytes ≢ 512
last_is_short {p = p} {f} {number} {at} {info} whole told page is full = let more = more_after p f number at info (page.known told) (inr full) whole in omega (arith, more, is)

-- ---- a link that is followed from it
pub follows_itself : {p : Pack} {page : Page} {at : ℕ} {info : PageInfo} → IsKnown p page at info → Follows p p page at info
follows_itself known = record { shape = refl; known = known; later = λ i n above there. refl; only = λ i page there. there }

-- one that misled since then misled then
pub misled_then : {told : Bool} {n : ℕ} {a b : Taped} (f : Fid) (place : Place) (at : ℕ) (wanted : Page) (found : Option (List ℕ)) → Looks told n a b → IsTrue told → MisledSince (pack b) (pack b) f place at wanted found → MisledBy (pack a) [] f place at wanted found
misled_then f place at wanted found looks told x =
    subst (λ (p : Pack). MisledBy p [] f place at wanted found) (looks_pack looks told) (record { own = x.link.own; answers = record { misled = x.misled; on_disk = x.on_disk; finds = x.finds } })
