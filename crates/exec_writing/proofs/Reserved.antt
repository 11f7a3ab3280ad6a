-- A line that has looked and then reserved sectors: it may write, or too few are free.
use Rattle.std.proofs.Common.{◌≡◌, ◌≢◌, ◌∙◌, ℕ, Bool, IsTrue, List, [], All, AllPairs, true, ap, refl, sym, subst, arith}
use Rattle.std.proofs.lemmas.List.Kept.{AllPairs-from_increasing}
use Rattle.std.specs.List.Sorted.{IsStrictlyIncreasing}
use Rattle.disk_records.proofs.Growing.{alone_twice, pack-silent, silent_twice}
use Rattle.disk_records.specs.Events.{writes_in}
use Rattle.disk_records.specs.Packs.{AreFormed, Pack, is_free_at}
use Rattle.disk_records.specs.Tapes.{DiskAlone, Looks, Taped, added, capped, pack}
use Rattle.exec_session.specs.laws_hint.specs.TableLaws.{TableReserves}
use Rattle.exec_session.specs.page_alloc.specs.Free.{IsReserved}
use Rattle.pack_model.specs.hints.Tables.{TableTrue}
use Rattle.pack_model.specs.states.Sound.{Sound}
use Rattle.exec_steps.specs.Asked.{IsSameButTable}
use Rattle.exec_session.specs.Meant.{LooksAbout, kept}
use Rattle.exec_session.specs.Turned.{SameBut}
use Rattle.exec_session.specs.declared.session.Session.{Session}
use Rattle.exec_steps.specs.Midway.{AreFree}
use Rattle.exec_session.proofs.LookedBefore.{same_count}
use Rattle.exec_writing.proofs.Looked.{hints_alone}
use Rattle.exec_writing.proofs.Turns.{ReadyToWrite}

apart : (xs : List ℕ) → IsStrictlyIncreasing xs → AllPairs (λ i j. i ≢ j) xs
apart xs rising i j d less within e = let below = AllPairs-from_increasing xs rising i j d less within in absurd (omega (arith, below, e))

pub reserved_free : (p : Pack) (end n : ℕ) (bits : List Bool) (fresh : List ℕ) → IsReserved end n bits fresh → All (λ i. is_free_at p i ≡ true) fresh → AreFree p fresh
reserved_free p end n bits fresh reserved free = (free, apart fresh reserved.rising.rising)

module _ {told : Bool} {most few : ℕ} (old mid new : Taped) (one s t : Session) (is_told : IsTrue told) (about : LooksAbout told most old mid one s) (looks : Looks told few mid new) (same : IsSameButTable s t) where
  pub alone_both : DiskAlone old new
  alone_both = alone_twice about.looks.alone looks.alone

  pub silent_both : added old new ≡ []
  silent_both = silent_twice about.looks.alone.grown looks.alone.grown (about.looks.silent is_told) (looks.silent is_told)

  first_same : pack mid ≡ pack old
  first_same = pack-silent about.looks.alone.grown (about.looks.silent is_told)

  both_same : t ≡ record one { hints = t.hints }
  both_same = same ∙ ap (λ (x : Session). record x { hints = record { cache = s.hints.cache; table = t.hints.table } }) (hints_alone about.looked) ∙ ap (λ h. record one { hints = h }) (sym (ap (λ (x : Session). x.hints) same))

  table_first : s.hints.table ≡ one.hints.table
  table_first = ap (λ (x : Session). x.hints.table) about.looked.same

  pub table_was : TableTrue (pack old) one.hints.table → TableTrue (pack mid) s.hints.table
  table_was h = subst (λ p. TableTrue p s.hints.table) (sym first_same) (subst (TableTrue (pack old)) (sym table_first) h)

  pub ready_reserved : (fresh : List ℕ) → old.writes ≡ capped (writes_in old.events) → new.writes ≡ capped (writes_in new.events) → AreFormed (pack new) → AreFree (pack mid) fresh
      → (Sound (pack mid) → TableTrue (pack mid) s.hints.table → TableReserves (pack mid) t.hints.table fresh) → ReadyToWrite old new one t fresh
  ready_reserved fresh first next formed free table = record {
    looked = alone_both;
    silent = silent_both;
    writes = same_count old new alone_both silent_both first next;
    formed = formed;
    same = both_same;
    free = λ sound. subst (λ p. AreFree p fresh) first_same free;
    table = λ sound was. subst (λ p. TableReserves p t.hints.table fresh) first_same (table (subst Sound (sym first_same) sound) (table_was was));
  }

  -- where none were reserved
  pub same_but_reserved : Sound (pack old) → (Sound (pack mid) → TableTrue (pack mid) s.hints.table → TableTrue (pack mid) t.hints.table) → SameBut old new (kept one) (kept t)
  same_but_reserved sound table = subst (λ (x : Session). SameBut old new (kept one) (kept x)) (sym both_same) (record {
    world = record { moment = refl; level = refl; memory = refl; streams = refl; need = refl };
    shape = refl;
    last = refl;
    mark = refl;
    pages = refl;
    tally = refl;
    table = λ was. subst (λ p. TableTrue p t.hints.table) (sym (pack-silent alone_both.grown silent_both ∙ sym first_same)) (table (subst Sound (sym first_same) sound) (table_was was));
  })
