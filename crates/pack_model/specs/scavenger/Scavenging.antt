-- Which packs the Scavenger takes, what it refuses, and what it keeps at every crash point.
-- The Scavenger is that of the SOSP 1979 paper; what it refuses, and what it keeps at each crash point, are this project's choice.
use Rattle.std.specs.Prelude.{◌≡◌, ℕ, ◌+◌, ◌≤◌, suc, Bool, true, false, cond, not, nat_le, List, [], ◌∷◌, get_or, Option, Some, None}
use Rattle.disk_records.specs.alto_words.specs.Fid.{is_fid, sys_dir, disk_descriptor}
use Rattle.disk_records.specs.declared.shape.Shape.{Shape}
use Rattle.disk_records.specs.declared.records.Event.{Event}
use Rattle.disk_records.specs.Words.{word}
use Rattle.disk_records.specs.Packs.{Pack, sector_at, after}
use Rattle.pack_model.specs.reading.Sights.{Sight, sights}
use Rattle.pack_model.specs.reading.Sights.Sight.{hidden, free, stray, leads, holds}
use Rattle.pack_model.specs.reading.Files.{place}
use Rattle.pack_model.specs.showing.Settling.{show}
use Rattle.pack_model.specs.states.Sound.{Clean, mark_clean}
use Rattle.pack_model.specs.states.InUse.{counts, available, is_good}
use Rattle.pack_model.specs.scavenger.Needed.{needed}

-- ---- sector 1 has to become SysDir's leader
-- Its header is right, and it isn't in use by another page than SysDir's leader. It is the lowest sector that carries any page,
-- so it is in use where its page is within its file's end; a leader always is.
abbrev pub root_stands : Shape → List Sight → Sight → Bool
root_stands shape ss hidden = false
root_stands shape ss free = true
root_stands shape ss stray = true
root_stands shape ss (leads f readable l) = is_fid f sys_dir
root_stands shape ss (holds f n bytes) = not (counts shape ss f (suc n))

abbrev pub RootStands : Shape → List Sight → Type 0
RootStands shape ss = root_stands shape ss (get_or ss 1 hidden) ≡ true

-- ---- what is refused
-- Sector 1 has a wrong header, these words; it is in use by another page than SysDir's leader, and this is its label; so many
-- sectors are needed, and only so many are available.
pub data Refusal : Type 0 where
  root_bad : List ℕ → Refusal
  root_taken : List ℕ → Refusal
  pack_full : ℕ → ℕ → Refusal

abbrev pub refusal_of : Shape → List Sight → List ℕ → List ℕ → Option Refusal
refusal_of shape ss header label =
    cond (not (is_good (get_or ss 1 hidden))) (Some (root_bad header))
    (cond (not (root_stands shape ss (get_or ss 1 hidden))) (Some (root_taken label))
    (cond (nat_le (needed shape ss) (available shape ss)) None (Some (pack_full (needed shape ss) (available shape ss)))))

-- the first that holds, if one does
abbrev pub first_refusal : Pack → Option Refusal
first_refusal p = refusal_of p.shape (sights p) (sector_at p 1).header (sector_at p 1).label

-- None of them holds.
pub record Scavengeable (p : Pack) : Type 0 where
  pub root : RootStands p.shape (sights p)
  pub room : needed p.shape (sights p) ≤ available p.shape (sights p)

-- ---- what the Scavenger keeps
-- The pack q, at some crash point of a scavenge of p, shows what p shows; the available sectors less the needed ones are as many as there;
-- and it is scavengeable where p is.
pub record Keeps (p q : Pack) : Type 0 where
  pub shown : show q ≡ show p
  pub balance : available q.shape (sights q) + needed p.shape (sights p) ≡ available p.shape (sights p) + needed q.shape (sights q)
  pub scavengeable : Scavengeable p → Scavengeable q

-- and its mark isn't clean: so at each crash point with a record write, except the last one
pub record Mends (p q : Pack) : Type 0 where
  pub keeps : Keeps p q
  pub unclean : Clean q → ⊥

-- P holds of the pack at each crash point of these events
abbrev pub Throughout : (Pack → Type 0) → Pack → List Event → Type 0
Throughout P p [] = P p
Throughout P p (e ∷ events) = P p × Throughout P (after p (e ∷ [])) events

-- No sector carries DiskDescriptor's first data page, or the lowest that does has another word 6 than the clean mark, whatever its
-- byte count says.
abbrev pub Unmarked : Pack → Type 0
Unmarked p = (at : ℕ) → place (sights p) disk_descriptor 1 ≡ Some at → word (sector_at p at).value 6 ≡ mark_clean → ⊥
