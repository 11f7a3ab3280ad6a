-- What a session keeps as it begins.
use Rattle.std.specs.Prelude.{◌≡◌, ◌==◌, ℕ, false, []}
use Rattle.laws_line.specs.disk_records.specs.Packs.{Pack}
use Rattle.laws_line.specs.pack_model.specs.sessions.Descriptor.{DescriptorFits}
use Rattle.laws_line.specs.pack_model.specs.reading.Sights.{sights}
use Rattle.laws_line.specs.pack_model.specs.states.Sound.{Sound, mark_clean, mark_of}
use Rattle.session_model.specs.world_model.specs.Levels.{all_levels}
use Rattle.session_model.specs.Keeping.{Kept, Keeping, world_of}
use Rattle.session_model.specs.Opening.{unready, unless_so, not_clean}
use Rattle.session_model.specs.Turning.{opening}
use Rattle.session_model.specs.Worlds.{fresh_world, memory_words}

-- Of the world a fresh one is kept: the moment, all levels, a memory of one free block, no stream, and no need.
pub record KeepsFresh (k : Kept) (now : ℕ) : Type 0 where
  pub moment : k.moment ≡ now
  pub level : k.level ≡ all_levels
  pub memory : k.memory ≡ memory_words (fresh_world now)
  pub streams : k.streams ≡ []
  pub need : k.need ≡ false

-- so its world is the fresh one, and no other
abbrev pub FreshMemoryIsKept : Type 0
FreshMemoryIsKept = (k : Kept) (moment : ℕ) → KeepsFresh k moment → world_of k ≡ fresh_world moment

-- and with what DiskDescriptor says it is right for a sound pack
abbrev pub SessionsBegin : Type 0
SessionsBegin = (p : Pack) (k : Kept) (moment : ℕ) → Sound p → KeepsFresh k moment → DescriptorFits p k.shape k.last k.mark k.pages → Keeping p k (opening p moment)

-- ---- opening
-- a sound pack is ready to be entered if and only if its mark is clean
abbrev pub SoundPacksAreReady : Type 0
SoundPacksAreReady = (p : Pack) → Sound p → unready p ≡ unless_so (mark_of (sights p) == mark_clean) (not_clean (mark_of (sights p)))
