-- Opening a pack for a session, and going on after a scavenge.
use Rattle.std.specs.Prelude.{◌≡◌, ℕ, false, List, [], ◌∷◌, Option, Some, None, Result, Ok, Err}
use Rattle.alto_words.specs.declared.fid.Fid.{Fid}
use Rattle.alto_words.specs.Fid.{sys_dir}
use Rattle.disk_records.specs.Causes.{Cause, disk, other}
use Rattle.disk_records.specs.declared.records.Page.{Page}
use Rattle.disk_records.specs.declared.records.Place.{Place}
use Rattle.disk_records.specs.Packs.{Pack, carried, label_found}
use Rattle.disk_descriptor.specs.declared.errors.OpenError.{OpenError}
use Rattle.disk_descriptor.specs.declared.errors.OpenError.TheVariants as error
use Rattle.page_seeking.specs.declared.refs.FileError.{FileError}
use Rattle.page_seeking.specs.declared.refs.FileError.TheVariants as file
use Rattle.pack_model.specs.hints.Tables.{HintsTrue}
use Rattle.pack_model.specs.sessions.Tallies.{no_tally}
use Rattle.pack_model.specs.states.Sound.{Sound, Clean, mark_clean}
use Rattle.session_model.specs.Keeping.{Kept, world_of}
use Rattle.session_model.specs.Opening.{Begun, Renewed, Unready, no_root, no_descriptor, wrong_length, bad_descriptor, not_clean, unready, system_files, is_root, is_descriptor, descriptor_entry}
use Rattle.session_model.specs.Turning.{HintFailing}
use Rattle.session_model.specs.Worlds.{fresh_world, mended_world}
use Rattle.exec_session.specs.Meant.{kept}
use Rattle.exec_session.specs.declared.session.Session.{Session}

-- ---- opening
-- a hint to this file may mislead before the reason is found: none before the label in sector 1, and before the entry SysDir's alone
abbrev pub MayMislead : Fid → Option Unready → Type 0
MayMislead f None = Unit {0}
MayMislead f (Some (no_root found)) = ⊥
MayMislead f (Some no_descriptor) = f ≡ sys_dir
MayMislead f (Some (wrong_length length)) = Unit {0}
MayMislead f (Some (bad_descriptor word found)) = Unit {0}
MayMislead f (Some (not_clean mark)) = Unit {0}

-- a hint misled on the way to a system file
pub record MisledOpening (p : Pack) (place : Place) (at : ℕ) (wanted : Page) (found : Option (List ℕ)) : Type 0 where
  pub in_order : MayMislead wanted.fid (unready p)
  pub failing : HintFailing p [] system_files place at wanted found

-- why a pack that carries no page twice isn't opened: each reason if and only if it is the first, or a hint misled on the way
abbrev pub Refuses : Pack → OpenError → Type 0
Refuses p (error.NoRoot found) = unready p ≡ Some (no_root found)
Refuses p error.NoDescriptor = unready p ≡ Some no_descriptor
Refuses p (error.WrongLength length) = unready p ≡ Some (wrong_length length)
Refuses p (error.BadDescriptor word found) = unready p ≡ Some (bad_descriptor word found)
Refuses p (error.NotClean mark) = unready p ≡ Some (not_clean mark)
Refuses p (error.Misled place at wanted found) = MisledOpening p place at wanted found
Refuses p error.DiskFault = Unit {0}
Refuses p error.Memory = Unit {0}

abbrev pub Opens : Pack → ℕ → ℕ → Result Session OpenError → Type 0
Opens p moment limit (Ok s) = (unready p ≡ None) × (Sound p → Begun p (kept s) moment limit)
Opens p moment limit (Err e) = Refuses p e

-- on every machine: a session stands as it begins, and nothing is counted
pub record IsFresh (moment limit : ℕ) (k : Kept) : Type 0 where
  pub world : world_of k ≡ fresh_world moment
  pub tally : k.tally ≡ no_tally limit
  pub clean : k.mark ≡ mark_clean

-- a pack that carries no page twice is entered again if and only if nothing is against it
abbrev pub OpensAgain : Pack → Result (Unit {0}) OpenError → Type 0
OpensAgain p (Ok x) = unready p ≡ None
OpensAgain p (Err e) = Refuses p e

-- ---- after a scavenge
-- a pack that a scavenge has left
pub record Mended (p : Pack) : Type 0 where
  pub sound : Sound p
  pub clean : Clean p
  pub hints : HintsTrue p

abbrev pub RenewsNot : OpenError → Type 0
RenewsNot (error.NoRoot found) = ⊥
RenewsNot error.NoDescriptor = ⊥
RenewsNot (error.WrongLength length) = ⊥
RenewsNot (error.BadDescriptor word found) = ⊥
RenewsNot (error.NotClean mark) = ⊥
RenewsNot (error.Misled place at wanted found) = ⊥
RenewsNot error.DiskFault = Unit {0}
RenewsNot error.Memory = Unit {0}

abbrev pub Renews : Pack → Kept → Kept → Result (Unit {0}) OpenError → Type 0
Renews p one two (Ok x) = Renewed p one two
Renews p one two (Err e) = RenewsNot e

-- on every machine: the world goes on and needs no scavenge, the open streams and the tally stay, and no address is kept
pub record GoesOn (one two : Kept) : Type 0 where
  pub world : world_of two ≡ mended_world (world_of one)
  pub streams : two.streams ≡ one.streams
  pub tally : two.tally ≡ one.tally
  pub cache : two.cache ≡ []

-- ---- what is answered if a page of SysDir isn't read
abbrev pub root_error : FileError → OpenError
root_error (file.Misled place at wanted found) = error.Misled place at wanted found
root_error (file.Beyond length) = error.NoDescriptor
root_error file.DiskFault = error.DiskFault
root_error file.Memory = error.Memory

-- ---- causes
abbrev pub cause_of_open : OpenError → Cause
cause_of_open (error.NoRoot found) = other
cause_of_open error.NoDescriptor = other
cause_of_open (error.Misled place at wanted found) = other
cause_of_open (error.WrongLength length) = other
cause_of_open (error.BadDescriptor w found) = other
cause_of_open (error.NotClean mark) = other
cause_of_open error.DiskFault = disk
cause_of_open error.Memory = other

-- ---- the first two reasons
abbrev pub RootRefused : Pack → OpenError → Type 0
RootRefused p (error.NoRoot found) = (is_root (carried p 1) ≡ false) × (found ≡ label_found p 1)
RootRefused p error.NoDescriptor = ⊥
RootRefused p (error.WrongLength length) = ⊥
RootRefused p (error.BadDescriptor word found) = ⊥
RootRefused p (error.NotClean mark) = ⊥
RootRefused p (error.Misled place at wanted found) = ⊥
RootRefused p error.DiskFault = Unit {0}
RootRefused p error.Memory = Unit {0}

abbrev pub DescriptorRefused : Pack → OpenError → Type 0
DescriptorRefused p (error.NoRoot found) = ⊥
DescriptorRefused p error.NoDescriptor = is_descriptor (descriptor_entry p) ≡ false
DescriptorRefused p (error.WrongLength length) = ⊥
DescriptorRefused p (error.BadDescriptor word found) = ⊥
DescriptorRefused p (error.NotClean mark) = ⊥
DescriptorRefused p (error.Misled place at wanted found) = HintFailing p [] (sys_dir ∷ []) place at wanted found
DescriptorRefused p error.DiskFault = Unit {0}
DescriptorRefused p error.Memory = Unit {0}
