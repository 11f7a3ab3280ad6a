-- Names that are the same, and entries that fit.
use Rattle.std.proofs.Common.{◌||◌, ◌≡◌, Bool, List, false, map, nat_eq, not, refl, sym, true, ℕ}
use Rattle.std.specs.Cmp.{IsEquivalence, nat_eq_equiv}
use Rattle.std.specs.Cmp.Lexicographic.{lists_equiv, pointwise}
use Rattle.pack_laws.specs.alto_words.specs.Fid.{disk_descriptor, is_directory, is_fid, sys_dir}
use Rattle.pack_laws.specs.alto_words.specs.Names.{fold_case, is_same_name}
use Rattle.pack_laws.specs.pack_model.specs.reading.Namings.{Naming, alike, descriptor_name, fits, is_own, keeps_system, sys_dir_name}
use Rattle.laws_record.proofs.Heads.{and_left, and_right}

-- ---- names are the same or not
pub same_equiv : IsEquivalence (pointwise nat_eq)
same_equiv = lists_equiv nat_eq_equiv

-- either way round
pub same_sym : (a b : List ℕ) → is_same_name a b ≡ is_same_name b a
same_sym a b = same_equiv.symm (map fold_case a) (map fold_case b)

-- names that are the same are the same to others
pub same_trans : (a b c : List ℕ) → is_same_name a b ≡ true → is_same_name a c ≡ is_same_name b c
same_trans a b c e = same_equiv.congr (map fold_case a) (map fold_case b) (map fold_case c) e

-- both or neither
pub alike_true : (a b : Bool) → alike a b ≡ true → a ≡ b
alike_true true b e = sym e
alike_true false false e = refl
alike_true false true e = cc

-- an entry that fits is DiskDescriptor's where it has its name in SysDir, and nowhere else
pub fits_own : (e : Naming) → fits e ≡ true → is_fid e.fid disk_descriptor ≡ is_own descriptor_name e
unfolding keeps_system
fits_own e f = alike_true _ _ (and_right (alike (is_fid e.fid sys_dir) (is_own sys_dir_name e)) _ (and_right (not (is_directory e.fid) || is_fid e.dir sys_dir) _ f))

-- and SysDir's likewise
pub fits_root : (e : Naming) → fits e ≡ true → is_fid e.fid sys_dir ≡ is_own sys_dir_name e
unfolding keeps_system
fits_root e f = alike_true _ _ (and_left (alike (is_fid e.fid sys_dir) (is_own sys_dir_name e)) _ (and_right (not (is_directory e.fid) || is_fid e.dir sys_dir) _ f))
