-- Full names of files: a serial of 31 bits in two words, the directory mark, and a version.
use Rattle.std.specs.Prelude.{ℕ, ◌+◌, ◌*◌, ◌/◌, ◌%◌, ◌==◌, ◌&&◌, ◌||◌, Bool, not, nat_le}
use Rattle.std.specs.declared.cmp.Ordering.{Ordering}
use Rattle.std.specs.Ordering.{nat_cmp, eq_by_cmp, then_cmp, on}
use Rattle.alto_words.specs.declared.fid.Fid.{Fid}

-- the order of full names: by high word, low word and version
abbrev pub fid_cmp : Fid → Fid → Ordering
fid_cmp = then_cmp (on (λ f. f.high) nat_cmp) (then_cmp (on (λ f. f.low) nat_cmp) (on (λ f. f.version) nat_cmp))

-- whether two full names are one
abbrev pub is_fid : Fid → Fid → Bool
is_fid = eq_by_cmp fid_cmp

-- the serial without the directory mark
abbrev pub serial_of : Fid → ℕ
serial_of f = f.high % 32768 * 65536 + f.low

-- a serial above 0, and a version that can be given
abbrev pub is_full_name : Fid → Bool
is_full_name f = nat_le 1 f.version && nat_le f.version 65534 && not (serial_of f == 0)

-- the directory mark is the top bit of the high word
abbrev pub is_directory : Fid → Bool
is_directory f = nat_le 32768 f.high

abbrev pub ordinary_fid : ℕ → Fid
ordinary_fid serial = record { high = serial / 65536; low = serial % 65536; version = 1 }

abbrev pub directory_fid : ℕ → Fid
directory_fid serial = record { high = serial / 65536 + 32768; low = serial % 65536; version = 1 }

-- the two system files
abbrev pub sys_dir : Fid
sys_dir = record { high = 32768; low = 1; version = 1 }

abbrev pub disk_descriptor : Fid
disk_descriptor = record { high = 0; low = 2; version = 1 }

abbrev pub is_system : Fid → Bool
is_system f = is_fid f sys_dir || is_fid f disk_descriptor
