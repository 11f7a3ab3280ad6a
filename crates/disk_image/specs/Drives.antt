-- On which drive a sector of a pack stands.
use Rattle.std.specs.Prelude.{◌≡◌, ℕ, ◌+◌, ◌<◌}
use Rattle.disk_records.specs.declared.shape.Shape.{Shape}
use Rattle.disk_records.specs.Addresses.{disks_of}
use Rattle.disk_image.specs.Images.{first_drive}
use Rattle.disk_image.specs.declared.drives.OnDrive.{OnDrive}
use Rattle.disk_image.specs.declared.drives.OnDrive.TheVariants.{First, Second}

-- a sector of the first drive stands in the first file at its address, and one of the second drive in the other file, whose sectors come
-- after those of the first
abbrev pub IsOnDrive : Shape → ℕ → OnDrive → Type 0
IsOnDrive shape at (First spot) = (spot.at ≡ at) × (spot.ahead ≡ at) × (at < first_drive shape)
IsOnDrive shape at (Second spot) = (disks_of shape ≡ 2) × (spot.at ≡ at) × (at ≡ first_drive shape + spot.ahead)
