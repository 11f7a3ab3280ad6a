use Rattle.std.proofs.Common.{◌≡◌, ◌*◌, ◌≤◌, length, take, All, vec_len, vec_capacity}
use Rattle.disk_image.specs.Images.{pack_bytes, IsWhole}
use Rattle.disk_image.proofs.codec.encode_drive.Given as goal

abbrev pub invariant-loop-sector : goal.invariant-loop-sector
invariant-loop-sector l = record {
  one : length l.one ≡ 532;
  count : vec_len l.bytes ≡ l.sector-index * 532;
  capacity : length l.sectors * 532 ≤ vec_capacity l.bytes;
  whole : All IsWhole (take l.sector-index l.sectors);
  so_far : l.bytes.items ≡ pack_bytes (take l.sector-index l.sectors);
}
