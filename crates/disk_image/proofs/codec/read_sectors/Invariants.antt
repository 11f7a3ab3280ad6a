use Rattle.std.proofs.Common.{◌≡◌, ◌+◌, ◌*◌, take, drop, All, vec_len, vec_capacity}
use Rattle.disk_image.specs.Images.{pack_bytes, IsWhole}
use Rattle.disk_image.proofs.codec.read_sectors.Given as goal

abbrev pub invariant-loop-at : goal.invariant-loop-at
invariant-loop-at l = record {
  count : vec_len l.sectors ≡ vec_len l.fn.sectors + l.at;
  capacity : vec_capacity l.sectors ≡ vec_capacity l.fn.sectors;
  kept : take (vec_len l.fn.sectors) l.sectors.items ≡ l.fn.sectors.items;
  whole : All IsWhole (drop (vec_len l.fn.sectors) l.sectors.items);
  so_far : take (l.at * 532) l.bytes ≡ pack_bytes (drop (vec_len l.fn.sectors) l.sectors.items);
}
