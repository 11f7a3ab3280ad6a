-- The sectors of a formatted pack, by their place.
use Rattle.std.proofs.Common.{◌≡◌, ℕ, zero, suc, ◌+◌, ◌-◌, ◌<◌, ◌≤◌, ◌++◌, refl, ap, subst, arith, replicate, get_or}
use Rattle.laws_hint.specs.disk_records.specs.declared.shape.Shape.{Shape}
use Rattle.laws_hint.specs.disk_records.specs.Commands.{ones}
use Rattle.laws_hint.specs.disk_records.specs.Packs.{no_sector, sector_at}
use Rattle.laws_hint.specs.pack_model.specs.sessions.Descriptor.{data_pages}
use Rattle.laws_hint.specs.pack_model.specs.sessions.Format.{Written, format_page, format_pages, formatted, free_after_format, with_headers}
use Rattle.laws_format.specs.Writing.{FormattedSectorsStand, headed}
use Rattle.laws_format.proofs.inside.Linking.{its_sector}
use Rattle.laws_format.proofs.inside.Shown.{sector_of}
use Rattle.laws_format.proofs.inside.Sighting.{used_few}

-- a free one
free_headed : (shape : Shape) (number at frees : ℕ) (w : Written) (j a : ℕ) → a ≡ at + j → j < frees → get_or (with_headers shape number at (replicate frees w)) j no_sector ≡ headed shape number a w
free_headed shape number at zero w j a e l = absurd (omega arith)
free_headed shape number at (suc frees) w zero a e l = let z : at ≡ a = omega arith in ap (λ n. headed shape number n w) z
free_headed shape number at (suc frees) w (suc j) a e l = free_headed shape number (suc at) frees w j a (omega arith) (omega arith)

-- after DiskDescriptor's pages
later_headed : (shape : Shape) (number at n k frees : ℕ) (w : Written) (j a : ℕ) → a ≡ at + j → k ≤ j → j < k + frees → get_or (with_headers shape number at (format_pages shape n k ++ replicate frees w)) j no_sector ≡ headed shape number a w
later_headed shape number at n zero frees w j a e low l = free_headed shape number at frees w j a e (omega arith)
later_headed shape number at n (suc k) frees w zero a e low l = absurd (omega arith)
later_headed shape number at n (suc k) frees w (suc j) a e low l = later_headed shape number (suc at) (suc n) k frees w j a (omega arith) (omega arith) (omega arith)

pub formatted_sectors_stand : FormattedSectorsStand
formatted_sectors_stand shape number moment = record {
  boot = refl;
  root_leader = refl;
  root_page = refl;
  its_leader = refl;
  its_pages = λ n low.
      let z : sector_of n ≡ 4 + n = omega arith in
      subst (λ at. sector_at (formatted shape number moment) at ≡ headed shape number at (format_page shape n)) z (its_sector shape number moment n low);
  frees = λ at low high.
      let z : sector_of (at - 4) ≡ at = omega arith in
      let few = used_few shape in
      subst (λ a. sector_at (formatted shape number moment) a ≡ headed shape number at (ones 8, ones 256)) z
      (later_headed shape number 4 0 (data_pages shape) (free_after_format shape) (ones 8, ones 256) (at - 4) at (omega arith) (omega arith) (omega arith));
}
