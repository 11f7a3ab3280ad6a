-- Where the addresses of leaders came from, on a pack on which one misleads.
use Rattle.std.proofs.Common.{◌≡◌, Some, ap, arith, refl}
use Rattle.pack_laws.specs.alto_words.specs.Fid.{sys_dir}
use Rattle.pack_laws.specs.disk_records.specs.declared.records.Place.TheVariants.{Root, Entry, Next, Held}
use Rattle.pack_laws.specs.disk_records.specs.Addresses.{real_of}
use Rattle.pack_laws.specs.disk_records.specs.Labels.{in_range}
use Rattle.pack_laws.specs.disk_records.specs.Packs.{carried}
use Rattle.pack_laws.specs.pack_model.specs.hints.Misled.{leader_page}
use Rattle.pack_laws.specs.pack_model.specs.hints.Sources.{IsFrom}
use Rattle.pack_vectors.proofs.LinkVectors.{number_in}
use Rattle.pack_vectors.proofs.MisledVectors.{wrong, wrong_stands}
use Rattle.pack_vectors.proofs.SmallPacks.{file_3}

-- SysDir is found at its fixed address, and in no other way at another; a file at the address in its entry, though its leader isn't there
root_found : IsFrom wrong sys_dir 1 Root
root_found = (refl, refl)

entry_found : IsFrom wrong file_3 6 (Entry sys_dir 29)
entry_found = wrong_stands

-- where its leader is, once that was checked
leader_there : carried wrong 5 ≡ Some (leader_page file_3)
unfolding real_of in_range
leader_there = refl

held_found : IsFrom wrong file_3 5 (Held 5)
held_found = (refl, leader_there)

-- and not where its page 1 is, nor by a link
page_there : carried wrong 6 ≡ Some (leader_page file_3) → ⊥
unfolding real_of in_range
page_there e = let numbers : 1 ≡ 0 = ap (λ r. number_in r) e in omega (arith, numbers)

none_held : IsFrom wrong file_3 6 (Held 6) → ⊥
none_held h = page_there h.1

none_linked : IsFrom wrong file_3 6 (Next 5) → ⊥
none_linked h = h
