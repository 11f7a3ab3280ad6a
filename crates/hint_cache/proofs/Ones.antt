-- Words of ones hold one entry, of a page that no file has.
use Rattle.std.proofs.Common.{◌≡◌, ◌∙◌, true, false, cond, IsTrue, [], ◌∷◌, replicate, Some, None, refl, sym, ap, subst}
use Rattle.std.specs.Option.{option_map}
use Rattle.alto_words.specs.Fid.{is_full_name}
use Rattle.disk_records.specs.declared.records.Page.{Page}
use Rattle.hint_cache.specs.declared.cache.Entry.{Entry}
use Rattle.hint_cache.specs.Caches.{is_page, address_in}
use Rattle.hint_cache.specs.Words.{cache_in, OnesNameNoFile}
use Rattle.hint_cache.proofs.Pages.{same_page}

abbrev ones : Page
ones = record { fid = record { high = 65535; low = 65535; version = 65535 }; number = 65535 }

one_entry : cache_in (replicate 241 65535) ≡ record { page = ones; at = 65535 } ∷ []
one_entry = refl

pub unlisted_by_ones : OnesNameNoFile
unlisted_by_ones page full = ap (λ l. address_in l page) one_entry ∙ (elim (is_page ones page) as (λ b. is_page ones page ≡ b → option_map (λ (e : Entry). e.at) (cond b (Some (record { page = ones; at = 65535 })) None) ≡ None) [
  | true ↦ λ is. let own : IsTrue (is_full_name ones.fid) = subst (λ (p : Page). IsTrue (is_full_name p.fid)) (sym (same_page ones page is)) full in cc
  | false ↦ λ is. refl
]) refl
