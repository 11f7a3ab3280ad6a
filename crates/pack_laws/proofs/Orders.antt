-- The orders of names and of lines of the listing.
use Rattle.std.proofs.Common.{◌≡◌, ◌≢◌, true, false, sym, ap, ◌∙◌}
use Rattle.std.specs.declared.cmp.Ordering.{Ordering}
use Rattle.std.specs.declared.cmp.Ordering.TheVariants.{Less, Equal, Greater}
use Rattle.std.specs.Ordering.{is_eq, ordering_then}
use Rattle.std.specs.Cmp.{IsTotalOrder, then_total, on_total}
use Rattle.std.specs.Cmp.Lexicographic.{options_total}
use Rattle.pack_model.specs.alto_words.specs.Names.{folded_cmp}
use Rattle.pack_model.specs.alto_words.proofs.Folding.{folded_cmp-total}
use Rattle.pack_model.specs.showing.Listing.{naming_cmp, listed_cmp}
use Rattle.pack_laws.proofs.Keys.{fid_total}

pub name_total : IsTotalOrder folded_cmp
name_total = folded_cmp-total

pub naming_total : IsTotalOrder naming_cmp
naming_total = then_total (on_total (λ n. n.dir) fid_total) (then_total (on_total (λ n. n.name) name_total) (on_total (λ n. n.fid) fid_total))

pub listed_total : IsTotalOrder listed_cmp
listed_total = then_total (on_total (λ l. l.dir_name) (options_total name_total)) (on_total (λ l. l.naming) naming_total)

-- where the last of three orders doesn't tie, they don't tie together
pub last_apart : (a b c : Ordering) → is_eq c ≡ false → ordering_then a (ordering_then b c) ≢ Equal
last_apart Less b c differs e = cc
last_apart Greater b c differs e = cc
last_apart Equal Less c differs e = cc
last_apart Equal Greater c differs e = cc
last_apart Equal Equal c differs e = let h : true ≡ false = sym (ap is_eq e) ∙ differs in cc
