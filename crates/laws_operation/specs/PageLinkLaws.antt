-- The links of pages by the places of their file's pages.
use Rattle.std.specs.Prelude.{Some, suc, ℕ, ◌≡◌}
use Rattle.laws_contents.specs.alto_words.specs.declared.fid.Fid.{Fid}
use Rattle.laws_contents.specs.disk_records.specs.Packs.{Pack, sector_at}
use Rattle.laws_contents.specs.disk_records.specs.Words.{word}
use Rattle.laws_contents.specs.pack_model.specs.hints.Links.{LinksTrue, link_to}
use Rattle.laws_contents.specs.pack_model.specs.reading.Files.{place}
use Rattle.laws_contents.specs.pack_model.specs.reading.Sights.{sights}
use Rattle.laws_contents.specs.pack_model.specs.states.Whole.{Whole}

-- on a whole pack with true links the next link of a page names the place of the page after it, or is no link where that has none
abbrev pub NextLinkNamesThePageAfter : Type 0
NextLinkNamesThePageAfter = (p : Pack) (f : Fid) (n i : ℕ) → Whole p → LinksTrue p → place (sights p) f n ≡ Some i → word (sector_at p i).label 0 ≡ link_to p.shape (place (sights p) f (suc n))
