-- The laws of files, as they are stated.
pub use Rattle.pack_laws.proofs.inside.Filing.{leaders_and_pages_are_borne, places_are_lowest, stored_files_are_leaders_and_bytes}
use Rattle.pack_laws.proofs.Firsts.{first_is_borne}
use Rattle.pack_laws.specs.FileLaws.{FirstIsBears}

pub first_is_bears : (S X : Type 0) → FirstIsBears S X
first_is_bears S X = λ answer ss. first_is_borne answer ss
