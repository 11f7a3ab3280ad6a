pub mod EntriesLaws
pub mod JoinLaws
pub mod Keeping
pub mod LackingLaws
pub mod ModelLaws
pub mod PartLaws
pub mod WriteLaws
pub use Rattle.laws_mend
