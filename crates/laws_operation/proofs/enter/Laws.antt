-- The laws of enter: what other crates cite.
pub use Rattle.laws_operation.proofs.EnterMoves.{enter_carries_out}
pub use Rattle.laws_operation.proofs.inside.links.DirValues.{join_keeps_links, loose_words_keep_links}
pub use Rattle.laws_operation.proofs.inside.links.Entering.{enter_keeps_links}
pub use Rattle.laws_operation.proofs.inside.links.OnceOthers.{enter_carries_once}
pub use Rattle.laws_operation.proofs.inside.looks.Apart.{free_name_is_apart_for_a_nameless_file}
pub use Rattle.laws_operation.proofs.inside.looks.Freed.{enter_leaves_free_sectors}
pub use Rattle.laws_operation.proofs.inside.words.EntryBytes.{entry_words_fit}
pub use Rattle.laws_operation.proofs.inside.words.RoomFound.{enter_words_fit}
