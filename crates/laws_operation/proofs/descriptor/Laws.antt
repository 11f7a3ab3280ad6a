-- The laws of descriptor: what other crates cite.
pub use Rattle.laws_operation.proofs.CloseLaw.{close_carries_out}
pub use Rattle.laws_operation.proofs.inside.DescriptorValues.{close_keeps_links, open_keeps_links, serial_keeps_links}
pub use Rattle.laws_operation.proofs.inside.OpeningMark.{open_carries_out, serial_carries_out}
pub use Rattle.laws_operation.proofs.inside.links.OnceOthers.{close_carries_once, open_carries_once}
