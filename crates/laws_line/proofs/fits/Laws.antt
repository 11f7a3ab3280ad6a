-- The laws of what is kept of DiskDescriptor: what other crates cite.
pub use Rattle.laws_line.proofs.inside.Fitting.{descriptor_fits_on, fitting_descriptor_may_close}
