-- The laws of lines: what other crates cite.
pub use Rattle.laws_hint.proofs.inside.LineLinking.{line_closes_with_true_hints, line_keeps_links, links_join, opened_line_keeps_links}
