use Rattle.std.proofs.Common.{◌≡◌, ◌++◌, map, length, sym, ap, ◌∙◌, subst}
use Rattle.std.specs.List.{flat_map}
use Rattle.std.specs.BTreeMap.{get}
use Rattle.alto_words.specs.Fid.{fid_cmp}
use Rattle.pack_model.specs.showing.Listing.{listed_cmp, in_order}
use Rattle.alto_top.specs.Looking.{first_of, Knows, listed_in}
use Rattle.alto_top.specs.Showing.{line_text, count_text}
use Rattle.alto_top.proofs.Looking.{knows}
use Rattle.alto_top.proofs.Rows.{line_for, listing_is}
use Rattle.alto_top.proofs.listing.listing_of.Goals as goal

pub returns : goal.returns
returns c = λ v shows.
    let rows = c.in_ok-rows.rows in
    let name = get fid_cmp c.in_ok-by_file.by_file in
    let known : Knows name c.as_slice-2.result.now v = subst (λ files. Knows name files v) (sym c.as_slice-2.ensures)
    (knows name c.args.shown.now v shows (λ f. c.in_ok-by_file.ensures f ∙ ap (λ l. first_of (λ n. n.fid) (λ n. n.name) l f) c.as_slice.ensures)) in
    let listed : map listed_in rows.keys ≡ in_order listed_cmp (map (line_for v) c.args.shown.now.names) = c.in_ok-rows.ensures v known ∙ ap (λ l. in_order listed_cmp (map (line_for v) l)) c.as_slice-3.ensures in
    let text : c.push_count.new.text.items ≡ flat_map (λ l. line_text (listed_in l)) rows.keys ++ count_text (length c.args.shown.now.files) =
    c.in_ok-push_count.ensures ∙ (λ i. c.in_ok-text.ensures i ++ count_text (length (c.as_slice-4.ensures i))) in
    listing_is v c.args.shown.now rows.keys c.push_count.new.text.items shows listed text
