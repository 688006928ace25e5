-- `write_listing` meets its contract: the answer for the list of the text.
use mathlib.Core.Path.{sym, refl, ◌∙◌, ap}
use Rattle.std.specs.Prelude.{Err}
use Rattle.std.proofs.lemmas.Result.{err_from_is_err_and}
use Rattle.from_source.proofs.Listings.{error_listing, error_refusal, listing_list, list_refusal}
use Rattle.from_source.proofs.listing.write_listing.Goals as goal

pub returns-in_err-n-clause-source_written_as : goal.returns-in_err-n-clause-source_written_as
returns-in_err-n-clause-source_written_as c =
    let p = err_from_is_err_and c.from_residual.result c.from_residual.ensures.1 in
    let room = sym c.zeroed-list.ensures.len in
    rw (p.1, p.2) (error_listing c.args.text.now c.args.out.now room c.in_err-n.field-0.0 c.in_err-n.ensures)

pub returns-in_err-n-clause-by_index : goal.returns-in_err-n-clause-by_index
returns-in_err-n-clause-by_index c =
    let room = sym c.zeroed-list.ensures.len in
    error_refusal c.args.text.now c.args.out.now room c.in_err-n.field-0.0 c.in_err-n.ensures

pub returns-in_err-write_listing-clause-source_written_as : goal.returns-in_err-write_listing-clause-source_written_as
returns-in_err-write_listing-clause-source_written_as c =
    let residual = c.from_residual-in_err-write_listing in
    let p = err_from_is_err_and residual.result residual.ensures.1 in
    let room = sym c.zeroed-list.ensures.len in
    listing_list c.args.text.now c.args.out.now room c.in_ok-n.ensures c.in_err-write_listing.ensures.written_as
    (p.1 ∙ ap Err p.2)

pub returns-in_err-write_listing-clause-by_index : goal.returns-in_err-write_listing-clause-by_index
returns-in_err-write_listing-clause-by_index c =
    let room = sym c.zeroed-list.ensures.len in
    list_refusal c.args.text.now c.args.out.now room c.in_ok-n.ensures c.in_err-write_listing.ensures.by_index

pub returns-clause-source_written_as : goal.returns-clause-source_written_as
returns-clause-source_written_as c =
    let room = sym c.zeroed-list.ensures.len in
    listing_list c.args.text.now c.args.out.now room c.in_ok-n.ensures c.in_ok-write_listing.ensures.written_as refl

pub returns-clause-by_index : goal.returns-clause-by_index
returns-clause-by_index c =
    let room = sym c.zeroed-list.ensures.len in
    list_refusal c.args.text.now c.args.out.now room c.in_ok-n.ensures c.in_ok-write_listing.ensures.by_index
