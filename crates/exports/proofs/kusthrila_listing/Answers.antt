use lib.ListN.{length}
use Rattle.exports.proofs.Codes.{listed_told, low_case, written_same, written_into}
use Rattle.exports.proofs.kusthrila_listing.Goals as goal

pub coded-requires : goal.coded-requires
coded-requires c = let listed = c.write_listing.ensures in
    low_case (listed_told c.args.list.now (length c.args.out.now) listed.by_index) c.write_listing.result
    (written_same c.write_listing.result listed.written_as)

pub returns : goal.returns
returns c = let listed = c.write_listing.ensures in
    written_into (listed_told c.args.list.now (length c.args.out.now) listed.by_index) c.write_listing.result
    listed.written_as c.coded.ensures
