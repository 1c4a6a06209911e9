-- `auctions_of_files_keep_limits`
use Rattle.valuation.proofs.Common.{IsAuction-auction_from}
use Rattle.valuation.proofs.laws.auctions_of_files_keep_limits.Goals as goal

pub returns : goal.returns
returns c = IsAuction-auction_from
