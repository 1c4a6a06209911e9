-- When two auctions are the same. Values are those of Nisan ("Bidding and allocation in combinatorial
-- auctions", 2000); a table has them on all bundles. XOR bidders have no names, so they are counted, each valuation by
-- itself; one that is 0 on every bundle offers nothing and does not count.
use Rattle.std.specs.Prelude.{◌≡◌, ℕ, Bool, true, List}
use Rattle.std.specs.List.{count_by}
use Rattle.std.specs.Ordering.{nat_cmp, is_eq}
use Rattle.std.specs.Cmp.Lexicographic.{slice_cmp}
use Rattle.bid_file.specs.Files.{PlainFile}
use Rattle.cats_text.specs.Grammar.{Spells}
use Rattle.valuation.specs.declared.atom.Atom.{Atom}
use Rattle.valuation.specs.Auctions.{PlainAuction, auction_from}
use Rattle.valuation.specs.Tables.{or_table, xor_table, is_nonzero}

-- the values of the OR bidder
abbrev pub or_values : PlainAuction → List ℕ
or_values a = or_table a.or_atoms a.goods

-- whether this is the XOR bidder's table of values
abbrev pub has_table : ℕ → List ℕ → List (Atom (List ℕ)) → Bool
has_table goods table bidder = is_eq (slice_cmp nat_cmp (xor_table bidder goods) table)

-- how many XOR bidders have this table of values
abbrev pub bidders_with : List ℕ → PlainAuction → ℕ
bidders_with table a = count_by (has_table a.goods table) a.xor_bidders

-- the same number of goods, the same OR value on every bundle, and as many XOR bidders of each valuation that is not
-- zero
pub record IsSameAuction (a b : PlainAuction) : Type 0 where
  pub goods : a.goods ≡ b.goods
  pub or_values : or_values a ≡ or_values b
  pub xor_bidders : (table : List ℕ) → is_nonzero table ≡ true → bidders_with table a ≡ bidders_with table b

-- two files of the same auction
abbrev pub AreSameFiles : PlainFile → PlainFile → Type 0
AreSameFiles f g = IsSameAuction (auction_from f) (auction_from g)

-- two texts that spell files of the same auction
pub record AreSameTexts (one other : List ℕ) : Type 0 where
  pub first : PlainFile
  pub second : PlainFile
  pub first_spelled : Spells one first
  pub second_spelled : Spells other second
  pub same : AreSameFiles first second
