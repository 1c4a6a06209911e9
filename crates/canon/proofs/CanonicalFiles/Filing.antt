-- The file of an auction is made bid by bid: one more atom of a bidder, and one more bidder.
use Rattle.canon.proofs.Common.{◌≡◌, ℕ, ◌+◌, ◌<◌, ◌≤◌, List, [], ◌∷◌, ◌++◌, length, map, drop, get_or, Option, Some, sym, ap, ◌∙◌, subst, append_assoc, Global}
use Rattle.canon.proofs.Common.{rules, Vec, drop-map, drop_more, append-nil, drop_all, length-map, PlainBid, PlainFile, IsBidFile, IsPlainFile, Atom}
use Rattle.canon.proofs.Common.{PlainAuction, IsAuction, drop-atoms_of, bidders_of, atoms_of, bid_from, dummy_bids, file_from}
use Rattle.canon.proofs.CanonicalFiles.Files.{IsPlainFile-file_from}

-- one more bid, and one atom less to come
pub one_more_bid : {S : Type 0} (goods : S → List ℕ) (dummy : Option ℕ) (old new : List PlainBid) (bundle : List ℕ) (atoms : List (Atom S)) (i : ℕ) (a : Atom S)
    → i < length atoms → a ≡ get_or atoms i a → bundle ≡ goods a.bundle → new ≡ old ++ bid_from dummy (record { bundle = bundle; price = a.price }) ∷ []
    → new ++ map (bid_from dummy) (drop (i + 1) (atoms_of goods atoms)) ≡ old ++ map (bid_from dummy) (drop i (atoms_of goods atoms))
one_more_bid goods dummy old new bundle atoms i a l e its more = search (rules, append_assoc, drop-atoms_of)

-- none is to come
pub all_bids : {X Y : Type 0} (done : List Y) (f : X → Y) (xs : List X) (i : ℕ) (all : List Y) → length xs ≤ i → done ++ map f (drop i xs) ≡ all → done ≡ all
all_bids {X} {Y} done f xs i all l h = search (rules, append-nil, drop_all)

-- the bidder at an index, and those behind it
pub next_bidder : {S : Type 0} (goods : S → List ℕ) (bidders : List (Vec (Atom S) Global)) (i : ℕ) (b : Vec (Atom S) Global)
    → i < length bidders → b ≡ get_or bidders i b → drop i (bidders_of goods bidders) ≡ atoms_of goods b.items ∷ drop (i + 1) (bidders_of goods bidders)
next_bidder {S} goods bidders i b l e = search (rules, drop-map, drop_more)

-- one more bidder, and one less to come
pub one_more_bidder : {S : Type 0} (goods : S → List ℕ) (old new : List PlainBid) (bidders : List (Vec (Atom S) Global)) (i : ℕ) (b : Vec (Atom S) Global)
    → i < length bidders → b ≡ get_or bidders i b → new ≡ old ++ map (bid_from (Some i)) (atoms_of goods b.items)
    → new ++ dummy_bids (i + 1) (drop (i + 1) (bidders_of goods bidders)) ≡ old ++ dummy_bids i (drop i (bidders_of goods bidders))
one_more_bidder {S} goods old new bidders i b l e more = search (rules, append_assoc, next_bidder)

pub all_bidders : (done all : List PlainBid) (i : ℕ) (bidders : List (List (Atom (List ℕ)))) → length bidders ≤ i → done ++ dummy_bids i (drop i bidders) ≡ all
    → done ≡ all
all_bidders done all i bidders l h = search (rules, append-nil, drop_all)

-- ---- the parts of the file

pub file_parts : (a : PlainAuction) (goods dummy : ℕ) (bids : List PlainBid) → goods ≡ a.goods → dummy ≡ length a.xor_bidders → bids ≡ (file_from a).bids
    → ◌≡◌ {A = PlainFile} (record { goods = goods; dummy = dummy; bids = bids }) (file_from a)
file_parts a goods dummy bids e f h = search rules

pub file_limits : (cap : ℕ) (a : PlainAuction) → IsAuction cap a → (goods dummy : ℕ) (bids : List PlainBid) → goods ≡ a.goods → dummy ≡ length a.xor_bidders
    → bids ≡ (file_from a).bids → IsBidFile goods dummy bids
file_limits cap a facts goods dummy bids e f h =
    subst (λ (x : PlainFile). IsPlainFile x) (sym (file_parts a goods dummy bids e f h)) (IsPlainFile-file_from cap a facts)

pub length-bidders : {S : Type 0} (goods : S → List ℕ) (bidders : List (Vec (Atom S) Global)) (all : List (List (Atom (List ℕ))))
    → bidders_of goods bidders ≡ all → length bidders ≡ length all
length-bidders {S} goods bidders all e = sym (length-map bidders (λ (v : Vec (Atom S) Global). atoms_of goods v.items)) ∙ ap length e
