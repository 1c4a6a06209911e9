-- A text without a fault spells the file that it says, and a text that spells a file has no fault and says that file.
use Rattle.cats_text.proofs.Common.{rules, ◌≡◌, ℕ, ◌≤◌, cond, ◌⊎◌, inl, inr, List, [], ◌∷◌, length, Option, Some, None, refl, sym, ap, ◌∙◌, subst, arith}
use Rattle.cats_text.proofs.Common.{AllByRecursion, slice_get, Word, significant_lines, line_count, number_of, PlainFile, IsBid, IsPlainFile, Spells}
use Rattle.cats_text.proofs.Common.{SpellsBid, SpellsNumber, line_number, significant_words, bounds_of, header_value, first_fault, filled, bid_of, slots_of}
use Rattle.cats_text.proofs.Common.{file_of_lines, spelled_file, ReadFault, MAX_GOODS, MAX_BIDS, MAX_DUMMY, common_steps, codes}
use Rattle.cats_text.proofs.Spelling.BidsByNumber.{FillPlaces, length_bids, bids_stand, bids_all, bids_are}
use Rattle.cats_text.proofs.Spelling.Tests.{IsHeader, header_number}
use Rattle.cats_text.proofs.Spelling.Goods.{IsBidLine}
use Rattle.cats_text.proofs.Spelling.Lines.{words_from, words_none, AreBidLines, AreFileLines, lines_from, lines_none, fill_places}
use Rattle.cats_text.proofs.Spelling.Bids.{line_is_bid, line_spells, file_bounds, spelled_line, spelled_bid}

all_same : (P Q : List Word → Type 0) → ((x : List Word) → P x → Q x) → (xs : List (List Word)) → AllByRecursion P xs → AllByRecursion Q xs
all_same P Q h [] a = tt
all_same P Q h (x ∷ xs) a = (h x a.0, all_same P Q h xs a.1)

all_both : (P Q R : List Word → Type 0) → ((x : List Word) → P x → Q x → R x) → (xs : List (List Word)) → AllByRecursion P xs → AllByRecursion Q xs
    → AllByRecursion R xs
all_both P Q R h [] a b = tt
all_both P Q R h (x ∷ xs) a b = (h x a.0 b.0, all_both P Q R h xs a.1 b.1)

-- ---- no fault

pub spells_from_no_fault : (text : List ℕ) → first_fault text ≡ None → Spells text (spelled_file text)
spells_from_no_fault text none =
    let p : AreFileLines (significant_words text) = search (rules, lines_from, words_from) in
    let fill : FillPlaces (header_value p.b) p.bid_lines = fill_places (bounds_of p.g p.b p.d) p.bid_lines p.are in
    let count : length (filled (slots_of (header_value p.g) p.bid_lines)) ≡ header_value p.b =
    length_bids (header_value p.g) (header_value p.b) p.bid_lines fill in
    let goods_value : header_value p.g ≡ number_of p.goods.number = header_number (codes "goods") MAX_GOODS p.g p.goods in
    let bids_value : header_value p.b ≡ number_of p.bids.number = header_number (codes "bids") MAX_BIDS p.b p.bids in
    let dummy_value : header_value p.d ≡ number_of p.dummy.number = header_number (codes "dummy") MAX_DUMMY p.d p.dummy in
    subst (Spells text) (sym (ap file_of_lines p.lines_are)) (record {
      goods = p.goods.number;
      bids = p.bids.number;
      dummy = p.dummy.number;
      bid_lines = p.bid_lines;
      lines_are = p.lines_are ∙ ap (λ ws. ws ∷ p.b ∷ p.d ∷ p.bid_lines) p.goods.words_are
          ∙ ap (λ ws. (codes "goods" ∷ p.goods.number ∷ []) ∷ ws ∷ p.d ∷ p.bid_lines) p.bids.words_are
          ∙ ap (λ ws. (codes "goods" ∷ p.goods.number ∷ []) ∷ (codes "bids" ∷ p.bids.number ∷ []) ∷ ws ∷ p.bid_lines) p.dummy.words_are;
      goods_spelled = record { number = p.goods.spelled; value = sym goods_value };
      bids_spelled = record { number = p.bids.spelled; value = sym bids_value ∙ sym count };
      dummy_spelled = record { number = p.dummy.spelled; value = sym dummy_value };
      count = fill.count ∙ sym count;
      distinct = p.are.distinct;
      each = all_both (IsBidLine (bounds_of p.g p.b p.d)) (λ l. slice_get (filled (slots_of (header_value p.g) p.bid_lines)) (line_number l)
          ≡ Some (bid_of (header_value p.g) l)) (SpellsBid (file_of_lines (p.g ∷ p.b ∷ p.d ∷ p.bid_lines)))
          (λ l q s. line_spells (bounds_of p.g p.b p.d) (file_of_lines (p.g ∷ p.b ∷ p.d ∷ p.bid_lines)) l refl q s)
          p.bid_lines p.are.each (bids_stand (header_value p.g) (header_value p.b) p.bid_lines fill);
      facts = record {
        goods = subst (λ n. n ≤ MAX_GOODS) (sym goods_value) p.goods.within;
        dummy = subst (λ n. n ≤ MAX_DUMMY) (sym dummy_value) p.dummy.within;
        count = subst (λ n. n ≤ MAX_BIDS) (sym (count ∙ bids_value)) p.bids.within;
        each = bids_all (header_value p.g) (IsBid (header_value p.g) (header_value p.d)) p.bid_lines
            (all_same (IsBidLine (bounds_of p.g p.b p.d)) (λ l. IsBid (header_value p.g) (header_value p.d) (bid_of (header_value p.g) l))
            (λ l q. line_is_bid (bounds_of p.g p.b p.d) l q) p.bid_lines p.are.each);
      };
    })

-- ---- a text that spells a file

each_line : (f : PlainFile) (lines : List (List Word)) → IsPlainFile f → AllByRecursion (SpellsBid f) lines → AllByRecursion (IsBidLine (file_bounds f)) lines
each_line f lines p a = all_same (SpellsBid f) (IsBidLine (file_bounds f)) (λ l s. spelled_line f l p s) lines a

each_bid : (f : PlainFile) (lines : List (List Word)) → IsPlainFile f → AllByRecursion (SpellsBid f) lines
    → AllByRecursion (λ l. slice_get f.bids (line_number l) ≡ Some (bid_of f.goods l)) lines
each_bid f lines p a = all_same (SpellsBid f) (λ l. slice_get f.bids (line_number l) ≡ Some (bid_of f.goods l)) (λ l s. spelled_bid f l p s) lines a

spelled_header : (keyword : Word) (limit : ℕ) (w : Word) (n : ℕ) → SpellsNumber w n → n ≤ limit → IsHeader keyword limit (keyword ∷ w ∷ [])
spelled_header keyword limit w n s l = record { number = w; words_are = refl; spelled = s.number; within = subst (λ m. m ≤ limit) (sym s.value) l }

pub spelled_value : (keyword w : Word) (n : ℕ) → SpellsNumber w n → header_value (keyword ∷ w ∷ []) ≡ n
spelled_value keyword w n s = ap (λ b. cond b (number_of w) 0) s.number ∙ s.value

file_bid_lines : (text : List ℕ) (f : PlainFile) → (s : Spells text f) → AreBidLines (file_bounds f) s.bid_lines
file_bid_lines text f s = record { each = each_line f s.bid_lines s.facts s.each; distinct = s.distinct; count = s.count }

same_bounds : (goods bids dummy : ℕ) (f : PlainFile) → goods ≡ f.goods → bids ≡ length f.bids → dummy ≡ f.dummy
    → file_bounds f ≡ record { goods = goods; bids = bids; dummy = dummy }
same_bounds goods bids dummy f p q r = grind (arith, common_steps)

file_lines : (text : List ℕ) (f : PlainFile) → Spells text f → AreFileLines (significant_words text)
file_lines text f s = record {
  g = codes "goods" ∷ s.goods ∷ [];
  b = codes "bids" ∷ s.bids ∷ [];
  d = codes "dummy" ∷ s.dummy ∷ [];
  bid_lines = s.bid_lines;
  lines_are = s.lines_are;
  goods = search (rules, spelled_header);
  bids = search (rules, spelled_header);
  dummy = search (rules, spelled_header);
  are = subst (λ h. AreBidLines h s.bid_lines) (search (rules, same_bounds, spelled_value)) (file_bid_lines text f s);
}

pub no_fault_from_spells : (text : List ℕ) (f : PlainFile) → Spells text f → first_fault text ≡ None
no_fault_from_spells text f s = words_none (line_count text) [] (significant_lines text) (lines_none (significant_words text) (file_lines text f s))

-- it is the file that the text says
pub says_spelled : (text : List ℕ) (f : PlainFile) → Spells text f → f ≡ spelled_file text
says_spelled text f s =
    let fill : FillPlaces (length f.bids) s.bid_lines = fill_places (file_bounds f) s.bid_lines (file_bid_lines text f s) in
    let bids : f.bids ≡ filled (slots_of f.goods s.bid_lines) = bids_are f.goods f.bids s.bid_lines fill (each_bid f s.bid_lines s.facts s.each) in
    search (rules, spelled_value)

pub spells_one : (text : List ℕ) (f g : PlainFile) → Spells text f → Spells text g → f ≡ g
spells_one text f g s t = says_spelled text f s ∙ sym (says_spelled text g t)

-- a text spells one file or has a first fault
pub spells_or_fault : (text : List ℕ) → ((f : PlainFile) × Spells text f) ⊎ ((e : ReadFault) × (first_fault text ≡ Some e))
spells_or_fault text = from (first_fault text) refl
  where
    from : (o : Option ReadFault) → first_fault text ≡ o → ((f : PlainFile) × Spells text f) ⊎ ((e : ReadFault) × (first_fault text ≡ Some e))
    from None e = inl (spelled_file text, spells_from_no_fault text e)
    from (Some fault) e = inr (fault, e)

pub never_spells_and_faults : (text : List ℕ) (f : PlainFile) (e : ReadFault) → Spells text f → first_fault text ≡ Some e → ⊥
never_spells_and_faults text f e s q = let none : None ≡ Some e = sym (no_fault_from_spells text f s) ∙ q in cc
