-- The input of a run is the stream that was opened at its path, and the run on two files is that of their request.
use Rattle.cats_cmd.proofs.Common.{◌≡◌, ℕ, Bool, List, [], ◌∷◌, Option, Result, Watched, PriceRule, IsOpened, IsPriced, none_rounded}
use Rattle.cats_cmd.proofs.Common.{CarriesOut, RunsAtBoth, Two, refl, sym, subst, ◌≤◌, ◌<◌, length, get_or, arith, texts_of}
use Rattle.cats_cmd.proofs.Common.{PricedInput, PlainRequest, RunFault, Unopened, Bor, Files, RunsWith, Carries}
use Rattle.cats_cmd.proofs.Common.{Some, Ok, Err, inl, inr, Text, Unwritten}
use Rattle.cats_cmd.specs.BidLists.{ReadsBids, RunsOnBids}
use Rattle.requests.specs.Tasks.{files_of}
use Rattle.cats_cmd.specs.ComparedFolders.{AreFiles}
use Rattle.cats_cmd.specs.Requests.{CannotOpenOf, CannotOpenPair, CannotOpenTwo, RunsOnTwo}

pub is_priced : {F : Type 0} (may_open : List ℕ → F → Type 0) (path : List ℕ) (prices : Option PriceRule) (stream : Watched F) (input : PricedInput F)
    → input.stream ≡ stream → input.rule ≡ prices → input.rounded ≡ none_rounded → IsOpened may_open path stream → IsPriced may_open prices path input
is_priced may_open path prices stream input same rule unread opened = record { opened = rw same opened; rule = rule; unread = unread }

module _ {F W E : Type 0} (may_open : List ℕ → F → Type 0) (may_refuse : List ℕ → Unopened → Type 0) (remaining : F → Option (List ℕ))
    (contents : W → Option (List ℕ)) (messages : E → Option (List ℕ)) (may_find : List ℕ → Option (List (List ℕ)) → Type 0) where
  -- two paths that are taken for those of files
  pub as_files : (request : PlainRequest) (first second : List ℕ) (out out_after : Watched W) (err err_after : Watched E) (answer : Result ℕ RunFault)
      → AreFiles may_find request.task first second
      → Carries (RunsAtBoth may_open remaining contents messages first second request) (CannotOpenPair may_refuse request.task first second) out out_after
      err err_after answer
      → Carries (RunsOnTwo may_open may_refuse remaining contents messages may_find first second request)
      (CannotOpenTwo may_refuse request.task may_find first second) out out_after err err_after answer
  as_files request first second out out_after err err_after answer are (inl ran) = inl (inr (are, ran))
  as_files request first second out out_after err err_after answer are (inr fails) = inr (record {
    fault = fails.fault;
    is = fails.is;
    cannot = (are, fails.cannot);
    silent = fails.silent;
    quiet = fails.quiet;
  })

module _ {F W E : Type 0} (may_open : List ℕ → F → Type 0) (may_refuse : List ℕ → Unopened → Type 0) (remaining : F → Option (List ℕ))
    (contents : W → Option (List ℕ)) (messages : E → Option (List ℕ)) (terminal : Bool) (may_find : List ℕ → Option (List (List ℕ)) → Type 0)
    (may_not_write : List ℕ → Unwritten → Type 0) (known known_after : Option (List Text)) where
  pub carried_pair : (request : PlainRequest) (first second : List ℕ) (out out_after : Watched W) (err err_after : Watched E) (answer : Result ℕ RunFault)
      → files_of request.task ≡ Two → request.files ≡ first ∷ second ∷ []
      → Carries (RunsOnTwo may_open may_refuse remaining contents messages may_find first second request)
      (CannotOpenTwo may_refuse request.task may_find first second) out out_after err err_after answer
      → CarriesOut may_open may_refuse remaining contents messages terminal may_find may_not_write known known_after request out out_after err err_after answer
  carried_pair request first second out out_after err err_after answer two files carries =
      subst (λ (count : Files). Carries
      (RunsWith may_open may_refuse remaining contents messages terminal may_find may_not_write known known_after count request.files request)
      (CannotOpenOf may_refuse request.task may_find count request.files) out out_after err err_after answer) (sym two)
      (subst (λ (paths : List (List ℕ)). Carries
      (RunsWith may_open may_refuse remaining contents messages terminal may_find may_not_write known known_after Two paths request)
      (CannotOpenOf may_refuse request.task may_find Two paths) out out_after err err_after answer) (sym files) carries)

-- the run on the bids in a list, from that on the bids of these numbers
module _ {F W E : Type 0} (may_open : List ℕ → F → Type 0) (may_refuse : List ℕ → Unopened → Type 0) (remaining : F → Option (List ℕ))
    (messages : E → Option (List ℕ)) (Runs : List ℕ → Watched W → Watched W → Watched E → Watched E → Result ℕ RunFault → Type 0)
    (Cannot : RunFault → Type 0) (list : List ℕ) (given bids : List ℕ) (read : ReadsBids may_open may_refuse remaining list bids)
    (out out_after : Watched W) (err err_after : Watched E) where
  ran_on_list : (answer : Result ℕ RunFault) → Runs bids out out_after err err_after answer
      → RunsOnBids may_open may_refuse remaining messages Runs (Some list) given out out_after err err_after answer
  ran_on_list (Ok status) ran = inl (record { bids = bids; reads = read; runs = ran })
  ran_on_list (Err fault) ran = record { bids = bids; reads = read; runs = ran }

  pub carried_on_list : (answer : Result ℕ RunFault) (listed : Option (List ℕ)) → listed ≡ Some list
      → Carries (Runs bids) Cannot out out_after err err_after answer
      → Carries (RunsOnBids may_open may_refuse remaining messages Runs listed given) Cannot out out_after err err_after answer
  carried_on_list answer listed is (inl ran) = rw is (inl (ran_on_list answer ran))
  carried_on_list answer listed is (inr fails) = inr (record {
    fault = fails.fault;
    is = fails.is;
    cannot = fails.cannot;
    silent = fails.silent;
    quiet = fails.quiet;
  })

two_texts : (xs : List (Bor (List ℕ))) (d : Bor (List ℕ)) → 2 ≤ length xs → length xs < 3 → texts_of xs ≡ (get_or xs 0 d).now ∷ (get_or xs 1 d).now ∷ []
two_texts [] d least most = absurd (omega (arith, least))
two_texts (a ∷ []) d least most = absurd (omega (arith, least))
two_texts (a ∷ b ∷ []) d least most = refl
two_texts (a ∷ b ∷ c ∷ xs) d least most = absurd (omega (arith, most))

-- the paths of two files
pub pair_texts : (xs ys : List (Bor (List ℕ))) (d : Bor (List ℕ)) → ys ≡ xs → 2 ≤ length ys → length ys < 3
    → texts_of xs ≡ (get_or ys 0 d).now ∷ (get_or ys 1 d).now ∷ []
pair_texts xs ys d same least most = rw same (two_texts xs d (rw same at least) (rw same at most))
