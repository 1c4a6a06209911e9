-- `compare`
use Rattle.canon.proofs.Common.{◌≡◌, rules, subst, IfOk, IfErr, OnErr, auction_from, SearchOptions, ComparesAs, IsNormalFileOf, first_difference, NamesGoods}
use Rattle.canon.proofs.Common.{plain_verdict, Memory, Both}
use Rattle.canon.proofs.TwoFiles.Comparisons.{canonical_of_text, compared_as, normal_of, same_by_texts}
use Rattle.canon.proofs.comparing.comparison.compare.Goals as goal

pub compare_files-requires-clause-left_canonical : goal.compare_files-requires-clause-left_canonical
compare_files-requires-clause-left_canonical c = search (rules, canonical_of_text, normal_of)

pub compare_files-requires-clause-right_canonical : goal.compare_files-requires-clause-right_canonical
compare_files-requires-clause-right_canonical c = search (rules, canonical_of_text, normal_of)

first : (c : goal.After-drop-first-inside-3) → IsNormalFileOf c.plain-options.result c.args.left.now c.in_ok-first.first
first c = normal_of _ _ c.read_normal.result c.in_ok-first.first c.read_normal.ensures (search rules)

second : (c : goal.After-drop-first-inside-3) → IsNormalFileOf c.plain-options.result c.args.right.now c.in_ok-second.second
second c = normal_of _ _ c.read_normal-2.result c.in_ok-second.second c.read_normal-2.ensures (search rules)

pub returns-clause-answer : goal.returns-clause-answer
returns-clause-answer c =
    let difference = first_difference (auction_from c.in_ok-first.first) (auction_from c.in_ok-second.second) in
    let d : IfOk c.map_err-3.result (λ verdict. plain_verdict verdict ≡ difference) = search rules in
    let both : IfErr c.map_err-3.result (λ refusal. (refusal.0 ≡ Both) × (refusal.1 ≡ Memory)) = search rules in
    let named : OnErr c.map_err-3.result (NamesGoods difference) = search rules in
    subst (λ (o : SearchOptions). ComparesAs o c.args.left.now c.args.right.now c.map_err-3.result) c.plain-options.ensures
    (compared_as c.plain-options.result c.args.left.now c.args.right.now c.in_ok-first.first c.in_ok-second.second (first c) (second c) c.map_err-3.result
    d both named)

pub returns-clause-same : goal.returns-clause-same
returns-clause-same c =
    same_by_texts c.plain-options.result c.args.left.now c.args.right.now c.in_ok-first.first c.in_ok-second.second (first c) (second c) c.map_err-3.result
    (search rules)
