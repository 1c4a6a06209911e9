-- `group_by_number`
use Rattle.cats_cmd.proofs.Common.{ℕ, List, ◌<◌, length, take, refl, sym, ap, ◌∙◌, subst, arith, Global, Vec, get_or-map, length-map, found_paths}
use Rattle.cats_cmd.proofs.Grouping.{length-plain_groups, no_paths, put_path}
use Rattle.cats_cmd.proofs.duplicates.lines.group_by_number.Goals as goal

pub loop-path-init : goal.loop-path-init
loop-path-init c = c.in_ok-groups.ensures ∙ no_paths 0 (length c.args.found.now)

pub index_mut-group-requires : goal.index_mut-group-requires
index_mut-group-requires c =
    let i = c.loop-path.path-index in
    let below = c.requires i c.loop-path-item.result c.loop-path-test.true in
    let same = ap (λ (f : Vec ℕ Global × ℕ). f.1) c.loop-path-item.is in
    let long = length-plain_groups c.loop-path.groups.items (take i (found_paths c.args.found.now)) (length c.args.found.now) c.loop-path.invariant in
    omega (arith, c.loop-path.groups.ok.0)

pub loop-path-preserved : goal.loop-path-preserved
loop-path-preserved c =
    let found = c.args.found.now in
    let i = c.loop-path.path-index in
    let f : Vec ℕ Global × ℕ = c.loop-path-item.result in
    let shown : Vec ℕ Global × ℕ → List ℕ × ℕ = λ f. (f.0.items, f.1) in
    let in_list : i < length (found_paths found) = omega (arith, length-map found shown, c.loop-path-test.true) in
    let below = subst (λ (g : Vec ℕ Global × ℕ). g.1 < length found) (sym c.loop-path-item.is) (c.requires i f c.loop-path-test.true) in
    put_path (found_paths found) i (shown f) in_list (get_or-map shown found i f (shown f) c.loop-path-test.true ∙ ap shown (sym c.loop-path-item.is))
    c.loop-path.groups.items _ c.index_mut-group.result.now c.push.new.self c.as_slice.result (length found) c.as_slice.ensures.value below
    c.loop-path.invariant c.index_mut-group.ensures.value c.in_ok-push.ensures.items refl
