-- `split_paths`
use Rattle.cats_cmd.proofs.Common.{rules, tests, arith, sym, ◌∙◌, ◌≡◌}
use Rattle.cats_cmd.proofs.ListingPaths.{no_rest, rest_dropped, rest_kept}
use Rattle.cats_cmd.proofs.path_list.split_paths.Goals as goal
use Rattle.cats_cmd.proofs.path_list.split_paths.Goals.{in-Some+then-not-is_empty+in_ok-push, in-Some+else-not-is_empty, in_default}

pub returns : goal.returns
returns c =
    let split = c.in_ok-paths.ensures in
    elim c.match-pop.branch [
      | in-Some+then-not-is_empty+in_ok-push w ↦
          let all : c.match-pop.paths.items ≡ c.in_ok-paths.paths.items = rw w.paths-is (w.in_ok-push.ensures.items ∙ sym w.in-Some.ensures.items) in
          rw all (rest_kept _ c.pop.new.self.items w.in-Some.rest c.args.text.now split w.in-Some.ensures.items (search (rules, tests)))
      | in-Some+else-not-is_empty w ↦
          rw w.paths-is (rest_dropped c.in_ok-paths.paths.items _ w.in-Some.rest c.args.text.now split w.in-Some.ensures.items (search (rules, tests)))
      | in_default w ↦ rw w.paths-is (no_rest c.in_ok-paths.paths.items _ c.args.text.now split (λ some. let none = w.in_default.ensures.cases.0 in
          omega (arith, none, some)))
    ]
