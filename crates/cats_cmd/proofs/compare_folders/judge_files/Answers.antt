-- `judge_files`
use Rattle.cats_cmd.proofs.Common.{◌≡◌, ℕ, List, inl, openings_of, Opens, Opening, sym, subst}
use Rattle.cats_cmd.proofs.CarryingOut.{is_priced}
use Rattle.cats_cmd.proofs.ComparedRows.{both_opened}
use Rattle.cats_cmd.specs.declared.source.Way.TheVariants.{Regular}
use Rattle.cats_cmd.proofs.compare_folders.judge_files.Goals as goal

pub returns-clause-judges : goal.returns-clause-judges
returns-clause-judges g c =
    let opened = c.in-Ok.ensures.opened in
    inl (record {
      left = c.new-left.result;
      left_after = c.compare-answer.new.first;
      right = c.new-right.result;
      right_after = c.compare-answer.new.second;
      left_opened = is_priced _ _ _ c.in-Ok.both.0 _ c.new-left.ensures.stream c.new-left.ensures.rule c.new-left.ensures.unread opened.0;
      right_opened = is_priced _ _ _ c.in-Ok.both.1 _ c.new-right.ensures.stream c.new-right.ensures.rule c.new-right.ensures.unread opened.1;
      answer = c.compare-answer.result;
      answers = c.compare-answer.ensures;
      is_verdict = c.verdict_of.ensures;
      counts = (c.rounded.ensures, c.rounded-2.ensures);
    })

pub returns-clause-opens : goal.returns-clause-opens
returns-clause-opens g c =
    rw (c.verdict_of.ensures, both_opened _ _ _ _ _ c.args.first.now c.args.second.now _ _ _ _ c.compare-answer.result c.compare-answer.ensures)
    c.in-Ok.ensures.opened.2
