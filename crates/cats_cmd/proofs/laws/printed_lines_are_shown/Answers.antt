-- `printed_lines_are_shown`
use Rattle.cats_cmd.proofs.ShownTexts.{duplicates_shown, fault_shown, group_table_shown, progress_shown, refusal_shown, table_shown}
use Rattle.cats_cmd.proofs.laws.printed_lines_are_shown.Goals as goal

pub returns-clause-faults : goal.returns-clause-faults
returns-clause-faults c = fault_shown

pub returns-clause-refusals : goal.returns-clause-refusals
returns-clause-refusals c = refusal_shown

pub returns-clause-progress : goal.returns-clause-progress
returns-clause-progress c = progress_shown

pub returns-clause-groups : goal.returns-clause-groups
returns-clause-groups c = duplicates_shown

pub returns-clause-tables : goal.returns-clause-tables
returns-clause-tables c = table_shown

pub returns-clause-group_tables : goal.returns-clause-group_tables
returns-clause-group_tables c = group_table_shown
