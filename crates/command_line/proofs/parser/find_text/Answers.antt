-- `find_text`
use Rattle.command_line.proofs.Common.{◌∙◌, found_of, first_value-rows}
use Rattle.command_line.proofs.parser.find_text.Goals as goal

pub returns : goal.returns
returns c = c.get_str.ensures ∙ first_value-rows (found_of c.args.given.now) c.args.id.now
