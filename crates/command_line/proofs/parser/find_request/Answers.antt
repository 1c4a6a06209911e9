-- `find_request`
use Rattle.command_line.proofs.Common.{◌∙◌, rules, rows_in, texts_of}
use Rattle.command_line.proofs.Answering.{fails_by, entered, requested}
use Rattle.command_line.proofs.parser.find_request.Goals as goal

pub returns-in_err-matches-clause-refused : goal.returns-in_err-matches-clause-refused
returns-in_err-matches-clause-refused c =
    let kind = rw c.in_err-matches.was at (fails_by _ c.in_ok-cats_command.ensures (texts_of c.args.words.now) _ c.try_get_matches_from.ensures.kinds) in
    search rules

pub returns-in-Some-clause-taken : goal.returns-in-Some-clause-taken
returns-in-Some-clause-taken c =
    rw c.in_ok-matches.was at (fails_by _ c.in_ok-cats_command.ensures (texts_of c.args.words.now) _ c.try_get_matches_from.ensures.kinds)

pub returns-in-Some-clause-found : goal.returns-in-Some-clause-found
returns-in-Some-clause-found c =
    let met = entered _ c.in_ok-cats_command.ensures (texts_of c.args.words.now) c.in_ok-matches.matches c.in_ok-matches.ensures.matches
    c.in-Some.name.now (rows_in c.in-Some.given.now) (search rules) (search rules) in
    c.in_ok-judge-in-Some.ensures ∙ requested _ c.in_ok-cats_command.ensures (texts_of c.args.words.now) c.in-Some.name.now (rows_in c.in-Some.given.now) met
