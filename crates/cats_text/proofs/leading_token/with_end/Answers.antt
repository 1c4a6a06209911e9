-- `with_end`
use Rattle.cats_text.proofs.Common.{rules}
use Rattle.cats_text.proofs.Scanning.LeadingTokens.{token_before_blank, token_before_feed}
use Rattle.cats_text.proofs.leading_token.with_end.Goals as goal

pub returns-in-32 : goal.returns-in-32
returns-in-32 c = search (rules, token_before_blank)

pub returns-in-10 : goal.returns-in-10
returns-in-10 c = search (rules, token_before_feed)
