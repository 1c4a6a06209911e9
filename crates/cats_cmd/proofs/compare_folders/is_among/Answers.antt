-- `is_among`
use Rattle.cats_cmd.proofs.ComparingFolders.{search_found, search_lost}
use Rattle.cats_cmd.proofs.compare_folders.is_among.Goals as goal

pub returns-clause-found : goal.returns-clause-found
returns-clause-found c =
    search_found c.args.files.now c.args.path.now c.binary_search.result c.binary_search.ensures.bound c.binary_search.ensures.position c.is_ok.result
    c.is_ok.ensures.value

pub returns-clause-lost : goal.returns-clause-lost
returns-clause-lost c =
    search_lost c.args.files.now c.args.path.now c.binary_search.result c.requires c.binary_search.ensures.position c.is_ok.result c.is_ok.ensures.value
