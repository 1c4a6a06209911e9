-- `TableCollection::add`
use Rattle.cats_cmd.proofs.Common.{◌++◌, ◌∙◌, [], Some, ap, numbers_judged}
use Rattle.cats_cmd.proofs.Judging.{priced_stream}
use Rattle.cats_cmd.proofs.Storing.{wrote_nothing}
use Rattle.cats_cmd.proofs.Tabling.{row_made, table_more}
use Rattle.cats_cmd.proofs.sizes.TableCollection.add.Goals as goal

pub returns-clause-adds : goal.returns-clause-adds
returns-clause-adds g c =
    let p = c.in_ok-fault.ensures in
    record {
      stream = record {
        judgement = p.judgement;
        judges = priced_stream g.S.Stream.Read.remaining (Some c.args.many.options) c.args.input.now c.push_numbers.new.input p.judgement p.judges;
        adds = λ js h. tt;
        is_fault = p.is_fault;
      };
      more = [];
      wrote = wrote_nothing _;
      shows = λ js printed attempts has shows. table_more c.args.many.ending js c.args.path.now p.judgement c.push_path.new.text.items printed attempts
          (row_made c.args.many.ending c.args.path.now c.push_numbers.new.text.items c.push_fault.new.text.items c.push_path.new.text.items p.judgement
          c.in_ok-fault.fault (p.puts ∙ ap (λ none. none ++ numbers_judged p.judgement) c.new-text.ensures.items) c.in_ok-push_fault.ensures p.is_fault
          c.in_ok-push_path.ensures) shows;
    }
