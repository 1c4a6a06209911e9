-- `Row::line`
use Rattle.cats_cmd.proofs.Common.{escaped, fault_cell}
use Rattle.cats_cmd.proofs.PublishingFiles.{line_made}
use Rattle.commands.specs.Outputs.{number_cell}
use Rattle.cats_cmd.proofs.publish.Row.line.Goals as goal

pub returns : goal.returns
returns c =
    let row = c.args.self.now in
    rw (
      c.in_ok-push.ensures.items,
      c.in_ok-push_fault_cell.ensures,
      c.in_ok-push_number_cell-5.ensures,
      c.in_ok-push_number_cell-4.ensures,
      c.in_ok-push_number_cell-3.ensures,
      c.in_ok-push_number_cell-2.ensures,
      c.in_ok-push_number_cell.ensures,
      c.in_ok-push_path_cell-3.ensures,
      c.in_ok-push_path_cell-2.ensures,
      c.in_ok-push_path_cell.ensures,
      c.new-line.ensures.items,
    )
    (line_made (escaped row.path.now) (escaped row.text.now) (escaped row.same_as.now) (number_cell row.goods) (number_cell row.bids) (number_cell row.kept)
    (number_cell row.rounded) (number_cell row.zeroed) (fault_cell c.args.fault.now))
