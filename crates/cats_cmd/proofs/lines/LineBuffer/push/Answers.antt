-- `LineBuffer::push`
use Rattle.cats_cmd.proofs.Common.{[], ◌++◌, append-nil}
use Rattle.cats_cmd.proofs.Reporting.{reports_nothing, reports_then}
use Rattle.cats_cmd.proofs.lines.LineBuffer.push.Goals as goal

pub returns-then-text-self : goal.returns-then-text-self
returns-then-text-self g c = record { sent = []; reports = reports_nothing g.E.Write.contents c.args.err.now; all = c.append.ensures }

pub returns-else-text-le-LINE_SIZE : goal.returns-else-text-le-LINE_SIZE
returns-else-text-le-LINE_SIZE g c =
    let sent = c.send-else-text-le-LINE_SIZE.ensures in
    record {
      sent = c.args.self.now ++ c.args.text.now;
      reports = reports_then g.E.Write.contents c.args.self.now c.args.text.now _ _ _ sent.reports c.report.ensures;
      all = rw sent.empty (append-nil (c.args.self.now ++ c.args.text.now));
    }
