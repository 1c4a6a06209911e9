-- `FaultSearch::feed`
use Rattle.cats_text.proofs.Common.{rules, arith, ap, ◌∙◌, sym, length, length-append, length-take, length-drop}
use Rattle.cats_text.specs.Internal.Finding.{bytes_of}
use Rattle.cats_text.proofs.Feeding.Finding.{ends_before, fed_line, no_end}
use Rattle.cats_text.proofs.fault_finder.FaultSearch.feed.Goals as goal

pub end_line-requires-clause-space : goal.end_line-requires-clause-space
end_line-requires-clause-space c =
    let sum = ap length c.loop-end.invariant.came in
    let space = c.requires.space in
    omega (
      arith,
      sum,
      space,
      length-append (bytes_of c.loop-end.self) c.loop-end.rest.now,
      length-append (bytes_of c.args.self.now) c.args.piece.now,
      length-take c.in-Some.end c.loop-end.rest.now,
    )

pub end_line-requires-clause-line : goal.end_line-requires-clause-line
end_line-requires-clause-line c = ends_before c.loop-end.rest.now c.in-Some.end (sym c.line_feed.ensures ∙ c.in-Some.is)

pub loop-end-preserved : goal.loop-end-preserved
loop-end-preserved c =
    let within = c.loop-end.invariant.within in
    record {
      seeking = c.in_ok-end_line.ensures.seeking;
      came = fed_line (bytes_of c.loop-end.self) c.loop-end.rest.now (bytes_of c.end_line.new.self) c.in-Some.end (sym c.line_feed.ensures ∙ c.in-Some.is)
          c.in_ok-end_line.ensures.bytes ∙ c.loop-end.invariant.came;
      within = search (rules, length-take, length-drop);
    }

pub go_on-requires-clause-line : goal.go_on-requires-clause-line
go_on-requires-clause-line c = no_end c.loop-end.rest.now (sym c.line_feed.ensures ∙ c.in_default.is)
