-- `report_of_path_lost`
use Rattle.cats_cmd.proofs.Common.{Err, Ok, true, false, refl, inr, arith, codes}
use Rattle.cats_text.specs.Examples.{watched}
use Rattle.std.specs.Fmt.{digits}
use Rattle.std.specs.Char.{encode_utf8}
use Rattle.cats_cmd.proofs.worked.report_of_path_lost.Goals as goal

pub returns-clause-lost : goal.returns-clause-lost
unfolding digits encode_utf8
returns-clause-lost c =
    let failed = watched (codes "1 of 1 a\na: 1") true false in
    let named = watched (codes "1 of 1 a\n") false false in (
      failed,
      record {
        between = failed;
        roundings = (
          named,
          inr (refl, record { answer = Ok tt; sends = record { appended = refl; works = refl } }),
          (
            failed,
            inr (
              refl,
              record {
                answer = Err (record { written = 4 });
                sends = record { within = omega arith; appended = refl; failed = refl };
              },
            ),
            refl,
          ),
        );
        loses = refl;
        others = refl;
      },
      refl,
    )

pub returns-clause-later : goal.returns-clause-later
unfolding digits encode_utf8
returns-clause-later c =
    let failed = watched (codes "1 of 2 a\na: 1 price rounded\n2 of") true false in
    let sent = watched (codes "1 of 2 a\na: 1 price rounded\n") false false in
    let named = watched (codes "1 of 2 a\n") false false in (
      sent,
      record {
        between = sent;
        roundings = (
          named,
          inr (refl, record { answer = Ok tt; sends = record { appended = refl; works = refl } }),
          (sent, inr (refl, record { answer = Ok tt; sends = record { appended = refl; works = refl } }), refl),
        );
        loses = refl;
        others = refl;
      },
      (
        failed,
        record {
          between = failed;
          roundings = (
            failed,
            inr (
              refl,
              record {
                answer = Err (record { written = 4 });
                sends = record { within = omega arith; appended = refl; failed = refl };
              },
            ),
            refl,
          );
          loses = refl;
          others = refl;
        },
        refl,
      ),
    )
