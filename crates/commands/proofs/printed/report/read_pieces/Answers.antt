-- `read_pieces`: A kind that belongs to a line is reported with its line.
use Rattle.commands.proofs.Common.{◌≡◌, ◌≢◌, ◌++◌, ℕ, append_assoc, arith, codes, decimal, Kind, TooLong, Device, name_of_kind, text_of_kind}
use Rattle.cats_text.specs.declared.read_fault.Kind.TheVariants.{Memory}
use Rattle.commands.proofs.printed.report.read_pieces.Goals as goal

text_in_a_line : (line : ℕ) (kind : Kind) → kind ≢ TooLong → kind ≢ Device → kind ≢ Memory
    → text_of_kind line kind ≡ codes "line " ++ decimal line ++ codes ": " ++ name_of_kind kind
text_in_a_line line kind long device memory = grind arith

pub returns-in_default : goal.returns-in_default
returns-in_default c =
    let fault = c.args.fault.now in
    let text = text_in_a_line fault.line fault.kind c.in_default.not-TooLong c.in_default.not-Device c.in_default.not-Memory in
    rw (c.line_pieces.ensures, c.kind_name-name.ensures, text) (simp append_assoc)
