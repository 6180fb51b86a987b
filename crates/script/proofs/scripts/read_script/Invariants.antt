use Rattle.std.proofs.Common.{vec_items}
use Rattle.trace.specs.Lines.{lines}
use Rattle.trace.specs.Numbered.{lines_left, next_number}
use Rattle.script.proofs.Turns.{Sofar}
use Rattle.script.proofs.scripts.read_script.Given as goal

abbrev pub invariant-loop-line : goal.invariant-loop-line
invariant-loop-line l =
    Sofar 2 (lines l.requests) (next_number l.line-iterator) (lines_left l.line-iterator) (vec_items l.calls)
