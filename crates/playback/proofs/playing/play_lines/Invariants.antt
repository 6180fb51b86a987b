use Rattle.std.proofs.Common.{string_bytes}
use Rattle.trace.specs.Lines.{lines}
use Rattle.trace.specs.Numbered.{lines_left, next_number}
use Rattle.playback.proofs.Turns.{Sofar}
use Rattle.playback.proofs.playing.play_lines.Given as goal

abbrev pub invariant-loop-line : goal.invariant-loop-line
invariant-loop-line g l =
    Sofar 2 (g.F.RegisterFile.state l.initial.file) (lines l.requests) (next_number l.line-iterator) (g.F.RegisterFile.state l.file) (lines_left l.line-iterator) (string_bytes l.text)
