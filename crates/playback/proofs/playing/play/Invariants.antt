use Rattle.std.proofs.Common.{◌≡◌, ◌++◌, drop, string_bytes}
use Rattle.frames.specs.Calls.{after_calls}
use Rattle.playback.specs.Playing.{answers_text}
use Rattle.playback.proofs.playing.play.Given as goal

-- the text so far and the answers still to come are all the answers, and the calls still to come leave what all of them leave
abbrev pub invariant-loop-call : goal.invariant-loop-call
invariant-loop-call g l =
    (string_bytes l.text ++ answers_text (g.F.RegisterFile.state l.file) (drop l.call-index l.call-items) ≡ answers_text (g.F.RegisterFile.state l.initial.file) l.call-items) × (after_calls (g.F.RegisterFile.state l.file) (drop l.call-index l.call-items) ≡ after_calls (g.F.RegisterFile.state l.initial.file) l.call-items)
