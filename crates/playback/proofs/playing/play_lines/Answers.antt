use Rattle.std.proofs.Common.{string_bytes, ap}
use Rattle.playback.proofs.Turns.{no_call_here, call_here}
use Rattle.playback.proofs.playing.play_lines.Goals as goal

pub returns-in_default : goal.returns-in_default
returns-in_default g c =
    let line = c.in-Some.ensures.steps in
    let off = c.broken_off.ensures in
    record { plays_the_lines = no_call_here c.loop-line.invariant c.in-Some.request.now _ line.1 c.in_default.ensures.reads_exactly_the_calls _ _ c.in-Some.line (ap string_bytes off.keeps_the_text) line.0 off.names_the_line }

pub loop-line-preserved : goal.loop-line-preserved
loop-line-preserved g c =
    let line = c.in-Some.ensures.steps in
    call_here c.loop-line.invariant c.in-Some.request.now _ line.1 c.in-Some-read_call.call _ _ _ c.in-Some-read_call.ensures.reads_exactly_the_calls line.2 c.answer.ensures.holds_the_frames_after c.in_ok-answer.ensures.writes_the_answer
