use Rattle.std.proofs.Common.{◌≡◌, ◌++◌, drop, string_bytes}
use Rattle.frames.specs.Calls.{after_calls}
use Rattle.ring.specs.Movements.{moving, moves_by_all}
use Rattle.ring.specs.Rings.{frames_of}
use Rattle.playback.specs.Playing.{answers_text}
use Rattle.ring_playback.proofs.beside.Compared.answer.Given as goal

-- the text so far and the answers still to come are all the answers, and the calls still to come leave and move what all of them do
abbrev pub invariant-loop-call : goal.invariant-loop-call
invariant-loop-call g l =
    (string_bytes l.text ++ answers_text (frames_of g.S.SaveStore l.self.ring) (drop l.call-index l.calls) ≡ string_bytes l.initial.text ++ answers_text (frames_of g.S.SaveStore l.initial.self.ring) l.calls)
    × (after_calls (frames_of g.S.SaveStore l.self.ring) (drop l.call-index l.calls) ≡ after_calls (frames_of g.S.SaveStore l.initial.self.ring) l.calls)
    × (moves_by_all g.P.SpillPolicy (moving g.S.SaveStore l.self.ring) (drop l.call-index l.calls) ≡ moves_by_all g.P.SpillPolicy (moving g.S.SaveStore l.initial.self.ring) l.calls)
