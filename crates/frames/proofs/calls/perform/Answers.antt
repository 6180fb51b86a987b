use Rattle.frames.proofs.Laws.{frame_laws, performed}
use Rattle.frames.proofs.calls.perform.Goals as goal

pub returns : goal.returns
returns g c =
    let ok = c.dispatch.ensures in
    record {
      performs_the_call = performed _ _ _ _ ok.answers_as_the_frames_do ok.holds_the_frames_after;
      moves_as_the_file_does = ok.moves_as_the_file_does;
      frames_keep_their_laws = frame_laws;
    }
