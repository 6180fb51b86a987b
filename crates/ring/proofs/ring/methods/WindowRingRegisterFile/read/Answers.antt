use Rattle.std.proofs.Common.{ap, ◌∙◌}
use Rattle.frames.specs.Frames.{read_answer}
use Rattle.ring.specs.Rings.{frames_of}
use Rattle.ring.proofs.Views.{read_ring}
use Rattle.ring.proofs.ring.methods.WindowRingRegisterFile.read.Goals as goal

pub returns : goal.returns
returns g c =
    let x = c.args.self.now in
    let r = c.in_ok-try_from.field-0 in
    record {
      answers_as_the_frames_do =
          read_ring _ _ x.windows _ _ _ r.low r.high c.place-at.ensures.is_its_place c.word.ensures
          ∙ ap (read_answer (frames_of g.S.SaveStore x)) c.in_ok-try_from.ensures.1;
    }
