use Rattle.std.proofs.Common.{ℕ, ap, ◌∙◌}
use Rattle.frames.specs.Frames.{write_after}
use Rattle.ring.specs.Rings.{frames_of}
use Rattle.ring.proofs.Views.{write_ring}
use Rattle.ring.proofs.ring.methods.WindowRingRegisterFile.write.Goals as goal

pub returns-clause-holds_the_frames_after : goal.returns-clause-holds_the_frames_after
returns-clause-holds_the_frames_after g c =
    let x = c.args.self.now in
    let r = c.in_ok-try_from.field-0 in
    write_ring _ _ x.windows _ _ _ _ r.low r.high c.place-at.ensures.is_its_place c.set_word.ensures
    ∙ ap (λ (k : ℕ). write_after (frames_of g.S.SaveStore x) k c.args.word) c.in_ok-try_from.ensures.1
