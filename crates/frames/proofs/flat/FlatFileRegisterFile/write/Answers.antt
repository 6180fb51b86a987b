use Rattle.std.proofs.Common.{ℕ, set, ap, ◌∙◌, arith}
use Rattle.frames.specs.Flat.{flat_place}
use Rattle.frames.proofs.Flats.{same_flat, write_flat}
use Rattle.frames.proofs.flat.FlatFileRegisterFile.write.Goals as goal

pub returns-clause-holds_the_frames_after : goal.returns-clause-holds_the_frames_after
returns-clause-holds_the_frames_after c =
    let f = c.args.self.now in
    let made = c.in_ok-try_from.ensures in
    let ok = c.set_word.ensures in
    same_flat (ok.changes_one_word ∙ ap (λ (r : ℕ). set f.words (flat_place f.top r) c.args.word) made.1) ok.keeps_the_newest ok.keeps_the_capacity
    ∙ write_flat f.words f.top f.capacity c.args.register made.0 c.args.word (omega arith)
