use Rattle.std.proofs.Common.{sym, refl, ◌∙◌, arith}
use Rattle.std.proofs.lemmas.Bool.{cond-false}
use Rattle.frames.specs.Frames.{is_last}
use Rattle.frames.specs.Flat.{flat_state}
use Rattle.frames.proofs.Flats.{same_flat, caller_at, restored_flat}
use Rattle.frames.proofs.flat.FlatFileRegisterFile.restore.Goals as goal

pub returns-clause-holds_the_frames_after : goal.returns-clause-holds_the_frames_after
returns-clause-holds_the_frames_after c =
    let f = c.args.self.now in
    let back = caller_at f.words f.top f.capacity _ c.in_ok-self.ensures in
    same_flat refl back.1 refl
    ∙ restored_flat f.words f.top f.capacity back.2 (omega arith)
    ∙ sym (cond-false (is_last (flat_state f)) _ _ back.0)
