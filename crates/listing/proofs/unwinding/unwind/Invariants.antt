use Rattle.std.proofs.Common.{◌≡◌, ◌++◌, reverse, length, vec_items}
use Rattle.frames.specs.Frames.{all_frames}
use Rattle.listing.proofs.unwinding.unwind.Given as goal

-- the frames still in the file, but for the newest, and those taken from it, are the frames that it had
abbrev pub invariant-loop-frames : goal.invariant-loop-frames
invariant-loop-frames g l =
    (g.F.RegisterFile.state l.file).older ++ reverse (vec_items l.frames) ≡ all_frames (g.F.RegisterFile.state l.initial.file)

abbrev pub decreases-loop-frames : goal.decreases-loop-frames
decreases-loop-frames g l = length (g.F.RegisterFile.state l.file).older
