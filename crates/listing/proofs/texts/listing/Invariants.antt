use Rattle.std.proofs.Common.{◌≡◌, ◌+◌, ◌++◌, reverse, string_bytes}
use Rattle.std.specs.Slice.Iter.{iter_rest}
use Rattle.std.specs.Iterator.Adapters.{rev_source, enumerate_source, enumerate_count}
use Rattle.frames.specs.Frames.{all_frames}
use Rattle.listing.specs.Listing.{frame_lines}
use Rattle.listing.proofs.texts.listing.Given as goal

-- the text so far, and the lines of the frames still to come, are all the lines
abbrev pub invariant-loop-i : goal.invariant-loop-i
invariant-loop-i g l =
    string_bytes l.text ++ frame_lines (enumerate_count l.i-iterator + 1) (reverse (iter_rest (rev_source (enumerate_source l.i-iterator)))) ≡ frame_lines 1 (all_frames (g.F.RegisterFile.state l.fn.file))
