-- Equal parts make equal frames.
use Rattle.std.proofs.Common.{◌≡◌, ℕ, List}
use Rattle.frames.specs.declared.frame.Frame.{Frame}
use Rattle.frames.specs.Frames.{Frames, frame_of}

pub same_frames : {o o' : List Frame} {i i' l l' u u' : List ℕ} (n : ℕ) → o ≡ o' → i ≡ i' → l ≡ l' → u ≡ u' →
    ◌≡◌ {A = Frames} (record { older = o; newest = frame_of i l; outs = u; capacity = n }) (record { older = o'; newest = frame_of i' l'; outs = u'; capacity = n })
same_frames n a b c d = cc
