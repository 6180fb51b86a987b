-- What the words of a flat file stand for. Frame i's window begins at word 16 × (255 − i): its outs, locals and ins, eight words each.
-- The next frame's window begins sixteen words below, so its ins are these outs.
use Rattle.std.specs.Prelude.{◌≡◌, ℕ, ◌+◌, ◌-◌, ◌*◌, Bool, true, false, cond, ◌&&◌, List, map, take, drop, Ok, Err, Result, nat_le, nat_lt}
use Rattle.std.specs.List.{range_with_len}
use Rattle.refusal.specs.declared.faults.FileFault.{FileFault}
use Rattle.refusal.specs.declared.faults.FileFault.TheVariants.{AtCapacity, LastFrame}
use Rattle.refusal.specs.declared.faults.SetupFault.{SetupFault}
use Rattle.refusal.specs.declared.faults.SetupFault.TheVariants.{FlatCapacity}
use Rattle.frames.specs.declared.frame.Frame.{Frame}
use Rattle.frames.specs.declared.flat.FlatFile.{FlatFile}
use Rattle.frames.specs.Frames.{Frames, frame_of, fresh}

-- where frame i's window begins
abbrev pub base : ℕ → ℕ
base i = 16 * (255 - i)

-- the group of words from a place on
abbrev pub eight : List ℕ → ℕ → List ℕ
eight ws at = take 8 (drop at ws)

-- frame i
abbrev pub frame_at : List ℕ → ℕ → Frame
frame_at ws i = frame_of (eight ws (base i + 16)) (eight ws (base i + 8))

-- top is the number of the newest frame, from 0
abbrev pub flat_frames : List ℕ → ℕ → ℕ → Frames
flat_frames ws top capacity = record { older = map (frame_at ws) (range_with_len 0 top); newest = frame_at ws top; outs = eight ws (base top); capacity = capacity }

-- what a flat file stands for
abbrev pub flat_state : FlatFile → Frames
flat_state f = flat_frames f.words f.top f.capacity

-- the frame that a save opens, and the one that a restore goes back to
abbrev pub flat_opened : ℕ → ℕ → Result ℕ FileFault
flat_opened top capacity = cond (nat_lt (top + 1) capacity) (Ok (top + 1)) (Err (AtCapacity (top + 1)))

abbrev pub flat_caller : ℕ → Result ℕ FileFault
flat_caller top = cond (nat_lt 0 top) (Ok (top - 1)) (Err (LastFrame 1))

-- where the word of register r lies
abbrev pub flat_place : ℕ → ℕ → ℕ
flat_place top r = base top + (r - 8)

-- capacities from 1 to 256
abbrev pub is_flat_capacity : ℕ → Bool
is_flat_capacity n = nat_le 1 n && nat_le n 256

-- a fresh file of that capacity, or the refusal of another
abbrev pub MakesFlatFile : ℕ → Result FlatFile SetupFault → Type 0
MakesFlatFile n (Ok f) = (is_flat_capacity n ≡ true) × (flat_state f ≡ fresh n)
MakesFlatFile n (Err e) = (is_flat_capacity n ≡ false) × (e ≡ FlatCapacity n)
