-- What a register file stands for, and what each call answers and leaves.
use Rattle.std.specs.Prelude.{◌≡◌, ℕ, ◌+◌, ◌-◌, ◌≤◌, min, Bool, cond, ◌&&◌, List, [], ◌∷◌, ◌++◌, length, take, replicate, Ok, Err, Result, ◌==◌, nat_le, nat_lt, slice_index, slice_index_or, slice_set}
use Rattle.std.specs.List.{AllByRecursion}
use Rattle.refusal.specs.declared.faults.FileFault.{FileFault}
use Rattle.refusal.specs.declared.faults.FileFault.TheVariants.{NoSuchRegister, AtCapacity, LastFrame}
use Rattle.frames.specs.declared.frame.Frame.{Frame}

-- the frames but the newest, oldest first; the newest; its outs; and how many frames there may be
pub record Frames : Type 0 where
  pub older : List Frame
  pub newest : Frame
  pub outs : List ℕ
  pub capacity : ℕ

-- every frame, oldest first
abbrev pub all_frames : Frames → List Frame
all_frames s = s.older ++ s.newest ∷ []

-- how many frames there are
abbrev pub depth_of : Frames → ℕ
depth_of s = length s.older + 1

-- a group of eight words, all 0
abbrev pub zeros : List ℕ
zeros = replicate 8 0

-- a frame by its two groups
abbrev pub frame_of : List ℕ → List ℕ → Frame
frame_of ins locals = record { ins = ins; locals = locals }

-- one frame and outs, all 0
abbrev pub fresh : ℕ → Frames
fresh capacity = record { older = []; newest = frame_of zeros zeros; outs = zeros; capacity = capacity }

-- a frame has eight words in each group
abbrev pub Eight : Frame → Type 0
Eight f = (length f.ins ≡ 8) × (length f.locals ≡ 8)

-- eight words in each group, and no more frames than there may be
pub record Shaped (s : Frames) : Type 0 where
  pub older_eight : AllByRecursion Eight s.older
  pub newest_eight : Eight s.newest
  pub outs_eight : length s.outs ≡ 8
  pub within : depth_of s ≤ s.capacity

-- the depth as it is told
abbrev pub told_depth : Frames → ℕ
told_depth s = min 65536 (depth_of s)

-- how many frames more there may be, as it is told
abbrev pub told_spare : Frames → ℕ
told_spare s = min 65535 (s.capacity - depth_of s)

-- registers 8 to 31 are the file's
abbrev pub is_windowed : ℕ → Bool
is_windowed r = nat_le 8 r && nat_lt r 32

-- outs are registers 8 to 15, locals 16 to 23, ins 24 to 31
unfoldable pub word : Frames → ℕ → ℕ
word s r =
    cond (nat_lt r 16) (slice_index s.outs (r - 8))
    (cond (nat_lt r 24) (slice_index s.newest.locals (r - 16)) (slice_index s.newest.ins (r - 24)))

-- the same frames with other outs, and with another newest frame
abbrev pub with_outs : Frames → List ℕ → Frames
with_outs s outs = record { older = s.older; newest = s.newest; outs = outs; capacity = s.capacity }

abbrev pub with_newest : Frames → Frame → Frames
with_newest s newest = record { older = s.older; newest = newest; outs = s.outs; capacity = s.capacity }

-- one word changed, by the same groups
unfoldable pub with_word : Frames → ℕ → ℕ → Frames
with_word s r v =
    cond (nat_lt r 16) (with_outs s (slice_set s.outs (r - 8) v))
    (cond (nat_lt r 24) (with_newest s (frame_of s.newest.ins (slice_set s.newest.locals (r - 16) v)))
    (with_newest s (frame_of (slice_set s.newest.ins (r - 24) v) s.newest.locals)))

-- read
abbrev pub read_answer : Frames → ℕ → Result ℕ FileFault
read_answer s r = cond (is_windowed r) (Ok (word s r)) (Err (NoSuchRegister r))

-- write
abbrev pub write_answer : ℕ → Result (Unit {0}) FileFault
write_answer r = cond (is_windowed r) (Ok tt) (Err (NoSuchRegister r))

abbrev pub write_after : Frames → ℕ → ℕ → Frames
write_after s r v = cond (is_windowed r) (with_word s r v) s

-- a frame more: its ins are the outs, its locals and its outs are 0
unfoldable pub saved : Frames → Frames
saved s = record { older = all_frames s; newest = frame_of s.outs zeros; outs = zeros; capacity = s.capacity }

-- save is refused exactly at capacity
abbrev pub is_full : Frames → Bool
is_full s = nat_le s.capacity (depth_of s)

abbrev pub save_answer : Frames → Result (Unit {0}) FileFault
save_answer s = cond (is_full s) (Err (AtCapacity (told_depth s))) (Ok tt)

abbrev pub save_after : Frames → Frames
save_after s = cond (is_full s) s (saved s)

-- no frame: what stands where a list of frames has none
abbrev pub no_frame : Frame
no_frame = frame_of [] []

-- the newest frame less: its ins are the outs
unfoldable pub restored : Frames → Frames
restored s =
    record {
      older = take (length s.older - 1) s.older;
      newest = slice_index_or s.older (length s.older - 1) no_frame;
      outs = s.newest.ins;
      capacity = s.capacity;
    }

-- restore is refused exactly when one frame is left
abbrev pub is_last : Frames → Bool
is_last s = depth_of s == 1

abbrev pub restore_answer : Frames → Result (Unit {0}) FileFault
restore_answer s = cond (is_last s) (Err (LastFrame (told_depth s))) (Ok tt)

abbrev pub restore_after : Frames → Frames
restore_after s = cond (is_last s) s (restored s)
