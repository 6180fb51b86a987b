-- Laws of every register file, over the definitions that the contracts cite.
use Rattle.std.specs.Prelude.{◌≡◌, ℕ, ◌+◌, ◌<◌, true, List, [], ◌∷◌}
use Rattle.frames.specs.declared.calls.Call.{Call}
use Rattle.frames.specs.Frames.{Frames, all_frames, depth_of, word, saved, restored}
use Rattle.frames.specs.Calls.{Answer, answer_to, after_call, after_calls, is_refusal}

-- what one call does: it took the frames s to t and answered a
pub record Performed (s : Frames) (c : Call) (a : Answer) (t : Frames) : Type 0 where
  pub answers_as_the_frames_do : a ≡ answer_to s c
  pub holds_the_frames_after : t ≡ after_call s c
  pub refused_changes_nothing : is_refusal a ≡ true → t ≡ s
  pub keeps_the_capacity : t.capacity ≡ s.capacity

-- a refused call leaves the frames, the outs and the capacity as they were
abbrev pub RefusalsChangeNothing : Type 0
RefusalsChangeNothing = (s : Frames) (c : Call) → is_refusal (answer_to s c) ≡ true → after_call s c ≡ s

-- no call changes the capacity
abbrev pub CapacityIsFixed : Type 0
CapacityIsFixed = (s : Frames) (c : Call) → (after_call s c).capacity ≡ s.capacity

-- a callee that returns at once leaves every frame and the outs as they were
abbrev pub RestoreUndoesSave : Type 0
RestoreUndoesSave = (s : Frames) → restored (saved s) ≡ s

-- windows overlap: a caller's outs are its callee's ins, and come back as that
abbrev pub OutsBecomeIns : Type 0
OutsBecomeIns = (s : Frames) (i : ℕ) → i < 8 → word (saved s) (24 + i) ≡ word s (8 + i)

abbrev pub InsBecomeOuts : Type 0
InsBecomeOuts = (s : Frames) (i : ℕ) → i < 8 → word (restored s) (8 + i) ≡ word s (24 + i)

-- at each of these calls, and after them, there are more than n frames
abbrev pub StaysAbove : ℕ → Frames → List Call → Type 0
StaysAbove n s [] = n < depth_of s
StaysAbove n s (c ∷ cs) = (n < depth_of s) × StaysAbove n (after_call s c) cs

-- whatever a callee does before it returns, every frame that its caller had is there again
abbrev pub CallersKeepTheirFrames : Type 0
CallersKeepTheirFrames =
    (s : Frames) (cs : List Call) → StaysAbove (depth_of s) (saved s) cs → depth_of (after_calls (saved s) cs) ≡ depth_of s + 1 → all_frames (restored (after_calls (saved s) cs)) ≡ all_frames s

-- all of them
pub record FrameLaws : Type 0 where
  pub refusals_change_nothing : RefusalsChangeNothing
  pub capacity_is_fixed : CapacityIsFixed
  pub restore_undoes_save : RestoreUndoesSave
  pub callers_keep_their_frames : CallersKeepTheirFrames
  pub outs_become_ins : OutsBecomeIns
  pub ins_become_outs : InsBecomeOuts
