-- The words of a ring of n windows. Window w's locals begin at word 16 × w, its ins eight words above.
use Rattle.std.specs.Prelude.{ℕ, zero, suc, ◌+◌, ◌-◌, ◌*◌, cond, List, [], ◌∷◌, ◌++◌, nat_lt}
use Rattle.std.proofs.Math.Seq.{paste}
use Rattle.frames.specs.declared.frame.Frame.{Frame}
use Rattle.frames.specs.Frames.{frame_of, zeros}
use Rattle.frames.specs.Flat.{eight}
use Rattle.stores.specs.declared.window.SavedWindow.{SavedWindow}
use Rattle.ring.specs.Cycle.{down, wrap}

-- where window w's locals and ins begin
abbrev pub locals_at : ℕ → ℕ
locals_at w = 16 * w

abbrev pub ins_at : ℕ → ℕ
ins_at w = 16 * w + 8

-- window w
abbrev pub window_at : List ℕ → ℕ → Frame
window_at ws w = frame_of (eight ws (ins_at w)) (eight ws (locals_at w))

-- the outs of window p: the ins of the window below
abbrev pub outs_of : List ℕ → ℕ → ℕ → List ℕ
outs_of ws n p = eight ws (ins_at (down n p))

-- the c windows that follow p upwards, the farthest first
abbrev pub upper : List ℕ → ℕ → ℕ → ℕ → List Frame
upper ws n p zero = []
upper ws n p (suc c) = window_at ws (wrap n (p + (c + 1))) ∷ upper ws n p c

-- the r resident windows, oldest first: those that follow the pointer's, p, and that one
abbrev pub residents : List ℕ → ℕ → ℕ → ℕ → List Frame
residents ws n p r = upper ws n p (r - 1) ++ (window_at ws p ∷ [])

-- where register r's word lies: outs from 8, locals from 16, ins from 24 on
abbrev pub place_of : ℕ → ℕ → ℕ → ℕ
place_of n p r = cond (nat_lt r 16) (ins_at (down n p) + (r - 8)) (locals_at p + (r - 16))

-- window w written over with a saved one
abbrev pub with_window : List ℕ → ℕ → SavedWindow → List ℕ
with_window ws w x = paste (paste ws (locals_at w) x.frame.locals 8) (ins_at w) x.frame.ins 8

-- window p's locals and window b's ins set to 0
abbrev pub zeroed : List ℕ → ℕ → ℕ → List ℕ
zeroed ws p b = paste (paste ws (locals_at p) zeros 8) (ins_at b) zeros 8

-- a new frame's locals and outs set to 0
abbrev pub cleared : List ℕ → ℕ → ℕ → List ℕ
cleared ws n p = zeroed ws p (down n p)
