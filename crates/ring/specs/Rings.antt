-- The frames that a ring stands for.
use Rattle.std.specs.Prelude.{ℕ, ◌+◌, ◌-◌, List, ◌++◌}
use Rattle.frames.specs.declared.frame.Frame.{Frame}
use Rattle.frames.specs.Frames.{Frames, frame_of, zeros}
use Rattle.stores.specs.declared.store.SaveStore.{Ghosts as Store}
use Rattle.ring.specs.declared.ring.WindowRing.{WindowRing}
use Rattle.ring.specs.Cycle.{most_resident}
use Rattle.ring.specs.Tables.{count_of, pointer_of, resident_of, words_of}
use Rattle.ring.specs.Words.{outs_of, upper, residents, window_at}

-- over a store that holds xs, of capacity room: n windows of which r are resident, from the pointer p on
abbrev pub ring_frames : List Frame → ℕ → List ℕ → ℕ → ℕ → ℕ → Frames
ring_frames xs room ws n p r =
    record { older = xs ++ upper ws n p (r - 1); newest = window_at ws p; outs = outs_of ws n p; capacity = most_resident n + room }

-- a ring that is made over a store that holds xs: one frame more, all 0
abbrev pub made_over : ℕ → List Frame → ℕ → Frames
made_over n xs room = record { older = xs; newest = frame_of zeros zeros; outs = zeros; capacity = most_resident n + room }

-- what a ring stands for, by what its store does
abbrev pub frames_of : {S P : Type 0} → Store S → WindowRing S P → Frames
frames_of s x =
    ring_frames (s.windows x.store) (s.capacity x.store) (words_of x.windows) (count_of x.windows) (pointer_of x.windows) (resident_of x.windows)

-- its resident windows, oldest first
abbrev pub residents_of : {S P : Type 0} → WindowRing S P → List Frame
residents_of x = residents (words_of x.windows) (count_of x.windows) (pointer_of x.windows) (resident_of x.windows)
