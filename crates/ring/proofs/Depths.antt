-- The frames of a ring are those in its store and those in its windows.
use Rattle.std.proofs.Common.{◌≡◌, ◌+◌, ◌<◌, ◌≤◌, length, arith}
use Rattle.frames.specs.Frames.{depth_of}
use Rattle.stores.specs.declared.store.SaveStore.{Ghosts as Store}
use Rattle.ring.specs.declared.ring.WindowRing.{WindowRing}
use Rattle.ring.specs.declared.windows.Windows.{Windows}
use Rattle.ring.specs.Rings.{frames_of}
use Rattle.ring.specs.RingShape.{depth_ring}
use Rattle.ring.specs.Tables.{count_of, pointer_of, resident_of, words_of}

pub some_resident : (t : Windows) → 1 ≤ resident_of t
some_resident t = let h = t.residency.some_resident in omega arith

pub few_resident : (t : Windows) → resident_of t < count_of t
few_resident t =
    let limit = t.residency.within_the_limit in
    let low = t.residency.windows.some_resident in
    omega arith

pub ring_depth : {S P : Type 0} (s : Store S) (x : WindowRing S P) → depth_of (frames_of s x) ≡ length (s.windows x.store) + resident_of x.windows
ring_depth s x =
    let t = x.windows in
    depth_ring (s.windows x.store) (s.capacity x.store) (words_of t) (count_of t) (pointer_of t) (resident_of t) (some_resident t)
