-- A fresh ring.
use Rattle.std.specs.Prelude.{◌≡◌, []}
use Rattle.frames.specs.Frames.{fresh}
use Rattle.stores.specs.declared.store.SaveStore.{Ghosts as Store}
use Rattle.ring.specs.declared.ring.WindowRing.{WindowRing}
use Rattle.ring.specs.Movements.{no_counts}
use Rattle.ring.specs.Rings.{frames_of}

-- one frame, all 0, and nothing has moved
pub record FreshRing {S P : Type 0} (s : Store S) (x : WindowRing S P) : Type 0 where
  pub one_frame_of_zeros : frames_of s x ≡ fresh (frames_of s x).capacity
  pub nothing_moved : x.counts ≡ no_counts

-- a ring made over a store is fresh if that is empty, and only then
abbrev pub FreshExactlyOver : {S P : Type 0} → Store S → S → WindowRing S P → Type 0
FreshExactlyOver s store x = (s.windows store ≡ [] → FreshRing s x) × (FreshRing s x → s.windows store ≡ [])
