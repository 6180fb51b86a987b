use Rattle.std.proofs.Common.{◌≡◌, ◌-◌}
use Rattle.ring.specs.Cycle.{mask_of}
use Rattle.ring.specs.Residencies.{resident_count, window_count}
use Rattle.ring.proofs.residency.Residency.advanced_mask.Given as goal

abbrev pub invariant-loop-j : goal.invariant-loop-j
invariant-loop-j l = l.mask ≡ mask_of (window_count l.self) l.self.pointer (resident_count l.self - l.j)
