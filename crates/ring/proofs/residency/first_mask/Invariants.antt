use Rattle.std.proofs.Common.{◌≡◌}
use Rattle.ring.specs.Cycle.{mask_of}
use Rattle.ring.proofs.residency.first_mask.Given as goal

abbrev pub invariant-loop-w : goal.invariant-loop-w
invariant-loop-w l = l.mask ≡ mask_of l.w 0 1
