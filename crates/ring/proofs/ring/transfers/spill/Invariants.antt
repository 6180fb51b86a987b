use Rattle.std.proofs.Common.{◌≡◌}
use Rattle.ring.specs.Transfers.{Spilled}
use Rattle.ring.proofs.ring.transfers.spill.Given as goal

abbrev pub invariant-loop-j : goal.invariant-loop-j
invariant-loop-j g l =
    Spilled l.windows (g.S.SaveStore.windows l.initial.store) (g.S.SaveStore.windows l.store) l.j
    × (g.S.SaveStore.capacity l.store ≡ g.S.SaveStore.capacity l.initial.store)
