use Rattle.std.proofs.Common.{◌≡◌}
use Rattle.ring.specs.Transfers.{Filled}
use Rattle.ring.specs.Words.{window_at}
use Rattle.ring.proofs.ring.transfers.fill.Given as goal

abbrev pub invariant-loop-j : goal.invariant-loop-j
invariant-loop-j g l =
    record {
      filled : Filled l.residency l.table.words (g.S.SaveStore.windows l.initial.store) (g.S.SaveStore.windows l.store) l.j;
      newest_kept : window_at l.table.words l.residency.pointer ≡ window_at l.initial.table.words l.residency.pointer;
      same_capacity : g.S.SaveStore.capacity l.store ≡ g.S.SaveStore.capacity l.initial.store;
    }
