use Rattle.std.proofs.Common.{rules, arith}
use Rattle.ring.proofs.Trips.{spill_more}
use Rattle.ring.proofs.ring.transfers.spill.Goals as goal

pub loop-j-preserved : goal.loop-j-preserved
loop-j-preserved g c = (
  spill_more c.args.windows.now _ _ _ _ _ _ c.window.result (omega arith) (omega arith) c.oldest-w.ensures c.window.ensures c.put.ensures.holds_the_list_after c.loop-j.invariant.0,
  search rules,
)
