use Rattle.std.proofs.Common.{rules, arith}
use Rattle.ring.proofs.Trips.{fill_more, newest_kept, take_fewer}
use Rattle.ring.proofs.ring.transfers.fill.Goals as goal

pub loop-j-preserved : goal.loop-j-preserved
loop-j-preserved g c =
    let y = c.args.residency in
    let long = c.loop-j.table.long in
    let sofar = c.loop-j.invariant in
    record {
      filled = record {
        store_lost_the_newest = search (rules, take_fewer);
        windows_have_them = fill_more _ _ _ _ _ _ c.take.new.to c.set_window.ensures long y.windows.few y.inside (omega arith) c.target.ensures _ _ _ (omega arith) c.take.ensures.gives_the_newest sofar.filled.store_lost_the_newest sofar.filled.windows_have_them;
      };
      newest_kept = newest_kept _ _ _ _ _ _ c.take.new.to c.set_window.ensures long y.windows.few y.inside (omega arith) c.target.ensures _ sofar.newest_kept;
      same_capacity = search rules;
    }
