use Rattle.std.proofs.Common.{rules, ℕ, ◌<◌, ◌≤◌, length, arith}
use Rattle.ring.specs.Cycle.{most_resident}
use Rattle.ring.specs.Tables.{count_of, resident_of}
use Rattle.ring.proofs.Saving.{save_within, save_at_capacity, save_with_overflow}
use Rattle.ring.proofs.ring.methods.WindowRingRegisterFile.save.Goals as goal

pub returns-then-resident-most_resident : goal.returns-then-resident-most_resident
returns-then-resident-most_resident g c =
    let x = c.args.self.now in
    let less : resident_of x.windows < most_resident (count_of x.windows) = omega arith in
    let done = save_within g.S.SaveStore g.P.SpillPolicy x c.enter.new.self c.enter.ensures.pointer_goes_down c.enter.ensures.new_frame_is_cleared less in
    search rules

pub returns-then-k-eq0 : goal.returns-then-k-eq0
returns-then-k-eq0 g c =
    let x = c.args.self.now in
    let range = g.P.SpillPolicy.in_range x.policy in
    let some = range.some_spill in
    let low = x.windows.residency.windows.some_resident in
    let full : most_resident (count_of x.windows) ≤ resident_of x.windows = omega arith in
    let none : g.S.SaveStore.capacity x.store ≤ length (g.S.SaveStore.windows x.store) = omega (arith, c.spill_size-k.ensures, c.if-k-eq0.true) in
    let done = save_at_capacity g.S.SaveStore g.P.SpillPolicy x c.depth.result full none c.depth.ensures.answers_as_the_frames_do in
    search rules

pub returns : goal.returns
returns g c =
    let x = c.args.self.now in
    let few = x.windows.residency.windows.few in
    let k : ℕ = c.spill_size-k.result in
    let full : most_resident (count_of x.windows) ≤ resident_of x.windows = omega arith in
    let is = c.spill_size-k.ensures in
    let some : length (g.S.SaveStore.windows x.store) < g.S.SaveStore.capacity x.store = omega (arith, c.if-k-eq0.false) in
    let fits : c.spill_size-k.result ≤ resident_of x.windows = omega arith in
    let done = save_with_overflow g.S.SaveStore g.P.SpillPolicy x c.enter-2.new.self _ _ _ k c.enter-2.ensures.pointer_goes_down c.enter-2.ensures.new_frame_is_cleared c.spill.ensures.puts_the_oldest_first c.spill.ensures.keeps_the_capacity fits full some is c.note_overflow.ensures.tells_the_policy_once c.note_overflow.ensures.counts_the_overflow in
    search rules
