use Rattle.std.proofs.Common.{rules, ℕ, ◌<◌, ◌≤◌, length, ap, ◌∙◌, arith}
use Rattle.ring.specs.Tables.{count_of, pointer_of, resident_of}
use Rattle.ring.specs.Transfers.{Filled}
use Rattle.ring.specs.Words.{upper, window_at}
use Rattle.ring.proofs.Restoring.{restore_within, restore_with_underflow}
use Rattle.ring.proofs.ring.methods.WindowRingRegisterFile.restore.Goals as goal

pub returns-then-resident-gt1 : goal.returns-then-resident-gt1
returns-then-resident-gt1 g c =
    let x = c.args.self.now in
    let more : 1 < resident_of x.windows = omega arith in
    let done = restore_within g.S.SaveStore g.P.SpillPolicy x c.leave.new.self c.leave.ensures.pointer_goes_up c.leave.ensures.keeps_the_words more in
    search rules

pub returns : goal.returns
returns g c =
    let x = c.args.self.now in
    let s = g.S.SaveStore in
    let k : ℕ = c.fill_size-k.result in
    let few = x.windows.residency.windows.few in
    let one : resident_of x.windows ≤ 1 = omega arith in
    let some : 1 ≤ c.fill_size-k.result = omega (arith, c.if-k-eq0.false) in
    let is = c.fill_size-k.ensures in
    let fits : c.fill_size-k.result ≤ length (g.S.SaveStore.windows x.store) = omega arith in
    let words = c.leave-2.ensures.keeps_the_words in
    let moved = c.fill.ensures.takes_the_newest_first in
    let filled : Filled x.windows.residency c.leave-2.new.self.table.words (s.windows x.store) (s.windows c.fill.new.store) k =
    record {
      store_lost_the_newest = moved.store_lost_the_newest;
      windows_have_them = ap (λ ws. upper ws (count_of x.windows) (pointer_of x.windows) k) words ∙ moved.windows_have_them;
    } in
    let own = ap (λ ws. window_at ws (pointer_of x.windows)) words ∙ c.fill.ensures.keeps_the_newest_frame in
    let done = restore_with_underflow s g.P.SpillPolicy x c.leave-2.new.self _ _ _ k c.leave-2.ensures.pointer_goes_up filled own c.fill.ensures.keeps_the_capacity some fits one is c.note_underflow.ensures.tells_the_policy_once c.note_underflow.ensures.counts_the_underflow in
    search rules
