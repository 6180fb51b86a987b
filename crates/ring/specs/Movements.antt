-- What a save and a restore move: a ring seen as a few numbers.
use Rattle.std.specs.Prelude.{◌≡◌, ℕ, ◌+◌, ◌-◌, ◌^◌, min, cond, List, [], ◌∷◌, length, nat_lt, refl}
use Rattle.frames.specs.declared.calls.Call.{Call}
use Rattle.frames.specs.declared.calls.Call.TheVariants.{Save, Restore, Read, Write, Depth, Spare}
use Rattle.frames.specs.Stillness.{Effects}
use Rattle.policies.specs.declared.policy.SpillPolicy.{Ghosts as Policy}
use Rattle.stores.specs.declared.store.SaveStore.{Ghosts as Store}
use Rattle.ring.specs.declared.counts.Counts.{Counts}
use Rattle.ring.specs.declared.ring.WindowRing.{WindowRing}
use Rattle.ring.specs.Cycle.{down, mask_of, most_resident, up}
use Rattle.ring.specs.Tables.{count_of, pointer_of, resident_of}

-- its windows, the pointer, how many windows are resident, the mask of those that are not, how many the store holds and may hold, and the four counts
pub record Movement : Type 0 where
  pub windows : ℕ
  pub pointer : ℕ
  pub resident : ℕ
  pub mask : ℕ
  pub held : ℕ
  pub room : ℕ
  pub counts : Counts

-- these numbers, and the policy
pub record Moving (P : Type 0) : Type 0 where
  pub numbers : Movement
  pub policy : P

-- nothing has moved
abbrev pub no_counts : Counts
no_counts = record { overflows = 0; underflows = 0; spilled = 0; filled = 0 }

-- a ring of n windows, made over a store that holds h of at most room
abbrev pub begun : ℕ → ℕ → ℕ → Movement
begun n h room = record { windows = n; pointer = 0; resident = 1; mask = mask_of n 0 1; held = h; room = room; counts = no_counts }

-- a ring, by what its store stands for
abbrev pub moving : {S P : Type 0} → Store S → WindowRing S P → Moving P
moving s x =
    record {
      numbers = record {
        windows = count_of x.windows;
        pointer = pointer_of x.windows;
        resident = resident_of x.windows;
        mask = x.windows.residency.mask;
        held = length (s.windows x.store);
        room = s.capacity x.store;
        counts = x.counts;
      };
      policy = x.policy;
    }

-- a ring of n windows, made over a store and with a policy
abbrev pub begins : {S P : Type 0} → Store S → ℕ → S → P → Moving P
begins s n store policy = record { numbers = begun n (length (s.windows store)) (s.capacity store); policy = policy }

-- how many frames more there may be: in the windows and in the store
abbrev pub room_for_frames : Movement → ℕ
room_for_frames m = most_resident m.windows - m.resident + (m.room - m.held)

-- which of three ways a save goes: there is room, it is refused, or an overflow
abbrev pub on_save : {X : Type 0} → Movement → X → X → X → X
on_save m fits refused overflow =
    cond (nat_lt m.resident (most_resident m.windows)) fits (cond (nat_lt m.held m.room) overflow refused)

-- which of three ways a restore goes: the caller is resident, it is refused, or an underflow
abbrev pub on_restore : {X : Type 0} → Movement → X → X → X → X
on_restore m fits refused underflow = cond (nat_lt 1 m.resident) fits (cond (nat_lt 0 m.held) underflow refused)

-- how many windows go at an overflow, and come at an underflow, where the policy's amount is a
abbrev pub spill_size : ℕ → Movement → ℕ
spill_size a m = min (min a (most_resident m.windows)) (m.room - m.held)

abbrev pub fill_size : ℕ → Movement → ℕ
fill_size a m = min (min a (most_resident m.windows)) m.held

-- a count, k higher, that stops at 2^64 − 1
abbrev pub counted : ℕ → ℕ → ℕ
counted c k = min (2 ^ 64 - 1) (c + k)

-- the counts after an overflow of k windows, and after an underflow
abbrev pub overflow_counted : ℕ → Counts → Counts
overflow_counted k c = record { overflows = counted c.overflows 1; underflows = c.underflows; spilled = counted c.spilled k; filled = c.filled }

abbrev pub underflow_counted : ℕ → Counts → Counts
underflow_counted k c = record { overflows = c.overflows; underflows = counted c.underflows 1; spilled = c.spilled; filled = counted c.filled k }

-- k windows went to the store, and the pointer went down
abbrev pub gone_down : ℕ → Counts → Movement → Movement
gone_down k counts m =
    record {
      windows = m.windows;
      pointer = down m.windows m.pointer;
      resident = m.resident + 1 - k;
      mask = mask_of m.windows (down m.windows m.pointer) (m.resident + 1 - k);
      held = m.held + k;
      room = m.room;
      counts = counts;
    }

-- k windows came from the store, and the pointer went up
abbrev pub gone_up : ℕ → Counts → Movement → Movement
gone_up k counts m =
    record {
      windows = m.windows;
      pointer = up m.windows m.pointer;
      resident = m.resident + k - 1;
      mask = mask_of m.windows (up m.windows m.pointer) (m.resident + k - 1);
      held = m.held - k;
      room = m.room;
      counts = counts;
    }

-- how many windows a save spills, and a restore fills
abbrev pub spills_now : {P : Type 0} → Policy P → Moving P → ℕ
spills_now r x = on_save x.numbers 0 0 (spill_size (r.spills x.policy) x.numbers)

abbrev pub fills_now : {P : Type 0} → Policy P → Moving P → ℕ
fills_now r x = on_restore x.numbers 0 0 (fill_size (r.fills x.policy) x.numbers)

-- a save: at an overflow windows go and the policy is told, once; else neither
abbrev pub saves : {P : Type 0} → Policy P → Moving P → Moving P
saves r x =
    let m = x.numbers in
    let k = spill_size (r.spills x.policy) m in
    record {
      numbers = on_save m (gone_down 0 m.counts m) m (gone_down k (overflow_counted k m.counts) m);
      policy = on_save m x.policy x.policy (r.after_overflow x.policy);
    }

-- a restore: at an underflow windows come and the policy is told, once; else neither
abbrev pub restores : {P : Type 0} → Policy P → Moving P → Moving P
restores r x =
    let m = x.numbers in
    let k = fill_size (r.fills x.policy) m in
    record {
      numbers = on_restore m (gone_up 0 m.counts m) m (gone_up k (underflow_counted k m.counts) m);
      policy = on_restore m x.policy x.policy (r.after_underflow x.policy);
    }

-- any call: only a save and a restore move anything
abbrev pub moves_by : {P : Type 0} → Policy P → Moving P → Call → Moving P
moves_by r x Save = saves r x
moves_by r x Restore = restores r x
moves_by r x (Read i) = x
moves_by r x (Write i v) = x
moves_by r x Depth = x
moves_by r x Spare = x

-- what a call on a ring does to more than its frames
abbrev pub ring_effects : {S P : Type 0} → Store S → Policy P → Effects (WindowRing S P)
ring_effects s r = record { Moves = λ x c y. moving s y ≡ moves_by r (moving s x) c; asking = λ x. record { read = λ i. refl; depth = refl; spare = refl } }

-- a list of calls, one after the other
abbrev pub moves_by_all : {P : Type 0} → Policy P → Moving P → List Call → Moving P
moves_by_all r x [] = x
moves_by_all r x (c ∷ cs) = moves_by_all r (moves_by r x c) cs
