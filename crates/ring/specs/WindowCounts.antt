-- How many windows a ring may have.
use Rattle.std.specs.Prelude.{◌≡◌, ℕ, Bool, true, false, ◌&&◌, Ok, Err, Result, nat_le}
use Rattle.refusal.specs.declared.faults.SetupFault.{SetupFault}
use Rattle.refusal.specs.declared.faults.SetupFault.TheVariants as fault
use Rattle.ring.specs.declared.window_count.WindowCount.{WindowCount}

-- counts from 2 to 32
abbrev pub is_window_count : ℕ → Bool
is_window_count n = nat_le 2 n && nat_le n 32

-- the count, or the refusal of another number
abbrev pub MakesWindowCount : ℕ → Result WindowCount SetupFault → Type 0
MakesWindowCount n (Ok c) = (is_window_count n ≡ true) × (c.count ≡ n)
MakesWindowCount n (Err e) = (is_window_count n ≡ false) × (e ≡ fault.WindowCount n)
