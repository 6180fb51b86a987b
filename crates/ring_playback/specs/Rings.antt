-- A ring that a first line asks for.
use Rattle.std.specs.Prelude.{◌≡◌, ℕ, ◌+◌, ◌-◌, ◌^◌, min, cond, List, Some, None, Ok, Err, Option, Result, string_bytes}
use Rattle.refusal.specs.declared.faults.SetupFault.{SetupFault}
use Rattle.refusal.specs.declared.faults.SetupFault.TheVariants as fault
use Rattle.frames.specs.declared.calls.Call.{Call}
use Rattle.frames.specs.Frames.{fresh}
use Rattle.policies.specs.declared.adaptive.Adaptive.{Adaptive}
use Rattle.policies.specs.declared.fixed.Fixed.{Fixed}
use Rattle.policies.specs.declared.policy.SpillPolicy.{Ghosts as Policy}
use Rattle.policies.specs.contracts.adaptive.AdaptiveSpillPolicy.TheImpl.{ghosts as adaptive_policy}
use Rattle.policies.specs.contracts.fixed.FixedSpillPolicy.TheImpl.{ghosts as fixed_policy}
use Rattle.policies.specs.Fixed.{IsFixed, fixed_fault}
use Rattle.ring.specs.declared.counts.Counts.{Counts}
use Rattle.ring.specs.Cycle.{most_resident}
use Rattle.ring.specs.Movements.{begun, moves_by_all}
use Rattle.ring.specs.WindowCounts.{is_window_count}
use Rattle.trace.specs.declared.setups.PolicySetup.{PolicySetup}
use Rattle.trace.specs.declared.setups.PolicySetup.TheVariants as policy
use Rattle.trace.specs.declared.setups.RingSetup.{RingSetup}
use Rattle.trace.specs.declared.setups.StoreSetup.{StoreSetup}
use Rattle.trace.specs.declared.setups.StoreSetup.TheVariants as store
use Rattle.script.specs.declared.faults.LineFault.{LineFault}
use Rattle.script.specs.Scripts.{Scripted}
use Rattle.playback.specs.declared.playing.Playback.{Playback}
use Rattle.playback.specs.Flats.{capacity_fault}
use Rattle.ring_playback.specs.declared.rings.Unplayed.{Unplayed}
use Rattle.ring_playback.specs.declared.rings.Unplayed.TheVariants.{Refused, OutOfMemory}
use Rattle.ring_playback.specs.Beside.{ring_played_text}

-- how many windows a store may hold
abbrev pub room_of : StoreSetup → ℕ
room_of (store.Flat capacity) = capacity

-- the capacity of a ring of n windows, and of the flat file beside it, as a 32-bit number
abbrev pub ring_capacity : ℕ → ℕ → ℕ
ring_capacity n room = min (2 ^ 32 - 1) (most_resident n + room)

-- the first of two faults
abbrev pub or_else : Option SetupFault → Option SetupFault → Option SetupFault
or_else (Some e) next = Some e
or_else None next = next

-- the fault of a number of windows, if it is none
abbrev pub count_fault : ℕ → Option SetupFault
count_fault n = cond (is_window_count n) None (Some (fault.WindowCount n))

-- the fault of a policy, if it is none
abbrev pub policy_fault : PolicySetup → Option SetupFault
policy_fault (policy.Fixed spill fill) = fixed_fault spill fill
policy_fault policy.Adaptive = None

-- the first fault of a ring: its windows, its policy, and the capacity of the flat file beside it
abbrev pub ring_fault : RingSetup → Option SetupFault
ring_fault r = or_else (count_fault r.windows) (or_else (policy_fault r.policy) (capacity_fault (ring_capacity r.windows (room_of r.store))))

-- the four counts after calls on a ring that was fresh
abbrev pub counts_after : {P : Type 0} → Policy P → P → ℕ → ℕ → List Call → Counts
counts_after r p n room cs = (moves_by_all r (record { numbers = begun n 0 room; policy = p }) cs).numbers.counts

-- the calls that the lines ask for, made on a fresh ring with the policy p, over an empty store of that room
abbrev pub PlayedRing : {P : Type 0} → Policy P → P → ℕ → ℕ → List (List ℕ) → List ℕ → Option LineFault → Type 0
PlayedRing r p n room ls text f = (cs : List Call) × Scripted 2 ls cs f × (text ≡ ring_played_text (fresh (ring_capacity n room)) (counts_after r p n room cs) cs f)

-- the same with the policy that is asked for, as it is made
abbrev pub PlayedWith : PolicySetup → ℕ → ℕ → List (List ℕ) → List ℕ → Option LineFault → Type 0
PlayedWith (policy.Fixed spill fill) n room ls text f = (p : Fixed) × IsFixed spill fill p × PlayedRing fixed_policy p n room ls text f
PlayedWith policy.Adaptive n room ls text f = (p : Adaptive) × (p.count ≡ 0) × PlayedRing adaptive_policy p n room ls text f

-- a playback of what is claimed where nothing is at fault, else the fault, unless memory ran out
abbrev pub Tried : Option SetupFault → (List ℕ → Option LineFault → Type 0) → Result Playback Unplayed → Type 0
Tried fault claim (Ok p) = (fault ≡ None) × claim (string_bytes p.text) p.fault
Tried fault claim (Err (Refused e)) = fault ≡ Some e
Tried fault claim (Err (OutOfMemory error)) = Unit {0}
