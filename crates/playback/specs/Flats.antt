-- A flat file that a first line asks for.
use Rattle.std.specs.Prelude.{◌≡◌, ℕ, cond, List, Some, None, Option}
use Rattle.refusal.specs.declared.faults.SetupFault.{SetupFault}
use Rattle.refusal.specs.declared.faults.SetupFault.TheVariants.{FlatCapacity}
use Rattle.frames.specs.declared.calls.Call.{Call}
use Rattle.frames.specs.Frames.{fresh}
use Rattle.frames.specs.Flat.{is_flat_capacity}
use Rattle.script.specs.declared.faults.LineFault.{LineFault}
use Rattle.script.specs.Scripts.{Scripted}
use Rattle.playback.specs.Playing.{Refused, played_text}

-- what is claimed where nothing is at fault, else the refusal
abbrev pub Unless : Option SetupFault → Type 0 → List ℕ → Option LineFault → Type 0
Unless (Some e) claim text f = Refused e text f
Unless None claim text f = claim

-- the fault of a flat file of that capacity, if it is none
abbrev pub capacity_fault : ℕ → Option SetupFault
capacity_fault n = cond (is_flat_capacity n) None (Some (FlatCapacity n))

-- the calls that the lines ask for, made on a fresh flat file
abbrev pub PlayedFlat : ℕ → List (List ℕ) → List ℕ → Option LineFault → Type 0
PlayedFlat n ls text f = (cs : List Call) × Scripted 2 ls cs f × (text ≡ played_text (fresh n) cs f)

-- what the lines come to on a flat file of that capacity, or the refusal of that
abbrev pub FlatOutcome : ℕ → List (List ℕ) → List ℕ → Option LineFault → Type 0
FlatOutcome n ls text f = Unless (capacity_fault n) (PlayedFlat n ls text f) text f
