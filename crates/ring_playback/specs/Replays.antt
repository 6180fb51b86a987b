-- What a trace comes to: the text printed, and the line that could not be read, if any.
use Rattle.std.specs.Prelude.{ℕ, List, Option}
use Rattle.trace.specs.declared.setups.Setup.{Setup}
use Rattle.trace.specs.declared.setups.Setup.TheVariants.{Flat, Ring}
use Rattle.trace.specs.Setups.{SmallSetup, setup_text}
use Rattle.trace.specs.Texts.{Reads}
use Rattle.script.specs.declared.faults.Expected.TheVariants.{AnySetup}
use Rattle.script.specs.declared.faults.LineFault.{LineFault}
use Rattle.playback.specs.Flats.{FlatOutcome, Unless}
use Rattle.playback.specs.Replaying.{Replayed}
use Rattle.ring_playback.specs.Rings.{PlayedWith, ring_fault, room_of}

-- a first line read as a setup
abbrev pub SetupLine : List ℕ → Option Setup → Type 0
SetupLine = Reads SmallSetup setup_text

-- what the lines after it come to on the file that it asks for, or the refusal of that
abbrev pub Outcome : Setup → List (List ℕ) → List ℕ → Option LineFault → Type 0
Outcome (Flat n) ls text f = FlatOutcome n ls text f
Outcome (Ring r) ls text f = Unless (ring_fault r) (PlayedWith r.policy r.windows (room_of r.store) ls text f) text f

-- a trace that chooses a flat file or a ring
abbrev pub Replays : List (List ℕ) → List ℕ → Option LineFault → Type 0
Replays = Replayed SetupLine AnySetup Outcome
