-- The list of refusals: the number, layer and place of each fault.
use Rattle.std.specs.Prelude.{ℕ}
use Rattle.refusal.specs.declared.layers.Layer.{Layer}
use Rattle.refusal.specs.declared.layers.Layer.TheVariants.{File, Setup, Store}
use Rattle.refusal.specs.declared.refusals.Refusal.{Refusal}
use Rattle.refusal.specs.declared.faults.FileFault.{FileFault}
use Rattle.refusal.specs.declared.faults.FileFault.TheVariants.{NoSuchRegister, AtCapacity, LastFrame}
use Rattle.refusal.specs.declared.faults.SetupFault.{SetupFault}
use Rattle.refusal.specs.declared.faults.SetupFault.TheVariants.{WindowCount, SpillAmount, FillAmount, FlatCapacity}
use Rattle.refusal.specs.declared.faults.StoreFault.{StoreFault}
use Rattle.refusal.specs.declared.faults.StoreFault.TheVariants.{Full, Empty}

-- a refusal by its three parts
abbrev pub refused : ℕ → Layer → ℕ → Refusal
refused number layer place = record { number = number; layer = layer; place = place }

-- what a register file refuses: the place is the register, or the depth told
abbrev pub file_refusal : FileFault → Refusal
file_refusal (NoSuchRegister register) = refused 1 File register
file_refusal (AtCapacity depth) = refused 2 File depth
file_refusal (LastFrame depth) = refused 3 File depth

-- what is refused before anything is made: the place is the offending value
abbrev pub setup_refusal : SetupFault → Refusal
setup_refusal (WindowCount windows) = refused 4 Setup windows
setup_refusal (SpillAmount amount) = refused 7 Setup amount
setup_refusal (FillAmount amount) = refused 8 Setup amount
setup_refusal (FlatCapacity capacity) = refused 9 Setup capacity

-- what a save store refuses: the place is the number of windows held, as it is told
abbrev pub store_refusal : StoreFault → Refusal
store_refusal (Full held) = refused 5 Store held
store_refusal (Empty held) = refused 6 Store held
