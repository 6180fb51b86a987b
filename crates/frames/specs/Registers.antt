-- Which registers a register file has.
use Rattle.std.specs.Prelude.{◌≡◌, ℕ, true, false, Ok, Err, Result}
use Rattle.refusal.specs.declared.faults.FileFault.{FileFault}
use Rattle.refusal.specs.declared.faults.FileFault.TheVariants.{NoSuchRegister}
use Rattle.frames.specs.declared.register.Register.{Register}
use Rattle.frames.specs.Frames.{is_windowed}

-- the register of a number, or the refusal of another number
abbrev pub MakesRegister : ℕ → Result Register FileFault → Type 0
MakesRegister n (Ok r) = (is_windowed n ≡ true) × (r.number ≡ n)
MakesRegister n (Err e) = (is_windowed n ≡ false) × (e ≡ NoSuchRegister n)
