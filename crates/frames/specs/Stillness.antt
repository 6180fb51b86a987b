-- What a file does to more than its frames.
use Rattle.std.specs.Prelude.{ℕ}
use Rattle.frames.specs.declared.calls.Call.{Call}
use Rattle.frames.specs.declared.calls.Call.TheVariants.{Read, Depth, Spare}

-- a file x that is read, or asked for its depth or spare, has moved by that to x itself
pub record AskingMovesNothing {F : Type 0} (Moves : F → Call → F → Type 0) (x : F) : Type 0 where
  pub read : (r : ℕ) → Moves x (Read r) x
  pub depth : Moves x Depth x
  pub spare : Moves x Spare x

-- what each call does to that, and that asking does nothing
pub record Effects (F : Type 0) : Type 1 where
  pub Moves : F → Call → F → Type 0
  pub asking : (x : F) → AskingMovesNothing Moves x

-- of a file that has nothing else
abbrev pub no_effects : {F : Type 0} → Effects F
no_effects = record { Moves = λ x c y. Unit {0}; asking = λ x. record { read = λ r. tt; depth = tt; spare = tt } }
