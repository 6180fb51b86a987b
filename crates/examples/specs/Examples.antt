-- Worked examples: calls on a fresh file of some capacity, and the line that each answer is printed as.
use Rattle.std.specs.Prelude.{◌≡◌, ℕ, List, [], ◌∷◌, map, codes}
use Rattle.std.specs.List.{AllByRecursion}
use Rattle.frames.specs.declared.calls.Call.{Call}
use Rattle.frames.specs.declared.calls.Call.TheVariants.{Save, Restore, Read, Write}
use Rattle.frames.specs.Frames.{fresh}
use Rattle.frames.specs.Calls.{answers_to}
use Rattle.frames.specs.Texts.{answer_text}

-- one example
pub record Example : Type 0 where
  pub capacity : ℕ
  pub calls : List Call
  pub printed : List (List ℕ)

-- an example by its three parts
abbrev pub example : ℕ → List Call → List (List ℕ) → Example
example capacity calls printed = record { capacity = capacity; calls = calls; printed = printed }

-- the table
abbrev pub worked : List Example
worked =
    -- a caller's out is its callee's in, and the callee's outs are 0
    example 2 (Write 8 5 ∷ Save ∷ Read 24 ∷ Read 8 ∷ []) (codes "ok" ∷ codes "ok" ∷ codes "word 5" ∷ codes "word 0" ∷ [])
    -- what the callee leaves in that in comes back as the out
    ∷ example 2 (Write 8 5 ∷ Save ∷ Write 24 9 ∷ Restore ∷ Read 8 ∷ []) (codes "ok" ∷ codes "ok" ∷ codes "ok" ∷ codes "ok" ∷ codes "word 9" ∷ [])
    -- two frames are all that capacity 2 allows
    ∷ example 2 (Save ∷ Save ∷ []) (codes "ok" ∷ codes "refused 2 File at 2" ∷ [])
    -- a fresh file has one frame, which stays
    ∷ example 2 (Restore ∷ []) (codes "refused 3 File at 1" ∷ [])
    ∷ []

-- the answers are printed so
abbrev pub Holds : Example → Type 0
Holds e = map answer_text (answers_to (fresh e.capacity) e.calls) ≡ e.printed

-- the theorem over the table
abbrev pub WorkedExamplesHold : Type 0
WorkedExamplesHold = AllByRecursion Holds worked
