-- Lines with their numbers, as an iterator gives them.
use Rattle.std.specs.Prelude.{◌≡◌, ℕ, ◌+◌, List, [], ◌∷◌, Option, Some, None}
use Rattle.std.specs.Borrow.{Bor}
use Rattle.trace.specs.declared.numbered.Lines.{Lines}
use Rattle.trace.specs.Lines.{lines}

-- the lines still to come, and the number of the first of them
abbrev pub lines_left : Lines → List (List ℕ)
lines_left it = lines it.rest.now

abbrev pub next_number : Lines → ℕ
next_number it = it.number

-- a call gave the first line that was left, with its number, or `None` where no line was left
abbrev pub GivesLine : Lines → Option (ℕ × Bor (List ℕ)) → Lines → Type 0
GivesLine s (Some x) t = (x.0 ≡ next_number s) × (lines_left s ≡ x.1.now ∷ lines_left t) × (next_number t ≡ next_number s + 1)
GivesLine s None t = (lines_left s ≡ []) × (t ≡ s)
