-- A ring's windows, by their words, their number, the pointer and how many are resident.
use Rattle.std.specs.Prelude.{ℕ, List}
use Rattle.ring.specs.declared.windows.Windows.{Windows}
use Rattle.ring.specs.Residencies.{resident_count, window_count}

-- their words
abbrev pub words_of : Windows → List ℕ
words_of t = t.table.words

-- how many windows there are
abbrev pub count_of : Windows → ℕ
count_of t = window_count t.residency

-- how many are resident
abbrev pub resident_of : Windows → ℕ
resident_of t = resident_count t.residency

-- the newest frame's window
abbrev pub pointer_of : Windows → ℕ
pointer_of t = t.residency.pointer
