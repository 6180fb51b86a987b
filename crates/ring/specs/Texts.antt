-- The text of the four counts. `decimal n` is what `{n}` writes.
use Rattle.std.specs.Prelude.{ℕ, List, ◌++◌, codes, decimal}
use Rattle.ring.specs.declared.counts.Counts.{Counts}

-- `overflows 2 underflows 1 spilled 4 filled 2`
abbrev pub counts_text : Counts → List ℕ
counts_text c =
    codes "overflows " ++ (decimal c.overflows ++ (codes " underflows " ++ (decimal c.underflows ++
    (codes " spilled " ++ (decimal c.spilled ++ (codes " filled " ++ decimal c.filled))))))
