-- A flat store holds no more than its capacity, and eight words in each group. It stands here since a store's type carries it.
use Rattle.std.specs.Prelude.{◌≤◌, List, [], ◌∷◌, map, length}
use Rattle.std.proofs.Common.{arith}
use Rattle.std.specs.List.{AllByRecursion}
use Rattle.std.proofs.lemmas.List.{length-map, length-take-le}
use Rattle.frames.specs.Frames.{Eight}
use Rattle.stores.specs.declared.stack.Stack.{Stack}
use Rattle.stores.specs.declared.window.SavedWindow.{SavedWindow}
use Rattle.stores.specs.Tables.{contents}
use Rattle.stores.specs.Windows.{saved_frame}

all_eight : (ws : List SavedWindow) → AllByRecursion Eight (map saved_frame ws)
all_eight [] = tt
all_eight (w ∷ ws) = ((w.eight_ins, w.eight_locals), all_eight ws)

pub flat_eight : (s : Stack SavedWindow) → AllByRecursion Eight (map saved_frame (contents s))
flat_eight s = all_eight (contents s)

pub flat_within : (s : Stack SavedWindow) → length (map saved_frame (contents s)) ≤ length s.table.now
flat_within s =
    let within = s.within in
    let mapped = length-map (contents s) saved_frame in
    let front = length-take-le s.len s.table.now (omega arith) in
    omega arith
