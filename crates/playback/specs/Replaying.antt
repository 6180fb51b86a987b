-- What a trace comes to: the text printed, and the line that could not be read, if any.
use Rattle.std.specs.Prelude.{◌≡◌, ℕ, List, [], ◌∷◌, Some, None, Option}
use Rattle.trace.specs.Texts.{Reads, Small, flat_text}
use Rattle.script.specs.declared.faults.Expected.{Expected}
use Rattle.script.specs.declared.faults.Expected.TheVariants.{Setup}
use Rattle.script.specs.declared.faults.LineFault.{LineFault}
use Rattle.script.specs.Scripts.{unread}
use Rattle.playback.specs.Flats.{FlatOutcome}

-- what the lines of a trace print, and the line that could not be read, by the choice that its first line is read as, and by what the lines after it come to
pub data Replayed {X : Type 0} (Line : List ℕ → Option X → Type 0) (e : Expected) (Outcome : X → List (List ℕ) → List ℕ → Option LineFault → Type 0) : List (List ℕ) → List ℕ → Option LineFault → Type 0 where
  empty : Replayed Line e Outcome [] [] (unread 1 e)
  no_choice : {l : List ℕ} {ls : List (List ℕ)} → Line l None → Replayed Line e Outcome (l ∷ ls) [] (unread 1 e)
  with_choice : {l text : List ℕ} {ls : List (List ℕ)} {f : Option LineFault} (x : X) → Line l (Some x) → Outcome x ls text f → Replayed Line e Outcome (l ∷ ls) text f

-- a first line read as the capacity of a flat file
abbrev pub FlatLine : List ℕ → Option ℕ → Type 0
FlatLine = Reads Small flat_text

-- a trace that chooses a flat file
abbrev pub Replays : List (List ℕ) → List ℕ → Option LineFault → Type 0
Replays = Replayed FlatLine Setup FlatOutcome

-- lines have one outcome
abbrev pub OneOutcome : (List (List ℕ) → List ℕ → Option LineFault → Type 0) → Type 0
OneOutcome Outcome =
    (ls : List (List ℕ)) (text text' : List ℕ) (f f' : Option LineFault) → Outcome ls text f → Outcome ls text' f' → (text ≡ text') × (f ≡ f')
