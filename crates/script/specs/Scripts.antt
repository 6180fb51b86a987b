-- The calls that the lines of a trace ask for.
use Rattle.std.specs.Prelude.{ℕ, ◌+◌, List, [], ◌∷◌, Some, None, Option}
use Rattle.frames.specs.declared.calls.Call.{Call}
use Rattle.trace.specs.Texts.{Reads, SmallCall, call_text}
use Rattle.script.specs.declared.faults.Expected.{Expected}
use Rattle.script.specs.declared.faults.Expected.TheVariants.{Request}
use Rattle.script.specs.declared.faults.LineFault.{LineFault}

-- line k is none of the forms expected
abbrev pub unread : ℕ → Expected → Option LineFault
unread k e = Some (record { line = k; expected = e })

-- a line read as a call
abbrev pub CallLine : List ℕ → Option Call → Type 0
CallLine = Reads SmallCall call_text

-- the calls that the lines from number k on ask for, up to the first line that is none
pub data Scripted : ℕ → List (List ℕ) → List Call → Option LineFault → Type 0 where
  no_more : {k : ℕ} → Scripted k [] [] None
  no_call : {k : ℕ} {l : List ℕ} {ls : List (List ℕ)} → CallLine l None → Scripted k (l ∷ ls) [] (unread k Request)
  one_more : {k : ℕ} {l : List ℕ} {ls : List (List ℕ)} {cs : List Call} {f : Option LineFault} (c : Call) → CallLine l (Some c) → Scripted (k + 1) ls cs f → Scripted k (l ∷ ls) (c ∷ cs) f
