-- What a script prints on a file, and the line that ended it, if any.
use Rattle.std.specs.Prelude.{◌≡◌, ℕ, List, [], ◌∷◌, ◌++◌, Some, None, Option}
use Rattle.refusal.specs.declared.faults.SetupFault.{SetupFault}
use Rattle.refusal.specs.Refusals.{setup_refusal}
use Rattle.refusal.specs.Texts.{refusal_text}
use Rattle.frames.specs.declared.calls.Call.{Call}
use Rattle.frames.specs.Frames.{Frames}
use Rattle.frames.specs.Calls.{answer_to, after_call, after_calls}
use Rattle.frames.specs.Texts.{answer_text}
use Rattle.listing.specs.Listing.{listing_text}
use Rattle.script.specs.declared.faults.LineFault.{LineFault}

-- a text with its line end
abbrev pub ended : List ℕ → List ℕ
ended text = text ++ (10 ∷ [])

-- the line that says why there is no file
abbrev pub refusal_line : SetupFault → List ℕ
refusal_line fault = ended (refusal_text (setup_refusal fault))

-- each answer on a line, each call met by the frames that the earlier ones left
abbrev pub answers_text : Frames → List Call → List ℕ
answers_text s [] = []
answers_text s (c ∷ cs) = ended (answer_text (answer_to s c)) ++ answers_text (after_call s c) cs

-- nothing where a line ended the script, else the given text
abbrev pub closing : Option LineFault → List ℕ → List ℕ
closing (Some fault) text = []
closing None text = text

-- the answers, and then the frames that are left, unless a line ended the script
abbrev pub played_text : Frames → List Call → Option LineFault → List ℕ
played_text s cs f = answers_text s cs ++ closing f (listing_text (after_calls s cs))

-- a refusal is all that is printed, and no other line is looked at
abbrev pub Refused : SetupFault → List ℕ → Option LineFault → Type 0
Refused e text f = (text ≡ refusal_line e) × (f ≡ None)
