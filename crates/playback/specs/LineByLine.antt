-- A trace's calls, line by line: what each line prints, and what it leaves to the next.
use Rattle.std.specs.Prelude.{◌≡◌, ℕ, ◌+◌, List, [], ◌∷◌, ◌++◌, Some, None, Option}
use Rattle.frames.specs.declared.calls.Call.{Call}
use Rattle.frames.specs.Frames.{Frames}
use Rattle.frames.specs.Calls.{answer_to, after_call}
use Rattle.frames.specs.Texts.{answer_text}
use Rattle.listing.specs.Listing.{listing_text}
use Rattle.script.specs.declared.faults.Expected.TheVariants.{Request}
use Rattle.script.specs.declared.faults.LineFault.{LineFault}
use Rattle.script.specs.Scripts.{unread, CallLine, Scripted}
use Rattle.playback.specs.Playing.{ended, played_text}

-- the lines from number k on, met by the frames s, print the text; a line that is no call ends it
pub data Plays : ℕ → Frames → List (List ℕ) → List ℕ → Option LineFault → Type 0 where
  lists_the_frames : {k : ℕ} {s : Frames} {text : List ℕ} → text ≡ listing_text s → Plays k s [] text None
  breaks_off : {k : ℕ} {s : Frames} {l : List ℕ} {ls : List (List ℕ)} → CallLine l None → Plays k s (l ∷ ls) [] (unread k Request)
  answers : {k : ℕ} {s : Frames} {l text rest : List ℕ} {ls : List (List ℕ)} {f : Option LineFault} (c : Call) → CallLine l (Some c) → Plays (k + 1) (after_call s c) ls rest f →
      text ≡ ended (answer_text (answer_to s c)) ++ rest → Plays k s (l ∷ ls) text f

-- what the script of some lines prints is what the lines print one by one, and the other way
pub record PlaysLineByLine : Type 0 where
  pub a_script_plays_its_lines : (k : ℕ) (s : Frames) (ls : List (List ℕ)) (cs : List Call) (f : Option LineFault) → Scripted k ls cs f → Plays k s ls (played_text s cs f) f
  pub lines_play_their_script : (k : ℕ) (s : Frames) (ls : List (List ℕ)) (text : List ℕ) (f : Option LineFault) → Plays k s ls text f → (cs : List Call) × Scripted k ls cs f × (text ≡ played_text s cs f)
