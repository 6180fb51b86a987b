-- What a script prints on a ring that has a file beside it.
use Rattle.std.specs.Prelude.{◌≡◌, ℕ, Bool, true, false, List, ◌++◌, codes, Option}
use Rattle.frames.specs.declared.calls.Call.{Call}
use Rattle.frames.specs.Frames.{Frames}
use Rattle.frames.specs.Calls.{after_calls}
use Rattle.policies.specs.declared.policy.SpillPolicy.{Ghosts as Policy}
use Rattle.stores.specs.declared.store.SaveStore.{Ghosts as Store}
use Rattle.ring.specs.declared.counts.Counts.{Counts}
use Rattle.ring.specs.declared.ring.WindowRing.{WindowRing}
use Rattle.ring.specs.Movements.{moving, moves_by_all}
use Rattle.ring.specs.Rings.{frames_of}
use Rattle.ring.specs.Texts.{counts_text}
use Rattle.listing.specs.Listing.{listing_text}
use Rattle.script.specs.declared.faults.LineFault.{LineFault}
use Rattle.playback.specs.Playing.{answers_text, closing, ended}

-- whether the file beside a ring gave the same answers and was left with the same frames
abbrev pub agreement_text : Bool → List ℕ
agreement_text true = codes "agrees with a flat file"
agreement_text false = codes "differs from a flat file"

-- what follows a ring's answers: its frames, that the file beside it agrees, and the four counts
abbrev pub summary_text : Frames → Counts → List ℕ
summary_text s c = listing_text s ++ (ended (agreement_text true) ++ ended (counts_text c))

-- the answers of a ring, and then what follows them, unless a line ended the script
abbrev pub ring_played_text : Frames → Counts → List Call → Option LineFault → List ℕ
ring_played_text s c cs f = answers_text s cs ++ closing f (summary_text (after_calls s cs) c)

-- a script's text on a ring, and the line that ended it
abbrev pub ScriptTold : {S P : Type 0} → Store S → Policy P → WindowRing S P → List Call → Option LineFault → List ℕ → Option LineFault → Type 0
ScriptTold s r x cs fault text f = (text ≡ ring_played_text (frames_of s x) (moves_by_all r (moving s x) cs).numbers.counts cs fault) × (f ≡ fault)
