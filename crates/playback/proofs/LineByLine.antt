-- A script's text is that of its lines.
use Rattle.std.proofs.Common.{◌≡◌, ℕ, List, [], ◌∷◌, ◌++◌, Option, refl, sym, ap, ◌∙◌, append_assoc}
use Rattle.listing.specs.Listing.{listing_text}
use Rattle.frames.specs.Calls.{after_call, after_calls, answer_to}
use Rattle.frames.specs.Texts.{answer_text}
use Rattle.frames.specs.declared.calls.Call.{Call}
use Rattle.frames.specs.Frames.{Frames}
use Rattle.script.specs.declared.faults.LineFault.{LineFault}
use Rattle.script.specs.Scripts.{Scripted, no_more, no_call, one_more}
use Rattle.playback.specs.Playing.{answers_text, closing, ended, played_text}
use Rattle.playback.specs.LineByLine.{Plays, PlaysLineByLine, lists_the_frames, breaks_off, answers}

by_lines : {k : ℕ} {ls : List (List ℕ)} {cs : List Call} {f : Option LineFault} → Scripted k ls cs f → (s : Frames) → Plays k s ls (played_text s cs f) f
by_lines no_more s = lists_the_frames refl
by_lines (no_call none) s = breaks_off none
by_lines {f = f} (one_more {cs = cs} c call rest) s =
    answers c call (by_lines rest (after_call s c))
    (append_assoc (ended (answer_text (answer_to s c))) (answers_text (after_call s c) cs) (closing f (listing_text (after_calls s (c ∷ cs)))))

pub by_script : {k : ℕ} {s : Frames} {ls : List (List ℕ)} {text : List ℕ} {f : Option LineFault} → Plays k s ls text f → (cs : List Call) × Scripted k ls cs f × (text ≡ played_text s cs f)
by_script (lists_the_frames e) = ([], no_more, e)
by_script (breaks_off none) = ([], no_call none, refl)
by_script {s = s} (answers c call rest e) =
    let more = by_script rest in (
      c ∷ more.0,
      one_more c call more.1,
      e
          ∙ ap (λ (x : List ℕ). ended (answer_text (answer_to s c)) ++ x) more.2
          ∙ sym (append_assoc (ended (answer_text (answer_to s c))) (answers_text (after_call s c) more.0) _),
    )

pub plays_line_by_line : PlaysLineByLine
plays_line_by_line =
    record { a_script_plays_its_lines = λ k s ls cs f read. by_lines read s; lines_play_their_script = λ k s ls text f plays. by_script plays }
