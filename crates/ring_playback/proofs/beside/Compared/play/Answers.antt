use Rattle.std.proofs.Common.{◌≡◌, true, false, List, ℕ, [], ◌++◌, string_bytes, Some, None, Option, sym, refl, ap, ◌∙◌, append-nil}
use Rattle.std.specs.Option.{is_some}
use Rattle.std.proofs.lemmas.Bool.{false≢true}
use Rattle.frames.specs.Calls.{after_calls}
use Rattle.ring.specs.Movements.{moving, moves_by_all}
use Rattle.ring.specs.Rings.{frames_of}
use Rattle.script.specs.declared.faults.LineFault.{LineFault}
use Rattle.playback.specs.Playing.{answers_text, closing}
use Rattle.ring_playback.specs.Beside.{summary_text}
use Rattle.ring_playback.proofs.beside.Compared.play.Goals as goal
use Rattle.ring_playback.proofs.beside.Compared.play.Goals.{then-is_none+in_ok-sum_up, else-is_none}

-- what follows the answers, and that nothing does
closes : (f : Option LineFault) (text : List ℕ) → is_some f ≡ false → text ≡ closing f text
closes (Some fault) text e = absurd (false≢true (sym e))
closes None text e = refl

breaks_off : (f : Option LineFault) (text : List ℕ) → is_some f ≡ true → [] ≡ closing f text
breaks_off (Some fault) text e = refl
breaks_off None text e = absurd (false≢true e)

pub returns : goal.returns
returns g c =
    let s = frames_of g.S.SaveStore c.args.self.ring in
    let m = moving g.S.SaveStore c.args.self.ring in
    let did = c.in_ok-answer.ensures in
    let is = c.as_slice.ensures.value in
    let answers = did.writes_each_answer ∙ (λ k. c.new-text.ensures.bytes k ++ answers_text s (is k)) in
    let left = did.holds_the_frames_after ∙ ap (after_calls s) is in
    let moved = did.moves_as_the_calls_do ∙ ap (moves_by_all g.P.SpillPolicy m) is in
    let all : List ℕ = answers_text s c.args.script.calls.items in
    elim c.if-is_none.branch [
      | then-is_none+in_ok-sum_up w ↦ (
        ap string_bytes w.text-is
            ∙ w.in_ok-sum_up.ensures
            ∙ (λ k. answers k ++ summary_text (left k) (moved k).numbers.counts)
            ∙ ap (λ (l : List ℕ). all ++ l) (closes c.args.script.fault _ w.if-is_none.ensures),
        refl,
      )
      | else-is_none w ↦ (
        ap string_bytes w.text-is ∙ answers ∙ sym (append-nil all) ∙ ap (λ (l : List ℕ). all ++ l) (breaks_off c.args.script.fault _ w.if-is_none.ensures),
        refl,
      )
    ]
