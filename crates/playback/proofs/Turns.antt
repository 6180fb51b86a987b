-- One line of a trace played after another.
use Rattle.std.proofs.Common.{◌≡◌, ℕ, ◌+◌, List, [], ◌∷◌, ◌++◌, Some, None, Option, sym, refl, ap, ◌∙◌, subst, append_assoc, append-nil}
use Rattle.frames.specs.declared.calls.Call.{Call}
use Rattle.frames.specs.Calls.{answer_to, after_call}
use Rattle.frames.specs.Frames.{Frames}
use Rattle.frames.specs.Texts.{answer_text}
use Rattle.listing.specs.Listing.{listing_text}
use Rattle.script.specs.declared.faults.Expected.TheVariants.{Request}
use Rattle.script.specs.declared.faults.LineFault.{LineFault}
use Rattle.script.specs.Scripts.{unread, CallLine}
use Rattle.playback.specs.LineByLine.{Plays, lists_the_frames, breaks_off, answers}
use Rattle.playback.specs.Playing.{ended}

-- at line k the frames are s and these lines are to come: what they print goes after the text
pub record Sofar (first : ℕ) (s₀ : Frames) (all : List (List ℕ)) (k : ℕ) (s : Frames) (left : List (List ℕ)) (text : List ℕ) : Type 0 where
  pub goes : (more : List ℕ) (f : Option LineFault) → Plays k s left more f → Plays first s₀ all (text ++ more) f

module _ {first : ℕ} {s₀ : Frames} {all : List (List ℕ)} {k : ℕ} {s : Frames} {left : List (List ℕ)} {text : List ℕ} (sofar : Sofar first s₀ all k s left text) where
  module _ (l : List ℕ) (ls : List (List ℕ)) (split : left ≡ l ∷ ls) where
    pub no_call_here : CallLine l None → (text' : List ℕ) (f : Option LineFault) (n : ℕ) → text' ≡ text → n ≡ k → f ≡ unread n Request → Plays first s₀ all text' f
    no_call_here none text' f n kept number named =
        let here : Plays k s left [] f = subst (λ ms. Plays k s ms [] f) (sym split) (subst (λ (x : Option LineFault). Plays k s (l ∷ ls) [] x) (sym (named ∙ ap (λ m. unread m Request) number)) (breaks_off none)) in
        subst (λ (x : List ℕ). Plays first s₀ all x f) (append-nil text ∙ sym kept) (sofar.goes [] f here)

    pub call_here : (c : Call) (n : ℕ) (s' : Frames) (text' : List ℕ) → CallLine l (Some c) → n ≡ k + 1 → s' ≡ after_call s c → text' ≡ text ++ ended (answer_text (answer_to s c)) → Sofar first s₀ all n s' ls text'
    call_here c n s' text' call number did wrote =
        let told : List ℕ = ended (answer_text (answer_to s c)) in
        record {
          goes =
              λ more f next.
              let after : Plays (k + 1) (after_call s c) ls more f = subst (λ m. Plays m (after_call s c) ls more f) number (subst (λ (u : Frames). Plays n u ls more f) did next) in
              subst (λ (x : List ℕ). Plays first s₀ all x f) (sym (ap (λ (x : List ℕ). x ++ more) wrote ∙ append_assoc text told more))
              (sofar.goes (told ++ more) f (subst (λ ms. Plays k s ms (told ++ more) f) (sym split) (answers c call after refl)));
        }

  pub all_played : left ≡ [] → (listed text' : List ℕ) → listed ≡ listing_text s → text' ≡ text ++ listed → Plays first s₀ all text' None
  all_played none listed text' lists wrote =
      subst (λ (x : List ℕ). Plays first s₀ all x None) (sym wrote)
      (sofar.goes listed None (subst (λ ms. Plays k s ms listed None) (sym none) (lists_the_frames lists)))
