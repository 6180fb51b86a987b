-- A trace by its first line, whatever choice that is read as.
use Rattle.std.proofs.Common.{◌≡◌, ℕ, ◌<◌, List, [], ◌∷◌, length, Some, None, Option, sym, refl, ◌∙◌, subst, arith}
use Rattle.trace.specs.Lines.{lines, first_line, after_line}
use Rattle.trace.specs.Texts.{Reads}
use Rattle.trace.proofs.LineLaws.{lines_cut, lines_are}
use Rattle.script.specs.declared.faults.Expected.{Expected}
use Rattle.script.specs.declared.faults.LineFault.{LineFault}
use Rattle.script.specs.Scripts.{unread}
use Rattle.playback.specs.Replaying.{Replayed, empty, no_choice, with_choice, OneOutcome}

-- two outcomes that are one
abbrev pub Same : List ℕ → List ℕ → Option LineFault → Option LineFault → Type 0
Same t t' f f' = (t ≡ t') × (f ≡ f')

module _ {X : Type 0} (Small : X → Type 0) (text_of : X → List ℕ) (e : Expected) (Outcome : X → List (List ℕ) → List ℕ → Option LineFault → Type 0) where
  abbrev Traced : List (List ℕ) → List ℕ → Option LineFault → Type 0
  Traced = Replayed (Reads Small text_of) e Outcome

  by_no_line : (bs : List ℕ) → Reads Small text_of (first_line bs) None → Traced (lines bs) [] (unread 1 e)
  by_no_line [] other = empty
  by_no_line (b ∷ bs) other = subst (λ ls. Traced ls [] (unread 1 e)) (sym (lines_cut (b ∷ bs) (omega arith))) (no_choice other)

  -- where the first line is no choice, nothing is printed and it is named
  pub not_chosen : (bs l text : List ℕ) (f : Option LineFault) → l ≡ first_line bs → Reads Small text_of l None → text ≡ [] → f ≡ unread 1 e → Traced (lines bs) text f
  not_chosen bs l text f front other none named =
      subst (λ (x : List ℕ). Traced (lines bs) x f) (sym none)
      (subst (λ (x : Option LineFault). Traced (lines bs) [] x) (sym named) (by_no_line bs (subst (λ (x : List ℕ). Reads Small text_of x None) front other)))

  -- a text that makes a choice is not empty
  module _ (some : (x : X) → [] ≡ text_of x → ⊥) where
    begun : (bs : List ℕ) (x : X) → first_line bs ≡ text_of x → 0 < length bs
    begun [] x is = absurd (some x is)
    begun (b ∷ bs) x is = omega arith

    pub chosen : (bs l r : List ℕ) (x : X) → l ≡ first_line bs → r ≡ after_line bs → Reads Small text_of l (Some x) → (text : List ℕ) (f : Option LineFault) → Outcome x (lines r) text f → Traced (lines bs) text f
    chosen bs l r x front back line text f on =
        subst (λ ls. Traced ls text f) (sym (lines_are bs l r front back (begun bs x (sym front ∙ line.1)))) (with_choice x line on)

  -- a trace has one outcome, if a line is one choice at most and each choice has one
  pub one_outcome : ((x y : X) → Small x → Small y → text_of x ≡ text_of y → x ≡ y) →
      ((x : X) (ls : List (List ℕ)) (t t' : List ℕ) (f f' : Option LineFault) → Outcome x ls t f → Outcome x ls t' f' → Same t t' f f') → OneOutcome Traced
  one_outcome same once [] t t' f f' empty empty = (refl, refl)
  one_outcome same once (l ∷ ls) t t' f f' (no_choice none) (no_choice none') = (refl, refl)
  one_outcome same once (l ∷ ls) t t' f f' (no_choice none) (with_choice x line on) = absurd (none x line.0 line.1)
  one_outcome same once (l ∷ ls) t t' f f' (with_choice x line on) (no_choice none) = absurd (none x line.0 line.1)
  one_outcome same once (l ∷ ls) t t' f f' (with_choice x line on) (with_choice y line' on') =
      once x ls t t' f f' on (subst (λ (z : X). Outcome z ls t' f') (sym (same x y line.0 line'.0 (sym line.1 ∙ line'.1))) on')
