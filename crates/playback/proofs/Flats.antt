-- The flat file that a first line asks for, and that its lines have one outcome.
use Rattle.std.proofs.Common.{◌≡◌, ℕ, ◌^◌, ◌<◌, true, List, [], length, Some, None, codes, decimal, Option, sym, ap, ◌∙◌, subst, arith}
use Rattle.std.proofs.lemmas.Fmt.{decimal_injective}
use Rattle.std.proofs.lemmas.List.{append_cancel_left}
use Rattle.std.proofs.lemmas.Bool.{cond-true}
use Rattle.refusal.specs.declared.faults.SetupFault.{SetupFault}
use Rattle.refusal.specs.declared.faults.SetupFault.TheVariants.{FlatCapacity}
use Rattle.frames.specs.Frames.{Frames, fresh}
use Rattle.frames.specs.Flat.{is_flat_capacity}
use Rattle.trace.specs.Lines.{lines, first_line, after_line}
use Rattle.trace.specs.Texts.{Small, flat_text}
use Rattle.script.specs.declared.faults.Expected.TheVariants.{Setup}
use Rattle.script.specs.declared.faults.LineFault.{LineFault}
use Rattle.script.specs.Scripts.{unread}
use Rattle.script.proofs.OneScript.{one_script}
use Rattle.playback.specs.Playing.{played_text}
use Rattle.playback.specs.LineByLine.{Plays}
use Rattle.playback.specs.Flats.{FlatOutcome, PlayedFlat, Unless, capacity_fault}
use Rattle.playback.specs.Replaying.{FlatLine, OneOutcome, Replays}
use Rattle.playback.proofs.LineByLine.{by_script}
use Rattle.playback.proofs.First.{Same, chosen, not_chosen, one_outcome}

-- two files of one first line have one capacity
flat_some : (n : ℕ) → [] ≡ flat_text n → ⊥
flat_some n e = omega (arith, ap length e)

same_flat : (m n : ℕ) → Small m → Small n → flat_text m ≡ flat_text n → m ≡ n
same_flat m n h k e =
    let wide : (x : ℕ) → x < 2 ^ 32 → x < 2 ^ 64 = λ x small. omega arith in
    decimal_injective m n (wide m h) (wide n k) (append_cancel_left (codes "flat ") (decimal m) (decimal n) e)

-- lines have one outcome
module _ (ls : List (List ℕ)) (t t' : List ℕ) (f f' : Option LineFault) where
  pub unless_once : (o : Option SetupFault) (C D : Type 0) → (C → D → Same t t' f f') → Unless o C t f → Unless o D t' f' → Same t t' f f'
  unless_once (Some e) C D once p q = (p.0 ∙ sym q.0, p.1 ∙ sym q.1)
  unless_once None C D once p q = once p q

  flat_once : (n : ℕ) → PlayedFlat n ls t f → PlayedFlat n ls t' f' → Same t t' f f'
  flat_once n p q =
      let same = one_script p.1 q.1 in
      (p.2 ∙ (λ i. played_text (fresh n) (same.0 i) (same.1 i)) ∙ sym q.2, same.1)

pub flat_outcome_once : (n : ℕ) (ls : List (List ℕ)) (t t' : List ℕ) (f f' : Option LineFault) → FlatOutcome n ls t f → FlatOutcome n ls t' f' → Same t t' f f'
flat_outcome_once n ls t t' f f' p q = unless_once ls t t' f f' (capacity_fault n) _ _ (flat_once ls t t' f f' n) p q

-- lines played one by one on a fresh file are what they come to on it
pub flat_by_lines : (n : ℕ) (s : Frames) (ls : List (List ℕ)) (t : List ℕ) (f : Option LineFault) → is_flat_capacity n ≡ true → s ≡ fresh n → Plays 2 s ls t f → FlatOutcome n ls t f
flat_by_lines n s ls t f such made played =
    subst (λ (o : Option SetupFault). Unless o (PlayedFlat n ls t f) t f) (sym (cond-true (is_flat_capacity n) None (Some (FlatCapacity n)) such)) (by_script (subst (λ (u : Frames). Plays 2 u ls t f) made played))

-- a whole trace
pub one_flat_outcome : OneOutcome Replays
one_flat_outcome = one_outcome Small flat_text Setup FlatOutcome same_flat flat_outcome_once

pub no_flat : (bs l text : List ℕ) (f : Option LineFault) → l ≡ first_line bs → FlatLine l None → text ≡ [] → f ≡ unread 1 Setup → Replays (lines bs) text f
no_flat = not_chosen Small flat_text Setup FlatOutcome

pub some_flat : (bs l r : List ℕ) (n : ℕ) → l ≡ first_line bs → r ≡ after_line bs → FlatLine l (Some n) → (text : List ℕ) (f : Option LineFault) → FlatOutcome n (lines r) text f → Replays (lines bs) text f
some_flat = chosen Small flat_text Setup FlatOutcome flat_some
