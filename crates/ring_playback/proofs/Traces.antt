-- A trace by its first line, and that it has one outcome.
use Rattle.std.proofs.Common.{◌≡◌, ℕ, List, [], length, Some, None, Option, sym, ap, ◌∙◌, subst, arith}
use Rattle.frames.specs.Frames.{fresh}
use Rattle.policies.specs.declared.policy.SpillPolicy.{Ghosts as Policy}
use Rattle.policies.specs.contracts.adaptive.AdaptiveSpillPolicy.TheImpl.{ghosts as adaptive_policy}
use Rattle.policies.specs.contracts.fixed.FixedSpillPolicy.TheImpl.{ghosts as fixed_policy}
use Rattle.policies.proofs.Same.{same_adaptive, same_fixed}
use Rattle.trace.specs.declared.setups.PolicySetup.{PolicySetup}
use Rattle.trace.specs.declared.setups.PolicySetup.TheVariants.{Fixed, Adaptive}
use Rattle.trace.specs.declared.setups.RingSetup.{RingSetup}
use Rattle.trace.specs.declared.setups.Setup.{Setup}
use Rattle.trace.specs.declared.setups.Setup.TheVariants.{Flat, Ring}
use Rattle.trace.specs.Lines.{lines, first_line, after_line}
use Rattle.trace.specs.Setups.{SmallSetup, setup_text}
use Rattle.trace.proofs.OneSetup.{same_setup}
use Rattle.script.specs.declared.faults.Expected.TheVariants.{AnySetup}
use Rattle.script.specs.declared.faults.LineFault.{LineFault}
use Rattle.script.specs.Scripts.{unread}
use Rattle.script.proofs.OneScript.{one_script}
use Rattle.playback.specs.Flats.{FlatOutcome}
use Rattle.playback.specs.Replaying.{OneOutcome}
use Rattle.playback.proofs.First.{Same, chosen, not_chosen, one_outcome}
use Rattle.playback.proofs.Flats.{flat_outcome_once, unless_once}
use Rattle.ring_playback.specs.Beside.{ring_played_text}
use Rattle.ring_playback.specs.Rings.{PlayedRing, PlayedWith, counts_after, ring_capacity, ring_fault, room_of}
use Rattle.ring_playback.specs.Replays.{Outcome, SetupLine, Replays}

-- lines have one outcome on a ring
module _ (ls : List (List ℕ)) (t t' : List ℕ) (f f' : Option LineFault) where
  ring_once : {P : Type 0} (r : Policy P) (x y : P) (n room : ℕ) → x ≡ y → PlayedRing r x n room ls t f → PlayedRing r y n room ls t' f' → Same t t' f f'
  ring_once r x y n room e p q =
      let same = one_script p.1 q.1 in
      (p.2 ∙ (λ i. ring_played_text (fresh (ring_capacity n room)) (counts_after r (e i) n room (same.0 i)) (same.0 i) (same.1 i)) ∙ sym q.2, same.1)

  policy_once : (c : PolicySetup) (n room : ℕ) → PlayedWith c n room ls t f → PlayedWith c n room ls t' f' → Same t t' f f'
  policy_once (Fixed spill fill) n room p q =
      ring_once fixed_policy p.0 q.0 n room (same_fixed p.0 q.0 (p.1.0 ∙ sym q.1.0) (p.1.1 ∙ sym q.1.1)) p.2 q.2
  policy_once Adaptive n room p q = ring_once adaptive_policy p.0 q.0 n room (same_adaptive p.0 q.0 (p.1 ∙ sym q.1)) p.2 q.2

outcome_once : (s : Setup) (ls : List (List ℕ)) (t t' : List ℕ) (f f' : Option LineFault) → Outcome s ls t f → Outcome s ls t' f' → Same t t' f f'
outcome_once (Flat n) ls t t' f f' p q = flat_outcome_once n ls t t' f f' p q
outcome_once (Ring r) ls t t' f f' p q = unless_once ls t t' f f' (ring_fault r) _ _ (policy_once ls t t' f f' r.policy r.windows (room_of r.store)) p q

setup_some : (s : Setup) → [] ≡ setup_text s → ⊥
setup_some (Flat n) e = omega (arith, ap length e)
setup_some (Ring r) e = omega (arith, ap length e)

-- a whole trace
pub one_trace_outcome : OneOutcome Replays
one_trace_outcome = one_outcome SmallSetup setup_text AnySetup Outcome same_setup outcome_once

pub no_setup : (bs l text : List ℕ) (f : Option LineFault) → l ≡ first_line bs → SetupLine l None → text ≡ [] → f ≡ unread 1 AnySetup → Replays (lines bs) text f
no_setup = not_chosen SmallSetup setup_text AnySetup Outcome

-- the file that its first line asks for
module _ (bs l r : List ℕ) (s : Setup) (front : l ≡ first_line bs) (back : r ≡ after_line bs) (line : SetupLine l (Some s)) where
  with_setup : (t : Setup) → s ≡ t → (text : List ℕ) (f : Option LineFault) → Outcome t (lines r) text f → Replays (lines bs) text f
  with_setup t is = chosen SmallSetup setup_text AnySetup Outcome setup_some bs l r t front back (subst (λ (x : Setup). SetupLine l (Some x)) is line)

  pub with_flat : (n : ℕ) → s ≡ Flat n → (text : List ℕ) (f : Option LineFault) → FlatOutcome n (lines r) text f → Replays (lines bs) text f
  with_flat n is = with_setup (Flat n) is

  pub with_ring : (x : RingSetup) → s ≡ Ring x → (text : List ℕ) (f : Option LineFault) → Outcome (Ring x) (lines r) text f → Replays (lines bs) text f
  with_ring x is = with_setup (Ring x) is
