-- A ring with the policy that was asked for, once its number of windows is one.
use Rattle.std.proofs.Common.{◌≡◌, ℕ, true, List, None, Ok, Err, Option, Result, sym, refl, ap, ◌∙◌, subst}
use Rattle.std.proofs.lemmas.Bool.{cond-true}
use Rattle.refusal.specs.declared.faults.SetupFault.{SetupFault}
use Rattle.policies.specs.declared.adaptive.Adaptive.{Adaptive}
use Rattle.policies.specs.declared.fixed.Fixed.{Fixed}
use Rattle.policies.specs.contracts.adaptive.AdaptiveSpillPolicy.TheImpl.{ghosts as adaptive_policy}
use Rattle.policies.specs.contracts.fixed.FixedSpillPolicy.TheImpl.{ghosts as fixed_policy}
use Rattle.policies.specs.Fixed.{IsFixed, fixed_fault}
use Rattle.ring.specs.WindowCounts.{is_window_count}
use Rattle.trace.specs.declared.setups.PolicySetup.{PolicySetup}
use Rattle.trace.specs.declared.setups.PolicySetup.TheVariants as policy
use Rattle.trace.specs.declared.setups.RingSetup.{RingSetup}
use Rattle.script.specs.declared.faults.LineFault.{LineFault}
use Rattle.playback.specs.declared.playing.Playback.{Playback}
use Rattle.playback.specs.Flats.{capacity_fault}
use Rattle.ring_playback.specs.declared.rings.Unplayed.{Unplayed}
use Rattle.ring_playback.specs.declared.rings.Unplayed.TheVariants.{Refused, OutOfMemory}
use Rattle.ring_playback.specs.Rings.{PlayedRing, PlayedWith, Tried, count_fault, or_else, policy_fault, ring_capacity, ring_fault, room_of}

-- the same fault, and a claim that follows
tried_then : (o o' : Option SetupFault) (C D : List ℕ → Option LineFault → Type 0) (result : Result Playback Unplayed) → o ≡ o' → ((text : List ℕ) (f : Option LineFault) → C text f → D text f) → Tried o C result → Tried o' D result
tried_then o o' C D (Ok p) same then tried = (sym same ∙ tried.0, then _ _ tried.1)
tried_then o o' C D (Err (Refused e)) same then tried = sym same ∙ tried
tried_then o o' C D (Err (OutOfMemory error)) same then tried = tt

module _ (setup : RingSetup) (n room : ℕ) (ls : List (List ℕ)) (result : Result Playback Unplayed) (such : is_window_count setup.windows ≡ true) (counted : n ≡ setup.windows) (roomy : room ≡ room_of setup.store) where
  by_policy : (c : PolicySetup) (C : List ℕ → Option LineFault → Type 0) → setup.policy ≡ c → policy_fault c ≡ None → ((text : List ℕ) (f : Option LineFault) → C text f → PlayedWith c n room ls text f) →
      Tried (capacity_fault (ring_capacity n room)) C result → Tried (ring_fault setup) (PlayedWith setup.policy setup.windows (room_of setup.store) ls) result
  by_policy c C is fine then =
      let counts : None ≡ count_fault setup.windows = sym (cond-true (is_window_count setup.windows) _ _ such) in
      let makes : None ≡ policy_fault setup.policy = sym fine ∙ ap policy_fault (sym is) in
      tried_then _ _ C _ result (λ i. or_else (counts i) (or_else (makes i) (capacity_fault (ring_capacity (counted i) (roomy i)))))
      (λ text f claim.
      subst (λ (x : PolicySetup). PlayedWith x setup.windows (room_of setup.store) ls text f) (sym is)
      (subst (λ (x : ℕ). PlayedWith c x (room_of setup.store) ls text f) counted (subst (λ (x : ℕ). PlayedWith c n x ls text f) roomy (then text f claim))))

  pub with_fixed : (spill fill : ℕ) (p : Fixed) → setup.policy ≡ policy.Fixed spill fill → (fixed_fault spill fill ≡ None) × IsFixed spill fill p →
      Tried (capacity_fault (ring_capacity n room)) (PlayedRing fixed_policy p n room ls) result → Tried (ring_fault setup) (PlayedWith setup.policy setup.windows (room_of setup.store) ls) result
  with_fixed spill fill p is made = by_policy (policy.Fixed spill fill) _ is made.0 (λ text f played. (p, made.1, played))

  pub with_adaptive : (p : Adaptive) → setup.policy ≡ policy.Adaptive → p.count ≡ 0 →
      Tried (capacity_fault (ring_capacity n room)) (PlayedRing adaptive_policy p n room ls) result → Tried (ring_fault setup) (PlayedWith setup.policy setup.windows (room_of setup.store) ls) result
  with_adaptive p is zero = by_policy policy.Adaptive _ is refl (λ text f played. (p, zero, played))
