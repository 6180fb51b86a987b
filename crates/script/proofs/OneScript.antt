-- Lines have one script.
use Rattle.std.proofs.Common.{◌≡◌, ℕ, List, ◌∷◌, Some, Option, sym, refl, ◌∙◌}
use Rattle.frames.specs.declared.calls.Call.{Call}
use Rattle.trace.proofs.OneCall.{same_call}
use Rattle.script.specs.declared.faults.LineFault.{LineFault}
use Rattle.script.specs.Scripts.{CallLine, Scripted, no_more, no_call, one_more}

one_call : (l : List ℕ) (c d : Call) → CallLine l (Some c) → CallLine l (Some d) → c ≡ d
one_call l c d h k = same_call c d h.0 k.0 (sym h.1 ∙ k.1)

pub one_script : {k : ℕ} {ls : List (List ℕ)} {cs ds : List Call} {f g : Option LineFault} → Scripted k ls cs f → Scripted k ls ds g → (cs ≡ ds) × (f ≡ g)
one_script no_more no_more = (refl, refl)
one_script (no_call none) (no_call none') = (refl, refl)
one_script (no_call none) (one_more c call rest) = absurd (none c call.0 call.1)
one_script (one_more c call rest) (no_call none) = absurd (none c call.0 call.1)
one_script (one_more c call rest) (one_more d call' rest') =
    let same : c ≡ d = one_call _ c d call call' in
    let more = one_script rest rest' in
    ((λ i. same i ∷ more.0 i), more.1)
