-- The texts of a trace's first line, which chooses the register file.
use Rattle.std.specs.Prelude.{ℕ, List, ◌++◌, codes, decimal}
use Rattle.trace.specs.declared.setups.PolicySetup.{PolicySetup}
use Rattle.trace.specs.declared.setups.PolicySetup.TheVariants.{Fixed, Adaptive}
use Rattle.trace.specs.declared.setups.StoreSetup.{StoreSetup}
use Rattle.trace.specs.declared.setups.StoreSetup.TheVariants as store
use Rattle.trace.specs.declared.setups.RingSetup.{RingSetup}
use Rattle.trace.specs.declared.setups.Setup.{Setup}
use Rattle.trace.specs.declared.setups.Setup.TheVariants.{Flat, Ring}
use Rattle.trace.specs.Texts.{Small, SmallPair, pair_text}

-- `fixed 2 1`, or `adaptive`
abbrev pub policy_text : PolicySetup → List ℕ
policy_text (Fixed spill fill) = codes "fixed " ++ pair_text (spill, fill)
policy_text Adaptive = codes "adaptive"

-- a policy's numbers, if it has some, fit in 32 bits
abbrev pub SmallPolicy : PolicySetup → Type 0
SmallPolicy (Fixed spill fill) = SmallPair (spill, fill)
SmallPolicy Adaptive = Unit {0}

-- `flat 64`
abbrev pub store_text : StoreSetup → List ℕ
store_text (store.Flat capacity) = codes "flat " ++ decimal capacity

-- a store's capacity fits in 32 bits
abbrev pub SmallStore : StoreSetup → Type 0
SmallStore (store.Flat capacity) = Small capacity

-- `8 fixed 2 1 flat 64`
abbrev pub ring_text : RingSetup → List ℕ
ring_text r = decimal r.windows ++ (codes " " ++ (policy_text r.policy ++ (codes " " ++ store_text r.store)))

-- each number of a ring fits in 32 bits
abbrev pub SmallRing : RingSetup → Type 0
SmallRing r = Small r.windows × SmallPolicy r.policy × SmallStore r.store

-- `flat 256`, or `ring 8 adaptive flat 64`
abbrev pub setup_text : Setup → List ℕ
setup_text (Flat capacity) = codes "flat " ++ decimal capacity
setup_text (Ring r) = codes "ring " ++ ring_text r

-- each number of a setup fits in 32 bits
abbrev pub SmallSetup : Setup → Type 0
SmallSetup (Flat capacity) = Small capacity
SmallSetup (Ring r) = SmallRing r
