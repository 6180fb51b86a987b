-- No two setups have one text.
use Rattle.std.proofs.Common.{◌≡◌, ℕ, ◌^◌, ◌<◌, List, ◌++◌, get_or, codes, decimal, refl, ap, arith}
use Rattle.std.proofs.lemmas.Fmt.{decimal_injective}
use Rattle.std.proofs.lemmas.List.{append_cancel_left}
use Rattle.trace.specs.declared.setups.PolicySetup.{PolicySetup}
use Rattle.trace.specs.declared.setups.PolicySetup.TheVariants.{Fixed, Adaptive}
use Rattle.trace.specs.declared.setups.StoreSetup.{StoreSetup}
use Rattle.trace.specs.declared.setups.StoreSetup.TheVariants as store
use Rattle.trace.specs.declared.setups.RingSetup.{RingSetup}
use Rattle.trace.specs.declared.setups.Setup.{Setup}
use Rattle.trace.specs.declared.setups.Setup.TheVariants.{Flat, Ring}
use Rattle.trace.specs.Setups.{SmallPolicy, policy_text, SmallStore, store_text, SmallRing, ring_text, SmallSetup, setup_text}
use Rattle.trace.specs.Texts.{Small, SmallPair, pair_text}
use Rattle.trace.proofs.Fronts.{OneFront, one_number, one_pair}

-- the words before a policy's numbers tell the policies apart
pub one_policy : OneFront SmallPolicy policy_text
one_policy (Fixed s f) (Fixed s' f') xs ys small also e =
    let p = one_pair (s, f) (s', f') xs ys small also (append_cancel_left (codes "fixed ") _ _ e) in
    ((λ i. Fixed (p.0 i).0 (p.0 i).1), p.1)
one_policy (Fixed s f) Adaptive xs ys small also e = absurd (omega (arith, ap (λ l. get_or l 0 0) e))
one_policy Adaptive (Fixed s f) xs ys small also e = absurd (omega (arith, ap (λ l. get_or l 0 0) e))
one_policy Adaptive Adaptive xs ys small also e = (refl, append_cancel_left (codes "adaptive ") xs ys e)

-- a text that begins as a fixed policy does is one only with two numbers
pub fixed_only : (amounts : List ℕ) (p : PolicySetup) (rest : List ℕ) → SmallPolicy p → codes "fixed " ++ amounts ≡ policy_text p ++ (codes " " ++ rest) → ((q : ℕ × ℕ) (after : List ℕ) → SmallPair q → amounts ≡ pair_text q ++ (codes " " ++ after) → ⊥) → ⊥
fixed_only amounts (Fixed s f) rest small e none = none (s, f) rest small (append_cancel_left (codes "fixed ") _ _ e)
fixed_only amounts Adaptive rest small e none = omega (arith, ap (λ l. get_or l 0 0) e)

after_word : (word : List ℕ) (m n : ℕ) → Small m → Small n → word ++ decimal m ≡ word ++ decimal n → m ≡ n
after_word word m n small also e =
    let wide : (x : ℕ) → x < 2 ^ 32 → x < 2 ^ 64 = λ x h. omega arith in
    decimal_injective m n (wide m small) (wide n also) (append_cancel_left word (decimal m) (decimal n) e)

same_store : (s t : StoreSetup) → SmallStore s → SmallStore t → store_text s ≡ store_text t → s ≡ t
same_store (store.Flat m) (store.Flat n) small also e = ap store.Flat (after_word (codes "flat ") m n small also e)

same_ring : (r q : RingSetup) → SmallRing r → SmallRing q → ring_text r ≡ ring_text q → r ≡ q
same_ring r q small also e =
    let number = one_number r.windows q.windows _ _ small.0 also.0 e in
    let policy = one_policy r.policy q.policy _ _ small.1 also.1 number.1 in
    let store = same_store r.store q.store small.2 also.2 policy.1 in
    λ i. record { windows = number.0 i; policy = policy.0 i; store = store i }

pub same_setup : (s t : Setup) → SmallSetup s → SmallSetup t → setup_text s ≡ setup_text t → s ≡ t
same_setup (Flat m) (Flat n) small also e = ap Flat (after_word (codes "flat ") m n small also e)
same_setup (Flat m) (Ring q) small also e = absurd (omega (arith, ap (λ l. get_or l 0 0) e))
same_setup (Ring r) (Flat n) small also e = absurd (omega (arith, ap (λ l. get_or l 0 0) e))
same_setup (Ring r) (Ring q) small also e = ap Ring (same_ring r q small also (append_cancel_left (codes "ring ") (ring_text r) (ring_text q) e))
