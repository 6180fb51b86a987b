-- The windows that follow another upwards.
use Rattle.std.proofs.Common.{◌≡◌, ℕ, zero, suc, ◌+◌, ◌-◌, ◌<◌, ◌≤◌, List, [], ◌∷◌, ◌++◌, get_or, drop, sym, refl, ap, ◌∙◌, ap₂, arith}
use Rattle.std.proofs.lemmas.Bool.Decides.{nat_tests}
use Rattle.frames.specs.declared.frame.Frame.{Frame}
use Rattle.ring.specs.Cycle.{up, wrap}
use Rattle.ring.specs.Words.{residents, upper, window_at}

pub upper_same : (ws xs : List ℕ) (n p c : ℕ) → ((j : ℕ) → 1 ≤ j → j ≤ c → window_at ws (wrap n (p + j)) ≡ window_at xs (wrap n (p + j))) → upper ws n p c ≡ upper xs n p c
upper_same ws xs n p zero same = refl
upper_same ws xs n p (suc c) same = ap₂ ◌∷◌ (same (c + 1) (omega arith) (omega arith)) (upper_same ws xs n p c (λ j a b. same j a (omega arith)))

-- the farthest first
pub upper_step : (ws : List ℕ) (n p c : ℕ) → upper ws n p (c + 1) ≡ window_at ws (wrap n (p + (c + 1))) ∷ upper ws n p c
upper_step ws n p c = let e : c + 1 ≡ suc c = omega arith in ap (upper ws n p) e

upper_last : (ws : List ℕ) (n p q c : ℕ) → p < n → c + 1 < n → q ≡ up n p → upper ws n p (suc c) ≡ upper ws n q c ++ (window_at ws q ∷ [])
upper_last ws n p q zero inside few e = ap (λ (x : ℕ). window_at ws x ∷ []) (sym e)
upper_last ws n p q (suc c) inside few e =
    let t : wrap n (p + (suc c + 1)) ≡ wrap n (q + (c + 1)) = grind (arith, nat_tests) in
    ap₂ (λ (x : ℕ) (y : List Frame). window_at ws x ∷ y) t (upper_last ws n p q c inside (omega arith) e)

-- the nearest last
pub upper_end : (ws : List ℕ) (n p q r : ℕ) → p < n → 1 ≤ r → r < n → q ≡ up n p → upper ws n p r ≡ residents ws n q r
upper_end ws n p q zero inside some few e = absurd (omega arith)
upper_end ws n p q (suc r) inside some few e =
    let d : r ≡ suc r - 1 = omega arith in
    upper_last ws n p q r inside (omega arith) e ∙ ap (λ (x : ℕ). upper ws n q x ++ (window_at ws q ∷ [])) d

-- without the k farthest
pub drop_upper : (ws : List ℕ) (n p k c r : ℕ) → r ≡ k + c → drop k (upper ws n p r) ≡ upper ws n p c
drop_upper ws n p zero c r e = let same : r ≡ c = omega arith in ap (upper ws n p) same
drop_upper ws n p (suc k) c zero e = absurd (omega arith)
drop_upper ws n p (suc k) c (suc r) e = drop_upper ws n p k c r (omega arith)

-- counted from the farthest
pub get_or_upper : (ws : List ℕ) (n p j c r : ℕ) (d : Frame) → r ≡ j + (c + 1) → get_or (upper ws n p r) j d ≡ window_at ws (wrap n (p + (c + 1)))
get_or_upper ws n p j c zero d e = absurd (omega arith)
get_or_upper ws n p zero c (suc r) d e = let same : r ≡ c = omega arith in ap (λ (x : ℕ). window_at ws (wrap n (p + (x + 1)))) same
get_or_upper ws n p (suc j) c (suc r) d e = get_or_upper ws n p j c r d (omega arith)
