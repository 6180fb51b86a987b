-- The lines of a text, one after another: what a loop over them goes by.
use Rattle.std.proofs.Common.{◌≡◌, ℕ, zero, suc, ◌+◌, ◌<◌, ◌≤◌, Bool, true, false, cond, eqb, List, [], ◌∷◌, ◌++◌, length, get_or, take, drop, position, Some, None, sym, refl, ap, ◌∙◌, arith}
use Rattle.std.proofs.lemmas.Bool.{cond-true, cond-false, eq-eqb, ne_eqb, eqb-true, eqb-false, ltb-false}
use Rattle.std.proofs.lemmas.List.{take-append-drop, drop_more}
use Rattle.std.proofs.lemmas.List.Quantifiers.{position-Some}
use Rattle.std.proofs.lemmas.List.Sums.{fails_before_first}
use Rattle.trace.specs.Lines.{onto, lines, before, after, first_line, after_line}

module _ (byte : ℕ) where
  pub split_at : (bs : List ℕ) (n : ℕ) → n < length bs → ((k : ℕ) → k < n → get_or bs k 0 ≡ byte → ⊥) → get_or bs n 0 ≡ byte → (before byte bs ≡ take n bs) × (after byte bs ≡ drop (n + 1) bs)
  split_at [] n h sooner here = absurd (omega arith)
  split_at (b ∷ bs) zero h sooner here =
      (cond-true (eqb b byte) [] (b ∷ before byte bs) (eq-eqb b byte here), cond-true (eqb b byte) bs (after byte bs) (eq-eqb b byte here))
  split_at (b ∷ bs) (suc n) h sooner here =
      let rest = split_at bs n (omega arith) (λ k l. sooner (suc k) (omega arith)) here in
      let other = ne_eqb b byte (sooner 0 (omega arith)) in
      let next : suc (n + 1) ≡ suc n + 1 = omega arith in (
        cond-false (eqb b byte) [] (b ∷ before byte bs) other ∙ ap (λ (l : List ℕ). b ∷ l) rest.0,
        cond-false (eqb b byte) bs (after byte bs) other ∙ rest.1 ∙ ap (λ (m : ℕ). drop m (b ∷ bs)) next,
      )

  pub not_split : (bs : List ℕ) → ((k : ℕ) → k < length bs → get_or bs k 0 ≡ byte → ⊥) → (before byte bs ≡ bs) × (after byte bs ≡ [])
  not_split [] none = (refl, refl)
  not_split (b ∷ bs) none =
      let rest = not_split bs (λ k l. none (suc k) (omega arith)) in
      let other = ne_eqb b byte (none 0 (omega arith)) in (
        cond-false (eqb b byte) [] (b ∷ before byte bs) other ∙ ap (λ (l : List ℕ). b ∷ l) rest.0,
        cond-false (eqb b byte) bs (after byte bs) other ∙ rest.1,
      )

  -- the same, by where the byte is found
  pub cut_at : (bs : List ℕ) (i : ℕ) → Some i ≡ position (λ b. eqb b byte) bs → (take i bs ≡ before byte bs) × (drop (i + 1) bs ≡ after byte bs) × (bs ≡ take i bs ++ byte ∷ drop (i + 1) bs)
  cut_at bs i found =
      let at = position-Some (λ b. eqb b byte) bs i 0 (sym found) in
      let here : get_or bs i 0 ≡ byte = eqb-true _ byte at.1 in
      let parts = split_at bs i at.0 (λ k l. eqb-false _ byte (at.2 k l)) here in
      (sym parts.0, sym parts.1, sym (take-append-drop i bs) ∙ ap (λ (l : List ℕ). take i bs ++ l) (drop_more bs i 0 at.0 ∙ ap (λ x. x ∷ drop (i + 1) bs) here))

  found_past : (t : Bool) (n : ℕ) → None ≡ cond t (Some n) None → t ≡ false
  found_past true n e = cc
  found_past false n e = refl

  pub not_cut : (bs : List ℕ) → None ≡ position (λ b. eqb b byte) bs → (before byte bs ≡ bs) × (after byte bs ≡ [])
  not_cut bs none =
      let past = ltb-false _ _ (found_past _ _ none) in
      not_split bs (λ k l. eqb-false _ byte (fails_before_first (λ b. eqb b byte) bs k 0 (omega (arith, past))))

cut_by : (t : Bool) (b : ℕ) (bs : List ℕ) → (0 < length bs → lines bs ≡ first_line bs ∷ lines (after_line bs)) → cond t ([] ∷ lines bs) (onto b (lines bs)) ≡ cond t [] (b ∷ first_line bs) ∷ lines (cond t bs (after_line bs))
cut_by true b bs more = refl
cut_by false b [] more = refl
cut_by false b (d ∷ bs) more = ap (onto b) (more (omega arith))

pub lines_cut : (bs : List ℕ) → 0 < length bs → lines bs ≡ first_line bs ∷ lines (after_line bs)
lines_cut [] h = absurd (omega arith)
lines_cut (b ∷ bs) h = cut_by (eqb b 10) b bs (lines_cut bs)

-- the same of the two parts that a function has given
pub lines_are : (bs l r : List ℕ) → l ≡ first_line bs → r ≡ after_line bs → 0 < length bs → lines bs ≡ l ∷ lines r
lines_are bs l r front back some = lines_cut bs some ∙ (λ i. sym front i ∷ lines (sym back i))

either_within : (t : Bool) (xs ys : List ℕ) (n : ℕ) → length xs ≤ n → length ys ≤ n → length (cond t xs ys) ≤ n
either_within true xs ys n h k = h
either_within false xs ys n h k = k

after_within : (bs : List ℕ) → length (after_line bs) ≤ length bs
after_within [] = omega arith
after_within (b ∷ bs) =
    let rest = after_within bs in either_within (eqb b 10) bs (after_line bs) (length (b ∷ bs)) (omega arith) (omega arith)

pub after_shorter : (bs : List ℕ) → 0 < length bs → length (after_line bs) < length bs
after_shorter [] h = absurd (omega arith)
after_shorter (b ∷ bs) h =
    let rest = either_within (eqb b 10) bs (after_line bs) (length bs) (omega arith) (after_within bs) in omega arith
