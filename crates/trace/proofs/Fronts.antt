-- What stands at the front of a text, before a space, is read in one way.
use Rattle.std.proofs.Common.{◌≡◌, ℕ, ◌^◌, ◌<◌, List, ◌∷◌, ◌++◌, length, get_or, drop, codes, decimal, sym, refl, ap, ◌∙◌, append_assoc, arith}
use Rattle.std.proofs.lemmas.Fmt.{decimal_injective}
use Rattle.std.proofs.lemmas.List.{drop-drop, get_or_append_left, get_or_at, take_at, drop_at, length-append}
use Rattle.trace.specs.Lines.{before, after}
use Rattle.trace.specs.Texts.{Small, SmallPair, pair_text}
use Rattle.trace.proofs.Decimals.{only_digits}
use Rattle.trace.proofs.LineLaws.{split_at}

-- two things at one front are one, and so is what follows them
abbrev pub OneFront : {X : Type 0} → (X → Type 0) → (X → List ℕ) → Type 0
OneFront {X} Small text =
    (x y : X) (xs ys : List ℕ) → Small x → Small y → text x ++ (codes " " ++ xs) ≡ text y ++ (codes " " ++ ys) → (x ≡ y) × (xs ≡ ys)

module _ (n : ℕ) (rest : List ℕ) where
  longer : length (decimal n) < length (decimal n ++ (32 ∷ rest))
  longer = omega (arith, length-append (decimal n) (32 ∷ rest))

  space_there : get_or (decimal n ++ (32 ∷ rest)) (length (decimal n)) 0 ≡ 32
  space_there = get_or_at (decimal n) 32 rest 0 (length (decimal n)) refl

  -- no digit is a space
  pub number_parts : Small n → (before 32 (decimal n ++ (32 ∷ rest)) ≡ decimal n) × (after 32 (decimal n ++ (32 ∷ rest)) ≡ rest)
  number_parts small =
      let m : ℕ = length (decimal n) in
      let parts =
      split_at 32 (decimal n ++ (32 ∷ rest)) m longer
      (λ k l e. only_digits n 32 small (λ low high. omega arith) k l (sym (get_or_append_left (decimal n) (32 ∷ rest) 0 k l) ∙ e)) space_there
      in (
        parts.0 ∙ take_at (decimal n) (32 ∷ rest) m refl,
        parts.1 ∙ sym (drop-drop 1 m (decimal n ++ (32 ∷ rest))) ∙ ap (drop 1) (drop_at (decimal n) (32 ∷ rest) m refl),
      )

pub one_number : OneFront Small decimal
one_number m n xs ys small also e =
    let p = number_parts m xs small in
    let q = number_parts n ys also in
    let wide : (x : ℕ) → x < 2 ^ 32 → x < 2 ^ 64 = λ x h. omega arith in
    (decimal_injective m n (wide m small) (wide n also) (sym p.0 ∙ ap (before 32) e ∙ q.0), sym p.1 ∙ ap (after 32) e ∙ q.1)

-- two numbers at the front are one number at the front, and then another
pub pair_then : (p : ℕ × ℕ) (rest : List ℕ) → pair_text p ++ (codes " " ++ rest) ≡ decimal p.0 ++ (codes " " ++ (decimal p.1 ++ (codes " " ++ rest)))
pair_then p rest = append_assoc (decimal p.0) (codes " " ++ decimal p.1) (codes " " ++ rest)

pub one_pair : OneFront SmallPair pair_text
one_pair p q xs ys small also e =
    let left = one_number p.0 q.0 _ _ small.0 also.0 (sym (pair_then p xs) ∙ e ∙ pair_then q ys) in
    let right = one_number p.1 q.1 xs ys small.1 also.1 left.1 in
    ((λ i. (left.0 i, right.0 i)), right.1)

-- such a text is cut at its first space
module _ (bs : List ℕ) (n : ℕ) (rest : List ℕ) (small : Small n) (e : bs ≡ decimal n ++ (32 ∷ rest)) where
  pub front_is : before 32 bs ≡ decimal n
  front_is = ap (before 32) e ∙ (number_parts n rest small).0

  pub cut_there : before 32 bs ≡ bs → ⊥
  cut_there whole =
      let same : length bs ≡ length (decimal n) = ap length (sym whole ∙ front_is) in
      let long : length bs ≡ length (decimal n ++ (32 ∷ rest)) = ap length e in omega (arith, longer n rest)
