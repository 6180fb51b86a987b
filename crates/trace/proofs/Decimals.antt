-- Which texts are decimals of 32 bits.
use Rattle.std.proofs.Common.{◌≡◌, ℕ, ◌^◌, ◌<◌, ◌≤◌, List, length, get_or, Ok, Err, Result, None, Bor, MatchResult, IsUtf8, decimal, sym, ap, ◌∙◌, subst, ⊎_elim, arith}
use Rattle.std.specs.Result.{result_ok}
use Rattle.std.specs.Str.{IsValidUpTo, valid_up_to}
use Rattle.std.specs.declared.str.Utf8Error.{Utf8Error}
use Rattle.std.specs.Str.Parse.{AllDigits, digits_value, ParsesUnsigned}
use Rattle.std.proofs.lemmas.Fmt.{decimal_nonempty, decimal_digit, first_decimal, IsAscii-decimal, digits_decimal, digits_value-decimal, decimal-digits_value}
use Rattle.std.proofs.lemmas.Str.Parse.{IsNumeralModel, numerals_by_value, tells_digits, not_in_digits, parse_plain}
use Rattle.std.proofs.lemmas.Bool.{cases_lt}
use Rattle.std.proofs.lemmas.Str.{IsUtf8-from_ascii}
use Rattle.trace.specs.Texts.{Plain, Reads, Small}

own : IsNumeralModel (AllDigits 10) (digits_value 10)
own = numerals_by_value (AllDigits 10) tells_digits

wide : (n : ℕ) → n < 2 ^ 32 → n < 2 ^ 64
wide n h = omega arith

pub only_digits : (n c : ℕ) → n < 2 ^ 32 → (48 ≤ c → c ≤ 57 → ⊥) → (i : ℕ) → i < length (decimal n) → get_or (decimal n) i 0 ≡ c → ⊥
only_digits n c h apart = not_in_digits own (decimal n) c (digits_decimal own n (wide n h)) (λ d. apart d.0 d.1)

pub decimal_utf8 : (n : ℕ) → n < 2 ^ 32 → IsUtf8 (decimal n)
decimal_utf8 n h = IsUtf8-from_ascii (decimal n) (IsAscii-decimal n (wide n h))

pub decimal_plain : (n : ℕ) → n < 2 ^ 32 → Plain (decimal n)
decimal_plain n h =
    let some = decimal_nonempty n (wide n h) in (
      some,
      only_digits n 43 h (λ low high. omega arith) 0 some,
      λ zero_first.
          ⊎_elim
          (λ none. ap length (decimal_digit n (omega arith)))
          (λ more. absurd (omega (arith, first_decimal n more (wide n h))))
          (cases_lt n 1),
    )

-- bytes that `from_utf8` refuses
pub not_text : (bs : List ℕ) (r : Result (Bor (List ℕ)) Utf8Error) → MatchResult r (λ t. (t.now ≡ bs) × IsUtf8 bs) (λ e. ¬ (IsUtf8 bs) × IsValidUpTo bs (valid_up_to e)) → None ≡ result_ok r → Reads Small decimal bs None
not_text bs (Ok t) cases e = cc
not_text bs (Err _) cases e = λ n h same. cases.0 (subst IsUtf8 (sym same) (decimal_utf8 n h))

-- what `parse` makes of a plain text
pub reads_parsed : {E : Type 0} (bs : List ℕ) → Plain bs → (r : Result ℕ E) → ParsesUnsigned 32 10 bs r → Reads Small decimal bs (result_ok r)
reads_parsed {E} bs plain (Ok n) r =
    let p = parse_plain own {E = E} 32 bs (Ok n) r plain.1 in
    let fits : digits_value 10 bs < 2 ^ 64 = omega (arith, p.0.2) in
    (omega (arith, p.0.2, p.1), sym (decimal-digits_value own bs p.0.0 plain.0 plain.2 fits) ∙ ap decimal (sym p.1))
reads_parsed {E} bs plain (Err x) r = λ n h e.
    let p = parse_plain own {E = E} 32 bs (Err x) r plain.1 in
    let digits : AllDigits 10 bs = subst (AllDigits 10) (sym e) (digits_decimal own n (wide n h)) in
    let is : digits_value 10 bs ≡ n = ap (digits_value 10) e ∙ digits_value-decimal own n (wide n h) in
    p (digits, plain.0, omega arith)
