-- No two calls have one text: the call can be read off it.
use Rattle.std.proofs.Common.{◌≡◌, ℕ, ◌^◌, ◌<◌, cond, eqb, List, get_or, drop, decimal, sym, refl, ap, ◌∙◌, inl, inr, arith}
use Rattle.std.specs.Str.Parse.{digits_value}
use Rattle.std.proofs.lemmas.Fmt.{decimal_is_IsNumeral}
use Rattle.frames.specs.declared.calls.Call.{Call}
use Rattle.frames.specs.declared.calls.Call.TheVariants.{Save, Restore, Read, Write, Depth, Spare}
use Rattle.trace.specs.Lines.{before, after}
use Rattle.trace.specs.Texts.{SmallCall, call_text}
use Rattle.trace.proofs.Fronts.{number_parts}

-- the first and third letters tell the calls apart
decoded : List ℕ → Call
decoded l =
    cond (eqb (get_or l 0 0) 119) (Write (digits_value 10 (before 32 (drop 6 l))) (digits_value 10 (after 32 (drop 6 l))))
    (cond (eqb (get_or l 0 0) 100) Depth
    (cond (eqb (get_or l 2 0) 118) Save
    (cond (eqb (get_or l 2 0) 115) Restore (cond (eqb (get_or l 0 0) 114) (Read (digits_value 10 (drop 5 l))) Spare))))

number_is : (n : ℕ) → n < 2 ^ 32 → digits_value 10 (decimal n) ≡ n
number_is n h = (decimal_is_IsNumeral n (omega arith)).1

decodes : (c : Call) → SmallCall c → decoded (call_text c) ≡ c
unfolding decoded
decodes Save small = refl
decodes Restore small = refl
decodes (Read r) (inl other) = absurd other
decodes (Read r) (inr small) = ap Read (number_is r small)
decodes (Write r v) (inl other) = absurd other
decodes (Write r v) (inr small) =
    let parts = number_parts r (decimal v) small.0 in
    λ i. Write ((ap (digits_value 10) parts.0 ∙ number_is r small.0) i) ((ap (digits_value 10) parts.1 ∙ number_is v small.1) i)
decodes Depth small = refl
decodes Spare small = refl

pub same_call : (c d : Call) → SmallCall c → SmallCall d → call_text c ≡ call_text d → c ≡ d
same_call c d small also e = sym (decodes c small) ∙ ap decoded e ∙ decodes d also
