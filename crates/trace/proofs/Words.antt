-- A line that begins as a write does is one only with a pair of numbers.
use Rattle.std.proofs.Common.{◌≡◌, ℕ, Option, Some, None, inl, inr, ⊎_elim, List, ◌++◌, get_or, codes, ap, arith}
use Rattle.std.proofs.lemmas.List.{append_cancel_left}
use Rattle.std.specs.Option.{MatchOption}
use Rattle.frames.specs.declared.calls.Call.{Call}
use Rattle.frames.specs.declared.calls.Call.TheVariants.{Save, Restore, Read, Write, Depth, Spare}
use Rattle.trace.specs.Texts.{Reads, Bare, Numbered, SmallCall, call_text, SmallPair, pair_text}

pub write_only : (rest : List ℕ) (c : Call) → Numbered c → codes "write " ++ rest ≡ call_text c → ((p : ℕ × ℕ) → SmallPair p → rest ≡ pair_text p → ⊥) → ⊥
write_only rest Save h e none = h
write_only rest Restore h e none = h
write_only rest (Read n) h e none = omega (arith, ap (λ l. get_or l 0 0) e)
write_only rest (Write r v) h e none = none (r, v) h (append_cancel_left (codes "write ") rest (pair_text (r, v)) e)
write_only rest Depth h e none = h
write_only rest Spare h e none = h

-- a call is one word, or has numbers
pub either_call : {P : Type 0} (line : List ℕ) (word either : Option Call) → Reads Bare call_text line word → MatchOption word P (λ c. either ≡ Some c) → (P → Reads Numbered call_text line either) → Reads SmallCall call_text line either
either_call line (Some c) either bare from numbered = rw from (inl bare.0, bare.1)
either_call line None (Some c) bare from numbered = (inr (numbered from).0, (numbered from).1)
either_call line None None bare from numbered = λ c small. ⊎_elim (bare c) (numbered from c) small
