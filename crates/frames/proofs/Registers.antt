-- Registers by group.
use Rattle.std.proofs.Common.{◌≡◌, ℕ, ◌-◌, ◌<◌, ◌≤◌, true, ltb, leb, get_or, ◌∙◌, arith}
use Rattle.std.proofs.lemmas.Bool.{cond-true, cond-false, lt-ltb, le-ltb, le-leb, and_from}
use Rattle.frames.specs.Frames.{Frames, is_windowed, word}

pub windowed : (r : ℕ) → 8 ≤ r → r < 32 → is_windowed r ≡ true
windowed r low high = and_from (leb 8 r) (ltb r 32) (le-leb 8 r low) (lt-ltb r 32 high)

pub word_out : (s : Frames) (r : ℕ) → r < 16 → word s r ≡ get_or s.outs (r - 8) 0
unfolding word
word_out s r h = cond-true (ltb r 16) _ _ (lt-ltb r 16 h)

pub word_local : (s : Frames) (r : ℕ) → 16 ≤ r → r < 24 → word s r ≡ get_or s.newest.locals (r - 16) 0
unfolding word
word_local s r low high = cond-false (ltb r 16) _ _ (le-ltb r 16 low) ∙ cond-true (ltb r 24) _ _ (lt-ltb r 24 high)

pub word_in : (s : Frames) (r : ℕ) → 24 ≤ r → word s r ≡ get_or s.newest.ins (r - 24) 0
unfolding word
word_in s r low = cond-false (ltb r 16) _ _ (le-ltb r 16 (omega arith)) ∙ cond-false (ltb r 24) _ _ (le-ltb r 24 low)
