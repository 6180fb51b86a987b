-- The eight words of a group.
use Rattle.std.proofs.Common.{◌≡◌, ℕ, List, get_or, sym, refl, ◌∙◌}
use Rattle.std.proofs.lemmas.List.FromFn.{fill_by_all}
use Rattle.frames.specs.Frames.{Frames, Shaped, word, frame_of}
use Rattle.listing.specs.Listing.{eight_words}

pub outs_words : (s : Frames) → Shaped s → eight_words s 8 ≡ s.outs
unfolding word eight_words
outs_words s shape = sym (fill_by_all (λ k. get_or s.outs k 0) s.outs 8 0 shape.outs_eight (λ k _. refl))

pub locals_words : (s : Frames) → Shaped s → eight_words s 16 ≡ s.newest.locals
unfolding word eight_words
locals_words s shape =
    sym (fill_by_all (λ k. get_or s.newest.locals k 0) s.newest.locals 8 0 shape.newest_eight.1 (λ k _. refl))

pub ins_words : (s : Frames) → Shaped s → eight_words s 24 ≡ s.newest.ins
unfolding word eight_words
ins_words s shape =
    sym (fill_by_all (λ k. get_or s.newest.ins k 0) s.newest.ins 8 0 shape.newest_eight.0 (λ k _. refl))

pub newest_words : (s : Frames) → Shaped s → (ins locals : List ℕ) → ins ≡ eight_words s 24 → locals ≡ eight_words s 16 → frame_of ins locals ≡ s.newest
newest_words s shape ins locals p q = λ i. frame_of ((p ∙ ins_words s shape) i) ((q ∙ locals_words s shape) i)
