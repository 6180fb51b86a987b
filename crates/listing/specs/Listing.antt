-- The text of the frames that a register file holds. `decimal n` is what `{n}` writes, `codes` the bytes of a word.
use Rattle.std.specs.Prelude.{ℕ, ◌+◌, List, [], ◌∷◌, ◌++◌, map, codes, decimal}
use Rattle.std.specs.List.{range_with_len, flat_map}
use Rattle.frames.specs.declared.frame.Frame.{Frame}
use Rattle.frames.specs.Frames.{Frames, all_frames, word}

-- the words of the eight registers from `first` on
unfoldable pub eight_words : Frames → ℕ → List ℕ
eight_words s first = map (word s) (range_with_len first 8)

-- ` 5`
abbrev pub word_text : ℕ → List ℕ
word_text word = codes " " ++ decimal word

-- ` 5 0 7`
unfoldable pub words_text : List ℕ → List ℕ
words_text words = flat_map word_text words

-- `frame 1 ins 0 0 0 0 0 0 0 0 locals 0 0 0 0 0 0 0 0`
abbrev pub frame_line : ℕ → Frame → List ℕ
frame_line k f = codes "frame " ++ (decimal k ++ (codes " ins" ++ (words_text f.ins ++ (codes " locals" ++ (words_text f.locals ++ (10 ∷ []))))))

-- a line for each frame, numbered from k
abbrev pub frame_lines : ℕ → List Frame → List ℕ
frame_lines k [] = []
frame_lines k (f ∷ fs) = frame_line k f ++ frame_lines (k + 1) fs

-- `outs 0 0 0 0 0 0 0 0`
abbrev pub outs_line : List ℕ → List ℕ
outs_line outs = codes "outs" ++ (words_text outs ++ (10 ∷ []))

-- every frame, oldest first, and then the outs of the newest
abbrev pub listing_text : Frames → List ℕ
listing_text s = frame_lines 1 (all_frames s) ++ outs_line s.outs
