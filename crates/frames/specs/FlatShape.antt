-- Every flat file keeps the shape of its frames. It stands here since a file's type carries it.
use Rattle.std.specs.Prelude.{◌≡◌, ℕ, zero, suc, ◌+◌, ◌<◌, ◌≤◌, List, length, drop}
use Rattle.std.proofs.Common.{arith}
use Rattle.std.specs.List.{range_with_len, AllByRecursion}
use Rattle.std.proofs.lemmas.List.FromFn.{length-map-range_with_len}
use Rattle.std.proofs.ByRecursion.{All-map}
use Rattle.std.proofs.lemmas.List.{length-take-le, length-drop}
use Rattle.frames.specs.declared.flat.FlatFile.{FlatFile}
use Rattle.frames.specs.Frames.{Eight, Shaped, depth_of}
use Rattle.frames.specs.Flat.{base, eight, frame_at, flat_frames, flat_state}

pub length_eight : (ws : List ℕ) (at : ℕ) → at + 8 ≤ length ws → length (eight ws at) ≡ 8
length_eight ws at h = length-take-le 8 (drop at ws) (simp length-drop (omega arith))

frame_eight : (ws : List ℕ) (i : ℕ) → length ws ≡ 4104 → Eight (frame_at ws i)
frame_eight ws i h = (length_eight ws (base i + 16) (omega arith), length_eight ws (base i + 8) (omega arith))

all_counted : (P : ℕ → Type 0) (a n : ℕ) → ((k : ℕ) → P k) → AllByRecursion P (range_with_len a n)
all_counted P a zero h = tt
all_counted P a (suc n) h = (h a, all_counted P (a + 1) n h)

pub depth_flat : (ws : List ℕ) (top capacity : ℕ) → depth_of (flat_frames ws top capacity) ≡ top + 1
depth_flat ws top capacity = let e = length-map-range_with_len (frame_at ws) 0 top in omega arith

flat_frames_shape : (ws : List ℕ) (top capacity : ℕ) → length ws ≡ 4104 → top < capacity → Shaped (flat_frames ws top capacity)
flat_frames_shape ws top capacity long within =
    record {
      older_eight = All-map Eight (frame_at ws) (range_with_len 0 top) (all_counted (λ i. Eight (frame_at ws i)) 0 top (λ i. frame_eight ws i long));
      newest_eight = frame_eight ws top long;
      outs_eight = length_eight ws (base top) (omega arith);
      within = let e = depth_flat ws top capacity in omega arith;
    }

pub flat_shape : (f : FlatFile) → Shaped (flat_state f)
flat_shape f = flat_frames_shape f.words f.top f.capacity f.long f.within
