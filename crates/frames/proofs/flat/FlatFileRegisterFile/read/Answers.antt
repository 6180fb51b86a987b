use Rattle.std.proofs.Common.{ℕ, get_or, Ok, ap, ◌∙◌}
use Rattle.frames.specs.Flat.{flat_place}
use Rattle.frames.proofs.Flats.{read_flat}
use Rattle.frames.proofs.flat.FlatFileRegisterFile.read.Goals as goal

pub returns : goal.returns
returns c =
    let f = c.args.self.now in
    let made = c.in_ok-register.ensures in
    let at = c.place.ensures.names_the_word ∙ ap (flat_place f.top) made.1 in
    record { answers_as_the_frames_do = ap (λ (k : ℕ). Ok (get_or f.words k 0)) at ∙ read_flat f.words f.top f.capacity c.args.register made.0 }
