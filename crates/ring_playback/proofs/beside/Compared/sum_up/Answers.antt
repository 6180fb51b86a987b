use Rattle.std.proofs.Common.{◌≡◌, ℕ, true, List, [], ◌∷◌, ◌++◌, string_bytes, sym, ap, ◌∙◌, append_assoc}
use Rattle.std.proofs.lemmas.Result.{on_ok_weaker}
use Rattle.listing.specs.Listing.{listing_text}
use Rattle.ring.specs.Rings.{frames_of}
use Rattle.ring.specs.Texts.{counts_text}
use Rattle.playback.specs.Playing.{ended}
use Rattle.ring_playback.specs.Beside.{agreement_text}
use Rattle.ring_playback.proofs.beside.Compared.sum_up.Goals as goal

pub returns : goal.returns
returns g c =
    let listed = c.in_ok-frames.ensures in
    let told : c.agreement-agreement.result.now ≡ agreement_text true = c.agreement-agreement.ensures ∙ ap agreement_text listed.1 in
    let last : List ℕ = ended (counts_text c.args.self.ring.counts) in
    let before : List ℕ = string_bytes c.args.text.now in
    let frames : List ℕ = listing_text (frames_of g.S.SaveStore c.args.self.ring) in
    on_ok_weaker c.write.result
    (λ wrote.
    wrote
    ∙ (λ i. before ++ (listed.0 i ++ (told i ++ 10 ∷ ended (counts_text (c.counts-counts.ensures.answers_the_four_counts i)))))
    ∙ ap (λ (l : List ℕ). before ++ (frames ++ l)) (sym (append_assoc (agreement_text true) (10 ∷ []) last)))
    c.write.ensures.bytes
