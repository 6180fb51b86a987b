-- The text of a refusal. `decimal n` is what `{n}` writes.
use Rattle.std.specs.Prelude.{ℕ, List, ◌++◌, codes, decimal}
use Rattle.refusal.specs.declared.layers.Layer.{Layer}
use Rattle.refusal.specs.declared.layers.Layer.TheVariants.{File, Setup, Store, Records, Machine}
use Rattle.refusal.specs.declared.refusals.Refusal.{Refusal}

-- a layer's name
abbrev pub layer_name : Layer → List ℕ
layer_name File = codes "File"
layer_name Setup = codes "Setup"
layer_name Store = codes "Store"
layer_name Records = codes "Records"
layer_name Machine = codes "Machine"

-- `refused 2 File at 2`
abbrev pub refusal_text : Refusal → List ℕ
refusal_text r = codes "refused " ++ (decimal r.number ++ (codes " " ++ (layer_name r.layer ++ (codes " at " ++ decimal r.place))))
