use Rattle.std.proofs.Common.{refl}
use Rattle.std.specs.Fmt.{digits}
use Rattle.frames.specs.Frames.{word, with_word, saved, restored}
use Rattle.examples.specs.Examples.{WorkedExamplesHold}
use Rattle.examples.proofs.worked_examples.Goals as goal

worked_examples-hold : WorkedExamplesHold
unfolding digits word with_word saved restored
worked_examples-hold = (refl, (refl, (refl, (refl, tt))))

pub returns : goal.returns
returns c = record { counts_the_table = c.table_size.ensures; every_example_holds = worked_examples-hold }
