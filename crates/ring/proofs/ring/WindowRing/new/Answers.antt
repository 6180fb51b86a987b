use Rattle.std.proofs.Common.{rules}
use Rattle.ring.proofs.Fresh.{fresh_exactly, made}
use Rattle.ring.proofs.ring.WindowRing.new.Goals as goal

pub returns-clause-stands_for_the_store_and_a_frame : goal.returns-clause-stands_for_the_store_and_a_frame
returns-clause-stands_for_the_store_and_a_frame g c = search (rules, made)

pub returns-clause-is_fresh_exactly_over_an_empty_store : goal.returns-clause-is_fresh_exactly_over_an_empty_store
returns-clause-is_fresh_exactly_over_an_empty_store g c = fresh_exactly g.S.SaveStore _ c.args.windows c.new.ensures.words_are_zero c.new.ensures.first_is_resident (search rules)
