-- A stack in a table.
use Rattle.std.specs.Prelude.{cond, List, length, take, nat_lt, slice_set}
use Rattle.stores.specs.declared.stack.Stack.{Stack}

-- the elements in use, oldest first
abbrev pub contents : {T : Type 0} → Stack T → List T
contents s = take s.len s.table.now

-- the whole table after a put: the next place has the element, and a refused put changes nothing
abbrev pub table_after_put : {T : Type 0} → Stack T → T → List T
table_after_put s x = cond (nat_lt s.len (length s.table.now)) (slice_set s.table.now s.len x) s.table.now
