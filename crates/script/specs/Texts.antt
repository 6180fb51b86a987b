-- The text of a line fault. `decimal n` is what `{n}` writes.
use Rattle.std.specs.Prelude.{ℕ, List, ◌++◌, codes, decimal}
use Rattle.script.specs.declared.faults.Expected.{Expected}
use Rattle.script.specs.declared.faults.Expected.TheVariants.{Setup, AnySetup, Request}
use Rattle.script.specs.declared.faults.LineFault.{LineFault}

-- the forms that a line may have
abbrev pub expected_text : Expected → List ℕ
expected_text Setup = codes "flat N, with N from 1 to 256"
expected_text AnySetup = codes "flat CAP, ring N fixed S F flat CAP or ring N adaptive flat CAP, each number from 0 to 4294967295"
expected_text Request = codes "save, restore, read R, write R V, depth or spare, with R and V from 0 to 4294967295"

-- `line 1: expected flat N, with N from 1 to 256`
abbrev pub fault_text : LineFault → List ℕ
fault_text f = codes "line " ++ (decimal f.line ++ (codes ": expected " ++ expected_text f.expected))
