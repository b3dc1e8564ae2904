-- The exit statuses of programs on source files, as numbers; they are the same as those of `cool`.
use Rattle.std.specs.Prelude.{ℕ}
use Rattle.cool_sources.specs.declared.status.Status.{Status}
use Rattle.cool_sources.specs.declared.status.Status.TheVariants.{Done, Refused, Usage, WriteFault, Memory, FileFault}

abbrev pub code_of : Status → ℕ
code_of Done = 0
code_of Refused = 1
code_of Usage = 2
code_of WriteFault = 8
code_of Memory = 9
code_of FileFault = 10
