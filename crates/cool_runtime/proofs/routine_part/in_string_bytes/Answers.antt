-- `in_string_bytes` returns exactly the assembly code that `in_string_bytes_lines` of `Routines.antt` defines, which reads bytes up to a newline in a loop.
use Rattle.std.proofs.Common.{◌≡◌, map, [], ◌∷◌}
use Rattle.cool_runtime.specs.Labels.{heap_limit, in_string_bytes, in_string_end}
use Rattle.cool_runtime.specs.Drafts.{drafted}
use Rattle.cool_runtime.specs.Routines.{in_string_bytes_lines}
use Rattle.cool_runtime.proofs.routine_part.in_string_bytes.Goals as goal

pub returns : goal.returns
unfolding heap_limit in_string_bytes in_string_end
returns c = let e : map drafted (c.label.result ∷ c.call_number.result ∷ c.syscall.result ∷ c.bgez.result ∷ c.j.result ∷ c.bne.result ∷ c.j-2.result ∷ c.sb.result ∷ c.addiu.result ∷ c.beq.result ∷ c.j-3.result ∷ c.bne-2.result ∷ c.j-4.result ∷ c.sw.result ∷ c.addiu-2.result ∷ c.j-5.result ∷ []) ≡ in_string_bytes_lines = cc in
    e
