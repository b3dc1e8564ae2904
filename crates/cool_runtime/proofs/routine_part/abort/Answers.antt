-- `abort` returns exactly the assembly code that `abort_lines` of `Routines.antt` defines, which writes the name of an object's class and exits with status 3.
use Rattle.std.proofs.Common.{◌≡◌, map, [], ◌∷◌}
use Rattle.cool_runtime.specs.Labels.{abort, abort_text, name_table, newline_text}
use Rattle.cool_runtime.specs.Drafts.{drafted}
use Rattle.cool_runtime.specs.Routines.{abort_lines}
use Rattle.cool_runtime.proofs.routine_part.abort.Goals as goal

pub returns : goal.returns
unfolding abort abort_text name_table newline_text
returns c = let e : map drafted (c.label.result ∷ c.lw.result ∷ c.sll.result ∷ c.la.result ∷ c.addu.result ∷ c.lw-2.result ∷ c.la-2.result ∷ c.call_number.result ∷ c.syscall.result ∷ c.addiu.result ∷ c.syscall-2.result ∷ c.la-3.result ∷ c.syscall-3.result ∷ c.addiu-2.result ∷ c.call_number-2.result ∷ c.syscall-4.result ∷ []) ≡ abort_lines = cc in
    e
