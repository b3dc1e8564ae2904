-- `no_branch` returns exactly the assembly code that `no_branch_lines` of `Routines.antt` defines, which reports a `case` in which no branch matches, and exits
-- with status 3.
use Rattle.std.proofs.Common.{◌≡◌, map, [], ◌∷◌}
use Rattle.cool_runtime.specs.Labels.{case_abort, colon_text, name_table, no_branch_text, stop_text}
use Rattle.cool_runtime.specs.Drafts.{drafted}
use Rattle.cool_runtime.specs.Routines.{no_branch_lines}
use Rattle.cool_runtime.proofs.routine_part.no_branch.Goals as goal

pub returns : goal.returns
unfolding case_abort colon_text name_table no_branch_text stop_text
returns c = let e : map drafted (c.label.result ∷ c.lw.result ∷ c.sll.result ∷ c.la.result ∷ c.addu.result ∷ c.lw-2.result ∷ c.addiu.result ∷ c.call_number.result ∷ c.syscall.result ∷ c.la-2.result ∷ c.syscall-2.result ∷ c.copied.result ∷ c.call_number-2.result ∷ c.syscall-3.result ∷ c.la-3.result ∷ c.call_number-3.result ∷ c.syscall-4.result ∷ c.addiu-2.result ∷ c.syscall-5.result ∷ c.la-4.result ∷ c.syscall-6.result ∷ c.addiu-3.result ∷ c.call_number-4.result ∷ c.syscall-7.result ∷ []) ≡ no_branch_lines = cc in
    e
