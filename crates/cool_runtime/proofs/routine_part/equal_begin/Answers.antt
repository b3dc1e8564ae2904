-- `equal_begin` returns exactly the assembly code that `equal_begin_lines` of `Routines.antt` defines, which compares the addresses and the class tags of two
-- objects.
use Rattle.std.proofs.Common.{◌≡◌, map, [], ◌∷◌}
use Rattle.cool_runtime.specs.Labels.{bool_prototype, equal_false, equal_strings, equal_true, equal_values, equality, int_prototype, string_prototype}
use Rattle.cool_runtime.specs.Drafts.{drafted}
use Rattle.cool_runtime.specs.Routines.{equal_begin_lines}
use Rattle.cool_runtime.proofs.routine_part.equal_begin.Goals as goal

pub returns : goal.returns
unfolding bool_prototype equal_false equal_strings equal_true equal_values equality int_prototype string_prototype
returns c = let e : map drafted (c.label.result ∷ c.bne.result ∷ c.j.result ∷ c.bne-2.result ∷ c.j-2.result ∷ c.bne-3.result ∷ c.j-3.result ∷ c.lw.result ∷ c.lw-2.result ∷ c.beq.result ∷ c.j-4.result ∷ c.la.result ∷ c.lw-3.result ∷ c.bne-4.result ∷ c.j-5.result ∷ c.la-2.result ∷ c.lw-4.result ∷ c.bne-5.result ∷ c.j-6.result ∷ c.la-3.result ∷ c.lw-5.result ∷ c.bne-6.result ∷ c.j-7.result ∷ c.j-8.result ∷ []) ≡ equal_begin_lines = cc in
    e
