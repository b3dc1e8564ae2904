use Rattle.std.proofs.Common.{◌∙◌, refl, arith}
use Rattle.mips_text.proofs.FirstLetters.{place_behind}
use Rattle.mips_text.proofs.registers.place_of_name.Goals as goal

pub returns-in-len1-up-clause-exact : goal.returns-in-len1-up-clause-exact
returns-in-len1-up-clause-exact c =
    c.place_of.ensures.exact
    ∙ place_behind (λ known. known.now) _ c.first_with.result 0 _ _ c.args.name.now (omega arith) c.in-len1-up.len_at_least refl c.first_with.ensures.none_before
