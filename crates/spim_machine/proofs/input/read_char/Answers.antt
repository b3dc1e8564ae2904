use Rattle.std.proofs.Common.{[], ◌∷◌, refl}
use Rattle.std.proofs.lemmas.Result.{err_from_is_err_and}
use Rattle.spim_machine.proofs.TakingBytes.{asks_more, took_some, took_end, took_one}
use Rattle.spim_machine.proofs.input.read_char.Goals as goal

pub returns-in_err-byte-clause-some : goal.returns-in_err-byte-clause-some
returns-in_err-byte-clause-some g c =
    let p = err_from_is_err_and c.from_residual.result c.from_residual.ensures.1 in
    rw p.1 (λ input rest leaves. took_some _ _ (asks_more 0) _ _ _ _ _ (c.in_err-byte.ensures.gave input rest leaves))

pub returns-in-Some-clause-all : goal.returns-in-Some-clause-all
returns-in-Some-clause-all g c =
    let gave = rw c.in-Some.is at c.in_ok-byte.ensures.gave in
    λ input rest leaves. (c.in-Some.byte ∷ [], took_one _ _ _ _ _ (gave input rest leaves), c.from.ensures)

pub returns-in-None-clause-all : goal.returns-in-None-clause-all
returns-in-None-clause-all g c =
    let gave = rw c.in-None.is at c.in_ok-byte.ensures.gave in
    λ input rest leaves. ([], took_end _ _ (asks_more 0) _ _ _ _ (gave input rest leaves), refl)
