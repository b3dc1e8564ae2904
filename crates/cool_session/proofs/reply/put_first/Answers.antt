use Rattle.std.proofs.Common.{◌≡◌, rules, ℕ, List, [], ◌∷◌, ◌∙◌, subst}
use Rattle.std.specs.Prelude.{Err}
use Rattle.cool_ports.proofs.SeenSinks.{seen_none, some_so_far}
use Rattle.cool_ports.specs.SinkPuts.{seen}
use Rattle.cool_session.specs.declared.ending.Interruption.TheVariants.{Memory}
use Rattle.cool_session.specs.Obeying.{PutLines}
use Rattle.cool_session.proofs.reply.put_first.Goals as goal

pub returns-in_err-line-clause-put : goal.returns-in_err-line-clause-put
returns-in_err-line-clause-put g c =
    let same : c.from_residual.result ≡ Err Memory = search rules in
    rw same (some_so_far _ _ _ _ (seen_none _ _))

pub returns-clause-put : goal.returns-clause-put
returns-clause-put g c =
    let k = g.K.Sink in
    subst (λ (bytes : List ℕ). PutLines (bytes ∷ []) c.put_line.result (seen (k.held c.args.sink.now) (k.puts c.args.sink.now)) (seen (k.held c.put_line.new.sink) (k.puts c.put_line.new.sink)))
    (c.as_bytes.ensures.value ∙ c.as_str.ensures.value ∙ c.in_ok-line.ensures) c.put_line.ensures.put
