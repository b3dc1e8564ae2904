use Rattle.std.proofs.Common.{◌≡◌, rules, subst, ◌∙◌, ℕ, List, [], ◌∷◌, length, map}
use Rattle.std.specs.Prelude.{Err}
use Rattle.cool_faults.specs.declared.fault.Fault.{Fault}
use Rattle.cool_faults.specs.Texts.{fault_line}
use Rattle.cool_ports.specs.SinkPuts.{seen, after_puts}
use Rattle.cool_session.specs.Files.{names_of}
use Rattle.cool_session.specs.Obeying.{PutLines}
use Rattle.cool_session.specs.Replies.{first_line}
use Rattle.cool_session.proofs.LinesOfFaults.{first_cut, lines_then}
use Rattle.cool_session.proofs.reply.put_reply.Goals as goal

pub returns-in_err-put_first-clause-put : goal.returns-in_err-put_first-clause-put
returns-in_err-put_first-clause-put g c =
    let k = g.K.Sink in
    let reply = c.args.reply.now in
    let e = c.in_err-put_first.field-0.0 in
    let same : c.from_residual.result ≡ Err e = search rules in
    let count : c.len.result ≡ length reply.faults.items = c.len.ensures ∙ reply.faults.ok.0 in
    rw same
    (first_cut e (first_line (length reply.faults.items) reply.typed) (map (fault_line (names_of c.args.names.now)) reply.faults.items) _ _
    (subst (λ (n : ℕ). PutLines (first_line n reply.typed ∷ []) (Err e) (seen (k.held c.args.sink.now) (k.puts c.args.sink.now)) (seen (k.held c.put_first.new.sink) (k.puts c.put_first.new.sink))) count
    c.in_err-put_first.ensures.put))

pub returns-clause-put : goal.returns-clause-put
returns-clause-put g c =
    let k = g.K.Sink in
    let reply = c.args.reply.now in
    let before = seen (k.held c.args.sink.now) (k.puts c.args.sink.now) in
    let mid = seen (k.held c.put_first.new.sink) (k.puts c.put_first.new.sink) in
    let after = seen (k.held c.put_faults.new.sink) (k.puts c.put_faults.new.sink) in
    let count : c.len.result ≡ length reply.faults.items = c.len.ensures ∙ reply.faults.ok.0 in
    lines_then c.put_faults.result (first_line (length reply.faults.items) reply.typed)
    (map (fault_line (names_of c.args.names.now)) reply.faults.items) before mid after
    (subst (λ (n : ℕ). mid ≡ after_puts before (first_line n reply.typed ∷ [])) count c.in_ok-put_first.ensures.put)
    (subst (λ (faults : List Fault). PutLines (map (fault_line (names_of c.args.names.now)) faults) c.put_faults.result mid after)
    c.as_slice.ensures.value c.put_faults.ensures.put)
