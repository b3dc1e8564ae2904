use Rattle.std.proofs.Common.{◌≡◌, rules, refl, sym, ap, subst, ◌∙◌, ℕ, List, length}
use Rattle.std.specs.Prelude.{Ok, Err, String, ◌≢◌, []}
use Rattle.std.specs.Global.{Global}
use Rattle.std.specs.List.{AllByRecursion}
use Rattle.cool_syntax.specs.TokenFacts.{IsPlaced}
use Rattle.cool_faults.specs.declared.fault.Fault.{Fault}
use Rattle.cool_faults.specs.Files.{bytes_of}
use Rattle.cool_faults.specs.Verdicts.{place_of}
use Rattle.cool_ports.specs.SinkPuts.{seen}
use Rattle.cool_session.specs.declared.ending.Interruption.TheVariants.{Memory}
use Rattle.cool_session.specs.Files.{names_of}
use Rattle.cool_session.specs.Held.{held_by}
use Rattle.cool_session.specs.NewFeatures.{base_seen}
use Rattle.cool_session.specs.Obeying.{PutLines}
use Rattle.cool_session.specs.Replies.{reply_lines}
use Rattle.cool_session.proofs.CommandsDone.{nothing_to_check, checked, check_cut, line_cut, no_items, some_items, held_is}
use Rattle.cool_session.proofs.conversation.check.Goals as goal
use Rattle.std.proofs.lemmas.List.{nil_from_length}

pub returns-then-is_empty-clause-obeyed : goal.returns-then-is_empty-clause-obeyed
returns-then-is_empty-clause-obeyed g c =
    let session = c.args.session.now in
    let names : session.names.items ≡ [] = sym c.names.ensures ∙ no_items c.names.result.now c.if-is_empty.ensures in
    let files : session.files.items ≡ [] = nil_from_length session.files.items (sym session.paired ∙ ap length names) in
    λ input left ask. nothing_to_check c.args.number (held_by session) input left ask (held_by session) (seen (g.K.Sink.held c.args.sink.now) (g.K.Sink.puts c.args.sink.now))
    (ap bytes_of files)

pub returns-in_err-reply-clause-obeyed : goal.returns-in_err-reply-clause-obeyed
returns-in_err-reply-clause-obeyed g c =
    let same : c.from_residual.result ≡ Err Memory = search rules in
    λ input left ask.
    rw same (line_cut c.args.number (held_by c.args.session.now) input ask.0 (held_by c.check.new.self) left (seen (g.K.Sink.held c.args.sink.now) (g.K.Sink.puts c.args.sink.now)) ask.1)

pub put_reply-requires : goal.put_reply-requires
put_reply-requires g c =
    let session = c.args.session.now in
    let names : c.names-2.result.now ≡ session.names.items = c.names-2.ensures ∙ c.in_ok-reply.ensures.names in
    let long : length session.files.items ≡ length c.names-2.result.now = sym session.paired ∙ ap length (sym names) in
    record {
      placed = subst (λ (n : ℕ). AllByRecursion {X = Fault} (λ f. IsPlaced n (place_of f)) c.in_ok-reply.reply.faults.items) long
          c.in_ok-reply.ensures.placed;
    }

pub returns-in_err-put_reply-clause-obeyed : goal.returns-in_err-put_reply-clause-obeyed
returns-in_err-put_reply-clause-obeyed g c =
    let k = g.K.Sink in
    let session = c.args.session.now in
    let reply = c.in_ok-reply.reply in
    let e = c.in_err-put_reply.field-0.0 in
    let same : c.from_residual-in_err-put_reply.result ≡ Err e = search rules in
    let names : c.names-2.result.now ≡ session.names.items = c.names-2.ensures ∙ c.in_ok-reply.ensures.names in
    let some : bytes_of session.files.items ≢ [] =
    some_items session.files.items c.names.result.now (λ file. file.items) (ap length c.names.ensures ∙ session.paired) c.if-is_empty.ensures in
    let put = subst (λ (ns : List (String Global)). PutLines (reply_lines (names_of ns) reply.faults.items reply.typed) (Err e)
    (seen (k.held c.args.sink.now) (k.puts c.args.sink.now)) (seen (k.held c.put_reply.new.sink) (k.puts c.put_reply.new.sink)))
    names c.in_err-put_reply.ensures.put in
    λ input left ask.
    rw same
    (check_cut c.args.number (held_by session) input left ask (held_by c.check.new.self) (seen (k.held c.args.sink.now) (k.puts c.args.sink.now)) reply.faults.items reply.typed
    (base_seen c.check.new.self.base) some c.in_ok-reply.ensures.faults c.in_ok-reply.ensures.typed (seen (k.held c.put_reply.new.sink) (k.puts c.put_reply.new.sink)) e put)

pub returns-clause-obeyed : goal.returns-clause-obeyed
returns-clause-obeyed g c =
    let k = g.K.Sink in
    let session = c.args.session.now in
    let reply = c.in_ok-reply.reply in
    let names : c.names-2.result.now ≡ session.names.items = c.names-2.ensures ∙ c.in_ok-reply.ensures.names in
    let some : bytes_of session.files.items ≢ [] =
    some_items session.files.items c.names.result.now (λ file. file.items) (ap length c.names.ensures ∙ session.paired) c.if-is_empty.ensures in
    let put = subst (λ (ns : List (String Global)). PutLines (reply_lines (names_of ns) reply.faults.items reply.typed) (Ok tt)
    (seen (k.held c.args.sink.now) (k.puts c.args.sink.now)) (seen (k.held c.put_reply.new.sink) (k.puts c.put_reply.new.sink)))
    names c.in_ok-put_reply.ensures.put in
    let held = held_is _ _ _ _ (base_seen c.check.new.self.base) _ (ap names_of c.in_ok-reply.ensures.names)
    (ap bytes_of c.in_ok-reply.ensures.files) refl in
    λ input left ask.
    checked c.args.number (held_by session) input left ask (held_by c.check.new.self) (seen (k.held c.args.sink.now) (k.puts c.args.sink.now)) reply.faults.items reply.typed
    (base_seen c.check.new.self.base) some c.in_ok-reply.ensures.faults c.in_ok-reply.ensures.typed (seen (k.held c.put_reply.new.sink) (k.puts c.put_reply.new.sink)) put held
