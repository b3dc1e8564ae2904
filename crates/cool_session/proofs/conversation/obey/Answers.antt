use Rattle.std.proofs.Common.{◌≡◌, rules, refl, sym, ap, ◌∙◌}
use Rattle.std.specs.Prelude.{Some, None, Err}
use Rattle.cool_ports.proofs.InputsInParts.{leaves_same}
use Rattle.cool_ports.specs.SinkPuts.{seen}
use Rattle.cool_session.specs.declared.ending.Interruption.TheVariants.{Memory}
use Rattle.cool_session.specs.Commands.{File, Drop, Check, Quit}
use Rattle.cool_session.specs.Exchanges.{Line}
use Rattle.cool_session.specs.Held.{held_by}
use Rattle.cool_session.specs.NewFeatures.{base_seen}
use Rattle.cool_session.proofs.CommandsDone.{asks_of, read_as, bad_command, quit_command, drop_command, line_cut, held_is}
use Rattle.cool_session.proofs.conversation.obey.Goals as goal

pub returns-in_err-read_command-clause-obeyed : goal.returns-in_err-read_command-clause-obeyed
returns-in_err-read_command-clause-obeyed g c =
    let same : c.from_residual.result ≡ Err Memory = search rules in
    λ input rest left at leaves.
    rw same
    (line_cut c.args.number (held_by c.args.session.now) input c.args.line.now (held_by c.args.session.now) left (seen (g.K.Sink.held c.args.sink.now) (g.K.Sink.puts c.args.sink.now))
    (at ∙ ap (Line c.args.line.now) (sym (leaves_same _ rest left leaves))))

pub returns-in-None-clause-obeyed : goal.returns-in-None-clause-obeyed
returns-in-None-clause-obeyed g c =
    let read = read_as c.args.line.now c.in_ok-read_command.field-0 _ c.in-None.is c.in_ok-read_command.ensures in
    λ input rest left at leaves.
    bad_command c.args.number (held_by c.args.session.now) input (held_by c.args.session.now) left (seen (g.K.Sink.held c.args.sink.now) (g.K.Sink.puts c.args.sink.now))
    (asks_of input c.args.line.now rest left None at (leaves_same _ rest left leaves) read)

pub returns-in-Some-Quit-clause-obeyed : goal.returns-in-Some-Quit-clause-obeyed
returns-in-Some-Quit-clause-obeyed g c =
    let read = read_as c.args.line.now c.in_ok-read_command.field-0 _ (c.in-Some-Quit.is ∙ ap Some c.in-Some-Quit.field-0-is)
    c.in_ok-read_command.ensures in
    λ input rest left at leaves.
    quit_command c.args.number (held_by c.args.session.now) input (held_by c.args.session.now) left (seen (g.K.Sink.held c.args.sink.now) (g.K.Sink.puts c.args.sink.now))
    (asks_of input c.args.line.now rest left (Some Quit) at (leaves_same _ rest left leaves) read)

pub returns-in-Some-Drop-clause-obeyed : goal.returns-in-Some-Drop-clause-obeyed
returns-in-Some-Drop-clause-obeyed g c =
    let name = c.in-Some-Drop.name.now in
    let read = read_as c.args.line.now c.in_ok-read_command.field-0 _ (c.in-Some-Drop.is ∙ ap Some c.in-Some-Drop.field-0-is)
    c.in_ok-read_command.ensures in
    let held = held_is _ _ _ _ _ _ c.drop_file.ensures.names c.drop_file.ensures.files (ap base_seen c.drop_file.ensures.base) in
    λ input rest left at leaves.
    drop_command c.args.number (held_by c.args.session.now) input name (held_by c.drop_file.new.self) left (seen (g.K.Sink.held c.args.sink.now) (g.K.Sink.puts c.args.sink.now))
    (asks_of input c.args.line.now rest left (Some (Drop name)) at (leaves_same _ rest left leaves) read) held

pub returns-in-Some-File-clause-obeyed : goal.returns-in-Some-File-clause-obeyed
returns-in-Some-File-clause-obeyed g c =
    let name = c.in-Some-File.name.now in
    let read = read_as c.args.line.now c.in_ok-read_command.field-0 _ (c.in-Some-File.is ∙ ap Some c.in-Some-File.field-0-is)
    c.in_ok-read_command.ensures in
    λ input rest left at leaves.
    c.set_file.ensures.obeyed input rest left (seen (g.K.Sink.held c.args.sink.now) (g.K.Sink.puts c.args.sink.now))
    (asks_of input c.args.line.now rest rest (Some (File name c.in-Some-File.size)) at refl read) leaves

pub returns-in-Some-Check-clause-obeyed : goal.returns-in-Some-Check-clause-obeyed
returns-in-Some-Check-clause-obeyed g c =
    let read = read_as c.args.line.now c.in_ok-read_command.field-0 _ (c.in-Some-Check.is ∙ ap Some c.in-Some-Check.field-0-is)
    c.in_ok-read_command.ensures in
    λ input rest left at leaves.
    c.check.ensures.obeyed input left (asks_of input c.args.line.now rest left (Some Check) at (leaves_same _ rest left leaves) read)
