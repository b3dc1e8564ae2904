use Rattle.std.proofs.Common.{◌≡◌, ◌∙◌, inl, refl, sym, ap, subst, ℕ, Bool, false, List, arith}
use Rattle.std.specs.Prelude.{Some}
use Rattle.std.proofs.lemmas.List.{get_or_default}
use Rattle.cool_ports.specs.Taking.{Took}
use Rattle.cool_ports.proofs.InputsInParts.{took_nothing, took_both, in_two, leaves_same}
use Rattle.mips_isa.specs.ImageBounds.{ImageParts}
use Rattle.spim_debug.specs.Moves.{beginning, all_moves}
use Rattle.spim_debug.specs.Debugging.{debuggee}
use Rattle.spim_debug.specs.Obeying.{IsDebuggerOf, Stands}
use Rattle.spim_debug.proofs.DoneScripts.{so_far_none, so_far_more, stopped_in, done_all, not_begun}
use Rattle.spim_debug.proofs.debugger.debug.Goals as goal

-- nothing was done, out of memory
pub returns-in_default-clause-debugged : goal.returns-in_default-clause-debugged
returns-in_default-clause-debugged g c input rest leaves =
    not_begun (debuggee c.args.image.now c.args.limits.heap c.args.limits.stack c.args.budget input) c.args.script.now _ _ _ (ap Some (leaves_same _ input rest leaves)) refl

-- no command is done yet
pub loop-command-init : goal.loop-command-init
loop-command-init g c =
    let loaded = c.in-Ok.ensures in
    let s = g.S.Source in
    record {
      debugger = loaded.debugger;
      took = subst (λ (e : Bool). Took false e (s.past c.args.source.now) (s.past c.args.source.now) (s.left c.args.source.now) (s.left c.args.source.now)) (sym loaded.fresh) (took_nothing false _ _);
      so_far = λ input rest leaves.
          let d = debuggee c.args.image.now c.args.limits.heap c.args.limits.stack c.args.budget input in
          so_far_none d c.args.script.now _ c.in-Ok.debugger _ _ _
          (subst (λ (l : List ℕ). Stands d beginning (g.K.Sink.held c.args.sink.now) c.in-Ok.debugger (Some l) (g.K.Sink.held c.args.sink.now)) (sym (leaves_same _ input rest leaves)) (loaded.stands input (g.K.Sink.held c.args.sink.now)));
      source = refl;
      sink = refl;
      notes = refl;
    }

-- the bytes taken, in a command and to the end
pub returns-in-Err-clause-taken : goal.returns-in-Err-clause-taken
returns-in-Err-clause-taken g c = (_, took_both _ _ _ _ _ _ _ _ _ c.loop-command.invariant.took c.obey.ensures.took)

pub returns-clause-taken : goal.returns-clause-taken
returns-clause-taken g c = (_, took_both _ _ _ _ _ _ _ _ _ c.loop-command.invariant.took c.finish.ensures.took)

-- a call failed in a command
pub returns-in-Err-clause-debugged : goal.returns-in-Err-clause-debugged
returns-in-Err-clause-debugged g c input rest leaves =
    let inv = c.loop-command.invariant in
    let d = debuggee c.args.image.now c.args.limits.heap c.args.limits.stack c.args.budget input in
    let two = in_two _ _ _ _ _ _ _ _ _ input rest inv.took c.obey.ensures.took leaves in
    let so = inv.so_far input two.middle two.before in
    let inside = c.loop-command-test.true in
    (stopped_in d c.args.script.now c.loop-command.command-index _ _ c.in-Err.end _ c.obey.new.self _ _ _ _ _ _ _ inside (get_or_default c.args.script.now c.loop-command.command-index _ _ inside) so
    (c.in-Err.ensures.obeyed d (all_moves d so.front beginning) _ two.middle rest two.later so.stands)).0

pub returns-in-Err-clause-notes_put : goal.returns-in-Err-clause-notes_put
returns-in-Err-clause-notes_put g c input rest leaves =
    let inv = c.loop-command.invariant in
    let d = debuggee c.args.image.now c.args.limits.heap c.args.limits.stack c.args.budget input in
    let two = in_two _ _ _ _ _ _ _ _ _ input rest inv.took c.obey.ensures.took leaves in
    let so = inv.so_far input two.middle two.before in
    let inside = c.loop-command-test.true in
    (stopped_in d c.args.script.now c.loop-command.command-index _ _ c.in-Err.end _ c.obey.new.self _ _ _ _ _ _ _ inside (get_or_default c.args.script.now c.loop-command.command-index _ _ inside) so
    (c.in-Err.ensures.obeyed d (all_moves d so.front beginning) _ two.middle rest two.later so.stands)).1

-- one more command is done
pub loop-command-preserved : goal.loop-command-preserved
loop-command-preserved g c =
    let inv = c.loop-command.invariant in
    let done = c.in_default-obey.ensures in
    let text : c.deref.result.now ≡ c.args.image.now.text = c.deref.ensures.value ∙ ap (λ (i : ImageParts). i.text) c.image.view_is in
    record {
      debugger = subst (λ (words : List ℕ). IsDebuggerOf words c.obey.new.self) text done.debugger;
      took = took_both _ _ _ _ _ _ _ _ _ inv.took c.obey.ensures.took;
      so_far = λ input rest leaves.
          let d = debuggee c.args.image.now c.args.limits.heap c.args.limits.stack c.args.budget input in
          let two = in_two _ _ _ _ _ _ _ _ _ input rest inv.took c.obey.ensures.took leaves in
          let so = inv.so_far input two.middle two.before in
          so_far_more d c.args.script.now c.loop-command.command-index _ _ _ c.obey.new.self _ _ _ _ _ _ _ c.loop-command-test.true (get_or_default c.args.script.now c.loop-command.command-index _ _ c.loop-command-test.true) so
          (done.obeyed d (all_moves d so.front beginning) _ two.middle rest two.later so.stands);
      source = done.counts.0 ∙ inv.source;
      sink = done.counts.1 ∙ inv.sink;
      notes = done.counts.2 ∙ inv.notes;
    }

-- the run went on to its end
pub returns-clause-debugged : goal.returns-clause-debugged
returns-clause-debugged g c input rest leaves =
    let inv = c.loop-command.invariant in
    let d = debuggee c.args.image.now c.args.limits.heap c.args.limits.stack c.args.budget input in
    let two = in_two _ _ _ _ _ _ _ _ _ input rest inv.took c.finish.ensures.took leaves in
    let so = inv.so_far input two.middle two.before in
    (done_all d c.args.script.now c.loop-command.command-index _ c.finish.result _ _ _ _ _ _ _ (omega (arith, c.loop-command-test.false)) so
    (c.finish.ensures.ended d (all_moves d so.front beginning) _ two.middle rest two.later so.stands)).0

pub returns-clause-notes_put : goal.returns-clause-notes_put
returns-clause-notes_put g c input rest leaves =
    let inv = c.loop-command.invariant in
    let d = debuggee c.args.image.now c.args.limits.heap c.args.limits.stack c.args.budget input in
    let two = in_two _ _ _ _ _ _ _ _ _ input rest inv.took c.finish.ensures.took leaves in
    let so = inv.so_far input two.middle two.before in
    (done_all d c.args.script.now c.loop-command.command-index _ c.finish.result _ _ _ _ _ _ _ (omega (arith, c.loop-command-test.false)) so
    (c.finish.ensures.ended d (all_moves d so.front beginning) _ two.middle rest two.later so.stands)).1

pub returns-in_default-clause-notes_put : goal.returns-in_default-clause-notes_put
returns-in_default-clause-notes_put g c input rest leaves = inl refl
