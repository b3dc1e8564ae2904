-- `parse_file` adds the syntax tree of a file to the results, or its syntax error to the errors, as `Adds` of `Phases.antt` defines.
use Rattle.std.proofs.Common.{inl, inr, refl, ◌∷◌, []}
use Rattle.std.proofs.lemmas.Slice.{pushed}
use Rattle.cool_faults.specs.declared.fault.Fault.TheVariants.{Syntax}
use Rattle.cool_faults.proofs.SlicesParsed.{parsed_slice, fault_slice}
use Rattle.cool_faults.proofs.parsing.parse_file.Goals as goal

pub returns-in_ok-push-in-Ok : goal.returns-in_ok-push-in-Ok
returns-in_ok-push-in-Ok c =
    let e = c.in-Ok.ensures in
    inl (
      c.in-Ok.tree,
      parsed_slice c.args.file c.args.lexed.now c.as_slice.result.now c.in-Ok.tree c.as_slice.ensures.value e.file e.whole e.limits e.weight e.bounded,
      pushed (c.in-Ok.tree ∷ []) refl c.in_ok-push-in-Ok.was c.push.ensures,
      refl,
    )

pub returns-in_ok-push-in-Err-Fault : goal.returns-in_ok-push-in-Err-Fault
returns-in_ok-push-in-Err-Fault c =
    let e = c.in-Err-Fault.ensures in
    inr (
      Syntax c.in-Err-Fault.fault,
      fault_slice c.args.file c.args.lexed.now c.as_slice.result.now c.in-Err-Fault.fault c.as_slice.ensures.value (rw c.in-Err-Fault.field-0-is at e.fault),
      refl,
      pushed (Syntax c.in-Err-Fault.fault ∷ []) refl c.in_ok-push-in-Err-Fault.was c.push-in-Err-Fault.ensures,
    )
