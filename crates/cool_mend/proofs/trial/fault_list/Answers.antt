-- `fault_list` returns an empty list of errors for files that are accepted, because they have no compile-time errors.
use Rattle.std.proofs.Common.{List, length, sym, subst}
use Rattle.std.specs.List.{AllByRecursion}
use Rattle.cool_syntax.specs.TokenFacts.{IsPlaced}
use Rattle.cool_faults.specs.declared.fault.Fault.{Fault}
use Rattle.cool_faults.specs.Files.{bytes_of}
use Rattle.cool_faults.specs.Verdicts.{IsFaultList, IsVerdict, place_of}
use Rattle.cool_faults.proofs.AcceptedFiles.{accepted_list}
use Rattle.cool_mend.proofs.trial.fault_list.Goals as goal

pub returns-in-Accepted-clause-list : goal.returns-in-Accepted-clause-list
returns-in-Accepted-clause-list c =
    let files = bytes_of c.args.files.now in
    subst (λ (l : List Fault). IsFaultList files l) (sym c.new.ensures.items)
    (accepted_list files c.in-Accepted.field-0 (subst (IsVerdict files) c.in-Accepted.is c.in_ok-accept.ensures.verdict))

pub returns-in-Accepted-clause-placed : goal.returns-in-Accepted-clause-placed
returns-in-Accepted-clause-placed c = λ some. subst (λ (l : List Fault). AllByRecursion (λ (f : Fault). IsPlaced (length (bytes_of c.args.files.now)) (place_of f)) l) (sym c.new.ensures.items) tt
