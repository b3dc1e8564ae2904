-- `of_program` returns no explanation, because accepted files have no compile-time errors.
use Rattle.std.proofs.Common.{subst, sym}
use Rattle.cool_faults.specs.Files.{bytes_of}
use Rattle.cool_faults.proofs.AcceptedFiles.{accepted_list}
use Rattle.cool_mend.specs.Explanations.{AreExplained}
use Rattle.cool_mend.proofs.explaining.of_program.Goals as goal

pub returns-clause-explained : goal.returns-clause-explained
returns-clause-explained c =
    let files = bytes_of c.args.files.now in
    subst (AreExplained files) (sym c.new.ensures.items)
    (record { list = accepted_list files c.args.table.now c.requires.accepted; told = tt; mends = tt })
