-- `of_faults` returns one explanation for each given compile-time error, and all these errors are at places in the files.
use Rattle.std.proofs.Common.{length}
use Rattle.cool_syntax.specs.TokenFacts.{IsPlaced}
use Rattle.cool_faults.specs.Files.{bytes_of}
use Rattle.cool_faults.specs.declared.fault.Fault.{Fault}
use Rattle.cool_faults.specs.Verdicts.{place_of}
use Rattle.cool_mend.proofs.MendsTold.{of_faults}
use Rattle.cool_mend.proofs.explaining.of_faults.Goals as goal

pub returns-clause-placed : goal.returns-clause-placed
returns-clause-placed c =
    λ some. of_faults (λ (f : Fault). IsPlaced (length (bytes_of c.args.files.now)) (place_of f)) c.in_ok-explanations.explanations.items c.args.faults.now c.in_ok-explanations.ensures.each (c.requires.placed some)
