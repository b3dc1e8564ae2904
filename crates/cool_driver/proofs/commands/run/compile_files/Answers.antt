use Rattle.std.proofs.Common.{List, ap, length, ◌∙◌}
use Rattle.cool_classes.specs.Chains.{Class}
use Rattle.cool_emit.specs.Programs.{program_lines}
use Rattle.cool_words.specs.Plans.{words_of}
use Rattle.mips_isa.specs.Assembly.{image_of}
use Rattle.cool_words.proofs.FileNames.{short_names}
use Rattle.cool_driver.proofs.ProgramsMeant.{program_fits, program_imaged}
use Rattle.cool_driver.proofs.commands.run.compile_files.Goals as goal

-- the compiled program fits as many files as there are names
pub build-requires-clause-fits : goal.build-requires-clause-fits
build-requires-clause-fits g c =
    c.in_ok-compiled-in-Ok.ensures.fits (length c.args.names.now) (program_fits c.args.names.now _ c.in-Ok.program c.in-Ok.ensures.program)

-- the names are short
pub build-requires-clause-names : goal.build-requires-clause-names
build-requires-clause-names g c = short_names (words_of c.args.names.now) c.requires.names

-- the image is one for the program
pub returns-in_ok-build-in-Ok-clause-image : goal.returns-in_ok-build-in-Ok-clause-image
returns-in_ok-build-in-Ok-clause-image g c =
    let is = c.in-Ok.ensures.program in
    let compiled = c.in_ok-compiled-in-Ok.ensures in
    record {
      p = c.in-Ok.program;
      is = is;
      for = program_imaged c.args.names.now _ c.in-Ok.program c.requires.names is c.args.fold _
          (rw compiled.program at (compiled.fits (length c.args.names.now) (program_fits c.args.names.now _ c.in-Ok.program is)))
          (c.in_ok-build-in-Ok.ensures.image ∙ ap (λ (q : List Class). image_of (program_lines q (words_of c.args.names.now))) compiled.program);
    }
