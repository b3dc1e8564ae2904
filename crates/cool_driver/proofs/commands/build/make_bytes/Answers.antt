use Rattle.cool_driver.specs.{Sources.{IsNoProgram}, Refusals.{AreFaultLines, IsTold}}
use Rattle.cool_driver.proofs.{ProgramsMeant.{program_compiled, program_fits}, RefusalsTold.{memory_so}, rooms.Builds.{built_if}}
use Rattle.cool_driver.proofs.commands.build.make_bytes.Goals as goal

-- the program fits so many files as there are names
pub write_program-requires-clause-fits : goal.write_program-requires-clause-fits
write_program-requires-clause-fits g c = program_fits c.args.names.now _ c.in-Ok.program c.in-Ok.ensures.program

-- the bytes are those of it
pub returns-in-Ok-clause-built : goal.returns-in-Ok-clause-built
returns-in-Ok-clause-built g c =
    let is = c.in-Ok.ensures.program in
    built_if c.args.form c.write_program.result is (program_compiled c.args.names.now _ c.in-Ok.program c.requires.names is) c.write_program.ensures.bytes

-- memory ran out
pub returns-in-Ok-clause-refused : goal.returns-in-Ok-clause-refused
returns-in-Ok-clause-refused g c = memory_so (IsTold (IsNoProgram _ _)) c.write_program.result tt c.write_program.ensures.memory

pub returns-in-Ok-clause-lined : goal.returns-in-Ok-clause-lined
returns-in-Ok-clause-lined g c = memory_so (AreFaultLines _ _) c.write_program.result tt c.write_program.ensures.memory
