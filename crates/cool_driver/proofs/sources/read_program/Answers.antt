use Rattle.std.proofs.{Common.{arith, string_bytes, sym}, lemmas.List.{length-map}}
use Rattle.cool_words.specs.Plans.{words_of}
use Rattle.cool_driver.specs.{Contents.{texts}, Sources.{IsDueUnread, IsNoProgram}}
use Rattle.cool_driver.proofs.{HeldFiles.{held_length}, Results.{on_ok}, RefusalsTold.{told_so, other_lined}, SourcesOfCalls.{faulty_of, program_of, sources_read}}
use Rattle.cool_driver.proofs.sources.read_program.Goals as goal

-- the files are sources
pub accept_sources-requires : goal.accept_sources-requires
accept_sources-requires g c =
    let read = c.in-Ok.ensures.read in
    let files = c.in-Ok.contents.items in
    let each = held_length (g.F.Shelf.files c.args.files.now) (words_of c.args.names.now) (texts files) read.held in
    record {
      sources = sources_read c.args.names.now c.deref.result.now files c.deref.ensures.value c.requires.names c.requires.some
          (let few = read.few in omega (arith, length-map c.args.names.now string_bytes, few)) each c.in-Ok.ensures.bytes read.within;
    }

-- they are a program
pub returns-in-Ok-clause-program : goal.returns-in-Ok-clause-program
returns-in-Ok-clause-program g c =
    program_of c.accept_sources.result c.deref.ensures.value c.in-Ok.ensures.read c.in-Ok.ensures.bytes c.accept_sources.ensures.program

pub returns-in-Ok-clause-grew : goal.returns-in-Ok-clause-grew
returns-in-Ok-clause-grew g c =
    let files = c.in-Ok.contents.items in
    on_ok c.accept_sources.result
    (texts files, sym (held_length (g.F.Shelf.files c.args.files.now) (words_of c.args.names.now) (texts files) c.in-Ok.ensures.read.held), c.in-Ok.ensures.gave)

-- they have faults
pub returns-in-Ok-clause-refused : goal.returns-in-Ok-clause-refused
returns-in-Ok-clause-refused g c = faulty_of c.accept_sources.result c.deref.ensures.value c.in-Ok.ensures.read c.accept_sources.ensures.refused

-- they were not read
pub returns-in-Err-clause-refused : goal.returns-in-Err-clause-refused
returns-in-Err-clause-refused g c =
    told_so (IsDueUnread _ _ _) (IsNoProgram _ _) c.in-Err.refusal (λ status note why. rw why.0 (IsNoProgram.not_read note why.1)) c.in-Err.ensures.refused

-- the lines that are told
pub returns-in-Ok-clause-lined : goal.returns-in-Ok-clause-lined
returns-in-Ok-clause-lined g c = c.accept_sources.ensures.lined _ (rw (← c.deref.ensures.value) at c.in-Ok.ensures.read)

pub returns-in-Err-clause-lined : goal.returns-in-Err-clause-lined
returns-in-Err-clause-lined g c = other_lined (IsDueUnread _ _ _) _ _ c.in-Err.refusal (λ status note why e. omega (arith, why.0, e)) c.in-Err.ensures.refused
