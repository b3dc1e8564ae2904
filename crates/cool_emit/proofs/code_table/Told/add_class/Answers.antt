-- `Told::add_class` appends the debug information of a class: first the rows of its initializer, then those of its methods. Their addresses stay below 2 ^ 32,
-- because the code of the class ends below it.
use Rattle.std.proofs.Common.{◌≡◌, ◌+◌, ◌^◌, ◌<◌, ◌++◌, flat_map, arith}
use Rattle.std.proofs.lemmas.Result.{on_ok_weaker}
use Rattle.cool_runtime.specs.Standing.{sizes}
use Rattle.cool_emit.specs.Additions.{files_of}
use Rattle.cool_emit.specs.Programs.{initializer_code, methods_in, placed_code}
use Rattle.cool_emit.specs.Tellings.{constants}
use Rattle.cool_emit.proofs.ClassesTold.{class_told}
use Rattle.cool_emit.proofs.TellingParts.{sizes_append}
use Rattle.cool_emit.proofs.code_table.Told.add_class.Goals as goal

pub add_initializer-requires-clause-room : goal.add_initializer-requires-clause-room
add_initializer-requires-clause-room c =
    let e = c.args.emission.now in
    let first = initializer_code e.program.now (files_of e) (constants e) c.args.c in
    let rest = flat_map (placed_code e.program.now (files_of e) (constants e) c.args.c) (methods_in e.program.now c.args.c) in
    let room : c.args.self.now.address + sizes (first ++ rest) < 2 ^ 32 = c.requires.room in
    let both = sizes_append first rest in
    omega arith

pub add_features-requires-clause-room : goal.add_features-requires-clause-room
add_features-requires-clause-room c =
    let e = c.args.emission.now in
    let first = initializer_code e.program.now (files_of e) (constants e) c.args.c in
    let rest = flat_map (placed_code e.program.now (files_of e) (constants e) c.args.c) (methods_in e.program.now c.args.c) in
    let room : c.args.self.now.address + sizes (first ++ rest) < 2 ^ 32 = c.requires.room in
    let both = sizes_append first rest in
    let address : c.add_initializer.new.self.address ≡ c.args.self.now.address + sizes first = c.in_ok-add_initializer.ensures.address in
    omega arith

pub returns : goal.returns
returns c =
    on_ok_weaker c.add_features.result (λ k. class_told c.args.emission.now c.args.c c.args.self.now c.add_initializer.new.self c.add_features.new.self c.in_ok-add_initializer.ensures k) c.add_features.ensures
