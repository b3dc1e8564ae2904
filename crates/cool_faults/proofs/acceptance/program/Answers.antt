-- `program` returns the failure (errors, or out of memory) of the phases before type checking if there is one, and otherwise the result of `typed_program`,
-- which type-checks the class table.
use Rattle.std.proofs.Common.{◌≤◌, length, arith}
use Rattle.std.proofs.lemmas.Result.{err_from_is_err_and}
use Rattle.cool_syntax.specs.declared.TheConstants.{MOST_FILES}
use Rattle.cool_faults.specs.Files.{bytes_of}
use Rattle.cool_faults.proofs.EarlyRefusals.{refused_with}
use Rattle.cool_faults.proofs.VerdictsOfPhases.{as_many_files, files_whole, typing_decides}
use Rattle.cool_faults.proofs.acceptance.program.Goals as goal

pub returns-in_err-untyped : goal.returns-in_err-untyped
returns-in_err-untyped c =
    let p = err_from_is_err_and c.from_residual.result c.from_residual.ensures.1 in
    rw (p.1, p.2) (refused_with (bytes_of c.args.files.now) c.in_err-untyped.field-0.0 c.in_err-untyped.ensures)

pub returns : goal.returns
returns c =
    let files = bytes_of c.args.files.now in
    let u = c.in_ok-untyped.ensures in
    let whole = files_whole files c.in_ok-untyped.untyped.lexed.items u.trees u.lexed u.parsed in
    let few : length files ≤ MOST_FILES = omega (arith, as_many_files c.args.files.now, c.requires.few) in
    let t = c.typed_program.ensures in
    typing_decides files u.trees c.in_ok-untyped.untyped.classes c.typed_program.result c.requires.small few whole u.of u.meant (u.classes, u.features) u.table u.limits t.program t.typed t.accepted t.exact t.refusal t.places
