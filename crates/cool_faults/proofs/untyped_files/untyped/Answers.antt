-- `untyped` returns the failure of the first phase before type checking that fails, because the result of each phase that succeeds satisfies the
-- precondition of the next phase.
use Rattle.std.proofs.Common.{◌≤◌, List, length, ap, sym, subst, arith}
use Rattle.std.specs.List.{AllByRecursion}
use Rattle.std.proofs.lemmas.Result.{err_from_is_err_and}
use Rattle.cool_syntax.specs.declared.TheConstants.{MOST_FILES, MOST_SOURCE_BYTES}
use Rattle.cool_lexer.specs.declared.lexer.Lexed.{Lexed}
use Rattle.cool_faults.specs.Files.{bytes_of}
use Rattle.cool_faults.specs.Phases.{AreFound, AreFaultsFound, IsParsed, IsSyntactic}
use Rattle.cool_faults.proofs.VerdictsOfPhases.{as_many_files, lexer_refuses, lexed_few, lexed_as_many, parser_refuses, files_of_slice, trees_few, classes_refuse, table_of_trees_fits}
use Rattle.cool_faults.proofs.EarlyRefusals.{lexer_early, parser_early, classes_early}
use Rattle.cool_faults.proofs.untyped_files.untyped.Goals as goal

pub returns-in_err-lexed : goal.returns-in_err-lexed
returns-in_err-lexed c =
    let p = err_from_is_err_and c.from_residual.result c.from_residual.ensures.1 in
    rw (p.1, p.2) (lexer_early (bytes_of c.args.files.now) c.in_err-lexed.field-0.0 c.in_err-lexed.ensures (lexer_refuses (bytes_of c.args.files.now) c.in_err-lexed.field-0.0 c.requires.small c.in_err-lexed.ensures))

pub parse_files-requires-clause-few : goal.parse_files-requires-clause-few
parse_files-requires-clause-few c =
    omega (arith, ap length c.as_slice.ensures.value, lexed_as_many (bytes_of c.args.files.now) c.in_ok-lexed.lexed.items c.in_ok-lexed.ensures, as_many_files c.args.files.now, c.requires.few)

pub parse_files-requires-clause-small : goal.parse_files-requires-clause-small
parse_files-requires-clause-small c =
    subst (λ (ls : List Lexed). AllByRecursion (λ l. length l.tokens.items ≤ MOST_SOURCE_BYTES) ls) (sym c.as_slice.ensures.value)
    (lexed_few (bytes_of c.args.files.now) c.in_ok-lexed.lexed.items c.requires.small c.in_ok-lexed.ensures)

pub returns-in_err-trees : goal.returns-in_err-trees
returns-in_err-trees c =
    let p = err_from_is_err_and c.from_residual-in_err-trees.result c.from_residual-in_err-trees.ensures.1 in
    let found = subst (λ (ls : List Lexed). AreFaultsFound IsParsed IsSyntactic ls c.in_err-trees.field-0.0) c.as_slice.ensures.value c.in_err-trees.ensures in
    rw (p.1, p.2)
    (parser_early (bytes_of c.args.files.now) c.in_ok-lexed.lexed.items c.in_err-trees.field-0.0 found
    (parser_refuses (bytes_of c.args.files.now) c.in_ok-lexed.lexed.items c.in_err-trees.field-0.0 c.requires.small c.in_ok-lexed.ensures found))

pub class_table-requires : goal.class_table-requires
class_table-requires c =
    let files = bytes_of c.args.files.now in
    let whole = files_of_slice files c.in_ok-lexed.lexed.items c.as_slice.result.now c.in_ok-trees.trees.items c.in_ok-lexed.ensures c.as_slice.ensures.value c.in_ok-trees.ensures in
    record { few = trees_few files c.in_ok-trees.trees.items c.requires.small whole }

pub returns-in_err-classes : goal.returns-in_err-classes
returns-in_err-classes c =
    let files = bytes_of c.args.files.now in
    let whole = files_of_slice files c.in_ok-lexed.lexed.items c.as_slice.result.now c.in_ok-trees.trees.items c.in_ok-lexed.ensures c.as_slice.ensures.value c.in_ok-trees.ensures in
    let p = err_from_is_err_and c.from_residual-in_err-classes.result c.from_residual-in_err-classes.ensures.1 in
    rw (p.1, p.2) (classes_early files c.in_err-classes.field-0.0 c.in_err-classes.ensures.refusal
    (classes_refuse files c.in_ok-trees.trees.items c.in_err-classes.field-0.0 whole c.in_err-classes.ensures.exact c.in_err-classes.ensures.refusal c.in_err-classes.ensures.places))

pub returns : goal.returns
returns c =
    let files = bytes_of c.args.files.now in
    let whole = files_of_slice files c.in_ok-lexed.lexed.items c.as_slice.result.now c.in_ok-trees.trees.items c.in_ok-lexed.ensures c.as_slice.ensures.value c.in_ok-trees.ensures in
    let many : length files ≤ MOST_FILES = omega (arith, as_many_files c.args.files.now, c.requires.few) in
    let few : MOST_FILES ≤ MOST_FILES = omega arith in
    let e = c.in_ok-classes.ensures in
    record {
      lexed = c.in_ok-lexed.ensures;
      trees = c.in_ok-trees.trees.items;
      parsed = subst (λ (ls : List Lexed). AreFound IsParsed IsSyntactic 0 ls c.in_ok-trees.trees.items _) c.as_slice.ensures.value c.in_ok-trees.ensures;
      classes = e.faultless.0;
      features = e.faultless.1;
      table = e.whole;
      of = e.of;
      limits = e.limits;
      meant = e.classes;
      fits = table_of_trees_fits files c.in_ok-trees.trees.items c.in_ok-classes.classes MOST_FILES c.requires.small many few whole e.of e.whole e.limits;
    }
