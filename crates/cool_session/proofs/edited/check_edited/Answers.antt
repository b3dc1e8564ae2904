-- The files that `check_edited` passes on, and the tokens of each, can be counted by numbers of 32 bits, because the files are within the limits of a session.
use Rattle.std.proofs.Common.{◌<◌, ◌≤◌, ℕ, List, [], length, sym, subst, arith}
use Rattle.std.specs.Global.{Vec}
use Rattle.std.specs.List.{AllByRecursion}
use Rattle.cool_syntax.specs.declared.TheConstants.{MOST_FILES, MOST_SOURCE_BYTES}
use Rattle.cool_lexer.specs.declared.lexer.Lexed.{Lexed}
use Rattle.cool_faults.specs.Files.{bytes_of, total}
use Rattle.cool_faults.specs.Phases.{AreFound, IsLexed, IsLexical}
use Rattle.cool_session.specs.KeptChecks.{HasFewTokens, IsLexing}
use Rattle.cool_faults.proofs.VerdictsOfPhases.{as_many_files}
use Rattle.cool_session.proofs.ChecksOfFiles.{few_lexed, short_lexed}
use Rattle.cool_session.proofs.edited.check_edited.Goals as goal

lexing : (items : List (Vec ℕ)) (ls : List Lexed) → AreFound IsLexed IsLexical 0 (bytes_of items) ls [] → length items ≤ MOST_FILES
    → total (bytes_of items) ≤ MOST_SOURCE_BYTES → IsLexing ls
lexing items ls lexed few small =
    let many : length (bytes_of items) ≤ MOST_FILES = omega (arith, as_many_files items, few) in
    record {
      files = bytes_of items;
      lexed = lexed;
      few = few_lexed (bytes_of items) ls lexed many;
      short = short_lexed (bytes_of items) ls lexed small;
    }

pub find_difference-requires-clause-few : goal.find_difference-requires-clause-few
find_difference-requires-clause-few g c =
    let l = lexing c.args.files.now c.in-Ok.lexed.items c.in-Ok.ensures c.requires.few c.requires.small in
    subst (λ (ls : List Lexed). length ls < 4294967296) (sym c.as_slice-2.ensures.value) l.few

pub find_difference-requires-clause-short : goal.find_difference-requires-clause-short
find_difference-requires-clause-short g c =
    let l = lexing c.args.files.now c.in-Ok.lexed.items c.in-Ok.ensures c.requires.few c.requires.small in
    subst (AllByRecursion HasFewTokens) (sym c.as_slice-2.ensures.value) l.short

pub check_moved-requires-clause-lexed : goal.check_moved-requires-clause-lexed
check_moved-requires-clause-lexed g c = lexing c.args.files.now c.in-Ok.lexed.items c.in-Ok.ensures c.requires.few c.requires.small

pub check_one_feature-requires-clause-lexed : goal.check_one_feature-requires-clause-lexed
check_one_feature-requires-clause-lexed g c = lexing c.args.files.now c.in-Ok.lexed.items c.in-Ok.ensures c.requires.few c.requires.small
