-- If clap (the library that parses arguments) accepts a command's arguments, the parsed command line is the one that clap's result says. If it rejects them for
-- another reason than memory, there is none.
use Rattle.std.proofs.Common.{◌≡◌, ◌∙◌, sym, ap, refl, inl, inr, arith, true, false, List, [], ◌∷◌, None}
use Rattle.std.specs.Prelude.{if◌then◌else◌}
use Rattle.clap.specs.Walk.{is_empty}
use Rattle.clap.specs.Words.{App, HasKind, HasMatchesOf, IsAmong, Kinds, Text, fault_of, found_of, is_simple, is_simple_and_free, kind_of, matches_of, rows_of}
use Rattle.clap.specs.declared.error.Error.{Error}
use Rattle.clap.specs.declared.error.kind.ErrorKind.{ErrorKind}
use Rattle.clap.specs.declared.error.kind.ErrorKind.TheVariants as kind
use Rattle.clap.specs.declared.parser.matches.ArgMatches.{ArgMatches}
use Rattle.cool_words.specs.Commands.{app_for}
use Rattle.cool_words.specs.Plans.{asked_of, is_accepted, plan_by}
use Rattle.cool_words.specs.declared.command_word.CommandWord.{CommandWord}
use Rattle.cool_words.specs.declared.command_word.CommandWord.TheVariants.{Check, Asm, Build, Run, Eval, Exec, Debug, Big, Session}

-- clap's clauses speak of each command
simple_and_free : (command : CommandWord) → is_simple_and_free (app_for command) ≡ true
simple_and_free Check = refl
simple_and_free Asm = refl
simple_and_free Build = refl
simple_and_free Run = refl
simple_and_free Eval = refl
simple_and_free Exec = refl
simple_and_free Debug = refl
simple_and_free Big = refl
simple_and_free Session = refl

simple : (command : CommandWord) → is_simple (app_for command) ≡ true
simple Check = refl
simple Asm = refl
simple Build = refl
simple Run = refl
simple Eval = refl
simple Exec = refl
simple Debug = refl
simple Big = refl
simple Session = refl

-- words that clap takes ask for what its matches ask for
pub plan_of_matches : (app : App) (command : CommandWord) (words : List Text) (m : ArgMatches) → app ≡ app_for command → HasMatchesOf app words m
    → (is_simple_and_free app ≡ true → fault_of app words ≡ []) → plan_by words command ≡ asked_of command (rows_of (found_of m))
plan_of_matches app command words m e has kinds =
    let accepted : is_accepted command words ≡ true = ap (λ a. is_empty (fault_of a words)) (sym e) ∙ ap is_empty (kinds (ap is_simple_and_free e ∙ simple_and_free command)) in
    let rows : matches_of (app_for command) words ≡ rows_of (found_of m) = ap (λ a. matches_of a words) (sym e) ∙ sym (has (ap is_simple e ∙ simple command)).0 in
    ap (λ b. if b then asked_of command (matches_of (app_for command) words) else None) accepted ∙ ap (asked_of command) rows

-- a list with something among it is not empty
not_empty : (k : ErrorKind) (kinds : Kinds) → IsAmong k kinds → is_empty kinds ≡ false
not_empty k [] among = absurd among
not_empty k (x ∷ xs) among = grind arith

-- words that clap refuses, and not for memory, ask for nothing
pub no_plan : (app : App) (command : CommandWord) (words : List Text) (error : Error) → app ≡ app_for command
    → (is_simple_and_free app ≡ true → HasKind (fault_of app words) error) → (kind_of error ≡ kind.OutOfMemory → ⊥) → plan_by words command ≡ None
no_plan app command words error e kinds other = go (kinds (ap is_simple_and_free e ∙ simple_and_free command))
  where
    go : HasKind (fault_of app words) error → plan_by words command ≡ None
    go (inl memory) = absurd (other memory)
    go (inr among) =
        ap (λ b. if b then asked_of command (matches_of (app_for command) words) else None)
        (ap (λ a. is_empty (fault_of a words)) (sym e) ∙ not_empty (kind_of error) (fault_of app words) among)
