-- `Session::check_anew` types no feature if a phase before type checking rejects the files. Otherwise the results of `renew` give the list of errors and the
-- count of typed features.
use Rattle.std.proofs.Common.{◌≡◌, List, ℕ, ◌<◌, ◌≤◌, Option, length, sym, subst, arith}
use Rattle.std.specs.Global.{Vec}
use Rattle.std.specs.List.{AllByRecursion}
use Rattle.std.proofs.lemmas.Grind.{merely}
use Rattle.cool_syntax.specs.TokenFacts.{IsPlaced}
use Rattle.cool_lexer.specs.declared.lexer.Lexed.{Lexed}
use Rattle.cool_faults.specs.declared.fault.ClassVerdict.{ClassVerdict}
use Rattle.cool_faults.specs.declared.fault.Fault.{Fault}
use Rattle.cool_faults.specs.Files.{bytes_of}
use Rattle.cool_faults.specs.Untyped.{IsClassVerdict}
use Rattle.cool_faults.specs.Verdicts.{place_of}
use Rattle.cool_faults.proofs.VerdictsOfPhases.{as_many_files}
use Rattle.cool_session.specs.declared.base.KeptFault.{KeptFault}
use Rattle.cool_session.specs.Bases.{seen, tokens_of}
use Rattle.cool_session.specs.FeatureTokens.{runs_of}
use Rattle.cool_session.specs.Fresh.{typed, untyped}
use Rattle.cool_session.specs.KeptChecks.{AreKeptAmong, HasFewTokens}
use Rattle.cool_session.specs.KeptFaults.{AreFaultsOf, faults_kept, results}
use Rattle.cool_session.specs.NewFeatures.{kinds_seen}
use Rattle.cool_session.proofs.ChecksOfFiles.{few_lexed, short_lexed, asked_within, listed, fresh_where_new}
use Rattle.cool_session.proofs.PlacedFaults.{listed_there}
use Rattle.cool_session.proofs.ReadFiles.{base_of, kept_of, read_of}
use Rattle.cool_session.proofs.TypedFiles.{are_typed, never_typed}
use Rattle.cool_session.proofs.TyperAsked.{on_error, asked_at_most}
use Rattle.cool_session.proofs.session.Session.check_anew.Goals as goal

-- the verdict is that on the files of the session
verdict_there : (items given : List (Vec ℕ)) (given_is : given ≡ items) (v w : ClassVerdict) → v ≡ w → IsClassVerdict (bytes_of given) v
    → IsClassVerdict (bytes_of items) w
verdict_there items given same v w is h = subst (IsClassVerdict (bytes_of items)) is (subst (λ (fs : List (Vec ℕ)). IsClassVerdict
    (bytes_of fs) v) same h)

-- the faults are those at the tokens of the files
faults_there : (given ls : List Lexed) (had kept : List (Option KeptFault)) (faults : List Fault) → given ≡ ls → had ≡ kept
    → AreFaultsOf (faults_kept (runs_of (tokens_of given)) had) faults → AreFaultsOf (faults_kept (runs_of (tokens_of ls)) kept) faults
faults_there given ls had kept faults is are h =
    subst (λ (k : List (Option KeptFault)). AreFaultsOf (faults_kept (runs_of (tokens_of ls)) k) faults) are
    (subst (λ (l : List Lexed). AreFaultsOf (faults_kept (runs_of (tokens_of l)) had) faults) is h)

pub renew-requires-clause-few : goal.renew-requires-clause-few
renew-requires-clause-few g c =
    let items = c.args.self.now.files.items in
    let h = verdict_there items c.as_slice.result.now c.as_slice.ensures.value c.in_ok-faults.field-0 _ c.in-Untyped.is
    c.in_ok-faults.ensures.verdict in
    let few : length (bytes_of items) ≤ 64 = omega (arith, as_many_files items, c.args.self.now.few) in
    few_lexed (bytes_of items) c.in-Untyped.now.lexed.items h.lexed few

pub renew-requires-clause-short : goal.renew-requires-clause-short
renew-requires-clause-short g c =
    let items = c.args.self.now.files.items in
    let h = verdict_there items c.as_slice.result.now c.as_slice.ensures.value c.in_ok-faults.field-0 _ c.in-Untyped.is
    c.in_ok-faults.ensures.verdict in
    short_lexed (bytes_of items) c.in-Untyped.now.lexed.items h.lexed c.args.self.now.small

pub fault_list-requires-clause-few : goal.fault_list-requires-clause-few
fault_list-requires-clause-few g c =
    let items = c.args.self.now.files.items in
    let h = verdict_there items c.as_slice.result.now c.as_slice.ensures.value c.in_ok-faults.field-0 _ c.in-Untyped.is
    c.in_ok-faults.ensures.verdict in
    let few : length (bytes_of items) ≤ 64 = omega (arith, as_many_files items, c.args.self.now.few) in
    subst (λ (ls : List Lexed). length ls < 4294967296) (sym c.as_slice-in-Untyped.ensures.value)
    (few_lexed (bytes_of items) c.in-Untyped.now.lexed.items h.lexed few)

pub fault_list-requires-clause-short : goal.fault_list-requires-clause-short
fault_list-requires-clause-short g c =
    let items = c.args.self.now.files.items in
    let h = verdict_there items c.as_slice.result.now c.as_slice.ensures.value c.in_ok-faults.field-0 _ c.in-Untyped.is
    c.in_ok-faults.ensures.verdict in
    subst (AllByRecursion HasFewTokens) (sym c.as_slice-in-Untyped.ensures.value)
    (short_lexed (bytes_of items) c.in-Untyped.now.lexed.items h.lexed c.args.self.now.small)

pub fault_list-requires-clause-kept : goal.fault_list-requires-clause-kept
fault_list-requires-clause-kept g c =
    let now = c.in-Untyped.now in
    let kept = c.in_ok-renewed-in-Untyped.renewed.faults.items in
    subst (λ (ls : List Lexed). AreKeptAmong ls c.as_slice-in-Untyped-2.result.now) (sym c.as_slice-in-Untyped.ensures.value)
    (subst (AreKeptAmong now.lexed.items) (sym c.as_slice-in-Untyped-2.ensures.value)
    (merely (results now.classes, c.in_ok-renewed-in-Untyped.ensures.kept)))

pub returns-in_err-renewed-in-Untyped-clause-most : goal.returns-in_err-renewed-in-Untyped-clause-most
returns-in_err-renewed-in-Untyped-clause-most g c =
    let items = c.args.self.now.files.items in
    let h = verdict_there items c.as_slice.result.now c.as_slice.ensures.value c.in_ok-faults.field-0 _ c.in-Untyped.is
    c.in_ok-faults.ensures.verdict in
    on_error c.from_residual-in_err-renewed-in-Untyped.result
    (asked_within (bytes_of items) c.in-Untyped.now (read_of (bytes_of items) c.in-Untyped.now h) c.args.self.now.base c.used.result (g.K.Typer.calls c.args.typer.now)
    (g.K.Typer.calls c.renew.new.typer) c.used.ensures c.in_err-renewed-in-Untyped.ensures.most)

pub returns-in_err-faults-in-Untyped-clause-most : goal.returns-in_err-faults-in-Untyped-clause-most
returns-in_err-faults-in-Untyped-clause-most g c =
    let items = c.args.self.now.files.items in
    let now = c.in-Untyped.now in
    let h = verdict_there items c.as_slice.result.now c.as_slice.ensures.value c.in_ok-faults.field-0 _ c.in-Untyped.is
    c.in_ok-faults.ensures.verdict in
    let before = g.K.Typer.calls c.args.typer.now in
    let after = g.K.Typer.calls c.renew.new.typer in
    on_error c.from_residual-in_err-faults-in-Untyped.result
    (asked_within (bytes_of items) now (read_of (bytes_of items) now h) c.args.self.now.base c.used.result before after c.used.ensures
    (asked_at_most c.used.result (kinds_seen now) before after (length (kinds_seen now)) c.in_ok-renewed-in-Untyped.renewed.asked
    c.in_ok-renewed-in-Untyped.ensures.asked (omega arith) c.in_ok-renewed-in-Untyped.ensures.new))

pub invariant_of-base : goal.invariant_of-base
invariant_of-base g c =
    let items = c.args.self.now.files.items in
    let h = verdict_there items c.as_slice.result.now c.as_slice.ensures.value c.in_ok-faults.field-0 _ c.in-Untyped.is
    c.in_ok-faults.ensures.verdict in
    let few : length (bytes_of items) ≤ 64 = omega (arith, as_many_files items, c.args.self.now.few) in
    record {
      few = few_lexed (bytes_of items) c.in-Untyped.now.lexed.items h.lexed few;
      short = short_lexed (bytes_of items) c.in-Untyped.now.lexed.items h.lexed c.args.self.now.small;
      kept = merely (record {
        files = bytes_of items;
        base = base_of (bytes_of items) c.in-Untyped.now h c.in_ok-renewed-in-Untyped.renewed.faults.items c.in_ok-renewed-in-Untyped.ensures.kept;
      });
    }

pub returns-in-Refused-clause-typed : goal.returns-in-Refused-clause-typed
returns-in-Refused-clause-typed g c =
    let items = c.args.self.now.files.items in
    let h = verdict_there items c.as_slice.result.now c.as_slice.ensures.value c.in_ok-faults.field-0 _ c.in-Refused.is
    c.in_ok-faults.ensures.verdict in
    untyped (never_typed (bytes_of items) c.in-Refused.faults h)

pub returns-in_ok-faults-in-Untyped-clause-faults : goal.returns-in_ok-faults-in-Untyped-clause-faults
returns-in_ok-faults-in-Untyped-clause-faults g c =
    let items = c.args.self.now.files.items in
    let now = c.in-Untyped.now in
    let h = verdict_there items c.as_slice.result.now c.as_slice.ensures.value c.in_ok-faults.field-0 _ c.in-Untyped.is
    c.in_ok-faults.ensures.verdict in
    let faults = c.in_ok-faults-in-Untyped.faults.items in
    let kept = c.in_ok-renewed-in-Untyped.renewed.faults.items in
    listed (bytes_of items) now.lexed.items now.classes (read_of (bytes_of items) now h) kept faults
    (kept_of (bytes_of items) now h kept c.in_ok-renewed-in-Untyped.ensures.kept)
    (faults_there c.as_slice-in-Untyped.result.now now.lexed.items c.as_slice-in-Untyped-2.result.now kept faults
    c.as_slice-in-Untyped.ensures.value c.as_slice-in-Untyped-2.ensures.value c.in_ok-faults-in-Untyped.ensures)

pub returns-in_ok-faults-in-Untyped-clause-typed : goal.returns-in_ok-faults-in-Untyped-clause-typed
returns-in_ok-faults-in-Untyped-clause-typed g c =
    let items = c.args.self.now.files.items in
    let now = c.in-Untyped.now in
    let h = verdict_there items c.as_slice.result.now c.as_slice.ensures.value c.in_ok-faults.field-0 _ c.in-Untyped.is
    c.in_ok-faults.ensures.verdict in
    typed (seen now) c.in_ok-renewed-in-Untyped.renewed.asked (are_typed (bytes_of items) now (read_of (bytes_of items) now h))
    (fresh_where_new (bytes_of items) now (read_of (bytes_of items) now h) c.args.self.now.base c.used.result c.in_ok-renewed-in-Untyped.renewed.asked c.used.ensures
    c.in_ok-renewed-in-Untyped.ensures.new)

pub returns-in-Refused-clause-placed : goal.returns-in-Refused-clause-placed
returns-in-Refused-clause-placed g c =
    let items = c.args.self.now.files.items in
    let h = verdict_there items c.as_slice.result.now c.as_slice.ensures.value c.in_ok-faults.field-0 _ c.in-Refused.is c.in_ok-faults.ensures.verdict in
    let many = as_many_files items in
    let some : 0 < length (bytes_of items) = omega (arith, many, c.requires) in
    subst (AllByRecursion (λ (f : Fault). IsPlaced (length items) (place_of f))) (sym c.into_vec.ensures)
    (subst (λ (n : ℕ). AllByRecursion (λ (f : Fault). IsPlaced n (place_of f)) c.in-Refused.faults) many (h.refused.places some))

pub returns-in_ok-faults-in-Untyped-clause-placed : goal.returns-in_ok-faults-in-Untyped-clause-placed
returns-in_ok-faults-in-Untyped-clause-placed g c =
    let items = c.args.self.now.files.items in
    let now = c.in-Untyped.now in
    let h = verdict_there items c.as_slice.result.now c.as_slice.ensures.value c.in_ok-faults.field-0 _ c.in-Untyped.is c.in_ok-faults.ensures.verdict in
    let faults = c.in_ok-faults-in-Untyped.faults.items in
    let many = as_many_files items in
    let some : 0 < length (bytes_of items) = omega (arith, many, c.requires) in
    subst (λ (n : ℕ). AllByRecursion (λ (f : Fault). IsPlaced n (place_of f)) faults) many
    (listed_there (bytes_of items) now.lexed.items now.classes (read_of (bytes_of items) now h) some c.in_ok-renewed-in-Untyped.renewed.faults.items faults
    (faults_there c.as_slice-in-Untyped.result.now now.lexed.items c.as_slice-in-Untyped-2.result.now
    c.in_ok-renewed-in-Untyped.renewed.faults.items faults c.as_slice-in-Untyped.ensures.value c.as_slice-in-Untyped-2.ensures.value
    c.in_ok-faults-in-Untyped.ensures))

pub invariant_of-self-clause-current : goal.invariant_of-self-clause-current
invariant_of-self-clause-current g c =
    let items = c.args.self.now.files.items in
    let h = verdict_there items c.as_slice.result.now c.as_slice.ensures.value c.in_ok-faults.field-0 _ c.in-Untyped.is
    c.in_ok-faults.ensures.verdict in
    merely (base_of (bytes_of items) c.in-Untyped.now h c.in_ok-renewed-in-Untyped.renewed.faults.items c.in_ok-renewed-in-Untyped.ensures.kept)
