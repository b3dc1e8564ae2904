-- `check_moved` stores the new tokens with the results of the stored check. The tokens differ from those before only in source locations, so the stored results
-- are those of the new files.
use Rattle.std.proofs.Common.{List, refl, sym, subst}
use Rattle.cool_lexer.specs.declared.lexer.Lexed.{Lexed}
use Rattle.cool_faults.specs.declared.fault.Untyped.{Untyped}
use Rattle.cool_session.specs.KeptChecks.{AreKeptAmong}
use Rattle.cool_session.proofs.EditedBases.{none_fresh}
use Rattle.cool_session.proofs.FeatureTypedAnew.{among_moved, now_moved, some_base}
use Rattle.cool_session.proofs.edited.check_moved.Goals as goal

pub fault_list-requires-clause-kept : goal.fault_list-requires-clause-kept
fault_list-requires-clause-kept c =
    let base = c.args.base.now in
    let kept = among_moved base.untyped base.faults.items base.kept c.args.lexed.items c.requires.lexed c.requires.same in
    subst (λ (ls : List Lexed). AreKeptAmong ls c.as_slice-2.result.now) (sym c.as_slice.ensures.value)
    (subst (AreKeptAmong c.args.lexed.items) (sym c.as_slice-2.ensures.value) kept)

pub invariant_of-base : goal.invariant_of-base
invariant_of-base c =
    let base = c.args.base.now in
    let l = c.requires.lexed in
    let now : Untyped = record { lexed = c.args.lexed; classes = base.untyped.classes } in
    record {
      few = l.few;
      short = l.short;
      kept = some_base l.files now base.faults.items
          (now_moved base.untyped base.faults.items base.kept now l.files refl l.lexed c.requires.same);
    }

pub returns-clause-base : goal.returns-clause-base
returns-clause-base c = λ files lexed.
    let base = c.args.base.now in
    let now : Untyped = record { lexed = c.args.lexed; classes = base.untyped.classes } in
    now_moved base.untyped base.faults.items base.kept now files refl lexed c.requires.same

pub returns-clause-fresh : goal.returns-clause-fresh
returns-clause-fresh c =
    let base = c.args.base.now in
    let now : Untyped = record { lexed = c.args.lexed; classes = base.untyped.classes } in none_fresh base.untyped now refl c.requires.same
