-- `add_all_own` adds the methods that a class itself defines to its dispatch table: `add_basic` adds those of a basic class, and `add_features` those of any
-- other class.
use Rattle.std.proofs.Common.{◌≡◌, Bool, true, false, sym, arith, OnOk, subst}
use Rattle.std.specs.Prelude.{nat_lt, if◌then◌else◌}
use Rattle.cool_classes.specs.Chains.{features_of}
use Rattle.cool_classes.specs.Features.{basic_methods}
use Rattle.cool_layout.specs.SlotTables.{Has, basic_own, user_own}
use Rattle.cool_layout.proofs.slots.add_all_own.Goals as goal

pub returns-then-class-lt-BASIC_CLASSES-clause-table : goal.returns-then-class-lt-BASIC_CLASSES-clause-table
returns-then-class-lt-BASIC_CLASSES-clause-table c =
    let d = c.args.class in
    let low = c.if-class-lt-BASIC_CLASSES.true in
    let test : nat_lt d.0 5 ≡ true = grind arith in
    subst (λ (b : Bool). OnOk c.add_basic.result (Has c.args.t.now (if b then basic_own (basic_methods d.0) else user_own d 0 (features_of c.args.t.now d)) c.add_basic.new.table)) (sym test) c.add_basic.ensures.table

pub returns-else-class-lt-BASIC_CLASSES-clause-table : goal.returns-else-class-lt-BASIC_CLASSES-clause-table
returns-else-class-lt-BASIC_CLASSES-clause-table c =
    let d = c.args.class in
    let high = c.if-class-lt-BASIC_CLASSES.false in
    let test : nat_lt d.0 5 ≡ false = grind arith in
    subst (λ (b : Bool). OnOk c.add_features.result (Has c.args.t.now (if b then basic_own (basic_methods d.0) else user_own d 0 (features_of c.args.t.now d)) c.add_features.new.table)) (sym test) c.add_features.ensures.table
