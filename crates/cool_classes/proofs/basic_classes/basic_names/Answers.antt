-- `basic_names` returns a map from the name of each basic class to its number: each step of its loop adds the next name.
use Rattle.std.proofs.Common.{◌<◌, ◌+◌, map, take, Some, arith}
use Rattle.cool_classes.specs.Settled.{basic_names}
use Rattle.cool_classes.proofs.BasicNames.{basic_more, basic_next}
use Rattle.cool_classes.proofs.NamesOfDefinitions.{finds_more}
use Rattle.cool_classes.proofs.basic_classes.basic_names.Goals as goal

pub loop-class-preserved : goal.loop-class-preserved
loop-class-preserved c =
    let k = c.loop-class.class in
    let name = c.class_name.result.now in
    let within : k < 5 = let t = c.loop-class-test.true in omega arith in
    finds_more c.add_name.new.names.entries (take k basic_names) (take (k + 1) basic_names) name (basic_more k name within c.class_name.ensures)
    (c.in_ok-add_name.ensures (map Some (take k basic_names)) (basic_next k within) c.loop-class.invariant)
