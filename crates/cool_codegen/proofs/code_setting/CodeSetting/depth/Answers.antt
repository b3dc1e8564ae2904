-- `CodeSetting::depth` returns the number of ancestors of a class: the list `chain` has these and the class itself, so the depth is its length less 1.
use Rattle.std.proofs.Common.{◌≡◌, ◌+◌, length, arith}
use Rattle.cool_classes.specs.ClimbedChains.{chain}
use Rattle.cool_classes.proofs.ChainsOfTables.{chain_is}
use Rattle.cool_codegen.proofs.code_setting.CodeSetting.depth.Goals as goal

pub returns : goal.returns
unfolding chain
returns c =
    let p = c.args.self.now.table.now in
    let all : length (chain p c.args.class) ≡ c.depth.result + 1 = c.depth.ensures (chain p c.args.class) (chain_is p c.args.class c.requires.sound.whole.table c.requires.class) in
    omega arith
