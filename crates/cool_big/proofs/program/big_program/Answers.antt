-- `big_program` returns a Cool program of 154 + 151 n bytes for the number n, because its definition `big_text` has this length.
use Rattle.std.proofs.Common.{rules, ◌≡◌, ap, ◌∙◌, length}
use Rattle.cool_big.specs.BigPrograms.{big_text}
use Rattle.cool_big.proofs.TextIsLong.{big_length}
use Rattle.cool_big.proofs.program.big_program.Goals as goal

pub returns-clause-size : goal.returns-clause-size
returns-clause-size c =
    let text : c.push_main.new.text.items ≡ big_text c.args.n = search rules in
    ap length text ∙ big_length c.args.n
