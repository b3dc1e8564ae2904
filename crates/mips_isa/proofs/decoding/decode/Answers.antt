use Rattle.std.proofs.Common.{◌≡◌, arith, rules}
use Rattle.std.proofs.lemmas.Grind.{common_steps}
use Rattle.mips_isa.specs.Decoding.{decoded}
use Rattle.mips_isa.proofs.DecodingWords.{found_by_word, none_by_word, only_by_word}
use Rattle.mips_isa.proofs.decoding.decode.Goals as goal

pub returns-clause-found : goal.returns-clause-found
unfolding decoded
returns-clause-found c =
    let value : c.by_fields.result ≡ decoded c.args.word = first_of (search rules, grind (arith, common_steps)) in
    found_by_word c.args.word _ c.ranges.word.fits value

pub returns-clause-none : goal.returns-clause-none
unfolding decoded
returns-clause-none c =
    let value : c.by_fields.result ≡ decoded c.args.word = first_of (search rules, grind (arith, common_steps)) in
    none_by_word c.args.word _ value

pub returns-clause-only : goal.returns-clause-only
unfolding decoded
returns-clause-only c =
    let value : c.by_fields.result ≡ decoded c.args.word = first_of (search rules, grind (arith, common_steps)) in
    only_by_word c.args.word _ value
