use Rattle.std.proofs.Common.{◌∙◌, arith}
use Rattle.mips_text.specs.Names.{all_mnemonics, mnemonic_named}
use Rattle.mips_text.proofs.FirstLetters.{found_by_letter, none_empty, none_with}
use Rattle.mips_text.proofs.mnemonics.Mnemonic.named.Goals as goal

pub returns-in-97 : goal.returns-in-97
unfolding mnemonic_named
returns-in-97 c = c.named_in.ensures ∙ found_by_letter 97 c.args.name.now all_mnemonics (omega arith) (omega arith)

pub returns-in-98 : goal.returns-in-98
unfolding mnemonic_named
returns-in-98 c = c.named_in-in-98.ensures ∙ found_by_letter 98 c.args.name.now all_mnemonics (omega arith) (omega arith)

pub returns-in-100 : goal.returns-in-100
unfolding mnemonic_named
returns-in-100 c = c.named_in-in-100.ensures ∙ found_by_letter 100 c.args.name.now all_mnemonics (omega arith) (omega arith)

pub returns-in-106 : goal.returns-in-106
unfolding mnemonic_named
returns-in-106 c = c.named_in-in-106.ensures ∙ found_by_letter 106 c.args.name.now all_mnemonics (omega arith) (omega arith)

pub returns-in-108 : goal.returns-in-108
unfolding mnemonic_named
returns-in-108 c = c.named_in-in-108.ensures ∙ found_by_letter 108 c.args.name.now all_mnemonics (omega arith) (omega arith)

pub returns-in-109 : goal.returns-in-109
unfolding mnemonic_named
returns-in-109 c = c.named_in-in-109.ensures ∙ found_by_letter 109 c.args.name.now all_mnemonics (omega arith) (omega arith)

pub returns-in-110 : goal.returns-in-110
unfolding mnemonic_named
returns-in-110 c = c.named_in-in-110.ensures ∙ found_by_letter 110 c.args.name.now all_mnemonics (omega arith) (omega arith)

pub returns-in-111 : goal.returns-in-111
unfolding mnemonic_named
returns-in-111 c = c.named_in-in-111.ensures ∙ found_by_letter 111 c.args.name.now all_mnemonics (omega arith) (omega arith)

pub returns-in-115 : goal.returns-in-115
unfolding mnemonic_named
returns-in-115 c = c.named_in-in-115.ensures ∙ found_by_letter 115 c.args.name.now all_mnemonics (omega arith) (omega arith)

pub returns-in-120 : goal.returns-in-120
unfolding mnemonic_named
returns-in-120 c = c.named_in-in-120.ensures ∙ found_by_letter 120 c.args.name.now all_mnemonics (omega arith) (omega arith)

pub returns-in_default : goal.returns-in_default
returns-in_default c = none_empty c.args.name.now c.in_default.len_below

pub returns-in_default-2 : goal.returns-in_default-2
returns-in_default-2 c =
    none_with c.args.name.now (λ e. omega arith) (λ e. omega arith) (λ e. omega arith) (λ e. omega arith) (λ e. omega arith)
    (λ e. omega arith) (λ e. omega arith) (λ e. omega arith) (λ e. omega arith) (λ e. omega arith)
