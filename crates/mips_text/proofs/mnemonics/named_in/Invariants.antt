use Rattle.std.proofs.Common.{◌≡◌, drop}
use Rattle.std.specs.Prelude.{bytes_eq}
use Rattle.std.specs.List.{find}
use Rattle.mips_text.specs.Names.{mnemonic_text}
use Rattle.mips_text.proofs.mnemonics.named_in.Given as goal

abbrev pub invariant-loop-mnemonic : goal.invariant-loop-mnemonic
invariant-loop-mnemonic l =
    find (λ m. bytes_eq (mnemonic_text m) l.name) (drop l.mnemonic-index l.all) ≡ find (λ m. bytes_eq (mnemonic_text m) l.name) l.all
