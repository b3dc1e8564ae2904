use Rattle.std.proofs.Common.{◌≡◌, drop}
use Rattle.std.specs.Prelude.{bytes_eq}
use Rattle.std.specs.List.{find}
use Rattle.mips_text.specs.Names.{directive_text}
use Rattle.mips_text.proofs.directives.named_in.Given as goal

abbrev pub invariant-loop-directive : goal.invariant-loop-directive
invariant-loop-directive l =
    find (λ d. bytes_eq (directive_text d) l.name) (drop l.directive-index l.all) ≡ find (λ d. bytes_eq (directive_text d) l.name) l.all
