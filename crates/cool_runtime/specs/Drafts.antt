-- `drafted` converts a `Draft`, which is an assembly line that borrows its label, to the line that contracts see.
use Rattle.std.specs.Prelude.{pos, [], ◌∷◌}
use Rattle.mips_isa.specs.Lines.{Line, Empty, Plain, ToJump, La, Li, Move}
use Rattle.mips_isa.specs.Assembly.{instruction_line}
use Rattle.cool_runtime.specs.declared.draft.Draft.{Draft}
use Rattle.cool_runtime.specs.declared.draft.Draft.TheVariants as drafts

abbrev pub drafted : Draft → Line
drafted (drafts.Label name) = record { labels = name.now ∷ []; statement = Empty }
drafted (drafts.Plain i) = instruction_line (Plain i)
drafted (drafts.Jump op name) = instruction_line (ToJump op name.now)
drafted (drafts.La rd name) = instruction_line (La rd name.now)
drafted (drafts.Li rd n) = instruction_line (Li rd (pos n))
drafted (drafts.Move rd rs) = instruction_line (Move rd rs)
