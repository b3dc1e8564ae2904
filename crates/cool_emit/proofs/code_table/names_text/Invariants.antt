-- In the loop of `names_text`, the rows written so far, joined with those of the names that are left, are the rows of all `count` names.
use Rattle.std.proofs.Common.{◌≡◌, ◌-◌, ◌≤◌, ◌++◌, flat_map, length, take}
use Rattle.std.specs.Prelude.{codes}
use Rattle.cool_emit.specs.TableLines.{named_text}
use Rattle.cool_emit.proofs.code_table.names_text.Given as goal

abbrev pub invariant-loop-number : goal.invariant-loop-number
invariant-loop-number l = record {
  few : l.count - l.number ≤ length l.names;
  text : l.text.items ++ flat_map (λ v. l.words ++ (named_text l.emission.program.now v ++ codes "\n")) (take (l.count - l.number) l.names)
      ≡ flat_map (λ v. l.words ++ (named_text l.emission.program.now v ++ codes "\n")) (take l.count l.fn.names);
}
