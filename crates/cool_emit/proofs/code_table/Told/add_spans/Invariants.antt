-- In the loop of `Told::add_spans`, the debug information written so far, joined with the rows of the expressions that are left, is that of all expressions.
use Rattle.std.proofs.Common.{◌≡◌, ◌<◌, ◌++◌, drop, flat_map, get_or, length, map}
use Rattle.std.specs.List.{AllByRecursion}
use Rattle.cool_codegen.specs.Shown.{shown_of}
use Rattle.cool_emit.specs.CodeTables.{code_row}
use Rattle.cool_emit.specs.TableLines.{row_line}
use Rattle.cool_emit.proofs.code_table.Told.add_spans.Given as goal

abbrev pub invariant-loop-span : goal.invariant-loop-span
invariant-loop-span l = record {
  within : AllByRecursion (λ x. (x.from < length l.addresses) × (x.to < length l.addresses)) (map shown_of (drop l.span-index l.spans));
  address : l.self.address ≡ l.fn.self.address;
  text : l.self.text.items ++ flat_map (λ x. row_line l.emission.program.now (code_row (get_or l.addresses x.from 0) (get_or l.addresses x.to 0) x)) (map shown_of (drop l.span-index l.spans))
      ≡ l.fn.self.text.items ++ flat_map (λ x. row_line l.emission.program.now (code_row (get_or l.addresses x.from 0) (get_or l.addresses x.to 0) x)) (map shown_of l.spans);
}
