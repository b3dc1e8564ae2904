-- The spans (ranges of lines) that `add_moved` has moved so far, followed by those that remain, are all moved spans.
use Rattle.std.proofs.Common.{◌≡◌, ◌+◌, ◌<◌, ◌^◌, ◌++◌, map, drop}
use Rattle.std.specs.List.{AllByRecursion}
use Rattle.cool_codegen.specs.Shown.{later, shown_of}
use Rattle.cool_codegen.proofs.binding.add_moved.Given as goal

abbrev pub invariant-loop-span : goal.invariant-loop-span
invariant-loop-span l = record {
  within : AllByRecursion (λ x. (l.before + x.from < 2 ^ 64) × (l.before + x.to < 2 ^ 64)) (drop l.span-index l.own);
  spans : map shown_of l.spans.items ++ map (later l.before) (map shown_of (drop l.span-index l.own)) ≡ map shown_of l.fn.spans.items ++ map (later l.before) (map shown_of l.own);
}
