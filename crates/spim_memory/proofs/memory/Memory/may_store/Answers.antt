use Rattle.std.proofs.Common.{◌≡◌, ◌+◌, ◌-◌, ◌∙◌, sym, ap, arith}
use Rattle.mips_isa.specs.Calls.{all_writable}
use Rattle.spim_memory.specs.Memory.{segments}
use Rattle.spim_memory.proofs.StringsOfBytes.{all_may, all_after, store_within}
use Rattle.spim_memory.proofs.memory.Memory.may_store.Goals as goal

-- the rest lies in the segment
pub returns-then-left-end-clause-writable : goal.returns-then-left-end-clause-writable
returns-then-left-end-clause-writable c =
    let s = segments c.args.self.now in
    let each = store_within s c.loop-left.start c.loop-left.left c.in-Some.end c.in-Some.ensures.end (omega (arith, c.if-left-end.true, c.in-Some.ensures.behind)) in
    sym (c.loop-left.invariant.decide ∙ all_may s c.loop-left.start c.loop-left.left each)

-- the bytes up to the segment's end may be stored
pub loop-left-preserved : goal.loop-left-preserved
loop-left-preserved c =
    let s = segments c.args.self.now in
    let i = c.loop-left.invariant in
    let run = c.in-Some.end - c.loop-left.start in
    let end : c.loop-left.start + run ≡ c.in-Some.end = omega (arith, c.in-Some.ensures.behind) in
    let each = store_within s c.loop-left.start run c.in-Some.end c.in-Some.ensures.end (omega (arith, end)) in
    record {
      rest = omega (arith, i.rest, c.if-left-end.false, c.in-Some.ensures.behind);
      some = λ _. omega (arith, c.if-left-end.false, c.in-Some.ensures.behind);
      decide = i.decide ∙ all_after s c.loop-left.start run c.loop-left.left each (omega (arith, c.if-left-end.false)) ∙ ap (λ a. all_writable s a (c.loop-left.left - run)) end;
    }
