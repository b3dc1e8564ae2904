use Rattle.std.proofs.Common.{rules, sym, subst, ◌∙◌, ℕ, List}
use Rattle.mips_isa.specs.ImageBounds.{ImageParts, IsImage}
use Rattle.spim_memory.specs.Operations.{AreOf}
use Rattle.spim_memory.proofs.MakingBytes.{made, made_within}
use Rattle.spim_memory.proofs.memory.Memory.make.Goals as goal

pub invariant_of-result : goal.invariant_of-result
invariant_of-result c =
    let same = c.deref-2.ensures.value ∙ sym c.deref.ensures.value ∙ sym c.in_ok-from_slice.ensures.items in (
      made_within c.args.image.now _ _ _ _ c.args.limits.heap c.args.limits.stack (subst (λ (i : ImageParts). IsImage i) c.image.view_is c.image.invariant) c.requires (search rules) (search rules) c.in_ok-zeros.ensures c.in_ok-zeros-2.ensures,
      subst (λ (words : List ℕ). AreOf c.in_ok-operations_of.field-0.items words) same c.in_ok-operations_of.ensures,
    )

pub returns-clause-bytes : goal.returns-clause-bytes
returns-clause-bytes c =
    made c.args.image.now _ _ _ _ c.args.limits.heap c.args.limits.stack (search rules) (search rules) c.in_ok-zeros.ensures c.in_ok-zeros-2.ensures
