-- `insert_arm` inserts a branch of a `case` at the position that `place_among` returns, so the branches afterwards are `with_branch` of `Spans.antt`.
use Rattle.std.proofs.Common.{◌≡◌, List, ◌∷◌, ◌++◌, map, take, drop, ap, sym, subst, ◌∙◌, refl}
use Rattle.cool_codegen.specs.declared.arm.Arm as declared_arm
use Rattle.cool_codegen.specs.Spans.{branch_of, with_branch}
use Rattle.cool_codegen.proofs.ArmsInOrder.{put_in}
use Rattle.cool_codegen.proofs.arm.insert_arm.Goals as goal

pub returns : goal.returns
returns g c =
    let k = c.place_among-place.result in
    let b = branch_of c.args.arm in
    let q = subst (λ (xs : List (declared_arm.Arm g.row.S.Denot)). with_branch (map branch_of xs) b ≡ take k (map branch_of xs) ++ b ∷ drop k (map branch_of xs)) c.deref.ensures.value
    (c.place_among-place.ensures.put b refl) in
    ap (map branch_of) c.in_ok-insert.ensures.items ∙ put_in c.args.arms.now.items k c.args.arm ∙ sym q
