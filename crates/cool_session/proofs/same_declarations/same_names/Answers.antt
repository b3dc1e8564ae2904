-- `same_names` may return false at the first formal whose name differs: lists with the same names have the same name at each position.
use Rattle.std.proofs.Common.{arith, sym, ap, ◌∙◌}
use Rattle.cool_syntax.specs.declared.file_tree.Formal.{Formal}
use Rattle.cool_syntax.proofs.ComparingLists.{same_at}
use Rattle.cool_session.proofs.same_declarations.same_names.Goals as goal

pub returns-then-not-same_name : goal.returns-then-not-same_name
returns-then-not-same_name c = record {
  same = (
    λ e. absurd (cc),
    λ h.
        c.if-not-same_name.ensures.same.1
        (sym (ap (λ (f : Formal). f.name) c.index-a-i.is)
        ∙ (same_at (λ (f : Formal). f.name) c.args.a.now c.args.b.now c.loop-i.i c.index-a-i.result c.index-b-i.result (omega arith)
        (omega arith) c.index-a-i.is c.index-b-i.is h ∙ ap (λ (f : Formal). f.name) c.index-b-i.is)),
  );
}
