-- `edited` returns copies of the files before the edited one, the edited file, and copies of the files behind it, as `edited` of `Edits.antt` defines.
use Rattle.std.proofs.Common.{◌≤◌, ◌+◌, ◌++◌, ℕ, List, ap, arith, drop, length, length-drop, subst, sym, take, take_all, ◌∙◌}
use Rattle.std.specs.Global.{Vec}
use Rattle.std.proofs.lemmas.List.{length-map}
use Rattle.cool_syntax.specs.declared.TheConstants.{MOST_SOURCE_BYTES}
use Rattle.cool_faults.specs.Files.{bytes_of, total}
use Rattle.cool_mend.proofs.FilesEdited.{bytes_at, edited_all}
use Rattle.cool_mend.proofs.editing.edited.Goals as goal

are_edited : goal.returns-then-fit-clause-is
are_edited c =
    edited_all c.args.files.now c.append_copies.new.all.items c.push.new.self.items c.append_copies-2.new.all.items c.args.edit.now c.index-files-index.result c.in_ok-replaced.field-0 _ _ (omega (arith, c.if-index-files.false)) c.index-files-index.is
    c.deref.ensures.value c.as_slice-bytes.ensures.value c.in_ok-replaced.ensures (c.in_ok-append_copies.ensures ∙ ap (λ (v : List (Vec ℕ)). bytes_of v ++ bytes_of (take c.args.edit.now.file c.args.files.now)) c.new-all.ensures.items) c.in_ok-push.ensures.items
    (c.in_ok-append_copies-2.ensures ∙ ap (λ (v : List (Vec ℕ)). bytes_of c.push.new.self.items ++ bytes_of v) (take_all _ (drop (c.args.edit.now.file + 1) c.args.files.now) (omega (arith, length-drop (c.args.edit.now.file + 1) c.args.files.now))))

pub returns-then-fit-clause-is : goal.returns-then-fit-clause-is
returns-then-fit-clause-is c = are_edited c

pub returns-then-fit-clause-edit : goal.returns-then-fit-clause-edit
returns-then-fit-clause-edit c =
    let at = bytes_at c.args.files.now c.args.edit.now.file c.index-files-index.result (omega (arith, c.if-index-files.false)) c.index-files-index.is in
    record {
      file = omega (arith, length-map c.args.files.now (λ (f : Vec ℕ). f.items), c.if-index-files.false);
      order = omega (arith, c.if-edit.false);
      within = omega (arith, c.if-edit-bytes.false, ap length (c.as_slice-bytes.ensures.value ∙ sym at));
      small = subst (λ (l : List (List ℕ)). total l ≤ MOST_SOURCE_BYTES) (ap bytes_of c.deref-then-len-le-MOST_FILES.ensures.value ∙ are_edited c) (c.fit.ensures c.if-fit.true);
    }
