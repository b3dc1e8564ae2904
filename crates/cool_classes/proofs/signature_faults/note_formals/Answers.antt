-- `note_formals` adds the compile-time errors of formal parameters in their order: each step of its loop adds those of one parameter and keeps its name for the
-- parameters after it.
use Rattle.std.proofs.Common.{◌≡◌, ◌+◌, ◌<◌, ◌++◌, ◌∷◌, [], ℕ, List, Some, length, take, drop, get_or, sym, ap, ◌∙◌, subst, append_assoc, arith}
use Rattle.std.specs.Prelude.{Option}
use Rattle.std.proofs.lemmas.List.{map-append, length-map, length-take-le, take_more, at_drop_more}
use Rattle.cool_syntax.specs.declared.file_tree.Formal.{Formal}
use Rattle.cool_classes.specs.Entries.{classes}
use Rattle.cool_classes.specs.FeatureFaults.{formals_faults, formal_faults, formal_row}
use Rattle.cool_classes.specs.FirstNames.{shown_names, FindsFirst}
use Rattle.cool_classes.proofs.signature_faults.note_formals.Goals as goal

pub loop-index-preserved : goal.loop-index-preserved
loop-index-preserved c =
    let p = classes c.args.table.now.entries.now in
    let fs = c.args.formals.now in
    let i = c.loop-index.index in
    let f = c.index-formals-index.result in
    let row = formal_row (take i fs) in
    let within : i < length fs = omega (arith, c.loop-index-test.true) in
    let here : get_or fs i f ≡ f = sym c.index-formals-index.is in
    let rows : formal_row (take (i + 1) fs) ≡ row ++ Some f.name ∷ [] =
    ap formal_row (take_more fs i f within) ∙ map-append (λ (g : Formal). Some g.name) (take i fs) (get_or fs i f ∷ [])
    ∙ ap (λ (g : Formal). row ++ Some g.name ∷ []) here in
    let left : formals_faults p row (drop i fs) ≡ formal_faults p row f ++ formals_faults p (row ++ Some f.name ∷ []) (drop (i + 1) fs) =
    at_drop_more (formals_faults p row) fs i f within
    ∙ ap (λ (g : Formal). formal_faults p row g ++ formals_faults p (row ++ Some g.name ∷ []) (drop (i + 1) fs)) here in
    let noted = c.in_ok-note_formal.ensures row c.loop-index.invariant.before in
    let number : length row ≡ i = length-map (take i fs) (λ (g : Formal). Some g.name) ∙ length-take-le i fs (omega (arith, within)) in
    record {
      faults =
          ap (λ (r : List (Option (List ℕ))). c.note_formal.new.faults.items ++ formals_faults p r (drop (i + 1) fs)) rows
          ∙ ap (λ xs. xs ++ formals_faults p (row ++ Some f.name ∷ []) (drop (i + 1) fs)) noted
          ∙ append_assoc c.loop-index.faults.items (formal_faults p row f) _
          ∙ ap (λ xs. c.loop-index.faults.items ++ xs) (sym left)
          ∙ c.loop-index.invariant.faults;
      before =
          subst (FindsFirst (shown_names c.add_name.new.names.entries))
          (ap (λ (n : List ℕ). row ++ Some n ∷ []) c.as_slice.ensures ∙ sym rows)
          (c.in_ok-add_name.ensures row (omega (arith, number, within, c.requires.few)) c.loop-index.invariant.before);
    }
