-- `class_text` returns the rows of debug information for a class and all its attributes: it passes the number of the attributes to `names_text`.
use Rattle.std.proofs.Common.{◌≡◌, ◌∙◌, ◌++◌, List, ℕ, length, flat_map, take, ap, ap₂, arith}
use Rattle.std.specs.Prelude.{codes}
use Rattle.cool_classes.specs.Chains.{Class, name_of}
use Rattle.cool_codegen.specs.Features.{attributes_in}
use Rattle.cool_codegen.specs.Variables.{Named}
use Rattle.cool_emit.specs.CodeTables.{class_row, class_rows}
use Rattle.cool_emit.specs.TableLines.{named_text, row_line}
use Rattle.cool_emit.proofs.AddingParts.{whole_front}
use Rattle.cool_emit.proofs.FeaturesTold.{attribute_lines}
use Rattle.cool_emit.proofs.code_table.class_text.Goals as goal

-- the lines of a class and of all its attributes
lines_of_class : (p q : List Class) (c : _) (vs : List Named) (n : ℕ) (first rest text given : List ℕ) → q ≡ p → vs ≡ attributes_in q c → n ≡ length vs
    → first ≡ row_line q (class_row (name_of q c)) → rest ≡ flat_map (λ v. codes "attribute " ++ (named_text p v ++ codes "\n")) (take n vs) → given ≡ rest → text ≡ first ++ given
    → text ≡ flat_map (row_line p) (class_rows p c)
lines_of_class p q c vs n first rest text given same are all one more is whole =
    whole
    ∙ ap₂ (λ (t u : List ℕ). t ++ u) (one ∙ ap (λ (r : List Class). row_line r (class_row (name_of r c))) same)
    (is ∙ more ∙ ap (flat_map (λ v. codes "attribute " ++ (named_text p v ++ codes "\n"))) (whole_front vs n (omega arith) ∙ are ∙ ap (λ (r : List Class). attributes_in r c) same)
    ∙ attribute_lines p (attributes_in p c))

pub returns : goal.returns
returns c =
    lines_of_class c.args.emission.now.program.now c.table-table.result.now c.args.c c.in_ok-attributes.attributes c.count-count.result c.in_ok-text.text.items c.in_ok-names_text.field-0.items
    c.extend_from_slice.new.self.items c.deref.result.now c.table-table.ensures c.in_ok-attributes.ensures.variables c.count-count.ensures c.in_ok-text.ensures c.in_ok-names_text.ensures
    c.deref.ensures.value c.in_ok-extend_from_slice.ensures.items
