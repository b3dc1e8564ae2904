-- The debug information of a feature can be computed from its lines generated with a table of constants of its own, because these lines have the same sizes as
-- the feature's lines in the program.
use Rattle.std.proofs.Common.{◌≡◌, ◌∙◌, ℕ, ◌+◌, ◌*◌, ◌≤◌, List, [], ◌∷◌, ◌++◌, length, flat_map, map, take, get_or, refl, sym, ap, ap₂, subst, append_assoc, append-nil, arith}
use Rattle.std.specs.List.{AllByRecursion}
use Rattle.std.specs.Prelude.{codes, pos}
use Rattle.std.proofs.lemmas.Grind.{flat_map-append}
use Rattle.std.proofs.lemmas.List.{length-append}
use Rattle.cool_syntax.specs.declared.file_tree.Feature.{Feature}
use Rattle.cool_syntax.specs.declared.file_tree.Formal.{Formal}
use Rattle.mips_isa.specs.Lines.{Line}
use Rattle.cool_classes.specs.declared.class_id.ClassId.{ClassId}
use Rattle.cool_classes.specs.Chains.{Class}
use Rattle.cool_rules.specs.Rules.{type_meant}
use Rattle.cool_runtime.specs.Standing.{sizes}
use Rattle.cool_consts.specs.Constants.{Constants}
use Rattle.cool_codegen.specs.Code.{Context}
use Rattle.cool_codegen.specs.Features.{feature_code, with_formals}
use Rattle.cool_codegen.specs.Shown.{Shown, shown}
use Rattle.cool_codegen.specs.Spans.{StandsBehind, code_of, feature_spans}
use Rattle.cool_codegen.specs.declared.variables.Base.TheVariants.{Frame}
use Rattle.cool_codegen.specs.Variables.{Named}
use Rattle.cool_emit.proofs.KindsInAll.{kinds, kinds_of_feature}
use Rattle.cool_codegen.proofs.SpansOfCode.{Stands, law_feature}
use Rattle.cool_codegen.proofs.SpansStand.{behind_front, behind_back}
use Rattle.cool_emit.specs.Additions.{files_of}
use Rattle.cool_emit.specs.CodeTables.{Row, attribute_row, formal_row, code_row, head_rows, shown_row}
use Rattle.cool_emit.specs.SpansOfPrograms.{context_of}
use Rattle.cool_emit.specs.TableLines.{named_text, row_line}
use Rattle.cool_emit.specs.Tellings.{TellsFeatures, addresses, constants}
use Rattle.cool_emit.specs.declared.code_table.Told.{Told}
use Rattle.cool_emit.specs.declared.emission.Emission.{Emission}
use Rattle.cool_emit.proofs.PartsOfLines.{within}
use Rattle.cool_emit.proofs.SpansOfPrograms.{all_mapped}
use Rattle.cool_emit.proofs.TellingParts.{address_at, all_sizes, same_sizes, take_front}

-- formals are entered in front of other names
pub formals_first : (p : List Class) (fs : List Formal) (vs : List Named) → with_formals p fs vs ≡ with_formals p fs [] ++ vs
formals_first p [] vs = refl
formals_first p (f ∷ fs) vs =
    formals_first p fs (_ ∷ vs) ∙ sym (append_assoc (with_formals p fs []) (_ ∷ []) vs) ∙ ap (λ (us : List Named). us ++ vs) (sym (formals_first p fs (_ ∷ [])))

pub length_formals : (p : List Class) (fs : List Formal) → length (with_formals p fs []) ≡ length fs
length_formals p [] = refl
length_formals p (f ∷ fs) =
    let e : Named = record { name = f.name; value = record { base = Frame; offset = pos (12 + 4 * length fs); ty = type_meant p f.declared.name } } in
    let l : length (with_formals p fs (e ∷ [])) ≡ length (with_formals p fs []) + 1 = ap length (formals_first p fs (e ∷ [])) ∙ length-append (with_formals p fs []) (e ∷ []) in
    let k : length (with_formals p fs []) ≡ length fs = length_formals p fs in
    l ∙ omega (arith, k)

pub formals_taken : (p : List Class) (fs : List Formal) (vs : List Named) → take (length fs) (with_formals p fs vs) ≡ with_formals p fs []
formals_taken p fs vs =
    ap (take (length fs)) (formals_first p fs vs)
    ∙ ap (λ (n : ℕ). take n (with_formals p fs [] ++ vs)) (sym (length_formals p fs))
    ∙ take_front (with_formals p fs []) vs

-- the lines of names
pub attribute_lines : (p : List Class) (vs : List Named) → flat_map (λ v. codes "attribute " ++ (named_text p v ++ codes "\n")) vs ≡ flat_map (row_line p) (map attribute_row vs)
attribute_lines p [] = refl
attribute_lines p (v ∷ vs) = ap (λ (t : List ℕ). row_line p (attribute_row v) ++ t) (attribute_lines p vs)

pub formal_lines : (p : List Class) (vs : List Named) → flat_map (λ v. codes "formal " ++ (named_text p v ++ codes "\n")) vs ≡ flat_map (row_line p) (map formal_row vs)
formal_lines p [] = refl
formal_lines p (v ∷ vs) = ap (λ (t : List ℕ). row_line p (formal_row v) ++ t) (formal_lines p vs)

-- the spans of a feature lie within its lines
abbrev pub LiesIn : ℕ → Shown → Type 0
LiesIn n v = (v.from ≤ n) × (v.to ≤ n)

pub shown_within : (s : Context) (g : Constants) (x : Feature) → AllByRecursion (LiesIn (length (feature_code s g x))) (map (shown s g) (feature_spans length s g 0 x))
shown_within s g x =
    let lines = feature_code s g x in
    let whole : StandsBehind lines 0 lines = record { front = []; rest = []; whole = sym (append-nil lines); many = refl } in
    all_mapped (Stands length (StandsBehind lines) (behind_front lines) (behind_back lines) s g) (LiesIn (length lines)) (shown s g) (feature_spans length s g 0 x)
    (λ y h. let w = within lines (code_of s g y) y.from h in (omega arith, w))
    (law_feature length (StandsBehind lines) (behind_front lines) (behind_back lines) s g 0 x whole)

-- rows by other lines of the same kinds
rows_same : (p : List Class) (pc : ℕ) (lines own : List Line) (vs : List Shown) → kinds own ≡ kinds lines → AllByRecursion (LiesIn (length own)) vs
    → flat_map (λ v. row_line p (code_row (get_or (addresses pc own) v.from 0) (get_or (addresses pc own) v.to 0) v)) vs ≡ flat_map (row_line p) (map (shown_row pc lines) vs)
rows_same p pc lines own [] same all = refl
rows_same p pc lines own (v ∷ vs) same all =
    let at : (n : ℕ) → n ≤ length own → get_or (addresses pc own) n 0 ≡ pc + sizes (take n lines) =
    λ n less. address_at pc own n less ∙ ap (λ (b : ℕ). pc + b) (same_sizes own lines same n) in
    ap₂ (λ (t u : List ℕ). t ++ u)
    (ap₂ (λ (a b : ℕ). row_line p (code_row a b v)) (at v.from all.0.0) (at v.to all.0.1))
    (rows_same p pc lines own vs same all.1)

module _ (e : Emission) (c : ClassId) (k : ℕ) (x : Feature) (g : Constants) (own : List Line) (seen : List Shown)
    (lines : own ≡ feature_code (context_of e.program.now (files_of e) c k) g x)
    (spans : (g : Constants) → seen ≡ map (shown (context_of e.program.now (files_of e) c k) g) (feature_spans length (context_of e.program.now (files_of e) c k) g 0 x))
  where
    abbrev s : Context
    s = context_of e.program.now (files_of e) c k

    pub lie_within : AllByRecursion (LiesIn (length own)) seen
    lie_within =
        subst (λ (ls : List Line). AllByRecursion (LiesIn (length ls)) seen) (sym lines)
        (subst (AllByRecursion (LiesIn (length (feature_code s g x)))) (sym (spans g)) (shown_within s g x))

    same : kinds own ≡ kinds (feature_code s (constants e) x)
    same = ap kinds lines ∙ kinds_of_feature s g (constants e) x

    pub own_sizes : sizes own ≡ sizes (feature_code s (constants e) x)
    own_sizes = all_sizes own (feature_code s (constants e) x) same

    -- so the addresses are those of its rows
    pub feature_told : (old new : Told) (to : ℕ) → to ≡ old.address + sizes own → new.address ≡ to
        → new.text.items ≡ (old.text.items ++ flat_map (row_line e.program.now) (head_rows e.program.now old.address to x))
        ++ flat_map (λ v. row_line e.program.now (code_row (get_or (addresses old.address own) v.from 0) (get_or (addresses old.address own) v.to 0) v)) seen
        → TellsFeatures e c (record { place = k; feature = x } ∷ []) old new
    feature_told old new to is address text =
        let p = e.program.now in
        let code = feature_code s (constants e) x in
        let long = all_sizes own code same in
        let end : to ≡ old.address + sizes code = omega arith in
        let rows = rows_same p old.address code own seen same lie_within ∙ ap (λ (vs : List Shown). flat_map (row_line p) (map (shown_row old.address code) vs)) (spans (constants e)) in
        record {
          address = address ∙ end ∙ ap (λ (ls : List Line). old.address + sizes ls) (sym (append-nil code));
          text =
              text
              ∙ ap₂ (λ (a : ℕ) (t : List ℕ). (old.text.items ++ flat_map (row_line p) (head_rows p old.address a x)) ++ t) end rows
              ∙ append_assoc old.text.items _ _
              ∙ ap (λ (t : List ℕ). old.text.items ++ t) (sym (flat_map-append (row_line p) (head_rows p old.address (old.address + sizes code) x) _))
              ∙ ap (λ (rs : List Row). old.text.items ++ flat_map (row_line p) rs) (sym (append-nil _));
        }
