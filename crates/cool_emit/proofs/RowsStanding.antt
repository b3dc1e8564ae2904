-- If a program is in the text of a machine, each row of its debug information gives the correct addresses of code.
use Rattle.std.proofs.Common.{◌≡◌, ◌∙◌, ℕ, suc, ◌+◌, ◌≤◌, ◌<◌, List, [], ◌∷◌, ◌++◌, length, flat_map, map, take, slice_get, refl, sym, ap, subst, append-nil, append_assoc, arith}
use Rattle.std.specs.Prelude.{Option, Some, None, Contains}
use Rattle.std.specs.List.{AllByRecursion}
use Rattle.std.proofs.lemmas.List.{length-append}
use Rattle.cool_syntax.specs.declared.file_tree.Feature.{Feature}
use Rattle.cool_syntax.specs.declared.file_tree.Feature.TheVariants.{Method, Attribute}
use Rattle.cool_syntax.specs.declared.file_tree.AttributeDef.{AttributeDef}
use Rattle.cool_syntax.specs.declared.file_tree.MethodDef.{MethodDef}
use Rattle.cool_syntax.specs.Tree.{Tree}
use Rattle.mips_isa.specs.declared.address_map.TheConstants.{TEXT_START}
use Rattle.mips_isa.specs.Lines.{Line}
use Rattle.cool_classes.specs.declared.class_id.ClassId.{ClassId}
use Rattle.cool_classes.specs.Chains.{Class, features_of}
use Rattle.cool_runtime.specs.Reaches.{World}
use Rattle.cool_runtime.specs.Standing.{sizes, HasLines}
use Rattle.cool_runtime.proofs.Pieces.{has_front, has_back}
use Rattle.cool_layout.specs.Preorder.{numbers_from}
use Rattle.cool_codegen.specs.Features as scopes
use Rattle.cool_codegen.specs.Shown.{Shown, shown}
use Rattle.cool_codegen.specs.Spans.{Span, StandsBehind, code_of, feature_spans}
use Rattle.cool_codegen.specs.Variables.{Named}
use Rattle.cool_codegen.proofs.SpansOfCode.{Stands, law_feature}
use Rattle.cool_codegen.proofs.SpansStand.{behind_front, behind_back, behind_stands}
use Rattle.cool_emit.specs.CodeTables.{Row, attribute_row, initial_row, method_row, formal_row, class_rows, head_rows, initial_rows, behind, shown_row, feature_rows}
use Rattle.cool_emit.specs.Programs.{Placed, placed_code, program_constants}
use Rattle.cool_emit.specs.SpansOfPrograms.{context_of}
use Rattle.cool_emit.specs.StandingRows.{StandsBetween, IsFeatureOf, IsInitial, IsMethod, IsTrue, RowsStand}
use Rattle.cool_emit.proofs.ConstantsInRange.{numbers_low}
use Rattle.cool_emit.proofs.SpansOfPrograms.{all_mapped, in_text}
use Rattle.cool_emit.proofs.PartsOfLines.{front_taken, both_taken}
use Rattle.cool_emit.proofs.TellingParts.{sizes_append}
use Rattle.lists.proofs.AllItems.{all_append}
use Rattle.lists.proofs.Membership.{later_there}

-- a property of each member, with one more fact about each
pub member_all : {X : Type 0} (P Q : X → Type 0) (xs : List X) → AllByRecursion P xs → ((x : X) → Contains xs x → P x → Q x) → AllByRecursion Q xs
member_all P Q [] all h = tt
member_all {X = X} P Q (x ∷ xs) all h = (h x (0, omega arith, refl) all.0, member_all P Q xs all.1 (λ y there. h y (later y there)))
  where
    later : (y : X) → Contains xs y → Contains (x ∷ xs) y
    later y (k, less, is) = (suc k, omega arith, is)

module _ (w : World) (p : List Class) (files : List (List ℕ)) where
  of_class : (cs : List ClassId) → AllByRecursion (λ (c : ClassId). c.0 < length p) cs → AllByRecursion (IsTrue w p files) (flat_map (class_rows p) cs)
  of_class [] low = tt
  of_class (c ∷ cs) low = (
    (c, low.0, refl),
    all_append (IsTrue w p files) (map attribute_row (scopes.attributes_in p c)) (flat_map (class_rows p) cs) (attributes (scopes.attributes_in p c) (λ v there. there)) (of_class cs low.1),
  )
    where
      attributes : (vs : List Named) → ((v : Named) → Contains vs v → Contains (scopes.attributes_in p c) v) → AllByRecursion (IsTrue w p files) (map attribute_row vs)
      attributes [] within = tt
      attributes (v ∷ vs) within = ((c, low.0, within v (0, omega arith, refl)), attributes vs (λ u there. within u (later_there v vs u there)))

  of_formals : (c : ClassId) (k : ℕ) (m : MethodDef) → slice_get (features_of p c) k ≡ Some (Method m) → (vs : List Named)
      → ((v : Named) → Contains vs v → Contains (scopes.with_formals p m.formals []) v) → AllByRecursion (IsTrue w p files) (map formal_row vs)
  of_formals c k m has [] within = tt
  of_formals c k m has (v ∷ vs) within = ((c, k, m, has, within v (0, omega arith, refl)), of_formals c k m has vs (λ u there. within u (later_there v vs u there)))

  module _ (c : ClassId) (pc : ℕ) (f : Placed) (is_feature : IsFeatureOf p c f) (has : HasLines w pc (placed_code p files (program_constants p files) c f)) where
    abbrev lines : List Line
    lines = placed_code p files (program_constants p files) c f

    stands : StandsBetween w pc (pc + sizes lines) lines
    stands = record { begins = has; ends = refl }

    of_head : AllByRecursion (IsTrue w p files) (head_rows p pc (pc + sizes lines) f.feature)
    of_head = by f.feature refl
      where
        of_initial : (a : AttributeDef) → f.feature ≡ Attribute a → (o : Option Tree) → a.init ≡ o → AllByRecursion (IsTrue w p files) (initial_rows pc (pc + sizes lines) a.name o)
        of_initial a e None none = tt
        of_initial a e (Some t) some = (record { class = c; feature = f; has = is_feature; is = subst (IsInitial a.name) (sym e) (refl, t, some); stands = stands }, tt)

        by : (x : Feature) → f.feature ≡ x → AllByRecursion (IsTrue w p files) (head_rows p pc (pc + sizes lines) x)
        by (Method m) e = (
          record { class = c; feature = f; has = is_feature; is = subst (IsMethod m.name) (sym e) refl; stands = stands },
          of_formals c f.place m (subst (λ (x : Feature). slice_get (features_of p c) f.place ≡ Some x) e is_feature) (scopes.with_formals p m.formals []) (λ v there. there),
        )
        by (Attribute a) e = of_initial a e a.init refl

    -- code behind so many of the lines is at the address behind those
    of_span : (x : Span) → Contains (feature_spans length (context_of p files c f.place) (program_constants p files) 0 f.feature) x
        → StandsBehind lines x.from (code_of (context_of p files c f.place) (program_constants p files) x)
        → IsTrue w p files (shown_row pc lines (shown (context_of p files c f.place) (program_constants p files) x))
    of_span x there h =
        let part = code_of (context_of p files c f.place) (program_constants p files) x in
        let from : pc + sizes h.front ≡ behind pc lines x.from = ap (λ (ls : List Line). pc + sizes ls) (front_taken lines part x.from h) in
        let to : behind pc lines (x.from + length part) ≡ pc + sizes (h.front ++ part) = ap (λ (ls : List Line). pc + sizes ls) (both_taken lines part x.from h) in
        let all = sizes_append h.front part in
        record {
          class = c;
          feature = f;
          has = is_feature;
          span = x;
          within = there;
          at = refl;
          form = refl;
          depth = refl;
          names = refl;
          latest = refl;
          stands = record { begins = subst (λ (n : ℕ). HasLines w n part) from (behind_stands w lines part pc x.from h has); ends = omega arith };
        }

    pub of_feature : AllByRecursion (IsTrue w p files) (feature_rows p files (program_constants p files) c pc f)
    of_feature =
        let s = context_of p files c f.place in
        let g = program_constants p files in
        let whole : StandsBehind lines 0 lines = record { front = []; rest = []; whole = sym (append-nil lines); many = refl } in
        let all = law_feature length (StandsBehind lines) (behind_front lines) (behind_back lines) s g 0 f.feature whole in
        let rows = member_all (Stands length (StandsBehind lines) (behind_front lines) (behind_back lines) s g) (λ (x : Span). IsTrue w p files (shown_row pc lines (shown s g x)))
        (feature_spans length s g 0 f.feature) all of_span in
        let seen = all_mapped (λ (x : Span). IsTrue w p files (shown_row pc lines (shown s g x))) (λ (v : Shown). IsTrue w p files (shown_row pc lines v)) (shown s g) (feature_spans length s g 0 f.feature) (λ x h. h) rows in
        all_append (IsTrue w p files) (head_rows p pc (pc + sizes lines) f.feature) _ of_head
        (all_mapped (λ (v : Shown). IsTrue w p files (shown_row pc lines v)) (IsTrue w p files) (shown_row pc lines) (map (shown s g) (feature_spans length s g 0 f.feature)) (λ x h. h) seen)

pub rows_stand : RowsStand
rows_stand w p files has =
    let g = program_constants p files in
    let front : (xs ys : List Line) (pc : ℕ) → HasLines w pc (xs ++ ys) → HasLines w pc xs = has_front w in
    let back : (xs ys : List Line) (pc : ℕ) → HasLines w pc (xs ++ ys) → HasLines w (pc + sizes xs) ys = λ xs ys pc h. has_back w xs ys pc (pc + sizes xs) refl h in
    all_append (IsTrue w p files) (flat_map (class_rows p) (numbers_from 0 (length p))) _ (of_class w p files (numbers_from 0 (length p)) (numbers_low 0 (length p) (length p) (omega arith)))
    (in_text sizes (HasLines w) front back p files g (feature_rows p files g) (IsTrue w p files) (of_feature w p files) TEXT_START has)
