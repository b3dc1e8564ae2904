-- `Emission::add_class_sections` appends the section of the initializer of a class and one section for each of its methods.
-- Each step of its loop looks at one feature and appends a section if it is a method.
use Rattle.std.proofs.Common.{◌≡◌, ◌∙◌, ◌+◌, ◌<◌, ◌++◌, ◌∷◌, ℕ, List, [], length, map, take, get_or, Bool, true, false, ap, sym, refl, subst, arith, append_assoc}
use Rattle.std.specs.Prelude.{if◌then◌else◌}
use Rattle.std.proofs.lemmas.List.{map-append}
use Rattle.cool_syntax.specs.declared.file_tree.Feature.{Feature}
use Rattle.cool_classes.specs.declared.class_id.ClassId.{ClassId}
use Rattle.cool_classes.specs.Chains.{Class, features_of}
use Rattle.cool_emit.specs.Additions.{belongs}
use Rattle.cool_emit.specs.declared.emission.Part.TheVariants.{Methods}
use Rattle.cool_emit.specs.declared.section.Section.{Section}
use Rattle.cool_emit.specs.declared.section.Section.TheVariants.{Initializer, Method}
use Rattle.cool_emit.specs.Programs.{Placed, methods_from}
use Rattle.cool_emit.proofs.AddingParts.{front_length, one_more, part_more, take_more, whole_front}
use Rattle.cool_emit.proofs.emission.Emission.add_class_sections.Goals as goal

-- the section of a feature that may be a method
one_section : (c : ClassId) (b : Bool) (k : ℕ) (x : Feature) → map (λ f. Method c f.place) (one_more b k x) ≡ (if b then Method c k ∷ [] else [])
one_section c true k x = refl
one_section c false k x = refl

pub loop-index-preserved : goal.loop-index-preserved
loop-index-preserved c =
    let e = c.args.self.now in
    let fs = features_of e.program.now c.args.c in
    let i = c.loop-index.index in
    let x = c.index-features-index.result in
    let own : Placed → Section = λ f. Method c.args.c f.place in
    let front = c.args.sections.now.items in
    let one = if belongs Methods x then Method c.args.c i ∷ [] else [] in
    let same = c.features-features.ensures.features ∙ ap (λ (q : List Class). features_of q c.args.c) c.table.ensures in
    let less = subst (λ (gs : List Feature). i < length gs) same c.loop-index-test.true in
    let is = subst (λ (gs : List Feature). x ≡ get_or gs i x) same c.index-features-index.is in
    let next : methods_from 0 (take (i + 1) fs) ≡ methods_from 0 (take i fs) ++ one_more (belongs Methods x) i x =
    ap (methods_from 0) (take_more fs i x less is) ∙ part_more Methods 0 (take i fs) i x (let l = front_length fs i less in omega arith) in
    c.in_ok-add_method.ensures
    ∙ ap (λ (xs : List Section). xs ++ one) c.loop-index.invariant
    ∙ append_assoc front (Initializer c.args.c ∷ map own (methods_from 0 (take i fs))) one
    ∙ ap (λ (xs : List Section). front ++ Initializer c.args.c ∷ (map own (methods_from 0 (take i fs)) ++ xs)) (sym (one_section c.args.c (belongs Methods x) i x))
    ∙ ap (λ (xs : List Section). front ++ Initializer c.args.c ∷ xs) (sym (ap (map own) next ∙ map-append own (methods_from 0 (take i fs)) (one_more (belongs Methods x) i x)))

pub returns : goal.returns
returns c =
    let e = c.args.self.now in
    let fs = features_of e.program.now c.args.c in
    let i = c.loop-index.index in
    let same = c.features-features.ensures.features ∙ ap (λ (q : List Class). features_of q c.args.c) c.table.ensures in
    let all : take i fs ≡ fs = whole_front fs i (let no = c.loop-index-test.false in let long = ap length same in omega arith) in
    c.loop-index.invariant ∙ ap (λ (gs : List Feature). c.args.sections.now.items ++ Initializer c.args.c ∷ map (λ f. Method c.args.c f.place) (methods_from 0 gs)) all
