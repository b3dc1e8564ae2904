-- `add_text` appends the text of a program; each step of its loop appends one section. The constants stay fewer than 2 ^ 30, as `add_section` requires, because
-- the preceding sections use few.
use Rattle.std.proofs.Common.{◌≡◌, ◌∙◌, ◌+◌, ◌<◌, ◌++◌, ◌∷◌, List, [], length, flat_map, take, get_or, ap, sym, subst, arith, append-nil}
use Rattle.std.proofs.lemmas.Grind.{flat_map-append}
use Rattle.mips_isa.specs.Lines.{lines_of}
use Rattle.cool_emit.specs.Additions.{files_of}
use Rattle.cool_emit.specs.declared.section.Section.{Section}
use Rattle.cool_emit.specs.declared.section.Section.TheVariants.{Routines}
use Rattle.cool_emit.specs.Sections.{features_in, section_code, sections_in}
use Rattle.cool_emit.proofs.AddingParts.{adds_both, adds_same, take_more, whole_front}
use Rattle.cool_emit.proofs.SectionsInTurn.{features_of_sections, code_of_sections, few_integers_before, few_strings_before, within_here, constants_of}
use Rattle.cool_emit.proofs.program.add_text.Goals as goal
use Rattle.std.proofs.lemmas.List.{get_or_default}

pub add_section-requires-clause-there : goal.add_section-requires-clause-there
add_section-requires-clause-there c =
    let e = c.args.emission.now in
    let p = e.program.now in
    let less = subst (λ (xs : List Section). c.loop-section.section-index < length xs) c.requires.sections c.loop-section-test.true in
    let is = subst (λ (xs : List Section). (get_or c.args.sections.now c.loop-section.section-index Routines) ≡ get_or xs c.loop-section.section-index (get_or c.args.sections.now c.loop-section.section-index Routines)) c.requires.sections (get_or_default c.args.sections.now c.loop-section.section-index Routines (get_or c.args.sections.now c.loop-section.section-index Routines) c.loop-section-test.true) in
    within_here p (files_of e) c.requires.sound.buildable c.loop-section.section-index (get_or c.args.sections.now c.loop-section.section-index Routines) less is

pub add_section-requires-clause-few_integers : goal.add_section-requires-clause-few_integers
add_section-requires-clause-few_integers c =
    let e = c.args.emission.now in
    let p = e.program.now in
    let few = few_integers_before p (files_of e) c.requires.sound.buildable c.loop-section.section-index c.loop-section.consts
    (constants_of p (files_of e) c.args.sections.now c.loop-section.section-index c.args.consts.now c.loop-section.consts _ _ _ c.requires.sections c.requires.no_integers c.requires.no_strings c.loop-section.invariant) in
    omega arith

pub add_section-requires-clause-few_strings : goal.add_section-requires-clause-few_strings
add_section-requires-clause-few_strings c =
    let e = c.args.emission.now in
    let p = e.program.now in
    let few = few_strings_before p (files_of e) c.requires.sound.buildable c.loop-section.section-index c.loop-section.consts
    (constants_of p (files_of e) c.args.sections.now c.loop-section.section-index c.args.consts.now c.loop-section.consts _ _ _ c.requires.sections c.requires.no_integers c.requires.no_strings c.loop-section.invariant) in
    omega arith

pub loop-section-preserved : goal.loop-section-preserved
loop-section-preserved c =
    let e = c.args.emission.now in
    let p = e.program.now in
    let files = files_of e in
    let i = c.loop-section.section-index in
    let xs = take i c.args.sections.now in
    let s = (get_or c.args.sections.now c.loop-section.section-index Routines) in
    let next : take (i + 1) c.args.sections.now ≡ xs ++ s ∷ [] = take_more c.args.sections.now i s c.loop-section-test.true (get_or_default c.args.sections.now c.loop-section.section-index Routines (get_or c.args.sections.now c.loop-section.section-index Routines) c.loop-section-test.true) in
    let both = adds_both files (flat_map (features_in p) xs) (features_in p s) (λ g. flat_map (section_code p files g) xs) (λ g. section_code p files g s)
    c.args.consts.now c.loop-section.consts c.add_section.new.consts (lines_of c.args.lines.now.items) (lines_of c.loop-section.lines.items) (lines_of c.add_section.new.lines.items)
    c.loop-section.invariant c.in_ok-add_section.ensures in
    adds_same files _ (flat_map (features_in p) (take (i + 1) c.args.sections.now)) _ (λ g. flat_map (section_code p files g) (take (i + 1) c.args.sections.now))
    c.args.consts.now c.add_section.new.consts (lines_of c.args.lines.now.items) (lines_of c.add_section.new.lines.items)
    (sym (last_of (features_in p) xs s (take (i + 1) c.args.sections.now) next))
    (λ g. sym (last_of (section_code p files g) xs s (take (i + 1) c.args.sections.now) next)) both
  where
    -- the output of the last section comes last
    last_of : {A : Type 0} (f : Section → List A) (xs : List Section) (x : Section) (all : List Section) → all ≡ xs ++ x ∷ [] → flat_map f all ≡ flat_map f xs ++ f x
    last_of f xs x all e = ap (flat_map f) e ∙ (flat_map-append f xs (x ∷ []) ∙ ap (λ ys. flat_map f xs ++ ys) (append-nil (f x)))

pub returns : goal.returns
returns c =
    let e = c.args.emission.now in
    let p = e.program.now in
    let files = files_of e in
    let i = c.loop-section.section-index in
    let all : take i c.args.sections.now ≡ sections_in p = whole_front c.args.sections.now i (let no = c.loop-section-test.false in omega arith) ∙ c.requires.sections in
    adds_same files _ _ _ _ c.args.consts.now c.loop-section.consts (lines_of c.args.lines.now.items) (lines_of c.loop-section.lines.items)
    (ap (flat_map (features_in p)) all ∙ features_of_sections p)
    (λ g. ap (flat_map (section_code p files g)) all ∙ code_of_sections p files g) c.loop-section.invariant
