-- `Emission::batch` returns the lines of the batch with a given number: those of a section of the text, or those of the data, which is the last batch and needs
-- all constants.
use Rattle.std.proofs.Common.{◌≡◌, ◌∙◌, ◌+◌, ◌<◌, ◌≤◌, ◌∷◌, ℕ, List, Result, Ok, Err, OnOk, IfOk, Some, length, slice_get, get_or, ap, sym, subst, arith}
use Rattle.std.proofs.lemmas.List.{get_or_default}
use Rattle.std.proofs.lemmas.Result.{IfOk-weaker}
use Rattle.mips_isa.specs.Assembly.{directive_line}
use Rattle.mips_isa.specs.Lines.{Line, ToData, lines_of}
use Rattle.cool_consts.specs.Constants.{Constants}
use Rattle.cool_emit.specs.Additions.{files_of}
use Rattle.cool_emit.specs.Batches.{batches_of, AreAsked}
use Rattle.cool_emit.specs.Programs.{data_lines}
use Rattle.cool_emit.specs.declared.section.Section.{Section}
use Rattle.cool_emit.specs.declared.section.Section.TheVariants.{Routines}
use Rattle.cool_emit.specs.Sections.{sections_in}
use Rattle.cool_emit.proofs.BatchesInTurn.{section_there, data_there, all_are_asked, asked_in_all}
use Rattle.cool_emit.proofs.SectionsInTurn.{few_integers_before, few_strings_before, within_here, constants_here, lines_here}
use Rattle.cool_emit.proofs.emission.Emission.batch.Goals as goal

-- a property of each value holds for an `Ok` value, and so does a fact without condition
on_ok : {X Y : Type 0} (r : Result X Y) (P : X → Type 0) (Q : Type 0) → ((x : X) → P x → Q) → IfOk r P → OnOk r Q
on_ok (Ok x) P Q f h = f x h
on_ok (Err e) P Q f h = tt

always : {X Y : Type 0} (r : Result X Y) (Q : Type 0) → Q → OnOk r Q
always (Ok x) Q h = h
always (Err e) Q h = tt

pub section_lines-requires-clause-there : goal.section_lines-requires-clause-there
section_lines-requires-clause-there c =
    let e = c.args.self.now in
    let k = c.args.number in
    let s = get_or c.args.sections.now k Routines in
    let less = subst (λ (xs : List Section). k < length xs) c.requires.sections c.if-number-sections.true in
    let is = subst (λ (xs : List Section). s ≡ get_or xs k s) c.requires.sections (get_or_default c.args.sections.now k Routines s c.if-number-sections.true) in
    within_here e.program.now (files_of e) c.requires.sound.buildable k s less is

pub section_lines-requires-clause-few_integers : goal.section_lines-requires-clause-few_integers
section_lines-requires-clause-few_integers c =
    let e = c.args.self.now in
    let asked = c.requires.constants in
    let few = few_integers_before e.program.now (files_of e) c.requires.sound.buildable asked.0 c.args.consts.now asked.1.1 in
    omega arith

pub section_lines-requires-clause-few_strings : goal.section_lines-requires-clause-few_strings
section_lines-requires-clause-few_strings c =
    let e = c.args.self.now in
    let asked = c.requires.constants in
    let few = few_strings_before e.program.now (files_of e) c.requires.sound.buildable asked.0 c.args.consts.now asked.1.1 in
    omega arith

pub returns-then-number-sections-clause-lines : goal.returns-then-number-sections-clause-lines
returns-then-number-sections-clause-lines c =
    let e = c.args.self.now in
    let p = e.program.now in
    let files = files_of e in
    let k = c.args.number in
    let s = get_or c.args.sections.now k Routines in
    let less = subst (λ (xs : List Section). k < length xs) c.requires.sections c.if-number-sections.true in
    let is = subst (λ (xs : List Section). s ≡ get_or xs k s) c.requires.sections (get_or_default c.args.sections.now k Routines s c.if-number-sections.true) in
    IfOk-weaker c.section_lines.result _ _
    (λ made adds.
    let next = constants_here p files c.requires.sound.buildable k s less is c.args.consts.now c.section_lines.new.consts (lines_of made.items) c.requires.constants adds in
    let same = lines_here p files c.requires.sound.buildable k s less is next.0 c.section_lines.new.consts (lines_of made.items) next.1.1 adds.lines in
    section_there p files k s less is ∙ ap (λ (ls : List Line). Some ls) (sym same))
    c.section_lines.ensures

pub returns-then-number-sections-clause-constants :
    goal.returns-then-number-sections-clause-constants
returns-then-number-sections-clause-constants c =
    let e = c.args.self.now in
    let k = c.args.number in
    let s = get_or c.args.sections.now k Routines in
    let less = subst (λ (xs : List Section). k < length xs) c.requires.sections c.if-number-sections.true in
    let is = subst (λ (xs : List Section). s ≡ get_or xs k s) c.requires.sections (get_or_default c.args.sections.now k Routines s c.if-number-sections.true) in
    on_ok c.section_lines.result _ _
    (λ made adds. constants_here e.program.now (files_of e) c.requires.sound.buildable k s less is c.args.consts.now c.section_lines.new.consts (lines_of made.items) c.requires.constants adds)
    c.section_lines.ensures

pub returns-else-number-sections-clause-lines : goal.returns-else-number-sections-clause-lines
returns-else-number-sections-clause-lines c =
    let e = c.args.self.now in
    let p = e.program.now in
    let files = files_of e in
    let same = ap length c.requires.sections in
    let long : length (sections_in p) ≤ c.args.number = let no = c.if-number-sections.false in omega arith in
    let here : length (sections_in p) ≡ c.args.number = let most = c.requires.within in omega arith in
    let constants = asked_in_all p files c.requires.sound.buildable c.args.number c.args.consts.now long c.requires.constants in
    IfOk-weaker c.data.result _ _
    (λ made h.
    subst (λ (k : ℕ). slice_get (batches_of p files) k ≡ Some (lines_of made.items)) here
    (data_there p files ∙ ap (λ (ls : List Line). Some ls) (sym (h ∙ ap (λ (t : Constants). directive_line ToData ∷ data_lines p t) constants))))
    c.data.ensures

pub returns-else-number-sections-clause-constants :
    goal.returns-else-number-sections-clause-constants
returns-else-number-sections-clause-constants c =
    let e = c.args.self.now in
    let p = e.program.now in
    let files = files_of e in
    let same = ap length c.requires.sections in
    let long : length (sections_in p) ≤ c.args.number = let no = c.if-number-sections.false in omega arith in
    let constants = asked_in_all p files c.requires.sound.buildable c.args.number c.args.consts.now long c.requires.constants in
    always c.data.result _ (subst (AreAsked p files (c.args.number + 1)) (sym constants) (all_are_asked p files c.requires.sound.buildable (c.args.number + 1)))
