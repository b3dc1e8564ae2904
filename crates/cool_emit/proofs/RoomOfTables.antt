-- The addresses of the code of a program are below 2 ^ 32, and so are those of each feature and class.
use Rattle.std.proofs.Common.{◌≡◌, ◌∙◌, ℕ, zero, suc, ◌+◌, ◌-◌, ◌*◌, ◌^◌, ◌<◌, ◌≤◌, List, [], ◌∷◌, ◌++◌, length, flat_map, take, drop, get_or, Bool, true, false, refl, sym, ap, subst, append-nil, arith}
use Rattle.std.specs.Prelude.{nat_lt, if◌then◌else◌}
use Rattle.std.proofs.lemmas.Grind.{flat_map-append}
use Rattle.std.proofs.lemmas.List.{take-append-drop}
use Rattle.mips_isa.specs.declared.address_map.TheConstants.{TEXT_START}
use Rattle.mips_isa.specs.Assembly.{Need, Nothing, Words, Item, Switch, Padding, need}
use Rattle.mips_isa.specs.Lines.{Line}
use Rattle.mips_asm.specs.TextWords.{words_needed}
use Rattle.cool_syntax.specs.declared.file_tree.Feature.{Feature}
use Rattle.cool_syntax.specs.declared.file_tree.Feature.TheVariants.{Attribute, Method}
use Rattle.cool_classes.specs.declared.class_id.ClassId.{ClassId}
use Rattle.cool_classes.specs.Chains.{Class, class_number, parent_of}
use Rattle.cool_runtime.specs.CodeOfCalls.{enter_lines}
use Rattle.cool_runtime.specs.RoutineLines.{all_routine_lines}
use Rattle.cool_runtime.specs.Standing.{size, sizes}
use Rattle.cool_layout.specs.Labels.{initializer}
use Rattle.cool_layout.specs.Preorder.{numbers_from}
use Rattle.cool_consts.specs.Constants.{Constants}
use Rattle.cool_codegen.specs.Pieces.{begin_init_lines, return_basic_lines}
use Rattle.cool_emit.specs.Additions.{belongs}
use Rattle.cool_emit.specs.declared.emission.Part.{Part}
use Rattle.cool_emit.specs.declared.emission.Part.TheVariants.{Attributes, Methods}
use Rattle.cool_emit.specs.Programs.{IsBuildable, Placed, attributes_in, begin_code, class_code, classes_code, end_code, initializer_code, parent_code, placed_code, program_constants, program_text}
use Rattle.cool_emit.specs.SoundLines.{text_need, text_room}
use Rattle.cool_emit.proofs.AddingParts.{one_more, part_from, part_more, take_more}
use Rattle.cool_emit.proofs.PartsAreLight.{numbers_parts}
use Rattle.cool_emit.proofs.ProgramsAreSound.{programs_sound}
use Rattle.cool_emit.proofs.TellingParts.{sizes_append}

-- lines take no more than the room that is kept for them

need_within : (n : Need) → words_needed n ≤ text_need n
need_within Nothing = omega arith
need_within (Words zero) = omega arith
need_within (Words (suc n)) = omega arith
need_within (Item unit count) = omega arith
need_within (Switch segment) = omega arith
need_within (Padding unit) = omega arith

sizes_within : (lines : List Line) → sizes lines ≤ 4 * text_room lines
sizes_within [] = omega arith
sizes_within (line ∷ rest) = let h = need_within (need line.statement) in let r = sizes_within rest in omega arith

-- the text of a program ends below 2 ^ 32
pub text_below : (p : List Class) (files : List (List ℕ)) → IsBuildable p files → TEXT_START + sizes (program_text p files) < 2 ^ 32
text_below p files b =
    let fits = (programs_sound p files b).text_fits in
    let within = sizes_within (program_text p files) in
    omega arith

-- and so do the routines
pub routines_below : (p : List Class) (files : List (List ℕ)) → IsBuildable p files → TEXT_START + sizes all_routine_lines < 2 ^ 32
routines_below p files b =
    let total : TEXT_START + sizes (all_routine_lines ++ classes_code p files (program_constants p files)) < 2 ^ 32 = text_below p files b in
    let s = sizes_append all_routine_lines (classes_code p files (program_constants p files)) in
    omega arith

-- and each class of it
pub class_below : (p : List Class) (files : List (List ℕ)) (n : ℕ) → IsBuildable p files → n < length p
    → TEXT_START + sizes all_routine_lines + sizes (flat_map (class_code p files (program_constants p files)) (numbers_from 0 n)) + sizes (class_code p files (program_constants p files) (class_number n)) < 2 ^ 32
class_below p files n b less =
    let code = class_code p files (program_constants p files) in
    let rest = length p - (n + 1) in
    let split : numbers_from 0 (length p) ≡ numbers_from 0 n ++ numbers_from n (1 + rest) = numbers_parts 0 n (1 + rest) (length p) n (omega arith) (omega arith) in
    let one : numbers_from n (1 + rest) ≡ class_number n ∷ numbers_from (n + 1) rest = numbers_parts n 1 rest (1 + rest) (n + 1) (omega arith) (omega arith) in
    let all : classes_code p files (program_constants p files) ≡ flat_map code (numbers_from 0 n) ++ (code (class_number n) ++ flat_map code (numbers_from (n + 1) rest)) =
    ap (flat_map code) (split ∙ ap (λ (cs : List ClassId). numbers_from 0 n ++ cs) one) ∙ flat_map-append code (numbers_from 0 n) (class_number n ∷ numbers_from (n + 1) rest) in
    let total = text_below p files b in
    let s0 = sizes_append all_routine_lines (classes_code p files (program_constants p files)) in
    let s1 : sizes (classes_code p files (program_constants p files)) ≡ sizes (flat_map code (numbers_from 0 n) ++ (code (class_number n) ++ flat_map code (numbers_from (n + 1) rest))) = ap sizes all in
    let s2 = sizes_append (flat_map code (numbers_from 0 n)) (code (class_number n) ++ flat_map code (numbers_from (n + 1) rest)) in
    let s3 = sizes_append (code (class_number n)) (flat_map code (numbers_from (n + 1) rest)) in
    omega arith

-- the features of a part among the first take no more than those among all
front_sizes : (code : Placed → List Line) (part : Part) (k : ℕ) (xs ys : List Feature) → sizes (flat_map code (part_from part k xs)) ≤ sizes (flat_map code (part_from part k (xs ++ ys)))
front_sizes code Attributes k [] ys = omega arith
front_sizes code Methods k [] ys = omega arith
front_sizes code Attributes k (Method m ∷ xs) ys = front_sizes code Attributes (k + 1) xs ys
front_sizes code Methods k (Attribute a ∷ xs) ys = front_sizes code Methods (k + 1) xs ys
front_sizes code Attributes k (Attribute a ∷ xs) ys =
    let one : Placed = record { place = k; feature = Attribute a } in
    let h = front_sizes code Attributes (k + 1) xs ys in
    let s = sizes_append (code one) (flat_map code (part_from Attributes (k + 1) xs)) in
    let t = sizes_append (code one) (flat_map code (part_from Attributes (k + 1) (xs ++ ys))) in
    omega arith
front_sizes code Methods k (Method m ∷ xs) ys =
    let one : Placed = record { place = k; feature = Method m } in
    let h = front_sizes code Methods (k + 1) xs ys in
    let s = sizes_append (code one) (flat_map code (part_from Methods (k + 1) xs)) in
    let t = sizes_append (code one) (flat_map code (part_from Methods (k + 1) (xs ++ ys))) in
    omega arith

-- a feature of the part, behind those before it
pub feature_within : (code : Placed → List Line) (part : Part) (fs : List Feature) (i : ℕ) (x : Feature) → i < length fs → x ≡ get_or fs i x → i ≡ length (take i fs) → belongs part x ≡ true
    → sizes (flat_map code (part_from part 0 (take i fs))) + sizes (code (record { place = i; feature = x })) ≤ sizes (flat_map code (part_from part 0 fs))
feature_within code part fs i x less is long here =
    let one : Placed = record { place = i; feature = x } in
    let before = part_from part 0 (take i fs) in
    let more : part_from part 0 (take i fs ++ x ∷ []) ≡ before ++ one ∷ [] = part_more part 0 (take i fs) i x (omega arith) ∙ ap (λ (t : Bool). before ++ one_more t i x) here in
    let split : (take i fs ++ x ∷ []) ++ drop (i + 1) fs ≡ fs = ap (λ (gs : List Feature). gs ++ drop (i + 1) fs) (sym (take_more fs i x less is)) ∙ take-append-drop (i + 1) fs in
    let front = front_sizes code part 0 (take i fs ++ x ∷ []) (drop (i + 1) fs) in
    let whole : sizes (flat_map code (part_from part 0 ((take i fs ++ x ∷ []) ++ drop (i + 1) fs))) ≡ sizes (flat_map code (part_from part 0 fs)) = ap (λ (gs : List Feature). sizes (flat_map code (part_from part 0 gs))) split in
    let own : sizes (flat_map code (part_from part 0 (take i fs ++ x ∷ []))) ≡ sizes (flat_map code before ++ code one) =
    ap (λ (ps : List Placed). sizes (flat_map code ps)) more ∙ ap sizes (flat_map-append code before (one ∷ []) ∙ ap (λ (ls : List Line). flat_map code before ++ ls) (append-nil (code one))) in
    let s = sizes_append (flat_map code before) (code one) in
    omega arith

-- lines up to one, and that one, take no more than all
pub line_within : (xs ys : List Line) (x : Line) → sizes xs + size x ≤ sizes (xs ++ x ∷ ys)
line_within xs ys x = let s = sizes_append xs (x ∷ ys) in omega arith

-- an initializer's parts

pub basic_size : (p : List Class) (files : List (List ℕ)) (g : Constants) (c : ClassId) → nat_lt c.0 5 ≡ true → sizes (initializer_code p files g c) ≡ sizes (return_basic_lines (initializer p c))
basic_size p files g c basic =
    ap (λ (t : Bool). sizes (if t then return_basic_lines (initializer p c)
    else begin_init_lines (initializer p c) ++ (enter_lines ++ (parent_code p (parent_of p c) ++ (flat_map (placed_code p files g c) (attributes_in p c) ++ end_code))))) basic

pub full_size : (p : List Class) (files : List (List ℕ)) (g : Constants) (c : ClassId) → nat_lt c.0 5 ≡ false
    → sizes (initializer_code p files g c) ≡ sizes (begin_code p c) + sizes (flat_map (placed_code p files g c) (attributes_in p c)) + sizes end_code
full_size p files g c other =
    let begin = begin_init_lines (initializer p c) in
    let parent = parent_code p (parent_of p c) in
    let own = flat_map (placed_code p files g c) (attributes_in p c) in
    let all : sizes (initializer_code p files g c) ≡ sizes (begin ++ (enter_lines ++ (parent ++ (own ++ end_code)))) =
    ap (λ (t : Bool). sizes (if t then return_basic_lines (initializer p c) else begin ++ (enter_lines ++ (parent ++ (own ++ end_code))))) other in
    let s1 = sizes_append begin (enter_lines ++ (parent ++ (own ++ end_code))) in
    let s2 = sizes_append enter_lines (parent ++ (own ++ end_code)) in
    let s3 = sizes_append parent (own ++ end_code) in
    let s4 = sizes_append own end_code in
    let t1 = sizes_append begin (enter_lines ++ parent) in
    let t2 = sizes_append enter_lines parent in
    omega arith
