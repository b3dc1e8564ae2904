-- A part of a program adds no more constants than its weight, which bounds them by the size of the source.
use Rattle.std.proofs.Common.{◌≡◌, ◌∙◌, ℕ, zero, suc, ◌+◌, ◌*◌, ◌≤◌, List, [], ◌∷◌, ◌++◌, length, take, get_or, ap, arith}
use Rattle.mips_isa.specs.Lines.{Line}
use Rattle.cool_syntax.specs.declared.file_tree.Feature.{Feature}
use Rattle.cool_syntax.specs.Weights.{features_weight}
use Rattle.cool_classes.specs.declared.class_id.ClassId.{ClassId}
use Rattle.cool_classes.specs.Chains.{Class, class_number, nothing, features_of}
use Rattle.cool_rules.specs.Fits.{weight_of}
use Rattle.cool_layout.specs.Preorder.{numbers_from}
use Rattle.cool_consts.specs.Constants.{Constants}
use Rattle.cool_emit.specs.Additions.{Adds, integers_asked, strings_asked}
use Rattle.cool_emit.specs.declared.emission.Part.{Part}
use Rattle.cool_emit.specs.declared.emission.Part.TheVariants.{Attributes, Methods}
use Rattle.cool_emit.specs.Programs.{Placed, IsBuildable}
use Rattle.cool_emit.proofs.AddingParts.{part_from}
use Rattle.cool_emit.proofs.ClassesInTurn.{placed_weight, parts_weigh, table_weight}
use Rattle.cool_emit.proofs.ConstantsAsked.{few_with_integers, few_with_strings, few_integers_asked, few_strings_asked}
use Rattle.cool_emit.proofs.Totals.{total}

-- a part weighs no more than the features among which it is
part_weight : (part : Part) (fs : List Feature) → total placed_weight (part_from part 0 fs) ≤ features_weight fs
part_weight Attributes fs = omega (arith, parts_weigh 0 fs)
part_weight Methods fs = omega (arith, parts_weigh 0 fs)

-- a front of features weighs no more than all
front_weight : (i : ℕ) (fs : List Feature) → features_weight (take i fs) ≤ features_weight fs
front_weight zero fs = omega arith
front_weight (suc i) [] = omega arith
front_weight (suc i) (f ∷ fs) = omega (arith, front_weight i fs)

-- the features of a class weigh no more than the table
class_weight : (p : List Class) (k : ℕ) → features_weight (get_or p k nothing).features ≤ weight_of p
class_weight [] k = omega arith
class_weight (c ∷ p) zero = omega arith
class_weight (c ∷ p) (suc k) = omega (arith, class_weight p k)

-- the features of a class weigh little
pub light_class : (p : List Class) (files : List (List ℕ)) → IsBuildable p files → (c : ClassId)
    → features_weight (features_of p c) ≤ 1048602
light_class p files b c = omega (arith, class_weight p c.0, table_weight p files b)

-- and so do the first features of a part of it
pub light_part : (p : List Class) (files : List (List ℕ)) → IsBuildable p files → (c : ClassId) (part : Part) (i : ℕ)
    → total placed_weight (part_from part 0 (take i (features_of p c))) ≤ 1048602
light_part p files b c part i =
    omega (arith, part_weight part (take i (features_of p c)), front_weight i (features_of p c), light_class p files b c)

-- the constants added are no more than the weight
pub few_more_integers : (files : List (List ℕ)) (fs : List Placed) (code : Constants → List Line) (a b : Constants)
    (x y : List Line) → Adds files fs code a b x y → length b.integers ≤ length a.integers + total placed_weight fs
few_more_integers files fs code a b x y h =
    let same : length b.integers ≡ _ = ap (λ (t : Constants). length t.integers) h.constants in
    omega (arith, same, few_with_integers a.integers (integers_asked fs), few_integers_asked fs)

pub few_more_strings : (files : List (List ℕ)) (fs : List Placed) (code : Constants → List Line) (a b : Constants)
    (x y : List Line) → Adds files fs code a b x y → length b.strings ≤ length a.strings + 2 * total placed_weight fs
few_more_strings files fs code a b x y h =
    let same : length b.strings ≡ _ = ap (λ (t : Constants). length t.strings) h.constants in
    omega (arith, same, few_with_strings a.strings (strings_asked files fs), few_strings_asked files fs)

-- numbers of classes in two parts
pub numbers_parts : (k a b m j : ℕ) → m ≡ a + b → j ≡ k + a → numbers_from k m ≡ numbers_from k a ++ numbers_from j b
numbers_parts k zero b m j whole from =
    let same : m ≡ b = omega arith in
    let here : k ≡ j = omega arith in
    ap (numbers_from k) same ∙ ap (λ (i : ℕ). numbers_from i b) here
numbers_parts k (suc a) b zero j whole from = absurd (omega arith)
numbers_parts k (suc a) b (suc m) j whole from =
    ap (λ (cs : List ClassId). class_number k ∷ cs) (numbers_parts (k + 1) a b m j (omega arith) (omega arith))
