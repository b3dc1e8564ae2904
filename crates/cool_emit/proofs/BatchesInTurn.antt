-- The batches of a program (groups of assembly lines made one at a time) joined in order are the program's lines, and the constants used so far are those of
-- the batches so far.
use Rattle.std.proofs.Common.{◌≡◌, ◌∙◌, ℕ, zero, suc, ◌+◌, ◌<◌, ◌≤◌, List, [], ◌∷◌, ◌++◌, length, map, take, drop, get_or, slice_get, Some, ap, refl, sym, subst, arith, append_assoc, append-nil, length-append}
use native.Mathlib.Numerals.{add-one}
use Rattle.std.specs.Option.{option_map}
use Rattle.std.proofs.lemmas.Grind.{flat_map-append}
use Rattle.std.proofs.lemmas.List.{drop_all, length-map}
use Rattle.std.proofs.lemmas.List.Folds.{flat_map-map}
use Rattle.std.proofs.lemmas.Option.{slice_get-map, slice_get_read}
use Rattle.mips_isa.specs.Lines.{Line, ToData, IsInRange, AreInRange}
use Rattle.mips_isa.specs.Assembly.{directive_line}
use Rattle.cool_classes.specs.Chains.{Class}
use Rattle.cool_consts.specs.Constants.{Constants}
use Rattle.cool_emit.specs.Batches.{asked_by, batches_of, joined, AreAsked}
use Rattle.cool_emit.specs.Programs.{program_constants, program_data, program_lines, IsBuildable}
use Rattle.cool_emit.specs.Sections.{section_code, sections_in}
use Rattle.cool_emit.specs.declared.section.Section.{Section}
use Rattle.cool_emit.proofs.AddingParts.{whole_front}
use Rattle.cool_emit.proofs.SectionsInTurn.{all_asked, all_in_range, lines_in_parts}
use Rattle.lists.proofs.AllItems.{all_left, all_right}
use Rattle.lists.proofs.ItemsAt.{after_get, seam_get}

-- the lines of batches up to one of them, and from it on

some_same : (x y : List Line) → Some x ≡ Some y → x ≡ y
some_same x y e = cc

front_more : (all : List (List Line)) (k : ℕ) (x : List Line) → slice_get all k ≡ Some x → joined (take (suc k) all) ≡ joined (take k all) ++ x
front_more [] k x e = absurd (cc)
front_more (y ∷ all) zero x e = append-nil y ∙ some_same y x e
front_more (y ∷ all) (suc k) x e = ap (λ (ls : List Line). y ++ ls) (front_more all k x e) ∙ sym (append_assoc y (joined (take k all)) x)

pub joined_more : (all : List (List Line)) (k : ℕ) (x : List Line) → slice_get all k ≡ Some x → joined (take (k + 1) all) ≡ joined (take k all) ++ x
joined_more all k x e = subst (λ (j : ℕ). joined (take j all) ≡ joined (take k all) ++ x) (sym (add-one k)) (front_more all k x e)

rest_less : (all : List (List Line)) (k : ℕ) (x : List Line) → slice_get all k ≡ Some x → joined (drop k all) ≡ x ++ joined (drop (suc k) all)
rest_less [] k x e = absurd (cc)
rest_less (y ∷ all) zero x e = ap (λ (ls : List Line). ls ++ joined all) (some_same y x e)
rest_less (y ∷ all) (suc k) x e = rest_less all k x e

pub joined_less : (all : List (List Line)) (k : ℕ) (x : List Line) → slice_get all k ≡ Some x → joined (drop k all) ≡ x ++ joined (drop (k + 1) all)
joined_less all k x e = subst (λ (j : ℕ). joined (drop k all) ≡ x ++ joined (drop j all)) (sym (add-one k)) (rest_less all k x e)

pub joined_parts : (all : List (List Line)) (k : ℕ) → joined all ≡ joined (take k all) ++ joined (drop k all)
joined_parts [] zero = refl
joined_parts [] (suc k) = refl
joined_parts (y ∷ all) zero = refl
joined_parts (y ∷ all) (suc k) =
    ap (λ (ls : List Line). y ++ ls) (joined_parts all k) ∙ sym (append_assoc y (joined (take k all)) (joined (drop k all)))

pub all_joined : (all : List (List Line)) (k : ℕ) → length all ≤ k → joined (take k all) ≡ joined all
all_joined all k long = ap joined (whole_front all k long)

pub none_left : (all : List (List Line)) (k : ℕ) → length all ≤ k → joined (drop k all) ≡ []
none_left all k long = ap joined (drop_all k all long)

module _ (p : List Class) (files : List (List ℕ)) where
  abbrev code : Section → List Line
  code = section_code p files (program_constants p files)

  abbrev last : List Line
  last = directive_line ToData ∷ program_data p files

  pub how_many : length (batches_of p files) ≡ length (sections_in p) + 1
  how_many = omega (arith, length-append (map code (sections_in p)) (last ∷ []), length-map (sections_in p) code)

  -- the batch of a section, and that of the data
  pub section_there : (k : ℕ) (s : Section) → k < length (sections_in p) → s ≡ get_or (sections_in p) k s → slice_get (batches_of p files) k ≡ Some (code s)
  section_there k s less is =
      after_get (map code (sections_in p)) (last ∷ []) k (code s)
      (slice_get-map code (sections_in p) k ∙ ap (option_map code) (slice_get_read (sections_in p) (length (sections_in p)) k s refl less is))

  pub data_there : slice_get (batches_of p files) (length (sections_in p)) ≡ Some last
  data_there = subst (λ (k : ℕ). slice_get (batches_of p files) k ≡ Some last) (length-map (sections_in p) code) (seam_get (map code (sections_in p)) last [])

  module _ (b : IsBuildable p files) where
    -- all of them are the lines of the program, whose numbers are in their ranges
    pub all_lines : joined (batches_of p files) ≡ program_lines p files
    all_lines =
        flat_map-append (λ (ls : List Line). ls) (map code (sections_in p)) (last ∷ [])
        ∙ (λ i. flat_map-map (λ (ls : List Line). ls) code (sections_in p) i ++ append-nil last i)
        ∙ sym (lines_in_parts p files b)

    ranges : AreInRange (joined (batches_of p files))
    ranges = subst AreInRange (sym (all_lines ∙ lines_in_parts p files b)) (all_in_range p files b)

    pub ranges_of_front : (k : ℕ) → AreInRange (joined (take k (batches_of p files)))
    ranges_of_front k =
        all_left (λ (line : Line). IsInRange line.statement) (joined (take k (batches_of p files))) (joined (drop k (batches_of p files)))
        (subst AreInRange (joined_parts (batches_of p files) k) ranges)

    pub ranges_of_batch : (k : ℕ) (x : List Line) → slice_get (batches_of p files) k ≡ Some x → AreInRange x
    ranges_of_batch k x is =
        all_right (λ (line : Line). IsInRange line.statement) (joined (take k (batches_of p files))) x
        (subst AreInRange (joined_more (batches_of p files) k x is) (ranges_of_front (k + 1)))

    -- The constants for which all sections ask are those of the program, and it asks for no others.
    pub asked_in_all : (k : ℕ) (t : Constants) → length (sections_in p) ≤ k → AreAsked p files k t → t ≡ program_constants p files
    asked_in_all k t long h =
        h.1.1 ∙ (ap (asked_by p files) (whole_front (sections_in p) h.0 (let least = h.1.0 in omega arith)) ∙ all_asked p files b)

    pub all_are_asked : (k : ℕ) → AreAsked p files k (program_constants p files)
    all_are_asked k = (
      length (sections_in p) + k,
      (omega arith, sym (all_asked p files b) ∙ ap (asked_by p files) (sym (whole_front (sections_in p) (length (sections_in p) + k) (omega arith)))),
    )

    -- after the first of them the others are left
    pub left_behind : (k : ℕ) (x : List Line) → x ≡ joined (take k (batches_of p files)) → program_lines p files ≡ x ++ joined (drop k (batches_of p files))
    left_behind k x is =
        sym all_lines
        ∙ (joined_parts (batches_of p files) k ∙ ap (λ (ls : List Line). ls ++ joined (drop k (batches_of p files))) (sym is))
