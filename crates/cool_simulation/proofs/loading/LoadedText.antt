-- In the machine of a loaded program, the code of each run-time routine, method and initializer is in the text under its label.
use Rattle.std.proofs.Common.{◌≡◌, ℕ, zero, suc, ◌+◌, ◌*◌, ◌<◌, List, [], ◌∷◌, ◌++◌, length, drop, flat_map, Bool, true, false, Some, Contains, refl, sym, ap, ◌∙◌, subst, arith}
use Rattle.std.specs.Prelude.{slice_get, nat_lt, if◌then◌else◌}
use Rattle.cool_syntax.specs.declared.file_tree.Feature.{Feature}
use Rattle.cool_syntax.specs.declared.file_tree.Feature.TheVariants.{Method, Attribute}
use Rattle.cool_syntax.specs.declared.file_tree.MethodDef.{MethodDef}
use Rattle.mips_isa.specs.declared.address_map.TheConstants.{TEXT_START}
use Rattle.mips_isa.specs.Lines.{Name, Line, ToData}
use Rattle.mips_isa.specs.Assembly.{directive_line}
use Rattle.cool_classes.specs.declared.class_id.ClassId.{ClassId}
use Rattle.cool_classes.specs.declared.method.MethodRef.TheVariants.{User}
use Rattle.cool_classes.specs.Chains.{Class, features_of}
use Rattle.cool_runtime.specs.Reaches.{World}
use Rattle.cool_runtime.specs.Standing.{HasLines, sizes}
use Rattle.cool_runtime.specs.Images as images
use Rattle.cool_runtime.specs.Instructions.{label}
use Rattle.cool_runtime.specs.RoutineLines.{routine_lines, object_routines_lines, io_routines_lines, value_routines_lines, error_routines_lines, limit_routines_lines, all_routine_lines}
use Rattle.cool_runtime.specs.declared.catalogue.Routine.{Routine}
use Rattle.cool_runtime.specs.declared.catalogue.Routine.TheVariants as routines
use Rattle.cool_runtime.proofs.LinesOfImages.{has_lines}
use Rattle.cool_runtime.proofs.Pieces.{has_front, has_back}
use Rattle.cool_layout.specs.Preorder.{numbers_from}
use Rattle.cool_layout.specs.Labels.{initializer, method_label}
use Rattle.cool_consts.specs.Constants.{Constants}
use Rattle.cool_codegen.specs.Pieces.{begin_init_lines, return_basic_lines, mark_lines}
use Rattle.cool_codegen.specs.Features.{method_code}
use Rattle.cool_emit.specs.SoundLines.{AreText, labels_of, joined_lines}
use Rattle.cool_emit.specs.Programs.{Placed, methods_from, methods_in, placed_code, initializer_code, class_code, classes_code, program_constants, program_text, program_data}
use Rattle.cool_emit.proofs.RoomOfLines.{needs_text}
use Rattle.cool_emit.proofs.LabelsOfParts.{number_there}
use Rattle.cool_simulation.specs.Loadings.{routine_label}
use Rattle.cool_simulation.proofs.loading.PartsOfLines.{Among, among_whole, among_left, among_right, among_flat, among_within}
use Rattle.cool_simulation.proofs.loading.LoadedImages.{HasImage, is_image}
use Rattle.lists.proofs.Membership.{later_there}

-- lines of text take words, or nothing
takes_text : (target known : Name → Type 0) (lines : List Line) → AreText target known lines → images.AreText lines
takes_text target known [] all = tt
takes_text target known (line ∷ rest) all = (needs_text target known line.statement all.0, takes_text target known rest all.1)

module _ (text items : List Line) (w : World) (g : HasImage text items w) where
  pub whole_text : HasLines w (TEXT_START + 4 * 0) text
  whole_text =
      has_lines w (joined_lines text items) (is_image text items g.sound w g.text_is g.place_is g.text_end) [] text (directive_line ToData ∷ items) refl
      (takes_text (Contains (labels_of text)) (Contains (labels_of (joined_lines text items))) text g.sound.text_lines) refl

  -- a part of the text stands somewhere
  pub lines_at : (part : List Line) → Among text part → (pc : ℕ) × HasLines w pc part
  lines_at part h =
      let pc : ℕ = TEXT_START + 4 * 0 in
      (pc + sizes h.front, has_front w part h.back (pc + sizes h.front) (has_back w h.front (part ++ h.back) pc (pc + sizes h.front) refl (subst (HasLines w pc) h.split whole_text)))

  -- and one that begins with a label under it
  pub labelled_lines : (n : Name) (part : List Line) → part ≡ label n ∷ drop 1 part → Among text part → HasLines w (w.place n) part
  labelled_lines n part begins h =
      let (pc, has) = lines_at part h in
      let first : HasLines w pc (label n ∷ drop 1 part) = subst (HasLines w pc) begins has in
      subst (λ a. HasLines w a part) (sym first.0.labels.0) has

-- The routines

abbrev limit_part : List Line
limit_part = limit_routines_lines

abbrev error_part : List Line
error_part = error_routines_lines ++ limit_part

abbrev value_part : List Line
value_part = value_routines_lines ++ error_part

abbrev io_part : List Line
io_part = io_routines_lines ++ value_part

object_routines : Among all_routine_lines object_routines_lines
object_routines = among_left all_routine_lines object_routines_lines io_part (among_whole all_routine_lines)

from_io : Among all_routine_lines io_part
from_io = among_right all_routine_lines object_routines_lines io_part (among_whole all_routine_lines)

from_value : Among all_routine_lines value_part
from_value = among_right all_routine_lines io_routines_lines value_part from_io

from_error : Among all_routine_lines error_part
from_error = among_right all_routine_lines value_routines_lines error_part from_value

io_routines : Among all_routine_lines io_routines_lines
io_routines = among_left all_routine_lines io_routines_lines value_part from_io

value_routines : Among all_routine_lines value_routines_lines
value_routines = among_left all_routine_lines value_routines_lines error_part from_value

error_routines : Among all_routine_lines error_routines_lines
error_routines = among_left all_routine_lines error_routines_lines limit_part from_error

limit_routines : Among all_routine_lines limit_routines_lines
limit_routines = among_right all_routine_lines error_routines_lines limit_part from_error

-- four parts of a part
module _ (all a b c d : List Line) (h : Among all (a ++ (b ++ (c ++ d)))) where
  first_of : Among all a
  first_of = among_left all a (b ++ (c ++ d)) h

  second_of : Among all b
  second_of = among_left all b (c ++ d) (among_right all a (b ++ (c ++ d)) h)

  third_of : Among all c
  third_of = among_left all c d (among_right all b (c ++ d) (among_right all a (b ++ (c ++ d)) h))

  fourth_of : Among all d
  fourth_of = among_right all c d (among_right all b (c ++ d) (among_right all a (b ++ (c ++ d)) h))

pub among_routines : (r : Routine) → Among all_routine_lines (routine_lines r)
among_routines routines.Start = first_of all_routine_lines (routine_lines routines.Start) (routine_lines routines.Copy) (routine_lines routines.Abort) (routine_lines routines.TypeName) object_routines
among_routines routines.Copy = second_of all_routine_lines (routine_lines routines.Start) (routine_lines routines.Copy) (routine_lines routines.Abort) (routine_lines routines.TypeName) object_routines
among_routines routines.Abort = third_of all_routine_lines (routine_lines routines.Start) (routine_lines routines.Copy) (routine_lines routines.Abort) (routine_lines routines.TypeName) object_routines
among_routines routines.TypeName = fourth_of all_routine_lines (routine_lines routines.Start) (routine_lines routines.Copy) (routine_lines routines.Abort) (routine_lines routines.TypeName) object_routines
among_routines routines.OutString = first_of all_routine_lines (routine_lines routines.OutString) (routine_lines routines.OutInt) (routine_lines routines.InString) (routine_lines routines.InInt) io_routines
among_routines routines.OutInt = second_of all_routine_lines (routine_lines routines.OutString) (routine_lines routines.OutInt) (routine_lines routines.InString) (routine_lines routines.InInt) io_routines
among_routines routines.InString = third_of all_routine_lines (routine_lines routines.OutString) (routine_lines routines.OutInt) (routine_lines routines.InString) (routine_lines routines.InInt) io_routines
among_routines routines.InInt = fourth_of all_routine_lines (routine_lines routines.OutString) (routine_lines routines.OutInt) (routine_lines routines.InString) (routine_lines routines.InInt) io_routines
among_routines routines.Length = first_of all_routine_lines (routine_lines routines.Length) (routine_lines routines.Concat) (routine_lines routines.Substr) (routine_lines routines.Equal) value_routines
among_routines routines.Concat = second_of all_routine_lines (routine_lines routines.Length) (routine_lines routines.Concat) (routine_lines routines.Substr) (routine_lines routines.Equal) value_routines
among_routines routines.Substr = third_of all_routine_lines (routine_lines routines.Length) (routine_lines routines.Concat) (routine_lines routines.Substr) (routine_lines routines.Equal) value_routines
among_routines routines.Equal = fourth_of all_routine_lines (routine_lines routines.Length) (routine_lines routines.Concat) (routine_lines routines.Substr) (routine_lines routines.Equal) value_routines
among_routines routines.DispatchVoid = first_of all_routine_lines (routine_lines routines.DispatchVoid) (routine_lines routines.CaseVoid) (routine_lines routines.NoBranch) (routine_lines routines.DivZero) error_routines
among_routines routines.CaseVoid = second_of all_routine_lines (routine_lines routines.DispatchVoid) (routine_lines routines.CaseVoid) (routine_lines routines.NoBranch) (routine_lines routines.DivZero) error_routines
among_routines routines.NoBranch = third_of all_routine_lines (routine_lines routines.DispatchVoid) (routine_lines routines.CaseVoid) (routine_lines routines.NoBranch) (routine_lines routines.DivZero) error_routines
among_routines routines.DivZero = fourth_of all_routine_lines (routine_lines routines.DispatchVoid) (routine_lines routines.CaseVoid) (routine_lines routines.NoBranch) (routine_lines routines.DivZero) error_routines
among_routines routines.SubstrRange = first_of all_routine_lines (routine_lines routines.SubstrRange) (routine_lines routines.Overflow) (routine_lines routines.HeapLimit) (routine_lines routines.StackLimit) limit_routines
among_routines routines.Overflow = second_of all_routine_lines (routine_lines routines.SubstrRange) (routine_lines routines.Overflow) (routine_lines routines.HeapLimit) (routine_lines routines.StackLimit) limit_routines
among_routines routines.HeapLimit = third_of all_routine_lines (routine_lines routines.SubstrRange) (routine_lines routines.Overflow) (routine_lines routines.HeapLimit) (routine_lines routines.StackLimit) limit_routines
among_routines routines.StackLimit = fourth_of all_routine_lines (routine_lines routines.SubstrRange) (routine_lines routines.Overflow) (routine_lines routines.HeapLimit) (routine_lines routines.StackLimit) limit_routines

pub routine_begins : (r : Routine) → routine_lines r ≡ label (routine_label r) ∷ drop 1 (routine_lines r)
unfolding routine_lines
routine_begins routines.Start = refl
routine_begins routines.Copy = refl
routine_begins routines.Abort = refl
routine_begins routines.TypeName = refl
routine_begins routines.OutString = refl
routine_begins routines.OutInt = refl
routine_begins routines.InString = refl
routine_begins routines.InInt = refl
routine_begins routines.Length = refl
routine_begins routines.Concat = refl
routine_begins routines.Substr = refl
routine_begins routines.Equal = refl
routine_begins routines.DispatchVoid = refl
routine_begins routines.CaseVoid = refl
routine_begins routines.NoBranch = refl
routine_begins routines.DivZero = refl
routine_begins routines.SubstrRange = refl
routine_begins routines.Overflow = refl
routine_begins routines.HeapLimit = refl
routine_begins routines.StackLimit = refl

-- The methods of a class

pub method_placed : (j k : ℕ) (fs : List Feature) (m : MethodDef) → slice_get fs k ≡ Some (Method m) → Contains (methods_from j fs) (record { place = j + k; feature = Method m })
method_placed j k [] m is = absurd (cc)
method_placed j zero (Method x ∷ fs) m is =
    let e : j ≡ j + 0 = omega arith in
    let same : x ≡ m = cc in
    (0, omega arith, ap (λ i. record { place = i; feature = Method x }) e ∙ ap (λ (y : MethodDef). record { place = j + 0; feature = Method y }) same)
method_placed j zero (Attribute a ∷ fs) m is = absurd (cc)
method_placed j (suc k) (Method x ∷ fs) m is =
    let e : j + 1 + k ≡ j + suc k = omega arith in
    later_there (record { place = j; feature = Method x }) (methods_from (j + 1) fs) (record { place = j + suc k; feature = Method m })
    (subst (λ i. Contains (methods_from (j + 1) fs) (record { place = i; feature = Method m })) e (method_placed (j + 1) k fs m is))
method_placed j (suc k) (Attribute a ∷ fs) m is =
    let e : j + 1 + k ≡ j + suc k = omega arith in
    subst (λ i. Contains (methods_from (j + 1) fs) (record { place = i; feature = Method m })) e (method_placed (j + 1) k fs m is)

-- either of two lists that begin with a line
either : (line : Line) (xs ys : List Line) (b : Bool) → (if b then line ∷ xs else line ∷ ys) ≡ line ∷ drop 1 (if b then line ∷ xs else line ∷ ys)
either line xs ys true = refl
either line xs ys false = refl

module _ (p : List Class) (files : List (List ℕ)) (w : World) (g : HasImage (program_text p files) (program_data p files) w) where
  abbrev table : Constants
  table = program_constants p files

  among_classes : Among (program_text p files) (classes_code p files table)
  among_classes = among_right (program_text p files) all_routine_lines (classes_code p files table) (among_whole (program_text p files))

  among_class : (c : ClassId) → c.0 < length p → Among (program_text p files) (class_code p files table c)
  among_class c within = among_flat (program_text p files) (class_code p files table) (numbers_from 0 (length p)) c (number_there 0 (length p) c (omega arith) (omega arith)) among_classes

  pub routine_there : (r : Routine) → HasLines w (w.place (routine_label r)) (routine_lines r)
  routine_there r =
      labelled_lines (program_text p files) (program_data p files) w g (routine_label r) (routine_lines r) (routine_begins r)
      (among_within (program_text p files) all_routine_lines (routine_lines r) (among_left (program_text p files) all_routine_lines (classes_code p files table) (among_whole (program_text p files))) (among_routines r))

  initializer_begins : (c : ClassId) → initializer_code p files table c ≡ label (initializer p c) ∷ drop 1 (initializer_code p files table c)
  unfolding begin_init_lines return_basic_lines
  initializer_begins c = either (label (initializer p c)) _ _ (nat_lt c.0 5)

  pub initializer_there : (c : ClassId) → c.0 < length p → HasLines w (w.place (initializer p c)) (initializer_code p files table c)
  initializer_there c within =
      labelled_lines (program_text p files) (program_data p files) w g (initializer p c) (initializer_code p files table c) (initializer_begins c)
      (among_left (program_text p files) (initializer_code p files table c) (flat_map (placed_code p files table c) (methods_in p c)) (among_class c within))

  method_begins : (c : ClassId) (k : ℕ) (m : MethodDef)
      → method_code (record { table = p; class = c; feature = k; files = files }) table m.formals m.body ≡ label (method_label p (User c k)) ∷ drop 1 (method_code (record { table = p; class = c; feature = k; files = files }) table m.formals m.body)
  unfolding mark_lines
  method_begins c k m = refl

  pub method_there : (c : ClassId) (k : ℕ) (m : MethodDef) → c.0 < length p → slice_get (features_of p c) k ≡ Some (Method m)
      → HasLines w (w.place (method_label p (User c k))) (method_code (record { table = p; class = c; feature = k; files = files }) table m.formals m.body)
  method_there c k m within is =
      let e : 0 + k ≡ k = omega arith in
      let placed : Placed = record { place = k; feature = Method m } in
      labelled_lines (program_text p files) (program_data p files) w g (method_label p (User c k)) (placed_code p files table c placed) (method_begins c k m)
      (among_flat (program_text p files) (placed_code p files table c) (methods_in p c) placed
      (subst (λ i. Contains (methods_in p c) (record { place = i; feature = Method m })) e (method_placed 0 k (features_of p c) m is))
      (among_right (program_text p files) (initializer_code p files table c) (flat_map (placed_code p files table c) (methods_in p c)) (among_class c within)))
