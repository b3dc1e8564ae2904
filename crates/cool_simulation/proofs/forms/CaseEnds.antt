-- The code of a case ends the run with the specified error if the value is void, or if no branch matches the class of the value.
use Rattle.std.proofs.Common.{◌≡◌, ℕ, ◌<◌, ◌≤◌, List, [], ◌∷◌, ◌++◌, length, get_or, Some, ap, sym, ◌∙◌, refl, subst, arith, append_assoc}
use Rattle.std.specs.Prelude.{codes, Contains}
use Rattle.std.specs.Fmt.{signed_decimal}
use Rattle.mips_isa.specs.declared.address_map.TheConstants.{HEAP_START}
use Rattle.mips_isa.specs.Bytes.{Bytes, word}
use Rattle.mips_isa.specs.Calls.{State as Machine, signed}
use Rattle.cool_syntax.specs.declared.place.Place.{Place}
use Rattle.cool_classes.specs.declared.class_id.ClassId.{ClassId}
use Rattle.cool_classes.specs.Chains.{class_number, name_of}
use Rattle.cool_runtime.specs.Reaches.{Tags, Reaches, exits}
use Rattle.cool_runtime.specs.Labels.{case_abort, colon_text, no_branch_text, stop_text}
use Rattle.cool_runtime.specs.RoutineLabels.{case_void, case_text}
use Rattle.cool_runtime.specs.Contents.{StringAt, Tagged}
use Rattle.cool_runtime.specs.Machines.{Pointers, Console}
use Rattle.cool_runtime.specs.declared.catalogue.Routine.TheVariants as routines
use Rattle.cool_runtime.proofs.MeaningsMet.{means}
use Rattle.cool_layout.specs.Preorder.{tag}
use Rattle.cool_codegen.specs.Code.{file_label}
use Rattle.cool_meaning.specs.Values.{Value, Void, Int, Bool, Str, Obj, State, class_of}
use Rattle.cool_meaning.specs.Meters.{CaseVoid, NoBranch}
use Rattle.cool_meaning.specs.SourceRun.{error_text}
use Rattle.cool_simulation.specs.Loadings.{Loading, IsLoaded, constants, context}
use Rattle.cool_simulation.specs.Pictures.{Map, Pic, Pictures, Shows}
use Rattle.cool_simulation.specs.Simulation.{Stopped}
use Rattle.cool_simulation.proofs.ground.DataHere.{name_here, text_here, string_pic}
use Rattle.cool_simulation.proofs.ground.CallErrors.{placed_text, stops}
use Rattle.cool_simulation.proofs.forms.CallLines.{AtPlace}
use Rattle.cool_simulation.proofs.forms.CaseLines.{AtTag}

module _ (l : Loading) (is : IsLoaded l) (m : Bytes) (map : Map) (st : State) (q : Pointers) (from : HEAP_START ≤ q.gp) (pictures : Pictures l.table l.world l.memory m map st q.gp q.sp) where
  -- the object of a value has the tag of its class
  pub value_tagged : (v : Value) (j : ClassId) (a : ℕ) → class_of v ≡ Some j → Pic l.world m map st.drawn q.gp v a → Tagged l.world m q.gp a (tag l.table j)
  value_tagged Void j a e pic = absurd (cc)
  value_tagged (Int n) j a e pic =
      let same : class_number 2 ≡ j = cc in
      let lies = pic.0.lies in
      record { lies = omega arith; tag_is = pic.0.head.tag_is ∙ (ap (λ (t : Tags). t.int) is.tags ∙ ap (tag l.table) same) }
  value_tagged (Bool x) j a e pic =
      let same : class_number 3 ≡ j = cc in
      let lies = pic.0.lies in
      record { lies = omega arith; tag_is = pic.0.head.tag_is ∙ (ap (λ (t : Tags). t.bool) is.tags ∙ ap (tag l.table) same) }
  value_tagged (Str bytes) j a e pic =
      let same : class_number 4 ≡ j = cc in
      let lies = pic.0.lies in
      record { lies = omega arith; tag_is = pic.0.head.tag_is ∙ (ap (λ (t : Tags). t.string) is.tags ∙ ap (tag l.table) same) }
  value_tagged (Obj c i ls) j a e pic =
      let same : c ≡ j = cc in
      let o = pictures.objects i pic.1 in
      let place_is : a ≡ map.address i = pic.0 in
      let class_is : map.class i ≡ j = sym pic.2 ∙ same in
      let even = o.even in
      let start = o.from in
      let to = o.to in
      record { lies = omega arith; tag_is = ap (word m) place_is ∙ (o.head.tag_is ∙ ap (tag l.table) class_is) }

  pub void_stops : (at : Place) (c : ClassId) (f : ℕ) (console : Console) (u : Machine) → Contains (constants l).strings (get_or l.files at.file []) → at.line < 2147483648 → Shows st console
      → AtPlace l.world (record q { pc = l.world.place case_void }) m console (file_label (context l c f) (constants l) at) at.line u
      → Reaches l.world u 0 16 (exits 3 (Stopped l (CaseVoid at) st))
  void_stops at c f console u among small shows there =
      let w = l.world in
      let file = string_pic l is m map st q.gp q.sp from pictures (get_or l.files at.file []) among in
      stops l (CaseVoid at) st console _ u 16 shows (placed_text l.files at (codes "Case on void.") small)
      (means w routines.CaseVoid (record q { pc = w.place case_void }) m console u (get_or l.files at.file []) (codes ":") (codes ": Case on void.\n") at.line (is.routines routines.CaseVoid) there.at refl
      (subst (λ x. StringAt w m q.gp x (get_or l.files at.file [])) (sym there.file_is) file.0) there.line_is (omega arith)
      (text_here l is m map st q.gp q.sp from pictures (w.place colon_text) (codes ":") is.colon_text) (text_here l is m map st q.gp q.sp from pictures (w.place case_text) (codes ": Case on void.\n") is.case_text))

  no_branch_words : (at : Place) (j : ClassId) → at.line < 2147483648
      → error_text l.table l.files (NoBranch at j)
      ≡ (get_or l.files at.file [] ++ (codes ":" ++ signed_decimal (signed at.line))) ++ (codes ": No matching branch for class " ++ (name_of l.table j ++ codes ".\n"))
  no_branch_words at j small =
      let file = get_or l.files at.file [] in
      let digits = signed_decimal (signed at.line) in
      let name = name_of l.table j in
      placed_text l.files at (codes "No matching branch for class " ++ (name ++ codes ".")) small
      ∙ (ap (λ (x : List ℕ). file ++ (codes ":" ++ (digits ++ (codes ": No matching branch for class " ++ x)))) (append_assoc name (codes ".") (10 ∷ []))
      ∙ sym (append_assoc file (codes ":" ++ digits) (codes ": No matching branch for class " ++ (name ++ codes ".\n"))))

  pub no_branch_stops : (at : Place) (c : ClassId) (f : ℕ) (v : Value) (j : ClassId) (console : Console) (u : Machine) → j.0 < length l.table → class_of v ≡ Some j → Pic l.world m map st.drawn q.gp v q.acc
      → Contains (constants l).strings (get_or l.files at.file []) → at.line < 2147483648 → Shows st console
      → AtTag l.world (record q { pc = l.world.place case_abort }) m console (file_label (context l c f) (constants l) at) at.line (tag l.table j) u
      → Reaches l.world u 0 27 (exits 3 (Stopped l (NoBranch at j) st))
  no_branch_stops at c f v j console u j_in e pic among small shows there =
      let w = l.world in
      let file = string_pic l is m map st q.gp q.sp from pictures (get_or l.files at.file []) among in
      stops l (NoBranch at j) st console _ u 27 shows (no_branch_words at j small)
      (means w routines.NoBranch (record q { pc = w.place case_abort }) m console u (tag l.table j) at.line (name_of l.table j) (get_or l.files at.file []) (codes ":") (codes ": No matching branch for class ") (codes ".\n")
      (is.routines routines.NoBranch) there.at refl (value_tagged v j q.acc e pic) (name_here l is m map st q.gp q.sp from pictures j j_in)
      (subst (λ x. StringAt w m q.gp x (get_or l.files at.file [])) (sym there.file_is) file.0) there.line_is (omega arith)
      (text_here l is m map st q.gp q.sp from pictures (w.place colon_text) (codes ":") is.colon_text)
      (text_here l is m map st q.gp q.sp from pictures (w.place no_branch_text) (codes ": No matching branch for class ") is.no_branch_text)
      (text_here l is m map st q.gp q.sp from pictures (w.place stop_text) (codes ".\n") is.stop_text))
