-- The instructions of `new` copy the prototype of the named class, or of the class of `self`, and then call the initializer of this class.
use Rattle.std.proofs.Common.{◌≡◌, ℕ, ◌+◌, ◌*◌, ◌%◌, ◌<◌, ◌≤◌, List, [], ◌∷◌, refl, ◌∙◌, subst, arith, ◌++◌}
use Rattle.std.specs.Prelude.{pos}
use Rattle.mips_isa.specs.Bytes.{Bytes, word}
use Rattle.mips_isa.specs.Machine.{wrap}
use Rattle.mips_isa.specs.Calls.{State}
use Rattle.mips_isa.specs.Lines.{Line, Name}
use Rattle.cool_runtime.specs.Reaches.{World, Reaches, stands, OnTheWay}
use Rattle.cool_runtime.specs.Standing.{HasLines, InstructionAt, InstructionsAt}
use Rattle.cool_runtime.specs.Walk.{beside}
use Rattle.cool_runtime.specs.Labels.{copy}
use Rattle.cool_runtime.specs.RoutineLabels.{class_objects}
use Rattle.cool_runtime.specs.RoutineLines.{routine_lines}
use Rattle.cool_runtime.specs.declared.catalogue.Routine.TheVariants as routines
use Rattle.cool_runtime.specs.Instructions.{addu, jal, jalr, la, lw, sll}
use Rattle.cool_runtime.specs.Contents.{Lies, Same}
use Rattle.cool_runtime.specs.Premises.{Limits}
use Rattle.cool_runtime.specs.Machines.{At, Pointers, Console, with_copy}
use Rattle.cool_runtime.proofs.Runs.{here}
use Rattle.cool_runtime.proofs.Walking.{walk, walk_more}
use Rattle.cool_runtime.proofs.Words.{load_eq}
use Rattle.cool_runtime.proofs.Pieces.{next, has_at}
use Rattle.cool_runtime.proofs.Starting.{calls}
use Rattle.cool_runtime.proofs.MeaningsMet.{means}
use Rattle.cool_runtime.proofs.CopiedObjects.{copy_same}
use Rattle.cool_runtime.proofs.Objects.{same_word}
use Rattle.cool_codegen.specs.Pieces.{create_lines, create_self_lines}
use Rattle.mips_isa.specs.declared.instr.Instr.{Instr}
use Rattle.mips_isa.specs.declared.instr.Instr.TheVariants.{Three, Shift, Mem}
use Rattle.mips_isa.specs.declared.instr.ThreeOp.TheVariants.{Addu}
use Rattle.mips_isa.specs.declared.instr.ShiftOp.TheVariants.{Sll}
use Rattle.mips_isa.specs.declared.instr.MemOp.TheVariants.{Lw}
use Rattle.mips_isa.specs.Assembly.{load_address}
use Rattle.cool_simulation.specs.Loadings.{Loading, Watched, marks, whole, whole_text}
use Rattle.cool_simulation.specs.Quiet.{IsFree}
use Rattle.cool_simulation.specs.Simulation.{Passes, Shown}
use Rattle.cool_simulation.specs.Visits.{Visit}
use Rattle.cool_simulation.proofs.ground.Heads.{head, under}
use Rattle.cool_simulation.proofs.ground.Passages.{passes, passes_then, passes_wider, quiet}
use Rattle.cool_simulation.proofs.ground.QuietTexts.{at_over}

module _ (w : World) where
  -- the run from the first line to Object.copy: at least one instruction
  pub takes_prototype : (proto init : Name) (p : Pointers) (m : Bytes) (c : Console) (s : State) → HasLines w p.pc (create_lines proto init) → At w p m c s
      → Reaches w s 1 3 (stands (At w (record p { pc = w.place copy; acc = w.place proto; ra = p.pc + 12 }) m c))
  unfolding create_lines
  takes_prototype proto init p m c s has at =
      let laid = w.laid in
      let fits : w.place proto < 4294967296 = has.0.names in
      walk_more w (la 4 proto) (jal copy ∷ []) s.core.registers s.core.pc s.core.memory (beside s) p.pc 0 0 _ (omega arith) (has.0, (has.1.0, tt)) (omega arith)
      (omega arith, here w _ _ (record { numbers = omega arith; memory_is = at.memory_is; input_is = at.input_is; ended_is = at.ended_is; output_is = at.output_is }))

  pub initializer_there : (proto init : Name) (pc : ℕ) → HasLines w pc (create_lines proto init) → HasLines w (pc + 12) (jal init ∷ [])
  unfolding create_lines
  initializer_there proto init pc has = has_at w (jal init ∷ []) (pc + 8 + 4) (pc + 12) (omega arith) (has.1.1.0, tt)

  -- the run from Object.copy: the prototype is copied, and the machine stands at the initializer
  pub creates : (proto init : Name) (size : ℕ) (p : Pointers) (m : Bytes) (c : Console) (s : State) → Limits w → HasLines w (w.place copy) (routine_lines routines.Copy) → HasLines w (p.pc + 12) (jal init ∷ [])
      → At w (record p { pc = w.place copy; acc = w.place proto; ra = p.pc + 12 }) m c s → Lies w p.gp (w.place proto) (4 * size) → 3 ≤ size → word m (w.place proto + 4) ≡ size → p.gp + 4 * size + 4 ≤ w.top → OnTheWay w c.output c.input
      → Reaches w s 0 (7 * size + 17) (stands (At w (record p { pc = w.place init; gp = p.gp + 4 * size + 4; acc = p.gp + 4; ra = p.pc + 16 }) (with_copy m p.gp (w.place proto) size) c))
  creates proto init size p m c s limits copying has at lies some sized room way =
      next w s (7 * size + 16) 1 (7 * size + 17) _ _ (means w routines.Copy _ m c s size limits copying at refl lies some sized room way) (omega arith)
      (λ s2 g2. ended s2 (calls w init _ _ c s2 has g2))
    where
      ended : (t : State) → Reaches w t 0 1 (stands (At w (record p { pc = w.place init; gp = p.gp + 4 * size + 4; acc = p.gp + 4; ra = p.pc + 12 + 4 }) (with_copy m p.gp (w.place proto) size) c))
          → Reaches w t 0 1 (stands (At w (record p { pc = w.place init; gp = p.gp + 4 * size + 4; acc = p.gp + 4; ra = p.pc + 16 }) (with_copy m p.gp (w.place proto) size) c))
      ended t h = let e : p.pc + 12 + 4 ≡ p.pc + 16 = omega arith in
          subst (λ ra. Reaches w t 0 1 (stands (At w (record p { pc = w.place init; gp = p.gp + 4 * size + 4; acc = p.gp + 4; ra = ra }) (with_copy m p.gp (w.place proto) size) c))) e h

  -- the row of a class's prototype and initializer, by its tag
  pub record RowAt (m : Bytes) (tag prototype initializer : ℕ) : Type 0 where
    pub even : w.place class_objects % 4 ≡ 0
    pub from : 268435456 ≤ w.place class_objects + 8 * tag
    pub to : w.place class_objects + 8 * tag + 8 ≤ w.segments.data_end
    pub small : tag < 65536
    pub prototype_is : word m (w.place class_objects + 8 * tag) ≡ prototype
    pub initializer_is : word m (w.place class_objects + 8 * tag + 4) ≡ initializer
    pub prototype_fits : prototype < 4294967296

  abbrev pub first_rest : List Line
  first_rest = sll 8 8 3 ∷ la 9 class_objects ∷ addu 9 9 8 ∷ lw 4 (pos 0) 9 ∷ jal copy ∷ []

  abbrev pub second : List Line
  second = lw 8 (pos 0) 16 ∷ sll 8 8 3 ∷ la 9 class_objects ∷ addu 9 9 8 ∷ lw 9 (pos 4) 9 ∷ jalr 9 ∷ []

  pub takes_own : (p : Pointers) (m : Bytes) (c : Console) (s : State) (tag prototype initializer : ℕ) → HasLines w p.pc (lw 8 (pos 0) 16 ∷ first_rest) → At w p m c s
      → Lies w p.gp p.self 12 → word m p.self ≡ tag → RowAt m tag prototype initializer
      → Reaches w s 1 7 (stands (At w (record p { pc = w.place copy; acc = prototype; ra = p.pc + 28 }) m c))
  takes_own p m c s tag prototype initializer has at lies is row =
      let laid = w.laid in
      let m0 = s.core.memory in
      let v1 : word m0 (wrap (s.core.registers 16 + 0)) ≡ tag = load_eq _ _ _ _ at.memory_is (omega arith) ∙ is in
      let v2 : word m0 (wrap (wrap (w.place class_objects + wrap (word m0 (wrap (s.core.registers 16 + 0)) * 8)) + 0)) ≡ prototype = load_eq _ _ _ _ at.memory_is (omega arith) ∙ row.prototype_is in
      walk_more w (lw 8 (pos 0) 16) first_rest s.core.registers s.core.pc m0 (beside s) p.pc 0 0 _ (omega arith) has (omega arith)
      (omega arith, (omega arith, (omega arith, here w _ _ (record { numbers = omega arith; memory_is = at.memory_is; input_is = at.input_is; ended_is = at.ended_is; output_is = at.output_is }))))

  takes_initializer : (p : Pointers) (m : Bytes) (c : Console) (s : State) (tag prototype initializer : ℕ) → HasLines w p.pc second → At w p m c s
      → Lies w p.gp p.self 12 → word m p.self ≡ tag → RowAt m tag prototype initializer
      → Reaches w s 0 7 (stands (At w (record p { pc = initializer; ra = p.pc + 28 }) m c))
  takes_initializer p m c s tag prototype initializer has at lies is row =
      let laid = w.laid in
      let m0 = s.core.memory in
      let v1 : word m0 (wrap (s.core.registers 16 + 0)) ≡ tag = load_eq _ _ _ _ at.memory_is (omega arith) ∙ is in
      let v2 : word m0 (wrap (wrap (w.place class_objects + wrap (word m0 (wrap (s.core.registers 16 + 0)) * 8)) + 4)) ≡ initializer = load_eq _ _ _ _ at.memory_is (omega arith) ∙ row.initializer_is in
      walk w second 0 s.core.registers s.core.pc m0 (beside s) p.pc 0 0 _ has (omega arith)
      (omega arith, (omega arith, (omega arith, here w _ _ (record { numbers = omega arith; memory_is = at.memory_is; input_is = at.input_is; ended_is = at.ended_is; output_is = at.output_is }))))

  row_kept : (m m' : Bytes) (gp sp tag prototype initializer : ℕ) → 536870912 ≤ gp → Same m m' gp sp → RowAt m tag prototype initializer → RowAt m' tag prototype initializer
  row_kept m m' gp sp tag prototype initializer from same row =
      let laid = w.laid in
      let to = row.to in
      record {
        even = row.even;
        from = row.from;
        to = row.to;
        small = row.small;
        prototype_is = same_word w m m' gp sp (w.place class_objects + 8 * tag) same (omega arith) ∙ row.prototype_is;
        initializer_is = same_word w m m' gp sp (w.place class_objects + 8 * tag + 4) same (omega arith) ∙ row.initializer_is;
        prototype_fits = row.prototype_fits;
      }

  pub own_front : (pc : ℕ) → HasLines w pc create_self_lines → HasLines w pc (lw 8 (pos 0) 16 ∷ first_rest)
  unfolding create_self_lines
  own_front pc has = (has.0, (has.1.0, (has.1.1.0, (has.1.1.1.0, (has.1.1.1.1.0, (has.1.1.1.1.1.0, tt))))))

  pub own_back : (pc : ℕ) → HasLines w pc create_self_lines → HasLines w (pc + 28) second
  unfolding create_self_lines
  own_back pc has = has_at w second (pc + 4 + 4 + 8 + 4 + 4 + 4) (pc + 28) (omega arith) has.1.1.1.1.1.1

  -- its instructions up to the jump
  abbrev pub own_straight : List Instr
  own_straight = Mem Lw 8 16 (pos 0) ∷ Shift Sll 8 8 3 ∷ load_address 9 (w.place class_objects) ++ Three Addu 9 9 8 ∷ Mem Lw 4 9 (pos 0) ∷ []

  pub own_words : (pc : ℕ) → HasLines w pc create_self_lines → InstructionsAt w pc own_straight
  unfolding create_self_lines
  own_words pc has =
      let e : pc + 4 + 4 + 8 ≡ pc + 4 + 4 + 4 + 4 = omega arith in (
        has.0.words.0,
        (
          has.1.0.words.0,
          (
            has.1.1.0.words.0,
            (has.1.1.0.words.1.0, (subst (λ (a : ℕ). InstructionAt w a (Three Addu 9 9 8)) e has.1.1.1.0.words.0, (subst (λ (a : ℕ). InstructionAt w (a + 4) (Mem Lw 4 9 (pos 0))) e has.1.1.1.1.0.words.0, tt))),
          ),
        ),
      )

  -- the run from Object.copy: the prototype of self's class is copied, and the machine stands at its initializer
  pub creates_own : (size tag prototype initializer : ℕ) (p : Pointers) (m : Bytes) (c : Console) (s : State) → Limits w → HasLines w (w.place copy) (routine_lines routines.Copy) → HasLines w (p.pc + 28) second
      → At w (record p { pc = w.place copy; acc = prototype; ra = p.pc + 28 }) m c s → Lies w p.gp p.self 12 → word m p.self ≡ tag → RowAt m tag prototype initializer → Lies w p.gp prototype (4 * size) → 3 ≤ size → word m (prototype + 4) ≡ size
      → p.gp + 4 * size + 4 ≤ w.top → OnTheWay w c.output c.input
      → Reaches w s 0 (7 * size + 23) (stands (At w (record p { pc = initializer; gp = p.gp + 4 * size + 4; acc = p.gp + 4; ra = p.pc + 28 + 28 }) (with_copy m p.gp prototype size) c))
  creates_own size tag prototype initializer p m c s limits copying has at self is row lies some sized room way =
      next w s (7 * size + 16) 7 (7 * size + 23) _ _ (means w routines.Copy _ m c s size limits copying at refl lies some sized room way) (omega arith)
      (λ s2 g2.
      let laid = w.laid in
      let numbers = g2.numbers in
      let fresh = at.numbers in
      let same : Same m (with_copy m p.gp prototype size) p.gp p.sp = copy_same w m p.gp p.sp prototype size (omega arith) in
      takes_initializer _ (with_copy m p.gp prototype size) c s2 tag prototype initializer has g2 (omega arith) (same_word w m (with_copy m p.gp prototype size) p.gp p.sp p.self same (omega arith) ∙ is)
      (row_kept m (with_copy m p.gp prototype size) p.gp p.sp tag prototype initializer fresh.gp_from same row))

-- The same lines at the first word of a visit: the machine stands at the initializer.
module _ (l : Loading) (p : Pointers) (m : Bytes) (c : Console) (s : State) (at : At l.world p m c s) (x : Visit) (watched : Watched l.watch x) (shown : Shown l x s) (limits : Limits l.world)
    (copying : HasLines l.world (l.world.place copy) (routine_lines routines.Copy)) where
  pub head_creates : (proto init : Name) (size : ℕ) → HasLines (whole l) p.pc (create_lines proto init) → IsFree (marks l.watch) (p.pc + 4) (p.pc + 16) → Lies l.world p.gp (l.world.place proto) (4 * size) → 3 ≤ size
      → word m (l.world.place proto + 4) ≡ size → p.gp + 4 * size + 4 ≤ l.world.top → OnTheWay l.world c.output c.input
      → Passes l s 1 (7 * size + 20) (stands (At l.world (record p { pc = l.world.place init; gp = p.gp + 4 * size + 4; acc = p.gp + 4; ra = p.pc + 16 }) (with_copy m p.gp (l.world.place proto) size) c))
  unfolding create_lines
  head_creates proto init size has free lies some sized room way =
      let w = l.world in
      passes_wider l s (1 + 0) 1 (3 + (7 * size + 17)) (7 * size + 20) _ (omega arith) (omega arith)
      (passes_then l s 1 3 0 (7 * size + 17) _ _
      (under l p m c s at x watched shown (record p { pc = w.place copy; acc = w.place proto; ra = p.pc + 12 }) m 1 3
      (head l p m c s at x watched shown (load_address 4 (w.place proto)) 1 3 _ has.0.words.0.even has.0.words (tt, (tt, tt)) (omega arith) (λ i even from to. free i even from (omega arith))
      (takes_prototype (whole l) proto init p m c s has (at_over w (whole_text l) p m c s at))))
      (λ t there. passes l t 0 (7 * size + 17) _
      (creates w proto init size p m c t limits copying
      (quiet l (jal init ∷ []) (p.pc + 12) (p.pc + 16) (omega arith) (λ i even from to. free i even (omega arith) to) (initializer_there (whole l) proto init p.pc has)) there lies some sized room way)))

  pub head_creates_own : (size tag prototype initializer : ℕ) → HasLines (whole l) p.pc create_self_lines → IsFree (marks l.watch) (p.pc + 4) (p.pc + 56) → Lies l.world p.gp p.self 12 → word m p.self ≡ tag
      → RowAt l.world m tag prototype initializer → Lies l.world p.gp prototype (4 * size) → 3 ≤ size → word m (prototype + 4) ≡ size → p.gp + 4 * size + 4 ≤ l.world.top → OnTheWay l.world c.output c.input
      → Passes l s 1 (7 * size + 30) (stands (At l.world (record p { pc = initializer; gp = p.gp + 4 * size + 4; acc = p.gp + 4; ra = p.pc + 28 + 28 }) (with_copy m p.gp prototype size) c))
  head_creates_own size tag prototype initializer has free self is row lies some sized room way =
      let w = l.world in
      let o = whole l in
      let words = own_words o p.pc has in
      let self' : Lies o p.gp p.self 12 = record { even = self.even; from = self.from; to = self.to; in_data = self.in_data; in_heap = self.in_heap } in
      let row' : RowAt o m tag prototype initializer =
      record { even = row.even; from = row.from; to = row.to; small = row.small; prototype_is = row.prototype_is; initializer_is = row.initializer_is; prototype_fits = row.prototype_fits } in
      passes_wider l s (1 + 0) 1 (7 + (7 * size + 23)) (7 * size + 30) _ (omega arith) (omega arith)
      (passes_then l s 1 7 0 (7 * size + 23) _ _
      (under l p m c s at x watched shown (record p { pc = w.place copy; acc = prototype; ra = p.pc + 28 }) m 1 7
      (head l p m c s at x watched shown (own_straight o) 1 7 _ words.0.even words (tt, (tt, (tt, (tt, (tt, (tt, tt)))))) (omega arith) (λ i even from to. free i even from (omega arith))
      (takes_own o p m c s tag prototype initializer (own_front o p.pc has) (at_over w (whole_text l) p m c s at) self' is row')))
      (λ t there. passes l t 0 (7 * size + 23) _
      (creates_own w size tag prototype initializer p m c t limits copying
      (quiet l (second o) (p.pc + 28) (p.pc + 56) (omega arith) (λ i even from to. free i even (omega arith) to) (own_back o p.pc has)) there self is row lies some sized room way)))
