-- The first instructions of a program copy the prototype of Main, call its initializer and its method `main`, and then write the text for a normal end.
use Rattle.std.proofs.Common.{◌≡◌, ℕ, ◌+◌, ◌*◌, ◌<◌, ◌≤◌, List, [], ◌∷◌, ◌++◌, inl, Some, refl, ap, ◌∙◌, subst, arith}
use Rattle.mips_isa.specs.Bytes.{Bytes, word}
use Rattle.mips_isa.specs.Calls.{State, string_at}
use Rattle.cool_runtime.specs.Reaches.{World, Reaches, stands, exits, OnTheWay}
use Rattle.cool_runtime.specs.Standing.{HasLines}
use Rattle.cool_runtime.specs.Walk.{beside, PrintString, Exit}
use Rattle.cool_runtime.specs.Labels.{copy, main_prototype, main_init, main_main, end_text}
use Rattle.cool_runtime.specs.RoutineLines.{routine_lines}
use Rattle.cool_runtime.specs.declared.catalogue.Routine.TheVariants as routines
use Rattle.cool_runtime.specs.Instructions.{jal, la}
use Rattle.cool_runtime.specs.Routines.{start_end_lines}
use Rattle.cool_runtime.specs.Contents.{Lies, TextAt}
use Rattle.cool_runtime.specs.Premises.{Limits}
use Rattle.cool_runtime.specs.Machines.{At, Pointers, Console, with_copy, EndsWith}
use Rattle.cool_runtime.proofs.Runs.{wider, here, then}
use Rattle.cool_runtime.proofs.Walking.{walk, walk_more}
use Rattle.cool_runtime.proofs.Pieces.{next, has_at}
use Rattle.cool_runtime.proofs.Starting.{calls}
use Rattle.cool_runtime.proofs.Strings.{text_printable}
use Rattle.cool_runtime.proofs.MeaningsMet.{means}

module _ (w : World) where
  -- the lines behind the label, each at its address
  pub record StartAt (pc : ℕ) : Type 0 where
    pub first : HasLines w pc (la 4 main_prototype ∷ jal copy ∷ [])
    pub second : HasLines w (pc + 12) (jal main_init ∷ [])
    pub third : HasLines w (pc + 16) (jal main_main ∷ [])
    pub last : HasLines w (pc + 20) start_end_lines

  pub start_at : (pc : ℕ) → HasLines w pc (routine_lines routines.Start) → StartAt pc
  unfolding routine_lines
  start_at pc has =
      let first : HasLines w pc (la 4 main_prototype ∷ jal copy ∷ []) = has_at w (la 4 main_prototype ∷ jal copy ∷ []) (pc + 0) pc (omega arith) (has.1.0, (has.1.1.0, tt)) in
      record {
        first = first;
        second = has_at w (jal main_init ∷ []) (pc + 0 + 8 + 4) (pc + 12) (omega arith) (has.1.1.1.0, tt);
        third = has_at w (jal main_main ∷ []) (pc + 0 + 8 + 4 + 4) (pc + 16) (omega arith) (has.1.1.1.1.0, tt);
        last = has_at w start_end_lines (pc + 0 + 8 + 4 + 4 + 4) (pc + 20) (omega arith) has.1.1.1.1.1;
      }

  takes_prototype : (p : Pointers) (m : Bytes) (c : Console) (s : State) → HasLines w p.pc (la 4 main_prototype ∷ jal copy ∷ []) → At w p m c s
      → Reaches w s 1 3 (stands (At w (record p { pc = w.place copy; acc = w.place main_prototype; ra = p.pc + 12 }) m c))
  takes_prototype p m c s has at =
      let laid = w.laid in
      let fits : w.place main_prototype < 4294967296 = has.0.names in
      walk_more w (la 4 main_prototype) (jal copy ∷ []) s.core.registers s.core.pc s.core.memory (beside s) p.pc 0 0 _ (omega arith) has (omega arith)
      (omega arith, here w _ _ (record { numbers = omega arith; memory_is = at.memory_is; input_is = at.input_is; ended_is = at.ended_is; output_is = at.output_is }))

  -- the run from the first line to the initializer, with the copy
  pub start_creates : (size : ℕ) (p : Pointers) (m : Bytes) (c : Console) (s : State) → Limits w → HasLines w (w.place copy) (routine_lines routines.Copy) → StartAt p.pc → At w p m c s
      → Lies w p.gp (w.place main_prototype) (4 * size) → 3 ≤ size → word m (w.place main_prototype + 4) ≡ size → p.gp + 4 * size + 4 ≤ w.top → OnTheWay w c.output c.input
      → Reaches w s 1 (7 * size + 20) (stands (At w (record p { pc = w.place main_init; gp = p.gp + 4 * size + 4; acc = p.gp + 4; ra = p.pc + 16 }) (with_copy m p.gp (w.place main_prototype) size) c))
  start_creates size p m c s limits copying start at lies some sized room way =
      wider w s (1 + 0) 1 (3 + (7 * size + 17)) (7 * size + 20) _ (omega arith) (omega arith)
      (then w s 1 3 0 (7 * size + 17) _ _ (takes_prototype p m c s start.first at)
      (λ s1 g1. next w s1 (7 * size + 16) 1 (7 * size + 17) _ _ (means w routines.Copy _ m c s1 size limits copying g1 refl lies some sized room way) (omega arith)
      (λ s2 g2. ended s2 (calls w main_init _ _ c s2 start.second g2))))
    where
      ended : (t : State) → Reaches w t 0 1 (stands (At w (record p { pc = w.place main_init; gp = p.gp + 4 * size + 4; acc = p.gp + 4; ra = p.pc + 12 + 4 }) (with_copy m p.gp (w.place main_prototype) size) c))
          → Reaches w t 0 1 (stands (At w (record p { pc = w.place main_init; gp = p.gp + 4 * size + 4; acc = p.gp + 4; ra = p.pc + 16 }) (with_copy m p.gp (w.place main_prototype) size) c))
      ended t h = let e : p.pc + 12 + 4 ≡ p.pc + 16 = omega arith in
          subst (λ ra. Reaches w t 0 1 (stands (At w (record p { pc = w.place main_init; gp = p.gp + 4 * size + 4; acc = p.gp + 4; ra = ra }) (with_copy m p.gp (w.place main_prototype) size) c))) e h

  -- the call of main: one instruction
  pub calls_main : (p : Pointers) (m : Bytes) (c : Console) (s : State) → HasLines w p.pc (jal main_main ∷ []) → At w p m c s
      → Reaches w s 1 1 (stands (At w (record p { pc = w.place main_main; ra = p.pc + 4 }) m c))
  calls_main p m c s has at =
      let laid = w.laid in
      walk_more w (jal main_main) [] s.core.registers s.core.pc s.core.memory (beside s) p.pc 0 0 _ (omega arith) has (omega arith)
      (here w _ _ (record { numbers = omega arith; memory_is = at.memory_is; input_is = at.input_is; ended_is = at.ended_is; output_is = at.output_is }))

  -- the end
  pub writes_end : (p : Pointers) (m : Bytes) (c : Console) (s : State) (words : List ℕ) → HasLines w p.pc start_end_lines → At w p m c s → TextAt w m (w.place end_text) words
      → Reaches w s 0 6 (exits 0 (EndsWith c words))
  writes_end p m c s words has at text =
      let laid = w.laid in
      let found : string_at w.segments s.core.memory (w.place end_text) ≡ Some words = ap (λ f. string_at w.segments f (w.place end_text)) at.memory_is ∙ text_printable w m (w.place end_text) words text in
      walk w start_end_lines 0 s.core.registers s.core.pc s.core.memory (beside s) p.pc 0 0 _ has (let numbers = at.numbers in omega arith)
      (omega arith, (PrintString words, (omega arith, found, (Exit, (omega arith, inl (refl, record { output_is = ap (λ o. o ++ words) at.output_is; input_is = at.input_is }))))))
