-- The start-up code of a compiled program makes an object of class Main, calls its `main`, writes the end text and exits with status 0.
use Rattle.std.proofs.Common.{◌≡◌, ℕ, ◌+◌, ◌*◌, ◌<◌, ◌≤◌, inl, List, [], ◌∷◌, ◌++◌, refl, ap, ◌∙◌, arith}
use Rattle.std.specs.Prelude.{Some}
use Rattle.mips_isa.specs.Bytes.{Bytes, word}
use Rattle.mips_isa.specs.Calls.{State, string_at}
use Rattle.mips_isa.specs.Lines.{Name}
use Rattle.mips_isa.specs.Assembly.{start_name}
use Rattle.cool_runtime.specs.Reaches.{World, Reaches, stands, exits, OnTheWay}
use Rattle.cool_runtime.specs.Standing.{HasLines}
use Rattle.cool_runtime.specs.Walk.{beside, PrintString, Exit}
use Rattle.cool_runtime.specs.Labels.{copy, main_prototype, main_init, main_main, end_text}
use Rattle.cool_runtime.specs.Contents.{Lies, TextAt}
use Rattle.cool_runtime.specs.Premises.{Limits}
use Rattle.cool_runtime.specs.Machines.{At, Pointers, Console, with_copy, EndsWith, Returned}
use Rattle.cool_runtime.specs.Instructions.{jal}
use Rattle.cool_runtime.specs.Routines.{start_lines, start_copy_lines, start_end_lines, copy_lines}
use Rattle.cool_runtime.proofs.Runs.{here}
use Rattle.cool_runtime.proofs.Walking.{walk}
use Rattle.cool_runtime.proofs.Copying.{copies}
use Rattle.cool_runtime.proofs.Strings.{text_printable}
use Rattle.cool_runtime.proofs.Pieces.{next, has_front, has_back, has_at}

module _ (w : World) where
  -- a call of the code under a label
  pub calls : (name : Name) (p : Pointers) (m : Bytes) (c : Console) (s : State) → HasLines w p.pc (jal name ∷ []) → At w p m c s
      → Reaches w s 0 1 (stands (At w (record p { pc = w.place name; ra = p.pc + 4 }) m c))
  calls name p m c s has at =
      let laid = w.laid in
      walk w (jal name ∷ []) 0 s.core.registers s.core.pc s.core.memory (beside s) p.pc 0 0 _ has (omega arith)
      (here w _ _ (record { numbers = omega arith; memory_is = at.memory_is; input_is = at.input_is; ended_is = at.ended_is; output_is = at.output_is }))

  start_copy : (p : Pointers) (m : Bytes) (c : Console) (s : State) → HasLines w p.pc start_copy_lines → At w p m c s
      → Reaches w s 0 3 (stands (At w (record p { pc = w.place copy; acc = w.place main_prototype; ra = p.pc + 12 }) m c))
  start_copy p m c s has at =
      let laid = w.laid in
      let fits : w.place main_prototype < 4294967296 = has.1.0.names in
      walk w start_copy_lines 0 s.core.registers s.core.pc s.core.memory (beside s) p.pc 0 0 _ has (omega arith)
      (omega arith, here w _ _ (record { numbers = omega arith; memory_is = at.memory_is; input_is = at.input_is; ended_is = at.ended_is; output_is = at.output_is }))

  start_end : (p : Pointers) (m : Bytes) (c : Console) (s : State) (words : List ℕ) → HasLines w p.pc start_end_lines → At w p m c s → TextAt w m (w.place end_text) words
      → Reaches w s 0 6 (exits 0 (EndsWith c words))
  start_end p m c s words has at text =
      let found : string_at w.segments s.core.memory (w.place end_text) ≡ Some words = ap (λ f. string_at w.segments f (w.place end_text)) at.memory_is ∙ text_printable w m (w.place end_text) words text in
      walk w start_end_lines 0 s.core.registers s.core.pc s.core.memory (beside s) p.pc 0 0 _ has (let numbers = at.numbers in omega arith)
      (omega arith, (PrintString words, (omega arith, found, (Exit, (omega arith, inl (refl, record { output_is = ap (λ o. o ++ words) at.output_is; input_is = at.input_is }))))))

  -- the effect of the code under `Main_init` and `Main.main` is a premise, with its counts
  pub starts : (p : Pointers) (m : Bytes) (c c1 c2 : Console) (s : State) (size init main : ℕ) (words : List ℕ) → Limits w → HasLines w (w.place start_name) start_lines → HasLines w (w.place copy) copy_lines
      → At w p m c s → p.pc ≡ w.place start_name → Lies w p.gp (w.place main_prototype) (4 * size) → 3 ≤ size → word m (w.place main_prototype + 4) ≡ size → p.gp + 4 * size + 4 ≤ w.top → OnTheWay w c.output c.input
      → ((t : State) → At w (record p { pc = w.place main_init; gp = p.gp + 4 * size + 4; acc = p.gp + 4; ra = p.pc + 12 + 4 }) (with_copy m p.gp (w.place main_prototype) size) c t
      → Reaches w t 0 init (stands (Returned w (record p { pc = w.place main_init; gp = p.gp + 4 * size + 4; acc = p.gp + 4; ra = p.pc + 12 + 4 }) c1)))
      → ((gp acc : ℕ) (m' : Bytes) (t : State) → At w (record p { pc = w.place main_main; gp = gp; acc = acc; ra = p.pc + 12 + 4 + 4 }) m' c1 t
      → Reaches w t 0 main (stands (λ u. (r : Returned w (record p { pc = w.place main_main; gp = gp; acc = acc; ra = p.pc + 12 + 4 + 4 }) c2 u) × TextAt w r.memory (w.place end_text) words)))
      → Reaches w s 0 (7 * size + init + main + 27) (exits 0 (EndsWith c2 words))
  starts p m c c1 c2 s size init main words limits has copying at begins lies some sized room way runs_init runs_main =
      let numbers = at.numbers in
      let l2 = start_end_lines in
      let l1 = jal main_init ∷ jal main_main ∷ l2 in
      let h : HasLines w p.pc (start_copy_lines ++ l1) = has_at w start_lines (w.place start_name) p.pc (omega arith) has in
      let h1 : HasLines w (p.pc + 12) l1 = has_back w start_copy_lines l1 p.pc (p.pc + 12) (omega arith) h in
      let proto = w.place main_prototype in
      next w s 3 (7 * size + init + main + 24) (7 * size + init + main + 27) _ _ (start_copy p m c s (has_front w start_copy_lines l1 p.pc h) at) (omega arith)
      (λ s1 g1. next w s1 (7 * size + 16) (init + main + 8) (7 * size + init + main + 24) _ _ (copies w _ m c s1 size limits copying g1 refl lies some sized room way) (omega arith)
      (λ s2 g2. next w s2 1 (init + main + 7) (init + main + 8) _ _ (calls main_init _ _ c s2 (has_front w (jal main_init ∷ []) (jal main_main ∷ l2) (p.pc + 12) h1) g2) (omega arith)
      (λ s3 g3. next w s3 init (main + 7) (init + main + 7) _ _ (runs_init s3 g3) (omega arith)
      (λ s4 g4. next w s4 1 (main + 6) (main + 7) _ _ (calls main_main _ _ c1 s4 (has_front w (jal main_main ∷ []) l2 (p.pc + 12 + 4) h1.1) g4.at) (omega arith)
      (λ s5 g5. next w s5 main 6 (main + 6) _ _ (runs_main g4.gp g4.acc g4.memory s5 g5) (omega arith)
      (λ s6 g6. start_end _ _ c2 s6 words h1.1.1 g6.0.at g6.1))))))
