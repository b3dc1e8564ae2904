-- If a list of assembly lines is in the text segment, so are its front and its back, and a run over the front followed by a run over the back is a run over
-- both.
use Rattle.std.proofs.Common.{◌≡◌, ℕ, ◌+◌, ◌≤◌, List, [], ◌∷◌, ◌++◌, subst, arith}
use Rattle.mips_isa.specs.Bytes.{Bytes}
use Rattle.mips_isa.specs.Calls.{State}
use Rattle.mips_isa.specs.Lines.{Line}
use Rattle.cool_runtime.specs.Reaches.{World, Reaches, Goal, stands}
use Rattle.cool_runtime.specs.Standing.{HasLines, size, sizes}
use Rattle.cool_runtime.specs.Walk.{beside}
use Rattle.cool_runtime.specs.Machines.{At, Pointers, Console}
use Rattle.cool_runtime.specs.Instructions.{jr}
use Rattle.cool_runtime.proofs.Runs.{wider, here, then}
use Rattle.cool_runtime.proofs.Walking.{walk}

module _ (w : World) where
  pub has_front : (front back : List Line) (pc : ℕ) → HasLines w pc (front ++ back) → HasLines w pc front
  has_front [] back pc has = tt
  has_front (line ∷ front) back pc has = (has.0, has_front front back (pc + size line) has.1)

  pub has_back : (front back : List Line) (pc pc' : ℕ) → pc + sizes front ≡ pc' → HasLines w pc (front ++ back) → HasLines w pc' back
  has_back [] back pc pc' e has = let z : pc ≡ pc' = omega arith in subst (λ q. HasLines w q back) z has
  has_back (line ∷ front) back pc pc' e has = has_back front back (pc + size line) pc' (omega arith) has.1

  pub sizes_append : (front back : List Line) → sizes (front ++ back) ≡ sizes front + sizes back
  sizes_append [] back = omega arith
  sizes_append (line ∷ front) back = let h = sizes_append front back in omega arith

  -- lines at an equal address
  pub has_at : (lines : List Line) (pc pc' : ℕ) → pc ≡ pc' → HasLines w pc lines → HasLines w pc' lines
  has_at lines pc pc' e has = subst (λ q. HasLines w q lines) e has

  -- no instruction more, and perhaps fewer than said
  pub done : (n : ℕ) (s : State) (P : State → Type 0) → P s → Reaches w s 0 n (stands P)
  done n s P h = wider w s 0 0 0 n (stands P) (omega arith) (omega arith) (here w s (stands P) h)

  -- a case that cannot be
  pub never : (s : State) (hi : ℕ) (goal : Goal) → ⊥ → Reaches w s 0 hi goal
  never s hi goal h = absurd h

  -- one stretch after another, of which no least number of instructions is said
  pub next : (s : State) (hi hi' n : ℕ) (P : State → Type 0) (goal : Goal) → Reaches w s 0 hi (stands P) → hi + hi' ≤ n
      → ((t : State) → P t → Reaches w t 0 hi' goal) → Reaches w s 0 n goal
  next s hi hi' n P goal r le more = wider w s (0 + 0) 0 (hi + hi') n goal (omega arith) le (then w s 0 hi 0 hi' P goal r more)

  -- the return
  pub return : (p : Pointers) (m : Bytes) (c : Console) (s : State) → HasLines w p.pc (jr 31 ∷ []) → At w p m c s
      → Reaches w s 0 1 (stands (At w (record p { pc = p.ra }) m c))
  return p m c s has at =
      walk w (jr 31 ∷ []) 0 s.core.registers s.core.pc s.core.memory (beside s) p.pc 0 0 _ has (omega arith)
      (here w _ _ (record { numbers = omega arith; memory_is = at.memory_is; input_is = at.input_is; ended_is = at.ended_is; output_is = at.output_is }))
