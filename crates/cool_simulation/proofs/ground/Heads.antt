-- If the code of an expression does not begin with a subexpression, the machine at its first instruction represents the state in which evaluation of this
-- expression begins.
use Rattle.std.proofs.Common.{◌≡◌, ℕ, zero, suc, ◌+◌, ◌*◌, ◌%◌, ◌<◌, ◌≤◌, ℤ, List, [], length, true, false, refl, sym, ◌∙◌, subst, arith}
use Rattle.mips_isa.specs.declared.instr.Instr.{Instr}
use Rattle.mips_isa.specs.Bytes.{Bytes, word}
use Rattle.mips_isa.specs.Calls.{State as Machine, Running}
use Rattle.mips_isa.specs.Lines.{Name}
use Rattle.mips_isa.specs.Machine.{wrap}
use Rattle.mips_isa.specs.Run.{run}
use Rattle.mips_isa.specs.Words.{bits_of}
use Rattle.cool_syntax.specs.Tree.{Tree}
use Rattle.cool_classes.specs.declared.class_id.ClassId.{ClassId}
use Rattle.cool_rules.specs.Scopes.{Binding}
use Rattle.cool_runtime.specs.Reaches.{Goal, Reaches, stands}
use Rattle.cool_runtime.specs.Standing.{HasLines, InstructionsAt}
use Rattle.cool_runtime.specs.Machines.{At, Pointers, Console}
use Rattle.cool_runtime.specs.Walk.{OkWord}
use Rattle.cool_codegen.specs.Pieces.{load_lines, take_lines, take_self_lines, take_void_lines}
use Rattle.cool_codegen.specs.Spans.{span}
use Rattle.cool_codegen.specs.Variables.{Named}
use Rattle.cool_meaning.specs.Values.{Value, State, Environment}
use Rattle.cool_meaning.specs.FittingValues as fitting
use Rattle.cool_simulation.specs.Loadings.{Loading, Watched, marks, whole, whole_text}
use Rattle.cool_simulation.specs.Pictures.{Map}
use Rattle.cool_simulation.specs.Quiet.{IsFree}
use Rattle.cool_simulation.specs.Simulation.{Begins, Passes, Placed, Shown}
use Rattle.cool_simulation.specs.Visits.{Visit}
use Rattle.cool_simulation.proofs.ground.Passages.{passes_weaker}
use Rattle.cool_simulation.proofs.ground.PartsOfRuns.{stands_as}
use Rattle.cool_simulation.proofs.ground.QuietRuns.{same_running}
use Rattle.cool_simulation.proofs.ground.QuietTexts.{at_over, at_under}
use Rattle.cool_simulation.proofs.ground.StraightLines.{AreStraight, stands_behind}
use Rattle.cool_simulation.proofs.ground.Walks.{loads, takes, takes_self, takes_void}
use Rattle.mips_isa.specs.Assembly.{load_address}

-- the visit of an expression where its code begins, and that it is pictured
abbrev pub visit : ClassId → ℕ → ℕ → Tree → Value → Environment → State → ℕ → Visit
visit c f first t self env st n = record { class = c; feature = f; first = first; tree = t; self = self; environment = env; state = st; left = n }

pub visit_shown : (l : Loading) (c : ClassId) (f : ℕ) (k : ClassId) (self : Value) (scope : List Binding) (vs : List Named) (env : Environment) (made : fitting.World) (d first : ℕ) (q : Pointers) (m : Bytes) (map : Map)
    (console : Console) (st : State) (s : Machine) (n : ℕ) (t : Tree) → Begins l c k self scope vs env made d q m map console st s → Placed l c f (span vs d first q.pc t) → Shown l (visit c f first t self env st n) s
visit_shown l c f k self scope vs env made d first q m map console st s n t begins placed = record {
  span = span vs d first q.pc t;
  there = placed.there;
  tree_is = refl;
  first_is = refl;
  own = k;
  scope = scope;
  made = made;
  pointers = q;
  memory = m;
  map = map;
  console = console;
  from = refl;
  begins = begins;
}

module _ (l : Loading) (p : Pointers) (m : Bytes) (c : Console) (s : Machine) (at : At l.world p m c s) (x : Visit) (watched : Watched l.watch x) (shown : Shown l x s) where
  -- instructions that go on to the next word, and one more
  pub head : (is : List Instr) (lo hi : ℕ) (goal : Goal) → p.pc % 4 ≡ 0 → InstructionsAt (whole l) p.pc is → AreStraight is → hi ≤ length is + 1 → IsFree (marks l.watch) (p.pc + 4) (p.pc + 4 * hi) → Reaches (whole l) s lo hi goal
      → Passes l s lo hi goal
  head is lo hi goal even there straight few free r = record { reaches = r; visits = λ m t less e mark. by m t (let within = r.within in omega arith) e mark }
    where
      by : (m : ℕ) (t : Machine) → m < hi → run (whole_text l) l.world.segments m s ≡ Running t → marks l.watch t.core.pc ≡ true → (x : Visit) × Watched l.watch x × Shown l x t
      by zero t less e mark = (x, watched, subst (Shown l x) (same_running s t e) shown)
      by (suc m) t less e mark =
          let on : t.core.pc ≡ p.pc + 4 * suc m = stands_behind (whole l) is (suc m) p.pc s t straight there at.numbers.pc_is (omega arith) e in
          let none : marks l.watch t.core.pc ≡ false = free t.core.pc (omega arith) (omega arith) (omega arith) in
          let clash : true ≡ false = sym mark ∙ none in
          absurd cc

  -- a run over the whole text is also one over the text of the world
  pub under : (p' : Pointers) (m' : Bytes) (lo hi : ℕ) → Passes l s lo hi (stands (At (whole l) p' m' c)) → Passes l s lo hi (stands (At l.world p' m' c))
  under p' m' lo hi h = passes_weaker l s lo hi _ _ (stands_as _ _ (λ t. at_under l.world (whole_text l) p' m' c t)) h

  -- the address of a label
  pub head_takes : (name : Name) → HasLines (whole l) p.pc (take_lines name) → IsFree (marks l.watch) (p.pc + 4) (p.pc + 8) → Passes l s 0 2 (stands (At l.world (record p { pc = p.pc + 8; acc = l.world.place name }) m c))
  unfolding take_lines
  head_takes name has free =
      under (record p { pc = p.pc + 8; acc = l.world.place name }) m 0 2
      (head (load_address 4 (l.world.place name)) 0 2 _ has.0.words.0.even has.0.words (tt, (tt, tt)) (omega arith) free (takes (whole l) name p m c s has (at_over l.world (whole_text l) p m c s at)))

  pub head_takes_self : HasLines (whole l) p.pc take_self_lines → p.self < 4294967296 → Passes l s 0 1 (stands (At l.world (record p { pc = p.pc + 4; acc = p.self }) m c))
  unfolding take_self_lines
  head_takes_self has small =
      under (record p { pc = p.pc + 4; acc = p.self }) m 0 1
      (head [] 0 1 _ has.0.words.0.even tt tt (omega arith) (λ i even from to. absurd (omega arith)) (takes_self (whole l) p m c s has (at_over l.world (whole_text l) p m c s at) small))

  pub head_takes_void : HasLines (whole l) p.pc take_void_lines → Passes l s 0 1 (stands (At l.world (record p { pc = p.pc + 4; acc = 0 }) m c))
  unfolding take_void_lines
  head_takes_void has =
      under (record p { pc = p.pc + 4; acc = 0 }) m 0 1
      (head [] 0 1 _ has.0.words.0.even tt tt (omega arith) (λ i even from to. absurd (omega arith)) (takes_void (whole l) p m c s has (at_over l.world (whole_text l) p m c s at)))

  pub head_loads : (base : ℕ) (offset : ℤ) (a : ℕ) → HasLines (whole l) p.pc (load_lines offset base) → wrap (s.core.registers base + bits_of offset) ≡ a → OkWord l.world.segments a → word m a < 4294967296
      → Passes l s 0 1 (stands (At l.world (record p { pc = p.pc + 4; acc = word m a }) m c))
  unfolding load_lines
  head_loads base offset a has is ok small =
      under (record p { pc = p.pc + 4; acc = word m a }) m 0 1
      (head [] 0 1 _ has.0.words.0.even tt tt (omega arith) (λ i even from to. absurd (omega arith)) (loads (whole l) base offset a p m c s has (at_over l.world (whole_text l) p m c s at) is ok small))
