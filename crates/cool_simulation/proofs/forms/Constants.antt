-- The code of an integer, string or Bool constant loads the address of an object with this value.
use Rattle.std.proofs.Common.{ℕ, ◌+◌, List, [], ◌∷◌, refl, arith}
use Rattle.std.specs.Prelude.{Contains, Bool as Truth}
use Rattle.mips_isa.specs.Calls.{State as Machine}
use Rattle.mips_isa.specs.Bytes.{Bytes}
use Rattle.mips_isa.specs.Lines.{Name}
use Rattle.cool_syntax.specs.declared.place.Place.{Place}
use Rattle.cool_syntax.specs.Tree as trees
use Rattle.cool_runtime.specs.Reaches.{Reaches, stands}
use Rattle.cool_runtime.specs.Standing.{HasLines}
use Rattle.cool_runtime.specs.Machines.{At, Pointers, Console}
use Rattle.cool_runtime.proofs.Pieces.{next, done}
use Rattle.cool_codegen.specs.Pieces.{take_lines}
use Rattle.cool_meaning.specs.Values.{Value, Int, Bool, Str, State}
use Rattle.cool_meaning.specs.Numbers.{signed}
use Rattle.cool_meaning.specs.Evaluation.{Call, Calls}
use Rattle.cool_simulation.specs.Loadings.{Loading, IsLoaded, Watched, marks, whole}
use Rattle.cool_simulation.specs.Pictures.{Map, Pic, Pictures, Shows}
use Rattle.cool_simulation.specs.Quiet.{IsFree}
use Rattle.cool_simulation.specs.Simulation.{Done, Correct, Passes, Shown}
use Rattle.cool_simulation.specs.Visits.{Visit, Visits}
use Rattle.cool_simulation.proofs.ground.Walks.{takes}
use Rattle.cool_simulation.proofs.ground.CodeOfParts.{own_placed}
use Rattle.cool_simulation.proofs.ground.Heads.{head_takes, visit, visit_shown}
use Rattle.cool_simulation.proofs.ground.Passages.{passes_weaker}
use Rattle.cool_simulation.proofs.ground.PartsOfRuns.{run_comes, stands_as}
use Rattle.cool_simulation.proofs.ground.PartsBehind.{done_here}
use Rattle.cool_simulation.proofs.ground.DataHere.{integer_pic, truth_pic, string_pic}

-- the only one of a list
only : {A : Type 0} (x : A) → Contains (x ∷ []) x
only x = (0, omega arith, refl)

module _ (l : Loading) where
  -- the address of a label, where it pictures a value
  pub takes_value : (name : Name) (v : Value) (q : Pointers) (m : Bytes) (map : Map) (console : Console) (st : State) (s : Machine) (n words : ℕ) → HasLines l.world q.pc (take_lines name) → At l.world q m console s → Shows st console
      → Pictures l.table l.world l.memory m map st q.gp q.sp → Pic l.world m map st.drawn q.gp v (l.world.place name)
      → Reaches l.world s 0 2 (stands (Done l (record q { pc = q.pc + 8 }) m map st words v st))
  takes_value name v q m map console st s n words has at shows pictures pic =
      next l.world s 2 0 2 _ _ (takes l.world name q m console s has at) (omega arith)
      (λ u there. done l.world 0 u _ (done_here l (record q { pc = q.pc + 8 }) m map st words v u (l.world.place name) q.ra console there shows pictures pic))

  -- the same at the first word of a visit
  pub head_takes_value : (name : Name) (v : Value) (q : Pointers) (m : Bytes) (map : Map) (console : Console) (st : State) (s : Machine) (words : ℕ) (x : Visit) → Watched l.watch x → Shown l x s → HasLines (whole l) q.pc (take_lines name)
      → IsFree (marks l.watch) (q.pc + 4) (q.pc + 8) → At l.world q m console s → Shows st console → Pictures l.table l.world l.memory m map st q.gp q.sp → Pic l.world m map st.drawn q.gp v (l.world.place name)
      → Passes l s 0 2 (stands (Done l (record q { pc = q.pc + 8 }) m map st words v st))
  head_takes_value name v q m map console st s words x watched shown has free at shows pictures pic =
      passes_weaker l s 0 2 _ _
      (stands_as _ _ (λ u there. done_here l (record q { pc = q.pc + 8 }) m map st words v u (l.world.place name) q.ra console there shows pictures pic))
      (head_takes l q m console s at x watched shown name has free)

module _ (l : Loading) (loaded : IsLoaded l) (calls : Calls) (begun_in : Call → Visits) (b : ℕ) where
  pub int_correct : (at : Place) (value : ℕ) → Correct l calls begun_in b (trees.Int at value)
  unfolding take_lines
  int_correct at value = record {
    runs = λ c f k self scope vs env made d first q m map console st s n type less begins has code room watched.
        let numbers = begins.at.numbers in
        let placed = own_placed l c f vs d first q.pc (trees.Int at value) code in
        run_comes l (Int (signed value)) st s n 2 60 (Done l (record q { pc = q.pc + 8 }) m map st 0) (omega arith)
        (head_takes_value l _ (Int (signed value)) q m map console st s 0 (visit c f first (trees.Int at value) self env st n) (watched (visit c f first (trees.Int at value) self env st n) refl)
        (visit_shown l c f k self scope vs env made d first q m map console st s n (trees.Int at value) begins placed) code.lines placed.quiet begins.at begins.shows begins.pictures
        (integer_pic l loaded m map st q.gp q.sp numbers.gp_from begins.pictures value (code.integers value (only value))));
  }

  pub str_correct : (at : Place) (bytes : List ℕ) → Correct l calls begun_in b (trees.Str at bytes)
  unfolding take_lines
  str_correct at bytes = record {
    runs = λ c f k self scope vs env made d first q m map console st s n type less begins has code room watched.
        let numbers = begins.at.numbers in
        let placed = own_placed l c f vs d first q.pc (trees.Str at bytes) code in
        run_comes l (Str bytes) st s n 2 60 (Done l (record q { pc = q.pc + 8 }) m map st 0) (omega arith)
        (head_takes_value l _ (Str bytes) q m map console st s 0 (visit c f first (trees.Str at bytes) self env st n) (watched (visit c f first (trees.Str at bytes) self env st n) refl)
        (visit_shown l c f k self scope vs env made d first q m map console st s n (trees.Str at bytes) begins placed) code.lines placed.quiet begins.at begins.shows begins.pictures
        (string_pic l loaded m map st q.gp q.sp numbers.gp_from begins.pictures bytes (code.strings bytes (only bytes))));
  }

  pub bool_correct : (at : Place) (value : Truth) → Correct l calls begun_in b (trees.Bool at value)
  unfolding take_lines
  bool_correct at value = record {
    runs = λ c f k self scope vs env made d first q m map console st s n type less begins has code room watched.
        let numbers = begins.at.numbers in
        let placed = own_placed l c f vs d first q.pc (trees.Bool at value) code in
        run_comes l (Bool value) st s n 2 60 (Done l (record q { pc = q.pc + 8 }) m map st 0) (omega arith)
        (head_takes_value l _ (Bool value) q m map console st s 0 (visit c f first (trees.Bool at value) self env st n) (watched (visit c f first (trees.Bool at value) self env st n) refl)
        (visit_shown l c f k self scope vs env made d first q m map console st s n (trees.Bool at value) begins placed) code.lines placed.quiet begins.at begins.shows begins.pictures
        (truth_pic l loaded m map st q.gp q.sp numbers.gp_from begins.pictures value));
  }
