-- `Inside` describes a machine state within the stack frame of an initializer, between the code of one attribute and the next.
use Rattle.std.proofs.Common.{◌≡◌, ◌⊎◌, inl, inr, ℕ, ◌+◌, ◌<◌, ◌≤◌, arith}
use Rattle.mips_isa.specs.declared.address_map.TheConstants.{STACK_END}
use Rattle.mips_isa.specs.Bytes.{Bytes}
use Rattle.mips_isa.specs.Calls.{State as Machine}
use Rattle.cool_classes.specs.declared.class_id.ClassId.{ClassId}
use Rattle.cool_runtime.specs.Machines.{At, Pointers, Console}
use Rattle.cool_meaning.specs.Values.{Value, State}
use Rattle.cool_meaning.specs.FittingValues.{AllFit, Fits}
use Rattle.cool_meaning.proofs.FittingValues.{still_fits}
use Rattle.cool_meaning.specs.FittingValues as fitting
use Rattle.cool_meaning.proofs.SoundMethods.{Any}
use Rattle.cool_meaning.proofs.SoundComputations.{IsFine}
use Rattle.cool_simulation.specs.Loadings.{Loading}
use Rattle.cool_simulation.specs.Pictures.{Map, Pic, Pictures, Shows}
use Rattle.cool_simulation.specs.Simulation.{Done}
use Rattle.cool_simulation.proofs.ground.PartsBehind.{gone_of, pic_gone}

module _ (l : Loading) (k : ClassId) (self : Value) where
  -- Within the frame of an initializer: nothing is pushed, and $a0 has the picture of some value.
  pub record Inside (made : fitting.World) (q : Pointers) (m : Bytes) (map : Map) (console : Console) (st : State) (s : Machine) : Type 0 where
    pub at : At l.world q m console s
    pub shows : Shows st console
    pub pictures : Pictures l.table l.world l.memory m map st q.gp q.sp
    pub self_is : Pic l.world m map st.drawn q.gp self q.self
    pub frame_is : q.fp ≡ q.sp
    pub frame : q.fp + 12 ≤ STACK_END
    pub fit : Fits l.table made self k
    pub fits : AllFit l.table made st.store made
    pub held : Value
    pub held_is : Pic l.world m map st.drawn q.gp held q.acc

  -- some value and what stands behind it
  abbrev pub Passed : Pointers → ℕ → Bytes → Map → State → ℕ → State → Machine → Type 0
  Passed q pc m map st words t u = (x : Value) × Done l (record q { pc = pc }) m map st words x t u

  -- the next part begins inside
  pub next_inside : (made : fitting.World) (q : Pointers) (m : Bytes) (map : Map) (console : Console) (st t : State) (s u : Machine) (n left words pc : ℕ) (x : Value) → Inside made q m map console st s
      → (d : Done l (record q { pc = pc }) m map st words x t u) → (f : IsFine {A = Unit {0}} l.table made n Any tt t left)
      → Inside f.world (record q { pc = pc; gp = d.gp; acc = d.acc; ra = d.ra }) d.memory d.map' d.console t u
  next_inside made q m map console st t s u n left words pc x inside d f = record {
    at = d.at;
    shows = d.shows;
    pictures = d.pictures;
    self_is = pic_gone l.world m d.memory map d.map' st t q.gp d.gp q.sp words self q.self (gone_of l (record q { pc = pc }) m map st words x t u d) inside.self_is;
    frame_is = inside.frame_is;
    frame = inside.frame;
    fit = still_fits l.table made f.world f.grown self k inside.fit;
    fits = f.store;
    held = x;
    held_is = d.value;
  }

  pub within_store : (home : ℕ → ℕ) (count i : ℕ) → ((j : ℕ) → count ≤ j → home j ≡ 0) → 0 < home i → i < count
  within_store home count i fresh some = by order
    where
      order : (i < count) ⊎ (count ≤ i)
      order = grind arith

      by : (i < count) ⊎ (count ≤ i) → i < count
      by (inl less) = less
      by (inr more) = let none = fresh i more in absurd (omega arith)
