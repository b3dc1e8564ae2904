-- In an initializer, the machine reaches the initial values of the parent class, and after the parent's initializer those of the class itself, each in the
-- correct state (`Shown`).
use Rattle.std.proofs.Common.{◌≡◌, ◌⊎◌, inl, inr, ℕ, zero, suc, ◌+◌, ◌*◌, ◌<◌, ◌≤◌, List, [], ◌∷◌, ◌++◌, length, Option, Some, None, Bool as Truth, ap, sym, ◌∙◌, refl, subst, arith}
use Rattle.std.specs.Prelude.{Contains, drop, if◌then◌else◌, slice_get}
use Rattle.std.proofs.lemmas.Bool.{le-ltb}
use Rattle.mips_isa.specs.Bytes.{Bytes}
use Rattle.mips_isa.specs.Calls.{State as Machine}
use Rattle.cool_syntax.specs.declared.file_tree.Feature.TheVariants.{Attribute}
use Rattle.cool_syntax.specs.declared.file_tree.AttributeDef.{AttributeDef}
use Rattle.cool_syntax.specs.Tree.{Tree}
use Rattle.cool_classes.specs.declared.class_id.ClassId.{ClassId}
use Rattle.cool_classes.specs.declared.method.AttributeRef.{AttributeRef}
use Rattle.cool_classes.specs.Chains.{Below, Class, features_of, parent_of}
use Rattle.cool_classes.specs.ClimbedChains.{chain}
use Rattle.cool_classes.specs.Features.{own_attributes}
use Rattle.cool_runtime.specs.Standing.{sizes}
use Rattle.cool_runtime.specs.CodeOfCalls.{enter_lines}
use Rattle.cool_runtime.specs.Machines.{At, Pointers, Console}
use Rattle.cool_runtime.proofs.Calling.{enters}
use Rattle.cool_runtime.proofs.Pieces.{has_front}
use Rattle.cool_runtime.proofs.Starting as starting
use Rattle.cool_layout.specs.Labels.{initializer}
use Rattle.cool_layout.proofs.AttributePlaces.{attributes_step}
use Rattle.cool_codegen.specs.Pieces.{begin_init_lines, call_init_lines}
use Rattle.cool_codegen.specs.Spans.{along}
use Rattle.cool_emit.specs.Programs.{attributes_in, parent_code, placed_code}
use Rattle.cool_emit.specs.SpansOfPrograms.{SpanOf, initializer_spans, placed_spans}
use Rattle.cool_emit.proofs.RootedTables.{rooted}
use Rattle.cool_meaning.specs.Values.{Value, State}
use Rattle.cool_meaning.specs.Meters.{Metered, Stuck, seq_of}
use Rattle.cool_meaning.specs.Lookups.{attributes, init_of, locations_of}
use Rattle.cool_meaning.specs.Evaluation.{Call, Calls, Initials, run_call, run_initial, run_initials}
use Rattle.cool_meaning.specs.FittingValues as fitting
use Rattle.cool_meaning.proofs.Later.{After}
use Rattle.cool_meaning.proofs.SoundParts.{AllCallsSound}
use Rattle.cool_simulation.specs.Loadings.{Loading, IsLoaded, constants, whole as whole_world}
use Rattle.cool_simulation.specs.Pictures.{Map}
use Rattle.cool_simulation.specs.Simulation.{Called, Correct, Done, Room, Shown}
use Rattle.cool_simulation.specs.Shown.{AllShown, Comes}
use Rattle.cool_simulation.specs.Visits.{Visit, Visits, behind, call_begun, initials_begun}
use Rattle.cool_simulation.proofs.calls.BasicAttributes.{no_attributes}
use Rattle.cool_simulation.proofs.calls.Entries.{entry_of}
use Rattle.cool_simulation.proofs.calls.Initializers as runs
use Rattle.cool_simulation.proofs.calls.InitialsSplit.{initials_later}
use Rattle.cool_simulation.proofs.ground.EvaluationLater.{CallsLater}
use Rattle.cool_simulation.proofs.ground.PartsOfRuns.{way_of}
use Rattle.cool_simulation.proofs.shown.Comings.{Ample, ample_as, ample_first, ample_then, cases, comes_after, comes_behind}
use Rattle.cool_simulation.proofs.shown.InitialValues.{parts_shown}
use Rattle.cool_simulation.proofs.ground.Passages.{unwatched}

-- visits of attributes are visits of those in front, or after these of the others
split_begun : (p : List Class) (calls : Calls) (begun_in : Call → Visits) (self : Value) (rs rs' : List AttributeRef) (ls : List ℕ) (st : State) (n : ℕ) (x : Visit) → initials_begun p calls begun_in self (rs ++ rs') ls st n x
    → initials_begun p calls begun_in self rs ls st n x ⊎ behind (run_initials p calls self rs ls) (λ v. initials_begun p calls begun_in self rs' (drop (length rs) ls)) st n x
split_begun p calls begun_in self [] rs' ls st n x h = inr (self, st, n, refl, h)
split_begun p calls begun_in self (r ∷ rs) rs' [] st n x h = absurd h
split_begun p calls begun_in self (r ∷ rs) rs' (i ∷ ls) st n x (inl h) = inl (inl h)
split_begun p calls begun_in self (r ∷ rs) rs' (i ∷ ls) st n x (inr (u, t, left, e, h)) = by (split_begun p calls begun_in self rs rs' ls t left x h)
  where
    o : Metered (Unit {0})
    o = run_initial p calls self i (init_of p r) st n

    by : initials_begun p calls begun_in self rs ls t left x ⊎ behind (run_initials p calls self rs ls) (λ v. initials_begun p calls begun_in self rs' (drop (length rs) ls)) t left x
        → initials_begun p calls begun_in self (r ∷ rs) (i ∷ ls) st n x ⊎ behind (run_initials p calls self (r ∷ rs) (i ∷ ls)) (λ v. initials_begun p calls begun_in self rs' (drop (length (r ∷ rs)) (i ∷ ls))) st n x
    by (inl k) = inl (inr (u, t, left, e, k))
    by (inr (v, t2, left2, e2, k)) = inr (v, t2, left2, ap (λ y. (seq_of y o.work o.words o.peak (λ _. run_initials p calls self rs ls)).outcome) e ∙ e2, k)

module _ (l : Loading) (loaded : IsLoaded l) (none : l.watch ≡ None) (calls : Calls) (begun_in : Call → Visits) (b : ℕ) (later : CallsLater calls) (sound : AllCallsSound l.table calls b) (IsGood : Tree → Type 0)
    (forms : (t : Tree) → IsGood t → Correct l calls begun_in b t) (shown : (t : Tree) → IsGood t → AllShown l calls begun_in b t)
    (goods : (c : ClassId) (j : ℕ) (a : AttributeDef) (t : Tree) → c.0 < length l.table → slice_get (features_of l.table c) j ≡ Some (Attribute a) → a.init ≡ Some t → IsGood t) where
  -- `Shown` for the initializer of a class
  abbrev InitializerShown : ClassId → Type 0
  InitializerShown c =
      (self : Value) (k : ClassId) (made : fitting.World) (q : Pointers) (m : Bytes) (map : Map) (console : Console) (st : State) (s : Machine) (n : ℕ) (x : Visit) → n ≤ b → Below l.table k c
      → Called l k self [] made q m map console st s → q.pc ≡ l.world.place (initializer l.table c)
      → Ample l q (12 * length (chain l.table c)) (run_initials l.table calls self (attributes l.table c) (locations_of self) st n)
      → initials_begun l.table calls begun_in self (attributes l.table c) (locations_of self) st n x → Comes l.world s (Shown l x)

  -- a basic class has no attributes
  basic_shown : (c : ClassId) → c.0 < length l.table → c.0 < 5 → InitializerShown c
  basic_shown c within less self k made q m map console st s n x le below called begins ample h =
      absurd (subst (λ (rs : List AttributeRef). initials_begun l.table calls begun_in self rs (locations_of self) st n x) (no_attributes l.table loaded.buildable.typed c within less) h)

  -- the initializer of a parent runs
  parent_runs : (c : ClassId) → c.0 < length l.table → runs.InitializerRuns l loaded calls begun_in b later sound IsGood forms goods c
  parent_runs c within self k made q m map console st s n le below called begins room watched = runs.initials_correct l loaded calls begun_in b later sound IsGood forms goods c self k made q m map console st s n le within below called begins room watched

  -- the spans of a class's own attributes, from behind the call of its parent's initializer
  own_among : (c parent : ClassId) (pc : ℕ) → 5 ≤ c.0 → parent_of l.table c ≡ Some parent → pc ≡ l.world.place (initializer l.table c) → (y : SpanOf)
      → Contains (along sizes (placed_code l.table l.files (constants l) c) (placed_spans sizes l.table l.files (constants l) c) (pc + 36 + 4) (attributes_in l.table c)) y
      → Contains (initializer_spans sizes l.table l.files (constants l) (l.world.place (initializer l.table c)) c) y
  unfolding begin_init_lines call_init_lines
  own_among c parent pc high above begins y h =
      let label = initializer l.table c in
      let from = l.world.place label + sizes (begin_init_lines label) + sizes enter_lines + sizes (parent_code l.table (parent_of l.table c)) in
      let four : sizes (parent_code l.table (parent_of l.table c)) ≡ 4 = ap (λ (o : Option ClassId). sizes (parent_code l.table o)) above in
      let same : pc + 36 + 4 ≡ from = omega arith in
      let told = along sizes (placed_code l.table l.files (constants l) c) (placed_spans sizes l.table l.files (constants l) c) in
      subst (λ (t : Truth). Contains (if t then [] else told from (attributes_in l.table c)) y) (sym (le-ltb c.0 5 high)) (subst (λ a. Contains (told a (attributes_in l.table c)) y) same h)

  -- a class of the program
  high_shown : (c parent : ClassId) → c.0 < length l.table → 5 ≤ c.0 → parent_of l.table c ≡ Some parent → InitializerShown parent → InitializerShown c
  high_shown c parent within high above parent_shown self k made q m map console st s n x le below called begins ample visit =
      let p = l.table in
      let typed = loaded.buildable.typed in
      let before = parent_runs parent ((typed.whole.grounded.above c parent within above).0) in
      let first = runs.first l loaded calls begun_in b later sound IsGood forms goods c parent within high above before self k made q m map console st s n le below called begins in
      let rest_locations = runs.rest_locations l loaded calls begun_in b later sound IsGood forms goods c parent within high above before self k made q m map console st s n le below called begins in
      let whole = runs.whole l loaded calls begun_in b later sound IsGood forms goods c parent within high above before self k made q m map console st s n le below called begins in
      let whole_is = runs.whole_is l loaded calls begun_in b later sound IsGood forms goods c parent within high above before self k made q m map console st s n le below called begins in
      let q2 = runs.q2 l loaded calls begun_in b later sound IsGood forms goods c parent within high above before self k made q m map console st s n le below called begins in
      let m1 = runs.m1 l loaded calls begun_in b later sound IsGood forms goods c parent within high above before self k made q m map console st s n le below called begins in
      let map1 = runs.map1 l loaded calls begun_in b later sound IsGood forms goods c parent within high above before self k made q m map console st s n le below called begins in
      let step = attributes_step p (rooted p typed.whole) c parent within above in
      let F = λ (_ : Value). run_initials p calls self (own_attributes c 0 (features_of p c)) rest_locations in
      let F_later = initials_later p calls later self (own_attributes c 0 (features_of p c)) rest_locations in
      let ample1 : Ample l q (12 * length (chain p c)) whole = subst (λ (y : Metered Value). Ample l q (12 * length (chain p c)) y) whole_is ample in
      let long : length (chain p c) ≡ 1 + length (chain p parent) =
      (let h = ap length (runs.chain_same l loaded calls begun_in b later sound IsGood forms goods c parent within high above before self k made q m map console st s n le below called begins) in omega arith) in
      let ample2 : Ample l q2 (12 * length (chain p parent)) whole = ample_as l q q2 (12 * length (chain p c)) (12 * length (chain p parent)) whole whole refl (omega arith) (omega arith) (omega arith) (omega arith) ample1 in
      let ample3 : Ample l q2 (12 * length (chain p parent)) first = ample_first l first F q2 (12 * length (chain p parent)) (λ v t left. F_later.later t left) ample2 in
      let laid = l.world.laid in
      let numbers = called.at.numbers in
      let stack = ample1.room.stack in
      let below' = runs.below_parent l loaded calls begun_in b later sound IsGood forms goods c parent within high above before self k made q m map console st s n le below called begins in
      let way = way_of l st whole.outcome (subst (λ (y : Metered Value). After st y.outcome) whole_is ((initials_later p calls later self (attributes p c) (locations_of self)).later st n)) ample1.alive ample1.room.way in
      comes_behind l.world s 0 12 (At l.world (entry_of q) m1 console) (Shown l x)
      (enters l.world q m console s (runs.limits l loaded calls begun_in b later sound IsGood forms goods)
      (runs.enters_there l loaded calls begun_in b later sound IsGood forms goods c parent within high above before self k made q m map console st s n le below called begins) called.at (omega arith)
      (runs.way_here l loaded calls begun_in b later sound IsGood forms goods st console called.shows way))
      (λ s1 at1. comes_behind l.world s1 0 1 (At l.world q2 m1 console) (Shown l x)
      (starting.calls l.world (initializer p parent) (entry_of q) m1 console s1 (runs.jump l loaded calls begun_in b later sound IsGood forms goods c parent within high above before self k made q m map console st s n le below called begins) at1)
      (λ s2 at2.
      let called' = runs.called_parent l loaded calls begun_in b later sound IsGood forms goods c parent within high above before self k made q m map console st s n le below called begins s2 at2 in
      cases (split_begun p calls begun_in self (attributes p parent) (own_attributes c 0 (features_of p c)) (locations_of self) st n x (subst (λ (rs : List AttributeRef). initials_begun p calls begun_in self rs (locations_of self) st n x) step visit))
      (λ h. parent_shown self k made q2 m1 map1 console st s2 n x le below' called' refl ample3 h)
      (λ (v, t, left, e, h). comes_after l none first.outcome s2 n (64 * first.work + 20 * length (chain p parent)) (λ v. Done l (record q2 { pc = q.pc + 36 + 4 }) m1 map1 st first.words self) v t left (Shown l x) e
      (before self k made q2 m1 map1 console st s2 n le below' called' refl ample3.room (λ y h. unwatched l none y))
      (λ u d.
      let (fine, inside, (more, made_rest), homes) = runs.own_part l loaded calls begun_in b later sound IsGood forms goods c parent within high above before self k made q m map console st s n le below called begins t left u v e d in
      let fewer = fine.fewer in
      let used = d.gp_to in
      let q3 : Pointers = record q2 { pc = q.pc + 36 + 4; gp = d.gp; acc = d.acc; ra = d.ra } in
      parts_shown l loaded none calls begun_in b later sound IsGood forms shown c k self within below called.within called.plain called.class (λ j a t there init. goods c j a t within there init) (features_of p c) 0 (attributes p parent) more rest_locations
      (λ i y there. let same : i ≡ 0 + i = omega arith in subst (λ (z : ℕ). slice_get (features_of p c) z ≡ Some y) same there) step fine.world q3 d.memory d.map' d.console t u left x (omega arith) inside made_rest homes
      (has_front (whole_world l) (runs.own_lines l loaded calls begun_in b later sound IsGood forms goods c) (runs.end_lines l loaded calls begun_in b later sound IsGood forms goods) (q.pc + 36 + 4)
      (runs.behind_call l loaded calls begun_in b later sound IsGood forms goods c parent within high above before self k made q m map console st s n le below called begins))
      (ample_then l first F q2 q3 (12 * length (chain p parent)) 0 v t left e ample2 used (omega arith)) (λ y i. own_among c parent q.pc high above begins y i) h))))

  depth_step : (c : ClassId) → c.0 < length l.table → ((parent : ClassId) → parent_of l.table c ≡ Some parent → InitializerShown parent) → InitializerShown c
  depth_step c within parents = by order
    where
      order : (c.0 < 5) ⊎ (5 ≤ c.0)
      order = grind arith

      high_by : 5 ≤ c.0 → (o : Option ClassId) → parent_of l.table c ≡ o → InitializerShown c
      high_by high None above = let top = ap (λ (x : ClassId). x.0) (loaded.buildable.typed.whole.grounded.top c within above).0 in absurd (omega arith)
      high_by high (Some parent) above = high_shown c parent within high above (parents parent above)

      by : (c.0 < 5) ⊎ (5 ≤ c.0) → InitializerShown c
      by (inl low) = basic_shown c within low
      by (inr high) = high_by high (parent_of l.table c) refl

  by_depth : (d : ℕ) (c : ClassId) → c.0 < length l.table → loaded.buildable.typed.whole.depth c ≡ d → InitializerShown c
  by_depth zero c within e = depth_step c within (λ parent above. let up = (loaded.buildable.typed.whole.grounded.above c parent within above).1 in absurd (omega arith))
  by_depth (suc d) c within e = depth_step c within (λ parent above. let up = loaded.buildable.typed.whole.grounded.above c parent within above in by_depth d parent up.0 (omega arith))

  -- a call of initial values
  pub initials_shown : (c : ClassId) (self : Value) (k : ClassId) (made : fitting.World) (q : Pointers) (m : Bytes) (map : Map) (console : Console) (st : State) (s : Machine) (n : ℕ) (x : Visit) → n ≤ b
      → c.0 < length l.table → Below l.table k c → Called l k self [] made q m map console st s → q.pc ≡ l.world.place (initializer l.table c)
      → Room l q (12 * length (chain l.table c)) (run_call l.table calls (Initials c self) st n) → ((run_call l.table calls (Initials c self) st n).outcome ≡ Stuck → ⊥)
      → call_begun l.table calls begun_in (Initials c self) st n x → Comes l.world s (Shown l x)
  initials_shown c self k made q m map console st s n x le within below called begins room alive h =
      by_depth (loaded.buildable.typed.whole.depth c) c within refl self k made q m map console st s n x le below called begins (record { room = room; alive = alive }) h
