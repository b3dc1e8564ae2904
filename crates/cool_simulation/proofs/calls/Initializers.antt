-- The code of a class's initializer simulates the evaluation of its initial values: first those of the attributes of the parent class, and then its own.
use Rattle.std.proofs.Common.{◌≡◌, ◌⊎◌, inl, inr, ℕ, zero, suc, ◌+◌, ◌-◌, ◌*◌, ◌<◌, ◌≤◌, List, [], ◌∷◌, ◌++◌, flat_map, get_or, length, Option, Some, None, Bool as Truth, true, ap, sym, ◌∙◌, refl, subst, arith, append_assoc, append-nil, map as each}
use Rattle.std.specs.Prelude.{pos, drop, slice_get, nat_lt, if◌then◌else◌, Contains}
use Rattle.std.proofs.lemmas.List.{get_or-drop}
use Rattle.std.proofs.lemmas.Bool.{le-ltb}
use Rattle.mips_isa.specs.Bytes.{Bytes}
use Rattle.mips_isa.specs.Calls.{State as Machine}
use Rattle.mips_isa.specs.Lines.{Line}
use Rattle.cool_syntax.specs.declared.file_tree.Feature.TheVariants.{Attribute}
use Rattle.cool_syntax.specs.declared.file_tree.AttributeDef.{AttributeDef}
use Rattle.cool_syntax.specs.Tree.{Tree}
use Rattle.cool_classes.specs.declared.class_id.ClassId.{ClassId}
use Rattle.cool_classes.specs.declared.method.AttributeRef.{AttributeRef}
use Rattle.cool_classes.specs.Chains.{Class, parent_of, features_of, IsChain, Below}
use Rattle.cool_classes.specs.ClimbedChains.{chain}
use Rattle.cool_classes.specs.Features.{own_attributes}
use Rattle.cool_classes.proofs.ChainsOfTables.{chain_is, chain_of}
use Rattle.cool_rules.proofs.ChainsOfTables.{attributes_above, below_trans, below_itself}
use Rattle.cool_runtime.specs.Reaches.{Reaches, stands, OnTheWay}
use Rattle.cool_runtime.specs.Standing.{HasLines, sizes}
use Rattle.cool_runtime.specs.Instructions.{jal, jr}
use Rattle.cool_runtime.specs.Machines.{At, Pointers, Console}
use Rattle.cool_runtime.specs.Premises.{Limits}
use Rattle.cool_runtime.specs.CodeOfCalls.{enter_lines}
use Rattle.cool_runtime.specs.declared.catalogue.Routine.TheVariants as routines
use Rattle.cool_runtime.proofs.Calling.{enters, leaves, with_frame}
use Rattle.cool_runtime.proofs.Starting as starting
use Rattle.cool_runtime.proofs.Pieces.{has_front, has_back, has_at, done, next, return, sizes_append}
use Rattle.cool_layout.specs.Labels.{initializer}
use Rattle.cool_layout.proofs.AttributePlaces.{attributes_step}
use Rattle.cool_codegen.specs.Pieces.{begin_init_lines, call_init_lines, leave_lines, return_basic_lines, take_self_lines}
use Rattle.cool_emit.specs.Programs.{parent_code, placed_code, attributes_from, Placed as Placed', initializer_code}
use Rattle.cool_emit.proofs.RootedTables.{rooted}
use Rattle.cool_meaning.specs.Values.{Value, State}
use Rattle.cool_meaning.specs.Meters.{Outcome, Val, Metered, seq, Computation, Stop, On, Stuck, seq_of}
use Rattle.cool_meaning.specs.Lookups.{attributes, locations_of, init_of}
use Rattle.cool_meaning.specs.Evaluation.{Call, Calls, Initials, run_initials, run_call, run_initial}
use Rattle.cool_meaning.specs.FittingValues.{AreMade, attribute_classes}
use Rattle.cool_meaning.proofs.FittingValues.{still_fits}
use Rattle.cool_meaning.specs.FittingValues as fitting
use Rattle.cool_meaning.proofs.SoundMethods.{Any}
use Rattle.cool_meaning.proofs.SoundComputations.{NotStuck, IsFine}
use Rattle.cool_meaning.proofs.SoundParts.{AllCallsSound}
use Rattle.cool_meaning.proofs.SoundRuns.{initials_sound}
use Rattle.cool_meaning.proofs.Later.{After}
use Rattle.cool_simulation.specs.Loadings.{Loading, IsLoaded, constants, Watched, marks, whole as whole_world}
use Rattle.cool_simulation.specs.Pictures.{Map, Pic, Pictures, Shows}
use Rattle.cool_simulation.specs.Simulation.{Called, Done, Runs, Room, Correct, Placed}
use Rattle.cool_simulation.specs.Visits.{Visits, Visit, call_begun, initials_begun}
use Rattle.cool_simulation.proofs.ground.EvaluationLater.{CallsLater}
use Rattle.cool_simulation.proofs.ground.PartsOfRuns.{Rest, run_after, run_on, run_gives, unless_stuck, way_of}
use Rattle.cool_simulation.proofs.ground.PartsBehind.{gone_of, pic_gone, done_here, done_both}
use Rattle.cool_simulation.proofs.ground.Walks.{takes_self}
use Rattle.cool_simulation.proofs.calls.BodyScenes.{own_object}
use Rattle.cool_simulation.proofs.calls.Entries.{entry_of, located_in, entry_map, entered_pictures, entered_self, entered_frame, frame_unmarked, frame_stays, returned}
use Rattle.cool_simulation.proofs.calls.InitialsSplit.{split, initials_later, wide_runs}
use Rattle.cool_simulation.proofs.calls.InsideFrames.{Inside}
use Rattle.cool_simulation.proofs.calls.InitialParts.{parts_run}
use Rattle.cool_simulation.proofs.calls.BasicAttributes.{no_attributes}
use Rattle.cool_simulation.specs.Quiet.{AreStoresFree, IsFree, IsQuietInitializer}
use Rattle.cool_codegen.specs.Spans.{Span, along, feature_spans}
use Rattle.cool_emit.specs.SpansOfPrograms.{SpanOf, context_of, initializer_spans, placed_spans}
use Rattle.cool_simulation.proofs.ground.Passages.{free_within, quiet}
use Rattle.cool_simulation.proofs.ground.NoMarks.{quiet_initializer}
use Rattle.std.proofs.lemmas.List.Elements.{Contains-append_cases}

low_number : (x : ℕ) → x < 5 → nat_lt x 5 ≡ true
low_number x h = grind arith

-- locations behind those of other attributes
made_drop : (p : List Class) (w : fitting.World) (k : ClassId) (xs ys : List AttributeRef) (ls : List ℕ) → AreMade w ls (attribute_classes p k (xs ++ ys)) → AreMade w (drop (length xs) ls) (attribute_classes p k ys)
made_drop p w k [] ys ls h = h
made_drop p w k (x ∷ xs) ys [] h = absurd h
made_drop p w k (x ∷ xs) ys (l ∷ ls) h = made_drop p w k xs ys ls h.1

few_drop : (n : ℕ) (ls : List ℕ) (i : ℕ) → i < length (drop n ls) → n + i < length ls
few_drop zero ls i less = let h : i < length ls = less in omega arith
few_drop (suc n) [] i less = absurd (omega arith)
few_drop (suc n) (l ∷ ls) i less = let h = few_drop n ls i less in omega arith

-- visits of the attributes in front, and of the others after these, are visits of all of them
begun_front : (p : List Class) (calls : Calls) (begun_in : Call → Visits) (self : Value) (rs rs' : List AttributeRef) (ls : List ℕ) (st : State) (n : ℕ) (x : Visit) → initials_begun p calls begun_in self rs ls st n x
    → initials_begun p calls begun_in self (rs ++ rs') ls st n x
begun_front p calls begun_in self [] rs' ls st n x h = absurd h
begun_front p calls begun_in self (r ∷ rs) rs' [] st n x h = absurd h
begun_front p calls begun_in self (r ∷ rs) rs' (i ∷ ls) st n x (inl h) = inl h
begun_front p calls begun_in self (r ∷ rs) rs' (i ∷ ls) st n x (inr (u, t, left, e, h)) = inr (u, t, left, e, begun_front p calls begun_in self rs rs' ls t left x h)

parts_of : {A B : Type 0} (o : Outcome A) (wk ws pk : ℕ) (F : A → Computation B) (v : B) (t : State) (left : ℕ) → (seq_of o wk ws pk F).outcome ≡ Val v t left
    → (u : A) × (t1 : State) × (left1 : ℕ) × (o ≡ Val u t1 left1) × ((F u t1 left1).outcome ≡ Val v t left)
parts_of (Val u t1 left1) wk ws pk F v t left e = (u, t1, left1, refl, e)
parts_of {B = B} (Stop x t1) wk ws pk F v t left e = let wrong : ◌≡◌ {A = Outcome B} (Stop x t1) (Val v t left) = e in absurd cc
parts_of {B = B} (On t1) wk ws pk F v t left e = let wrong : ◌≡◌ {A = Outcome B} (On t1) (Val v t left) = e in absurd cc
parts_of {B = B} Stuck wk ws pk F v t left e = let wrong : ◌≡◌ {A = Outcome B} Stuck (Val v t left) = e in absurd cc

begun_behind : (p : List Class) (calls : Calls) (begun_in : Call → Visits) (self : Value) (rs rs' : List AttributeRef) (ls : List ℕ) (st : State) (n : ℕ) (v : Value) (t : State) (left : ℕ) (x : Visit)
    → (run_initials p calls self rs ls st n).outcome ≡ Val v t left → initials_begun p calls begun_in self rs' (drop (length rs) ls) t left x → initials_begun p calls begun_in self (rs ++ rs') ls st n x
begun_behind p calls begun_in self [] rs' ls st n v t left x e h =
    let same : Val self st n ≡ Val v t left = e in
    let state : t ≡ st = cc in
    let steps : left ≡ n = cc in
    subst (λ (k : ℕ). initials_begun p calls begun_in self rs' ls st k x) steps (subst (λ (y : State). initials_begun p calls begun_in self rs' ls y left x) state h)
begun_behind p calls begun_in self (r ∷ rs) rs' [] st n v t left x e h = let wrong : ◌≡◌ {A = Outcome Value} Stuck (Val v t left) = e in absurd cc
begun_behind p calls begun_in self (r ∷ rs) rs' (i ∷ ls) st n v t left x e h =
    let o = run_initial p calls self i (init_of p r) st n in
    let (u, t1, left1, e1, e2) = parts_of o.outcome o.work o.words o.peak (λ _. run_initials p calls self rs ls) v t left e in
    inr (u, t1, left1, e1, begun_behind p calls begun_in self rs rs' ls t1 left1 v t left x e2 h)

module _ (l : Loading) (loaded : IsLoaded l) (calls : Calls) (begun_in : Call → Visits) (b : ℕ) (later : CallsLater calls) (sound : AllCallsSound l.table calls b) (IsGood : Tree → Type 0) (forms : (t : Tree) → IsGood t → Correct l calls begun_in b t)
    (goods : (c : ClassId) (j : ℕ) (a : AttributeDef) (t : Tree) → c.0 < length l.table → slice_get (features_of l.table c) j ≡ Some (Attribute a) → a.init ≡ Some t → IsGood t) where
  pub limits : Limits l.world
  limits = record { heap = loaded.routines routines.HeapLimit; stack = loaded.routines routines.StackLimit }

  pub way_here : (st : State) (c : Console) → Shows st c → OnTheWay l.world st.output st.input → OnTheWay l.world c.output c.input
  way_here st c shows way = subst (λ (o : List ℕ). OnTheWay l.world o c.input) (sym shows.output) (subst (λ (i : List ℕ). OnTheWay l.world st.output i) (sym shows.input) way)

  -- the code of an initializer whose parent's code is given
  abbrev pub own_lines : ClassId → List Line
  own_lines c = flat_map (placed_code l.table l.files (constants l) c) (attributes_from 0 (features_of l.table c))

  abbrev pub end_lines : List Line
  end_lines = take_self_lines ++ leave_lines (pos 12)

  abbrev high_lines : ClassId → List Line → List Line
  high_lines c above = begin_init_lines (initializer l.table c) ++ (enter_lines ++ (above ++ (own_lines c ++ end_lines)))

  -- the run of a class's initializer
  abbrev pub InitializerRuns : ClassId → Type 0
  InitializerRuns c =
      (self : Value) (k : ClassId) (made : fitting.World) (q : Pointers) (m : Bytes) (map : Map) (console : Console) (st : State) (s : Machine) (n : ℕ) → n ≤ b → Below l.table k c → Called l k self [] made q m map console st s
      → q.pc ≡ l.world.place (initializer l.table c) → Room l q (12 * length (chain l.table c)) (run_initials l.table calls self (attributes l.table c) (locations_of self) st n)
      → ((x : Visit) → initials_begun l.table calls begun_in self (attributes l.table c) (locations_of self) st n x → Watched l.watch x)
      → Runs l s n (64 * (run_initials l.table calls self (attributes l.table c) (locations_of self) st n).work + 20 * length (chain l.table c))
      (λ v. Done l (record q { pc = q.ra }) m map st (run_initials l.table calls self (attributes l.table c) (locations_of self) st n).words self) (run_initials l.table calls self (attributes l.table c) (locations_of self) st n).outcome

  -- a basic class's returns at once
  basic_runs : (c : ClassId) → c.0 < length l.table → c.0 < 5 → InitializerRuns c
  unfolding return_basic_lines chain
  basic_runs c within less self k made q m map console st s n le below called begins room watched =
      let low : nat_lt c.0 5 ≡ true = low_number c.0 less in
      let place = l.world.place (initializer l.table c) in
      let lines0 : HasLines l.world place (return_basic_lines (initializer l.table c)) =
      subst (λ (t : Truth). HasLines l.world place (if t then return_basic_lines (initializer l.table c) else high_lines c (parent_code l.table (parent_of l.table c)))) low
      (quiet l (initializer_code l.table l.files (constants l) c) place (place + sizes (initializer_code l.table l.files (constants l) c)) (omega arith) ((quiet_initializer l.watch c within).basic less) (loaded.initializers c within)) in
      let lines = has_at l.world (return_basic_lines (initializer l.table c)) _ q.pc (sym begins) lines0 in
      let back = has_at l.world (jr 31 ∷ []) (q.pc + 0) q.pc (omega arith) lines.1 in
      subst (λ (rs : List AttributeRef). Runs l s n (64 * (run_initials l.table calls self rs (locations_of self) st n).work + 20 * length (chain l.table c))
      (λ v. Done l (record q { pc = q.ra }) m map st (run_initials l.table calls self rs (locations_of self) st n).words self) (run_initials l.table calls self rs (locations_of self) st n).outcome)
      (sym (no_attributes l.table loaded.buildable.typed c within less))
      (run_gives l self st s n 1 (64 * 0 + 20 * length (chain l.table c)) (λ v. Done l (record q { pc = q.ra }) m map st 0 self) (omega arith)
      (next l.world s 1 0 1 _ _ (return l.world q m console s back called.at) (omega arith)
      (λ u at. done l.world 0 u _ (done_here l (record q { pc = q.ra }) m map st 0 self u q.acc q.ra console at called.shows called.pictures called.self_is))))

  -- The initializer of a class of the program, where that of its parent does what it means.
  module _ (c parent : ClassId) (within : c.0 < length l.table) (high : 5 ≤ c.0) (above : parent_of l.table c ≡ Some parent) (parent_runs : InitializerRuns parent) (self : Value) (k : ClassId) (made : fitting.World) (q : Pointers) (m : Bytes)
      (map : Map) (console : Console) (st : State) (s : Machine) (n : ℕ) (le : n ≤ b) (below : Below l.table k c) (called : Called l k self [] made q m map console st s) (begins : q.pc ≡ l.world.place (initializer l.table c)) where
    parent_within : parent.0 < length l.table
    parent_within = (loaded.buildable.typed.whole.grounded.above c parent within above).0

    lines : HasLines (whole_world l) q.pc (high_lines c (call_init_lines (initializer l.table parent)))
    lines =
        subst (λ (o : Option ClassId). HasLines (whole_world l) q.pc (high_lines c (parent_code l.table o))) above
        (has_at (whole_world l) (high_lines c (parent_code l.table (parent_of l.table c))) _ q.pc (sym begins)
        (subst (λ (t : Truth). HasLines (whole_world l) (l.world.place (initializer l.table c)) (if t then return_basic_lines (initializer l.table c) else high_lines c (parent_code l.table (parent_of l.table c)))) (le-ltb c.0 5 high)
        (loaded.initializers c within)))

    -- its pieces have no mark

    still : IsQuietInitializer (marks l.watch) l.table l.files (constants l) c (l.world.place (initializer l.table c))
    still = quiet_initializer l.watch c within

    values_at : l.world.place (initializer l.table c) + sizes (begin_init_lines (initializer l.table c)) + sizes enter_lines + sizes (parent_code l.table (parent_of l.table c)) ≡ q.pc + 36 + 4
    unfolding begin_init_lines call_init_lines
    values_at =
        let four : sizes (parent_code l.table (parent_of l.table c)) ≡ 4 = ap (λ (o : Option ClassId). sizes (parent_code l.table o)) above in
        omega arith

    begin_free : IsFree (marks l.watch) q.pc (q.pc + 36 + 4)
    begin_free = let e = values_at in free_within (marks l.watch) _ _ q.pc (q.pc + 36 + 4) (omega arith) (omega arith) (still.begin high)

    pub stores_free : AreStoresFree (marks l.watch) l.table l.files (constants l) c (q.pc + 36 + 4) (attributes_from 0 (features_of l.table c))
    stores_free = subst (λ (a : ℕ). AreStoresFree (marks l.watch) l.table l.files (constants l) c a (attributes_from 0 (features_of l.table c))) values_at (still.stores high)

    end_free : IsFree (marks l.watch) (q.pc + 36 + 4 + sizes (own_lines c)) (q.pc + 36 + 4 + sizes (own_lines c) + sizes end_lines)
    end_free =
        let label = initializer l.table c in
        let parents = parent_code l.table (parent_of l.table c) in
        let e = values_at in
        let code_is : initializer_code l.table l.files (constants l) c ≡ high_lines c parents = ap (λ (t : Truth). if t then return_basic_lines label else high_lines c parents) (le-ltb c.0 5 high) in
        let sum : sizes (initializer_code l.table l.files (constants l) c) ≡ sizes (high_lines c parents) = ap sizes code_is in
        let s1 = sizes_append l.world (begin_init_lines label) (enter_lines ++ (parents ++ (own_lines c ++ end_lines))) in
        let s2 = sizes_append l.world enter_lines (parents ++ (own_lines c ++ end_lines)) in
        let s3 = sizes_append l.world parents (own_lines c ++ end_lines) in
        let s4 = sizes_append l.world (own_lines c) end_lines in
        free_within (marks l.watch) _ _ _ _ (omega arith) (omega arith) (still.end high)

    -- its spans
    pub own_placed : (y : SpanOf) → Contains (along sizes (placed_code l.table l.files (constants l) c) (placed_spans sizes l.table l.files (constants l) c) (q.pc + 36 + 4) (attributes_from 0 (features_of l.table c))) y
        → Placed l y.class y.feature y.span
    own_placed y h =
        let told = along sizes (placed_code l.table l.files (constants l) c) (placed_spans sizes l.table l.files (constants l) c) in
        let from = l.world.place (initializer l.table c) + sizes (begin_init_lines (initializer l.table c)) + sizes enter_lines + sizes (parent_code l.table (parent_of l.table c)) in
        let among : Contains (initializer_spans sizes l.table l.files (constants l) (l.world.place (initializer l.table c)) c) y =
        subst (λ (t : Truth). Contains (if t then [] else told from (attributes_from 0 (features_of l.table c))) y) (sym (le-ltb c.0 5 high)) (subst (λ (a : ℕ). Contains (told a (attributes_from 0 (features_of l.table c))) y) (sym values_at) h) in
        let same : y.class ≡ c = of_class (q.pc + 36 + 4) (attributes_from 0 (features_of l.table c)) y h in
        record { there = inr (subst (λ (d : ClassId). Contains (initializer_spans sizes l.table l.files (constants l) (l.world.place (initializer l.table d)) d) y) (sym same) among); quiet = still.spans y among }
      where
        of_one : (f : ℕ) (xs : List Span) (y : SpanOf) → Contains (each (λ (x : Span). record { class = c; feature = f; span = x }) xs) y → y.class ≡ c
        of_one f [] y (k, less, e) = absurd (omega arith)
        of_one f (x ∷ xs) y (zero, less, e) = ap (λ (z : SpanOf). z.class) (sym e)
        of_one f (x ∷ xs) y (suc k, less, e) = of_one f xs y (k, omega arith, e)

        of_class : (pc : ℕ) (fs : List Placed') (y : SpanOf) → Contains (along sizes (placed_code l.table l.files (constants l) c) (placed_spans sizes l.table l.files (constants l) c) pc fs) y → y.class ≡ c
        of_class pc [] y (k, less, e) = absurd (omega arith)
        of_class pc (f ∷ fs) y h =
            by (Contains-append_cases (placed_spans sizes l.table l.files (constants l) c pc f) _ y h)
            (of_one f.place (feature_spans sizes (context_of l.table l.files c f.place) (constants l) pc f.feature) y) (of_class (pc + sizes (placed_code l.table l.files (constants l) c f)) fs y)
          where
            by : {A B C : Type 0} → A ⊎ B → (A → C) → (B → C) → C
            by (inl a) f g = f a
            by (inr b) f g = g b

    pub behind_label : HasLines (whole_world l) q.pc (enter_lines ++ (call_init_lines (initializer l.table parent) ++ (own_lines c ++ end_lines)))
    unfolding begin_init_lines
    behind_label = has_back (whole_world l) (begin_init_lines (initializer l.table c)) (enter_lines ++ (call_init_lines (initializer l.table parent) ++ (own_lines c ++ end_lines))) q.pc q.pc (omega arith) lines

    behind_enter : HasLines (whole_world l) (q.pc + 36) (call_init_lines (initializer l.table parent) ++ (own_lines c ++ end_lines))
    behind_enter = has_back (whole_world l) enter_lines (call_init_lines (initializer l.table parent) ++ (own_lines c ++ end_lines)) q.pc (q.pc + 36) refl behind_label

    pub jump : HasLines l.world (q.pc + 36) (jal (initializer l.table parent) ∷ [])
    unfolding call_init_lines
    jump =
        quiet l (jal (initializer l.table parent) ∷ []) (q.pc + 36) (q.pc + 36 + 4) (omega arith) (free_within (marks l.watch) q.pc (q.pc + 36 + 4) (q.pc + 36) (q.pc + 36 + 4) (omega arith) (omega arith) begin_free)
        (has_front (whole_world l) (jal (initializer l.table parent) ∷ []) (own_lines c ++ end_lines) (q.pc + 36) behind_enter)

    pub enters_there : HasLines l.world q.pc enter_lines
    enters_there =
        quiet l enter_lines q.pc (q.pc + 36) (omega arith) (free_within (marks l.watch) q.pc (q.pc + 36 + 4) q.pc (q.pc + 36) (omega arith) (omega arith) begin_free)
        (has_front (whole_world l) enter_lines (call_init_lines (initializer l.table parent) ++ (own_lines c ++ end_lines)) q.pc behind_label)

    pub behind_call : HasLines (whole_world l) (q.pc + 36 + 4) (own_lines c ++ end_lines)
    unfolding call_init_lines
    behind_call = has_back (whole_world l) (jal (initializer l.table parent) ∷ []) (own_lines c ++ end_lines) (q.pc + 36) (q.pc + 36 + 4) refl behind_enter

    -- the pointers at the call of the parent's initializer
    abbrev pub q2 : Pointers
    q2 = record (entry_of q) { pc = l.world.place (initializer l.table parent); ra = q.pc + 36 + 4 }

    abbrev pub m1 : Bytes
    m1 = with_frame m q

    abbrev pub map1 : Map
    map1 = entry_map map st [] q

    same_state : located_in st [] ≡ st
    same_state = ap (λ (xs : List Value). record st { store = xs }) (append-nil st.store)

    pictures1 : Pictures l.table l.world l.memory m1 map1 st q.gp (q.sp - 12)
    pictures1 = subst (λ (x : State). Pictures l.table l.world l.memory m1 map1 x q.gp (q.sp - 12)) same_state (entered_pictures l k self [] made q m map console st s called)

    self1 : Pic l.world m1 map1 st.drawn q.gp self q.acc
    self1 = entered_self l k self [] made q m map console st s called

    pub called_parent : (s2 : Machine) → At l.world q2 m1 console s2 → Called l k self [] made q2 m1 map1 console st s2
    called_parent s2 at2 =
        let numbers = called.at.numbers in
        let room = called.room in
        let low = jump.0.words.0.low in
        record {
          at = at2;
          shows = called.shows;
          pictures = pictures1;
          self_is = self1;
          room = omega arith;
          saved = (omega arith, omega arith, numbers.acc_fits);
          values = λ j v e. nothing_at j v e _;
          unmarked = λ i a b. absurd (omega arith);
          class = called.class;
          within = called.within;
          plain = called.plain;
          self_fits = called.self_fits;
          fits = called.fits;
        }
      where
        nothing_at : (j : ℕ) (v : Value) → slice_get {X = Value} [] j ≡ Some v → (a : ℕ) → Pic l.world m1 map1 st.drawn q.gp v a
        nothing_at j v e a = absurd cc

    pub chain_same : chain l.table c ≡ c ∷ chain l.table parent
    chain_same =
        chain_of l.table c (c ∷ chain l.table parent) (refl, subst (λ (o : Option ClassId). IsChain l.table o (chain l.table parent)) (sym above) (chain_is l.table parent loaded.buildable.typed.whole.table parent_within))

    pub below_parent : Below l.table k parent
    below_parent =
        let (ds, is, (i, less, e)) = below_itself l.table loaded.buildable.typed.whole parent parent_within in
        below_trans l.table k c parent below (c ∷ ds, (refl, subst (λ (o : Option ClassId). IsChain l.table o ds) (sym above) is), (suc i, omega arith, e))

    -- the outcome of both parts
    abbrev pub first : Metered Value
    first = run_initials l.table calls self (attributes l.table parent) (locations_of self) st n

    abbrev pub rest_locations : List ℕ
    rest_locations = drop (length (attributes l.table parent)) (locations_of self)

    abbrev pub whole : Metered Value
    whole = seq first (λ v. run_initials l.table calls self (own_attributes c 0 (features_of l.table c)) rest_locations)

    pub whole_is : run_initials l.table calls self (attributes l.table c) (locations_of self) st n ≡ whole
    whole_is =
        ap (λ (rs : List AttributeRef). run_initials l.table calls self rs (locations_of self) st n) (attributes_step l.table (rooted l.table loaded.buildable.typed.whole) c parent within above)
        ∙ split l.table calls self (attributes l.table parent) (own_attributes c 0 (features_of l.table c)) (locations_of self) st n

    -- the end: self to $a0, and the return
    leaving : (words : ℕ) (x : Value) (t : State) (u : Machine) → Done l (record q2 { pc = q.pc + 36 + 4 + sizes (own_lines c) }) m1 map1 st words x t u → Reaches l.world u 0 6 (stands (Done l (record q { pc = q.ra }) m map st words self t))
    unfolding leave_lines take_self_lines
    leaving words x t u d =
        let laid = l.world.laid in
        let numbers = called.at.numbers in
        let limit = d.at.numbers in
        let room = called.room in
        let last : HasLines l.world (q.pc + 36 + 4 + sizes (own_lines c)) end_lines =
        quiet l end_lines (q.pc + 36 + 4 + sizes (own_lines c)) (q.pc + 36 + 4 + sizes (own_lines c) + sizes end_lines) (omega arith) end_free
        (has_back (whole_world l) (own_lines c) end_lines (q.pc + 36 + 4) (q.pc + 36 + 4 + sizes (own_lines c)) refl behind_call) in
        let frame = frame_stays l.world m1 d.memory map1.marked q.gp (q.sp - 12) q.ra q.fp q.self d.kept (omega arith) (frame_unmarked l k self [] made q m map console st s called) (entered_frame l k self [] made q m map console st s called) in
        let self2 : Pic l.world d.memory d.map' t.drawn d.gp self q.acc = pic_gone l.world m1 d.memory map1 d.map' st t q.gp d.gp (q.sp - 12) words self q.acc (gone_of l _ m1 map1 st words x t u d) self1 in
        next l.world u 1 5 6 _ _ (takes_self l.world _ d.memory d.console u (has_front l.world take_self_lines (leave_lines (pos 12)) _ last) d.at numbers.acc_fits) (omega arith) (λ u1 at1.
        next l.world u1 5 0 5 _ _ (leaves l.world 0 _ d.memory d.console u1 q.ra q.fp q.self (has_back l.world take_self_lines (leave_lines (pos 12)) _ _ refl last) at1 frame (omega arith) (omega arith) (omega arith)) (omega arith)
        (λ u2 at2. done l.world 0 u2 _ (finish words x t u d u1 at1 self2 u2 at2)))
      where
        finish : (words : ℕ) (x : Value) (t : State) (u : Machine) → (d : Done l (record q2 { pc = q.pc + 36 + 4 + sizes (own_lines c) }) m1 map1 st words x t u) → (u1 : Machine)
            → At l.world (record q2 { pc = q.pc + 36 + 4 + sizes (own_lines c) + 4; gp = d.gp; acc = q.acc; ra = d.ra }) d.memory d.console u1 → Pic l.world d.memory d.map' t.drawn d.gp self q.acc → (u2 : Machine)
            → At l.world (record q { pc = q.ra; gp = d.gp; sp = q.sp - 12 + 12 + 4 * 0; acc = q.acc }) d.memory d.console u2 → Done l (record q { pc = q.ra }) m map st words self t u2
        finish words x t u d u1 at1 self2 u2 at2 =
            let laid = l.world.laid in
            let numbers = called.at.numbers in
            let inner : Done l (record (entry_of q) { pc = q.pc + 36 + 4 + sizes (own_lines c) + 4 }) m1 map1 st words self t u1 = record {
              gp = d.gp;
              acc = q.acc;
              ra = d.ra;
              memory = d.memory;
              map' = d.map';
              console = d.console;
              at = at1;
              shows = d.shows;
              pictures = d.pictures;
              value = self2;
              kept = d.kept;
              grown = d.grown;
              drawn = d.drawn;
              located = d.located;
              gp_from = d.gp_from;
              gp_to = d.gp_to;
            } in
            let back = subst (λ (y : State). (e : Done l (record (entry_of q) { pc = q.pc + 36 + 4 + sizes (own_lines c) + 4 }) m1 map1 y words self t u1)
            → At l.world (record q { pc = q.ra; gp = e.gp; sp = q.sp + 4 * 0; acc = e.acc }) e.memory e.console u2 → Done l (record q { pc = q.ra; sp = q.sp + 4 * 0 }) m map st words self t u2) same_state
            (returned l k self [] made q m map console st s called words (q.pc + 36 + 4 + sizes (own_lines c) + 4) self t u1 u2) in
            let same : q.sp + 4 * 0 ≡ q.sp = omega arith in
            subst (λ (y : ℕ). Done l (record q { pc = q.ra; sp = y }) m map st words self t u2) same
            (back inner (record { numbers = let end = at2.numbers in omega arith; memory_is = at2.memory_is; input_is = at2.input_is; ended_is = at2.ended_is; output_is = at2.output_is }))

    -- After the parent's initializer the machine stands inside the frame, and the locations of the class's own attributes are at home.
    pub own_part : (t : State) (left : ℕ) (u : Machine) (v : Value) → first.outcome ≡ Val v t left → (d : Done l (record q2 { pc = q.pc + 36 + 4 }) m1 map1 st first.words self t u)
        → (fine : IsFine {A = Value} l.table made n Any v t left) × Inside l k self fine.world (record q2 { pc = q.pc + 36 + 4; gp = d.gp; acc = d.acc; ra = d.ra }) d.memory d.map' d.console t u
        × ((more : List AttributeRef) × AreMade fine.world rest_locations (attribute_classes l.table k (own_attributes c 0 (features_of l.table c) ++ more)))
        × ((i : ℕ) → i < length rest_locations → d.map'.home (get_or rest_locations i 0) ≡ q.acc + 12 + 4 * (length (attributes l.table parent) + i))
    own_part t left u v e d =
        let p = l.table in
        let typed = loaded.buildable.typed in
        let laid = l.world.laid in
        let numbers = called.at.numbers in
        let limit = d.at.numbers in
        let room = called.room in
        let fine : IsFine {A = Value} p made n Any v t left = subst (λ (y : Outcome Value). NotStuck p made n (Any {A = Value}) y) e
        ((initials_sound p typed calls b sound made parent self k parent_within called.class called.within called.plain below_parent called.self_fits).sound st n le called.fits) in
        let fit = still_fits p made fine.world fine.grown self k called.self_fits in
        let self2 : Pic l.world d.memory d.map' t.drawn d.gp self q.acc = pic_gone l.world m1 d.memory map1 d.map' st t q.gp d.gp (q.sp - 12) first.words self q.acc (gone_of l _ m1 map1 st first.words self t u d) self1 in
        let inside : Inside l k self fine.world (record q2 { pc = q.pc + 36 + 4; gp = d.gp; acc = d.acc; ra = d.ra }) d.memory d.map' d.console t u = record {
          at = d.at;
          shows = d.shows;
          pictures = d.pictures;
          self_is = self2;
          frame_is = refl;
          frame = omega arith;
          fit = fit;
          fits = fine.store;
          held = self;
          held_is = d.value;
        } in
        let own = own_object p l.world l.memory d.memory d.map' t d.gp (q.sp - 12) fine.world self k q.acc d.pictures self2 called.class called.plain fit in
        let (more, split_k) = attributes_above p k c (chain p k) (chain p c) below (chain_is p k typed.whole.table called.within) (chain_is p c typed.whole.table within) in
        let step = attributes_step p (rooted p typed.whole) c parent within above in
        let parted : attributes p k ≡ attributes p parent ++ (own_attributes c 0 (features_of p c) ++ more) =
        split_k ∙ ap (λ (rs : List AttributeRef). rs ++ more) step ∙ append_assoc (attributes p parent) (own_attributes c 0 (features_of p c)) more in
        let made_rest = made_drop p fine.world k (attributes p parent) (own_attributes c 0 (features_of p c) ++ more) (locations_of self)
        (subst (λ (rs : List AttributeRef). AreMade fine.world (locations_of self) (attribute_classes p k rs)) parted own.made_for) in (
          fine,
          inside,
          (more, made_rest),
          (λ i less. ap d.map'.home (get_or-drop (length (attributes p parent)) (locations_of self) i 0) ∙ own.homes (length (attributes p parent) + i) (few_drop (length (attributes p parent)) (locations_of self) i less) ∙ omega arith),
        )

    -- the run after the parent's initializer
    own_runs : (t : State) (left : ℕ) (u : Machine) (v : Value) → first.outcome ≡ Val v t left → (d : Done l (record q2 { pc = q.pc + 36 + 4 }) m1 map1 st first.words self t u) → whole.words ≡ first.words + (run_initials l.table calls self (own_attributes c 0 (features_of l.table c)) rest_locations t left).words
        → Rest l q2 (12 * length (chain l.table parent)) first.words (run_initials l.table calls self (own_attributes c 0 (features_of l.table c)) rest_locations t left)
        → ((x : Visit) → initials_begun l.table calls begun_in self (own_attributes c 0 (features_of l.table c)) rest_locations t left x → Watched l.watch x)
        → Runs l u left (64 * (run_initials l.table calls self (own_attributes c 0 (features_of l.table c)) rest_locations t left).work + 6) (λ v. Done l (record q { pc = q.ra }) m map st whole.words self)
        (run_initials l.table calls self (own_attributes c 0 (features_of l.table c)) rest_locations t left).outcome
    own_runs t left u v e d same_words rest watched =
        let p = l.table in
        let typed = loaded.buildable.typed in
        let laid = l.world.laid in
        let numbers = called.at.numbers in
        let limit = d.at.numbers in
        let room = called.room in
        let (fine, inside, (more, made_rest), homes) = own_part t left u v e d in
        let fewer = fine.fewer in
        let step = attributes_step p (rooted p typed.whole) c parent within above in
        let o = run_initials p calls self (own_attributes c 0 (features_of p c)) rest_locations t left in
        let to = d.gp_to in
        let heap = rest.heap in
        let stack = rest.stack in
        run_on l o.outcome u left (64 * o.work) 6 (64 * o.work + 6) _ _ (omega arith)
        (parts_run l loaded calls begun_in b later sound IsGood forms c k self within below called.within called.plain called.class (λ j a x there init. goods c j a x within there init) (features_of p c) 0 (attributes p parent) more rest_locations
        (λ i x there. let same : i ≡ 0 + i = omega arith in subst (λ (y : ℕ). slice_get (features_of p c) y ≡ Some x) same there) step
        fine.world (record q2 { pc = q.pc + 36 + 4; gp = d.gp; acc = d.acc; ra = d.ra }) d.memory d.map' d.console t u left (omega arith) inside made_rest
        homes
        (has_front (whole_world l) (own_lines c) end_lines (q.pc + 36 + 4) behind_call) stores_free own_placed (record { heap = omega arith; stack = omega arith; way = rest.way }) watched)
        (λ w t2 u2 passed. leaving whole.words passed.0 t2 u2
        (done_both l q2 m1 map1 st first.words o.words whole.words self passed.0 t t2 u u2 (q.pc + 36 + 4) (q.pc + 36 + 4 + sizes (own_lines c)) d.acc d.ra limit.sp_even d passed.1 (omega arith)))

    abbrev Begun : List AttributeRef → Visit → Type 0
    Begun rs x = initials_begun l.table calls begun_in self rs (locations_of self) st n x

    -- visits of both parts are visits of all attributes
    begun_all : (x : Visit) → Begun (attributes l.table parent ++ own_attributes c 0 (features_of l.table c)) x → Begun (attributes l.table c) x
    begun_all x h = subst (λ (rs : List AttributeRef). Begun rs x) (sym (attributes_step l.table (rooted l.table loaded.buildable.typed.whole) c parent within above)) h

    pub high_runs : Room l q (12 * length (chain l.table c)) (run_initials l.table calls self (attributes l.table c) (locations_of self) st n) → ((x : Visit) → Begun (attributes l.table c) x → Watched l.watch x)
        → Runs l s n (64 * (run_initials l.table calls self (attributes l.table c) (locations_of self) st n).work + 20 * length (chain l.table c))
        (λ v. Done l (record q { pc = q.ra }) m map st (run_initials l.table calls self (attributes l.table c) (locations_of self) st n).words self) (run_initials l.table calls self (attributes l.table c) (locations_of self) st n).outcome
    high_runs room watched =
        subst (λ (x : Metered Value). Runs l s n (64 * x.work + 20 * length (chain l.table c)) (λ v. Done l (record q { pc = q.ra }) m map st x.words self) x.outcome) (sym whole_is)
        (by (subst (λ (x : Metered Value). Room l q (12 * length (chain l.table c)) x) whole_is room))
      where
        by : Room l q (12 * length (chain l.table c)) whole → Runs l s n (64 * whole.work + 20 * length (chain l.table c)) (λ v. Done l (record q { pc = q.ra }) m map st whole.words self) whole.outcome
        by room =
            let laid = l.world.laid in
            let numbers = called.at.numbers in
            let long : length (chain l.table c) ≡ 1 + length (chain l.table parent) = let h = ap length chain_same in omega arith in
            let heap = room.heap in
            let stack = room.stack in
            let after : After st whole.outcome = subst (λ (x : Metered Value). After st x.outcome) whole_is ((initials_later l.table calls later self (attributes l.table c) (locations_of self)).later st n) in
            unless_stuck l whole.outcome s n (64 * whole.work + 20 * length (chain l.table c)) _ (λ some.
            run_after l whole.outcome s n 12 (1 + (64 * whole.work + (20 * length (chain l.table parent) + 6))) (64 * whole.work + 20 * length (chain l.table c)) _ _ (omega arith)
            (enters l.world q m console s limits enters_there called.at (omega arith)
            (way_here st console called.shows (way_of l st whole.outcome after some room.way))) (λ s1 at1.
            run_after l whole.outcome s1 n 1 (64 * whole.work + (20 * length (chain l.table parent) + 6)) (1 + (64 * whole.work + (20 * length (chain l.table parent) + 6))) _ _ (omega arith)
            (starting.calls l.world (initializer l.table parent) (entry_of q) m1 console s1 jump at1) (λ s2 at2.
            wide_runs l first (λ v. run_initials l.table calls self (own_attributes c 0 (features_of l.table c)) rest_locations) s2 n (20 * length (chain l.table parent)) 6 q2 (12 * length (chain l.table parent))
            (λ v. Done l (record q2 { pc = q.pc + 36 + 4 }) m1 map1 st first.words self) (λ v. Done l (record q { pc = q.ra }) m map st whole.words self)
            (λ v t left. (initials_later l.table calls later self (own_attributes c 0 (features_of l.table c)) rest_locations).later t left)
            (record { heap = omega arith; stack = omega arith; way = room.way })
            (λ room'. parent_runs self k made q2 m1 map1 console st s2 n le below_parent (called_parent s2 at2) refl room'
            (λ x h. watched x (begun_all x (begun_front l.table calls begun_in self (attributes l.table parent) (own_attributes c 0 (features_of l.table c)) (locations_of self) st n x h))))
            (λ v t left u e d same_words rest. own_runs t left u v e d same_words rest
            (λ x h. watched x (begun_all x (begun_behind l.table calls begun_in self (attributes l.table parent) (own_attributes c 0 (features_of l.table c)) (locations_of self) st n v t left x e h)))))))

  depth_step : (c : ClassId) → c.0 < length l.table → ((parent : ClassId) → parent_of l.table c ≡ Some parent → InitializerRuns parent) → InitializerRuns c
  depth_step c within parents = by order
    where
      order : (c.0 < 5) ⊎ (5 ≤ c.0)
      order = grind arith

      high_by : 5 ≤ c.0 → (o : Option ClassId) → parent_of l.table c ≡ o → InitializerRuns c
      high_by high None above = let top = ap (λ (x : ClassId). x.0) (loaded.buildable.typed.whole.grounded.top c within above).0 in absurd (omega arith)
      high_by high (Some parent) above = λ self k made q m map console st s n le below called begins room watched.
          high_runs c parent within high above (parents parent above) self k made q m map console st s n le below called begins room watched

      by : (c.0 < 5) ⊎ (5 ≤ c.0) → InitializerRuns c
      by (inl low) = basic_runs c within low
      by (inr high) = high_by high (parent_of l.table c) refl

  by_depth : (d : ℕ) (c : ClassId) → c.0 < length l.table → loaded.buildable.typed.whole.depth c ≡ d → InitializerRuns c
  by_depth zero c within e = depth_step c within (λ parent above. let up = (loaded.buildable.typed.whole.grounded.above c parent within above).1 in absurd (omega arith))
  by_depth (suc d) c within e = depth_step c within (λ parent above. let up = loaded.buildable.typed.whole.grounded.above c parent within above in by_depth d parent up.0 (omega arith))

  -- a call of initial values
  pub initials_correct : (c : ClassId) (self : Value) (k : ClassId) (made : fitting.World) (q : Pointers) (m : Bytes) (map : Map) (console : Console) (st : State) (s : Machine) (n : ℕ) → n ≤ b
      → c.0 < length l.table → Below l.table k c → Called l k self [] made q m map console st s → q.pc ≡ l.world.place (initializer l.table c)
      → Room l q (12 * length (chain l.table c)) (run_call l.table calls (Initials c self) st n)
      → ((x : Visit) → call_begun l.table calls begun_in (Initials c self) st n x → Watched l.watch x)
      → Runs l s n (64 * (run_call l.table calls (Initials c self) st n).work + 20 * length (chain l.table c))
      (λ v. Done l (record q { pc = q.ra }) m map st (run_call l.table calls (Initials c self) st n).words self) (run_call l.table calls (Initials c self) st n).outcome
  initials_correct c self k made q m map console st s n le within below called begins room watched =
      by_depth (loaded.buildable.typed.whole.depth c) c within refl self k made q m map console st s n le below called begins room watched
