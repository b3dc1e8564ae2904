-- The code for the initial values of a class's own attributes simulates their evaluation, one attribute after another.
use Rattle.std.proofs.Common.{◌≡◌, ℕ, suc, ◌+◌, ◌*◌, ◌<◌, ◌≤◌, List, [], ◌∷◌, ◌++◌, flat_map, length, get_or, Option, Some, None, sym, ◌∙◌, refl, subst, arith, append_assoc, inl, inr, ◌⊎◌, zero, map as each, ap}
use Rattle.std.specs.Prelude.{slice_get, Contains, IfSome}
use Rattle.mips_isa.specs.Bytes.{Bytes}
use Rattle.mips_isa.specs.Calls.{State as Machine}
use Rattle.mips_isa.specs.Lines.{Line}
use Rattle.cool_syntax.specs.declared.file_tree.Feature.{Feature}
use Rattle.cool_syntax.specs.declared.file_tree.Feature.TheVariants.{Method, Attribute}
use Rattle.cool_syntax.specs.declared.file_tree.AttributeDef.{AttributeDef}
use Rattle.cool_syntax.specs.Tree.{Tree}
use Rattle.cool_classes.specs.declared.class_id.ClassId.{ClassId}
use Rattle.cool_classes.specs.declared.method.AttributeRef.{AttributeRef}
use Rattle.cool_classes.specs.Chains.{Below, features_of}
use Rattle.cool_classes.specs.Features.{own_attributes, result_in}
use Rattle.cool_classes.specs.LawfulTables.{MayInherit}
use Rattle.cool_runtime.specs.Standing.{HasLines, sizes}
use Rattle.cool_runtime.specs.Machines.{Pointers, Console}
use Rattle.cool_runtime.proofs.Pieces.{has_front, has_back, sizes_append, done}
use Rattle.cool_codegen.specs.Features.{initial_value_code, attributes_in}
use Rattle.cool_emit.specs.Programs.{attributes_from, placed_code}
use Rattle.cool_meaning.specs.Values.{Value, State, class_of}
use Rattle.cool_meaning.specs.Meters.{Outcome, Val, seq}
use Rattle.cool_meaning.specs.Lookups.{attributes, init_in}
use Rattle.cool_meaning.specs.Evaluation.{Call, Calls, run_initial, run_initials}
use Rattle.cool_meaning.specs.FittingValues.{AreMade, meant, attribute_classes}
use Rattle.cool_meaning.proofs.FittingValues.{still_all_made}
use Rattle.cool_meaning.specs.FittingValues as fitting
use Rattle.cool_meaning.proofs.SoundMethods.{Any}
use Rattle.cool_meaning.proofs.SoundComputations.{NotStuck, IsFine, give_sound}
use Rattle.cool_meaning.proofs.SoundParts.{AllCallsSound}
use Rattle.cool_simulation.specs.Loadings.{Loading, IsLoaded, constants, context, Watched, marks, whole}
use Rattle.cool_simulation.specs.Pictures.{Map}
use Rattle.cool_simulation.specs.Simulation.{Done, Runs, Room, Correct, Placed}
use Rattle.cool_simulation.specs.Visits.{Visits, Visit, behind, initial_begun, initials_begun}
use Rattle.cool_simulation.proofs.ground.EvaluationLater.{CallsLater}
use Rattle.cool_simulation.proofs.ground.PartsOfRuns.{Rest, run_wider, run_as, run_gives, bind_runs}
use Rattle.cool_simulation.proofs.ground.PartsBehind.{done_here, done_both}
use Rattle.cool_simulation.proofs.calls.InitialsSplit.{initials_later}
use Rattle.cool_simulation.proofs.calls.InsideFrames.{Inside, Passed, next_inside, within_store}
use Rattle.cool_simulation.proofs.calls.InitialValues.{initial_sound, initial_runs}
use Rattle.cool_simulation.specs.Quiet.{AreStoresFree, IsFree}
use Rattle.cool_codegen.specs.Spans.{Span, along, initial_value_spans}
use Rattle.cool_emit.specs.SpansOfPrograms.{SpanOf, placed_spans}
use Rattle.cool_codegen.specs.Code.{code}
use Rattle.std.proofs.lemmas.List.Elements.{Contains-append_left, Contains-append_right}
use Rattle.cool_simulation.proofs.ground.CodeOfParts.{in_rest}

-- the image of a list contains the image of each item
pub in_image : {X Y : Type 0} (f : X → Y) (xs : List X) (x : X) → Contains xs x → Contains (each f xs) (f x)
in_image f [] x (k, less, e) = absurd (omega arith)
in_image f (y ∷ xs) x (zero, less, e) = (0, omega arith, ap f e)
in_image f (y ∷ xs) x (suc k, less, e) = in_rest (f y) (each f xs) (f x) (in_image f xs x (k, omega arith, e))

module _ (l : Loading) (loaded : IsLoaded l) (calls : Calls) (begun_in : Call → Visits) (b : ℕ) (later : CallsLater calls) (sound : AllCallsSound l.table calls b) (IsGood : Tree → Type 0) (forms : (t : Tree) → IsGood t → Correct l calls begun_in b t)
    (c k : ClassId) (self : Value) (within : c.0 < length l.table) (below : Below l.table k c) (k_within : k.0 < length l.table) (plain : MayInherit k) (is : class_of self ≡ Some k)
    (goods : (j : ℕ) (a : AttributeDef) (t : Tree) → slice_get (features_of l.table c) j ≡ Some (Attribute a) → a.init ≡ Some t → IsGood t) where
  abbrev pub own_code : ℕ → List Feature → List Line
  own_code j fs = flat_map (placed_code l.table l.files (constants l) c) (attributes_from j fs)

  abbrev pub init_code : ℕ → Option Tree → List Line
  init_code j o = initial_value_code (context l c j) (constants l) o

  -- the spans of these features' initial values, from where they begin, are those of the initializer
  abbrev pub ArePlaced : ℕ → ℕ → List Feature → Type 0
  ArePlaced pc j fs = (y : SpanOf) → Contains (along sizes (placed_code l.table l.files (constants l) c) (placed_spans sizes l.table l.files (constants l) c) pc (attributes_from j fs)) y → Placed l y.class y.feature y.span

  abbrev pub AreFree : ℕ → ℕ → List Feature → Type 0
  AreFree pc j fs = AreStoresFree (marks l.watch) l.table l.files (constants l) c pc (attributes_from j fs)

  -- the run of these features' initial values, from any machine inside the frame
  abbrev pub PartsRun : ℕ → List Feature → List AttributeRef → List AttributeRef → List ℕ → Type 0
  PartsRun j fs front more ls =
      (made : fitting.World) (q : Pointers) (m : Bytes) (map : Map) (console : Console) (st : State) (s : Machine) (n : ℕ) → n ≤ b → Inside l k self made q m map console st s
      → AreMade made ls (attribute_classes l.table k (own_attributes c j fs ++ more)) → ((i : ℕ) → i < length ls → map.home (get_or ls i 0) ≡ q.self + 12 + 4 * (length front + i))
      → HasLines (whole l) q.pc (own_code j fs) → AreFree q.pc j fs → ArePlaced q.pc j fs → Room l q 0 (run_initials l.table calls self (own_attributes c j fs) ls st n)
      → ((x : Visit) → initials_begun l.table calls begun_in self (own_attributes c j fs) ls st n x → Watched l.watch x)
      → Runs l s n (64 * (run_initials l.table calls self (own_attributes c j fs) ls st n).work)
      (λ v. Passed l k self q (q.pc + sizes (own_code j fs)) m map st (run_initials l.table calls self (own_attributes c j fs) ls st n).words) (run_initials l.table calls self (own_attributes c j fs) ls st n).outcome

  -- nothing was done
  here_passed : (made : fitting.World) (q : Pointers) (m : Bytes) (map : Map) (console : Console) (st : State) (s : Machine) (pc words : ℕ) → Inside l k self made q m map console st s → q.pc ≡ pc → Passed l k self q pc m map st words st s
  here_passed made q m map console st s pc words inside same =
      let at = inside.at in (
        inside.held,
        done_here l (record q { pc = pc }) m map st words inside.held s q.acc q.ra console
            (record { numbers = let numbers = at.numbers in omega arith; memory_is = at.memory_is; input_is = at.input_is; ended_is = at.ended_is; output_is = at.output_is }) inside.shows inside.pictures inside.held_is,
      )

  done_at : (q : Pointers) (m : Bytes) (map : Map) (st : State) (words pc pc' : ℕ) (x : Value) (t : State) (u : Machine) → pc ≡ pc' → Done l (record q { pc = pc }) m map st words x t u → Done l (record q { pc = pc' }) m map st words x t u
  done_at q m map st words pc pc' x t u same d = subst (λ (y : ℕ). Done l (record q { pc = y }) m map st words x t u) same d

  one_more : (xs : List AttributeRef) (y : AttributeRef) → length (xs ++ y ∷ []) ≡ length xs + 1
  one_more [] y = omega arith
  one_more (z ∷ xs) y = let h = one_more xs y in omega arith

  -- an attribute and those after it, with the locations of all
  module _ (j : ℕ) (a : AttributeDef) (fs : List Feature) (front : List AttributeRef) (i : ℕ) (ls : List ℕ) (there : slice_get (features_of l.table c) j ≡ Some (Attribute a))
      (parts : attributes l.table c ≡ front ++ (record { owner = c; index = j }) ∷ own_attributes c (j + 1) fs) (made : fitting.World) (q : Pointers) (m : Bytes) (map : Map) (console : Console) (st : State) (s : Machine) (n : ℕ)
      (le : n ≤ b) (inside : Inside l k self made q m map console st s) (made_i : slice_get made i ≡ Some (meant l.table k a.declared.name))
      (homes : (x : ℕ) → x < length (i ∷ ls) → map.home (get_or (i ∷ ls) x 0) ≡ q.self + 12 + 4 * (length front + x)) where
    home_first : map.home i ≡ q.self + 12 + 4 * length front
    home_first = homes 0 (omega arith) ∙ omega arith

    -- its initial value, where it has one
    pub value_runs : (o : Option Tree) → a.init ≡ o → HasLines (whole l) q.pc (init_code j o ++ own_code (j + 1) fs)
        → IfSome o (λ t. IsFree (marks l.watch) (q.pc + sizes (code (context l c j) (constants l) (attributes_in l.table c) 0 0 t)) (q.pc + sizes (init_code j (Some t))))
        → ((y : Span) → Contains (initial_value_spans sizes (context l c j) (constants l) q.pc o) y → Placed l c j y) → Room l q 0 (run_initial l.table calls self i o st n)
        → ((x : Visit) → initial_begun l.table calls begun_in self (record { owner = c; index = j }) o st n x → Watched l.watch x)
        → Runs l s n (64 * (run_initial l.table calls self i o st n).work) (λ x. Passed l k self q (q.pc + sizes (init_code j o)) m map st (run_initial l.table calls self i o st n).words) (run_initial l.table calls self i o st n).outcome
    value_runs None init has free placed room' watched =
        run_gives l {A = Unit {0}} tt st s n 0 (64 * 0) (λ x. Passed l k self q (q.pc + 0) m map st 0) (omega arith) (done l.world 0 s (Passed l k self q (q.pc + 0) m map st 0 st) (here_passed made q m map console st s (q.pc + 0) 0 inside (omega arith)))
    value_runs (Some t) init has free placed room' watched =
        initial_runs l loaded calls begun_in b later sound IsGood forms c k self within below k_within plain is j a t there init (goods j a t there init) front (own_attributes c (j + 1) fs) parts made q m map console st s n i le inside home_first
        (has_front (whole l) (init_code j (Some t)) (own_code (j + 1) fs) q.pc has) free placed room' watched

    pub value_sound : (o : Option Tree) → a.init ≡ o → NotStuck l.table made n (Any {A = Unit {0}}) (run_initial l.table calls self i o st n).outcome
    value_sound None init = (give_sound {p = l.table} {b = b} {w = made} {Q = Any} tt tt).sound st n le inside.fits
    value_sound (Some t) init =
        (initial_sound l loaded calls begun_in b later sound IsGood forms c k self within below k_within plain is j a t there init (goods j a t there init) front (own_attributes c (j + 1) fs) parts made q m map console st s i inside made_i).sound st n le inside.fits

    -- the locations behind it stay at home
    pub homes_next : (o : Option Tree) (words : ℕ) (x : Value) (t : State) (u : Machine) (y : ℕ) → y < length ls → (d : Done l (record q { pc = q.pc + sizes (init_code j o) }) m map st words x t u)
        → d.map'.home (get_or ls y 0) ≡ q.self + 12 + 4 * (length (front ++ (record { owner = c; index = j }) ∷ []) + y)
    homes_next o words x t u y less d =
        let h : map.home (get_or ls y 0) ≡ q.self + 12 + 4 * (length front + suc y) = homes (suc y) (omega arith) in
        let long = one_more front (record { owner = c; index = j }) in
        d.grown.home (get_or ls y 0) (within_store l k self map.home (length st.store) (get_or ls y 0) inside.pictures.fresh (omega arith)) ∙ h ∙ omega arith

  -- one attribute, and those after it
  part_then : (j : ℕ) (a : AttributeDef) (fs : List Feature) (front more : List AttributeRef) (i : ℕ) (ls : List ℕ) → slice_get (features_of l.table c) j ≡ Some (Attribute a)
      → attributes l.table c ≡ front ++ (record { owner = c; index = j }) ∷ own_attributes c (j + 1) fs → PartsRun (j + 1) fs (front ++ (record { owner = c; index = j }) ∷ []) more ls → (o : Option Tree) → a.init ≡ o
      → (made : fitting.World) (q : Pointers) (m : Bytes) (map : Map) (console : Console) (st : State) (s : Machine) (n : ℕ) → n ≤ b → Inside l k self made q m map console st s
      → slice_get made i ≡ Some (meant l.table k a.declared.name) → AreMade made ls (attribute_classes l.table k (own_attributes c (j + 1) fs ++ more))
      → ((x : ℕ) → x < length (i ∷ ls) → map.home (get_or (i ∷ ls) x 0) ≡ q.self + 12 + 4 * (length front + x)) → HasLines (whole l) q.pc (init_code j o ++ own_code (j + 1) fs)
      → IfSome o (λ t. IsFree (marks l.watch) (q.pc + sizes (code (context l c j) (constants l) (attributes_in l.table c) 0 0 t)) (q.pc + sizes (init_code j (Some t)))) → AreFree (q.pc + sizes (init_code j o)) (j + 1) fs
      → ((y : Span) → Contains (initial_value_spans sizes (context l c j) (constants l) q.pc o) y → Placed l c j y) → ArePlaced (q.pc + sizes (init_code j o)) (j + 1) fs
      → Room l q 0 (seq (run_initial l.table calls self i o st n) (λ _. run_initials l.table calls self (own_attributes c (j + 1) fs) ls))
      → ((x : Visit) → initial_begun l.table calls begun_in self (record { owner = c; index = j }) o st n x
      ⊎ behind (run_initial l.table calls self i o) (λ u. initials_begun l.table calls begun_in self (own_attributes c (j + 1) fs) ls) st n x → Watched l.watch x)
      → Runs l s n (64 * (seq (run_initial l.table calls self i o st n) (λ _. run_initials l.table calls self (own_attributes c (j + 1) fs) ls)).work)
      (λ v. Passed l k self q (q.pc + sizes (init_code j o ++ own_code (j + 1) fs)) m map st (seq (run_initial l.table calls self i o st n) (λ _. run_initials l.table calls self (own_attributes c (j + 1) fs) ls)).words)
      (seq (run_initial l.table calls self i o st n) (λ _. run_initials l.table calls self (own_attributes c (j + 1) fs) ls)).outcome
  part_then j a fs front more i ls there parts rest_run o init made q m map console st s n le inside made_i made_ls homes has free free_rest placed placed_rest room watched =
      let r = run_initial l.table calls self i o st n in
      let both = seq r (λ _. run_initials l.table calls self (own_attributes c (j + 1) fs) ls) in
      run_wider l both.outcome s n (64 * both.work + 0) (64 * both.work) _ (omega arith)
      (bind_runs l r (λ _. run_initials l.table calls self (own_attributes c (j + 1) fs) ls) s n 0 q 0 (λ x. Passed l k self q (q.pc + sizes (init_code j o)) m map st r.words)
      (λ v. Passed l k self q (q.pc + sizes (init_code j o ++ own_code (j + 1) fs)) m map st both.words)
      (λ v t left. (initials_later l.table calls later self (own_attributes c (j + 1) fs) ls).later t left) room
      (λ room'. value_runs j a fs front i ls there parts made q m map console st s n le inside made_i homes o init has free placed room' (λ x h. watched x (inl h)))
      (λ v t left u e passed same_words rest. onward v t left u e passed same_words rest (value_sound j a fs front i ls there parts made q m map console st s n le inside made_i homes o init)))
    where
      onward : (v : Unit {0}) (t : State) (left : ℕ) (u : Machine) → (run_initial l.table calls self i o st n).outcome ≡ Val v t left → Passed l k self q (q.pc + sizes (init_code j o)) m map st (run_initial l.table calls self i o st n).words t u
          → (seq (run_initial l.table calls self i o st n) (λ _. run_initials l.table calls self (own_attributes c (j + 1) fs) ls)).words
          ≡ (run_initial l.table calls self i o st n).words + (run_initials l.table calls self (own_attributes c (j + 1) fs) ls t left).words
          → Rest l q 0 (run_initial l.table calls self i o st n).words (run_initials l.table calls self (own_attributes c (j + 1) fs) ls t left)
          → NotStuck l.table made n (Any {A = Unit {0}}) (run_initial l.table calls self i o st n).outcome
          → Runs l u left (64 * (run_initials l.table calls self (own_attributes c (j + 1) fs) ls t left).work + 0)
          (λ w. Passed l k self q (q.pc + sizes (init_code j o ++ own_code (j + 1) fs)) m map st (seq (run_initial l.table calls self i o st n) (λ _. run_initials l.table calls self (own_attributes c (j + 1) fs) ls)).words)
          (run_initials l.table calls self (own_attributes c (j + 1) fs) ls t left).outcome
      onward v t left u e (x, d) same_words rest not_stuck =
          let fine : IsFine {A = Unit {0}} l.table made n Any v t left = subst (λ (y : Outcome (Unit {0})). NotStuck l.table made n (Any {A = Unit {0}}) y) e not_stuck in
          let fewer = fine.fewer in
          let inside' = next_inside l k self made q m map console st t s u n left (run_initial l.table calls self i o st n).words (q.pc + sizes (init_code j o)) x inside d fine in
          let numbers = d.at.numbers in
          let to = d.gp_to in
          let heap = rest.heap in
          let stack = rest.stack in
          let append = sizes_append l.world (init_code j o) (own_code (j + 1) fs) in
          let next_words = (run_initials l.table calls self (own_attributes c (j + 1) fs) ls t left).words in
          let q' : Pointers = record q { pc = q.pc + sizes (init_code j o); gp = d.gp; acc = d.acc; ra = d.ra } in
          run_wider l (run_initials l.table calls self (own_attributes c (j + 1) fs) ls t left).outcome u left (64 * (run_initials l.table calls self (own_attributes c (j + 1) fs) ls t left).work) _ _ (omega arith)
          (run_as l (run_initials l.table calls self (own_attributes c (j + 1) fs) ls t left).outcome u left (64 * (run_initials l.table calls self (own_attributes c (j + 1) fs) ls t left).work) _ _
          (λ w t2 u2 passed. (
            passed.0,
            done_at q m map st _ (q.pc + sizes (init_code j o) + sizes (own_code (j + 1) fs)) _ passed.0 t2 u2 (omega arith)
                (done_both l q m map st (run_initial l.table calls self i o st n).words next_words _ x passed.0 t t2 u u2 (q.pc + sizes (init_code j o)) (q.pc + sizes (init_code j o) + sizes (own_code (j + 1) fs)) d.acc d.ra numbers.sp_even d passed.1 (omega arith)),
          ))
          (rest_run fine.world q' d.memory d.map' d.console t u left (omega arith) inside' (still_all_made made fine.world fine.grown ls _ made_ls)
          (λ y less. homes_next j a fs front i ls there parts made q m map console st s n le inside made_i homes o (run_initial l.table calls self i o st n).words x t u y less d) (has_back (whole l) (init_code j o) (own_code (j + 1) fs) q.pc (q.pc + sizes (init_code j o)) refl has)
          free_rest placed_rest (record { heap = omega arith; stack = omega arith; way = rest.way }) (λ y h. watched y (inr (v, t, left, e, h)))))

  pub parts_run : (fs : List Feature) (j : ℕ) (front more : List AttributeRef) (ls : List ℕ) → ((i : ℕ) (x : Feature) → slice_get fs i ≡ Some x → slice_get (features_of l.table c) (j + i) ≡ Some x)
      → attributes l.table c ≡ front ++ own_attributes c j fs → PartsRun j fs front more ls
  parts_run [] j front more ls there parts made q m map console st s n le inside made_for homes has free placed room watched =
      run_gives l self st s n 0 (64 * 0) (λ v. Passed l k self q (q.pc + 0) m map st 0) (omega arith) (done l.world 0 s (Passed l k self q (q.pc + 0) m map st 0 st) (here_passed made q m map console st s (q.pc + 0) 0 inside (omega arith)))
  parts_run (Method d ∷ fs) j front more ls there parts made q m map console st s n le inside made_for homes has free placed room watched =
      parts_run fs (j + 1) front more ls (λ i x e. moved i x (there (suc i) x e)) parts made q m map console st s n le inside made_for homes has free placed room watched
    where
      moved : (i : ℕ) (x : Feature) → slice_get (features_of l.table c) (j + suc i) ≡ Some x → slice_get (features_of l.table c) (j + 1 + i) ≡ Some x
      moved i x e = let same : j + suc i ≡ j + 1 + i = omega arith in subst (λ (y : ℕ). slice_get (features_of l.table c) y ≡ Some x) same e
  parts_run (Attribute a ∷ fs) j front more [] there parts made q m map console st s n le inside made_for homes has free placed room watched = absurd made_for
  parts_run (Attribute a ∷ fs) j front more (i ∷ ls) there parts made q m map console st s n le inside made_for homes has free placed room watched =
      let here : slice_get (features_of l.table c) j ≡ Some (Attribute a) = let same : j + 0 ≡ j = omega arith in subst (λ (y : ℕ). slice_get (features_of l.table c) y ≡ Some (Attribute a)) same (there 0 (Attribute a) refl) in
      let own_spans : List Span = initial_value_spans sizes (context l c j) (constants l) q.pc a.init in
      let made_i : slice_get made i ≡ Some (meant l.table k a.declared.name) = subst (λ (o : Option Feature). slice_get made i ≡ Some (meant l.table k (result_in o))) here made_for.0 in
      subst (λ (o : Option Feature). Room l q 0 (seq (run_initial l.table calls self i (init_in o) st n) (λ _. run_initials l.table calls self (own_attributes c (j + 1) fs) ls))
      → ((x : Visit) → initial_begun l.table calls begun_in self (record { owner = c; index = j }) (init_in o) st n x
      ⊎ behind (run_initial l.table calls self i (init_in o)) (λ u. initials_begun l.table calls begun_in self (own_attributes c (j + 1) fs) ls) st n x → Watched l.watch x)
      → Runs l s n (64 * (seq (run_initial l.table calls self i (init_in o) st n) (λ _. run_initials l.table calls self (own_attributes c (j + 1) fs) ls)).work)
      (λ v. Passed l k self q (q.pc + sizes (init_code j a.init ++ own_code (j + 1) fs)) m map st (seq (run_initial l.table calls self i (init_in o) st n) (λ _. run_initials l.table calls self (own_attributes c (j + 1) fs) ls)).words)
      (seq (run_initial l.table calls self i (init_in o) st n) (λ _. run_initials l.table calls self (own_attributes c (j + 1) fs) ls)).outcome) (sym here)
      (part_then j a fs front more i ls here parts
      (parts_run fs (j + 1) (front ++ (record { owner = c; index = j }) ∷ []) more ls (λ y x e. moved y x (there (suc y) x e)) (parts ∙ sym (append_assoc front ((record { owner = c; index = j }) ∷ []) (own_attributes c (j + 1) fs))))
      a.init refl made q m map console st s n le inside made_i made_for.1 homes has free.0 free.1
      (λ y h. placed (record { class = c; feature = j; span = y }) (Contains-append_left (each (λ (z : Span). record { class = c; feature = j; span = z }) own_spans) _ _ (in_image (λ (z : Span). record { class = c; feature = j; span = z }) own_spans y h)))
      (λ y h. placed y (Contains-append_right (each (λ (z : Span). record { class = c; feature = j; span = z }) own_spans) _ y h))) room watched
    where
      moved : (y : ℕ) (x : Feature) → slice_get (features_of l.table c) (j + suc y) ≡ Some x → slice_get (features_of l.table c) (j + 1 + y) ≡ Some x
      moved y x e = let same : j + suc y ≡ j + 1 + y = omega arith in subst (λ (z : ℕ). slice_get (features_of l.table c) z ≡ Some x) same e
