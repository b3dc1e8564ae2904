-- The code of an attribute's initial value simulates its evaluation and stores the value into the attribute.
use Rattle.std.proofs.Common.{◌≡◌, inr, ℕ, ◌+◌, ◌-◌, ◌*◌, ◌<◌, ◌≤◌, List, [], ◌∷◌, ◌++◌, map as each, length, Option, Some, None, Contains, ap, sym, ◌∙◌, refl, subst, arith}
use Rattle.std.specs.Prelude.{pos, slice_get, slice_set, IfSome}
use Rattle.std.specs.List.{position_or_len}
use Rattle.mips_isa.specs.Bytes.{Bytes}
use Rattle.mips_isa.specs.Calls.{State as Machine}
use Rattle.mips_isa.specs.Lines.{Line}
use Rattle.cool_syntax.specs.declared.file_tree.Feature.TheVariants.{Attribute}
use Rattle.cool_syntax.specs.declared.file_tree.AttributeDef.{AttributeDef}
use Rattle.cool_syntax.specs.FeatureSizes.{value_size}
use Rattle.cool_syntax.specs.TreesWithinLimits.{IsTreeWithin}
use Rattle.cool_syntax.specs.Tree.{Tree, tree_size}
use Rattle.cool_classes.specs.declared.class_id.ClassId.{ClassId}
use Rattle.cool_classes.specs.declared.method.AttributeRef.{AttributeRef}
use Rattle.cool_classes.specs.Chains.{Below, features_of}
use Rattle.cool_classes.specs.Features.{attributes_of, attribute_name}
use Rattle.cool_classes.specs.ClimbedChains.{chain}
use Rattle.cool_classes.specs.LawfulTables.{MayInherit}
use Rattle.cool_classes.proofs.ChainsOfTables.{chain_is}
use Rattle.cool_rules.specs.Conformance.{class_of as class_meant}
use Rattle.cool_rules.specs.Typing.{FitsDeclared, IsTypedInit, attributes_in_scope}
use Rattle.cool_rules.proofs.RulesOfTables.{meant_is}
use Rattle.cool_runtime.specs.Reaches.{Reaches, stands}
use Rattle.cool_runtime.specs.Standing.{HasLines, sizes}
use Rattle.cool_runtime.specs.Machines.{Pointers, Console}
use Rattle.cool_runtime.proofs.Pieces.{has_front, has_back, sizes_append, done, next}
use Rattle.cool_layout.specs.Members.{offset, is_attribute}
use Rattle.cool_codegen.specs.declared.variables.Base.TheVariants.{Object}
use Rattle.cool_codegen.specs.Code.{code}
use Rattle.cool_codegen.specs.Features.{attributes_in, initial_integers, initial_strings}
use Rattle.cool_codegen.specs.Pieces.{store_lines}
use Rattle.cool_meaning.specs.Values.{Value, State, class_of}
use Rattle.cool_meaning.specs.Meters.{seq, store}
use Rattle.cool_meaning.specs.Lookups.{attributes, environment_of}
use Rattle.cool_meaning.specs.Evaluation.{Call, Calls, eval, run_initial}
use Rattle.cool_meaning.specs.FittingValues.{Fits, meant}
use Rattle.cool_meaning.proofs.FittingValues.{still_made, fits_conforming}
use Rattle.cool_meaning.specs.FittingValues as fitting
use Rattle.cool_meaning.proofs.Later.{later_same}
use Rattle.cool_meaning.proofs.SoundMethods.{Any}
use Rattle.cool_meaning.proofs.SoundComputations.{Sound, bind_sound, working_sound, store_sound}
use Rattle.cool_meaning.proofs.SoundParts.{AllCallsSound, wider_sound}
use Rattle.cool_meaning.proofs.SoundEvaluation.{eval_sound}
use Rattle.cool_simulation.specs.Loadings.{Loading, IsLoaded, constants, context, Watched, marks, whole}
use Rattle.cool_simulation.specs.Pictures.{Map}
use Rattle.cool_simulation.specs.Simulation.{Begins, Done, Runs, Room, CodeAt, Correct, IsVariableAt, Placed}
use Rattle.cool_simulation.specs.Visits.{Visits, Visit, begun}
use Rattle.cool_simulation.proofs.ground.EvaluationLater.{CallsLater}
use Rattle.cool_simulation.proofs.ground.PartsOfRuns.{run_wider, run_gives, bind_runs}
use Rattle.cool_simulation.proofs.ground.BoundVariables.{stored_done}
use Rattle.cool_simulation.proofs.ground.Walks.{stores}
use Rattle.cool_simulation.proofs.forms.Names.{variable_address, home_ok, home_small}
use Rattle.cool_simulation.proofs.calls.AttributesAtHome.{place_is}
use Rattle.cool_simulation.proofs.calls.FeaturesHere.{integers_here, strings_here, within_here, bounded_here}
use Rattle.cool_simulation.proofs.calls.BodyScenes.{body_begins}
use Rattle.cool_simulation.proofs.calls.InsideFrames.{Inside, Passed, within_store}
use Rattle.lists.specs.Different.{AreDifferent}
use Rattle.cool_simulation.specs.Quiet.{IsFree}
use Rattle.cool_simulation.proofs.ground.Passages.{quiet}
use Rattle.cool_codegen.specs.Spans.{Span, spans}

module _ (l : Loading) (loaded : IsLoaded l) (calls : Calls) (begun_in : Call → Visits) (b : ℕ) (later : CallsLater calls) (sound : AllCallsSound l.table calls b) (IsGood : Tree → Type 0) (forms : (t : Tree) → IsGood t → Correct l calls begun_in b t)
    (c k : ClassId) (self : Value) (within : c.0 < length l.table) (below : Below l.table k c) (k_within : k.0 < length l.table) (plain : MayInherit k) (is : class_of self ≡ Some k) where
  module _ (j : ℕ) (a : AttributeDef) (t : Tree) (there : slice_get (features_of l.table c) j ≡ Some (Attribute a)) (init : a.init ≡ Some t) (good : IsGood t) (front rest : List AttributeRef)
      (parts : attributes l.table c ≡ front ++ (record { owner = c; index = j }) ∷ rest) where
    abbrev value_code : List Line
    value_code = code (context l c j) (constants l) (attributes_in l.table c) 0 0 t

    abbrev store_code : List Line
    store_code = store_lines (pos (offset l.table c (record { owner = c; index = j }))) 16

    pub typed : FitsDeclared l.table c [] t a.declared.name
    typed = subst (IsTypedInit l.table c a.declared.name) init (loaded.buildable.typed.features c j (Attribute a) within there)

    pub begins : (made : fitting.World) (q : Pointers) (m : Bytes) (map : Map) (console : Console) (st : State) (s : Machine) → Inside l k self made q m map console st s
        → Begins l c k self (attributes_in_scope l.table (attributes_of l.table typed.chain)) (attributes_in l.table c) (environment_of l.table self) made 0 q m map console st s
    begins made q m map console st s inside =
        body_begins l loaded c k self [] within below k_within plain is tt (omega arith) typed.chain [] made q m map console st s typed.is_chain inside.fit inside.fits tt inside.at inside.shows inside.pictures inside.self_is
        inside.frame_is inside.frame (λ i less. absurd (omega arith))

    -- the value fits, and so the store does
    pub initial_sound : (made : fitting.World) (q : Pointers) (m : Bytes) (map : Map) (console : Console) (st : State) (s : Machine) (i : ℕ) → Inside l k self made q m map console st s
        → slice_get made i ≡ Some (meant l.table k a.declared.name) → Sound l.table b made (Any {A = Unit {0}}) (run_initial l.table calls self i (Some t))
    initial_sound made q m map console st s i inside made_for =
        let p = l.table in
        let typed0 = loaded.buildable.typed in
        let scene = (begins made q m map console st s inside).scene in
        working_sound 1 (bind_sound
        (wider_sound (λ w' v h. subst (λ (x : _). Fits p w' v (class_meant k x)) (sym (meant_is p typed0.whole.table a.declared.name typed.result typed.denotes)) (fits_conforming p typed0 c k k_within below w' v typed.type typed.result h typed.conforms))
        (eval_sound p typed0 calls b sound c k self t made (attributes_in_scope p (attributes_of p typed.chain)) (environment_of p self) typed.type scene typed.has))
        (λ w1 v g1 fits. store_sound i v (meant p k a.declared.name) (still_made made w1 g1 i (meant p k a.declared.name) made_for) fits))

    -- its spans are those of the initializer
    abbrev pub AreSpans : ℕ → Type 0
    AreSpans pc = (x : Span) → Contains (spans sizes (context l c j) (constants l) (attributes_in l.table c) 0 0 pc t) x → Placed l c j x

    pub value_at : (pc : ℕ) → HasLines (whole l) pc (value_code ++ store_code) → AreSpans pc → CodeAt l c j (attributes_in l.table c) 0 0 pc t
    value_at pc has placed =
        let bounded = bounded_here l.table l.files loaded.buildable c j (Attribute a) within there in
        let sized : tree_size t ≤ 8000 = small a.init init bounded in
        let within_it = (within_here l.table l.files loaded.buildable c j (Attribute a) within there).3 in
        record {
          lines = has_front (whole l) value_code store_code pc has;
          integers = λ x h. integers_here l.table l.files loaded.buildable c j (Attribute a) within there x (subst (λ (o : Option Tree). Contains (initial_integers o) x) (sym init) h);
          strings = λ x h. strings_here l.table l.files loaded.buildable c j (Attribute a) within there x (subst (λ (o : Option Tree). Contains (initial_strings l.files o) x) (sym init) h);
          within = subst (λ (o : Option Tree). IfSome o (IsTreeWithin (length l.files))) init within_it;
          small = omega arith;
          spans = placed;
        }
      where
        small : (o : Option Tree) → o ≡ Some t → value_size o ≤ 8000 → tree_size t ≤ 8000
        small None e h = absurd cc
        small (Some x) e h = let same : x ≡ t = cc in let less : tree_size x ≤ 8000 = omega arith in subst (λ (y : Tree). tree_size y ≤ 8000) same less

    four_bytes : sizes store_code ≡ 4
    unfolding store_lines
    four_bytes = refl

    -- the store into the attribute
    stored : (q : Pointers) (m : Bytes) (map : Map) (console : Console) (st : State) (s : Machine) (made : fitting.World) (i words : ℕ) (v : Value) (t' : State) (u : Machine) → Inside l k self made q m map console st s
        → map.home i ≡ q.self + 12 + 4 * length front → HasLines l.world (q.pc + sizes value_code) store_code → Done l (record q { pc = q.pc + sizes value_code }) m map st words v t' u
        → Reaches l.world u 0 1 (stands (Passed l k self q (q.pc + sizes (value_code ++ store_code)) m map st words (record t' { store = slice_set t'.store i v })))
    stored q m map console st s made i words v t' u inside home_is has d =
        let p = l.table in
        let laid = l.world.laid in
        let numbers = d.at.numbers in
        let less : i < length st.store = within_store l k self map.home (length st.store) i inside.pictures.fresh (omega arith) in
        let same : d.map'.home i ≡ map.home i = d.grown.home i less in
        let home = d.pictures.homes i (omega arith) in
        let differ = loaded.buildable.typed.lawful.attributes c (chain p c) within (chain_is p c loaded.buildable.typed.whole.table within) in
        let most : length (attributes p c) ≤ 2000 = loaded.buildable.fits.table.attributes c (chain p c) within (chain_is p c loaded.buildable.typed.whole.table within) in
        let place : position_or_len (is_attribute (record { owner = c; index = j })) (attributes p c) ≡ length front =
        ap (λ (xs : List AttributeRef). position_or_len (is_attribute (record { owner = c; index = j })) xs) parts
        ∙ place_is p front rest (record { owner = c; index = j }) (subst (λ (xs : List AttributeRef). AreDifferent (each (attribute_name p) xs)) parts differ) in
        let short : length front < length (attributes p c) = subst (λ (xs : List AttributeRef). length front < length xs) (sym parts) (longer front (record { owner = c; index = j }) rest) in
        let there' : IsVariableAt q (record { base = Object; offset = pos (offset p c (record { owner = c; index = j })); ty = typed.type }) (d.map'.home i) = inr (refl, (omega arith, omega arith)) in
        let append = sizes_append l.world value_code store_code in
        let four = four_bytes in
        next l.world u 1 0 1 _ _
        (stores l.world 16 (pos (offset p c (record { owner = c; index = j }))) (d.map'.home i) _ d.memory d.console u has d.at
        (variable_address l.world (record { base = Object; offset = pos (offset p c (record { owner = c; index = j })); ty = typed.type }) _ d.memory d.console u (d.map'.home i) d.at there' (home_small l.world (d.map'.home i) d.gp q.sp home.room numbers.gp_to))
        (home_ok l.world (d.map'.home i) d.gp q.sp home.even home.room numbers.gp_to numbers.sp_from)) (omega arith)
        (λ u' at'. done l.world 0 u' _ (
          v,
          stored_done l q m map st words (q.pc + sizes value_code) (q.pc + sizes (value_code ++ store_code)) i v t' u u' d (omega arith) numbers.sp_even
              (record { numbers = let last = at'.numbers in omega arith; memory_is = at'.memory_is; input_is = at'.input_is; ended_is = at'.ended_is; output_is = at'.output_is }),
        ))
      where
        longer : (xs : List AttributeRef) (y : AttributeRef) (ys : List AttributeRef) → length xs < length (xs ++ y ∷ ys)
        longer [] y ys = omega arith
        longer (x ∷ xs) y ys = let h = longer xs y ys in omega arith

    pub initial_runs : (made : fitting.World) (q : Pointers) (m : Bytes) (map : Map) (console : Console) (st : State) (s : Machine) (n i : ℕ) → n ≤ b → Inside l k self made q m map console st s → map.home i ≡ q.self + 12 + 4 * length front
        → HasLines (whole l) q.pc (value_code ++ store_code) → IsFree (marks l.watch) (q.pc + sizes value_code) (q.pc + sizes (value_code ++ store_code)) → AreSpans q.pc → Room l q 0 (run_initial l.table calls self i (Some t) st n)
        → ((x : Visit) → begun l.table calls begun_in c j self (environment_of l.table self) 0 t st n x → Watched l.watch x)
        → Runs l s n (64 * (run_initial l.table calls self i (Some t) st n).work)
        (λ x. Passed l k self q (q.pc + sizes (value_code ++ store_code)) m map st (run_initial l.table calls self i (Some t) st n).words) (run_initial l.table calls self i (Some t) st n).outcome
    initial_runs made q m map console st s n i le inside home_is has free placed room watched =
        let r = eval l.table calls self (environment_of l.table self) t st n in
        let both = seq r (λ v. store i v) in
        let append = sizes_append l.world value_code store_code in
        let storing : HasLines l.world (q.pc + sizes value_code) store_code =
        quiet l store_code (q.pc + sizes value_code) (q.pc + sizes (value_code ++ store_code)) (omega arith) free (has_back (whole l) value_code store_code q.pc (q.pc + sizes value_code) refl has) in
        run_wider l both.outcome s n (64 * both.work + 64) (64 * (1 + both.work)) _ (omega arith)
        (bind_runs l r (λ v. store i v) s n 64 q 0 (Done l (record q { pc = q.pc + sizes value_code }) m map st r.words)
        (λ x. Passed l k self q (q.pc + sizes (value_code ++ store_code)) m map st both.words)
        (λ v t' left. later_same t' _ refl refl) (record { heap = room.heap; stack = room.stack; way = room.way })
        (λ room'. run_wider l r.outcome s n (64 * r.work - 4) (64 * r.work) _ (omega arith)
        ((forms t good).runs c j k self (attributes_in_scope l.table (attributes_of l.table typed.chain)) (attributes_in l.table c) (environment_of l.table self) made 0 0 q m map console st s n typed.type le
        (begins made q m map console st s inside) typed.has (value_at q.pc has placed) room' watched))
        (λ v t' left u e d same_words rest'. run_gives l {A = Unit {0}} tt (record t' { store = slice_set t'.store i v }) u left 1 64 (λ x. Passed l k self q (q.pc + sizes (value_code ++ store_code)) m map st both.words) (omega arith)
        (stored q m map console st s made i both.words v t' u inside home_is storing
        (record { gp = d.gp; acc = d.acc; ra = d.ra; memory = d.memory; map' = d.map'; console = d.console; at = d.at; shows = d.shows; pictures = d.pictures; value = d.value; kept = d.kept; grown = d.grown; drawn = d.drawn; located = d.located; gp_from = d.gp_from; gp_to = let to = d.gp_to in omega arith }))))
