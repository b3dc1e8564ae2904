-- In an initializer, the machine reaches the initial values of the class's own attributes, one after another, each in the correct state (`Shown`).
use Rattle.std.proofs.Common.{◌≡◌, ℕ, zero, suc, ◌+◌, ◌*◌, ◌<◌, ◌≤◌, ◌⊎◌, inr, List, [], ◌∷◌, ◌++◌, map as each, length, get_or, Option, Some, None, sym, ◌∙◌, ap, refl, subst, arith, append_assoc}
use Rattle.std.specs.Prelude.{Contains, slice_get, IfSome}
use Rattle.std.proofs.lemmas.List.Elements.{Contains-append_left, Contains-append_right}
use Rattle.mips_isa.specs.Bytes.{Bytes}
use Rattle.mips_isa.specs.Calls.{State as Machine}
use Rattle.cool_syntax.specs.declared.file_tree.Feature.{Feature}
use Rattle.cool_syntax.specs.declared.file_tree.Feature.TheVariants.{Method, Attribute}
use Rattle.cool_syntax.specs.declared.file_tree.AttributeDef.{AttributeDef}
use Rattle.cool_syntax.specs.Tree.{Tree}
use Rattle.cool_classes.specs.declared.class_id.ClassId.{ClassId}
use Rattle.cool_classes.specs.declared.method.AttributeRef.{AttributeRef}
use Rattle.cool_classes.specs.Chains.{Below, features_of}
use Rattle.cool_classes.specs.Features.{attributes_of, own_attributes, result_in}
use Rattle.cool_classes.specs.LawfulTables.{MayInherit}
use Rattle.cool_rules.specs.Typing.{attributes_in_scope}
use Rattle.cool_runtime.specs.Standing.{HasLines, sizes}
use Rattle.cool_runtime.specs.Machines.{Pointers, Console}
use Rattle.cool_runtime.proofs.Pieces.{has_front, has_back}
use Rattle.cool_layout.specs.Labels.{initializer}
use Rattle.cool_codegen.specs.Features.{attributes_in, initial_value_code}
use Rattle.cool_codegen.specs.Spans.{Span, along, initial_value_spans}
use Rattle.cool_emit.specs.Programs.{attributes_from, placed_code}
use Rattle.cool_emit.specs.SpansOfPrograms.{SpanOf, initializer_spans, placed_spans}
use Rattle.cool_meaning.specs.Values.{Value, State, class_of}
use Rattle.cool_meaning.specs.Meters.{Outcome, Stuck, seq, store}
use Rattle.cool_meaning.specs.Lookups.{attributes, environment_of, init_in}
use Rattle.cool_meaning.specs.Evaluation.{Call, Calls, eval, run_initial, run_initials}
use Rattle.cool_meaning.specs.FittingValues.{AreMade, meant, attribute_classes}
use Rattle.cool_meaning.proofs.FittingValues.{still_all_made}
use Rattle.cool_meaning.specs.FittingValues as fitting
use Rattle.cool_meaning.proofs.Later.{later_same}
use Rattle.cool_meaning.proofs.SoundMethods.{Any}
use Rattle.cool_meaning.proofs.SoundComputations.{NotStuck, IsFine}
use Rattle.cool_meaning.proofs.SoundParts.{AllCallsSound}
use Rattle.cool_simulation.specs.Loadings.{Loading, IsLoaded, constants, context, whole, marks}
use Rattle.cool_simulation.specs.Pictures.{Map}
use Rattle.cool_simulation.specs.Simulation.{Correct, Room, IsSpan, Shown}
use Rattle.cool_simulation.specs.Shown.{AllShown, Comes}
use Rattle.cool_simulation.specs.Visits.{Visit, Visits, behind, initial_begun, initials_begun}
use Rattle.cool_simulation.proofs.calls.InitialParts.{homes_next, init_code, own_code, value_runs, value_sound}
use Rattle.cool_simulation.proofs.calls.InitialValues.{begins, typed, value_at}
use Rattle.cool_simulation.proofs.calls.InitialsSplit.{initials_later}
use Rattle.cool_simulation.proofs.calls.InsideFrames.{Inside, next_inside, Passed}
use Rattle.cool_simulation.proofs.ground.EvaluationLater.{CallsLater}
use Rattle.cool_simulation.proofs.ground.PartsOfRuns.{part_room}
use Rattle.cool_simulation.proofs.shown.Comings.{Ample, ample_then, cases, comes_after, room_first, stuck_first}
use Rattle.cool_simulation.proofs.ground.CodeOfParts.{in_rest}
use Rattle.cool_simulation.proofs.ground.Passages.{unwatched}
use Rattle.cool_simulation.proofs.ground.NoMarks.{plain_placed, plain_free}
use Rattle.cool_simulation.specs.Quiet.{IsFree}
use Rattle.cool_codegen.specs.Code.{code}

-- the image of a list contains the image of each item
pub in_image : {X Y : Type 0} (f : X → Y) (xs : List X) (x : X) → Contains xs x → Contains (each f xs) (f x)
in_image f [] x (k, less, e) = absurd (omega arith)
in_image f (y ∷ xs) x (zero, less, e) = (0, omega arith, ap f e)
in_image f (y ∷ xs) x (suc k, less, e) = in_rest (f y) (each f xs) (f x) (in_image f xs x (k, omega arith, e))

module _ (l : Loading) (loaded : IsLoaded l) (none : l.watch ≡ None) (calls : Calls) (begun_in : Call → Visits) (b : ℕ) (later : CallsLater calls) (sound : AllCallsSound l.table calls b) (IsGood : Tree → Type 0)
    (forms : (t : Tree) → IsGood t → Correct l calls begun_in b t) (shown : (t : Tree) → IsGood t → AllShown l calls begun_in b t) (c k : ClassId) (self : Value) (within : c.0 < length l.table) (below : Below l.table k c)
    (k_within : k.0 < length l.table) (plain : MayInherit k) (is : class_of self ≡ Some k)
    (goods : (j : ℕ) (a : AttributeDef) (t : Tree) → slice_get (features_of l.table c) j ≡ Some (Attribute a) → a.init ≡ Some t → IsGood t) where
  -- the spans of these features' initial values, from where they begin, are among those of the initializer
  abbrev pub Among : ℕ → ℕ → List Feature → Type 0
  Among pc j fs =
      (y : SpanOf) → Contains (along sizes (placed_code l.table l.files (constants l) c) (placed_spans sizes l.table l.files (constants l) c) pc (attributes_from j fs)) y
      → Contains (initializer_spans sizes l.table l.files (constants l) (l.world.place (initializer l.table c)) c) y

  -- `Shown` for these features' initial values, from any machine inside the frame
  abbrev pub PartsShown : ℕ → List Feature → List AttributeRef → List AttributeRef → List ℕ → Type 0
  PartsShown j fs front more ls =
      (made : fitting.World) (q : Pointers) (m : Bytes) (map : Map) (console : Console) (st : State) (s : Machine) (n : ℕ) (x : Visit) → n ≤ b → Inside l k self made q m map console st s
      → AreMade made ls (attribute_classes l.table k (own_attributes c j fs ++ more)) → ((i : ℕ) → i < length ls → map.home (get_or ls i 0) ≡ q.self + 12 + 4 * (length front + i))
      → HasLines (whole l) q.pc (own_code l loaded calls begun_in b later sound IsGood forms c k self within below k_within plain is goods j fs) → Ample l q 0 (run_initials l.table calls self (own_attributes c j fs) ls st n) → Among q.pc j fs
      → initials_begun l.table calls begun_in self (own_attributes c j fs) ls st n x → Comes l.world s (Shown l x)

  -- the store of an initial value has no mark
  store_free : (j pc : ℕ) (o : Option Tree) → IfSome o (λ t. IsFree (marks l.watch) (pc + sizes (code (context l c j) (constants l) (attributes_in l.table c) 0 0 t)) (pc + sizes (initial_value_code (context l c j) (constants l) (Some t))))
  store_free j pc None = tt
  store_free j pc (Some t) = plain_free l none _ _

  -- an initial value
  value_shown : (j : ℕ) (a : AttributeDef) (o : Option Tree) (fs : List Feature) (front : List AttributeRef) (i : ℕ) → slice_get (features_of l.table c) j ≡ Some (Attribute a)
      → attributes l.table c ≡ front ++ (record { owner = c; index = j }) ∷ own_attributes c (j + 1) fs → a.init ≡ o → (made : fitting.World) (q : Pointers) (m : Bytes) (map : Map) (console : Console) (st : State) (s : Machine)
      (n : ℕ) (x : Visit) → n ≤ b → Inside l k self made q m map console st s
      → HasLines (whole l) q.pc (init_code l loaded calls begun_in b later sound IsGood forms c k self within below k_within plain is goods j o) → Room l q 0 (run_initial l.table calls self i o st n)
      → ((run_initial l.table calls self i o st n).outcome ≡ Stuck → ⊥) → ((y : Span) → Contains (initial_value_spans sizes (context l c j) (constants l) q.pc o) y → IsSpan l c j y) → initial_begun l.table calls begun_in self (record { owner = c; index = j }) o st n x
      → Comes l.world s (Shown l x)
  value_shown j a None fs front i there parts init made q m map console st s n x le inside has room alive among h = absurd h
  value_shown j a (Some t) fs front i there parts init made q m map console st s n x le inside has room alive among h =
      let good = goods j a t there init in
      let typing = typed l loaded calls begun_in b later sound IsGood forms c k self within below k_within plain is j a t there init good front (own_attributes c (j + 1) fs) parts in
      let r = eval l.table calls self (environment_of l.table self) t st n in
      let heap = room.heap in
      let stack = room.stack in
      (shown t good).shown c j k self (attributes_in_scope l.table (attributes_of l.table typing.chain)) (attributes_in l.table c) (environment_of l.table self) made 0 0 q m map console st s n typing.type x le
      (begins l loaded calls begun_in b later sound IsGood forms c k self within below k_within plain is j a t there init good front (own_attributes c (j + 1) fs) parts made q m map console st s inside) typing.has
      (value_at l loaded calls begun_in b later sound IsGood forms c k self within below k_within plain is j a t there init good front (own_attributes c (j + 1) fs) parts q.pc has (λ y h. plain_placed l none c j y (among y h)))
      (part_room l r.outcome r.work r.words r.peak (λ v. store i v) q 0 (λ v t' left. later_same t' _ refl refl) alive (record { heap = heap; stack = stack; way = room.way })) among h

  -- an attribute, and those after it
  part_shown : (j : ℕ) (a : AttributeDef) (fs : List Feature) (front more : List AttributeRef) (i : ℕ) (ls : List ℕ) → slice_get (features_of l.table c) j ≡ Some (Attribute a)
      → attributes l.table c ≡ front ++ (record { owner = c; index = j }) ∷ own_attributes c (j + 1) fs → PartsShown (j + 1) fs (front ++ (record { owner = c; index = j }) ∷ []) more ls → (o : Option Tree) → a.init ≡ o
      → (made : fitting.World) (q : Pointers) (m : Bytes) (map : Map) (console : Console) (st : State) (s : Machine) (n : ℕ) (x : Visit) → n ≤ b → Inside l k self made q m map console st s
      → slice_get made i ≡ Some (meant l.table k a.declared.name) → AreMade made ls (attribute_classes l.table k (own_attributes c (j + 1) fs ++ more))
      → ((y : ℕ) → y < length (i ∷ ls) → map.home (get_or (i ∷ ls) y 0) ≡ q.self + 12 + 4 * (length front + y))
      → HasLines (whole l) q.pc (init_code l loaded calls begun_in b later sound IsGood forms c k self within below k_within plain is goods j o ++ own_code l loaded calls begun_in b later sound IsGood forms c k self within below k_within plain is goods (j + 1) fs)
      → Ample l q 0 (seq (run_initial l.table calls self i o st n) (λ _. run_initials l.table calls self (own_attributes c (j + 1) fs) ls))
      → ((y : Span) → Contains (initial_value_spans sizes (context l c j) (constants l) q.pc o) y → IsSpan l c j y)
      → Among (q.pc + sizes (initial_value_code (context l c j) (constants l) o)) (j + 1) fs
      → initial_begun l.table calls begun_in self (record { owner = c; index = j }) o st n x
      ⊎ behind (run_initial l.table calls self i o) (λ u. initials_begun l.table calls begun_in self (own_attributes c (j + 1) fs) ls) st n x → Comes l.world s (Shown l x)
  part_shown j a fs front more i ls there parts rest_shown o init made q m map console st s n x le inside made_i made_ls homes has ample among among_rest visit =
      let r = run_initial l.table calls self i o st n in
      let F = λ (_ : Unit {0}). run_initials l.table calls self (own_attributes c (j + 1) fs) ls in
      let code1 = initial_value_code (context l c j) (constants l) o in
      let code2 = own_code l loaded calls begun_in b later sound IsGood forms c k self within below k_within plain is goods (j + 1) fs in
      let pc1 = q.pc + sizes code1 in
      let room1 = room_first l r F q 0 (λ v t left. (initials_later l.table calls later self (own_attributes c (j + 1) fs) ls).later t left) ample in
      cases visit
      (λ h. value_shown j a o fs front i there parts init made q m map console st s n x le inside (has_front (whole l) code1 code2 q.pc has) room1 (λ e. ample.alive (stuck_first l r.outcome r.work r.words r.peak F e)) among h)
      (λ (v, t, left, e, h). comes_after l none r.outcome s n (64 * r.work) (λ _. Passed l k self q pc1 m map st r.words) v t left (Shown l x) e
      (value_runs l loaded calls begun_in b later sound IsGood forms c k self within below k_within plain is goods j a fs front i ls there parts made q m map console st s n le inside made_i homes o init has (store_free j q.pc o) (λ y h. plain_placed l none c j y (among y h)) room1 (λ y h. unwatched l none y))
      (λ u (w, d).
      let fine : IsFine {A = Unit {0}} l.table made n Any v t left = subst (λ (y : Outcome (Unit {0})). NotStuck l.table made n (Any {A = Unit {0}}) y) e
      (value_sound l loaded calls begun_in b later sound IsGood forms c k self within below k_within plain is goods j a fs front i ls there parts made q m map console st s n le inside made_i homes o init) in
      let fewer = fine.fewer in
      let used = d.gp_to in
      let q' : Pointers = record q { pc = pc1; gp = d.gp; acc = d.acc; ra = d.ra } in
      rest_shown fine.world q' d.memory d.map' d.console t u left x (omega arith) (next_inside l k self made q m map console st t s u n left r.words pc1 w inside d fine) (still_all_made made fine.world fine.grown ls _ made_ls)
      (λ y less. homes_next l loaded calls begun_in b later sound IsGood forms c k self within below k_within plain is goods j a fs front i ls there parts made q m map console st s n le inside made_i homes o r.words w t u y less d)
      (has_back (whole l) code1 code2 q.pc pc1 refl has) (ample_then l r F q q' 0 0 v t left e ample used (omega arith)) among_rest h))

  pub parts_shown : (fs : List Feature) (j : ℕ) (front more : List AttributeRef) (ls : List ℕ) → ((i : ℕ) (x : Feature) → slice_get fs i ≡ Some x → slice_get (features_of l.table c) (j + i) ≡ Some x)
      → attributes l.table c ≡ front ++ own_attributes c j fs → PartsShown j fs front more ls
  parts_shown [] j front more ls there parts made q m map console st s n x le inside made_for homes has ample among h = absurd h
  parts_shown (Method d ∷ fs) j front more ls there parts made q m map console st s n x le inside made_for homes has ample among h =
      parts_shown fs (j + 1) front more ls (λ i y e. moved i y (there (suc i) y e)) parts made q m map console st s n x le inside made_for homes has ample among h
    where
      moved : (i : ℕ) (x : Feature) → slice_get (features_of l.table c) (j + suc i) ≡ Some x → slice_get (features_of l.table c) (j + 1 + i) ≡ Some x
      moved i x e = let same : j + suc i ≡ j + 1 + i = omega arith in subst (λ (y : ℕ). slice_get (features_of l.table c) y ≡ Some x) same e
  parts_shown (Attribute a ∷ fs) j front more [] there parts made q m map console st s n x le inside made_for homes has ample among h = absurd made_for
  parts_shown (Attribute a ∷ fs) j front more (i ∷ ls) there parts made q m map console st s n x le inside made_for homes has ample among visit =
      let here : slice_get (features_of l.table c) j ≡ Some (Attribute a) = let same : j + 0 ≡ j = omega arith in subst (λ (y : ℕ). slice_get (features_of l.table c) y ≡ Some (Attribute a)) same (there 0 (Attribute a) refl) in
      let made_i : slice_get made i ≡ Some (meant l.table k a.declared.name) = subst (λ (o : Option Feature). slice_get made i ≡ Some (meant l.table k (result_in o))) here made_for.0 in
      let mine = each (λ (y : Span). record { class = c; feature = j; span = y }) (initial_value_spans sizes (context l c j) (constants l) q.pc a.init) in
      let pc1 = q.pc + sizes (initial_value_code (context l c j) (constants l) a.init) in
      let rest = along sizes (placed_code l.table l.files (constants l) c) (placed_spans sizes l.table l.files (constants l) c) pc1 (attributes_from (j + 1) fs) in
      part_shown j a fs front more i ls here parts
      (parts_shown fs (j + 1) (front ++ (record { owner = c; index = j }) ∷ []) more ls (λ y z e. moved y z (there (suc y) z e)) (parts ∙ sym (append_assoc front ((record { owner = c; index = j }) ∷ []) (own_attributes c (j + 1) fs))))
      a.init refl made q m map console st s n x le inside made_i made_for.1 homes has
      (subst (λ (o : Option Feature). Ample l q 0 (seq (run_initial l.table calls self i (init_in o) st n) (λ _. run_initials l.table calls self (own_attributes c (j + 1) fs) ls))) here ample)
      (λ y h. inr (among (record { class = c; feature = j; span = y })
      (Contains-append_left mine rest (record { class = c; feature = j; span = y })
      (in_image (λ (z : Span). record { class = c; feature = j; span = z }) (initial_value_spans sizes (context l c j) (constants l) q.pc a.init) y h))))
      (λ y h. among y (Contains-append_right mine rest y h))
      (subst (λ (o : Option Feature). initial_begun l.table calls begun_in self (record { owner = c; index = j }) (init_in o) st n x
      ⊎ behind (run_initial l.table calls self i (init_in o)) (λ u. initials_begun l.table calls begun_in self (own_attributes c (j + 1) fs) ls) st n x) here visit)
    where
      moved : (y : ℕ) (x : Feature) → slice_get (features_of l.table c) (j + suc y) ≡ Some x → slice_get (features_of l.table c) (j + 1 + y) ≡ Some x
      moved y x e = let same : j + suc y ≡ j + 1 + y = omega arith in subst (λ (z : ℕ). slice_get (features_of l.table c) z ≡ Some x) same e
