-- At the beginning of a method's body, each formal parameter and each attribute of the class is in scope and has its value at the address that the code uses.
use Rattle.std.proofs.Common.{◌≡◌, ℕ, suc, ◌+◌, ◌-◌, ◌*◌, ◌<◌, ◌≤◌, List, [], ◌∷◌, ◌++◌, map as each, length, get_or, Option, Some, ap, sym, ◌∙◌, refl, subst, arith}
use Rattle.mips_isa.specs.declared.address_map.TheConstants.{HEAP_START, STACK_END}
use Rattle.mips_isa.specs.Bytes.{Bytes}
use Rattle.mips_isa.specs.Calls.{State as Machine}
use Rattle.cool_syntax.specs.declared.file_tree.Formal.{Formal}
use Rattle.cool_classes.specs.declared.class_id.ClassId.{ClassId}
use Rattle.cool_classes.specs.declared.method.AttributeRef.{AttributeRef}
use Rattle.cool_classes.specs.Chains.{Class, class_number, IsChain, Below}
use Rattle.cool_classes.specs.ClimbedChains.{chain}
use Rattle.cool_classes.specs.Features.{attributes_of, attribute_name}
use Rattle.cool_classes.specs.LawfulTables.{MayInherit}
use Rattle.cool_classes.proofs.ChainsOfTables.{chain_is, chain_of}
use Rattle.cool_rules.specs.Scopes.{Binding}
use Rattle.cool_rules.specs.Typing.{formals_in_scope, attributes_in_scope}
use Rattle.cool_rules.proofs.ChainsOfTables.{attributes_above}
use Rattle.cool_runtime.specs.Reaches.{World}
use Rattle.cool_runtime.specs.Machines.{At, Pointers, Console}
use Rattle.cool_codegen.specs.Features.{with_formals, attributes_in}
use Rattle.cool_meaning.specs.Values.{Value, Void, Int, Bool as Truth, Str, Obj, State, Environment, class_of}
use Rattle.cool_meaning.specs.Lookups.{attributes, located, attribute_names, formal_names, locations_of, environment_of, attributes_at}
use Rattle.cool_meaning.specs.FittingValues.{AreMade, Fits, AllFit, meant, attribute_classes, Holds}
use Rattle.cool_meaning.specs.FittingValues as fitting
use Rattle.cool_simulation.specs.Loadings.{Loading, IsLoaded}
use Rattle.cool_simulation.specs.Pictures.{Map, Pic, Pictures, Shows}
use Rattle.cool_simulation.specs.Simulation.{Begins, Variables}
use Rattle.cool_simulation.proofs.calls.AttributesAtHome.{variables_in}
use Rattle.lists.specs.Different.{AreDifferent}
use Rattle.cool_simulation.proofs.forms.Invoking.{each_length}

-- formals at locations made for their types, in front of other names
holds_formals : (p : List Class) (w : fitting.World) (k : ClassId) (fs : List Formal) (ls : List ℕ) (scope : List Binding) (env : Environment) → AreMade w ls (each (meant p k) (each (λ (f : Formal). f.declared.name) fs))
    → Holds w k scope env → Holds w k (formals_in_scope p fs ++ scope) (located (formal_names fs) ls ++ env)
holds_formals p w k [] ls scope env made h = h
holds_formals p w k (f ∷ fs) [] scope env made h = absurd made
holds_formals p w k (f ∷ fs) (l ∷ ls) scope env made h = (refl, made.0, holds_formals p w k fs ls scope env made.1 h)

-- attributes at locations made for their types, with further ones after them
holds_attributes : (p : List Class) (w : fitting.World) (k : ClassId) (rs more : List AttributeRef) (ls : List ℕ) → AreMade w ls (attribute_classes p k (rs ++ more))
    → Holds w k (attributes_in_scope p rs) (located (attribute_names p (rs ++ more)) ls)
holds_attributes p w k [] more ls made = tt
holds_attributes p w k (r ∷ rs) more [] made = absurd made
holds_attributes p w k (r ∷ rs) more (l ∷ ls) made = (refl, made.0, holds_attributes p w k rs more ls made.1)

made_long : (w : fitting.World) (ls : List ℕ) (ds : List ClassId) → AreMade w ls ds → length ls ≡ length ds
made_long w [] [] h = refl
made_long w [] (d ∷ ds) h = absurd h
made_long w (l ∷ ls) [] h = absurd h
made_long w (l ∷ ls) (d ∷ ds) h = ap suc (made_long w ls ds h.1)

both_long : {X : Type 0} (xs ys : List X) → length xs ≤ length (xs ++ ys)
both_long [] ys = omega arith
both_long (x ∷ xs) ys = let h = both_long xs ys in omega arith

-- properties of an object of a class that may be inherited
pub record IsOwn (p : List Class) (world : World) (m : Bytes) (map : Map) (made : fitting.World) (self : Value) (k : ClassId) (a : ℕ) : Type 0 where
  pub made_for : AreMade made (locations_of self) (attribute_classes p k (attributes p k))
  pub homes : (j : ℕ) → j < length (locations_of self) → map.home (get_or (locations_of self) j 0) ≡ a + 12 + 4 * j
  pub high : HEAP_START + 4 ≤ a

module _ (p : List Class) (world : World) where
  some_is : (c d : ClassId) → Some c ≡ Some d → c ≡ d
  some_is c d e = cc

  pub own_object : (loaded m : Bytes) (map : Map) (st : State) (gp sp : ℕ) (made : fitting.World) (self : Value) (k : ClassId) (a : ℕ) → Pictures p world loaded m map st gp sp → Pic world m map st.drawn gp self a
      → class_of self ≡ Some k → MayInherit k → Fits p made self k → IsOwn p world m map made self k a
  own_object loaded m map st gp sp made Void k a pictures pic is may fit = absurd cc
  own_object loaded m map st gp sp made (Int n) k a pictures pic is may fit = absurd (may.no_int (sym (ap (λ (c : ClassId). c.0) (some_is (class_number 2) k is))))
  own_object loaded m map st gp sp made (Truth x) k a pictures pic is may fit = absurd (may.no_bool (sym (ap (λ (c : ClassId). c.0) (some_is (class_number 3) k is))))
  own_object loaded m map st gp sp made (Str bytes) k a pictures pic is may fit = absurd (may.no_string (sym (ap (λ (c : ClassId). c.0) (some_is (class_number 4) k is))))
  own_object loaded m map st gp sp made (Obj c i ls) k a pictures pic is may fit =
      let same : c ≡ k = some_is c k is in
      let object = pictures.objects i pic.1 in
      let from = object.from in
      let there = pic.0 in
      let long : length ls ≡ length (map.locations i) = ap length pic.3 in
      record {
        made_for = subst (λ (x : ClassId). AreMade made ls (attribute_classes p x (attributes p x))) same fit.0.made;
        homes = λ j less.
            ap (λ (xs : List ℕ). map.home (get_or xs j 0)) pic.3 ∙ object.homes j (omega arith) ∙ ap (λ b. b + 12 + 4 * j) (sym pic.0);
        high = omega arith;
      }

module _ (l : Loading) (loaded : IsLoaded l) (c k : ClassId) (self : Value) (fs : List Formal) (within : c.0 < length l.table) (below : Below l.table k c) (k_within : k.0 < length l.table) (plain : MayInherit k)
    (is : class_of self ≡ Some k) (differ : AreDifferent (each (λ (f : Formal). f.name) fs)) (few : length fs ≤ 8000) where
  -- the rest of the attributes of the object's class
  rest_of : (more : List AttributeRef) × (attributes l.table k ≡ attributes l.table c ++ more)
  rest_of =
      let typed = loaded.buildable.typed in
      attributes_above l.table k c (chain l.table k) (chain l.table c) below (chain_is l.table k typed.whole.table k_within) (chain_is l.table c typed.whole.table within)

  env_is : environment_of l.table self ≡ located (attribute_names l.table (attributes l.table k)) (locations_of self)
  env_is = ap (λ (o : Option ClassId). attributes_at l.table o (locations_of self)) is

  pub body_begins : (ds : List ClassId) (ls : List ℕ) (made : fitting.World) (q : Pointers) (m : Bytes) (map : Map) (console : Console) (st : State) (s : Machine) → IsChain l.table (Some c) ds
      → Fits l.table made self k → AllFit l.table made st.store made → AreMade made ls (each (meant l.table k) (each (λ (f : Formal). f.declared.name) fs))
      → At l.world q m console s → Shows st console → Pictures l.table l.world l.memory m map st q.gp q.sp → Pic l.world m map st.drawn q.gp self q.self → q.fp ≡ q.sp → q.fp + 12 ≤ STACK_END
      → ((j : ℕ) → j < length ls → map.home (get_or ls j 0) ≡ q.fp + 12 + 4 * (length ls - (j + 1)))
      → Begins l c k self (formals_in_scope l.table fs ++ attributes_in_scope l.table (attributes_of l.table ds)) (with_formals l.table fs (attributes_in l.table c))
      (located (formal_names fs) ls ++ environment_of l.table self) made 0 q m map console st s
  body_begins ds ls made q m map console st s is_chain fit fits made_for at shows pictures pic frame_is frame homes =
      let p = l.table in
      let typed = loaded.buildable.typed in
      let laid = l.world.laid in
      let numbers = at.numbers in
      let (more, split) = rest_of in
      let chain_same : chain p c ≡ ds = chain_of p c ds is_chain in
      let own = own_object p l.world l.memory m map st q.gp q.sp made self k q.self pictures pic is plain fit in
      let high = own.high in
      let long : length ls ≡ length fs = made_long made ls _ made_for ∙ (each_length (meant p k) _ ∙ each_length (λ (f : Formal). f.declared.name) fs) in
      let own_long : length (locations_of self) ≡ length (attributes p k) = made_long made (locations_of self) _ own.made_for ∙ each_length _ (attributes p k) in
      let enough : length (attributes p c) ≤ length (attributes p k) = subst (λ (rs : List AttributeRef). length (attributes p c) ≤ length rs) (sym split) (both_long (attributes p c) more) in
      let differ' : AreDifferent (each (attribute_name p) (attributes p c)) = typed.lawful.attributes c (chain p c) within (chain_is p c typed.whole.table within) in
      let most : length (attributes p c) ≤ 2000 = loaded.buildable.fits.table.attributes c (chain p c) within (chain_is p c typed.whole.table within) in
      let env : located (attribute_names p (attributes p c ++ more)) (locations_of self) ≡ environment_of p self =
      ap (λ (rs : List AttributeRef). located (attribute_names p rs) (locations_of self)) (sym split) ∙ sym env_is in
      let variables0 = variables_in p c map q fs more ls (locations_of self) differ differ' long few most (omega arith) (omega arith) (omega arith) homes (λ j less. own.homes j (omega arith)) in
      let variables1 : Variables map q (formals_in_scope p fs ++ attributes_in_scope p (attributes p c)) (with_formals p fs (attributes_in p c)) (located (formal_names fs) ls ++ environment_of p self) =
      subst (λ (e : Environment). Variables map q (formals_in_scope p fs ++ attributes_in_scope p (attributes p c)) (with_formals p fs (attributes_in p c)) (located (formal_names fs) ls ++ e)) env variables0 in
      let holds0 : Holds made k (attributes_in_scope p (attributes p c)) (located (attribute_names p (attributes p c ++ more)) (locations_of self)) =
      holds_attributes p made k (attributes p c) more (locations_of self) (subst (λ (rs : List AttributeRef). AreMade made (locations_of self) (attribute_classes p k rs)) split own.made_for) in
      let holds1 : Holds made k (attributes_in_scope p (attributes p c)) (environment_of p self) = subst (λ (e : Environment). Holds made k (attributes_in_scope p (attributes p c)) e) env holds0 in
      let holds2 = holds_formals p made k fs ls (attributes_in_scope p (attributes p c)) (environment_of p self) made_for holds1 in
      record {
        at = at;
        shows = shows;
        pictures = pictures;
        variables = subst (λ (es : List ClassId). Variables map q (formals_in_scope p fs ++ attributes_in_scope p (attributes_of p es)) (with_formals p fs (attributes_in p c)) (located (formal_names fs) ls ++ environment_of p self))
            chain_same variables1;
        self_is = pic;
        depth = omega arith;
        frame = frame;
        scene = record {
          c_within = within;
          k_within = k_within;
          below = below;
          plain = plain;
          class = is;
          fits = fit;
          holds = subst (λ (es : List ClassId). Holds made k (formals_in_scope p fs ++ attributes_in_scope p (attributes_of p es)) (located (formal_names fs) ls ++ environment_of p self)) chain_same holds2;
        };
        fits = fits;
      }
