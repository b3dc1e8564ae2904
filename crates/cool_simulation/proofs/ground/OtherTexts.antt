-- The simulation relation does not depend on the machine's program text: it also holds for a machine with another text and the same data and limits.
use Rattle.std.proofs.Common.{ℕ, List, Option}
use Rattle.mips_isa.specs.Bytes.{Bytes}
use Rattle.mips_isa.specs.Calls.{State as Machine}
use Rattle.cool_classes.specs.Chains.{Class}
use Rattle.cool_classes.specs.declared.class_id.ClassId.{ClassId}
use Rattle.cool_rules.specs.Scopes.{Binding}
use Rattle.cool_runtime.specs.Contents.{BoolAt, IntAt, Lies, NameAt, ObjectAt, StringAt, TextAt}
use Rattle.cool_runtime.specs.Machines.{Console, Pointers}
use Rattle.cool_runtime.specs.Reaches.{World}
use Rattle.cool_codegen.specs.Variables.{Named}
use Rattle.cool_meaning.specs.Values.{Value, Void, Int, Bool, Str, Obj, State, Environment}
use Rattle.cool_meaning.specs.FittingValues as fitting
use Rattle.cool_simulation.specs.Loadings.{InData, Loading, Watch}
use Rattle.cool_simulation.specs.Pictures.{HomeStands, Map, ObjectStands, Pic, Pictures}
use Rattle.cool_simulation.specs.Simulation.{Begins, Shown}
use Rattle.cool_simulation.specs.Visits.{Visit}
use Rattle.cool_simulation.proofs.ground.QuietTexts.{at_over, over}

module _ (w : World) (text : List ℕ) where
  abbrev w' : World
  w' = over w text

  pub lies_over : (gp a size : ℕ) → Lies w gp a size → Lies w' gp a size
  lies_over gp a size h = record { even = h.even; from = h.from; to = h.to; in_data = h.in_data; in_heap = h.in_heap }

  pub int_over : (m : Bytes) (gp a v : ℕ) → IntAt w m gp a v → IntAt w' m gp a v
  int_over m gp a v h = record { lies = lies_over gp a 16 h.lies; head = h.head; head_fits = h.head_fits; value = h.value; fits = h.fits }

  pub bool_over : (m : Bytes) (gp a v : ℕ) → BoolAt w m gp a v → BoolAt w' m gp a v
  bool_over m gp a v h = record { lies = lies_over gp a 16 h.lies; head = h.head; head_fits = h.head_fits; value = h.value; bit = h.bit }

  pub string_over : (m : Bytes) (gp a : ℕ) (bytes : List ℕ) → StringAt w m gp a bytes → StringAt w' m gp a bytes
  string_over m gp a bytes h = record { lies = lies_over gp a _ h.lies; head = h.head; head_fits = h.head_fits; length_is = int_over m gp _ _ h.length_is; holds = h.holds; text = h.text }

  pub object_over : (m : Bytes) (gp a tag size table : ℕ) (words : List ℕ) → ObjectAt w m gp a tag size table words → ObjectAt w' m gp a tag size table words
  object_over m gp a tag size table words h = record { lies = lies_over gp a _ h.lies; head = h.head; fits = h.fits; long = h.long; attributes = h.attributes; words_fit = h.words_fit }

  pub name_over : (m : Bytes) (gp tag : ℕ) (name : List ℕ) → NameAt w m gp tag name → NameAt w' m gp tag name
  name_over m gp tag name h = record { even = h.even; from = h.from; to = h.to; string = string_over m gp _ name h.string }

  pub text_over : (m : Bytes) (a : ℕ) (bytes : List ℕ) → TextAt w m a bytes → TextAt w' m a bytes
  text_over m a bytes h = record { from = h.from; to = h.to; holds = h.holds; ends = h.ends; text = h.text }

  pub data_over : (a size : ℕ) → InData w a size → InData w' a size
  data_over a size h = record { even = h.even; from = h.from; to = h.to }

  pub pic_over : (m : Bytes) (map : Map) (drawn gp : ℕ) (v : Value) (a : ℕ) → Pic w m map drawn gp v a → Pic w' m map drawn gp v a
  pic_over m map drawn gp Void a h = h
  pic_over m map drawn gp (Int v) a h = (int_over m gp a _ h.0, h.1, h.2)
  pic_over m map drawn gp (Bool b) a h = (bool_over m gp a _ h.0, h.1)
  pic_over m map drawn gp (Str bytes) a h = (string_over m gp a bytes h.0, h.1, h.2)
  pic_over m map drawn gp (Obj c i ls) a h = h

  object_stands_over : (p : List Class) (m : Bytes) (map : Map) (gp i : ℕ) → ObjectStands p w m map gp i → ObjectStands p w' m map gp i
  object_stands_over p m map gp i h = record { within = h.within; plain = h.plain; long = h.long; even = h.even; from = h.from; to = h.to; head = h.head; unmarked = h.unmarked; homes = h.homes }

  home_over : (m : Bytes) (map : Map) (s : State) (gp sp l : ℕ) → HomeStands w m map s gp sp l → HomeStands w' m map s gp sp l
  home_over m map s gp sp l h = record { even = h.even; marked = h.marked; room = h.room; value = h.value; stored = h.stored; picture = pic_over m map s.drawn gp h.value _ h.picture }

  pub pictures_over : (p : List Class) (loaded m : Bytes) (map : Map) (s : State) (gp sp : ℕ) → Pictures p w loaded m map s gp sp → Pictures p w' loaded m map s gp sp
  pictures_over p loaded m map s gp sp h = record {
    objects = λ i less. object_stands_over p m map gp i (h.objects i less);
    injective = h.injective;
    homes = λ l some. home_over m map s gp sp l (h.homes l some);
    apart = h.apart;
    fresh = h.fresh;
    as_loaded = h.as_loaded;
    unmarked_data = h.unmarked_data;
    unmarked_room = h.unmarked_room;
  }

-- A visit that is pictured where one text is loaded is pictured where another one is, and whatever is watched.
module _ (p : List Class) (files : List (List ℕ)) (w : World) (memory : Bytes) (text : List ℕ) (watch : Option (Watch p files w)) (watch' : Option (Watch p files (over w text))) where
  abbrev l : Loading
  l = record { table = p; files = files; world = w; memory = memory; watch = watch }

  abbrev l' : Loading
  l' = record { table = p; files = files; world = over w text; memory = memory; watch = watch' }

  begins_over : (c k : ClassId) (self : Value) (scope : List Binding) (vs : List Named) (env : Environment) (made : fitting.World) (d : ℕ) (q : Pointers) (m : Bytes) (map : Map) (console : Console) (st : State) (s : Machine)
      → Begins l c k self scope vs env made d q m map console st s → Begins l' c k self scope vs env made d q m map console st s
  begins_over c k self scope vs env made d q m map console st s h = record {
    at = at_over w text q m console s h.at;
    shows = h.shows;
    pictures = pictures_over w text p memory m map st q.gp q.sp h.pictures;
    variables = h.variables;
    self_is = pic_over w text m map st.drawn q.gp self q.self h.self_is;
    depth = h.depth;
    frame = h.frame;
    scene = h.scene;
    fits = h.fits;
  }

  pub shown_over : (x : Visit) (s : Machine) → Shown l x s → Shown l' x s
  shown_over x s h = record {
    span = h.span;
    there = h.there;
    tree_is = h.tree_is;
    first_is = h.first_is;
    own = h.own;
    scope = h.scope;
    made = h.made;
    pointers = h.pointers;
    memory = h.memory;
    map = h.map;
    console = h.console;
    from = h.from;
    begins = begins_over x.class h.own x.self h.scope h.span.scope x.environment h.made h.span.depth h.pointers h.memory h.map h.console x.state s h.begins;
  }
