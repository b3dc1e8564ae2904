-- `values_told` lists the places of the expressions that give the value in an explanation of a fault whose value has the wrong type: the initial value of a
-- variable or an attribute (E17), or the body of a method (E18).
use Rattle.std.specs.Prelude.{List, [], take, ◌&&◌, nat_eq, Bool, true, false, if◌then◌else◌, Option, Some, None}
use Rattle.std.specs.List.{flat_map}
use Rattle.cool_syntax.specs.declared.file_tree.Feature.{Feature}
use Rattle.cool_syntax.specs.declared.file_tree.Feature.TheVariants.{Method, Attribute}
use Rattle.cool_syntax.specs.declared.place.Place.{Place}
use Rattle.cool_syntax.specs.NodeLists.{all_trees}
use Rattle.cool_syntax.specs.Tree.{Tree, With}
use Rattle.cool_syntax.specs.Tree as trees
use Rattle.cool_classes.specs.Chains.{Class}
use Rattle.cool_check.specs.declared.fault.TypeKind.{TypeKind}
use Rattle.cool_check.specs.declared.fault.TypeKind.TheVariants.{E1, E2, E3, E4, E5, E6, E7, E8, E9, E10, E11, E12, E13, E14, E15, E16, E17, E18}
use Rattle.cool_faults.specs.declared.fault.Fault.{Fault}
use Rattle.cool_faults.specs.declared.fault.Fault.TheVariants.{Lex, Syntax, Class as OfClasses, Typing}
use Rattle.cool_notices.specs.ValuePlaces.{value_places}
use Rattle.cool_mend.specs.declared.values.TheConstants.{MOST_VALUES}

-- the expression of a feature, if it has one, and the place of the feature
abbrev pub body_of : Feature → Option Tree
body_of (Method m) = Some m.body
body_of (Attribute a) = a.init

abbrev pub place_of_feature : Feature → Place
place_of_feature (Method m) = m.at
place_of_feature (Attribute a) = a.at

-- two places are the same: the byte is enough for the line
abbrev pub is_at : Place → Place → Bool
is_at p q = nat_eq p.file q.file && nat_eq p.byte q.byte

-- the value places of the initial value that a `let` at this place gives to its variable
abbrev pub values_of_let : Place → Tree → List Place
values_of_let at (trees.Let p name declared (With init) body) = if is_at p at then value_places init else []
values_of_let at t = []

-- those of all parts of an expression
abbrev pub values_of_lets : Place → Tree → List Place
values_of_lets at body = flat_map (values_of_let at) (all_trees body)

-- The value places of the expression of a feature that stands at this place. If it stands elsewhere, those of its `let` expressions at this place, where
-- these are meant, too.
abbrev pub values_of_body : Bool → Place → Place → Option Tree → List Place
values_of_body lets at p None = []
values_of_body lets at p (Some body) = if is_at p at then value_places body else (if lets then values_of_lets at body else [])

abbrev pub values_of_feature : Bool → Place → Feature → List Place
values_of_feature lets at f = values_of_body lets at (place_of_feature f) (body_of f)

-- the same in a class, and in all classes
abbrev pub values_of_class : Bool → Place → Class → List Place
values_of_class lets at c = flat_map (values_of_feature lets at) c.features

abbrev pub values_of_classes : Bool → Place → List Class → List Place
values_of_classes lets at p = flat_map (values_of_class lets at) p

-- the value places of a fault of typing of this kind at this place: only values that do not conform to a declared type have some
abbrev pub values_of_kind : TypeKind → Place → List Class → List Place
values_of_kind E1 at p = []
values_of_kind E2 at p = []
values_of_kind E3 at p = []
values_of_kind E4 at p = []
values_of_kind E5 at p = []
values_of_kind E6 at p = []
values_of_kind E7 at p = []
values_of_kind E8 at p = []
values_of_kind E9 at p = []
values_of_kind E10 at p = []
values_of_kind E11 at p = []
values_of_kind E12 at p = []
values_of_kind E13 at p = []
values_of_kind E14 at p = []
values_of_kind E15 at p = []
values_of_kind E16 at p = []
values_of_kind E17 at p = values_of_classes true at p
values_of_kind E18 at p = values_of_classes false at p

-- the value places that are told of a fault in this class table: the first ones
abbrev pub values_in : List Class → Fault → List Place
values_in p (Lex f) = []
values_in p (Syntax f) = []
values_in p (OfClasses f) = []
values_in p (Typing f) = take MOST_VALUES (values_of_kind f.kind f.at p)

-- there are none without a class table
abbrev pub values_told : Option (List Class) → Fault → List Place
values_told None fault = []
values_told (Some p) fault = values_in p fault
