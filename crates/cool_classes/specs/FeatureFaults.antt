-- `class_faults` lists the faults (compile-time errors) of a class: those of each feature, of its method main, and of its limits (the Cool manual, sections 5,
-- 6 and 8, and the limits of this compiler).
use Rattle.std.specs.Prelude.{ℕ, ◌+◌, List, [], ◌∷◌, ◌++◌, map, length, slice_get, Option, Some, None, is_some, Bool, true, false, not, ◌&&◌, ◌||◌, nat_lt, codes, bytes_eq, if◌then◌else◌}
use Rattle.cool_syntax.specs.declared.place.Place.{Place}
use Rattle.cool_syntax.specs.declared.type_ref.TypeRef.{TypeRef}
use Rattle.cool_syntax.specs.declared.file_tree.Feature.{Feature}
use Rattle.cool_syntax.specs.declared.file_tree.Feature.TheVariants.{Method, Attribute}
use Rattle.cool_syntax.specs.declared.file_tree.Formal.{Formal}
use Rattle.cool_syntax.specs.declared.file_tree.MethodDef.{MethodDef}
use Rattle.cool_syntax.specs.declared.file_tree.AttributeDef.{AttributeDef}
use Rattle.cool_classes.specs.declared.TheConstants.{MOST_ATTRIBUTES, MOST_METHODS}
use Rattle.cool_classes.specs.declared.class_id.ClassId.{ClassId}
use Rattle.cool_classes.specs.declared.fault.ClassFault.{ClassFault}
use Rattle.cool_classes.specs.declared.fault.ClassKind.{ClassKind}
use Rattle.cool_classes.specs.declared.fault.ClassKind.TheVariants.{F1, F2, F3, F4, F5, F6, F7, F8, F9}
use Rattle.cool_classes.specs.declared.method.MethodRef.{MethodRef}
use Rattle.cool_classes.specs.Chains.{Class, name_of, features_of}
use Rattle.cool_classes.specs.Features.{first_method, implementation, attributes_of, formals_in, formals_of, result_of}
use Rattle.cool_classes.specs.FirstNames.{first_index, is_index, attribute_name}
use Rattle.cool_classes.specs.MethodNames.{methods_of}
use Rattle.cool_classes.specs.Names.{self_type}

-- one fault where a test holds
abbrev pub noted : Bool → ClassKind → Place → List ClassFault
noted b kind at = if b then record { kind = kind; at = at } ∷ [] else []

abbrev pub is_class : List Class → List ℕ → Bool
is_class p name = is_some (first_index 0 (map (λ (c : Class). Some c.name) p) name)

-- F6 for a type that is no class and not SELF_TYPE
abbrev pub type_faults : List Class → TypeRef → List ClassFault
type_faults p r = noted (not (bytes_eq r.name self_type || is_class p r.name)) F6 r.at

-- F3, F4, F5 and F6 of a formal after those of these names
abbrev pub formal_faults : List Class → List (Option (List ℕ)) → Formal → List ClassFault
formal_faults p before f =
    noted (bytes_eq f.name (codes "self")) F3 f.at
    ++ (noted (is_some (first_index 0 before f.name)) F4 f.at
    ++ (noted (bytes_eq f.declared.name self_type) F5 f.declared.at ++ type_faults p f.declared))

-- the names of formals
abbrev pub formal_row : List Formal → List (Option (List ℕ))
formal_row = map (λ f. Some f.name)

abbrev pub formals_faults : List Class → List (Option (List ℕ)) → List Formal → List ClassFault
formals_faults p before [] = []
formals_faults p before (f ∷ fs) = formal_faults p before f ++ formals_faults p (before ++ Some f.name ∷ []) fs

-- two lists of types have the same names
abbrev pub same_types : List (List ℕ) → List (List ℕ) → Bool
same_types [] [] = true
same_types [] (u ∷ us) = false
same_types (t ∷ ts) [] = false
same_types (t ∷ ts) (u ∷ us) = bytes_eq t u && same_types ts us

abbrev pub declared_types : List Formal → List (List ℕ)
declared_types = map (λ f. f.declared.name)

-- a method declares other types than the one above
abbrev pub declares_otherwise : List Class → MethodDef → MethodRef → Bool
declares_otherwise p m above = not (same_types (declared_types m.formals) (formals_of p above) && bytes_eq m.result.name (result_of p above))

abbrev pub redefines_otherwise : List Class → MethodDef → Option MethodRef → Bool
redefines_otherwise p m None = false
redefines_otherwise p m (Some above) = declares_otherwise p m above

-- the classes have an attribute of this name
abbrev pub have_attribute : List Class → List ClassId → List ℕ → Bool
have_attribute p [] f = false
have_attribute p (d ∷ ds) f = is_some (first_index 0 (map attribute_name (features_of p d)) f) || have_attribute p ds f

-- the method at this index of a class below these: F1, F7, and the faults of its formals and its result
abbrev pub method_faults : List Class → ClassId → List ClassId → ℕ → MethodDef → List ClassFault
method_faults p c above k m =
    noted (not (is_index k (first_method 0 (features_of p c) m.name))) F1 m.at
    ++ (noted (redefines_otherwise p m (implementation p above m.name)) F7 m.at
    ++ (formals_faults p [] m.formals ++ type_faults p m.result))

-- an earlier attribute of the class, or one of the classes above, has the name of the one at this index
abbrev pub is_doubled : List Class → ClassId → List ClassId → ℕ → List ℕ → Bool
is_doubled p c above k name = not (is_index k (first_index 0 (map attribute_name (features_of p c)) name)) || have_attribute p above name

-- the attribute at this index: F3, F2, and the fault of its type
abbrev pub attribute_faults : List Class → ClassId → List ClassId → ℕ → AttributeDef → List ClassFault
attribute_faults p c above k a =
    noted (bytes_eq a.name (codes "self")) F3 a.at
    ++ (noted (is_doubled p c above k a.name) F2 a.at
    ++ type_faults p a.declared)

abbrev pub one_feature_faults : List Class → ClassId → List ClassId → ℕ → Feature → List ClassFault
one_feature_faults p c above k (Method m) = method_faults p c above k m
one_feature_faults p c above k (Attribute a) = attribute_faults p c above k a

abbrev pub features_faults : List Class → ClassId → List ClassId → ℕ → List Feature → List ClassFault
features_faults p c above k [] = []
features_faults p c above k (x ∷ fs) = one_feature_faults p c above k x ++ features_faults p c above (k + 1) fs

-- no first method main, or one that has formals
abbrev pub has_formals : List (List ℕ) → Bool
has_formals [] = false
has_formals (t ∷ ts) = true

abbrev pub lacks_main_at : List Feature → Option ℕ → Bool
lacks_main_at fs None = true
lacks_main_at fs (Some k) = has_formals (formals_in (slice_get fs k))

abbrev pub lacks_main : List Class → ClassId → Bool
lacks_main p c = bytes_eq (name_of p c) (codes "Main") && lacks_main_at (features_of p c) (first_method 0 (features_of p c) (codes "main"))

-- the class at the head of a chain has too many attributes or methods
abbrev pub is_over_limit : List Class → List ClassId → Bool
is_over_limit p ds = nat_lt MOST_ATTRIBUTES (length (attributes_of p ds)) || nat_lt MOST_METHODS (length (methods_of p ds))

-- the faults of a class whose name stands at a place, below these classes
abbrev pub class_faults : List Class → ClassId → List ClassId → Place → List ClassFault
class_faults p c above at =
    features_faults p c above 0 (features_of p c) ++ (noted (lacks_main p c) F8 at ++ noted (is_over_limit p (c ∷ above)) F9 at)
