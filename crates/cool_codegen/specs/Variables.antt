-- `Named` is a name in scope with the word of memory that holds its value; lists of names have the latest first. A word is addressed from the frame pointer
-- ($fp) or from self ($s0).
use Rattle.std.specs.Prelude.{ℕ, ◌+◌, ◌*◌, negsuc, List, [], ◌∷◌}
use Rattle.mips_isa.specs.declared.register.TheConstants.{FP, S0}
use Rattle.cool_classes.specs.declared.class_id.Ty.{Ty}
use Rattle.cool_rules.specs.Scopes.{Binding, Bound}
use Rattle.cool_codegen.specs.declared.variables.Base.{Base}
use Rattle.cool_codegen.specs.declared.variables.Base.TheVariants.{Frame, Object}
use Rattle.cool_codegen.specs.declared.variables.Variable.{Variable}

-- a name and its variable
abbrev pub Named : Type 0
Named = Bound Variable

-- the names with the types of their values
abbrev pub scope_of : List Named → List Binding
scope_of [] = []
scope_of (v ∷ vs) = record { name = v.name; value = v.value.ty } ∷ scope_of vs

-- the register from which a word is addressed
abbrev pub register : Base → ℕ
register Frame = FP
register Object = S0

-- a variable whose value was pushed onto so many words
abbrev pub pushed : ℕ → Ty → Variable
pushed depth type = record { base = Frame; offset = negsuc (4 * depth + 3); ty = type }

abbrev pub bind : ℕ → List ℕ → Ty → List Named → List Named
bind depth name type vs = record { name = name; value = pushed depth type } ∷ vs
