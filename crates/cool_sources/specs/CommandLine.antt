-- The meaning of the command-line arguments: which of two forms of output is requested, and the names of the files.
use Rattle.std.specs.Prelude.{◌≡◌, refl, ℕ, List, [], ◌∷◌, map, string_bytes, codes, Bool, true, false, Option, Some, None, nat_eq, if◌then◌else◌}
use Rattle.std.specs.List.{list_any}
use Rattle.std.specs.Str.{bytes_eq}
use Rattle.std.specs.Prelude.{String}
use Rattle.std.specs.Global.{Global}
use Rattle.cool_sources.specs.declared.command_line.Call.{Call}

-- words as bytes
abbrev pub words_of : List (String Global) → List (List ℕ)
words_of = map string_bytes

-- a word that begins with - is an option, except - itself
abbrev pub is_option : List ℕ → Bool
is_option [] = false
is_option (b ∷ []) = false
is_option (b ∷ (c ∷ bs)) = nat_eq b 45

-- all words after -- are names; without it none of them is an option
abbrev pub names_of : Bool → List (List ℕ) → Option (Bool × List (List ℕ))
names_of other [] = Some (other, [])
names_of other (w ∷ ws) = if bytes_eq w (codes "--") then Some (other, ws) else (if list_any is_option (w ∷ ws) then None else Some (other, w ∷ ws))

-- a first word that is this option chooses the other form
abbrev pub call_of : List ℕ → List (List ℕ) → Option (Bool × List (List ℕ))
call_of option [] = names_of false []
call_of option (w ∷ ws) = if bytes_eq w option then names_of true ws else names_of false (w ∷ ws)

-- a call asks for what the words ask for, or there is none
abbrev pub IsCall : Option (Bool × List (List ℕ)) → Option Call → Type 0
IsCall None None = Unit {0}
IsCall None (Some call) = ⊥
IsCall (Some asked) None = ⊥
IsCall (Some (other, names)) (Some call) = (call.other ≡ other) × (words_of call.names.now ≡ names)

-- Worked examples.
asks_for_lines : call_of (codes "--lines") (codes "--lines" ∷ codes "a.cl" ∷ []) ≡ Some (true, codes "a.cl" ∷ [])
asks_for_lines = refl

asks_for_a_name : call_of (codes "--lines") (codes "--" ∷ codes "-a.cl" ∷ []) ≡ Some (false, codes "-a.cl" ∷ [])
asks_for_a_name = refl

asks_for_nothing : call_of (codes "--lines") (codes "a.cl" ∷ codes "-x" ∷ []) ≡ None
asks_for_nothing = refl
