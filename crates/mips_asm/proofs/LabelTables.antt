-- Lemmas on the symbol table of the assembler: a look-up finds each label in it, and a line's labels are added one by one, unless one was defined before.
use Rattle.std.specs.Prelude.{◌≡◌, ℕ, ◌||◌, Bool, true, false, List, [], ◌∷◌, ◌++◌, Option, Some, None, is_some, refl, bytes_eq}
use Rattle.std.specs.Map.{lookup}
use Rattle.std.specs.HashMap.{get}
use Rattle.std.proofs.Common.{ap, sym, ◌∙◌, append_assoc, append-nil, cond}
use Rattle.std.proofs.Math.Bool.{or_comm}
use Rattle.std.proofs.lemmas.List.{map-append}
use Rattle.std.proofs.lemmas.List.Folds.{list_any-append}
use Rattle.std.specs.Global.{Vec}
use Rattle.indexmap.specs.IndexMap.{IndexMap, insert_entry}
use Rattle.indexmap.proofs.CallerLemmas.{insert_entry-new}
use Rattle.mips_isa.specs.Lines.{Name}
use Rattle.mips_isa.specs.Assembly.{has, any_twice}
use Rattle.mips_asm.specs.declared.mark.Mark.{Mark}
use Rattle.mips_asm.specs.Passes.{shown, names_of, marked}
use Rattle.lists.proofs.EqualBytes.{same_key}
use Rattle.lists.proofs.TruthValues.{or_false}

-- a look-up finds a name where the table has it
pub found_as_has : (name : Name) (entries : List (Vec ℕ × Mark)) → is_some (lookup (λ key. bytes_eq name key.items) entries) ≡ has (names_of (shown entries)) name
found_as_has name [] = refl
found_as_has name (entry ∷ rest) = by (bytes_eq name entry.0.items) (found_as_has name rest)
  where
    by : (b : Bool) → is_some (lookup (λ key. bytes_eq name key.items) rest) ≡ has (names_of (shown rest)) name
        → is_some (cond b (Some entry.1) (lookup (λ key. bytes_eq name key.items) rest)) ≡ (b || has (names_of (shown rest)) name)
    by true h = refl
    by false h = h

-- the names that were seen before count, and not their order
pub any_twice_same : (s t : List Name) (labels : List Name) → ((q : Name) → has s q ≡ has t q) → any_twice s labels ≡ any_twice t labels
any_twice_same s t [] same = refl
any_twice_same s t (label ∷ rest) same =
    let here : has s label ≡ has t label = same label in
    let next : any_twice (label ∷ s) rest ≡ any_twice (label ∷ t) rest = any_twice_same (label ∷ s) (label ∷ t) rest (λ q. ap (λ b. bytes_eq q label || b) (same q)) in
    ap (λ b. b || any_twice (label ∷ s) rest) here ∙ ap (λ b. has t label || b) next

-- a name is added in front, or at the end
pub has_after : (s : List Name) (label q : Name) → has (label ∷ s) q ≡ has (s ++ label ∷ []) q
has_after s label q =
    or_comm (bytes_eq q label) (has s q) ∙ ap (λ b. has s q || b) (sym (or_false (bytes_eq q label))) ∙ sym (list_any-append (bytes_eq q) s (label ∷ []))

-- The labels of a line are put into the table one by one.
pub record Defining (old now : List (Name × Mark)) (labels rest : List Name) (mark : Mark) : Type 0 where
  pub twice : any_twice (names_of now) rest ≡ any_twice (names_of old) labels
  pub entries : now ++ marked mark rest ≡ old ++ marked mark labels

-- none yet
pub defining_start : (old : List (Name × Mark)) (labels : List Name) (mark : Mark) → Defining old old labels labels mark
defining_start old labels mark = record { twice = refl; entries = refl }

-- one more
pub defining_step : (old now : List (Name × Mark)) (labels : List Name) (label : Name) (rest : List Name) (mark : Mark)
    → Defining old now labels (label ∷ rest) mark → has (names_of now) label ≡ false → Defining old (now ++ (label, mark) ∷ []) labels rest mark
defining_step old now labels label rest mark d new = record {
  twice =
      ap (λ names. any_twice names rest) (map-append (λ (entry : Name × Mark). entry.0) now ((label, mark) ∷ []))
      ∙ any_twice_same (names_of now ++ label ∷ []) (label ∷ names_of now) rest (λ q. sym (has_after (names_of now) label q))
      ∙ sym (ap (λ b. b || any_twice (label ∷ names_of now) rest) new)
      ∙ d.twice;
  entries = append_assoc now ((label, mark) ∷ []) (marked mark rest) ∙ d.entries;
}

-- one that was there
pub defining_twice : (old now : List (Name × Mark)) (labels : List Name) (label : Name) (rest : List Name) (mark : Mark)
    → Defining old now labels (label ∷ rest) mark → has (names_of now) label ≡ true → any_twice (names_of old) labels ≡ true
defining_twice old now labels label rest mark d there = sym d.twice ∙ ap (λ b. b || any_twice (label ∷ names_of now) rest) there

-- all
pub defining_end : (old now : List (Name × Mark)) (labels : List Name) (mark : Mark)
    → Defining old now labels [] mark → (any_twice (names_of old) labels ≡ false) × (now ≡ old ++ marked mark labels)
defining_end old now labels mark d = (sym d.twice, sym (append-nil now) ∙ d.entries)

-- the table after a new name is put into it
pub shown_after : {S : Type 0} (m : IndexMap (Vec ℕ) Mark S) (key : Vec ℕ) (mark : Mark)
    → get same_key m key ≡ None → shown (insert_entry same_key m.entries key mark) ≡ shown m.entries ++ (key.items, mark) ∷ []
shown_after m key mark none =
    ap shown (insert_entry-new same_key m key mark none) ∙ map-append (λ (entry : Vec ℕ × Mark). (entry.0.items, entry.1)) m.entries ((key, mark) ∷ [])

-- a look-up in the table depends only on the names
pub shown_lookup : (name : Name) (entries : List (Vec ℕ × Mark)) → lookup (λ key. bytes_eq name key.items) entries ≡ lookup (bytes_eq name) (shown entries)
shown_lookup name [] = refl
shown_lookup name (entry ∷ rest) = ap (λ (o : Option Mark). cond (bytes_eq name entry.0.items) (Some entry.1) o) (shown_lookup name rest)
