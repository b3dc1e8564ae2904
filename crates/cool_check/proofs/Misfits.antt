-- The search for the first argument that does not conform to its formal parameter passes each argument that conforms, and goes on at the next position.
use Rattle.std.proofs.Common.{◌≡◌, ℕ, zero, suc, ◌+◌, ◌<◌, List, [], ◌∷◌, length, map, drop, get_or, Some, true, Bool, ap, sym, subst, arith}
use Rattle.std.specs.Prelude.{if◌then◌else◌}
use native.Mathlib.Numerals.{add-one}
use Rattle.cool_syntax.specs.declared.node.NodeId.{NodeId}
use Rattle.cool_syntax.specs.Tree.{Tree, of_list, place_of}
use Rattle.cool_syntax.specs.NodeLists.{at_id}
use Rattle.cool_classes.specs.declared.class_id.Ty.{Ty}
use Rattle.cool_rules.specs.Rules.{type_meant}
use Rattle.cool_check.specs.Contexts.{Context}
use Rattle.cool_check.specs.declared.fault.TypeKind.TheVariants.{E6}
use Rattle.cool_check.specs.declared.fault.TypingRule.{TypingRule}
use Rattle.cool_check.specs.FirstFaults.{conform, misfit, unfit}

-- a search from one position on is one from the next, if the argument there conforms
past_one : (s : Context) (rule : TypingRule) (fs : List (List ℕ)) (types : List Ty) (ts : List Tree) (ids : List NodeId) (i : ℕ) (d : Ty) (e : List ℕ) → i < length fs → i < length types → i < length ids
    → conform s (get_or types i d) (type_meant s.table (get_or fs i e)) ≡ true
    → misfit s rule (drop (suc i) fs) (drop (suc i) types) (of_list (map (at_id ts) (drop (suc i) ids))) ≡ misfit s rule (drop i fs) (drop i types) (of_list (map (at_id ts) (drop i ids)))
past_one s rule [] types ts ids i d e fw tw iw fits = absurd (omega arith)
past_one s rule (f ∷ fs) [] ts ids i d e fw tw iw fits = absurd (omega arith)
past_one s rule (f ∷ fs) (a ∷ types) ts [] i d e fw tw iw fits = absurd (omega arith)
past_one s rule (f ∷ fs) (a ∷ types) ts (x ∷ ids) zero d e fw tw iw fits =
    sym (ap (λ (b : Bool). if b then misfit s rule fs types (of_list (map (at_id ts) ids)) else Some (unfit rule E6 (place_of (at_id ts x)) a (type_meant s.table f))) fits)
past_one s rule (f ∷ fs) (a ∷ types) ts (x ∷ ids) (suc i) d e fw tw iw fits = past_one s rule fs types ts ids i d e (omega arith) (omega arith) (omega arith) fits

pub misfit_later : (s : Context) (rule : TypingRule) (fs : List (List ℕ)) (types : List Ty) (ts : List Tree) (ids : List NodeId) (i : ℕ) (d : Ty) (e : List ℕ) (f : Ty) → i < length fs → i < length types → i < length ids
    → conform s (get_or types i d) f ≡ true → f ≡ type_meant s.table (get_or fs i e)
    → misfit s rule (drop (i + 1) fs) (drop (i + 1) types) (of_list (map (at_id ts) (drop (i + 1) ids))) ≡ misfit s rule (drop i fs) (drop i types) (of_list (map (at_id ts) (drop i ids)))
misfit_later s rule fs types ts ids i d e f fw tw iw fits meant =
    subst (λ (j : ℕ). misfit s rule (drop j fs) (drop j types) (of_list (map (at_id ts) (drop j ids))) ≡ misfit s rule (drop i fs) (drop i types) (of_list (map (at_id ts) (drop i ids))))
    (sym (add-one i)) (past_one s rule fs types ts ids i d e fw tw iw (subst (λ (a : Ty). conform s (get_or types i d) a ≡ true) meant fits))
