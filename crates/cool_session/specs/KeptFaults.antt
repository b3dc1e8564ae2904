-- The result that a check stores for a feature: the feature has no type error, or else the kind of its error, the rule that fails, the number of the token with
-- the error, and its types.
use Rattle.std.specs.Prelude.{◌≡◌, refl, ℕ, suc, ◌<◌, List, [], ◌∷◌, ◌++◌, map, length, get_or, Option, Some, None, IfSome, Ok, Err, codes}
use Rattle.std.specs.List.Sorted.{IsPermutation}
use Rattle.std.proofs.Common.{arith}
use Rattle.cool_syntax.specs.declared.place.Place.{Place}
use Rattle.cool_syntax.specs.declared.token.Token.{Token}
use Rattle.cool_syntax.specs.declared.token.Sign.TheVariants as sign
use Rattle.cool_syntax.specs.declared.file_tree.Feature.{Feature}
use Rattle.cool_syntax.specs.FaultOrder.{AreInOrder}
use Rattle.cool_syntax.specs.Readings.{object, symbol}
use Rattle.cool_classes.specs.declared.class_id.ClassId.{ClassId}
use Rattle.cool_classes.specs.Chains.{Class, class_number}
use Rattle.cool_check.specs.declared.fault.TypeFault.{TypeFault}
use Rattle.cool_check.specs.declared.fault.TypeKind.TheVariants.{E1}
use Rattle.cool_check.specs.declared.fault.TypingRule.TheVariants as typing
use Rattle.cool_check.specs.FirstFaults.{Checked, refuse}
use Rattle.cool_check.specs.TypingFaults.{feature_checked}
use Rattle.cool_check.specs.Faults.{standing_of}
use Rattle.cool_faults.specs.declared.fault.Fault.{Fault}
use Rattle.cool_faults.specs.declared.fault.Fault.TheVariants.{Typing}
use Rattle.cool_session.specs.declared.base.KeptFault.{KeptFault}

-- the place of the token at a position
abbrev pub place_of_token : List Token → ℕ → Place
place_of_token tokens k = get_or (map (λ (t : Token). t.at) tokens) k (record { file = 0; line = 0; byte = 0 })

-- the fault that is kept, at a place
abbrev pub fault_at : Place → KeptFault → TypeFault
fault_at at kept = record { kind = kept.kind; rule = kept.rule; at = at; found = kept.found; due = kept.due }

-- the result of the check of a feature of these tokens, by what is kept of it
abbrev pub result_kept : List Token → Option KeptFault → Checked (Unit {0})
result_kept tokens None = Ok tt
result_kept tokens (Some kept) = Err (fault_at (place_of_token tokens kept.token) kept)

-- This is to be kept of a feature of these tokens, whose check has this result.
pub record IsKeptOf (tokens : List Token) (result : Checked (Unit {0})) (kept : Option KeptFault) : Type 0 where
  pub within : IfSome kept (λ fault. fault.token < length tokens)
  pub is : result ≡ result_kept tokens kept

-- Tables

-- a feature of a class of a table
pub record Member : Type 0 where
  pub class : ClassId
  pub feature : Feature

-- the features of classes in order, where the first class has this number
abbrev pub members_from : ℕ → List Class → List Member
members_from k [] = []
members_from k (d ∷ ds) = map (λ (x : Feature). record { class = class_number k; feature = x }) d.features ++ members_from (suc k) ds

abbrev pub members : List Class → List Member
members = members_from 0

-- the result of the check of each feature of a table
abbrev pub member_checked : List Class → Member → Checked (Unit {0})
member_checked p m = feature_checked p m.class m.feature

abbrev pub results : List Class → List (Checked (Unit {0}))
results p = map (member_checked p) (members p)

-- This is to be kept of the features of these tokens, whose checks have these results.
abbrev pub AreKeptOf : List (List Token) → List (Checked (Unit {0})) → List (Option KeptFault) → Type 0
AreKeptOf [] [] [] = Unit {0}
AreKeptOf (run ∷ runs) (result ∷ rest) (kept ∷ more) = IsKeptOf run result kept × AreKeptOf runs rest more
AreKeptOf _ _ _ = ⊥

-- the fault of a feature of these tokens, by what is kept of it
abbrev pub fault_kept : List Token → Option KeptFault → List TypeFault
fault_kept run None = []
fault_kept run (Some kept) = fault_at (place_of_token run kept.token) kept ∷ []

-- the faults of features of these tokens
abbrev pub faults_kept : List (List Token) → List (Option KeptFault) → List TypeFault
faults_kept [] more = []
faults_kept (run ∷ runs) [] = []
faults_kept (run ∷ runs) (kept ∷ more) = fault_kept run kept ++ faults_kept runs more

-- Faults of files are these typing faults in order.
pub record AreFaultsOf (found : List TypeFault) (faults : List Fault) : Type 0 where
  pub types : List TypeFault
  pub is : faults ≡ map Typing types
  pub moved : IsPermutation found types
  pub order : AreInOrder standing_of types

-- Worked example: of `x;` where x is not in scope, E1 at the token 0 is kept.
fault_at_x : (p q : Place)
    → IsKeptOf (object (codes "x") p ∷ symbol sign.Semi q ∷ []) (refuse typing.Id E1 p) (Some (record { kind = E1; rule = typing.Id; token = 0; found = None; due = None }))
fault_at_x p q = record { within = omega arith; is = refl }
