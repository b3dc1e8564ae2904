-- `named_methods` and `IsSignature` say that the code's tables of the methods of the basic classes agree with the specification of these methods in
-- Features.antt.
use Rattle.std.specs.Prelude.{◌≡◌, ◌<◌, ◌≤◌, List, map, length}
use Rattle.std.specs.List.{AllByRecursion}
use Rattle.cool_classes.specs.declared.basic_methods.BasicSignature.{BasicSignature}
use Rattle.cool_classes.specs.declared.basic_methods.NamedMethod as row
use Rattle.cool_classes.specs.declared.class_id.ClassId.{ClassId}
use Rattle.cool_classes.specs.declared.method.BasicMethod.{BasicMethod}
use Rattle.cool_classes.specs.Chains.{name_of}
use Rattle.cool_classes.specs.Features.{NamedMethod, basic_formals, basic_result, Denotes}
use Rattle.cool_classes.specs.Tables.{basic_classes}

-- the rows of the table of names
abbrev pub named_methods : List row.NamedMethod → List NamedMethod
named_methods = map (λ (m : row.NamedMethod). record { name = m.0.now; method = m.1 })

-- the code's signature is that of the basic method, which has at most two formals
pub record IsSignature (method : BasicMethod) (found : BasicSignature) : Type 0 where
  pub formals : map (name_of basic_classes) found.formals.now ≡ basic_formals method
  pub basic : AllByRecursion (λ (c : ClassId). c.0 < 5) found.formals.now
  pub few : length found.formals.now ≤ 2
  pub result : Denotes basic_classes (basic_result method) found.result
