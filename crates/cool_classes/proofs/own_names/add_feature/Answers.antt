-- `add_feature` adds the name of a feature to the map of methods or to that of attributes, and both maps still give the first index of each name (`AreOwn` of
-- `OwnNames.antt`).
use Rattle.std.proofs.Common.{◌++◌, ◌∷◌, [], ℕ, List, map, Some, sym, ◌∙◌, subst}
use Rattle.std.proofs.lemmas.List.{length-map}
use Rattle.std.proofs.lemmas.Result.{on_ok_weaker}
use Rattle.cool_classes.specs.FirstNames.{shown_names, FindsFirst, method_name, attribute_name}
use Rattle.cool_classes.proofs.OwnNamesGrow.{own_method_next, own_attribute_next}
use Rattle.cool_classes.proofs.own_names.add_feature.Goals as goal

pub returns-in-Method : goal.returns-in-Method
returns-in-Method c = on_ok_weaker c.add_name.result (λ more fs number have.
    let now = c.add_name.new.names.entries in
    let finds = more (map method_name fs) (number ∙ sym (length-map fs method_name)) have.methods in
    let both = own_method_next c.args.own.now now fs c.args.feature.now c.in-Method.method c.in-Method.is have
    (subst (λ (n : List ℕ). FindsFirst (shown_names now) (map method_name fs ++ Some n ∷ [])) c.as_slice.ensures finds) in
    record { methods = both.0; attributes = both.1 })
    c.add_name.ensures

pub returns-in-Attribute : goal.returns-in-Attribute
returns-in-Attribute c = on_ok_weaker c.add_name-in-Attribute.result (λ more fs number have.
    let now = c.add_name-in-Attribute.new.names.entries in
    let finds = more (map attribute_name fs) (number ∙ sym (length-map fs attribute_name)) have.attributes in
    let both = own_attribute_next c.args.own.now now fs c.args.feature.now c.in-Attribute.attribute c.in-Attribute.is have
    (subst (λ (n : List ℕ). FindsFirst (shown_names now) (map attribute_name fs ++ Some n ∷ [])) c.as_slice-in-Attribute.ensures finds) in
    record { methods = both.0; attributes = both.1 })
    c.add_name-in-Attribute.ensures
