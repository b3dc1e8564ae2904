-- `check_attribute` returns the types of the nodes of the initial value: its list of types starts empty, and its scope gives each name the type that the typing
-- rules give.
use Rattle.std.proofs.Common.{◌∙◌, ◌++◌, List, ap, sym, rules}
use Rattle.std.specs.Prelude.{Option}
use Rattle.cool_syntax.specs.Tree.{Tree}
use Rattle.cool_syntax.specs.NodeLists.{tree_at}
use Rattle.cool_classes.specs.declared.class_id.Ty.{Ty}
use Rattle.cool_rules.specs.NodeTypes.{node_types, initial_types}
use Rattle.cool_rules.specs.Scopes.{Binding}
use Rattle.cool_check.proofs.ColumnsOfFeatures.{first_types}
use Rattle.cool_check.proofs.feature.check_attribute.Goals as goal

pub returns-then-conforms : goal.returns-then-conforms
returns-then-conforms c =
    let p = c.args.t.now in
    let attributes = c.args.attributes.now in
    let body = node_types p c.args.c in
    record {
      typed = search rules;
      column = c.of-then-conforms.ensures
          ∙ c.into_values.ensures
          ∙ c.in_ok-found.ensures.column
          ∙ ap (λ (ts : List Ty). ts ++ body (c.new-3.result ++ attributes) (tree_at c.in-Some.body c.root.result)) c.in_ok-types.ensures.held
          ∙ ap (λ (t : Tree). body (c.new-3.result ++ attributes) t) c.root.ensures.tree
          ∙ ap (λ (bs : List Binding). body (bs ++ attributes) c.in-Some.body) c.new-3.ensures
          ∙ ap (λ (bs : List Binding). body bs c.in-Some.body) c.requires.attributes
          ∙ first_types p c.requires.class.whole.table c.requires.lawful c.args.c c.requires.class.class c.in-Some.body
          ∙ sym (ap (λ (o : Option Tree). initial_types p c.args.c o) c.in-Some.is);
      first = search rules;
      places = search rules;
    }
