-- `check_method` returns the types of the nodes of the method's body: its list of types starts empty, and its scope gives each name the type that the typing
-- rules give.
use Rattle.std.proofs.Common.{◌∙◌, ◌++◌, List, ap, rules}
use Rattle.cool_syntax.specs.Tree.{Tree}
use Rattle.cool_syntax.specs.NodeLists.{tree_at}
use Rattle.cool_classes.specs.declared.class_id.Ty.{Ty}
use Rattle.cool_rules.specs.NodeTypes.{node_types}
use Rattle.cool_rules.specs.Scopes.{Binding}
use Rattle.cool_check.specs.Contexts.{formal_bindings}
use Rattle.cool_check.proofs.ColumnsOfFeatures.{body_types}
use Rattle.cool_check.proofs.feature.check_method.Goals as goal

pub returns-then-conforms : goal.returns-then-conforms
returns-then-conforms c =
    let p = c.args.t.now in
    let m = c.args.method.now in
    let attributes = c.args.attributes.now in
    let body = node_types p c.args.c in
    record {
      typed = search rules;
      column = c.of.ensures
          ∙ c.into_values.ensures
          ∙ c.in_ok-found.ensures.column
          ∙ ap (λ (ts : List Ty). ts ++ body (c.in_ok-locals.locals ++ attributes) (tree_at m.body c.root.result)) c.in_ok-types.ensures.held
          ∙ ap (λ (t : Tree). body (c.in_ok-locals.locals ++ attributes) t) c.root.ensures.tree
          ∙ ap (λ (bs : List Binding). body (bs ++ attributes) m.body) c.in_ok-locals.ensures.formals
          ∙ ap (λ (bs : List Binding). body (formal_bindings p m.formals ++ bs) m.body) c.requires.attributes
          ∙ body_types p c.requires.class.whole.table c.requires.lawful c.args.c c.requires.class.class c.args.index m c.requires.method;
      first = search rules;
      places = search rules;
    }
