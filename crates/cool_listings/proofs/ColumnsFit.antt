-- The column (array of types) that a program has for the expression of a feature has one type for each node of this expression.
use Rattle.std.proofs.Common.{◌≡◌, ◌∙◌, ℕ, ◌<◌, ◌^◌, List, length, get_or, ap, sym, refl, subst, arith}
use Rattle.std.specs.Prelude.{Option, Some, None, slice_get}
use Rattle.std.proofs.lemmas.Option.{slice_get_read}
use Rattle.cool_syntax.specs.Tree.{Tree}
use Rattle.cool_syntax.specs.declared.file_tree.ClassDef.{ClassDef}
use Rattle.cool_syntax.specs.declared.file_tree.Feature.{Feature}
use Rattle.cool_syntax.specs.declared.file_tree.Feature.TheVariants.{Method, Attribute}
use Rattle.cool_classes.specs.declared.class_id.ClassId.{ClassId}
use Rattle.cool_classes.specs.Chains.{Class, class_number, features_of}
use Rattle.cool_rules.specs.NodeTypes.{feature_types, initial_types}
use Rattle.cool_rules.specs.TypedTables.{IsTypedTable}
use Rattle.cool_rules.proofs.LengthsOfTypes.{length-node_types}
use Rattle.cool_listings.specs.declared.trees.Column.{Column}
use Rattle.cool_listings.specs.Columns.{column_seen, FitsClass, FitsFeature, FitsInit}
use Rattle.cool_listings.specs.TreeLines.{column_of}

-- a column that is not there fits each feature
pub none_fits : (x : Feature) → FitsFeature None x
none_fits (Method m) = tt
none_fits (Attribute a) = by a.init
  where
    by : (o : Option Tree) → FitsInit None o
    by None = tt
    by (Some t) = tt

init_fits : (p : List Class) (c : ClassId) (o : Option Tree) (column : Column) → column.types.now ≡ initial_types p c o → FitsInit (Some column) o
init_fits p c None column is = tt
init_fits p c (Some t) column is = ap length is ∙ length-node_types p c _ t

-- the column of a feature fits it
pub feature_fits : (p : List Class) (c : ClassId) (x : Feature) (column : Column) → column.types.now ≡ feature_types p c x → FitsFeature (Some column) x
feature_fits p c (Method m) column is = ap length is ∙ length-node_types p c _ m.body
feature_fits p c (Attribute a) column is = init_fits p c a.init column is

-- and is the one that is told
pub column_told : (p : List Class) (number : ℕ) (x : Feature) (column : Column) → column.table.now ≡ p → column.types.now ≡ feature_types p (class_number number) x → column_seen (Some column) ≡ column_of (Some p) number x
column_told p number x column table types = λ i. Some (record { classes = table i; types = types i })

-- the feature there is that of the program
pub feature_there : (p : List Class) (number : ℕ) (d : ClassDef) (fs : List Feature) (i : ℕ) (x : Feature) → FitsClass (Some p) number d → fs ≡ d.features → i < length fs → x ≡ get_or fs i x
    → slice_get (features_of p (class_number number)) i ≡ Some x
feature_there p number d fs i x fits same less is =
    subst (λ (gs : List Feature). slice_get gs i ≡ Some x) (same ∙ sym fits.1) (slice_get_read fs (length fs) i x refl less is)

-- a class has fewer than 2^32 features
pub few_features : (p table : List Class) (number : ℕ) (d : ClassDef) (fs : List Feature) (i : ℕ) → table ≡ p → IsTypedTable table → FitsClass (Some p) number d → fs ≡ d.features → i < length fs → i < 2 ^ 32
few_features p table number d fs i same typed fits is less =
    let few = (subst IsTypedTable same typed).whole.table.few_features (class_number number) fits.0 in
    let long = ap length (is ∙ sym fits.1) in
    omega arith
