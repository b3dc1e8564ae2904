-- In a loop that adds marks (records of occurrences of names), the marks of one formal parameter, feature or class come before those of the ones after it.
use Rattle.std.proofs.Common.{◌≡◌, ℕ, ◌+◌, ◌<◌, List, ◌++◌, length, drop, get_or, ap, sym, ◌∙◌, append_assoc}
use Rattle.cool_syntax.specs.declared.file_tree.ClassDef.{ClassDef}
use Rattle.cool_syntax.specs.declared.file_tree.Feature.{Feature}
use Rattle.cool_syntax.specs.declared.file_tree.Formal.{Formal}
use Rattle.cool_classes.specs.Chains.{Class}
use Rattle.cool_names.specs.declared.mark.Mark.{Mark}
use Rattle.cool_names.specs.declared.mark.Role.TheVariants as role
use Rattle.cool_names.specs.Marks.{Context, declared_marks}
use Rattle.cool_names.specs.Programs.{class_marks, feature_marks, features_marks, formals_marks, marks_from}
use Rattle.lists.proofs.ItemsLeft.{drop_one}

-- the marks of a formal come before those of the formals after it
pub formals_later : (p : List Class) (ds : List ClassDef) (before : List Mark) (fs : List Formal) (i : ℕ) (f : Formal) → i < length fs → f ≡ get_or fs i f
    → (before ++ declared_marks p ds role.Formal f.at f.name f.declared) ++ formals_marks p ds (drop (i + 1) fs) ≡ before ++ formals_marks p ds (drop i fs)
formals_later p ds before fs i f within is =
    append_assoc before (declared_marks p ds role.Formal f.at f.name f.declared) (formals_marks p ds (drop (i + 1) fs))
    ∙ sym (ap (λ (gs : List Formal). before ++ formals_marks p ds gs) (drop_one fs i f within is))

-- the marks of a feature come before those of the features after it
pub features_later : (s : Context) (before : List Mark) (fs : List Feature) (i : ℕ) (f : Feature) → i < length fs → f ≡ get_or fs i f
    → (before ++ feature_marks s f) ++ features_marks s (drop (i + 1) fs) ≡ before ++ features_marks s (drop i fs)
features_later s before fs i f within is =
    append_assoc before (feature_marks s f) (features_marks s (drop (i + 1) fs)) ∙ sym (ap (λ (gs : List Feature). before ++ features_marks s gs) (drop_one fs i f within is))

-- the marks of a class come before those of the classes after it
pub classes_later : (p : List Class) (all : List ClassDef) (before : List Mark) (ds : List ClassDef) (k i : ℕ) (d : ClassDef) → i < length ds → d ≡ get_or ds i d
    → (before ++ class_marks p all k d) ++ marks_from p all (k + 1) (drop (i + 1) ds) ≡ before ++ marks_from p all k (drop i ds)
classes_later p all before ds k i d within is =
    append_assoc before (class_marks p all k d) (marks_from p all (k + 1) (drop (i + 1) ds)) ∙ sym (ap (λ (es : List ClassDef). before ++ marks_from p all k es) (drop_one ds i d within is))
