-- A class number is below the number of class-table entries exactly if it is below the number of classes that they represent, and tests for equal numbers and
-- names are right.
use Rattle.std.proofs.Common.{◌≡◌, ◌≢◌, ℕ, ◌<◌, List, length, get_or, sym, ap, ◌∙◌, subst, Bool, true, false, not, eqb, true≢false}
use Rattle.std.proofs.lemmas.Bool.{eqb-true, eq-eqb, not-false}
use Rattle.std.proofs.lemmas.List.{length-map, get_or-map}
use Rattle.std.proofs.lemmas.Slice.Eq.{bytes_eq-Decides}
use Rattle.std.specs.Prelude.{bytes_eq}
use Rattle.cool_classes.specs.declared.class_id.ClassId.{ClassId}
use Rattle.cool_classes.specs.declared.entry.Entry.{Entry}
use Rattle.cool_classes.specs.Chains.{class_at, nothing}
use Rattle.cool_classes.specs.Entries.{classes, as_class}

pub within_classes : (es : List Entry) (c : ClassId) → c.0 < length es → c.0 < length (classes es)
within_classes es c h = subst (λ (n : ℕ). c.0 < n) (sym (length-map es as_class)) h

pub within_entries : (es : List Entry) (c : ClassId) → c.0 < length (classes es) → c.0 < length es
within_entries es c h = subst (λ (n : ℕ). c.0 < n) (length-map es as_class) h

-- a test of two numbers of classes
pub same_class : (r : Bool) (a b : ClassId) → r ≡ not (eqb a.0 b.0) → r ≡ false → a ≡ b
same_class r a b is h =
    let e : a.0 ≡ b.0 = eqb-true a.0 b.0 (not-false (eqb a.0 b.0) (sym is ∙ h)) in
    λ i. record { 0 = e i }

pub other_class : (r : Bool) (a b : ClassId) → r ≡ not (eqb a.0 b.0) → r ≡ true → a ≢ b
other_class r a b is h e =
    let t : eqb a.0 b.0 ≡ true = eq-eqb a.0 b.0 (ap (λ (c : ClassId). c.0) e) in
    true≢false (sym h ∙ is ∙ ap not t)

pub class_read : (es : List Entry) (c : ClassId) (d : Entry) → c.0 < length es → class_at (classes es) c ≡ as_class (get_or es c.0 d)
class_read es c d h = get_or-map as_class es c.0 d nothing h

-- a test of two names
pub same_name : (r : Bool) (xs ys : List ℕ) → r ≡ bytes_eq xs ys → r ≡ true → xs ≡ ys
same_name r xs ys is h = (bytes_eq-Decides xs ys).0 (sym is ∙ h)
