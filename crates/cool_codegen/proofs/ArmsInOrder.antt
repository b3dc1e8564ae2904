-- `with_branch`, which inserts a branch of a `case` after the branches of classes that are no less deep, passes one branch in each step of its search, and ends
-- before the first branch of a less deep class.
use Rattle.std.proofs.Common.{◌≡◌, ℕ, zero, suc, ◌<◌, List, [], ◌∷◌, ◌++◌, map, take, drop, length, get_or, Bool, true, false, ap, sym, subst, ◌∙◌, refl, append_assoc, arith, drop-cons}
use Rattle.std.proofs.Math.Seq.{take-suc}
use Rattle.std.proofs.lemmas.List.{drop-map, get_or-map, length-map}
use Rattle.std.specs.List.{insert, AllByRecursion}
use Rattle.std.specs.Prelude.{nat_lt, if◌then◌else◌}
use Rattle.cool_codegen.specs.declared.arm.Arm as declared_arm
use Rattle.cool_codegen.specs.Arms.{Arm, with_arm}
use Rattle.cool_codegen.specs.Spans.{Branch, branch_of, with_branch}

module _ {S : Type 0} where
  -- the branch at a place of the list
  pub at_place : (xs : List (declared_arm.Arm S)) (k : ℕ) (x : declared_arm.Arm S) → k < length xs → x ≡ get_or xs k x → drop k (map branch_of xs) ≡ branch_of x ∷ drop (suc k) (map branch_of xs)
  at_place xs k x within is =
      drop-map branch_of k xs ∙ ap (map branch_of) (drop-cons xs k x within) ∙ ap (λ (y : declared_arm.Arm S). branch_of y ∷ map branch_of (drop (suc k) xs)) (sym is)
      ∙ ap (λ ys. branch_of x ∷ ys) (sym (drop-map branch_of (suc k) xs))

  pub up_to : (xs : List (declared_arm.Arm S)) (k : ℕ) (x : declared_arm.Arm S) → k < length xs → x ≡ get_or xs k x → take (suc k) (map branch_of xs) ≡ take k (map branch_of xs) ++ branch_of x ∷ []
  up_to xs k x within is =
      take-suc (map branch_of xs) k (branch_of x) (longer xs k within)
      ∙ ap (λ (a : Branch S). take k (map branch_of xs) ++ a ∷ []) (get_or-map branch_of xs k x (branch_of x) within ∙ ap branch_of (sym is))
    where
      longer : (ys : List (declared_arm.Arm S)) (n : ℕ) → n < length ys → n < length (map (branch_of {S = S}) ys)
      longer ys n h = omega (arith, length-map ys (branch_of {S = S}))

  pub passes : (ys : List (Branch S)) (k j : ℕ) (a b : Branch S) → suc k ≡ j → drop k ys ≡ a ∷ drop (suc k) ys → take (suc k) ys ≡ take k ys ++ a ∷ [] → nat_lt a.arm.depth b.arm.depth ≡ false
      → with_branch ys b ≡ take k ys ++ with_branch (drop k ys) b → with_branch ys b ≡ take j ys ++ with_branch (drop j ys) b
  passes ys k j a b e d t n inv =
      let w : with_branch (a ∷ drop (suc k) ys) b ≡ a ∷ with_branch (drop (suc k) ys) b =
      ap (λ (x : Bool). if x then b ∷ a ∷ drop (suc k) ys else a ∷ with_branch (drop (suc k) ys) b) n in
      subst (λ (m : ℕ). with_branch ys b ≡ take m ys ++ with_branch (drop m ys) b) e
      (inv ∙ ap (λ zs. take k ys ++ with_branch zs b) d ∙ ap (λ zs. take k ys ++ zs) w ∙ sym (append_assoc (take k ys) (a ∷ []) (with_branch (drop (suc k) ys) b))
      ∙ ap (λ zs. zs ++ with_branch (drop (suc k) ys) b) (sym t))

  pub stops : (ys : List (Branch S)) (k : ℕ) (a b : Branch S) → drop k ys ≡ a ∷ drop (suc k) ys → nat_lt a.arm.depth b.arm.depth ≡ true
      → with_branch ys b ≡ take k ys ++ with_branch (drop k ys) b → with_branch ys b ≡ take k ys ++ b ∷ drop k ys
  stops ys k a b d n inv =
      let w : with_branch (a ∷ drop (suc k) ys) b ≡ b ∷ a ∷ drop (suc k) ys =
      ap (λ (x : Bool). if x then b ∷ a ∷ drop (suc k) ys else a ∷ with_branch (drop (suc k) ys) b) n in
      inv ∙ ap (λ zs. take k ys ++ with_branch zs b) d ∙ ap (λ zs. take k ys ++ zs) w ∙ ap (λ zs. take k ys ++ b ∷ zs) (sym d)

  -- a branch that is put into the list
  pub put_in : (xs : List (declared_arm.Arm S)) (k : ℕ) (x : declared_arm.Arm S) → map branch_of (insert xs k x) ≡ take k (map branch_of xs) ++ branch_of x ∷ drop k (map branch_of xs)
  put_in xs zero x = refl
  put_in [] (suc k) x = refl
  put_in (y ∷ ys) (suc k) x = ap (λ zs. branch_of y ∷ zs) (put_in ys k x)

  -- if all branches satisfy `P`, and one more does, all with that one do
  pub all_put : (P : Branch S → Type 0) (bs : List (Branch S)) (b : Branch S) → AllByRecursion P bs → P b → AllByRecursion P (with_branch bs b)
  all_put P [] b h k = (k, tt)
  all_put P (a ∷ bs) b h k = by (nat_lt a.arm.depth b.arm.depth) (all_put P bs b h.1 k)
    where
      by : (t : Bool) → AllByRecursion P (with_branch bs b) → AllByRecursion P (if t then b ∷ a ∷ bs else a ∷ with_branch bs b)
      by true more = (k, h)
      by false more = (h.0, more)

  -- the lines of branches are put among lines
  pub arm_put : (bs : List (Branch S)) (b : Branch S) → with_arm (map (λ (x : Branch S). x.arm) bs) b.arm ≡ map (λ (x : Branch S). x.arm) (with_branch bs b)
  arm_put [] b = refl
  arm_put (a ∷ bs) b = by (nat_lt a.arm.depth b.arm.depth) (arm_put bs b)
    where
      by : (t : Bool) → with_arm (map (λ (x : Branch S). x.arm) bs) b.arm ≡ map (λ (x : Branch S). x.arm) (with_branch bs b)
          → (if t then b.arm ∷ a.arm ∷ map (λ (x : Branch S). x.arm) bs else a.arm ∷ with_arm (map (λ (x : Branch S). x.arm) bs) b.arm) ≡ map (λ (x : Branch S). x.arm) (if t then b ∷ a ∷ bs else a ∷ with_branch bs b)
      by true h = refl
      by false h = ap (λ (xs : List Arm). a.arm ∷ xs) h
