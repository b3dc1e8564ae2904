-- If two parts of a program each add (`Adds`) specified assembly lines and constants, then both, one after the other, add the joined lines and the constants of
-- both.
use Rattle.std.proofs.Common.{◌≡◌, ℕ, zero, suc, ◌+◌, ◌≤◌, ◌<◌, List, [], ◌∷◌, ◌++◌, length, flat_map, take, get_or}
use Rattle.std.proofs.Common.{Bool, true, false, ap, refl, sym, subst, ◌∙◌, arith, append_assoc, append-nil}
use native.Mathlib.Numerals.{add-one}
use Rattle.std.proofs.lemmas.Grind.{flat_map-append}
use Rattle.std.proofs.lemmas.List.{length-take-le}
use Rattle.mips_isa.specs.Lines.{Line}
use Rattle.cool_syntax.specs.declared.file_tree.Feature.{Feature}
use Rattle.cool_syntax.specs.declared.file_tree.Feature.TheVariants.{Attribute, Method}
use Rattle.cool_classes.specs.declared.class_id.ClassId.{ClassId}
use Rattle.cool_classes.specs.Chains.{Class, features_of}
use Rattle.cool_consts.specs.Constants.{Constants}
use Rattle.cool_codegen.specs.Asked.{Extends}
use Rattle.cool_codegen.specs.Numbered.{after}
use Rattle.cool_codegen.proofs.NumbersAgree.{after_both, extends_before}
use Rattle.cool_emit.specs.Additions.{Adds, belongs, integers_asked, part_of, strings_asked}
use Rattle.cool_emit.specs.declared.emission.Part.{Part}
use Rattle.cool_emit.specs.declared.emission.Part.TheVariants.{Attributes, Methods}
use Rattle.cool_emit.specs.Programs.{Placed, attributes_from, methods_from, placed_code}

-- the constants after a part extend those before it
pub extended : (files : List (List ℕ)) (fs : List Placed) (code : Constants → List Line) (a b g : Constants)
    (x y : List Line) → Adds files fs code a b x y → Extends b g → Extends a g
extended files fs code a b g x y h e =
    extends_before a g (integers_asked fs) (strings_asked files fs) (subst (λ (t : Constants). Extends t g) h.constants e)

-- one part after another
pub adds_both : (files : List (List ℕ)) (fs gs : List Placed) (code more : Constants → List Line) (a b c : Constants) (x y z : List Line)
    → Adds files fs code a b x y → Adds files gs more b c y z → Adds files (fs ++ gs) (λ g. code g ++ more g) a c x z
adds_both files fs gs code more a b c x y z h k = record {
  lines = λ g e.
      k.lines g e ∙ (ap (λ (ls : List Line). ls ++ more g) (h.lines g (extended files gs more b c g y z k e))
      ∙ append_assoc x (code g) (more g));
  constants =
      k.constants
      ∙ (ap (λ (t : Constants). after t (integers_asked gs) (strings_asked files gs)) h.constants
      ∙ (sym (after_both a (integers_asked fs) (integers_asked gs) (strings_asked files fs) (strings_asked files gs))
      ∙ sym (ap2 (flat_map-append _ fs gs) (flat_map-append _ fs gs))));
}
  where
    ap2 : {ns ms : List ℕ} {bs cs : List (List ℕ)} → ns ≡ ms → bs ≡ cs → after a ns bs ≡ after a ms cs
    ap2 e f = λ i. after a (e i) (f i)

-- the same code and the same features, said otherwise
pub adds_same : (files : List (List ℕ)) (fs gs : List Placed) (code other : Constants → List Line) (a b : Constants) (x y : List Line)
    → fs ≡ gs → ((g : Constants) → code g ≡ other g) → Adds files fs code a b x y → Adds files gs other a b x y
adds_same files fs gs code other a b x y e same h = record {
  lines = λ g more. h.lines g more ∙ ap (λ (ls : List Line). x ++ ls) (same g);
  constants = h.constants ∙ ap (λ (ps : List Placed). after a (integers_asked ps) (strings_asked files ps)) e;
}

-- the features of a part among features from a place on
abbrev pub part_from : Part → ℕ → List Feature → List Placed
part_from Attributes k fs = attributes_from k fs
part_from Methods k fs = methods_from k fs

-- a feature after others, where it belongs to the part
abbrev pub one_more : Bool → ℕ → Feature → List Placed
one_more true k x = record { place = k; feature = x } ∷ []
one_more false k x = []

pub part_more : (part : Part) (k : ℕ) (fs : List Feature) (n : ℕ) (x : Feature) → n ≡ k + length fs
    → part_from part k (fs ++ x ∷ []) ≡ part_from part k fs ++ one_more (belongs part x) n x
part_more Attributes k [] n (Method m) e = refl
part_more Attributes k [] n (Attribute a) e = let same : k ≡ n = omega arith in λ i. record { place = same i; feature = Attribute a } ∷ []
part_more Attributes k (Method m ∷ fs) n x e = part_more Attributes (k + 1) fs n x (omega arith)
part_more Attributes k (Attribute a ∷ fs) n x e =
    ap (λ (ps : List Placed). record { place = k; feature = Attribute a } ∷ ps)
    (part_more Attributes (k + 1) fs n x (omega arith))
part_more Methods k [] n (Attribute a) e = refl
part_more Methods k [] n (Method m) e = let same : k ≡ n = omega arith in λ i. record { place = same i; feature = Method m } ∷ []
part_more Methods k (Method m ∷ fs) n x e =
    ap (λ (ps : List Placed). record { place = k; feature = Method m } ∷ ps) (part_more Methods (k + 1) fs n x (omega arith))
part_more Methods k (Attribute a ∷ fs) n x e = part_more Methods (k + 1) fs n x (omega arith)

-- the front of items up to one, and that one
take_first : {X : Type 0} (xs : List X) (i : ℕ) (x : X) → i < length xs → x ≡ get_or xs i x → take (suc i) xs ≡ take i xs ++ x ∷ []
take_first [] i x less is = absurd (omega arith)
take_first (y ∷ ys) zero x less is = ap (λ z. z ∷ []) (sym is)
take_first (y ∷ ys) (suc i) x less is = ap (λ zs. y ∷ zs) (take_first ys i x (omega arith) is)

pub take_more : {X : Type 0} (xs : List X) (i : ℕ) (x : X) → i < length xs → x ≡ get_or xs i x → take (i + 1) xs ≡ take i xs ++ x ∷ []
take_more xs i x less is = subst (λ (j : ℕ). take j xs ≡ take i xs ++ x ∷ []) (sym (add-one i)) (take_first xs i x less is)

-- the code of features of a class
abbrev pub code_in : List Class → List (List ℕ) → ClassId → List Placed → Constants → List Line
code_in p files c fs g = flat_map (placed_code p files g c) fs

-- a feature of the part is added after others
pub one_belongs : (p : List Class) (files : List (List ℕ)) (c : ClassId) (part : Part) (fs : List Feature)
    (n : ℕ) (x : Feature) (a b d : Constants) (front middle behind : List Line)
    → belongs part x ≡ true → n ≡ length fs
    → Adds files (part_from part 0 fs) (code_in p files c (part_from part 0 fs)) a b front middle
    → Adds files (record { place = n; feature = x } ∷ [])
    (λ g. placed_code p files g c (record { place = n; feature = x })) b d middle behind
    → Adds files (part_from part 0 (fs ++ x ∷ [])) (code_in p files c (part_from part 0 (fs ++ x ∷ []))) a d front behind
one_belongs p files c part fs n x a b d front middle behind here last h k =
    let one : Placed = record { place = n; feature = x } in
    let before = part_from part 0 fs in
    let whole = part_from part 0 (fs ++ x ∷ []) in
    let code = code_in p files c before in
    let more : whole ≡ before ++ one ∷ [] =
    part_more part 0 fs n x (omega arith) ∙ ap (λ (t : Bool). before ++ one_more t n x) here in
    let both = adds_both files before (one ∷ []) code (λ g. placed_code p files g c one) a b d front middle behind h k in
    adds_same files (before ++ one ∷ []) whole (λ g. code g ++ placed_code p files g c one) (code_in p files c whole) a d front
    behind (sym more)
    (λ g. ap (λ (ls : List Line). code g ++ ls) (sym (append-nil (placed_code p files g c one)))
    ∙ (sym (flat_map-append (placed_code p files g c) before (one ∷ [])) ∙ ap (flat_map (placed_code p files g c)) (sym more)))
    both

-- any other is passed over
pub one_passed : (p : List Class) (files : List (List ℕ)) (c : ClassId) (part : Part) (fs : List Feature)
    (n : ℕ) (x : Feature) (a b : Constants) (front behind : List Line)
    → belongs part x ≡ false → n ≡ length fs
    → Adds files (part_from part 0 fs) (code_in p files c (part_from part 0 fs)) a b front behind
    → Adds files (part_from part 0 (fs ++ x ∷ [])) (code_in p files c (part_from part 0 (fs ++ x ∷ []))) a b front behind
one_passed p files c part fs n x a b front behind here last h =
    let before = part_from part 0 fs in
    let whole = part_from part 0 (fs ++ x ∷ []) in
    let same : before ≡ whole =
    sym (part_more part 0 fs n x (omega arith) ∙ (ap (λ (t : Bool). before ++ one_more t n x) here ∙ append-nil before)) in
    adds_same files before whole (code_in p files c before) (code_in p files c whole) a b front behind same
    (λ g. ap (flat_map (placed_code p files g c)) same) h

-- fronts
pub front_length : {X : Type 0} (xs : List X) (i : ℕ) → i < length xs → i ≡ length (take i xs)
front_length xs i less = sym (length-take-le i xs (omega arith))

pub whole_front : {X : Type 0} (xs : List X) (i : ℕ) → length xs ≤ i → take i xs ≡ xs
whole_front [] zero long = refl
whole_front [] (suc i) long = refl
whole_front (x ∷ xs) zero long = absurd (omega arith)
whole_front (x ∷ xs) (suc i) long = ap (λ ys. x ∷ ys) (whole_front xs i (omega arith))

-- the whole part
pub whole_part : (part : Part) (p : List Class) (c : ClassId) → part_from part 0 (features_of p c) ≡ part_of part p c
whole_part Attributes p c = refl
whole_part Methods p c = refl
