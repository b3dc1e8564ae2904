-- `Among` says that some assembly lines are a consecutive part of others. A part of joined lines, or the lines made for one element of a list, satisfy it.
use Rattle.std.proofs.Common.{◌≡◌, zero, suc, List, [], ◌∷◌, ◌++◌, flat_map, Contains, sym, ap, ◌∙◌, subst, arith, append_assoc, append-nil}
use Rattle.mips_isa.specs.Lines.{Line}

-- lines stand in others, after some and before some
pub record Among (all part : List Line) : Type 0 where
  pub front : List Line
  pub back : List Line
  pub split : all ≡ front ++ (part ++ back)

abbrev pub among_whole : (all : List Line) → Among all all
among_whole all = record { front = []; back = []; split = sym (append-nil all) }

abbrev pub among_left : (all xs ys : List Line) → Among all (xs ++ ys) → Among all xs
among_left all xs ys h = record { front = h.front; back = ys ++ h.back; split = h.split ∙ ap (λ (l : List Line). h.front ++ l) (append_assoc xs ys h.back) }

abbrev pub among_right : (all xs ys : List Line) → Among all (xs ++ ys) → Among all ys
among_right all xs ys h = record {
  front = h.front ++ xs;
  back = h.back;
  split = h.split ∙ (ap (λ (l : List Line). h.front ++ l) (append_assoc xs ys h.back) ∙ sym (append_assoc h.front xs (ys ++ h.back)));
}

abbrev pub among_later : (all : List Line) (line : Line) (rest : List Line) → Among all (line ∷ rest) → Among all rest
among_later all line rest h = among_right all (line ∷ []) rest h

pub among_flat : {X : Type 0} (all : List Line) (f : X → List Line) (xs : List X) (x : X) → Contains xs x → Among all (flat_map f xs) → Among all (f x)
among_flat all f [] x (k, l, e) h = absurd (omega arith)
among_flat all f (y ∷ ys) x (zero, l, e) h = subst (λ z. Among all (f z)) e (among_left all (f y) (flat_map f ys) h)
among_flat all f (y ∷ ys) x (suc k, l, e) h = among_flat all f ys x (k, omega arith, e) (among_right all (f y) (flat_map f ys) h)

-- a part of a part
pub among_within : (all part lines : List Line) → Among all part → Among part lines → Among all lines
among_within all part lines h k =
    let inner : part ++ h.back ≡ k.front ++ (lines ++ (k.back ++ h.back)) =
    ap (λ (l : List Line). l ++ h.back) k.split ∙ (append_assoc k.front (lines ++ k.back) h.back ∙ ap (λ (l : List Line). k.front ++ l) (append_assoc lines k.back h.back)) in
    record {
      front = h.front ++ k.front;
      back = k.back ++ h.back;
      split = h.split ∙ (ap (λ (l : List Line). h.front ++ l) inner ∙ sym (append_assoc h.front k.front (lines ++ (k.back ++ h.back))));
    }
