-- `bound_type` makes the checks of the variable of a `let` in the order of its specification in `FirstFaults.antt`: first the name, then the declared type,
-- then the initial value.
use Rattle.std.proofs.Common.{refl, sym, rules}
use Rattle.cool_check.proofs.binding.bound_type.Goals as goal

pub returns-then-is_self : goal.returns-then-is_self
returns-then-is_self c = record {
  good = search rules;
  typed = search rules;
  first = simp (c.at.ensures, sym c.is_self.ensures, c.if-is_self.true) refl;
  places = search rules;
}

pub returns-in_default : goal.returns-in_default
returns-in_default c = record {
  good = search rules;
  typed = search rules;
  first = simp (c.at-in_default.ensures, sym c.is_self.ensures, c.if-is_self.false, sym c.type_named.ensures.named, c.in_default.is) refl;
  places = search rules;
}

pub returns-in-Some-given : goal.returns-in-Some-given
returns-in-Some-given c = record {
  good = search rules;
  typed = search rules;
  first = simp (c.unfit.ensures, sym c.is_self.ensures, c.if-is_self.false, sym c.type_named.ensures.named, c.in-Some.is, c.in-Some-given.is, sym c.conforms.ensures, c.if-not-conforms.true) refl;
  places = search rules;
}

pub returns-in_default-given : goal.returns-in_default-given
returns-in_default-given c = record {
  good = search rules;
  typed = simp (sym c.is_self.ensures, c.if-is_self.false, sym c.type_named.ensures.named, c.in-Some.is, c.in-Some-given.is, sym c.conforms.ensures, c.if-not-conforms.false) refl;
  first = search rules;
  places = search rules;
}

pub returns-in_default-given-2 : goal.returns-in_default-given-2
returns-in_default-given-2 c = record {
  good = search rules;
  typed = simp (sym c.is_self.ensures, c.if-is_self.false, sym c.type_named.ensures.named, c.in-Some.is, c.in_default-given.is) refl;
  first = search rules;
  places = search rules;
}
