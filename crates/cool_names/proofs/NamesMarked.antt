-- There is a mark (a record of an occurrence of a name) at each identifier of a source text, and at nothing else. Trees are read from tokens by the rules of
-- the grammar, and the marks of each kind of tree are at its identifiers.
use Rattle.std.proofs.Common.{◌≡◌, ℕ, ◌+◌, ◌<◌, ◌≤◌, List, [], ◌∷◌, ◌++◌, map, Bool, true, false, ap, sym, ◌∙◌, refl, subst, append_assoc, append-nil, arith}
use Rattle.std.proofs.lemmas.List.{map-append}
use Rattle.std.proofs.lemmas.Bool.{eq-eqb, ne_eqb}
use Rattle.std.specs.Prelude.{codes, not, nat_eq, if◌then◌else◌}
use Rattle.std.specs.List.{AllByRecursion}
use Rattle.cool_syntax.specs.declared.place.Place.{Place}
use Rattle.cool_syntax.specs.declared.type_ref.TypeRef.{TypeRef}
use Rattle.cool_syntax.specs.declared.token.Token.{Token}
use Rattle.cool_syntax.specs.declared.token.Key.{Key}
use Rattle.cool_syntax.specs.declared.token.Key.TheVariants as key
use Rattle.cool_syntax.specs.declared.token.Sign.{Sign}
use Rattle.cool_syntax.specs.declared.token.Sign.TheVariants as sign
use Rattle.cool_syntax.specs.declared.file_tree.ClassDef.{ClassDef}
use Rattle.cool_syntax.specs.declared.file_tree.Feature.{Feature}
use Rattle.cool_syntax.specs.declared.file_tree.FileTree.{FileTree}
use Rattle.cool_syntax.specs.declared.file_tree.Formal.{Formal}
use Rattle.cool_syntax.specs.Tree.{Tree, Trees, Cases, Last, More, NoCase, place_of}
use Rattle.cool_syntax.specs.Tree as trees
use Rattle.cool_syntax.specs.ConcreteTrees.{Arith, Compare, Not, IsVoid, Neg, Int, Str, Truth, Concrete, Name, Literal, New, Paren, Dispatch, If, While, Block, Case, Binary, Before, Callee, OfSelf, Of, OfClass, Args, NoArgs, Given, Parts, NoPart, Then, Branches, NoBranch, Also, Branch, On, Prefix, Let, Assign, Mark, Bindings, NoBinding, Next, Binding, Default, Init, FirstFormals, NoFormal, Comma, Formals, NoFormals, Declared, ConcreteFeature, Method, Attribute, Initialized, Features, NoFeature, Another, Parent, NoParent, Inherits, Heading, Classes, NoClass, Class}
use Rattle.cool_syntax.specs.Readings.{word, symbol, object, type, reading, callee_reading, args_reading, parts_reading, branches_reading, branch_reading, prefix_reading, bindings_reading, binding_reading, first_formals_reading, formals_reading, feature_reading, features_reading, parent_reading, heading_reading, file_reading}
use Rattle.cool_syntax.specs.PlainTrees.{plain, plain_call, plain_args, plain_parts, plain_branches, plain_branch, plain_prefix, plain_bindings, plain_binding, plain_formal, plain_first_formals, plain_formals, plain_feature, plain_features, plain_parent, plain_class, plain_file}
use Rattle.cool_syntax.specs.LexicalStructure.{Lexes}
use Rattle.cool_syntax.specs.TokenFacts.{AreRising}
use Rattle.cool_lexer.proofs.LexemesKeepLimits.{rising}
use Rattle.cool_classes.specs.Chains as chains
use Rattle.cool_classes.specs.Chains.{class_number}
use Rattle.cool_classes.specs.Definitions.{definitions}
use Rattle.lists.proofs.AllItems.{all_left, all_right, all_then}
use Rattle.cool_names.specs.declared.mark.Mark as marks
use Rattle.cool_names.specs.declared.mark.Meaning.{Meaning}
use Rattle.cool_names.specs.declared.mark.Role.{Role}
use Rattle.cool_names.specs.Marks.{Context, is_written, mark, marks_of, marks_of_all, marks_of_cases, with_variable}
use Rattle.cool_names.specs.Programs.{class_context, class_marks, feature_marks, features_marks, formals_in_scope, formals_marks, marks_from, parent_marks}
use Rattle.cool_rules.specs.Scopes.{Bound}
use Rattle.cool_names.specs.Scopes.{Variable}
use Rattle.cool_names.specs.WrittenNames.{AreFileNames, AreProgramNames, AreRead, Spot, names_in, names_of, spot_of}

-- Tokens in rising places

rising_left : (file low : ℕ) (ts us : List Token) → AreRising file low (ts ++ us) → AreRising file low ts
rising_left file low [] us h = tt
rising_left file low (t ∷ ts) us h = (h.0, h.1, rising_left file (t.at.byte + 1) ts us h.2)

rising_right : (file low : ℕ) (ts us : List Token) → AreRising file low (ts ++ us) → (next : ℕ) × AreRising file next us
rising_right file low [] us h = (low, h)
rising_right file low (t ∷ ts) us h = rising_right file (t.at.byte + 1) ts us h.2

-- the tokens stand before a byte
abbrev AreBefore : ℕ → List Token → Type 0
AreBefore byte = AllByRecursion (λ (t : Token). t.at.byte < byte)

-- the first byte from which a token may stand is that of the token or lies before it
low_before : (file low : ℕ) (ts : List Token) (u : Token) (us : List Token) → AreRising file low (ts ++ u ∷ us) → low ≤ u.at.byte
low_before file low [] u us h = h.1
low_before file low (t ∷ ts) u us h =
    let later : t.at.byte + 1 ≤ u.at.byte = low_before file (t.at.byte + 1) ts u us h.2 in
    let first : low ≤ t.at.byte = h.1 in
    omega (arith, later, first)

-- tokens stand before one that comes after them
before_later : (file low : ℕ) (ts : List Token) (u : Token) (us : List Token) → AreRising file low (ts ++ u ∷ us) → AreBefore u.at.byte ts
before_later file low [] u us h = tt
before_later file low (t ∷ ts) u us h =
    let later : t.at.byte + 1 ≤ u.at.byte = low_before file (t.at.byte + 1) ts u us h.2 in
    (omega (arith, later), before_later file (t.at.byte + 1) ts u us h.2)

before_left : (byte : ℕ) (ts us : List Token) → AreBefore byte (ts ++ us) → AreBefore byte ts
before_left byte = all_left (λ (t : Token). t.at.byte < byte)

before_right : (byte : ℕ) (ts us : List Token) → AreBefore byte (ts ++ us) → AreBefore byte us
before_right byte = all_right (λ (t : Token). t.at.byte < byte)

-- An expression's place is that of one of its tokens

binding_before : (byte : ℕ) (b : Binding) (t : Tree) → AreBefore byte (binding_reading b) → (place_of (plain_binding b t)).byte < byte
binding_before byte (Default v) t h = h.0
binding_before byte (Init v arrow e) t h = h.0

bindings_before : (byte : ℕ) (firsts : Bindings) (t : Tree) → AreBefore byte (bindings_reading firsts) → (place_of t).byte < byte → (place_of (plain_bindings firsts t)).byte < byte
bindings_before byte NoBinding t h k = k
bindings_before byte (Next before b comma) t h k =
    let both = before_left byte (bindings_reading before ++ binding_reading b) (symbol sign.Comma comma ∷ []) h in
    bindings_before byte before (plain_binding b t) (before_left byte (bindings_reading before) (binding_reading b) both) (binding_before byte b t (before_right byte (bindings_reading before) (binding_reading b) both))

callee_before : (byte : ℕ) (callee : Callee) (ts : Trees) → AreBefore byte (callee_reading callee) → (place_of (plain_call callee ts)).byte < byte
callee_before byte (OfSelf name at) ts h = h.0
callee_before byte (Of receiver dot name at) ts h = (before_right byte (reading receiver) (symbol sign.Dot dot ∷ object name at ∷ []) h).1.0
callee_before byte (OfClass receiver sign_at class dot name at) ts h =
    (before_right byte (reading receiver) (symbol sign.At sign_at ∷ type class ∷ symbol sign.Dot dot ∷ object name at ∷ []) h).1.1.1.0

place_before : (byte : ℕ) (e : Concrete) → AreBefore byte (reading e) → (place_of (plain e)).byte < byte
place_before byte (Literal (Truth true) at) h = h.0
place_before byte (Paren lparen e rparen) h = place_before byte e (before_left byte (reading e) (symbol sign.RParen rparen ∷ []) h.1)
place_before byte (Dispatch callee lparen args rparen) h =
    callee_before byte callee (plain_args args) (before_left byte (callee_reading callee) (symbol sign.LParen lparen ∷ args_reading args)
    (before_left byte (callee_reading callee ++ symbol sign.LParen lparen ∷ args_reading args) (symbol sign.RParen rparen ∷ []) h))
place_before byte (Binary left (Arith op) at right) h = (before_right byte (reading left) (_ ∷ reading right) h).0
place_before byte (Binary left (Compare op) at right) h = (before_right byte (reading left) (_ ∷ reading right) h).0
place_before byte (Before (Let at firsts last within) e) h =
    let inner = before_left byte (bindings_reading firsts ++ binding_reading last) (word key.In within ∷ []) (before_left byte (bindings_reading firsts ++ binding_reading last ++ word key.In within ∷ []) (reading e) h.1) in
    bindings_before byte firsts (plain_binding last (plain e)) (before_left byte (bindings_reading firsts) (binding_reading last) inner) (binding_before byte last (plain e) (before_right byte (bindings_reading firsts) (binding_reading last) inner))
place_before byte (Before (Mark Not at) e) h = h.0
place_before byte _ h = h.0

-- Marks that stand at the names of tokens

names_both : (ts us : List Token) → names_in (ts ++ us) ≡ names_in ts ++ names_in us
names_both [] us = refl
names_both (t ∷ ts) us = ap (λ (ns : List Spot). names_of t.kind t.at ++ ns) (names_both ts us) ∙ sym (append_assoc (names_of t.kind t.at) (names_in ts) (names_in us))

-- If the tokens stand in rising places, the marks stand at their names.
record Covers (ms : List marks.Mark) (ts : List Token) : Type 0 where
  same : (file low : ℕ) → AreRising file low ts → map spot_of ms ≡ names_in ts

nothing : Covers [] []
nothing = record { same = λ file low h. refl }

-- one after the other
both : {ms ns : List marks.Mark} {ts us : List Token} → Covers ms ts → Covers ns us → Covers (ms ++ ns) (ts ++ us)
both {ms} {ns} {ts} {us} c d = record {
  same = λ file low h.
      let right = rising_right file low ts us h in
      map-append spot_of ms ns ∙ (λ i. c.same file low (rising_left file low ts us h) i ++ d.same file right.0 right.1 i) ∙ sym (names_both ts us);
}

-- tokens after it that are no names
ended : {ms : List marks.Mark} {ts : List Token} (us : List Token) → names_in us ≡ [] → Covers ms ts → Covers ms (ts ++ us)
ended {ms} {ts} us none c = record {
  same = λ file low h.
      c.same file low (rising_left file low ts us h) ∙ sym (append-nil (names_in ts)) ∙ ap (λ (ns : List Spot). names_in ts ++ ns) (sym none) ∙ sym (names_both ts us);
}

-- a token before it that is no name
after_token : {ms : List marks.Mark} {ts : List Token} (t : Token) → names_of t.kind t.at ≡ [] → Covers ms ts → Covers ms (t ∷ ts)
after_token {ms} {ts} t none c = record { same = λ file low h. c.same file (t.at.byte + 1) h.2 ∙ ap (λ (ns : List Spot). ns ++ names_in ts) (sym none) }

after_word : {ms : List marks.Mark} {ts : List Token} {k : Key} {at : Place} → Covers ms ts → Covers ms (word k at ∷ ts)
after_word {ms} {ts} {k} {at} c = after_token (word k at) refl c

after_sign : {ms : List marks.Mark} {ts : List Token} {s : Sign} {at : Place} → Covers ms ts → Covers ms (symbol s at ∷ ts)
after_sign {ms} {ts} {s} {at} c = after_token (symbol s at) refl c

-- a mark at a name before it
after_object : {ms : List marks.Mark} {ts : List Token} {at : Place} {name : List ℕ} {kind : Role} {meaning : Meaning} → Covers ms ts → Covers (mark at kind name meaning ∷ ms) (object name at ∷ ts)
after_object {ms} {ts} {at} {name} {kind} {meaning} c = record { same = λ file low h. ap (λ (ns : List Spot). spot_of (mark at kind name meaning) ∷ ns) (c.same file (at.byte + 1) h.2) }

after_type : {ms : List marks.Mark} {ts : List Token} {r : TypeRef} {kind : Role} {meaning : Meaning} → Covers ms ts → Covers (mark r.at kind r.name meaning ∷ ms) (type r ∷ ts)
after_type {ms} {ts} {r} {kind} {meaning} c = record { same = λ file low h. ap (λ (ns : List Spot). spot_of (mark r.at kind r.name meaning) ∷ ns) (c.same file (r.at.byte + 1) h.2) }

-- the same marks and tokens in other brackets
with_tokens : {ms : List marks.Mark} {ts us : List Token} → ts ≡ us → Covers ms us → Covers ms ts
with_tokens {ms} {ts} {us} e c = subst (Covers ms) (sym e) c

with_marks : {ms ns : List marks.Mark} {ts : List Token} → ms ≡ ns → Covers ns ts → Covers ms ts
with_marks {ms} {ns} {ts} e c = subst (λ (os : List marks.Mark). Covers os ts) (sym e) c

four : (a b c d : List Token) → ((a ++ b) ++ c) ++ d ≡ a ++ (b ++ (c ++ d))
four a b c d = simp append_assoc

five : (a b c d e : List Token) → (((a ++ b) ++ c) ++ d) ++ e ≡ a ++ ((b ++ (c ++ d)) ++ e)
five a b c d e = simp append_assoc

-- Receivers

not_equal : (m n : ℕ) → m < n → nat_eq m n ≡ false
not_equal m n less = ne_eqb m n (λ same. omega (arith, less, same))

-- a receiver that the text has
of_receiver : {ms ns : List marks.Mark} {ts : List Token} (e : Concrete) (dot at : Place) (name : List ℕ) → Covers ms (reading e) → Covers ns (object name at ∷ ts)
    → Covers ((if is_written at (plain e) then ms else []) ++ ns) ((reading e ++ symbol sign.Dot dot ∷ object name at ∷ []) ++ ts)
of_receiver {ms} {ns} {ts} e dot at name c d =
    with_tokens (append_assoc (reading e) (symbol sign.Dot dot ∷ object name at ∷ []) ts)
    (record { same = λ file low h. (by (is_written at (plain e)) (written file low h)).same file low h })
  where
    us : List Token
    us = symbol sign.Dot dot ∷ object name at ∷ ts

    whole : Covers (ms ++ ns) (reading e ++ us)
    whole = both c (after_sign d)

    by : (b : Bool) → b ≡ true → Covers ((if b then ms else []) ++ ns) (reading e ++ us)
    by true is = whole
    by false is = absurd (cc)

    written : (file low : ℕ) → AreRising file low (reading e ++ us) → is_written at (plain e) ≡ true
    written file low h =
        let early = before_later file low (reading e) (symbol sign.Dot dot) (object name at ∷ ts) h in
        let right = rising_right file low (reading e) us h in
        let later : dot.byte + 1 ≤ at.byte = right.1.2.1 in
        ap not (not_equal (place_of (plain e)).byte at.byte
        (place_before at.byte e (all_then (λ (t : Token). t.at.byte < dot.byte) (λ (t : Token). t.at.byte < at.byte) (reading e) (λ t less. let l : t.at.byte < dot.byte = less in omega (arith, l, later)) early)))

-- a receiver that the text leaves out
of_self : {ns : List marks.Mark} {ts : List Token} (at : Place) (name : List ℕ) (ms : List marks.Mark) → Covers ns (object name at ∷ ts)
    → Covers ((if is_written at (trees.Id at (codes "self")) then ms else []) ++ ns) (object name at ∷ ts)
of_self {ns} {ts} at name ms d =
    let same : nat_eq at.byte at.byte ≡ true = eq-eqb at.byte at.byte refl in
    with_marks (ap (λ (b : Bool). (if not b then ms else []) ++ ns) same) d

-- Expressions

module _ (s : Context) where
  mutual
    marked : (scope : List (Bound Variable)) (e : Concrete) → Covers (marks_of s scope (plain e)) (reading e)
    marked scope (Name name at) = after_object nothing
    marked scope (Literal (Int value) at) = after_token _ refl nothing
    marked scope (Literal (Str bytes) at) = after_token _ refl nothing
    marked scope (Literal (Truth true) at) = after_word nothing
    marked scope (Literal (Truth false) at) = after_word nothing
    marked scope (New at class) = after_word (after_type nothing)
    marked scope (Paren lparen e rparen) = after_sign (ended (symbol sign.RParen rparen ∷ []) refl (marked scope e))
    marked scope (Dispatch callee lparen args rparen) =
        ended (symbol sign.RParen rparen ∷ []) refl (marked_call scope callee (plain_args args) (symbol sign.LParen lparen ∷ args_reading args) (after_sign (marked_args scope args)))
    marked scope (If at test then_at met else_at unmet fi) =
        after_word (ended (word key.Fi fi ∷ []) refl (with_tokens (append_assoc (reading test) (word key.Then then_at ∷ reading met) (word key.Else else_at ∷ reading unmet))
        (both (marked scope test) (after_word (both (marked scope met) (after_word (marked scope unmet)))))))
    marked scope (While at test loop body pool) = after_word (ended (word key.Pool pool ∷ []) refl (both (marked scope test) (after_word (marked scope body))))
    marked scope (Block lbrace firsts last semi rbrace) =
        after_sign (ended (symbol sign.Semi semi ∷ symbol sign.RBrace rbrace ∷ []) refl
        (marked_parts scope sign.Semi firsts (More (plain last) Last) (reading last) (with_marks (append-nil (marks_of s scope (plain last))) (marked scope last))))
    marked scope (Case at value of firsts last esac) =
        after_word (ended (word key.Esac esac ∷ []) refl (with_tokens (append_assoc (reading value) (word key.Of of ∷ branches_reading firsts) (branch_reading last))
        (both (marked scope value) (after_word (marked_branches scope firsts (plain_branch last NoCase) (branch_reading last)
        (with_tokens (sym (append-nil (branch_reading last))) (marked_branch scope last NoCase [] nothing)))))))
    marked scope (Binary left (Arith op) at right) = both (marked scope left) (after_sign (marked scope right))
    marked scope (Binary left (Compare op) at right) = both (marked scope left) (after_sign (marked scope right))
    marked scope (Before prefix e) = marked_prefix scope prefix (plain e) (reading e) (λ within. marked within e)

    marked_call : (scope : List (Bound Variable)) (callee : Callee) (args : Trees) (ts : List Token) → Covers (marks_of_all s scope args) ts → Covers (marks_of s scope (plain_call callee args)) (callee_reading callee ++ ts)
    marked_call scope (OfSelf name at) args ts c = of_self at name (marks_of s scope (trees.Id at (codes "self"))) (after_object c)
    marked_call scope (Of receiver dot name at) args ts c = of_receiver receiver dot at name (marked scope receiver) (after_object c)
    marked_call scope (OfClass receiver sign_at class dot name at) args ts c =
        with_tokens (append_assoc (reading receiver) (symbol sign.At sign_at ∷ type class ∷ symbol sign.Dot dot ∷ object name at ∷ []) ts)
        (both (marked scope receiver) (after_sign (after_type (after_sign (after_object c)))))

    marked_args : (scope : List (Bound Variable)) (args : Args) → Covers (marks_of_all s scope (plain_args args)) (args_reading args)
    marked_args scope NoArgs = nothing
    marked_args scope (Given firsts last) =
        marked_parts scope sign.Comma firsts (More (plain last) Last) (reading last) (with_marks (append-nil (marks_of s scope (plain last))) (marked scope last))

    marked_parts : (scope : List (Bound Variable)) (separator : Sign) (firsts : Parts) (rest : Trees) (ts : List Token) → Covers (marks_of_all s scope rest) ts
        → Covers (marks_of_all s scope (plain_parts firsts rest)) (parts_reading separator firsts ++ ts)
    marked_parts scope separator NoPart rest ts c = c
    marked_parts scope separator (Then before e at) rest ts c =
        with_tokens (four (parts_reading separator before) (reading e) (symbol separator at ∷ []) ts)
        (marked_parts scope separator before (More (plain e) rest) (reading e ++ symbol separator at ∷ ts) (both (marked scope e) (after_sign c)))

    marked_branches : (scope : List (Bound Variable)) (firsts : Branches) (rest : Cases) (ts : List Token) → Covers (marks_of_cases s scope rest) ts
        → Covers (marks_of_cases s scope (plain_branches firsts rest)) (branches_reading firsts ++ ts)
    marked_branches scope NoBranch rest ts c = c
    marked_branches scope (Also before branch) rest ts c =
        with_tokens (append_assoc (branches_reading before) (branch_reading branch) ts)
        (marked_branches scope before (plain_branch branch rest) (branch_reading branch ++ ts) (marked_branch scope branch rest ts c))

    marked_branch : (scope : List (Bound Variable)) (branch : Branch) (rest : Cases) (ts : List Token) → Covers (marks_of_cases s scope rest) ts
        → Covers (marks_of_cases s scope (plain_branch branch rest)) (branch_reading branch ++ ts)
    marked_branch scope (On v arrow body semi) rest ts c =
        after_object (after_sign (after_type (after_sign (with_tokens (append_assoc (reading body) (symbol sign.Semi semi ∷ []) ts)
        (both (marked (with_variable v.name v.declared v.at scope) body) (after_sign c))))))

    marked_prefix : (scope : List (Bound Variable)) (prefix : Prefix) (t : Tree) (ts : List Token) → ((within : List (Bound Variable)) → Covers (marks_of s within t) ts)
        → Covers (marks_of s scope (plain_prefix prefix t)) (prefix_reading prefix ++ ts)
    marked_prefix scope (Let at firsts last within) t ts c =
        after_word (with_tokens (four (bindings_reading firsts) (binding_reading last) (word key.In within ∷ []) ts)
        (marked_bindings scope firsts (plain_binding last t) (binding_reading last ++ word key.In within ∷ ts) (λ outer. marked_binding outer last t (word key.In within ∷ ts) (λ within. after_word (c within)))))
    marked_prefix scope (Assign name at arrow) t ts c = after_object (after_sign (c scope))
    marked_prefix scope (Mark Not at) t ts c = after_word (c scope)
    marked_prefix scope (Mark IsVoid at) t ts c = after_word (c scope)
    marked_prefix scope (Mark Neg at) t ts c = after_sign (c scope)

    marked_bindings : (scope : List (Bound Variable)) (firsts : Bindings) (t : Tree) (ts : List Token) → ((within : List (Bound Variable)) → Covers (marks_of s within t) ts)
        → Covers (marks_of s scope (plain_bindings firsts t)) (bindings_reading firsts ++ ts)
    marked_bindings scope NoBinding t ts c = c scope
    marked_bindings scope (Next before binding comma) t ts c =
        with_tokens (four (bindings_reading before) (binding_reading binding) (symbol sign.Comma comma ∷ []) ts)
        (marked_bindings scope before (plain_binding binding t) (binding_reading binding ++ symbol sign.Comma comma ∷ ts)
        (λ outer. marked_binding outer binding t (symbol sign.Comma comma ∷ ts) (λ within. after_sign (c within))))

    marked_binding : (scope : List (Bound Variable)) (binding : Binding) (t : Tree) (ts : List Token) → ((within : List (Bound Variable)) → Covers (marks_of s within t) ts)
        → Covers (marks_of s scope (plain_binding binding t)) (binding_reading binding ++ ts)
    marked_binding scope (Default v) t ts c = after_object (after_sign (after_type (c (with_variable v.name v.declared v.at scope))))
    marked_binding scope (Init v arrow e) t ts c =
        after_object (after_sign (after_type (after_sign (both (marked scope e) (c (with_variable v.name v.declared v.at scope))))))

  -- Features

  marked_firsts : (firsts : FirstFormals) (rest : List Formal) (ts : List Token) → Covers (formals_marks s.table s.definitions rest) ts
      → Covers (formals_marks s.table s.definitions (plain_first_formals firsts ++ rest)) (first_formals_reading firsts ++ ts)
  marked_firsts NoFormal rest ts c = c
  marked_firsts (Comma before v comma) rest ts c =
      with_marks (ap (λ (fs : List Formal). formals_marks s.table s.definitions fs) (append_assoc (plain_first_formals before) (plain_formal v ∷ []) rest))
      (with_tokens (four (first_formals_reading before) (object v.name v.at ∷ symbol sign.Colon v.colon ∷ type v.declared ∷ []) (symbol sign.Comma comma ∷ []) ts)
      (marked_firsts before (plain_formal v ∷ rest) (object v.name v.at ∷ symbol sign.Colon v.colon ∷ type v.declared ∷ symbol sign.Comma comma ∷ ts)
      (after_object (after_sign (after_type (after_sign c))))))

  marked_formals : (formals : Formals) → Covers (formals_marks s.table s.definitions (plain_formals formals)) (formals_reading formals)
  marked_formals NoFormals = nothing
  marked_formals (Declared firsts last) =
      marked_firsts firsts (plain_formal last ∷ []) (object last.name last.at ∷ symbol sign.Colon last.colon ∷ type last.declared ∷ []) (after_object (after_sign (after_type nothing)))

  marked_feature : (feature : ConcreteFeature) → Covers (feature_marks s (plain_feature feature)) (feature_reading feature)
  marked_feature (Method g body rbrace semi) =
      after_object (after_sign (ended (symbol sign.RBrace rbrace ∷ symbol sign.Semi semi ∷ []) refl (with_tokens
      (append_assoc (formals_reading g.formals) (symbol sign.RParen g.rparen ∷ symbol sign.Colon g.colon ∷ type g.result ∷ symbol sign.LBrace g.lbrace ∷ []) (reading body))
      (both (marked_formals g.formals) (after_sign (after_sign (after_type (after_sign (marked (formals_in_scope (plain_formals g.formals)) body)))))))))
  marked_feature (Attribute v semi) = after_object (after_sign (after_type (after_sign nothing)))
  marked_feature (Initialized v arrow e semi) = after_object (after_sign (after_type (after_sign (ended (symbol sign.Semi semi ∷ []) refl (marked [] e)))))

  marked_features : (features : Features) (rest : List Feature) (ts : List Token) → Covers (features_marks s rest) ts → Covers (features_marks s (plain_features features ++ rest)) (features_reading features ++ ts)
  marked_features NoFeature rest ts c = c
  marked_features (Another before feature) rest ts c =
      with_marks (ap (λ (fs : List Feature). features_marks s fs) (append_assoc (plain_features before) (plain_feature feature ∷ []) rest))
      (with_tokens (append_assoc (features_reading before) (feature_reading feature) ts)
      (marked_features before (plain_feature feature ∷ rest) (feature_reading feature ++ ts) (both (marked_feature feature) c)))

-- Classes

module _ (p : List chains.Class) (all : List ClassDef) where
  marked_parent : (parent : Parent) → Covers (parent_marks p all (plain_parent parent)) (parent_reading parent)
  marked_parent NoParent = nothing
  marked_parent (Inherits at class) = after_word (after_type nothing)

  marked_class : (number : ℕ) (h : Heading) (features : Features) (rbrace semi : Place)
      → Covers (class_marks p all number (plain_class h features)) (heading_reading h ++ (features_reading features ++ symbol sign.RBrace rbrace ∷ symbol sign.Semi semi ∷ []))
  marked_class number h features rbrace semi =
      after_word (after_type (with_tokens (append_assoc (parent_reading h.parent) (symbol sign.LBrace h.lbrace ∷ []) (features_reading features ++ symbol sign.RBrace rbrace ∷ symbol sign.Semi semi ∷ []))
      (both (marked_parent h.parent) (after_sign (with_marks (ap (λ (fs : List Feature). features_marks s fs) (sym (append-nil (plain_features features))))
      (marked_features s features [] (symbol sign.RBrace rbrace ∷ symbol sign.Semi semi ∷ []) (after_sign (after_sign nothing))))))))
    where
      s : Context
      s = class_context p all (class_number number)

  marked_file : (file : Classes) (number : ℕ) (rest : List ClassDef) (ts : List Token) → ((later : ℕ) → Covers (marks_from p all later rest) ts)
      → Covers (marks_from p all number (plain_file file ++ rest)) (file_reading file ++ ts)
  marked_file NoClass number rest ts c = c number
  marked_file (Class before h features rbrace semi) number rest ts c =
      with_marks (ap (λ (ds : List ClassDef). marks_from p all number ds) (append_assoc (plain_file before) (plain_class h features ∷ []) rest))
      (with_tokens (five (file_reading before) (heading_reading h) (features_reading features) (symbol sign.RBrace rbrace ∷ symbol sign.Semi semi ∷ []) ts)
      (marked_file before number (plain_class h features ∷ rest) ((heading_reading h ++ (features_reading features ++ symbol sign.RBrace rbrace ∷ symbol sign.Semi semi ∷ [])) ++ ts)
      (λ later. both (marked_class later h features rbrace semi) (c (later + 1)))))

  marked_alone : (file : Classes) (number : ℕ) → Covers (marks_from p all number (plain_file file)) (file_reading file)
  marked_alone file number =
      with_marks (ap (λ (ds : List ClassDef). marks_from p all number ds) (sym (append-nil (plain_file file))))
      (with_tokens (sym (append-nil (file_reading file))) (marked_file file number [] [] (λ later. nothing)))

  -- the marks of classes are followed by those of the classes after them
  marks_both : (ds es : List ClassDef) (number : ℕ) → (later : ℕ) × (marks_from p all number (ds ++ es) ≡ marks_from p all number ds ++ marks_from p all later es)
  marks_both [] es number = (number, refl)
  marks_both (d ∷ ds) es number =
      let more = marks_both ds es (number + 1) in
      (more.0, ap (λ (ms : List marks.Mark). class_marks p all number d ++ ms) more.1 ∙ sym (append_assoc (class_marks p all number d) (marks_from p all (number + 1) ds) (marks_from p all more.0 es)))

-- Files

-- the tokens of a file stand in rising places
lexed_rising : (file : ℕ) (bytes : List ℕ) (tokens : List Token) → Lexes file bytes tokens → AreRising file 0 tokens
lexed_rising file bytes tokens lexes = subst (AreRising file 0) (sym lexes.lexemes) (rising file bytes 0 0 bytes lexes.items _ _ (omega arith) lexes.leads)

pub file_names : AreFileNames
file_names p all number file bytes tokens classes lexes (concrete, shaped, reads, plains) =
    subst (λ (ds : List ClassDef). map spot_of (marks_from p all number ds) ≡ names_in tokens) plains
    ((with_tokens (sym reads) (marked_alone p all concrete number)).same file 0 (lexed_rising file bytes tokens lexes))

files_names : (p : List chains.Class) (all : List ClassDef) (number file : ℕ) (texts : List (List ℕ)) (tokens : List Token) (trees : List FileTree)
    → AreRead file texts tokens trees → map spot_of (marks_from p all number (definitions trees)) ≡ names_in tokens
files_names p all number file texts tokens trees (AreRead.none at) = refl
files_names p all number file texts tokens trees (AreRead.and_more at bytes more_texts first more tree more_trees lexes parses read) =
    let both = marks_both p all tree.classes (definitions more_trees) number in
    ap (λ (ms : List marks.Mark). map spot_of ms) both.1
    ∙ map-append spot_of (marks_from p all number tree.classes) (marks_from p all both.0 (definitions more_trees))
    ∙ (λ i. file_names p all number file bytes first tree.classes lexes parses i ++ files_names p all both.0 (file + 1) more_texts more more_trees read i)
    ∙ sym (names_both first more)

pub program_names : AreProgramNames
program_names p texts tokens trees read = files_names p (definitions trees) 5 0 texts tokens trees read
