-- The parser returns the classes that the grammar gives to a file's tokens, or the first syntax error that the grammar defines.
use Rattle.std.proofs.Common.{◌≡◌, List, [], ◌∷◌, ◌++◌, refl, ap, sym, subst, ◌∙◌, append_assoc, append-nil, Option, Some, None, IfSome, inl, inr}
use Rattle.std.specs.Option.{option_map}
use Rattle.cool_syntax.specs.declared.place.Place.{Place}
use Rattle.cool_syntax.specs.declared.token.Token.{Token}
use Rattle.cool_syntax.specs.declared.file_tree.ClassDef.{ClassDef}
use Rattle.cool_syntax.specs.ConcreteTrees.{Classes}
use Rattle.cool_syntax.specs.PlainTrees.{plain_file}
use Rattle.cool_syntax.specs.Bare.{nowhere}
use Rattle.cool_syntax.specs.Grammar.{Parses, BeginsFile, IsUnexpected}
use Rattle.cool_parser.specs.declared.fault.ParseError.{ParseError}
use Rattle.cool_parser.specs.declared.fault.ParseError.TheVariants.{Memory, Fault}
use Rattle.cool_parser.specs.Answers.{IsFault, IsFaultAt, IsOutcome}
use Rattle.cool_parser.specs.Laws.{HasTree}
use Rattle.cool_parser.specs.ParsingMachine as machine
use Rattle.cool_parser.specs.ParsingMachine.{Outcome, Whole, Unexpected, outcome, parsed}
use Rattle.cool_parser.proofs.ConcreteMachine.{State, File, Inside}
use Rattle.cool_parser.proofs.ConcreteMachine.{Need, Identifier, Have, StaticClass, StaticEnd, MethodName, Dot, StaticDot}
use Rattle.cool_parser.proofs.ConcreteMachine.{step, run, bind, start, finish}
use Rattle.cool_parser.proofs.ParsedTreesAreShaped.{said, IsGoodState, run_goes}
use Rattle.cool_parser.proofs.NodesOfConcreteTrees.{shown}
use Rattle.cool_parser.proofs.StepsOverConcreteTrees.{step_shown}
use Rattle.cool_parser.proofs.PrefixesOfFiles.{viable, run_append, refused, parsed_file}
use Rattle.cool_parser.proofs.ParsingAFile.{any_place}

-- The end of a file

-- the outcome of a state at the end, by the file that it is
abbrev ended : Option Classes → Place → Outcome
ended (Some cs) end = Whole (plain_file cs)
ended None end = Unexpected end

-- both machines end only between classes
finish_shown : (s : State) (end : Place) → machine.finish (shown s).context (shown s).mode end ≡ ended (finish s) end
finish_shown (Inside a st (MethodName (Dot t dot))) end = refl
finish_shown _ end = refl

-- a state that is a whole file is between two classes
finished : (s : State) (cs : Classes) → finish s ≡ Some cs → s ≡ File cs
finished (File ds) cs e = cc
finished _ cs e = absurd (cc)

-- Runs

-- the parser's outcome goes on from where the machine over concrete trees has come
goes_on : (ws ts : List Token) (s n : State) (at other end : Place) → run s ws ≡ Some n → outcome at (Some (shown s)) (ws ++ ts) end ≡ outcome other (Some (shown n)) ts end
goes_on [] ts s n at other end e = let same : s ≡ n = cc in any_place at other (shown s) ts end ∙ ap (λ m. outcome other (Some (shown m)) ts end) same
goes_on (t ∷ ws) ts s n at other end e =
    ap (λ o. outcome t.at o (ws ++ ts) end) (step_shown s t.kind t.at) ∙ after (step s t.kind t.at) (λ m. goes_on ws ts m n t.at other end) e
  where
    after : (o : Option State) → ((m : State) → run m ws ≡ Some n → outcome t.at (Some (shown m)) (ws ++ ts) end ≡ outcome other (Some (shown n)) ts end)
        → bind o (λ m. run m ws) ≡ Some n → outcome t.at (option_map shown o) (ws ++ ts) end ≡ outcome other (Some (shown n)) ts end
    after None more h = absurd (cc)
    after (Some m) more h = more m h

-- a state that was reached is good, and its tokens are those that led to it
reached : (ws : List Token) (n : State) → run start ws ≡ Some n → IsGoodState n × (said n ≡ ws)
reached ws n e = subst (λ o. IfSome o (λ m. IsGoodState m × (said m ≡ ws))) e (run_goes ws start tt)

-- so they begin some file
begins : (ws : List Token) (n : State) → run start ws ≡ Some n → BeginsFile ws
begins ws n e = let r = reached ws n e in subst BeginsFile r.1 (viable n r.0)

-- one token more
run_one : (ws : List Token) (t : Token) (n : State) → run start ws ≡ Some n → run start (ws ++ t ∷ []) ≡ step n t.kind t.at
run_one ws t n e = run_append ws (t ∷ []) start ∙ ap (λ o. bind o (λ m. run m (t ∷ []))) e ∙ only (step n t.kind t.at)
  where
    only : (o : Option State) → bind o (λ m. run m []) ≡ o
    only None = refl
    only (Some m) = refl

-- The meaning of the outcome

-- the outcome of all tokens of a file
abbrev Tells : List Token → Place → Outcome → Type 0
Tells tokens end (Whole classes) = Parses tokens classes
Tells tokens end (Unexpected at) = IsUnexpected tokens end at

-- the outcome at the end of the tokens
end_tells : (ws : List Token) (s : State) (end : Place) (o : Option Classes) → finish s ≡ o → run start ws ≡ Some s → Tells ws end (ended o end)
end_tells ws s end (Some cs) f e =
    let r = reached ws (File cs) (e ∙ ap Some (finished s cs f)) in
    (cs, r.0, r.1, refl)
end_tells ws s end None f e = inr (refl, begins ws s e, λ classes p. no_file (parsed_file ws classes p))
  where
    no_file : {classes : List ClassDef} → (cs : Classes) × (run start ws ≡ Some (File cs)) × (plain_file cs ≡ classes) → ⊥
    no_file (cs, whole, plain) = let same : Some s ≡ Some (File cs) = sym e ∙ whole in let none : finish (File cs) ≡ None = ap finish (sym (some_of same)) ∙ f in cc
      where
        some_of : {m n : State} → Some m ≡ Some n → m ≡ n
        some_of h = cc

-- the outcome of the rest of the tokens
tells_from : (ts ws : List Token) (s : State) (at end : Place) → run start ws ≡ Some s → Tells (ws ++ ts) end (outcome at (Some (shown s)) ts end)
tells_from [] ws s at end e =
    subst (λ us. Tells us end (machine.finish (shown s).context (shown s).mode end)) (sym (append-nil ws))
    (subst (Tells ws end) (sym (finish_shown s end)) (end_tells ws s end (finish s) refl e))
tells_from (t ∷ ts) ws s at end e =
    subst (λ o. Tells (ws ++ t ∷ ts) end (outcome t.at o ts end)) (sym (step_shown s t.kind t.at))
    (after (step s t.kind t.at) (run_one ws t s e) (λ n. tells_from ts (ws ++ t ∷ []) n t.at end))
  where
    after : (o : Option State) → run start (ws ++ t ∷ []) ≡ o → ((n : State) → run start (ws ++ t ∷ []) ≡ Some n → Tells ((ws ++ t ∷ []) ++ ts) end (outcome t.at (Some (shown n)) ts end))
        → Tells (ws ++ t ∷ ts) end (outcome t.at (option_map shown o) ts end)
    after None h more = inl (ws, t, ts, refl, refl, begins ws s e, refused (ws ++ t ∷ []) h)
    after (Some n) h more = subst (λ us. Tells us end (outcome t.at (Some (shown n)) ts end)) (append_assoc ws (t ∷ []) ts) (more n h)

-- the outcome of all tokens
tells : (tokens : List Token) (end : Place) → Tells tokens end (parsed tokens end)
tells tokens end = tells_from tokens [] start end end refl

-- the parsed classes are those of the file that the tokens are
pub sound : (tokens : List Token) (end : Place) (classes : List ClassDef) → parsed tokens end ≡ Whole classes → Parses tokens classes
sound tokens end classes e = subst (Tells tokens end) e (tells tokens end)

-- a place at which the parser stops is that of the first fault
pub stops : (tokens : List Token) (end at : Place) → parsed tokens end ≡ Unexpected at → IsUnexpected tokens end at
stops tokens end at e = subst (Tells tokens end) e (tells tokens end)

-- tokens that are a file are parsed to its classes
pub complete : (tokens : List Token) (end : Place) (classes : List ClassDef) → Parses tokens classes → parsed tokens end ≡ Whole classes
complete tokens end classes p =
    let f = parsed_file tokens classes p in
    ap (λ ts. outcome end (Some (shown start)) ts end) (sym (append-nil tokens))
    ∙ goes_on tokens [] start (File f.0) end end end f.1
    ∙ ap Whole f.2

-- the same tokens are no two files
pub one_tree : (tokens : List Token) (classes others : List ClassDef) → Parses tokens classes → Parses tokens others → classes ≡ others
one_tree tokens classes others p q =
    let same : Whole classes ≡ Whole others = sym (complete tokens nowhere classes p) ∙ complete tokens nowhere others q in cc

-- tokens that begin some file lead to a state
led : (ws : List Token) → BeginsFile ws → (n : State) × (run start ws ≡ Some n)
led ws b = after (run start ws) refl
  where
    after : (o : Option State) → run start ws ≡ o → (n : State) × (run start ws ≡ Some n)
    after None e = absurd (refused ws e b)
    after (Some n) e = (n, e)

-- if the tokens with this one begin no file, the machine refuses it
stopped : (ws : List Token) (t : Token) (n : State) → run start ws ≡ Some n → (BeginsFile (ws ++ t ∷ []) → ⊥) → step n t.kind t.at ≡ None
stopped ws t n e h = after (step n t.kind t.at) (run_one ws t n e)
  where
    after : (o : Option State) → run start (ws ++ t ∷ []) ≡ o → o ≡ None
    after None f = refl
    after (Some m) f = absurd (h (begins (ws ++ t ∷ []) m f))

-- if the tokens are no file, the machine is not between classes
unended : (ws : List Token) (n : State) (o : Option Classes) → run start ws ≡ Some n → finish n ≡ o → ((classes : List ClassDef) → Parses ws classes → ⊥) → o ≡ None
unended ws n None e f h = refl
unended ws n (Some cs) e f h = let r = reached ws (File cs) (e ∙ ap Some (finished n cs f)) in absurd (h (plain_file cs) (cs, r.0, r.1, refl))

-- the parser stops at the first fault
pub exact : (tokens : List Token) (end at : Place) → IsUnexpected tokens end at → parsed tokens end ≡ Unexpected at
exact tokens end at (inl (before, t, after, same, place, some, none)) =
    let n = led before some in
    ap (λ ts. outcome end (Some (shown start)) ts end) same
    ∙ goes_on before (t ∷ after) start n.0 end end end n.1
    ∙ ap (λ o. outcome t.at o after end) (step_shown n.0 t.kind t.at ∙ ap (option_map shown) (stopped before t n.0 n.1 none))
    ∙ ap Unexpected (sym place)
exact tokens end at (inr (place, some, none)) =
    let n = led tokens some in
    ap (λ ts. outcome end (Some (shown start)) ts end) (sym (append-nil tokens))
    ∙ goes_on tokens [] start n.0 end end end n.1
    ∙ finish_shown n.0 end
    ∙ ap (λ o. ended o end) (unended tokens n.0 (finish n.0) n.1 refl none)
    ∙ ap Unexpected (sym place)

-- one outcome leaves no other

-- the classes are the only ones
pub whole_only : (tokens : List Token) (end : Place) (classes others : List ClassDef) → parsed tokens end ≡ Whole classes → Parses tokens others → classes ≡ others
whole_only tokens end classes others e p = let same : Whole classes ≡ Whole others = sym e ∙ complete tokens end others p in cc

-- tokens that are refused are no file
pub fault_or_whole : {A : Type 0} (tokens : List Token) (end at : Place) (classes : List ClassDef) → parsed tokens end ≡ Unexpected at → Parses tokens classes → A
fault_or_whole tokens end at classes e p = let same : Unexpected at ≡ Whole classes = sym e ∙ complete tokens end classes p in absurd (cc)

-- tokens that are parsed have no fault
pub whole_or_fault : (tokens : List Token) (end at : Place) (classes : List ClassDef) → parsed tokens end ≡ Whole classes → IsUnexpected tokens end at → ⊥
whole_or_fault tokens end at classes e u = let same : Whole classes ≡ Unexpected at = sym e ∙ exact tokens end at u in cc

-- the fault is the only one
pub fault_only : (tokens : List Token) (end at other : Place) → parsed tokens end ≡ Unexpected at → IsUnexpected tokens end other → at ≡ other
fault_only tokens end at other e u = let same : Unexpected at ≡ Unexpected other = sym e ∙ exact tokens end other u in cc

-- an error tells the first fault
pub error_tells : (tokens : List Token) (end : Place) (error : ParseError) → IsOutcome (parsed tokens end) error → IsFault tokens end error
error_tells tokens end (Fault f) o = stops tokens end f.at o
error_tells tokens end Memory o = tt

-- for tokens that are a file, the only error is out of memory
pub error_or_whole : (tokens : List Token) (end : Place) (error : ParseError) (classes : List ClassDef) → IsOutcome (parsed tokens end) error → Parses tokens classes → error ≡ Memory
error_or_whole tokens end (Fault f) classes o p = fault_or_whole tokens end f.at classes o p
error_or_whole tokens end Memory classes o p = refl

-- an error is at the first fault, or out of memory
pub error_only : (tokens : List Token) (end at : Place) (error : ParseError) → IsOutcome (parsed tokens end) error → IsUnexpected tokens end at → IsFaultAt at error
error_only tokens end at (Fault f) o u = fault_only tokens end f.at at o u
error_only tokens end at Memory o u = tt

-- tokens that are a file have no fault
pub file_or_fault : (tokens : List Token) (end at : Place) (classes : List ClassDef) → Parses tokens classes → IsUnexpected tokens end at → ⊥
file_or_fault tokens end at classes p u = whole_or_fault tokens end at classes (complete tokens end classes p) u

-- tokens have one first fault at most
pub one_fault : (tokens : List Token) (end at other : Place) → IsUnexpected tokens end at → IsUnexpected tokens end other → at ≡ other
one_fault tokens end at other u v = fault_only tokens end at other (exact tokens end at u) v

-- tokens that are no file have a first fault
pub file_or_first : (tokens : List Token) (end : Place) → HasTree tokens end
file_or_first tokens end = found (parsed tokens end) (tells tokens end)
  where
    found : (o : Outcome) → Tells tokens end o → HasTree tokens end
    found (Whole classes) h = inl (classes, h)
    found (Unexpected at) h = inr (at, h)
