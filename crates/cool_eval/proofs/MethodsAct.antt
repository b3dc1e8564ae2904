-- A basic method that uses only the input, only the output, or neither has its specified effect on both of them (`Acts` of Devices.antt).
use Rattle.std.proofs.Common.{◌≡◌, ℕ, ℤ, ◌<◌, Bool, List, [], ◌++◌, inl, inr, refl, sym, ap, ◌∙◌, subst, arith}
use Rattle.std.specs.Prelude.{Option, Result, Ok, Err, IfErr, IfOk}
use Rattle.cool_ports.specs.Answers.{Past}
use Rattle.cool_ports.specs.Counts.{Rose}
use Rattle.cool_ports.specs.SinkBytes.{appended, GotPrefix}
use Rattle.cool_ports.specs.SinkPuts.{SinkSeen, seen, pieces_of, PutFront}
use Rattle.cool_ports.proofs.GettingBytes.{appended-appended}
use Rattle.cool_ports.proofs.InputsInParts.{leaves_same}
use Rattle.cool_ports.proofs.SeenSinks.{seen_is}
use Rattle.cool_meaning.specs.Values as values
use Rattle.cool_meaning.specs.Numbers.{number_of}
use Rattle.cool_meaning.specs.BasicMethods.{Line, line_of}
use Rattle.cool_meaning.specs.Meters.{Computation, Outcome, Val}
use Rattle.cool_eval.specs.declared.value.Value.{Value}
use Rattle.cool_eval.specs.declared.ending.Ending.{Ending}
use Rattle.cool_eval.specs.declared.ending.Ending.TheVariants as ending
use Rattle.cool_eval.specs.declared.store.Store.{Store}
use Rattle.cool_eval.specs.Counts.{Counted, IsInner}
use Rattle.cool_eval.specs.Configurations.{IsResultOf}
use Rattle.cool_eval.specs.Devices.{Acts, OnDevices, sink_before, sink_after, state_at}
use Rattle.cool_eval.specs.Methods.{Makes, TookLine, ActsOnSink}
use Rattle.cool_eval.specs.Values.{value_of}
use Rattle.cool_eval.proofs.PutsOfSteps.{sink_still, text_since}

-- a count that stays 0 did not rise
none_rose : (n : ℕ) → Rose 0 0 → ⊥
none_rose n rose = let more : 0 < 0 = rose.more (omega arith) in omega (arith, more)

-- no count rose
pub counted_inner : (r : Result Value Ending) (source sink : ℕ) → IfErr r IsInner → Counted r source source sink sink
counted_inner (Err ending.ReadFault) source sink inner = absurd inner
counted_inner (Err ending.WriteFault) source sink inner = absurd inner
counted_inner _ source sink inner = (refl, refl)

-- only the count of the sink, or of the source, rose
pub counted_sink : (r : Result Value Ending) (source sink sink' : ℕ) → Counted r 0 0 sink sink'
    → Counted r source source sink sink'
counted_sink (Err ending.ReadFault) source sink sink' c = absurd (none_rose 0 c.0)
counted_sink _ source sink sink' c = (refl, c.1)

pub counted_source : (r : Result Value Ending) (source source' sink : ℕ) → Counted r source source' 0 0
    → Counted r source source' sink sink
counted_source (Err ending.WriteFault) source source' sink c = absurd (none_rose 0 c.1)
counted_source _ source source' sink c = (c.0, refl)

-- a method that leaves the input acts on the source and the sink alike
acts_made : (r : Result Value Ending) (store : Store) (first : SinkSeen) (output input : List ℕ)
    (sink : SinkSeen) (n : ℕ) (o : Outcome values.Value) → sink ≡ sink_before first output
    → Makes r store input output n o → Acts r store first output input input sink n o
acts_made (Ok v) store first output input sink n o is made = (output, is ∙ sink_still first output, made)
acts_made (Err (ending.Error e)) store first output input sink n o is made = (output, is ∙ sink_still first output, made)
acts_made (Err ending.Stuck) store first output input sink n o is made = made
acts_made (Err ending.Memory) store first output input sink n o is made = (is, inl refl)
acts_made _ store first output input sink n o is made = absurd made

pub acts_by_making : (r : Result Value Ending) (old new : Store) (ended : Bool) (past : Past) (sink : SinkSeen)
    (d : Computation values.Value)
    → ((input output : List ℕ) (n : ℕ) → Makes r new input output n (d (state_at old input output) n).outcome)
    → OnDevices ended past past sink (λ first output input rest. (n : ℕ) → Acts r new first output input rest sink n (d (state_at old input output) n).outcome)
acts_by_making r old new ended past sink d makes = λ first output input rest is leaves at_end n.
    rw (leaves_same past input rest leaves) (acts_made r new first output input sink n (d (state_at old input output) n).outcome is (makes input output n))

-- a method that leaves the store too makes a value
makes_given : (r : Result Value Ending) (store : Store) (d : Computation values.Value) (input output : List ℕ) (n : ℕ)
    → IsResultOf r d → Makes r store input output n (d (state_at store input output) n).outcome
makes_given (Err ending.Memory) store d input output n gives = tt
makes_given _ store d input output n gives = gives (state_at store input output) n

pub acts_by_giving : (r : Result Value Ending) (store : Store) (ended : Bool) (past : Past) (sink : SinkSeen)
    (d : Computation values.Value) → IsResultOf r d
    → OnDevices ended past past sink (λ first output input rest. (n : ℕ) → Acts r store first output input rest sink n (d (state_at store input output) n).outcome)
acts_by_giving r store ended past sink d gives =
    acts_by_making r store store ended past sink d (λ input output n. makes_given r store d input output n gives)

-- a method that leaves the source acts on both
pub acts_on_sink : (r : Result Value Ending) (store : Store) (ended : Bool) (past : Past) (sink sink' : SinkSeen)
    (d : Computation values.Value) → ActsOnSink r sink sink' d
    → OnDevices ended past past sink (λ first output input rest. (n : ℕ) → Acts r store first output input rest sink' n (d (state_at store input output) n).outcome)
acts_on_sink r store ended past sink sink' d acts =
    λ first output input rest is leaves at_end n. rw (leaves_same past input rest leaves) (acts store first output input n is)

-- all bytes were put
pub acts_put : (v : Value) (store : Store) (first : SinkSeen) (held held' : Option (List ℕ)) (puts puts' : List (List ℕ))
    (output input bytes : List ℕ) (n : ℕ) (o : Outcome values.Value)
    → seen held puts ≡ sink_before first output → held' ≡ appended held bytes → puts' ≡ puts ++ pieces_of 64 bytes
    → o ≡ Val (value_of v) (state_at store input (output ++ bytes)) n
    → Acts (Ok v) store first output input input (seen held' puts') n o
acts_put v store first held held' puts puts' output input bytes n o before put pieces is = (
  output ++ bytes,
  seen_is (seen held' puts') (sink_after first output (output ++ bytes))
      (put ∙ ap (λ (s : SinkSeen). appended s.held bytes) before ∙ appended-appended first.held output bytes)
      (pieces
      ∙ (ap (λ (s : SinkSeen). s.puts ++ pieces_of 64 bytes) before
      ∙ ap (λ (xs : List ℕ). first.puts ++ pieces_of 64 xs) (sym (text_since output bytes)))),
  is,
)

-- some of the bytes were put
pub cuts_put : (w : values.Value) (store : Store) (first : SinkSeen) (held held' : Option (List ℕ)) (puts puts' : List (List ℕ))
    (output input bytes : List ℕ) (n : ℕ) (o : Outcome values.Value)
    → seen held puts ≡ sink_before first output → GotPrefix held bytes held' → PutFront puts (pieces_of 64 bytes) puts'
    → o ≡ Val w (state_at store input (output ++ bytes)) n
    → Acts (Err ending.WriteFault) store first output input input (seen held' puts') n o
cuts_put w store first held held' puts puts' output input bytes n o before got pieces is =
    let held_is : held ≡ appended first.held output = ap (λ (s : SinkSeen). s.held) before in
    let puts_is : puts ≡ first.puts = ap (λ (s : SinkSeen). s.puts) before in
    let front : PutFront first.puts (pieces_of 64 bytes) puts' =
    subst (λ (ps : List (List ℕ)). PutFront ps (pieces_of 64 bytes) puts') puts_is pieces in (
      refl,
      record {
        value = w;
        state = state_at store input (output ++ bytes);
        is = is;
        there = (
          (bytes, refl, rw held_is at got),
          subst (λ (xs : List ℕ). PutFront first.puts (pieces_of 64 xs) puts') (sym (text_since output bytes)) front,
        );
      },
    )

-- no line was taken
pub acts_untaken : (e : Ending) (w : values.Value) (store : Store) (first sink : SinkSeen) (output input rest : List ℕ) (n : ℕ) (o : Outcome values.Value) → sink ≡ sink_before first output → TookLine {A = Unit {0}} (Err e) input rest → o ≡ Val w (state_at store (line_of input).rest output) n
    → Acts (Err e) store first output input rest sink n o
acts_untaken ending.ReadFault w store first sink output input rest n o before left is =
    (before, record { value = w; state = state_at store (line_of input).rest output; is = is; there = left })
acts_untaken ending.Memory w store first sink output input rest n o before left is =
    (before, inr (record { value = w; state = state_at store (line_of input).rest output; is = is; there = left }))
acts_untaken (ending.Error e) w store first sink output input rest n o before took is = absurd took
acts_untaken ending.Stuck w store first sink output input rest n o before took is = absurd took
acts_untaken ending.StepLimit w store first sink output input rest n o before took is = absurd took
acts_untaken ending.WriteFault w store first sink output input rest n o before took is = absurd took

-- a line was taken, and there was no memory for its string
acts_unmade : (line rest input output : List ℕ) (w : values.Value) (store : Store) (first sink : SinkSeen) (n : ℕ) (o : Outcome values.Value) → sink ≡ sink_before first output → line_of input ≡ record { bytes = line; rest = rest } → o ≡ Val w (state_at store (line_of input).rest output) n
    → Acts (Err ending.Memory) store first output input rest sink n o
acts_unmade line rest input output w store first sink n o before took is =
    (before, inr (record { value = w; state = state_at store (line_of input).rest output; is = is; there = ([], sym (ap (λ (l : Line). l.rest) took)) }))

-- a line was taken, and its string made where there was memory
pub acts_number : (v : Value) (number : ℤ) (line rest input output : List ℕ) (store : Store) (first sink : SinkSeen) (n : ℕ) (o : Outcome values.Value) → value_of v ≡ values.Int number
    → number ≡ number_of line → sink ≡ sink_before first output → line_of input ≡ record { bytes = line; rest = rest } → o ≡ Val (values.Int (number_of (line_of input).bytes)) (state_at store (line_of input).rest output) n
    → Acts (Ok v) store first output input rest sink n o
acts_number v number line rest input output store first sink n o made counted before took is = (
  output,
  before ∙ sink_still first output,
  is
      ∙ (ap (λ (l : Line). Val (values.Int (number_of l.bytes)) (state_at store l.rest output) n) took
      ∙ ap (λ (w : values.Value). Val w (state_at store rest output) n) (sym (made ∙ ap values.Int counted))),
)

pub acts_string : (r : Result Value Ending) (line rest input output : List ℕ) (store : Store) (first sink : SinkSeen)
    (n : ℕ) (o : Outcome values.Value) → IfOk r (λ v. value_of v ≡ values.Str line) → IfErr r (λ e. e ≡ ending.Memory)
    → sink ≡ sink_before first output → line_of input ≡ record { bytes = line; rest = rest } → o ≡ Val (values.Str (line_of input).bytes) (state_at store (line_of input).rest output) n → Acts r store first output input rest sink n o
acts_string (Ok v) line rest input output store first sink n o made memory before took is = (
  output,
  before ∙ sink_still first output,
  is
      ∙ (ap (λ (l : Line). Val (values.Str l.bytes) (state_at store l.rest output) n) took ∙ ap (λ (w : values.Value). Val w (state_at store rest output) n) (sym made)),
)
acts_string (Err e) line rest input output store first sink n o made memory before took is =
    subst (λ (x : Ending). Acts (Err x) store first output input rest sink n o) (sym memory) (acts_unmade line rest input output (values.Str (line_of input).bytes) store first sink n o before took is)
