-- A machine loaded with a program is at its start address, and its memory represents the empty state of the source (no objects, no variables).
use Rattle.std.proofs.Common.{ℕ, List, [], false, refl, arith}
use Rattle.mips_isa.specs.declared.address_map.TheConstants.{HEAP_START, STACK_END}
use Rattle.mips_isa.specs.Run as machine
use Rattle.mips_isa.specs.Assembly.{start_name}
use Rattle.cool_classes.specs.Chains.{Class, class_number}
use Rattle.cool_runtime.specs.Machines.{Pointers, Console}
use Rattle.cool_emit.specs.Programs.{IsBuildable}
use Rattle.cool_simulation.specs.Pictures.{Map}
use Rattle.cool_simulation.specs.MainRun.{Starts}
use Rattle.cool_simulation.specs.Accord.{Limits, AreLimits}
use Rattle.cool_simulation.proofs.loading.Loaded.{image, place, segments, laid, loading}
use Rattle.lists.specs.Bytes.{AreBytes}

-- no object, and no home
abbrev pub no_homes : Map
no_homes = record { address = λ i. 0; class = λ i. class_number 0; locations = λ i. []; home = λ l. 0; marked = λ k. false }

-- nothing was written, and nothing taken
abbrev pub whole_input : List ℕ → Console
whole_input input = record { input = input; ended = false; output = [] }

module _ (p : List Class) (files : List (List ℕ)) (b : IsBuildable p files) (limits : Limits) (are : AreLimits limits) where
  -- heap and stack are empty
  abbrev pub begun : Pointers
  begun = record { pc = place p files b limits are start_name; gp = HEAP_START; sp = STACK_END; fp = 0; self = 0; acc = 0; ra = 0 }

  pub starts : (top low : ℕ) (output left input : List ℕ) → AreBytes input
      → Starts (loading p files b limits are top low output left) input begun no_homes (whole_input input) (machine.start (image p files b limits are) (segments p files b limits are) input)
  starts top low output left input bytes = record {
    at = record {
      numbers = record {
        pc_is = refl;
        zero_is = refl;
        acc_is = refl;
        self_is = refl;
        low_is = refl;
        end_is = refl;
        gp_is = refl;
        sp_is = refl;
        fp_is = refl;
        ra_is = refl;
        acc_fits = omega arith;
        gp_from = omega arith;
        gp_to = (let l = laid p files b limits are in omega arith);
        gp_even = refl;
        sp_from = (let l = laid p files b limits are in omega arith);
        sp_to = omega arith;
        sp_even = refl;
      };
      memory_is = refl;
      input_is = refl;
      ended_is = refl;
      output_is = refl;
    };
    pc = refl;
    gp = refl;
    sp = refl;
    fp_fits = omega arith;
    own_fits = omega arith;
    shows = record { input = refl; output = refl; ended = λ e. absurd (cc); bytes = bytes };
    pictures = record {
      objects = λ i less. absurd (omega arith);
      injective = λ i j less more e. absurd (omega arith);
      homes = λ l less. absurd (omega arith);
      apart = λ l k less e. absurd (omega arith);
      fresh = λ l less. refl;
      as_loaded = λ q less. refl;
      unmarked_data = λ k less. refl;
      unmarked_room = λ k less more. refl;
    };
    homeless = λ k. refl;
    unmarked = λ k. refl;
  }
