-- The first words of a receiver's object hold the tag of its class and the address of the dispatch table of its class.
use Rattle.std.proofs.Common.{◌≡◌, ℕ, ◌+◌, ◌≤◌, List, ◌++◌, Some, sym, ap, ◌∙◌, subst, arith}
use Rattle.std.specs.Prelude.{codes}
use Rattle.mips_isa.specs.Bytes.{Bytes, word}
use Rattle.cool_classes.specs.declared.class_id.ClassId.{ClassId}
use Rattle.cool_classes.specs.Chains.{class_number}
use Rattle.cool_runtime.specs.Reaches.{Tags}
use Rattle.cool_runtime.specs.Contents.{Lies, Tagged}
use Rattle.cool_runtime.specs.Labels.{int_table, bool_table, string_table}
use Rattle.cool_layout.specs.Preorder.{tag}
use Rattle.cool_layout.specs.Labels.{dispatch_table}
use Rattle.cool_meaning.specs.Values.{Value, Void, Int, Bool, Str, Obj, State, class_of}
use Rattle.cool_meaning.proofs.BasicClasses.{basic_name}
use Rattle.cool_simulation.specs.Loadings.{Loading, IsLoaded}
use Rattle.cool_simulation.specs.Pictures.{Map, Pic, Pictures}

pub record HasHead (l : Loading) (m : Bytes) (gp a : ℕ) (j : ClassId) : Type 0 where
  pub lies : Lies l.world gp a 12
  pub tag_is : word m a ≡ tag l.table j
  pub table_is : word m (a + 8) ≡ l.world.place (dispatch_table l.table j)

module _ (l : Loading) (is : IsLoaded l) where
  int_named : int_table ≡ dispatch_table l.table (class_number 2)
  unfolding int_table
  int_named = sym (ap (λ (n : List ℕ). n ++ codes "_dispTab") (basic_name l.table is.buildable.typed 2 (omega arith)))

  bool_named : bool_table ≡ dispatch_table l.table (class_number 3)
  unfolding bool_table
  bool_named = sym (ap (λ (n : List ℕ). n ++ codes "_dispTab") (basic_name l.table is.buildable.typed 3 (omega arith)))

  string_named : string_table ≡ dispatch_table l.table (class_number 4)
  unfolding string_table
  string_named = sym (ap (λ (n : List ℕ). n ++ codes "_dispTab") (basic_name l.table is.buildable.typed 4 (omega arith)))

  shorter : (gp a size : ℕ) → 12 ≤ size → Lies l.world gp a size → Lies l.world gp a 12
  shorter gp a size le lies = record {
    even = lies.even;
    from = lies.from;
    to = (let to = lies.to in omega arith);
    in_data = λ h. let to = lies.in_data h in omega arith;
    in_heap = lies.in_heap;
  }

  pub has_head : (v : Value) (j : ClassId) (m : Bytes) (map : Map) (st : State) (gp sp a : ℕ) → class_of v ≡ Some j → Pictures l.table l.world l.memory m map st gp sp → Pic l.world m map st.drawn gp v a → HasHead l m gp a j
  has_head Void j m map st gp sp a e pictures pic = absurd (cc)
  has_head (Int n) j m map st gp sp a e pictures (int, fit, un) =
      let same : class_number 2 ≡ j = cc in
      subst (λ (x : ClassId). HasHead l m gp a x) same (record {
        lies = shorter gp a 16 (omega arith) int.lies;
        tag_is = int.head.tag_is ∙ ap (λ (t : Tags). t.int) is.tags;
        table_is = int.head.table_is ∙ ap l.world.place int_named;
      })
  has_head (Bool b) j m map st gp sp a e pictures (bool, un) =
      let same : class_number 3 ≡ j = cc in
      subst (λ (x : ClassId). HasHead l m gp a x) same (record {
        lies = shorter gp a 16 (omega arith) bool.lies;
        tag_is = bool.head.tag_is ∙ ap (λ (t : Tags). t.bool) is.tags;
        table_is = bool.head.table_is ∙ ap l.world.place bool_named;
      })
  has_head (Str bytes) j m map st gp sp a e pictures (string, un, un') =
      let same : class_number 4 ≡ j = cc in
      subst (λ (x : ClassId). HasHead l m gp a x) same (record {
        lies = shorter gp a _ (omega arith) string.lies;
        tag_is = string.head.tag_is ∙ ap (λ (t : Tags). t.string) is.tags;
        table_is = string.head.table_is ∙ ap l.world.place string_named;
      })
  has_head (Obj c i ls) j m map st gp sp a e pictures (there, drawn, class, locations) =
      let same : c ≡ j = cc in
      let stands = pictures.objects i drawn in
      subst (λ (x : ClassId). HasHead l m gp a x) (sym class ∙ same) (subst (λ (b : ℕ). HasHead l m gp b (map.class i)) (sym there) (record {
        lies = record {
          even = stands.even;
          from = (let from = stands.from in omega arith);
          to = (let to = stands.to in omega arith);
          in_data = λ h. (let from = stands.from in absurd (omega arith));
          in_heap = λ h. stands.from;
        };
        tag_is = stands.head.tag_is;
        table_is = stands.head.table_is;
      }))

  pub tagged : (m : Bytes) (gp a : ℕ) (j : ClassId) → HasHead l m gp a j → Tagged l.world m gp a (tag l.table j)
  tagged m gp a j h = record { lies = h.lies; tag_is = h.tag_is }
