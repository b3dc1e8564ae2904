use Rattle.std.proofs.Common.{map}
use Rattle.cool_ports.proofs.InputsInParts.{took_nothing}
use Rattle.cool_classes.specs.declared.method.BasicMethod.TheVariants.{Abort, TypeName, Copy, OutString, OutInt, Length, Concat, Substr}
use Rattle.cool_meaning.specs.BasicMethods.{basic}
use Rattle.cool_eval.specs.Values.{value_of}
use Rattle.cool_eval.proofs.MethodsAct.{counted_inner, counted_sink, counted_source, acts_by_making, acts_by_giving, acts_on_sink}
use Rattle.cool_eval.proofs.basic.basic.Goals as goal

pub returns-in-Abort-clause-took : goal.returns-in-Abort-clause-took
returns-in-Abort-clause-took g c = took_nothing _ _ _

pub returns-in-Abort-clause-acts : goal.returns-in-Abort-clause-acts
returns-in-Abort-clause-acts g c =
    let p = c.args.setting.now.table.now in
    let vs = map value_of c.args.given.items in
    rw c.in-Abort.is (acts_by_giving c.abort.result c.args.store.now _ _ _ (basic p Abort c.args.at (value_of c.args.me) vs) (c.abort.ensures.value p c.args.at vs))

pub returns-in-Abort-clause-counts : goal.returns-in-Abort-clause-counts
returns-in-Abort-clause-counts g c = counted_inner c.abort.result _ _ c.abort.ensures.inner

pub returns-in-TypeName-clause-took : goal.returns-in-TypeName-clause-took
returns-in-TypeName-clause-took g c = took_nothing _ _ _

pub returns-in-TypeName-clause-acts : goal.returns-in-TypeName-clause-acts
returns-in-TypeName-clause-acts g c =
    let p = c.args.setting.now.table.now in
    let vs = map value_of c.args.given.items in
    rw c.in-TypeName.is (acts_by_giving c.type_name.result c.args.store.now _ _ _ (basic p TypeName c.args.at (value_of c.args.me) vs) (c.type_name.ensures.value c.args.at vs))

pub returns-in-TypeName-clause-counts : goal.returns-in-TypeName-clause-counts
returns-in-TypeName-clause-counts g c = counted_inner c.type_name.result _ _ c.type_name.ensures.inner

pub returns-in-Copy-clause-took : goal.returns-in-Copy-clause-took
returns-in-Copy-clause-took g c = took_nothing _ _ _

pub returns-in-Copy-clause-acts : goal.returns-in-Copy-clause-acts
returns-in-Copy-clause-acts g c =
    let p = c.args.setting.now.table.now in
    let vs = map value_of c.args.given.items in
    rw c.in-Copy.is (acts_by_making c.copy.result c.args.store.now _ _ _ _ (basic p Copy c.args.at (value_of c.args.me) vs) (c.copy.ensures.value p))

pub returns-in-Copy-clause-counts : goal.returns-in-Copy-clause-counts
returns-in-Copy-clause-counts g c = counted_inner c.copy.result _ _ c.copy.ensures.inner

pub returns-in-OutString-clause-took : goal.returns-in-OutString-clause-took
returns-in-OutString-clause-took g c = took_nothing _ _ _

pub returns-in-OutString-clause-acts : goal.returns-in-OutString-clause-acts
returns-in-OutString-clause-acts g c =
    let p = c.args.setting.now.table.now in
    let vs = map value_of c.args.given.items in
    rw c.in-OutString.is (acts_on_sink c.out_string.result c.args.store.now _ _ _ _ (basic p OutString c.args.at (value_of c.args.me) vs) (rw c.as_slice-given.ensures.value at (c.out_string.ensures.acts p c.args.at)))

pub returns-in-OutString-clause-counts : goal.returns-in-OutString-clause-counts
returns-in-OutString-clause-counts g c = counted_sink c.out_string.result _ _ _ c.out_string.ensures.counts

pub returns-in-OutInt-clause-took : goal.returns-in-OutInt-clause-took
returns-in-OutInt-clause-took g c = took_nothing _ _ _

pub returns-in-OutInt-clause-acts : goal.returns-in-OutInt-clause-acts
returns-in-OutInt-clause-acts g c =
    let p = c.args.setting.now.table.now in
    let vs = map value_of c.args.given.items in
    rw c.in-OutInt.is (acts_on_sink c.out_int.result c.args.store.now _ _ _ _ (basic p OutInt c.args.at (value_of c.args.me) vs) (rw c.as_slice-given.ensures.value at (c.out_int.ensures.acts p c.args.at)))

pub returns-in-OutInt-clause-counts : goal.returns-in-OutInt-clause-counts
returns-in-OutInt-clause-counts g c = counted_sink c.out_int.result _ _ _ c.out_int.ensures.counts

pub returns-in-InString-clause-acts : goal.returns-in-InString-clause-acts
returns-in-InString-clause-acts g c =
    let p = c.args.setting.now.table.now in
    let vs = map value_of c.args.given.items in
    rw c.in-InString.is (c.in_string.ensures.acts p c.args.at (value_of c.args.me) vs c.args.store.now _)

pub returns-in-InString-clause-counts : goal.returns-in-InString-clause-counts
returns-in-InString-clause-counts g c = counted_source c.in_string.result _ _ _ c.in_string.ensures.counts

pub returns-in-InInt-clause-acts : goal.returns-in-InInt-clause-acts
returns-in-InInt-clause-acts g c =
    let p = c.args.setting.now.table.now in
    let vs = map value_of c.args.given.items in
    rw c.in-InInt.is (c.in_int.ensures.acts p c.args.at (value_of c.args.me) vs c.args.store.now _)

pub returns-in-InInt-clause-counts : goal.returns-in-InInt-clause-counts
returns-in-InInt-clause-counts g c = counted_source c.in_int.result _ _ _ c.in_int.ensures.counts

pub returns-in-Length-clause-took : goal.returns-in-Length-clause-took
returns-in-Length-clause-took g c = took_nothing _ _ _

pub returns-in-Length-clause-acts : goal.returns-in-Length-clause-acts
returns-in-Length-clause-acts g c =
    let p = c.args.setting.now.table.now in
    let vs = map value_of c.args.given.items in
    rw c.in-Length.is (acts_by_giving c.length.result c.args.store.now _ _ _ (basic p Length c.args.at (value_of c.args.me) vs) (c.length.ensures.value p c.args.at vs))

pub returns-in-Length-clause-counts : goal.returns-in-Length-clause-counts
returns-in-Length-clause-counts g c = counted_inner c.length.result _ _ c.length.ensures.inner

pub returns-in-Concat-clause-took : goal.returns-in-Concat-clause-took
returns-in-Concat-clause-took g c = took_nothing _ _ _

pub returns-in-Concat-clause-acts : goal.returns-in-Concat-clause-acts
returns-in-Concat-clause-acts g c =
    let p = c.args.setting.now.table.now in
    let vs = map value_of c.args.given.items in
    rw c.in-Concat.is (acts_by_giving c.concat.result c.args.store.now _ _ _ (basic p Concat c.args.at (value_of c.args.me) vs) (rw c.as_slice-given.ensures.value at (c.concat.ensures.value p c.args.at)))

pub returns-in-Concat-clause-counts : goal.returns-in-Concat-clause-counts
returns-in-Concat-clause-counts g c = counted_inner c.concat.result _ _ c.concat.ensures.inner

pub returns-in-Substr-clause-took : goal.returns-in-Substr-clause-took
returns-in-Substr-clause-took g c = took_nothing _ _ _

pub returns-in-Substr-clause-acts : goal.returns-in-Substr-clause-acts
returns-in-Substr-clause-acts g c =
    let p = c.args.setting.now.table.now in
    let vs = map value_of c.args.given.items in
    rw c.in-Substr.is (acts_by_giving c.substr.result c.args.store.now _ _ _ (basic p Substr c.args.at (value_of c.args.me) vs) (rw c.as_slice-given.ensures.value at (c.substr.ensures.value p)))

pub returns-in-Substr-clause-counts : goal.returns-in-Substr-clause-counts
returns-in-Substr-clause-counts g c = counted_inner c.substr.result _ _ c.substr.ensures.inner
