use Rattle.std.proofs.Common.{refl, sym}
use Rattle.std.proofs.lemmas.Result.{err_from_is_err_and}
use Rattle.vm_script.specs.declared.fault.ScriptKind.TheVariants.{Number}
use Rattle.vm_script.specs.Places.{type_in, memory_kind_in, count_in}
use Rattle.vm_script.proofs.FormLemmas.{there, absent}
use Rattle.vm_script.proofs.forms.req_bufs.Goals as goal

pub returns-in_err-count_of : goal.returns-in_err-count_of
returns-in_err-count_of c =
    let none = absent (count_in c.args.count.now) Number _ (sym c.in_err-count_of.ensures) in
    let failed = err_from_is_err_and c.from_residual-in_err-count_of.result c.from_residual-in_err-count_of.ensures.1 in
    rw (failed.1, failed.2, there (type_in c.args.t.now) Number _ (sym c.in_ok-type_of.ensures), there (memory_kind_in c.args.kind.now) Number _ (sym c.in_ok-memory_kind_of.ensures), none.0, none.1) refl
