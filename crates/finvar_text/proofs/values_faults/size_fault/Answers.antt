use Rattle.std.proofs.Common.{length}
use Rattle.finvar_text.specs.Trees.{script_of}
use Rattle.finvar_text.proofs.NameSteps.{misfit_is_name}
use Rattle.finvar_text.proofs.values_faults.size_fault.Goals as goal

pub new-requires : goal.new-requires
new-requires c =
    let s = script_of c.args.script.now in
    record { name = misfit_is_name s (length s.variables) c.first_misfit.result c.in-Some.name c.requires.script c.first_misfit.ensures.is c.in-Some.is }
