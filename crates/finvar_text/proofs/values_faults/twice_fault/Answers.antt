use Rattle.finvar_text.specs.Trees.{script_of}
use Rattle.finvar_text.proofs.NameSteps.{twice_is_name}
use Rattle.finvar_text.proofs.values_faults.twice_fault.Goals as goal

pub new-requires : goal.new-requires
new-requires c = record { name = twice_is_name (script_of c.args.script.now) c.args.twice c.in-Some.name c.requires.script c.requires.twice c.in-Some.is }
