use Rattle.finvar_text.specs.Trees.{script_of}
use Rattle.finvar_text.proofs.NameSteps.{unknown_is_name}
use Rattle.finvar_text.proofs.values_faults.unknown_fault.Goals as goal

pub new-requires : goal.new-requires
new-requires c = record { name = unknown_is_name (script_of c.args.script.now) c.args.unknown c.in-Some.name c.requires.script c.requires.unknown c.in-Some.is }
