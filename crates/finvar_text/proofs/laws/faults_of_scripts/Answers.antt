use Rattle.finvar_text.proofs.ProblemLaws.{fault_unique}
use Rattle.finvar_text.proofs.laws.faults_of_scripts.Goals as goal

pub returns : goal.returns
returns c = record { one = fault_unique }
