use Rattle.finvar_text.proofs.DemoScripts.{demo_is_script}
use Rattle.finvar_text.proofs.laws.demos_are_scripts.Goals as goal

pub returns : goal.returns
returns c = record { are = demo_is_script }
