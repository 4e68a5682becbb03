use Rattle.std.proofs.Common.{arith}
use Rattle.finvar_text.specs.Trees.{script_of}
use Rattle.finvar_text.proofs.ProblemLaws.{problem_is, sound_is}
use Rattle.finvar_text.proofs.read.read_script.Goals as goal

pub returns-in_ok-script-in-Ok-clause-problem : goal.returns-in_ok-script-in-Ok-clause-problem
returns-in_ok-script-in-Ok-clause-problem c =
    let t = script_of c.in-Ok.tree in
    let read = c.in_ok-script-in-Ok in
    record { short = omega arith; tree = t; text = c.in-Ok.ensures.tree; values = read.ensures.none; problem = problem_is t read.script read.ensures.script }

pub returns-in_ok-script-in-Ok-clause-sound : goal.returns-in_ok-script-in-Ok-clause-sound
returns-in_ok-script-in-Ok-clause-sound c =
    let read = c.in_ok-script-in-Ok in
    sound_is (script_of c.in-Ok.tree) read.script c.in-Ok.ensures.tree.script read.ensures.none read.ensures.script read.ensures.invertible
