use Rattle.library_tests.proofs.BasisRuns.{done-basis}
use Rattle.library_tests.proofs.runs.run_in_memory.Goals as goal

pub returns : goal.returns
returns c = record { basis = λ r d asked is done. done-basis r d _ _ _ _ _ _ _ _ is done c.new-source.ensures.is c.requires.empty (c.run.ensures.writing r asked) }
