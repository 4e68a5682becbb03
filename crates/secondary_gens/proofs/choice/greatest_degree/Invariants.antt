use Rattle.std.proofs.Common.{◌≤◌, take}
use Rattle.std.specs.Prelude.{All}
use Rattle.secondary_gens.specs.Forms.{degree_of}
use Rattle.secondary_gens.proofs.choice.greatest_degree.Given as goal

abbrev pub invariant-loop-i : goal.invariant-loop-i
invariant-loop-i g l = record { all : All (λ p. degree_of p ≤ l.greatest) (take l.i l.ps); small : l.greatest ≤ 12288 }
