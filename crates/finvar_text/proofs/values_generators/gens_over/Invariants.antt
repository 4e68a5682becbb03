use Rattle.std.proofs.Common.{◌≡◌, map, take, drop, Option}
use Rattle.std.specs.Prelude.{All}
use Rattle.alg_core.specs.declared.input_fault.InputFault.{InputFault}
use Rattle.finvar_text.specs.Conditions.{FirstSingular}
use Rattle.finvar_text.specs.Scripts.{sized_cells, generator, IsInvertible}
use Rattle.finvar_text.specs.Trees.{matrices_at}
use Rattle.finvar_text.proofs.values_generators.gens_over.Given as goal

abbrev pub invariant-loop-i : goal.invariant-loop-i
invariant-loop-i l = record {
  gens : map sized_cells l.gens.items ≡ map (generator l.field.p l.n) (matrices_at (take l.i l.matrices.items));
  invertible : All (IsInvertible l.field.p) l.gens.items;
  left : (fault : Option InputFault) → FirstSingular l.field.p l.n (matrices_at (drop l.i l.matrices.items)) fault → FirstSingular l.field.p l.n (matrices_at l.matrices.items) fault;
}
