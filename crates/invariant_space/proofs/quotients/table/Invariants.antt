use Rattle.invariant_space.proofs.Common.{◌≡◌, length, IsTable, keys_of}
use Rattle.invariant_space.proofs.quotients.table.Given as goal

abbrev pub invariant-loop-j : goal.invariant-loop-j
invariant-loop-j g l =
    record {
      count : length l.table.items ≡ l.j;
      each : IsTable (keys_of l.above) (keys_of l.below) l.table.items;
    }
