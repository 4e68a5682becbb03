use Rattle.std.proofs.Common.{◌≡◌, ℕ, List, IsTrue, length}
use Rattle.alg_core.specs.Names.{is_name}
use Rattle.certificate_io.specs.Lines.{after, bytes_at, joined}
use Rattle.certificate_io.specs.Parts.{IsSomeOf}
use Rattle.certificate_io.proofs.WordRuns.{WordsLeft}
use Rattle.certificate_io.proofs.headings.names_of.Given as goal

abbrev pub invariant-loop-rest : goal.invariant-loop-rest
invariant-loop-rest l =
    (ws : List (List ℕ)) → IsSomeOf (λ w. IsTrue (is_name w)) ws → joined ws ≡ l.fn.text → WordsLeft (λ w. IsTrue (is_name w)) ws l.names.items (bytes_at l.rest)

abbrev pub decreases-loop-rest : goal.decreases-loop-rest
decreases-loop-rest l = length (after 32 (bytes_at l.rest))
