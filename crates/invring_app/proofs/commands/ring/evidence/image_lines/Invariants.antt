use Rattle.std.proofs.Common.{◌≡◌, take, length, map}
use Rattle.invring_app.proofs.commands.ring.evidence.image_lines.Given as goal

abbrev pub invariant-loop-comb : goal.invariant-loop-comb
invariant-loop-comb l =
    (map (λ x. x.mono) l.lines.items ≡ take (length l.yielded) l.monomials) × (map (λ x. x.comb) l.lines.items ≡ l.yielded)
