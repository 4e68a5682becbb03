use Rattle.alg_core.specs.Spaces.{place}
use Rattle.alg_core.proofs.KeyMultiples.{place_divides, place_apart}
use Rattle.alg_core.proofs.term.ModTerm.divides.Goals as goal

pub returns-then-self-b : goal.returns-then-self-b
returns-then-self-b g c =
    let exps = g.M.Monomial.exps in
    record { is = place_divides (place exps c.args.self.now) (place exps c.args.b.now) c.requires.same c.if-self-b.true c.divides.result c.divides.ensures.is }

pub returns-else-self-b : goal.returns-else-self-b
returns-else-self-b g c =
    let exps = g.M.Monomial.exps in
    record { is = place_apart (place exps c.args.self.now) (place exps c.args.b.now) c.requires.same c.if-self-b.false }
