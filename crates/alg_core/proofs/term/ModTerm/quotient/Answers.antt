use Rattle.std.proofs.Common.{length, ap, ◌∙◌, ◌-◌, sym}
use Rattle.alg_core.specs.Monomials.{mono}
use Rattle.alg_core.specs.Keys.{key, times_key}
use Rattle.alg_core.specs.Spaces.{place}
use Rattle.alg_core.proofs.KeyMultiples.{place_divides_test, place_quotient}
use Rattle.alg_core.proofs.ExponentSteps.{length_merged}
use Rattle.alg_core.proofs.term.ModTerm.quotient.Goals as goal

pub quotient-requires-clause-divides : goal.quotient-requires-clause-divides
quotient-requires-clause-divides g c =
    let exps = g.M.Monomial.exps in
    place_divides_test (place exps c.args.b.now) (place exps c.args.self.now) (sym c.requires.same) c.requires.divides

pub returns-clause-is : goal.returns-clause-is
returns-clause-is g c =
    let exps = g.M.Monomial.exps in
    let b = place exps c.args.b.now in
    ap (λ m. times_key (mono m) (key b)) c.in_ok-monomial.ensures.ok ∙ place_quotient b (place exps c.args.self.now) (sym c.requires.same) c.requires.divides

pub returns-clause-length : goal.returns-clause-length
returns-clause-length g c = let exps = g.M.Monomial.exps in ap length c.in_ok-monomial.ensures.ok ∙ length_merged (λ x y. x - y) (exps c.args.self.now.mono) (exps c.args.b.now.mono) c.requires.same
