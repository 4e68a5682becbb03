use Rattle.std.proofs.Common.{length, ap, ◌∙◌, max}
use Rattle.alg_core.specs.Keys.{key}
use Rattle.alg_core.specs.Spaces.{place}
use Rattle.alg_core.proofs.KeyMultiples.{place_lcm}
use Rattle.alg_core.proofs.ExponentSteps.{length_merged}
use Rattle.alg_core.proofs.term.ModTerm.lcm.Goals as goal

pub returns-clause-is : goal.returns-clause-is
returns-clause-is g c =
    let exps = g.M.Monomial.exps in
    let p = place exps c.args.self.now in
    ap (λ m. key (p.0, m)) c.in_ok-mono.ensures.ok ∙ place_lcm p (place exps c.args.b.now) c.requires.same

pub returns-clause-length : goal.returns-clause-length
returns-clause-length g c = let exps = g.M.Monomial.exps in ap length c.in_ok-mono.ensures.ok ∙ length_merged (λ x y. max x y) (exps c.args.self.now.mono) (exps c.args.b.now.mono) c.requires.same
