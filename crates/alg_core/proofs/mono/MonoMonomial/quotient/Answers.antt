use Rattle.std.proofs.Common.{refl, ◌≡◌, ◌<◌, ◌-◌, length, arith}
use Rattle.alg_core.proofs.ExponentSteps.{pushed_more}
use Rattle.alg_core.proofs.mono.MonoMonomial.quotient.Goals as goal

pub loop-i-preserved : goal.loop-i-preserved
loop-i-preserved c =
    let xs = c.as_slice-xs.result.now in
    let ys = c.as_slice-ys.result.now in
    let same : length xs ≡ length ys = rw (c.as_slice-xs.ensures, c.as_slice-ys.ensures, c.self.view_is, c.b.view_is) c.requires.same in
    let within : c.loop-i.i < length xs = omega arith in
    pushed_more (λ a b. a - b) xs ys c.loop-i.i _ _ _ c.in_ok-push.ensures.ok c.loop-i.invariant refl same within
