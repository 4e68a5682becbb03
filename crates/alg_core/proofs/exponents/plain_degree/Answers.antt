use Rattle.std.proofs.Common.{◌≡◌, ℕ, ◌<◌, ◌*◌, length, get_or, take, replicate, arith, ap₂}
use Rattle.std.proofs.lemmas.List.{length-replicate, get_or-replicate, get_or-take, length-take-le}
use Rattle.alg_core.proofs.OrderSteps.{weighted_degree_more}
use Rattle.alg_core.proofs.exponents.plain_degree.Goals as goal

pub loop-i-preserved : goal.loop-i-preserved
loop-i-preserved g c =
    let to = c.args.to in
    let i = c.loop-i.i in
    let exps = g.M.Monomial.exps c.args.m.now in
    let below : i < to = omega arith in
    let weights : i < length {A = ℕ} (replicate to 1) = omega (arith, length-replicate {A = ℕ} to 1) in
    let entries : i < length (take to exps) = omega (arith, length-take-le to exps (omega arith)) in
    let one : get_or {A = ℕ} (replicate to 1) i 0 ≡ 1 = get_or-replicate to i 1 0 below in
    let here : get_or (take to exps) i 0 ≡ get_or exps i 0 = get_or-take to exps i 0 below in
    let times : get_or {A = ℕ} (replicate to 1) i 0 * get_or (take to exps) i 0 ≡ 1 * get_or exps i 0 = ap₂ (λ x y. x * y) one here in
    let more = weighted_degree_more (replicate to 1) (take to exps) i i weights entries in
    record { small = omega arith; sum = omega (arith, more, times, c.loop-i.invariant.sum) }
