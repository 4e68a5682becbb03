use Rattle.std.proofs.Common.{◌≡◌, ◌∙◌, ◌+◌, ℕ, suc, sym, ap, drop, arith}
use Rattle.alg_core.specs.MonomialParts.{variable_part}
use Rattle.alg_core.specs.Monomials.{mono}
use Rattle.primary_module.specs.Positions.{place_of}
use Rattle.syzygy_kernel.proofs.ListedParts.{place_here, place_later, place_past}
use Rattle.syzygy_kernel.proofs.places.place_in.Goals as goal

pub returns-then-is_part : goal.returns-then-is_part
returns-then-is_part c =
    let here = place_here c.args.n c.args.mono.now c.requires.long c.args.monomials.now c.loop-i.i c.index-monomials-i.result c.loop-i-test.true c.index-monomials-i.is
    c.requires.wide (sym c.is_part.ensures.exact ∙ c.if-is_part.true) in
    let is = c.loop-i.invariant in
    record { is = omega (arith, here, is) }

pub loop-i-preserved : goal.loop-i-preserved
loop-i-preserved c =
    let later = place_later c.args.n c.args.mono.now c.requires.long c.args.monomials.now c.loop-i.i c.index-monomials-i.result c.loop-i-test.true c.index-monomials-i.is
    c.requires.wide (sym c.is_part.ensures.exact ∙ c.if-is_part.false) in
    let next : suc c.loop-i.i ≡ c.loop-i.i + 1 = omega arith in
    let moved = ap (λ (j : ℕ). place_of (drop j c.args.monomials.now) (variable_part c.args.n (mono c.args.mono.now))) next in
    let is = c.loop-i.invariant in
    omega (arith, later, moved, is)

pub returns : goal.returns
returns c =
    let past = place_past c.args.n c.args.mono.now c.requires.long c.args.monomials.now c.loop-i.i (omega arith) in
    let is = c.loop-i.invariant in
    record { is = omega (arith, past, is) }
