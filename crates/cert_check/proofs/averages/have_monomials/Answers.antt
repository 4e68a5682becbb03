use Rattle.std.proofs.Common.{◌≡◌, ◌∙◌, length, refl, sym, ap, arith}
use Rattle.cert_check.specs.Parts.{monomials}
use Rattle.cert_check.proofs.SameFronts.{front_more, front_whole, front_differs, line_mono, monomials_length}
use Rattle.cert_check.proofs.averages.have_monomials.Goals as goal

pub returns-then-lines-monomials : goal.returns-then-lines-monomials
returns-then-lines-monomials c = record { exact = (λ e. absurd cc, λ e. absurd (c.if-lines-monomials.true (sym (monomials_length c.args.lines.now) ∙ ap length e))) }

pub loop-i-preserved : goal.loop-i-preserved
loop-i-preserved c =
    let count = monomials_length c.args.lines.now in
    let low = c.loop-i-test.true in
    let same = c.if-lines-monomials.false in
    front_more (monomials c.args.lines.now) c.args.monomials.now c.loop-i.i c.index-lines-i.result.mono c.index-monomials-i.result c.index-lines-i.result.mono c.index-monomials-i.result
    (omega (arith, count, low)) (omega (arith, low, same)) (line_mono c.args.lines.now c.loop-i.i c.index-lines-i.result low c.index-lines-i.is) c.index-monomials-i.is
    (c.if-not-are_same.ensures.exact.0 refl) c.loop-i.invariant

pub returns-then-not-are_same : goal.returns-then-not-are_same
returns-then-not-are_same c =
    let count = monomials_length c.args.lines.now in
    let low = c.loop-i-test.true in
    record {
      exact = (
        λ e. absurd cc,
        λ e. absurd (front_differs (monomials c.args.lines.now) c.args.monomials.now c.loop-i.i c.index-lines-i.result.mono c.index-monomials-i.result c.index-lines-i.result.mono c.index-monomials-i.result
            (omega (arith, count, low)) (line_mono c.args.lines.now c.loop-i.i c.index-lines-i.result low c.index-lines-i.is) c.index-monomials-i.is
            (λ same. let yes = c.if-not-are_same.ensures.exact.1 same in absurd {A = ⊥} cc) e),
      );
    }

pub returns : goal.returns
returns c =
    let count = monomials_length c.args.lines.now in
    let past = c.loop-i-test.false in
    let same = c.if-lines-monomials.false in
    let lengths : length (monomials c.args.lines.now) ≡ length c.args.monomials.now = omega (arith, count, same) in
    record { exact = (λ _. front_whole (monomials c.args.lines.now) c.args.monomials.now c.loop-i.i lengths (omega (arith, past, count)) c.loop-i.invariant, λ _. refl) }
