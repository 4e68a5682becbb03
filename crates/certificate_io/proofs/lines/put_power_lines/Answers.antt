use Rattle.std.proofs.Common.{refl, arith}
use Rattle.std.specs.List.{zip}
use Rattle.poly_text.proofs.OutputLaws.{says_same}
use Rattle.certificate_io.specs.Texts.{power_line}
use Rattle.certificate_io.proofs.LineLaws.{ended_step, ended_all, pair_here, pairs}
use Rattle.certificate_io.proofs.lines.put_power_lines.Goals as goal

pub loop-i-preserved : goal.loop-i-preserved
loop-i-preserved c = λ w says.
    let names = c.args.names.now in
    let powers = c.args.powers.now in
    let count = pairs names powers c.requires.named in
    says_same _ _ _ _ refl
    (ended_step (λ x. power_line c.args.p names c.args.primaries x.0 x.1) (zip names powers) c.loop-i.i (c.index-names-i.result, c.index-powers-i.result) w (omega arith)
    (pair_here names powers c.loop-i.i c.index-names-i.result c.index-powers-i.result (omega (arith, c.requires.named)) (omega arith) c.index-names-i.is c.index-powers-i.is))
    (c.put_power_line.ensures.is _ (c.loop-i.invariant w says))

pub returns : goal.returns
returns c =
    let names = c.args.names.now in
    let powers = c.args.powers.now in
    let count = pairs names powers c.requires.named in
    record { is = λ w says. says_same _ _ _ _ refl (ended_all (λ x. power_line c.args.p names c.args.primaries x.0 x.1) (zip names powers) c.loop-i.i w (omega arith)) (c.loop-i.invariant w says) }
