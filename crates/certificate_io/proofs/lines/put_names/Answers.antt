use Rattle.std.proofs.Common.{List, ℕ, ◌++◌, ◌∷◌, [], map, take, ap, refl, ◌∙◌}
use Rattle.poly_text.proofs.OutputLaws.{says_same}
use Rattle.certificate_io.specs.Texts.{spaced}
use Rattle.certificate_io.proofs.LineLaws.{spaced_step}
use Rattle.certificate_io.proofs.lines.put_names.Goals as goal

pub loop-i-preserved : goal.loop-i-preserved
loop-i-preserved c = λ w says.
    let before = (w ++ spaced (map (λ (n : List ℕ). n) (take c.loop-i.i c.args.names.now))) ++ (32 ∷ []) in
    says_same _ _ _ _ refl (ap (λ n. before ++ n) c.bytes.ensures.is ∙ spaced_step (λ (n : List ℕ). n) c.args.names.now c.loop-i.i c.index-names-i.result w c.loop-i-test.true c.index-names-i.is)
    (c.put-in-loop-i.ensures.is _ (c.put.ensures.is _ (c.loop-i.invariant w says)))
