use Rattle.std.proofs.Common.{List, ℕ, get_or, take, sym, subst, arith}
use Rattle.std.proofs.lemmas.List.{take_all, map_more}
use Rattle.alg_core.specs.Spaces.{entry, entries}
use Rattle.alg_core.specs.Vectors.{Entry}
use Rattle.poly_text.specs.Printing.{IsFirstPosition}
use Rattle.poly_text.proofs.PositionLaws.{first_more}
use Rattle.poly_text.proofs.combinations.next_position.Goals as goal

pub loop-i-preserved : goal.loop-i-preserved
loop-i-preserved c =
    let ts = c.args.terms.now in
    let x = c.index-terms-i.result in
    subst (λ (es : List (Entry ℕ)). IsFirstPosition es c.args.from c.nearer-next.result) (sym (map_more (entry (λ (m : List ℕ). m)) ts c.loop-i.i x c.loop-i-test.true))
    (first_more (entries (λ (m : List ℕ). m) (take c.loop-i.i ts)) c.args.from (entry (λ (m : List ℕ). m) (get_or ts c.loop-i.i x)) c.loop-i.next _ c.loop-i.invariant c.nearer-next.ensures.is)

pub returns : goal.returns
returns c = record { is = subst (λ ts. IsFirstPosition (entries (λ (m : List ℕ). m) ts) c.args.from c.loop-i.next) (take_all c.loop-i.i c.args.terms.now (omega arith)) c.loop-i.invariant }
