use Rattle.std.proofs.Common.{ℕ, List, take, sym, ap, ◌∙◌, ◌++◌, ◌∷◌, [], refl, arith, map, ◌&&◌, ◌==◌, length}
use Rattle.std.proofs.lemmas.List.{take_all, map_more}
use Rattle.alg_core.specs.Spaces.{entry, entries}
use Rattle.alg_core.specs.Vectors.{Entry}
use Rattle.poly_text.specs.Texts.{combination_term, at_position}
use Rattle.poly_text.specs.Printing.{led}
use Rattle.poly_text.proofs.OutputLaws.{says_same}
use Rattle.poly_text.proofs.PositionLaws.{led_here, first_here, led_other, first_other}
use Rattle.poly_text.proofs.combinations.put_terms_at.Goals as goal
use Rattle.poly_text.proofs.combinations.put_terms_at.Goals.{Joined-term-position, then-term-position, else-term-position}

pub loop-i-preserved : goal.loop-i-preserved
loop-i-preserved c =
    let T = combination_term c.args.p in
    let ts = c.args.terms.now in
    let x = c.index-terms-i.result in
    let es = entries (λ (m : List ℕ). m) (take c.loop-i.i ts) in
    let e : Entry ℕ = entry (λ (m : List ℕ). m) x in
    let more = map_more (entry (λ (m : List ℕ). m)) ts c.loop-i.i x c.loop-i-test.true ∙ ap (λ y. es ++ entry (λ (m : List ℕ). m) y ∷ []) (sym c.index-terms-i.is) in
    let was = c.loop-i.invariant.first in
    elim c.if-term-position.branch [
      | then-term-position b ↦ record {
        text = λ w says. says_same _ _ _ _ (sym b.output-is) (led_here T w c.args.is_first c.loop-i.first c.args.position es was e b.if-term-position.true ∙ ap (λ (l : List (Entry ℕ)). w ++ led c.args.is_first (map T (at_position c.args.position l))) (sym more))
            (b.put_combination_term.ensures.is _ (c.loop-i.invariant.text w says));
        first = b.first-is ∙ first_here T [] c.args.is_first c.loop-i.first c.args.position es was e b.if-term-position.true ∙ ap (λ (l : List (Entry ℕ)). c.args.is_first && (length (at_position c.args.position l) == 0)) (sym more);
      }
      | else-term-position b ↦ record {
        text = λ w says. says_same _ _ _ _ (sym b.output-is) (led_other T w c.args.is_first c.loop-i.first c.args.position es was e b.if-term-position.false ∙ ap (λ (l : List (Entry ℕ)). w ++ led c.args.is_first (map T (at_position c.args.position l))) (sym more))
            (c.loop-i.invariant.text w says);
        first = b.first-is ∙ first_other T [] c.args.is_first c.loop-i.first c.args.position es was e b.if-term-position.false ∙ ap (λ (l : List (Entry ℕ)). c.args.is_first && (length (at_position c.args.position l) == 0)) (sym more);
      }
    ]

pub returns : goal.returns
returns c =
    let T = combination_term c.args.p in
    record {
      is = λ w says. says_same _ _ _ _ refl (ap (λ ts. w ++ led c.args.is_first (map T (at_position c.args.position (entries (λ (m : List ℕ). m) ts)))) (take_all c.loop-i.i c.args.terms.now (omega arith))) (c.loop-i.invariant.text w says);
    }
