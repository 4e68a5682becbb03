use Rattle.std.proofs.Common.{ℕ, ◌+◌, ◌<◌, ◌^◌, List, ◌++◌, ◌∙◌, map, sym, ap, subst, refl, arith}
use Rattle.std.specs.Prelude.{All}
use Rattle.std.proofs.lemmas.List.Elements.{All-map}
use Rattle.alg_core.specs.Spaces.{entry, entries}
use Rattle.alg_core.specs.Vectors.{Entry}
use Rattle.poly_text.specs.Syntax.{spelling}
use Rattle.poly_text.specs.Texts.{combination_term, by_position}
use Rattle.poly_text.specs.Printing.{IsNext, IsFirstPosition}
use Rattle.poly_text.proofs.OutputLaws.{says_same}
use Rattle.poly_text.proofs.PositionLaws.{past_all, position_given, led_next, first_next, led_end}
use Rattle.poly_text.proofs.combinations.put_comb.Goals as goal

pub put_terms_at-requires-clause-low : goal.put_terms_at-requires-clause-low
put_terms_at-requires-clause-low c =
    let es = entries (λ (m : List ℕ). m) c.terms-terms.result.now in
    let next : IsNext es c.loop-position.from c.in-Some.position = subst (IsFirstPosition es c.loop-position.from) c.in-Some.is c.next_position.ensures.is in
    position_given (λ j. j + 1 < 2 ^ 64) c.in-Some.position es next.some
    (All-map (λ (e : Entry ℕ). e.0.0 + 1 < 2 ^ 64) (entry (λ (m : List ℕ). m)) c.terms-terms.result.now (subst (All (λ t. t.at.pos + 1 < 2 ^ 64)) (sym c.terms-terms.ensures.is) c.requires.low))

pub overflow_add-from : goal.overflow_add-from
overflow_add-from c =
    let es = entries (λ (m : List ℕ). m) c.terms-terms.result.now in
    let next : IsNext es c.loop-position.from c.in-Some.position = subst (IsFirstPosition es c.loop-position.from) c.in-Some.is c.next_position.ensures.is in
    let low : c.in-Some.position + 1 < 2 ^ 64 = position_given (λ j. j + 1 < 2 ^ 64) c.in-Some.position es next.some
    (All-map (λ (e : Entry ℕ). e.0.0 + 1 < 2 ^ 64) (entry (λ (m : List ℕ). m)) c.terms-terms.result.now (subst (All (λ t. t.at.pos + 1 < 2 ^ 64)) (sym c.terms-terms.ensures.is) c.requires.low)) in
    omega (arith, low)

pub loop-position-preserved : goal.loop-position-preserved
loop-position-preserved c =
    let es = entries (λ (m : List ℕ). m) c.terms-terms.result.now in
    let next : IsNext es c.loop-position.from c.in-Some.position = subst (IsFirstPosition es c.loop-position.from) c.in-Some.is c.next_position.ensures.is in
    record {
      text = λ w says. says_same _ _ _ _ refl (led_next (combination_term c.args.p) w c.loop-position.is_first es c.loop-position.from c.in-Some.position next c.loop-position.invariant.first)
          (c.put_terms_at.ensures.is _ (c.loop-position.invariant.text w says));
      first = first_next es c.loop-position.from c.in-Some.position next;
    }

pub returns : goal.returns
returns c =
    let es = entries (λ (m : List ℕ). m) c.terms-terms.result.now in
    let same = ap (entries (λ (m : List ℕ). m)) c.terms-terms.ensures.is in
    record {
      is = λ n all w says. says_same _ _ _ _ refl
          (led_end (combination_term c.args.p) w c.loop-position.is_first es n c.loop-position.from (subst (All (λ (e : Entry ℕ). e.0.0 < n)) (sym same) all) (past_all es c.loop-position.from c.next_position.result c.in_default.not-Some c.next_position.ensures.is) c.loop-position.invariant.first
          ∙ ap (λ l. w ++ spelling (map (combination_term c.args.p) (by_position n l))) same)
          (c.put_zero.ensures.is _ (c.loop-position.invariant.text w says));
    }
