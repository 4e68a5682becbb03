use Rattle.std.proofs.Common.{◌≡◌, true, List, [], ◌∷◌, subst}
use Rattle.std.specs.Prelude.{◌↔◌}
use Rattle.poly_text.specs.Syntax.{Factor, monomial_term}
use Rattle.poly_text.specs.Trees.{terms_of}
use Rattle.poly_text.proofs.MonomialTexts.{monomial_texts, no_monomial}
use Rattle.poly_text.proofs.grammar.is_monomial_text.Goals as goal

pub returns-in-Ok : goal.returns-in-Ok
returns-in-Ok c = record {
  is = monomial_texts (terms_of c.in-Ok.terms.items) c.args.text.now c.is_monomial.result c.in-Ok.ensures.tree
      (subst (λ l. (c.is_monomial.result ≡ true) ↔ ((fs : List Factor) × (terms_of l ≡ monomial_term fs ∷ []))) c.as_slice.ensures.value c.is_monomial.ensures.is);
}

pub returns-in-Err : goal.returns-in-Err
returns-in-Err c = record { is = no_monomial c.args.text.now c.in-Err.fault c.is_no_text.result c.in-Err.ensures.fault c.is_no_text.ensures.is }
