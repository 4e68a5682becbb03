use Rattle.std.proofs.Common.{◌≡◌, ◌∙◌, ℕ, true, false, length, refl, sym, subst, take, arith}
use Rattle.std.specs.Prelude.{List, Bool, ◌==◌, All, IsTrue, ◌↔◌}
use Rattle.std.proofs.lemmas.List.{take_all}
use Rattle.std.proofs.lemmas.List.Elements.{All-push}
use Rattle.alg_core.specs.Keys.{key}
use Rattle.alg_core.specs.Vectors.{Entry}
use Rattle.alg_core.specs.Spaces.{over, entry, entries, Fits}
use Rattle.alg_core.specs.SpaceGrading.{degree}
use Rattle.poly_module.proofs.EntryLists.{entry_at, given_at}
use Rattle.poly_module.proofs.GreatestValues.{take_map}
use Rattle.poly_module.proofs.LookupSteps.{no_terms}
use Rattle.poly_module.proofs.VectorDegrees.{homogeneous_of}
use Rattle.poly_module.proofs.degrees.is_homogeneous.Goals as goal

-- a list that is found empty has no member
is_zero_length : {A : Type 0} (l : List A) (r : Bool) → r ≡ (length l == 0) → r ≡ true → length l ≡ 0
is_zero_length l r is t = let e : (length l == 0) ≡ true = sym is ∙ t in grind arith

pub term_degree-requires : goal.term_degree-requires
term_degree-requires g c =
    let S = over g.F.Field.field g.O.TermOrder.order c.args.space.now in
    let exps = g.M.Monomial.exps in
    record { place = (entry_at S exps _ _ _ c.loop-i-test.true c.index-terms-i.is (subst (λ l. Fits S (entries exps l)) (sym c.terms-terms.ensures.is) c.requires.vector)).place }

pub returns-then-term_degree-first : goal.returns-then-term_degree-first
returns-then-term_degree-first g c =
    let S = over g.F.Field.field g.O.TermOrder.order c.args.space.now in
    let exps = g.M.Monomial.exps in
    let terms : IsTrue false ↔ ((d : ℕ) × All (λ e. degree S (key e.0) ≡ d) (entries exps c.args.a.now)) = (
      λ e. absurd cc,
      λ h.
          let P : Entry g.row.F-Elem.Denot → Type 0 = λ e. degree S (key e.0) ≡ h.0 in
          let all : All P (entries exps c.terms-terms.result.now) = subst (λ l. All P (entries exps l)) (sym c.terms-terms.ensures.is) h.1 in
          let here : degree S (key (entry exps c.index-terms-i.result).0) ≡ h.0 = given_at S exps P _ _ _ c.loop-i-test.true c.index-terms-i.is all in
          let head : degree S (key (entry exps c.index-terms-0.result).0) ≡ h.0 = given_at S exps P _ 0 _ (omega arith) c.index-terms-0.is all in
          absurd (c.if-term_degree-first.true (c.term_degree.ensures.is ∙ here ∙ sym head ∙ sym c.term_degree-first.ensures.is)),
    ) in
    record { homogeneous = homogeneous_of S exps c.args.a.now c.requires.vector terms; terms = terms }

pub loop-i-preserved : goal.loop-i-preserved
loop-i-preserved g c =
    let S = over g.F.Field.field g.O.TermOrder.order c.args.space.now in
    let exps = g.M.Monomial.exps in
    let P : Entry g.row.F-Elem.Denot → Type 0 = λ e. degree S (key e.0) ≡ c.term_degree-first.result in
    subst (All P) (sym (take_map (entry exps) c.terms-terms.result.now c.loop-i.i c.index-terms-i.result c.loop-i-test.true c.index-terms-i.is))
    (All-push P (entries exps (take c.loop-i.i c.terms-terms.result.now)) (entry exps c.index-terms-i.result) c.loop-i.invariant (sym c.term_degree.ensures.is ∙ c.if-term_degree-first.false))

pub returns : goal.returns
returns g c =
    let S = over g.F.Field.field g.O.TermOrder.order c.args.space.now in
    let exps = g.M.Monomial.exps in
    let P : Entry g.row.F-Elem.Denot → Type 0 = λ e. degree S (key e.0) ≡ c.term_degree-first.result in
    let all : take c.loop-i.i c.terms-terms.result.now ≡ c.args.a.now = take_all c.loop-i.i c.terms-terms.result.now (omega arith) ∙ c.terms-terms.ensures.is in
    let terms : IsTrue true ↔ ((d : ℕ) × All (λ e. degree S (key e.0) ≡ d) (entries exps c.args.a.now)) = (λ _. (c.term_degree-first.result, subst (λ l. All P (entries exps l)) all c.loop-i.invariant), λ _. refl) in
    record { homogeneous = homogeneous_of S exps c.args.a.now c.requires.vector terms; terms = terms }

pub returns-then-is_empty : goal.returns-then-is_empty
returns-then-is_empty g c =
    let S = over g.F.Field.field g.O.TermOrder.order c.args.space.now in
    let exps = g.M.Monomial.exps in
    let none : length c.terms-terms.result.now ≡ 0 = omega (arith, is_zero_length c.terms-terms.result.now c.is_empty.result c.is_empty.ensures c.if-is_empty.true) in
    let terms : IsTrue true ↔ ((d : ℕ) × All (λ e. degree S (key e.0) ≡ d) (entries exps c.args.a.now)) = (λ _. (0, no_terms S exps (λ e. degree S (key e.0) ≡ 0) c.terms-terms.result.now _ c.terms-terms.ensures.is none), λ _. refl) in
    record { homogeneous = homogeneous_of S exps c.args.a.now c.requires.vector terms; terms = terms }
