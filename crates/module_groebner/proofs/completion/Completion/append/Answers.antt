use Rattle.std.proofs.Common.{◌≡◌, ◌==◌, ℕ, Bool, true, false, Result, Ok, Err, OnErr, ◌++◌, ◌∷◌, [], map, length, sym, ap, ◌∙◌, refl, arith}
use Rattle.std.proofs.lemmas.Bool.Decides.{nat_tests}
use Rattle.alg_core.specs.Spaces.{entries}
use Rattle.module_groebner.proofs.Families.{map_append}
use Rattle.module_groebner.proofs.DegreeSteps.{no_place, has_entries}
use Rattle.module_groebner.proofs.AppendSteps.{appended_nothing, appended_new}
use Rattle.module_groebner.proofs.completion.Completion.append.Goals as goal

test_zero : (n : ℕ) (b : Bool) → b ≡ (n == 0) → b ≡ true → n ≡ 0
test_zero n b e t = grind (arith, nat_tests)

test_not_zero : (n : ℕ) (b : Bool) → b ≡ (n == 0) → b ≡ false → ¬ (n ≡ 0)
test_not_zero n b e f z = absurd (grind (arith, nat_tests))

pub returns-then-is_empty-clause-appended : goal.returns-then-is_empty-clause-appended
returns-then-is_empty-clause-appended g c =
    appended_nothing c.args.self.now _ (no_place (λ m. m) c.args.vector (sym (ap length c.terms.ensures.is) ∙ test_zero (length c.terms.result.now) c.is_empty.result c.is_empty.ensures c.if-is_empty.true))

on_err : {A B : Type 0} (r : Result A B) (P : Type 0) → P → OnErr r P
on_err (Ok a) P p = tt
on_err (Err b) P p = p

pub returns-in_err-push-clause-memory : goal.returns-in_err-push-clause-memory
returns-in_err-push-clause-memory g c = on_err c.from_residual-in_err-push.result _ (record {
  weights = ap (λ x. x.weights) c.self.view_is;
  shifts = ap (λ x. x.shifts) c.self.view_is;
  cap = ap (λ x. x.cap) c.self.view_is;
  members = ap (map (entries (λ m. m))) c.in_err-push.ensures.items ∙ ap (λ x. x.members) c.self.view_is;
  generators = ap (λ x. x.generators) c.self.view_is;
  pairs = ap (λ x. x.pairs) c.self.view_is;
})

pub returns-clause-appended : goal.returns-clause-appended
returns-clause-appended g c =
    let q = c.args.self.now in
    let r = entries (λ m. m) c.args.vector in
    appended_new q _ r c.in_ok-pairs.pairs.items c.in_ok-pairs.ensures.pairs
    (ap (map (entries (λ m. m))) c.in_ok-push.ensures.items ∙ map_append (entries (λ m. m)) c.self.inside.members.items (c.args.vector ∷ []) ∙ ap (λ l. l ++ (r ∷ [])) (ap (λ x. x.members) c.self.view_is))
    (has_entries (λ m. m) c.args.vector (λ z. test_not_zero (length c.terms.result.now) c.is_empty.result c.is_empty.ensures c.if-is_empty.false (ap length c.terms.ensures.is ∙ z))) (ap (λ x. x.weights) c.self.view_is) (ap (λ x. x.shifts) c.self.view_is) (ap (λ x. x.cap) c.self.view_is) (ap (λ x. x.generators) c.self.view_is) refl
