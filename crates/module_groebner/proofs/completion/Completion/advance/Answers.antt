use Rattle.std.proofs.Common.{◌≡◌, ◌⊎◌, ◌<◌, ◌≤◌, ℕ, Option, Some, None, IsNone, IfSome, Result, Ok, ap, refl, subst}
use Rattle.alg_core.specs.declared.memory.Memory.{Memory}
use Rattle.alg_core.specs.Spaces.{over, entries}
use Rattle.alg_core.specs.Vectors.{zero_vector}
use Rattle.poly_module.specs.Degrees.{IsDegree}
use Rattle.poly_module.specs.SpaceVectors.{vector_of}
use Rattle.module_groebner.specs.declared.bound.BasisBound.{BasisBound}
use Rattle.module_groebner.specs.declared.bound.Which.TheVariants.{Ideal}
use Rattle.module_groebner.specs.declared.completion.Step.{Step}
use Rattle.module_groebner.specs.declared.completion.Step.TheVariants.{Above}
use Rattle.module_groebner.specs.Progress.{IsUnchanged}
use Rattle.module_groebner.specs.Items.{IsCurrent}
use Rattle.module_groebner.specs.Completions.{IsOver}
use Rattle.module_groebner.proofs.AdvanceSteps.{current_vector_of, current_low, remainder_low, IsTreatment, treated, extends_unchanged}
use Rattle.module_groebner.proofs.CompletionResults.{over_bound}
use Rattle.module_groebner.proofs.completion.Completion.advance.Goals as goal

is_none : {A : Type 0} (o : Option A) → o ≡ None → IsNone o
is_none None e = refl
is_none (Some x) e = absurd cc

above_same : {E : Type 0} (r b : BasisBound E) → ◌≡◌ {A = Result (Step E) Memory} (Ok (Above r)) (Ok (Above b)) → r ≡ b
above_same r b e = cc

pub degree_over-requires-clause-small : goal.degree_over-requires-clause-small
degree_over-requires-clause-small g c =
    let S = over g.F.Field.field g.O.TermOrder.order c.args.space.now in
    let q = c.args.self.now in
    let rem = c.in_ok-remainder.ensures.remainder in
    let current : IsCurrent q c.in-Some.item = subst (λ o. IfSome o (IsCurrent q)) c.in-Some.is c.in_ok-item.ensures.current in
    rem.3.bound _ (current_low S q c.requires.stands c.in-Some.item rem.0 current rem.1)

pub returns-in-Some-degree_over-clause-above : goal.returns-in-Some-degree_over-clause-above
returns-in-Some-degree_over-clause-above g c =
    let S = over g.F.Field.field g.O.TermOrder.order c.args.space.now in
    let q = c.args.self.now in
    let rem = c.in_ok-remainder.ensures.remainder in
    let current : IsCurrent q c.in-Some.item = subst (λ o. IfSome o (IsCurrent q)) c.in-Some.is c.in_ok-item.ensures.current in
    let cap : c.self.inside.cap ≡ q.cap = ap (λ x. x.cap) c.self.view_is in
    let over = c.in-Some-degree_over.ensures.over in
    λ b e. subst (λ x. IsOver S q x × IsUnchanged q q) (above_same _ b e) (
      over_bound S c.requires.positive.weights q c.requires.stands rem.0 (current_vector_of S q c.in-Some.item rem.0 current rem.1)
          (record { vector = c.in_ok-remainder.remainder; degree = c.in-Some-degree_over.d; which = Ideal }) c.in_ok-remainder.ensures.fits rem.2 rem.3 over.0
          (subst (λ n. n < c.in-Some-degree_over.d) cap over.1) refl,
      record { weights = refl; shifts = refl; cap = refl; members = refl; generators = refl; pairs = refl },
    )

pub returns-in_err-append-clause-extends : goal.returns-in_err-append-clause-extends
returns-in_err-append-clause-extends g c =
    extends_unchanged (over g.F.Field.field g.O.TermOrder.order c.args.space.now) c.args.self.now c.append.new.self c.in_err-append.ensures.memory

pub returns-clause-stands : goal.returns-clause-stands
returns-clause-stands g c =
    let S = over g.F.Field.field g.O.TermOrder.order c.args.space.now in
    let q = c.args.self.now in
    let rem = c.in_ok-remainder.ensures.remainder in
    let current : IsCurrent q c.in-Some.item = subst (λ o. IfSome o (IsCurrent q)) c.in-Some.is c.in_ok-item.ensures.current in
    let u = vector_of S (λ m. m) c.in_ok-remainder.remainder in
    let cap : c.self.inside.cap ≡ q.cap = ap (λ x. x.cap) c.self.view_is in
    let low = remainder_low S q c.requires.stands c.requires.positive.weights c.in-Some.item rem.0 u current rem.1 rem.3
    (subst (λ n. (u ≡ zero_vector S.field) ⊎ ((d : ℕ) × IsDegree S u d × (d ≤ n))) cap (c.degree_over.ensures.low (is_none _ c.in_default-degree_over.is))) in
    let all : IsTreatment S q c.take.new.self = treated S q c.requires.stands c.requires.positive.weights c.append.new.self c.take.new.self c.in-Some.item rem.0 (entries (λ m. m) c.in_ok-remainder.remainder)
    current rem.1 c.in_ok-append.ensures.appended c.take.ensures.taken c.in_ok-remainder.ensures.fits rem.2 low in
    all.stands

pub returns-clause-extends : goal.returns-clause-extends
returns-clause-extends g c =
    let S = over g.F.Field.field g.O.TermOrder.order c.args.space.now in
    let q = c.args.self.now in
    let rem = c.in_ok-remainder.ensures.remainder in
    let current : IsCurrent q c.in-Some.item = subst (λ o. IfSome o (IsCurrent q)) c.in-Some.is c.in_ok-item.ensures.current in
    let u = vector_of S (λ m. m) c.in_ok-remainder.remainder in
    let cap : c.self.inside.cap ≡ q.cap = ap (λ x. x.cap) c.self.view_is in
    let low = remainder_low S q c.requires.stands c.requires.positive.weights c.in-Some.item rem.0 u current rem.1 rem.3
    (subst (λ n. (u ≡ zero_vector S.field) ⊎ ((d : ℕ) × IsDegree S u d × (d ≤ n))) cap (c.degree_over.ensures.low (is_none _ c.in_default-degree_over.is))) in
    let all : IsTreatment S q c.take.new.self = treated S q c.requires.stands c.requires.positive.weights c.append.new.self c.take.new.self c.in-Some.item rem.0 (entries (λ m. m) c.in_ok-remainder.remainder)
    current rem.1 c.in_ok-append.ensures.appended c.take.ensures.taken c.in_ok-remainder.ensures.fits rem.2 low in
    all.extends

pub returns-clause-more : goal.returns-clause-more
returns-clause-more g c =
    let S = over g.F.Field.field g.O.TermOrder.order c.args.space.now in
    let q = c.args.self.now in
    let rem = c.in_ok-remainder.ensures.remainder in
    let current : IsCurrent q c.in-Some.item = subst (λ o. IfSome o (IsCurrent q)) c.in-Some.is c.in_ok-item.ensures.current in
    let u = vector_of S (λ m. m) c.in_ok-remainder.remainder in
    let cap : c.self.inside.cap ≡ q.cap = ap (λ x. x.cap) c.self.view_is in
    let low = remainder_low S q c.requires.stands c.requires.positive.weights c.in-Some.item rem.0 u current rem.1 rem.3
    (subst (λ n. (u ≡ zero_vector S.field) ⊎ ((d : ℕ) × IsDegree S u d × (d ≤ n))) cap (c.degree_over.ensures.low (is_none _ c.in_default-degree_over.is))) in
    let all : IsTreatment S q c.take.new.self = treated S q c.requires.stands c.requires.positive.weights c.append.new.self c.take.new.self c.in-Some.item rem.0 (entries (λ m. m) c.in_ok-remainder.remainder)
    current rem.1 c.in_ok-append.ensures.appended c.take.ensures.taken c.in_ok-remainder.ensures.fits rem.2 low in
    λ e. all.treats

pub returns-clause-falls : goal.returns-clause-falls
returns-clause-falls g c =
    let S = over g.F.Field.field g.O.TermOrder.order c.args.space.now in
    let q = c.args.self.now in
    let rem = c.in_ok-remainder.ensures.remainder in
    let current : IsCurrent q c.in-Some.item = subst (λ o. IfSome o (IsCurrent q)) c.in-Some.is c.in_ok-item.ensures.current in
    let u = vector_of S (λ m. m) c.in_ok-remainder.remainder in
    let cap : c.self.inside.cap ≡ q.cap = ap (λ x. x.cap) c.self.view_is in
    let low = remainder_low S q c.requires.stands c.requires.positive.weights c.in-Some.item rem.0 u current rem.1 rem.3
    (subst (λ n. (u ≡ zero_vector S.field) ⊎ ((d : ℕ) × IsDegree S u d × (d ≤ n))) cap (c.degree_over.ensures.low (is_none _ c.in_default-degree_over.is))) in
    let all : IsTreatment S q c.take.new.self = treated S q c.requires.stands c.requires.positive.weights c.append.new.self c.take.new.self c.in-Some.item rem.0 (entries (λ m. m) c.in_ok-remainder.remainder)
    current rem.1 c.in_ok-append.ensures.appended c.take.ensures.taken c.in_ok-remainder.ensures.fits rem.2 low in
    λ e. all.falls
