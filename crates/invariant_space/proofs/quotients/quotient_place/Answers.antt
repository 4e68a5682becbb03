use Rattle.invariant_space.proofs.Common.{◌≡◌, ◌<◌, ◌≤◌, ◌∙◌, ℕ, true, ap, get_or, length, sym, subst, arith, IfNone, IfSome, Key, key, keys_of}
use Rattle.invariant_space.proofs.Places.{length_keys}
use Rattle.invariant_space.proofs.QuotientLaws.{not_divided, quotient_found, quotient_sought, key_position}
use Rattle.invariant_space.proofs.quotients.quotient_place.Goals as goal

pub returns-then-not-divides-clause-quotient : goal.returns-then-not-divides-clause-quotient
returns-then-not-divides-clause-quotient g c = λ j is. not_divided (keys_of c.args.below.now) j (key (c.args.x.now.pos, c.args.x.now.mono)) (key (c.args.t.now.pos, c.args.t.now.mono)) (key_position (c.args.t.now.pos, c.args.t.now.mono) ∙ c.requires.position) is
    (λ d. let yes : c.divides.result ≡ true = c.divides.ensures.is.1 d in absurd cc)

pub quotient-requires-clause-divides : goal.quotient-requires-clause-divides
quotient-requires-clause-divides g c = c.divides.ensures.is.0 c.if-not-divides.false

pub returns-in-Some-clause-quotient : goal.returns-in-Some-clause-quotient
returns-in-Some-clause-quotient g c = λ j is.
    let terms = c.terms-terms.ensures.is in
    let t = key (c.args.t.now.pos, c.in_ok-mono.mono) in
    let many = length_keys c.args.below.now in
    let low : c.in-Some.place < length c.terms-terms.result.now = subst (λ o. IfSome o (λ i. i < length c.terms-terms.result.now)) c.in-Some.is c.place_between.ensures.within in
    let all = ap length terms in
    quotient_found (keys_of c.args.below.now) j c.in-Some.place (key (c.args.x.now.pos, c.args.x.now.mono)) (key (c.args.t.now.pos, c.args.t.now.mono)) (c.args.t.now.pos, c.in_ok-mono.mono) (sym (key_position (c.args.t.now.pos, c.args.t.now.mono))) is c.in_ok-mono.ensures.is (omega arith)
    (ap (λ l. get_or (keys_of l) c.in-Some.place t) (sym terms) ∙ subst (λ o. IfSome o (λ i. get_or (keys_of c.terms-terms.result.now) i t ≡ t)) c.in-Some.is c.place_between.ensures.some)

pub returns-clause-quotient : goal.returns-clause-quotient
returns-clause-quotient g c = λ j is.
    let terms = c.terms-terms.ensures.is in
    let t = key (c.args.t.now.pos, c.in_ok-mono.mono) in
    let o = c.place_between-in-None.result in
    let many = length_keys c.args.below.now in
    let all = ap length terms in
    quotient_sought (keys_of c.args.below.now) j c.args.from (key (c.args.x.now.pos, c.args.x.now.mono)) (key (c.args.t.now.pos, c.args.t.now.mono)) (c.args.t.now.pos, c.in_ok-mono.mono) o (sym (key_position (c.args.t.now.pos, c.args.t.now.mono))) is c.in_ok-mono.ensures.is
    (λ i from low v read. subst (λ o. IfNone o ((i : ℕ) → c.args.from ≤ i → i < length c.terms-terms.result.now → (v : Key) → get_or (keys_of c.terms-terms.result.now) i v ≡ v → ¬ (v ≡ t))) c.in-None.is c.place_between.ensures.none i from (omega arith) v (ap (λ l. get_or (keys_of l) i v) terms ∙ read))
    (subst (λ (n : ℕ). IfSome o (λ u. u < n)) (all ∙ sym many) c.place_between-in-None.ensures.within)
    (subst (λ l. IfSome o (λ u. get_or (keys_of l) u t ≡ t)) terms c.place_between-in-None.ensures.some)
    (subst (λ l. IfNone o ((i : ℕ) → 0 ≤ i → i < c.args.from → (v : Key) → get_or (keys_of l) i v ≡ v → ¬ (v ≡ t))) terms c.place_between-in-None.ensures.none)
