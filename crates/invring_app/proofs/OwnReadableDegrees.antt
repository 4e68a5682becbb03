-- The parts of a certificate that `ring` makes under limits in their ranges are of small degrees, and none of its lists is empty.
use Rattle.std.proofs.Common.{◌≡◌, ◌≢◌, ◌∙◌, ◌⊎◌, inl, inr, ℕ, suc, ◌+◌, ◌<◌, ◌≤◌, List, [], ◌∷◌, ◌++◌, length, replicate, refl, sym, ap, subst, append_assoc, arith}
use Rattle.std.specs.Prelude.{All, Some, slice_get}
use Rattle.std.proofs.lemmas.List.{length-map, length-append}
use Rattle.std.proofs.lemmas.List.Elements.{All-nil}
use Rattle.alg_core.specs.BlockOrder.{length_ones}
use Rattle.alg_core.specs.Fields.{FieldOn}
use Rattle.alg_core.specs.LimitRanges.{AreLimits}
use Rattle.alg_core.specs.Lists.{In, map_in, in_left}
use Rattle.alg_core.specs.SpaceGrading.{height}
use Rattle.alg_core.specs.Spaces.{SpaceOver}
use Rattle.alg_core.specs.Vectors.{Vect}
use Rattle.alg_core.specs.declared.limits.Limits.{Limits}
use Rattle.alg_core.specs.declared.term.Term.{Term}
use Rattle.alg_core.proofs.Members.{from_map}
use Rattle.poly_module.specs.Forms.{IsForm, AreForms}
use Rattle.poly_module.specs.GreatestExponents.{total}
use Rattle.poly_module.specs.Parts.{IsPolynomial}
use Rattle.poly_module.specs.SpaceVectors.{IsPoly}
use Rattle.poly_module.proofs.SpaceVectorLaws.{is_polynomial}
use Rattle.poly_module.proofs.MarkValues.{forms_append}
use Rattle.lin_algebra.specs.declared.matrix.Matrix.{Matrix}
use Rattle.matrix_group.specs.Actions.{IsSquare, Invariant}
use Rattle.matrix_group.specs.Groups.{identity}
use Rattle.module_groebner.proofs.Families.{all_in, in_all}
use Rattle.finite_certificate.specs.Ideals.{Regular}
use Rattle.finite_certificate.specs.MarkSpaces.{ArePositiveForms}
use Rattle.finite_certificate.specs.declared.power.Power.{Power}
use Rattle.finvar_text.specs.Problems.{Problem}
use Rattle.groebner_hom.specs.Lifts.{IsLeastPower}
use Rattle.groebner_hom.proofs.LiftLeads.{have_powers}
use Rattle.primary_search.specs.Searches.{IsEnd, Passes}
use Rattle.primary_search.specs.Walks.{ArePlaces}
use Rattle.primary_search.proofs.FirstLaws.{IsSmallInvariant, Places, place_small, places_passed}
use Rattle.primary_search.proofs.TakenLaws.{taken_each, taken_append, passes_taken}
use Rattle.primary_search.proofs.WalkSteps.{passes_append}
use Rattle.secondary_gens.specs.Forms.{degree_of, IsSmallForm}
use Rattle.secondary_gens.proofs.KeepSteps.{form_degree}
use Rattle.secondary_gens.proofs.SecondaryLaws.{secondaries_complete}
use Rattle.primary_module.proofs.StandardDegrees.{total_below}
use Rattle.certificate_io.specs.Certificates.{CertificateOf}
use Rattle.certificate_io.specs.Syntax.{IsBetween, IsSome}
use Rattle.cert_check.specs.Parts.{size, polynomial, primaries, lifts, secondaries, irreducibles, degrees, irreducible_degrees}
use Rattle.cert_check.specs.SmallPolynomials.{IsSmallPoly}
use Rattle.cert_check.specs.WellFormed.{plain, marked, worded}
use Rattle.cert_check.proofs.MadeForms.{degree_known, forms_known, positive_proper}
use Rattle.cert_check.proofs.MadeLifts.{is_mark_space}
use Rattle.cert_check.proofs.MadeHolds.{primary_forms, primaries_regular, primaries_end, primaries_fixed, proper_secondary, made_irreducible}
use Rattle.cert_check.proofs.MadePlaces.{place_in, place_within, place_read, place_map}
use Rattle.cert_check.proofs.MadeLists.{place_there}
use Rattle.invring_app.specs.Commands.Rings.{AreAverages, AreFixedValues}
use Rattle.invring_app.proofs.OwnReadable.{small-form, small-poly}
use Rattle.invring_app.proofs.OwnAccepted.{low-order, secondary-degree}
use Rattle.invring_app.proofs.OwnReadableBases.{lift-low, value-low}
use Rattle.invring_app.proofs.OwnReadableImages.{average-degree, beside, complete-some}
use Rattle.invring_app.proofs.OwnKept.{IsOwn}
use Rattle.invring_app.proofs.OwnReadablePowers.{power-coordinates, exponent-between, one-in}
use Rattle.invring_app.proofs.OwnReadablePrinted.{word-form}

abbrev Terms : Type 0
Terms = List (Term ℕ (List ℕ))

pub place-of : {A : Type 0} (xs : List A) (x : A) → In x xs → (j : ℕ) × (slice_get xs j ≡ Some x)
place-of [] x i = absurd i
place-of (y ∷ xs) x (inl e) = (0, ap (λ (z : _). Some z) e)
place-of (y ∷ xs) x (inr i) = let r = place-of xs x i in (suc r.0, r.1)

pub some-in : {A : Type 0} (xs : List A) (x : A) → In x xs → 1 ≤ length xs
some-in [] x i = absurd i
some-in (y ∷ xs) x i = omega arith

module _ (q : Problem) (l : Limits) (c : CertificateOf ℕ) (k : FieldOn ℕ) (ms : List (Matrix ℕ)) (w : IsOwn q l c k ms) (r : AreLimits l) where
  abbrev n : ℕ
  n = size c

  abbrev U : SpaceOver ℕ
  U = plain k c

  abbrev B : List (List ℕ)
  B = w.made.basis

  pub forms : ArePositiveForms k (size c) (degrees c) (primaries k c)
  forms = primary_forms k ms c l.tries w.well w.made

  regular : Regular k (primaries k c)
  regular = primaries_regular k ms c l.tries w.well w.made

  end : IsEnd (plain k c) ms l (primaries k c)
  end = w.are_images.ranked.found.end

  pub few : length w.made.basis ≤ 4096
  few = let f = w.are_images.ranked.few in let m = r.max_rank.below in omega arith

  -- the order, and the rank
  pub own-order : IsBetween 1000000 c.order
  own-order =
      let o = w.made.order in
      let one = o.1.all (identity k (size c)) ([], All-nil _, refl) in
      let low = low-order q l c k ms w in
      (let inside = one.1 in let same = o.2 in omega arith, let m = r.max_order.below in omega arith)

  pub own-rank : IsBetween 4096 c.rank
  own-rank =
      let same = w.made.rank in
      let some = some-in B _ (one-in k n (degrees c) (primaries k c) forms B w.made.standard) in
      (omega arith, let f = few in omega arith)

  -- the primary invariants
  module _ (some : 0 < length U.weights) where
    abbrev passed : Places (plain k c) ms l some end.comes.degree end.comes.before
    passed = places_passed U ms l some end.comes.degree end.comes.before end.comes.passed

    abbrev front : List (Vect k)
    front = passed.candidates ++ end.comes.reaches.front

    small-primary : (v : Vect k) → In v (primaries k c) → IsSmallInvariant (plain k c) ms (suc end.comes.degree) v
    small-primary = taken_each k (IsSmallInvariant U ms (suc end.comes.degree)) [] (front ++ end.candidate ∷ []) (primaries k c) (λ v i. absurd i)
        (λ v i. place_small U ms l.tries (suc end.comes.degree) ((front ++ end.candidate ∷ []) ++ end.comes.reaches.back) places v (in_left v (front ++ end.candidate ∷ []) end.comes.reaches.back i))
        (taken_append k [] front end.taken (end.candidate ∷ []) (primaries k c) (passes_taken U l.max_basis [] front end.taken walked) (inl (end.takes.nonzerodivisor, sym end.whole)))
      where
        walked : Passes U l.max_basis [] front end.taken
        walked = passes_append U l.max_basis [] passed.candidates end.comes.before end.comes.reaches.front end.taken passed.passed end.comes.reaches.walked

        places : ArePlaces U ms l.tries (suc end.comes.degree) ((front ++ end.candidate ∷ []) ++ end.comes.reaches.back)
        places = (
          passed.candidates,
          end.comes.basis,
          passed.places,
          end.comes.echelon,
          ap (λ x. passed.candidates ++ x) (sym end.comes.reaches.place)
              ∙ sym (append_assoc passed.candidates end.comes.reaches.front (end.candidate ∷ end.comes.reaches.back)) ∙ sym (append_assoc front (end.candidate ∷ []) end.comes.reaches.back),
        )

  some-weights : 0 < length U.weights
  some-weights = let e = length_ones (size c) in let h = w.well.variables in omega arith

  of-primary : (p : Terms) → In p c.primaries → IsSmallPoly (plain k c) p
  unfolding height
  of-primary p i =
      let s = small-primary some-weights (polynomial k p) (map_in (polynomial k) p c.primaries i) in
      let form = subst (λ (m : ℕ). IsForm k (replicate m 1) s.degree (polynomial k p)) (length_ones n) s.form.form in
      small-form U refl s.degree p (let a = s.low in let b = end.comes.within in let m = r.max_degree.below in omega arith) (all_in (IsPoly U (λ m. m)) c.primaries w.well.primaries p i) form

  pub own-primaries : IsSome c.primaries × All (IsSmallPoly (plain k c)) c.primaries
  own-primaries = (
    let e : length (primaries k c) ≡ length end.taken + 1 = sym (ap length end.whole) ∙ length-append end.taken (end.candidate ∷ []) in let m = length-map c.primaries (polynomial k) in omega arith,
    in_all (IsSmallPoly U) c.primaries of-primary,
  )

  -- the lifts
  lift-polynomial : (v : Vect k) → In v (lifts k c) → IsPolynomial k v
  lift-polynomial v i =
      let x = from_map (polynomial k) v c.lifts i in
      subst (IsPolynomial k) x.2 (is_polynomial (marked k c) (λ m. m) x.0 (all_in (IsPoly (marked k c) (λ m. m)) c.lifts w.well.lifts x.0 x.1))

  of-lift : (p : Terms) → In p c.lifts → IsSmallPoly (marked k c) p
  of-lift p i =
      let h = lift-low k n (degrees c) (primaries k c) forms regular (lifts k c) w.made.are_lifts lift-polynomial l.max_basis end.ideal (polynomial k p) (map_in (polynomial k) p c.lifts i) in
      small-poly (marked k c) h.0 p (let a = h.1 in let m = r.max_basis.below in omega arith) (all_in (IsPoly (marked k c) (λ m. m)) c.lifts w.well.lifts p i) h.2

  pub own-lifts : IsSome c.lifts × All (IsSmallPoly (marked k c)) c.lifts
  own-lifts =
      let ended = primaries_end k ms c l.tries w.well w.made in
      let lead = have_powers (marked k c) n (degrees c) (primaries k c) (is_mark_space k n (degrees c)) forms (lifts k c) w.made.are_lifts ended 0 w.well.variables in
      (let some = some-in (lifts k c) lead.member lead.inside in let m = length-map c.lifts (polynomial k) in omega arith, in_all (IsSmallPoly (marked k c)) c.lifts of-lift)

  -- the powers
  least : (j : ℕ) → j < n → (x : Power ℕ) → slice_get c.powers j ≡ Some x → IsLeastPower k n (primaries k c) j (x.exponent, polynomial k x.form)
  least j within x there =
      subst (IsLeastPower k n (primaries k c) j) (place_read _ _ j (x.exponent, polynomial k x.form) (place_map (λ (p : Power ℕ). (p.exponent, polynomial k p.form)) c.powers j x there)) (w.made.least_powers.each j within)

  of-power : (x : Power ℕ) → In x c.powers → IsBetween 4096 x.exponent × IsSmallPoly (marked k c) x.form
  unfolding height
  of-power x i =
      let j = place-of c.powers x i in
      let within : j.0 < n = let h = place_within c.powers j.0 x j.1 in let e = w.well.power_each in omega arith in
      let p = least j.0 within x j.1 in
      let e = exponent-between k n (degrees c) (primaries k c) forms B w.made.standard j.0 x.exponent within p.exponent in
      let low : x.exponent ≤ 4096 = let a = e.1 in let f = few in omega arith in (
        (e.0, low),
        small-form (marked k c) refl x.exponent x.form low (all_in (λ y. IsPoly (marked k c) (λ m. m) y.form) c.powers w.well.powers x i)
            (power-coordinates k n (degrees c) (primaries k c) forms regular j.0 x.exponent within (polynomial k x.form) p.form),
      )

  pub own-powers : All (λ x. IsBetween 4096 x.exponent × IsSmallPoly (marked k c) x.form) c.powers
  own-powers = in_all (λ x. IsBetween 4096 x.exponent × IsSmallPoly (marked k c) x.form) c.powers of-power

  -- the averages and the values
  pub fixed : All (Invariant k ms) (primaries k c)
  fixed = primaries_fixed k ms c l.tries w.well w.made

  square : All (IsSquare k (length U.weights)) ms
  square = subst (λ (m : ℕ). All (IsSquare k m) ms) (sym (length_ones (size c))) w.well.square

  image-low : (f : Terms) → In f w.images → f ≢ [] → degree_of f ≤ 4096
  image-low f i other = go w.are_images.generating
    where
      from : (d : ℕ) → d ≤ 4096 → IsForm k (replicate (length U.weights) 1) d (polynomial k f) → degree_of f ≤ 4096
      from d low form = let e = form_degree U d f (all_in (IsSmallForm U) w.images w.are_images.forms f i).polynomial form other in omega arith

      go : AreAverages q l (plain k c) ms w.made.basis w.images ⊎ AreFixedValues q l (plain k c) ms (primaries k c) w.made.basis w.images → degree_of f ≤ 4096
      go (inl a) =
          let standard = w.are_images.ranked.standard in
          let b = beside _ B w.images a.averages f i in
          let below = total_below k (length U.weights) (primaries k c) B standard b.0 b.1 in
          from (total b.0) (let m = few in omega arith) (average-degree k (length U.weights) ms w.well.some square b.0 (all_in (λ x. length x ≡ length U.weights) B standard.wide b.0 b.1) (polynomial k f) b.2)
      go (inr a) =
          let v = value-low k (length U.weights) a.degrees (primaries k c) a.forms ms fixed square B w.are_images.ranked.standard a.members a.kernel l.max_basis a.within (polynomial k f)
          (subst (In (polynomial k f)) a.values (map_in (polynomial k) f w.images i)) in
          from v.0 (let low = v.1 in let m = r.max_basis.below in omega arith) v.2

  -- the secondary invariants
  pub secondary-form : (p : Terms) → In p c.secondaries → (d : ℕ) × (d ≤ 4096) × IsForm k (replicate (size c) 1) d (polynomial k p)
  secondary-form p i =
      let h = secondary-degree q l c k ms w p i in
      let s = proper_secondary k ms c l.tries w.well w.made (polynomial k p) (map_in (polynomial k) p c.secondaries i) in
      let e = degree_known k n p s.degree (all_in (IsPoly U (λ m. m)) c.secondaries w.well.secondaries p i) s.form s.not_zero in
      (s.degree, let low = image-low h.0 h.1 h.2 in let same = h.3 in omega arith, s.form)

  of-secondary : (p : Terms) → In p c.secondaries → IsSmallPoly (plain k c) p
  unfolding height
  of-secondary p i = let f = secondary-form p i in small-form U refl f.0 p f.1 (all_in (IsPoly U (λ m. m)) c.secondaries w.well.secondaries p i) f.2

  pub own-secondaries : IsSome c.secondaries × All (IsSmallPoly (plain k c)) c.secondaries
  own-secondaries = (
    let some = complete-some k (length U.weights) ms (primaries k c) (secondaries k c) (secondaries_complete U ms (primaries k c) (secondaries k c) w.made.are_secondaries square) in
        let m = length-map c.secondaries (polynomial k) in omega arith,
    in_all (IsSmallPoly U) c.secondaries of-secondary,
  )

  -- the irreducible generators
  of-irreducible : (p : Terms) → In p c.irreducibles → IsSmallPoly (plain k c) p
  unfolding height
  of-irreducible p i =
      let m = (made_irreducible k ms c l.tries w.well w.made).members (polynomial k p) (map_in (polynomial k) p c.irreducibles i) in
      let s = from_map (polynomial k) (polynomial k p) c.secondaries m.0 in
      let f = secondary-form s.0 s.1 in
      small-form U refl f.0 p f.1 (all_in (IsPoly U (λ m. m)) c.irreducibles w.well.irreducibles p i) (subst (IsForm k (replicate n 1) f.0) s.2 f.2)

  pub own-irreducibles : All (IsSmallPoly (plain k c)) c.irreducibles
  own-irreducibles = in_all (IsSmallPoly U) c.irreducibles of-irreducible

  -- the words
  all-forms : AreForms k (replicate (size c) 1) (degrees c ++ irreducible_degrees c) (primaries k c ++ irreducibles k c)
  all-forms = forms_append k (replicate (size c) 1) (degrees c) (irreducible_degrees c) (primaries k c) (irreducibles k c) forms.forms
      (forms_known k n c.irreducibles w.well.irreducibles (λ f i. positive_proper k n f ((made_irreducible k ms c l.tries w.well w.made).members f i).1))

  of-word : (u : Terms) → In u c.words → IsSmallPoly (worded k c) u
  unfolding height
  of-word u i =
      let j = place-of c.words u i in
      let s = place_there c.secondaries j.0 (let h = place_within c.words j.0 u j.1 in let e = w.well.word_each in omega arith) in
      let f = secondary-form s.0 (place_in c.secondaries j.0 s.0 s.1) in
      let printed = w.made.are_words j.0 (polynomial k s.0) (polynomial k u) (place_map (polynomial k) c.secondaries j.0 s.0 s.1) (place_map (polynomial k) c.words j.0 u j.1) in
      small-form (worded k c) refl f.0 u f.1 (all_in (IsPoly (worded k c) (λ m. m)) c.words w.well.words u i)
      (word-form k (replicate n 1) (degrees c ++ irreducible_degrees c) (primaries k c) (irreducibles k c) all-forms f.0 (polynomial k s.0) (polynomial k u) f.2 printed)

  pub own-words : All (IsSmallPoly (worded k c)) c.words
  own-words = in_all (IsSmallPoly (worded k c)) c.words of-word
