-- The text of `primary` for a sound script.
use Rattle.std.proofs.Common.{◌≡◌, ℕ, List, [], ◌∷◌, ◌++◌, length, map, replicate, suc, zero, None, sym, ap, ap₂, ◌∙◌, refl, subst}
use Rattle.std.specs.Prelude.{codes}
use Rattle.std.proofs.lemmas.List.{length-replicate}
use Rattle.alg_core.specs.DpOrder.{dp_order}
use Rattle.alg_core.specs.Fields.{FieldOn}
use Rattle.alg_core.specs.PolynomialSpaces.{plain_space}
use Rattle.alg_core.specs.SpaceGrading.{height}
use Rattle.alg_core.proofs.PolynomialSpaces.{plain_positive}
use Rattle.alg_core.specs.Spaces.{SpaceOver, over, entries}
use Rattle.alg_core.specs.declared.dp.Dp.{Dp}
use Rattle.alg_core.specs.declared.limits.Limits.{Limits}
use Rattle.alg_core.specs.declared.space.Space.{Space}
use Rattle.alg_core.specs.declared.term.Term.{Term}
use Rattle.lin_algebra.specs.declared.matrix.Matrix.{Matrix}
use Rattle.poly_module.specs.SpaceVectors.{ArePolys, IsPositive, vectors_of}
use Rattle.poly_text.specs.declared.names.Names.{Names}
use Rattle.prime_field.specs.PrimeFields.{gfp, IsPrimeField}
use Rattle.prime_field.specs.declared.gfp.PrimeField.{PrimeField}
use Rattle.finvar_text.specs.Problems.{problem_in, IsSound}
use Rattle.finvar_text.specs.declared.script.Script.{Script}
use Rattle.groebner_hom.specs.Exponents.{AreLeastExponents, HasUnitDegrees}
use Rattle.groebner_hom.specs.IdealBases.{IsHomogeneousPoly, AreHomogeneousPolys}
use Rattle.groebner_hom.proofs.PolynomialLists.{all_weaken}
use Rattle.module_groebner.specs.declared.bound.BasisBound.{BasisBound}
use Rattle.poly_module.specs.SpaceVectors.{IsPoly}
use Rattle.primary_search.specs.Searches.{IsNoPrimary, IsTermBound, IsColonStop, IsIdealStop, IsEnd}
use Rattle.primary_search.specs.Walks.{FirstPrimaries}
use Rattle.primary_search.specs.declared.fault.SearchFault.{SearchFault}
use Rattle.primary_search.specs.declared.fault.SearchFault.TheVariants as searches
use Rattle.std.specs.Prelude.{◌⊎◌}
use Rattle.std.specs.Global.{Vec}
use Rattle.invring_app.specs.Commands.Primaries.{IsGroundOf, IsPrimaryText, IsSearchTold}
use Rattle.invring_app.specs.Lines.{polynomial_lines, power_lines}
use Rattle.invring_app.proofs.GeneratorLaws.{shapes-are}

first-height : height (0 ∷ []) 0 ≡ 0
unfolding height
first-height = refl

-- homogeneous polynomials are polynomials
pub are-polys : {E : Type 0} (S : SpaceOver E) (d : ℕ) (ps : List (List (Term E (List ℕ)))) → AreHomogeneousPolys S d ps → ArePolys S (λ m. m) ps
are-polys S d ps = all_weaken (IsHomogeneousPoly S d) (IsPoly S (λ m. m)) (λ p h. h.polynomial) ps

-- a space of variables
module _ {E : Type 0} (k : FieldOn E) (n : ℕ) (T : SpaceOver E) (is : T ≡ plain_space k n) where
  pub positive-is : IsPositive T
  positive-is = subst IsPositive (sym is) (record { order = (plain_positive k n).0; weights = (plain_positive k n).1 })

  pub shift-is : height T.shifts 0 ≡ 0
  shift-is = subst (λ (U : SpaceOver E). height U.shifts 0 ≡ 0) (sym is) none
    where
      none : height (0 ∷ []) 0 ≡ 0
      none = first-height

  pub unit-is : HasUnitDegrees T
  unit-is = record { ones = subst (λ (U : SpaceOver E). U.weights ≡ replicate (length U.weights) 1) (sym is) (ap (λ m. replicate m 1) (sym (length-replicate n 1))); shift = shift-is }

module _ (script : Script) (space : Space PrimeField Dp) (n : ℕ) (sound : IsSound script) (many : n ≡ length script.names.items) (field : IsPrimeField script.characteristic (gfp space.field.p space.field.listed))
    (order : space.order.weights.items ≡ replicate n 1) (weights : space.grading.weights.items ≡ replicate n 1) (shifts : space.grading.shifts.items ≡ 0 ∷ []) where
  abbrev pub S : SpaceOver ℕ
  S = over (λ (f : PrimeField). gfp f.p f.listed) (λ (o : Dp). dp_order o.weights.items) space

  pub ground-is : IsGroundOf (problem_in script) (over (λ (f : PrimeField). gfp f.p f.listed) (λ (o : Dp). dp_order o.weights.items) space) script.gens.items
  ground-is =
      let ones = ap (λ (l : ℕ). replicate l (suc zero)) many in
      record { space = record { field = field; order = ap dp_order (order ∙ ones); weights = weights ∙ ones; shifts = shifts }; matrices = shapes-are script sound }

  -- the fault of the search is told
  module _ (l : Limits) (gens : List (Matrix ℕ)) (are : gens ≡ script.gens.items) (d : ℕ) where
    pub told-is : (e : SearchFault ℕ)
        → ((found : Vec (List (Term ℕ (List ℕ)))) (m : ℕ) → e ≡ searches.NoPrimary found m → AreHomogeneousPolys S d found.items)
        → ((found : Vec (List (Term ℕ (List ℕ)))) (m : ℕ) → e ≡ searches.NoPrimary found m → IsNoPrimary S gens l (vectors_of S (λ m. m) found.items) m)
        → ((m count : ℕ) → e ≡ searches.TermBound m count → IsTermBound S gens l m count)
        → ((b : BasisBound ℕ) → e ≡ searches.Basis b → IsColonStop S gens l b ⊎ IsIdealStop S gens l b)
        → IsSearchTold l (problem_in script) e
    told-is (searches.NoPrimary found m) polys none terms basis = record {
      space = S;
      matrices = script.gens.items;
      ground = ground-is;
      stop = (are-polys S d found.items (polys found m refl), subst (λ (gs : List (Matrix ℕ)). IsNoPrimary S gs l (vectors_of S (λ m. m) found.items) m) are (none found m refl));
    }
    told-is (searches.TermBound m count) polys none terms basis = record {
      space = S;
      matrices = script.gens.items;
      ground = ground-is;
      stop = subst (λ (gs : List (Matrix ℕ)). IsTermBound S gs l m count) are (terms m count refl);
    }
    told-is (searches.Basis b) polys none terms basis = record {
      space = S;
      matrices = script.gens.items;
      ground = ground-is;
      stop = subst (λ (gs : List (Matrix ℕ)). IsColonStop S gs l b ⊎ IsIdealStop S gs l b) are (basis b refl);
    }
    told-is searches.Memory polys none terms basis = tt

    -- the lines are those of the primary invariants of the script
    pub text-is : (ps seen : List (List (Term ℕ (List ℕ)))) (es shown : List ℕ) (names : Names) (text : List ℕ)
        → AreHomogeneousPolys S d ps → FirstPrimaries S gens l.tries (vectors_of S (λ m. m) ps) → IsEnd S gens l (vectors_of S (λ m. m) ps) → AreLeastExponents S.field (length S.weights) (vectors_of S (λ m. m) ps) es
        → names.vars ≡ script.names.items → names.primaries ≡ None → names.irreducibles ≡ None → seen ≡ ps → shown ≡ es
        → text ≡ polynomial_lines (codes "primary ") S names (map (entries (λ m. m)) seen) ++ power_lines names.vars shown → IsPrimaryText (problem_in script) l text
    text-is ps seen es shown names text polys found end least vars primaries irreducibles same also is = record {
      space = S;
      matrices = script.gens.items;
      ground = ground-is;
      names = names;
      are_names = record { vars = vars; primaries = primaries; irreducibles = irreducibles };
      primaries = ps;
      polynomials = are-polys S d ps polys;
      first = subst (λ (gs : List (Matrix ℕ)). FirstPrimaries S gs l.tries (vectors_of S (λ m. m) ps)) are found;
      end = subst (λ (gs : List (Matrix ℕ)). IsEnd S gs l (vectors_of S (λ m. m) ps)) are end;
      exponents = es;
      least = least;
      is_text = is ∙ ap₂ (λ (x y : List ℕ). x ++ y) (ap (λ qs. polynomial_lines (codes "primary ") S names (map (entries (λ m. m)) qs)) same) (ap₂ power_lines vars also);
    }
