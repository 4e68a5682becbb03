-- The basis of a script, and the names of its variables.
use Rattle.std.proofs.Common.{◌≡◌, ℕ, suc, List, [], ◌∷◌, length, map, replicate, zero, All, None, sym, ap, ◌∙◌, refl, subst}
use Rattle.std.proofs.lemmas.List.Elements.{All-map}
use Rattle.std.proofs.lemmas.List.{length-replicate}
use Rattle.alg_core.specs.DpOrder.{dp_order}
use Rattle.alg_core.specs.Spaces.{SpaceOver, over, Fits}
use Rattle.alg_core.specs.Vectors.{Entry, vec}
use Rattle.alg_core.specs.declared.dp.Dp.{Dp}
use Rattle.alg_core.specs.declared.space.Space.{Space}
use Rattle.poly_text.specs.declared.names.Names.{Names}
use Rattle.prime_field.specs.PrimeFields.{gfp, IsPrimeField}
use Rattle.prime_field.specs.declared.gfp.PrimeField.{PrimeField}
use Rattle.invariant_space.specs.InvariantSpaces.{IsEchelonBasis}
use Rattle.finvar_text.specs.Problems.{problem_in, IsSound}
use Rattle.finvar_text.specs.declared.script.Script.{Script}
use Rattle.invring_app.specs.Commands.Bases.{IsBasisText}
use Rattle.invring_app.specs.Lines.{polynomial_lines}
use Rattle.invring_app.proofs.GeneratorLaws.{shapes-are}

-- as many weights as variables
pub weights_many : (weights : List ℕ) (n m : ℕ) → weights ≡ replicate n 1 → n ≡ m → length weights ≡ m
weights_many weights n m ones same = ap length ones ∙ length-replicate n 1 ∙ same

module _ {X : Type 0} (view : X → List (Entry ℕ)) (script : Script) (space : Space PrimeField Dp) (names : Names) (basis : List X) (n d : ℕ) (text : List ℕ) where
  abbrev S : SpaceOver ℕ
  S = over (λ (f : PrimeField). gfp f.p f.listed) (λ (o : Dp). dp_order o.weights.items) space

  -- the lines are those of the basis of the script
  pub basis_is : IsSound script → n ≡ length script.names.items → IsPrimeField script.characteristic (gfp space.field.p space.field.listed) → space.order.weights.items ≡ replicate n 1 → space.grading.weights.items ≡ replicate n 1 → space.grading.shifts.items ≡ 0 ∷ []
      → names.vars ≡ script.names.items → names.primaries ≡ None → names.irreducibles ≡ None → All (λ p. Fits (over (λ (f : PrimeField). gfp f.p f.listed) (λ (o : Dp). dp_order o.weights.items) space) (view p)) basis
      → All (λ p. All (λ e. e.0.0 ≡ 0) (view p)) basis
      → IsEchelonBasis (over (λ (f : PrimeField). gfp f.p f.listed) (λ (o : Dp). dp_order o.weights.items) space) script.gens.items d (map (λ p. vec (gfp space.field.p space.field.listed) (view p)) basis)
      → text ≡ polynomial_lines [] (over (λ (f : PrimeField). gfp f.p f.listed) (λ (o : Dp). dp_order o.weights.items) space) names (map view basis)
      → IsBasisText (problem_in script) d text
  basis_is sound many field order weights shifts vars primaries irreducibles fit positions echelon is =
      let ones = ap (λ (l : ℕ). replicate l (suc zero)) many in
      record {
        space = S;
        matrices = script.gens.items;
        names = names;
        basis = map view basis;
        is_space = record { field = field; order = ap dp_order (order ∙ ones); weights = weights ∙ ones; shifts = shifts };
        are_matrices = shapes-are script sound;
        are_names = record { vars = vars; primaries = primaries; irreducibles = irreducibles };
        fit = All-map (Fits S) view basis fit;
        polynomials = All-map (All (λ e. e.0.0 ≡ 0)) view basis positions;
        echelon = subst (IsEchelonBasis S script.gens.items d) (sym (map_twice basis)) echelon;
        is_text = is;
      }
    where
      map_twice : (ps : List X) → map (vec (gfp space.field.p space.field.listed)) (map view ps) ≡ map (λ p. vec (gfp space.field.p space.field.listed) (view p)) ps
      map_twice [] = refl
      map_twice (p ∷ ps) = ap (λ l. vec (gfp space.field.p space.field.listed) (view p) ∷ l) (map_twice ps)
