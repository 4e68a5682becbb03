-- The way of a sound script to its certificate: what is found, how many standard monomials there are, and what generates all invariants.
use Rattle.std.proofs.Common.{◌≡◌, ◌∙◌, ◌⊎◌, ℕ, ◌+◌, List, [], ◌∷◌, Option, None, Some, length, replicate, inl, inr, refl, sym, ap, subst, arith}
use Rattle.std.specs.Prelude.{All}
use Rattle.std.specs.Int.{◌∣◌}
use Rattle.std.proofs.lemmas.List.Elements.{All-nil, All-cons, All-head, All-tail}
use Rattle.alg_core.specs.DpOrder.{dp_order}
use Rattle.alg_core.specs.Spaces.{SpaceOver}
use Rattle.alg_core.specs.declared.limits.Limits.{Limits}
use Rattle.alg_core.specs.declared.term.Term.{Term}
use Rattle.alg_core.specs.Monomials.{mono}
use Rattle.poly_module.specs.Polynomials.{single_vector}
use Rattle.poly_module.specs.SpaceVectors.{vector_of, vectors_of}
use Rattle.lin_algebra.specs.declared.matrix.Matrix.{Matrix}
use Rattle.matrix_group.specs.Actions.{IsSquare, Invariant}
use Rattle.matrix_group.specs.Groups.{cells_of, size, AreElements, IsOrder}
use Rattle.reynolds_op.specs.Averages.{Averaging, IsAveraging, reynolds}
use Rattle.module_groebner.specs.BasisBounds.{IsBasisBound}
use Rattle.module_groebner.specs.declared.bound.BasisBound.{BasisBound as Bound}
use Rattle.module_groebner.specs.declared.bound.Which.TheVariants.{Graph}
use Rattle.finite_certificate.specs.StandardMonomials.{IsOverRank}
use Rattle.finite_certificate.specs.declared.power.Power.{Power}
use Rattle.finvar_text.specs.Problems.{problem_in, IsSound}
use Rattle.finvar_text.specs.declared.script.Script.{Script}
use Rattle.primary_module.specs.PrimaryModules.{Primaries}
use Rattle.primary_search.specs.Searches.{IsEnd}
use Rattle.primary_search.proofs.FirstLaws.{first_invariant}
use Rattle.secondary_gens.specs.Forms.{degrees_of, IsSmallForm}
use Rattle.secondary_gens.specs.Lists.{Each}
use Rattle.secondary_gens.specs.Secondaries.{IsFirstPast, IsPastBound}
use Rattle.syzygy_kernel.specs.Graphs.{InGraph, graph_space}
use Rattle.syzygy_kernel.specs.declared.member.Member.{Member}
use Rattle.invring_app.specs.declared.status.BoundFault.TheVariants.{TermBound, RankBound, BasisBound}
use Rattle.invring_app.specs.AveragedGroups.{AveragesOver}
use Rattle.invring_app.specs.AveragedOver.{IsAveragedOver}
use Rattle.invring_app.specs.Commands.Bases.{count_of}
use Rattle.invring_app.specs.Commands.Primaries.{IsGroundOf}
use Rattle.invring_app.specs.Commands.Rings.{IsKept, IsGrouped, IsFound, IsRanked, AreAverages, AreFixedValues, AreImages, IsRankFault, IsGraphFault, IsImageFault}
use Rattle.invring_app.specs.GeneratingParts.{AreGenerating, IsSourceOf}
use Rattle.invring_app.specs.RankedScripts.{IsScriptSpace, IsRankedOver}
use Rattle.invring_app.proofs.AverageSteps.{are_averages, images_fixed, images_generate}
use Rattle.invring_app.proofs.EndingLaws.{field-one}
use Rattle.invring_app.proofs.GeneratorLaws.{squares, size-is, shapes-are}
use Rattle.invring_app.proofs.OverPlain.{forms_are}

abbrev Terms : Type 0
Terms = List (Term ℕ (List ℕ))

module _ (script : Script) (sound : IsSound script) (l : Limits) (S : SpaceOver ℕ) (ground : IsScriptSpace script S) where
  abbrev gens : List (Matrix ℕ)
  gens = script.gens.items

  sizes : size script.gens.items ≡ length S.weights
  sizes = size-is script sound ∙ sym ground.many

  pub square_in : All (IsSquare S.field (length S.weights)) script.gens.items
  square_in = squares script S.field (length S.weights) gens sound ground.field ground.many refl

  pub ground_is : IsGroundOf (problem_in script) S script.gens.items
  ground_is = record {
    space = record {
      field = ground.field;
      order = ground.plain.order ∙ ap dp_order (ground.plain.weights ∙ ap (λ n. replicate n 1) ground.many);
      weights = ground.plain.weights ∙ ap (λ n. replicate n 1) ground.many;
      shifts = ground.plain.shifts;
    };
    matrices = shapes-are script sound;
  }

  module _ (N : ℕ) (group : IsGrouped (problem_in script) l N) where
    pub order_in : IsOrder S.field (length S.weights) (cells_of script.gens.items) N
    order_in =
        let o = group.order in
        subst (λ n. IsOrder S.field n (cells_of gens) N) (sym ground.many)
        (subst (λ k. IsOrder k (length script.names.items) (cells_of gens) N) (field-one script.characteristic o.0 S.field o.1 ground.field) o.2)

    module _ (θ : List Terms) (end : IsEnd S script.gens.items l (vectors_of S (λ m. m) θ)) where
      pub found_of : IsFound (problem_in script) l S script.gens.items (vectors_of S (λ m. m) θ)
      found_of = record { ground = ground_is; order = N; group = group; end = end }

      pub rank_fault : (counted : ℕ) → (counted ≡ l.max_rank + 1) × IsOverRank S.field (length S.weights) (vectors_of S (λ m. m) θ) l.max_rank → IsRankFault (problem_in script) l (RankBound counted)
      rank_fault counted h = record {
        space = S;
        matrices = gens;
        primaries = vectors_of S (λ m. m) θ;
        found = found_of;
        over = h.1;
        fault = ap (λ (n : ℕ). RankBound n) h.0;
      }

module _ (script : Script) (sound : IsSound script) (l : Limits) (S : SpaceOver ℕ) (θ : List Terms) (M : SpaceOver ℕ) (n : ℕ) (ds : List ℕ) (P : Primaries ℕ) (ps : List (Power ℕ)) (r : IsRankedOver script l S θ M n ds P ps)
    (N : ℕ) (group : IsGrouped (problem_in script) l N) where
  abbrev B : List (List ℕ)
  B = P.monomials

  pub fixed_primaries : All (Invariant S.field script.gens.items) (vectors_of S (λ m. m) θ)
  fixed_primaries = first_invariant S script.gens.items l.tries (vectors_of S (λ m. m) θ) r.first

  pub fixed_terms : All (λ p. Invariant S.field script.gens.items (vector_of S (λ m. m) p)) θ
  fixed_terms = each θ fixed_primaries
    where
      each : (ts : List Terms) → All (Invariant S.field script.gens.items) (vectors_of S (λ m. m) ts) → All (λ p. Invariant S.field script.gens.items (vector_of S (λ m. m) p)) ts
      each [] h = All-nil (λ p. Invariant S.field script.gens.items (vector_of S (λ m. m) p))
      each (t ∷ ts) h = All-cons (λ p. Invariant S.field script.gens.items (vector_of S (λ m. m) p)) t ts
          (All-head (Invariant S.field script.gens.items) (vector_of S (λ m. m) t) (vectors_of S (λ m. m) ts) h) (each ts (All-tail (Invariant S.field script.gens.items) (vector_of S (λ m. m) t) (vectors_of S (λ m. m) ts) h))

  ranked_of : IsRanked (problem_in script) l S script.gens.items (vectors_of S (λ m. m) θ) P.monomials
  ranked_of = record { found = found_of script sound l S r.ground N group θ r.end; standard = r.over.standard; few = r.few }

  pub graph_fault : script.characteristic ∣ N → (b : Bound ℕ) → IsBasisBound (graph_space S.field (degrees_of θ) (length script.gens.items) P.monomials) (InGraph S.field (vectors_of S (λ m. m) θ) script.gens.items P.monomials) l.max_basis Graph b
      → IsGraphFault (problem_in script) l (BasisBound b.which b.vector b.degree)
  graph_fault divides b above = record {
    space = S;
    matrices = script.gens.items;
    primaries = vectors_of S (λ m. m) θ;
    monomials = P.monomials;
    ranked = ranked_of;
    divided = (N, group.order, divides);
    degrees = degrees_of θ;
    forms = forms_are S l.max_basis θ r.found;
    bound = b;
    above = above;
    fault = refl;
  }

  pub averaged_of : (R : Averaging ℕ) → AveragesOver (problem_in script) script.gens.items N R → IsAveragedOver S script.gens.items R θ P.monomials
  averaged_of R averages =
      let k = field-one script.characteristic averages.field S.field averages.is_field r.ground.field in
      record {
        some = r.found.some;
        few = r.found.few;
        generators = sound.generated;
        square = square_in script sound l S r.ground;
        averages = record {
          averaging = subst (λ f. IsAveraging f (size R.elements) R) k averages.averaging;
          within = let a = averages.sizes in let b = sizes script sound l S r.ground in omega arith;
        };
        sizes = averages.sizes;
        generated = subst (λ f. AreElements f (size script.gens.items) (cells_of script.gens.items) (cells_of R.elements)) k averages.generated;
        positive = r.found.forms;
        degrees = degrees_of θ;
        forms = forms_are S l.max_basis θ r.found;
        fixed = fixed_terms;
        standard = r.over.standard;
        small = r.over.small;
      }

  -- the averages generate, and so do the values of the fixed members
  pub averages_generate : (R : Averaging ℕ) → AveragesOver (problem_in script) script.gens.items N R → (fs : List Terms) → All (IsSmallForm S) fs
      → Each (λ b f. vector_of S (λ m. m) f ≡ reynolds S.field (size R.elements) R (single_vector S.field (0, mono b))) P.monomials fs → AreGenerating S script.characteristic N l.max_basis script.gens.items θ P.monomials fs None
  averages_generate R averages fs forms each =
      let given = averaged_of R averages in
      record {
        source = (averages.undivided, are_averages S script.gens.items R θ P.monomials given P.monomials fs each);
        forms = forms;
        fixed = images_fixed S script.gens.items R θ P.monomials given P.monomials fs each;
        complete = images_generate S script.gens.items R θ P.monomials given fs each;
      }

  module _ (fs : List Terms) (o : Option (List (Member ℕ))) (g : AreGenerating S script.characteristic N l.max_basis script.gens.items θ P.monomials fs o) where
    images_of : AreImages (problem_in script) l S script.gens.items (vectors_of S (λ m. m) θ) P.monomials fs
    images_of = record { ranked = ranked_of; forms = g.forms; generating = by o g.source }
      where
        by : (o : Option (List (Member ℕ))) → IsSourceOf S script.characteristic N l.max_basis script.gens.items θ P.monomials fs o
            → AreAverages (problem_in script) l S script.gens.items P.monomials fs ⊎ AreFixedValues (problem_in script) l S script.gens.items (vectors_of S (λ m. m) θ) P.monomials fs
        by None s = inl (record { undivided = (N, group.order, s.0); averages = s.1 })
        by (Some ms) s = inr (record {
          divided = (N, group.order, s.0);
          degrees = degrees_of θ;
          forms = forms_are S l.max_basis θ r.found;
          members = ms;
          kernel = s.1.kernel;
          within = s.1.within;
          values = s.1.values;
        })

    pub image_fault : (d count : ℕ) → count ≡ count_of d (problem_in script) → IsFirstPast S fs l.max_terms d → IsImageFault (problem_in script) l (TermBound d count)
    image_fault d count counted past = record {
      space = S;
      matrices = script.gens.items;
      primaries = vectors_of S (λ m. m) θ;
      monomials = P.monomials;
      images = fs;
      are_images = images_of;
      degree = d;
      first = past;
      fault = ap (λ (n : ℕ). TermBound d n) counted;
    }

    pub kept_of : ((d : ℕ) → ¬ IsPastBound S fs l.max_terms d) → IsKept (problem_in script) l
    kept_of none = record {
      space = S;
      matrices = script.gens.items;
      primaries = vectors_of S (λ m. m) θ;
      monomials = P.monomials;
      images = fs;
      are_images = images_of;
      none = none;
    }
