-- The certificate of a sound script, from its parts.
use Rattle.std.proofs.Common.{◌≡◌, ℕ, List, Option, map, length, refl, sym, subst}
use Rattle.alg_core.specs.PolynomialSpaces.{marked_space}
use Rattle.alg_core.specs.Spaces.{SpaceOver, entries}
use Rattle.alg_core.specs.declared.limits.Limits.{Limits}
use Rattle.alg_core.specs.declared.term.Term.{Term}
use Rattle.poly_module.specs.SpaceVectors.{IsPoly, vectors_of}
use Rattle.finite_certificate.specs.declared.power.Power.{Power}
use Rattle.finvar_text.specs.Problems.{problem_in, IsSound}
use Rattle.finvar_text.specs.declared.script.Script.{Script}
use Rattle.groebner_hom.specs.Lifts.{AreLifts}
use Rattle.groebner_hom.proofs.PolynomialLists.{all_weaken}
use Rattle.primary_module.specs.PrimaryModules.{Primaries}
use Rattle.secondary_gens.specs.Forms.{degrees_of, IsPositiveForm}
use Rattle.syzygy_kernel.specs.declared.member.Member.{Member}
use Rattle.certificate_io.specs.Certificates.{EvidenceOf}
use Rattle.invring_app.specs.Commands.Rings.{IsCertificateOf, IsGrouped}
use Rattle.invring_app.specs.GeneratingParts.{AreGenerating, AreGeneratorParts}
use Rattle.invring_app.specs.RankedScripts.{IsRankedOver}
use Rattle.invring_app.proofs.CertificateParts.{ArePartsOver, certificate_with, parts_well_formed, parts_made, parts_plain}
use Rattle.invring_app.proofs.CopiedForms.{copied_polys, copied_vectors}
use Rattle.invring_app.proofs.GeneratorLaws.{shapes-are}
use Rattle.invring_app.proofs.RankedSteps.{square_in, order_in}

abbrev Terms : Type 0
Terms = List (Term ℕ (List ℕ))

module _ (script : Script) (sound : IsSound script) (l : Limits) (S : SpaceOver ℕ) (θ : List Terms) (M : SpaceOver ℕ) (n : ℕ) (ds : List ℕ) (P : Primaries ℕ) (ps : List (Power ℕ)) (r : IsRankedOver script l S θ M n ds P ps)
    (N : ℕ) (group : IsGrouped (problem_in script) l N) (fs : List Terms) (o : Option (List (Member ℕ))) (g : AreGenerating S script.characteristic N l.max_basis script.gens.items θ P.monomials fs o)
    (T : List Terms) (e : EvidenceOf ℕ) (Q us : List Terms) (made : AreGeneratorParts S script.gens.items θ P.monomials fs o T e Q us) (copies : List Terms) (same : map (entries (λ m. m)) copies ≡ map (entries (λ m. m)) P.lifts) where
  abbrev K : SpaceOver ℕ
  K = marked_space S.field (length S.weights) (degrees_of θ)

  parts : ArePartsOver S script.gens.items l.tries script.characteristic N l.max_basis θ P.monomials copies ps fs o T e Q us
  parts = record {
    first = r.first;
    primaries = all_weaken (IsPositiveForm S) (IsPoly S (λ m. m)) (λ p h. h.form.polynomial) θ r.found.forms;
    over = record {
      standard = r.over.standard;
      small = r.over.small;
      lifts = copied_polys K copies P.lifts same r.over.lifts;
      are_lifts = subst (AreLifts K (length S.weights) (vectors_of S (λ m. m) θ)) (sym (copied_vectors S copies P.lifts same)) r.over.are_lifts;
      forms = r.over.forms;
      least = r.over.least;
    };
    generating = g;
    generators = made;
    order = order_in script sound l S r.ground N group;
    square = square_in script sound l S r.ground;
    generated = sound.generated;
    some = r.found.some;
  }

  pub certificate_of : (rank : ℕ) → rank ≡ length P.monomials
      → IsCertificateOf (problem_in script) l.tries (certificate_with S.field script.characteristic script.names.items script.gens.items l.tries N l.max_basis rank θ P.monomials copies ps fs o T e Q us)
  certificate_of rank ranked =
      let at = parts_plain S script.names.items script.gens.items l.tries script.characteristic N l.max_basis θ P.monomials copies ps fs o T e Q us r.ground.plain r.ground.many parts in
      record {
        field = S.field;
        matrices = script.gens.items;
        well_formed = parts_well_formed S.field script.characteristic script.names.items script.gens.items l.tries N l.max_basis rank θ P.monomials copies ps fs o T e Q us at r.ground.field ranked;
        characteristic = refl;
        names = refl;
        are_matrices = shapes-are script sound;
        made = parts_made S.field script.characteristic script.names.items script.gens.items l.tries N l.max_basis rank θ P.monomials copies ps fs o T e Q us at r.ground.field ranked;
      }
