use Rattle.std.proofs.Common.{◌∙◌, ◌+◌, ◌∷◌, ◌++◌, length, map, refl, append-nil, arith}
use Rattle.std.specs.Prelude.{decimal}
use Rattle.poly_text.specs.Syntax.{spelling}
use Rattle.certificate_io.specs.PartFaults.{heading_end, module_end}
use Rattle.certificate_io.specs.Parts.{power_line}
use Rattle.certificate_io.specs.Readings.{power_text}
use Rattle.certificate_io.specs.Sections.{generator_trees}
use Rattle.certificate_io.specs.Syntax.{PrimaryLine, LiftLine, RankLine}
use Rattle.certificate_io.specs.declared.line_kind.LineKind.TheVariants as kinds
use Rattle.certificate_io.proofs.SectionRuns.{in_run, run_of, stops_run, after_run, renumbered}
use Rattle.certificate_io.proofs.sections.module_lines.Goals as goal

pub returns-clause-is : goal.returns-clause-is
returns-clause-is c = λ t s.
    let first = heading_end t + 1 in
    let second = heading_end t + length t.primaries + 1 in
    let third = heading_end t + length t.primaries + length t.lifts + 1 in
    let ranked = RankLine t.rank ∷ generator_trees t in
    let powered = map power_line t.powers ++ ranked in
    let lifted = map LiftLine t.lifts ++ powered in
    let p = c.split_run.ensures.is first (map PrimaryLine t.primaries) lifted s (in_run PrimaryLine kinds.Primary (λ x. refl) t.primaries)
    (stops_run LiftLine kinds.Primary (λ x e. absurd cc) t.lifts powered (stops_run power_line kinds.Primary (λ x e. absurd cc) t.powers ranked (λ e. absurd cc))) in
    let l = c.split_run-2.ensures.is second (map LiftLine t.lifts) powered (renumbered (first + length t.primaries) second lifted c.split_run.result.1 (omega arith) (after_run PrimaryLine first t.primaries lifted c.split_run.result.1 p.1))
    (in_run LiftLine kinds.Lift (λ x. refl) t.lifts) (stops_run power_line kinds.Lift (λ x e. absurd cc) t.powers ranked (λ e. absurd cc)) in
    let w = c.split_run-3.ensures.is third (map power_line t.powers) ranked (renumbered (second + length t.lifts) third powered c.split_run-2.result.1 (omega arith) (after_run LiftLine second t.lifts powered c.split_run-2.result.1 l.1))
    (in_run power_line kinds.Power (λ x. refl) t.powers) (λ e. absurd cc) in
    let before = renumbered (third + length t.powers) (module_end t) ranked c.split_run-3.result.1 (omega arith) (after_run power_line third t.powers ranked c.split_run-3.result.1 w.1) in
    let r = c.split_line.ensures.is (module_end t) (RankLine t.rank) (generator_trees t) before in (
      record {
        primaries = run_of PrimaryLine spelling (λ x. append-nil (spelling x)) first t.primaries c.split_run.result.0 p.0;
        lifts = run_of LiftLine spelling (λ x. append-nil (spelling x)) second t.lifts c.split_run-2.result.0 l.0;
        powers = run_of power_line power_text (λ x. refl) third t.powers c.split_run-3.result.0 w.0;
        rank = r.0 ∙ append-nil (decimal t.rank);
        rank_line = before.0;
      },
      r.1,
    )
