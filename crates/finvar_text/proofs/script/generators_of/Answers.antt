use Rattle.std.proofs.Common.{◌∙◌, ℕ, List, None, sym}
use Rattle.std.specs.Borrow.{Bor}
use Rattle.std.proofs.lemmas.List.{length-map}
use Rattle.finvar_text.specs.Conditions.{value}
use Rattle.finvar_text.specs.Scripts.{IsValueFault}
use Rattle.finvar_text.specs.Trees.{script_of}
use Rattle.finvar_text.proofs.ScriptSteps.{error_kept, field_number, fitting_same, gens_same, invertible_same, script_fault, singular_fault, sizes_none}
use Rattle.finvar_text.proofs.SingularSteps.{generators_fitting}
use Rattle.finvar_text.proofs.script.generators_of.Goals as goal

pub gens_over-requires : goal.gens_over-requires
gens_over-requires c =
    let s = script_of c.args.tree.now in
    let none = sym c.in_ok-fault.ensures.is ∙ c.in_default.is in
    let count = c.len-n.ensures ∙ c.args.tree.now.variables.ok.0 ∙ sym (length-map c.args.tree.now.variables.items (λ (w : Bor (List ℕ)). w.now)) in
    record { fitting = fitting_same _ _ _ _ count c.in_ok-matrices.ensures.is (generators_fitting s c.requires.script c.requires.numbers (sizes_none s none)) }

pub returns-in_err-gens-clause-fault : goal.returns-in_err-gens-clause-fault
returns-in_err-gens-clause-fault c =
    let s = script_of c.args.tree.now in
    let none = sym c.in_ok-fault.ensures.is ∙ c.in_default.is in
    let p = field_number (value s.characteristic) c.args.field.now.p c.args.field.now.listed c.requires.field in
    let count = c.len-n.ensures ∙ c.args.tree.now.variables.ok.0 ∙ sym (length-map c.args.tree.now.variables.items (λ (w : Bor (List ℕ)). w.now)) in
    let e = c.in_err-gens.field-0.0 in
    error_kept (IsValueFault s) c.from_residual-in_err-gens.result e c.from_residual-in_err-gens.ensures.1
    (script_fault s c.args.field.now.p _ _ e c.requires.numbers c.requires.characteristic none p count c.in_ok-matrices.ensures.is c.in_err-gens.ensures.fault)

pub returns-clause-gens : goal.returns-clause-gens
returns-clause-gens c =
    let s = script_of c.args.tree.now in
    let p = field_number (value s.characteristic) c.args.field.now.p c.args.field.now.listed c.requires.field in
    let count = c.len-n.ensures ∙ c.args.tree.now.variables.ok.0 ∙ sym (length-map c.args.tree.now.variables.items (λ (w : Bor (List ℕ)). w.now)) in
    gens_same c.args.field.now.p _ _ _ _ _ _ p count c.in_ok-matrices.ensures.is c.in_ok-gens.ensures.gens

pub returns-clause-invertible : goal.returns-clause-invertible
returns-clause-invertible c =
    let p = field_number (value (script_of c.args.tree.now).characteristic) c.args.field.now.p c.args.field.now.listed c.requires.field in
    invertible_same c.args.field.now.p _ c.in_ok-gens.gens.items p c.in_ok-gens.ensures.invertible

pub returns-clause-none : goal.returns-clause-none
returns-clause-none c =
    let s = script_of c.args.tree.now in
    let none = sym c.in_ok-fault.ensures.is ∙ c.in_default.is in
    let p = field_number (value s.characteristic) c.args.field.now.p c.args.field.now.listed c.requires.field in
    let count = c.len-n.ensures ∙ c.args.tree.now.variables.ok.0 ∙ sym (length-map c.args.tree.now.variables.items (λ (w : Bor (List ℕ)). w.now)) in
    singular_fault s c.args.field.now.p _ _ None c.requires.numbers c.requires.characteristic none p count c.in_ok-matrices.ensures.is c.in_ok-gens.ensures.none
