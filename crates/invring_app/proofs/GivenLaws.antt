-- Parts of a command, added one after another to what is given.
use Rattle.std.proofs.Common.{◌≡◌, ◌≢◌, ℕ, Bool, true, false, List, [], ◌∷◌, refl, sym, ap, subst, ◌∙◌, arith, Some, None, if◌then◌else◌}
use Rattle.std.specs.Prelude.{Option, ◌==◌, is_some}
use Rattle.std.proofs.lemmas.Bool.{eqb-true, eqb-false}
use Rattle.std.proofs.lemmas.Option.{same_Some}
use Rattle.invring_app.specs.declared.arguments.Argument.{Argument}
use Rattle.invring_app.specs.declared.arguments.Argument.TheVariants.{Number, MaxOrder, MaxDegree, MaxBasis, MaxTerms, MaxRank, Tries, MaxText}
use Rattle.invring_app.specs.declared.given.Given.{Given}
use Rattle.invring_app.specs.Words.{Part, place, values}
use Rattle.invring_app.specs.Commands.{◌>>=◌}
use Rattle.invring_app.specs.WordReading.{given_at, with_given}

abbrev pub add : Given → Part → Option Given
add g part = if is_some (given_at g part.argument) then None else Some (with_given g part.argument part.value)

abbrev pub adds : Given → List Part → Option Given
adds g [] = Some g
adds g (part ∷ parts) = add g part >>= λ t. adds t parts

-- what an argument has before and after these values are given for it
abbrev pub Cell : Option ℕ → List ℕ → Option ℕ → Type 0
Cell before [] after = after ≡ before
Cell None (v ∷ []) after = after ≡ Some v
Cell None (v ∷ w ∷ vs) after = ⊥
Cell (Some x) (v ∷ vs) after = ⊥

-- there is room for these values
abbrev pub Fits : Option ℕ → List ℕ → Type 0
Fits before [] = Unit {0}
Fits None (v ∷ []) = Unit {0}
Fits None (v ∷ w ∷ vs) = ⊥
Fits (Some x) (v ∷ vs) = ⊥

argument_at : ℕ → Argument
argument_at n =
    if n == 0 then Number
    else (if n == 1 then MaxOrder
    else (if n == 2 then MaxDegree
    else (if n == 3 then MaxBasis
    else (if n == 4 then MaxTerms
    else (if n == 5 then MaxRank
    else (if n == 6 then Tries
    else MaxText))))))

argument_at-place : (a : Argument) → argument_at (place a) ≡ a
unfolding argument_at
argument_at-place Number = refl
argument_at-place MaxOrder = refl
argument_at-place MaxDegree = refl
argument_at-place MaxBasis = refl
argument_at-place MaxTerms = refl
argument_at-place MaxRank = refl
argument_at-place Tries = refl
argument_at-place MaxText = refl

pub place-injective : (a b : Argument) → place a ≡ place b → a ≡ b
place-injective a b e = sym (argument_at-place a) ∙ ap argument_at e ∙ argument_at-place b

given_at-same : (g : Given) (a : Argument) (v : ℕ) → given_at (with_given g a v) a ≡ Some v
given_at-same g Number v = refl
given_at-same g MaxOrder v = refl
given_at-same g MaxDegree v = refl
given_at-same g MaxBasis v = refl
given_at-same g MaxTerms v = refl
given_at-same g MaxRank v = refl
given_at-same g Tries v = refl
given_at-same g MaxText v = refl

given_at-other : (g : Given) (a b : Argument) (v : ℕ) → place a ≢ place b → given_at (with_given g a v) b ≡ given_at g b
given_at-other g Number Number v ne = absurd (ne refl)
given_at-other g MaxOrder MaxOrder v ne = absurd (ne refl)
given_at-other g MaxDegree MaxDegree v ne = absurd (ne refl)
given_at-other g MaxBasis MaxBasis v ne = absurd (ne refl)
given_at-other g MaxTerms MaxTerms v ne = absurd (ne refl)
given_at-other g MaxRank MaxRank v ne = absurd (ne refl)
given_at-other g Tries Tries v ne = absurd (ne refl)
given_at-other g MaxText MaxText v ne = absurd (ne refl)
given_at-other g a b v ne = refl

-- a part that was added: its argument had no value before
pub add-some : (g t : Given) (part : Part) → add g part ≡ Some t → (given_at g part.argument ≡ None) × (t ≡ with_given g part.argument part.value)
add-some g t part e = go (given_at g part.argument) refl e
  where
    go : (o : Option ℕ) → given_at g part.argument ≡ o → (if is_some o then None else Some (with_given g part.argument part.value)) ≡ Some t → (given_at g part.argument ≡ None) × (t ≡ with_given g part.argument part.value)
    go None is e = (is, sym (same_Some _ _ e))
    go (Some x) is e = absurd cc

pub add-none : (g : Given) (part : Part) → given_at g part.argument ≡ None → add g part ≡ Some (with_given g part.argument part.value)
add-none g part none = ap (λ o. if is_some o then None else Some (with_given g part.argument part.value)) none

Cell-first : (v : ℕ) (vs : List ℕ) (after : Option ℕ) → Cell (Some v) vs after → Cell None (v ∷ vs) after
Cell-first v [] after cell = cell
Cell-first v (w ∷ vs) after cell = absurd cell

-- one part more in front
Cell-add : (g : Given) (part : Part) (a : Argument) (vs : List ℕ) (after : Option ℕ) → given_at g part.argument ≡ None → Cell (given_at (with_given g part.argument part.value) a) vs after
    → Cell (given_at g a) (if place part.argument == place a then part.value ∷ vs else vs) after
Cell-add g part a vs after none cell = go (place part.argument == place a) refl
  where
    go : (t : Bool) → (place part.argument == place a) ≡ t → Cell (given_at g a) (if t then part.value ∷ vs else vs) after
    go true is =
        let same : part.argument ≡ a = place-injective part.argument a (eqb-true _ _ is) in
        let first : given_at (with_given g part.argument part.value) a ≡ Some part.value = subst (λ (b : Argument). given_at (with_given g part.argument part.value) b ≡ Some part.value) same (given_at-same g part.argument part.value) in
        let none_at : given_at g a ≡ None = subst (λ (b : Argument). given_at g b ≡ None) same none in
        subst (λ (o : Option ℕ). Cell o (part.value ∷ vs) after) (sym none_at) (Cell-first part.value vs after (subst (λ (o : Option ℕ). Cell o vs after) first cell))
    go false is = subst (λ (o : Option ℕ). Cell o vs after) (given_at-other g part.argument a part.value (eqb-false _ _ is)) cell

-- what parts give that can be added
pub adds-cells : (parts : List Part) (g t : Given) → adds g parts ≡ Some t → (a : Argument) → Cell (given_at g a) (values a parts) (given_at t a)
adds-cells [] g t e a = ap (λ (x : Given). given_at x a) (sym (same_Some _ _ e))
adds-cells (part ∷ parts) g t e a = go (add g part) refl e (adds-cells parts)
  where
    go : (o : Option Given) → add g part ≡ o → (o >>= λ x. adds x parts) ≡ Some t → ((g t : Given) → adds g parts ≡ Some t → (a : Argument) → Cell (given_at g a) (values a parts) (given_at t a)) → Cell (given_at g a) (values a (part ∷ parts)) (given_at t a)
    go None is e more = absurd cc
    go (Some x) is e more =
        let added = add-some g x part is in
        let after = more (with_given g part.argument part.value) t (subst (λ (y : Given). adds y parts ≡ Some t) added.1 e) a in
        Cell-add g part a (values a parts) (given_at t a) added.0 after

Fits-none : (o : Option ℕ) (v : ℕ) (vs : List ℕ) → Fits o (v ∷ vs) → o ≡ None
Fits-none None v vs fits = refl
Fits-none (Some x) v vs fits = absurd fits

Fits-rest : (o : Option ℕ) (v : ℕ) (vs : List ℕ) → Fits o (v ∷ vs) → Fits (Some v) vs
Fits-rest None v [] fits = tt
Fits-rest None v (w ∷ vs) fits = absurd fits
Fits-rest (Some x) v vs fits = absurd fits

Fits-add : (g : Given) (part : Part) (a : Argument) (vs : List ℕ) → Fits (given_at g a) (if place part.argument == place a then part.value ∷ vs else vs) → Fits (given_at (with_given g part.argument part.value) a) vs
Fits-add g part a vs fits = go (place part.argument == place a) refl fits
  where
    go : (t : Bool) → (place part.argument == place a) ≡ t → Fits (given_at g a) (if t then part.value ∷ vs else vs) → Fits (given_at (with_given g part.argument part.value) a) vs
    go true is fits =
        let same : part.argument ≡ a = place-injective part.argument a (eqb-true _ _ is) in
        let first : given_at (with_given g part.argument part.value) a ≡ Some part.value = subst (λ (b : Argument). given_at (with_given g part.argument part.value) b ≡ Some part.value) same (given_at-same g part.argument part.value) in
        subst (λ (o : Option ℕ). Fits o vs) (sym first) (Fits-rest (given_at g a) part.value vs fits)
    go false is fits = subst (λ (o : Option ℕ). Fits o vs) (sym (given_at-other g part.argument a part.value (eqb-false _ _ is))) fits

values-own : (part : Part) (parts : List Part) → values part.argument (part ∷ parts) ≡ part.value ∷ values part.argument parts
values-own part parts = ap (λ t. if t then part.value ∷ values part.argument parts else values part.argument parts) (eqb_same (place part.argument))
  where
    eqb_same : (n : ℕ) → (n == n) ≡ true
    eqb_same n = grind arith

-- parts can be added where there is room for them
pub adds-some : (parts : List Part) (g : Given) → ((a : Argument) → Fits (given_at g a) (values a parts)) → (t : Given) × (adds g parts ≡ Some t)
adds-some [] g fits = (g, refl)
adds-some (part ∷ parts) g fits =
    let none : given_at g part.argument ≡ None = Fits-none _ part.value (values part.argument parts) (subst (λ (vs : List ℕ). Fits (given_at g part.argument) vs) (values-own part parts) (fits part.argument)) in
    let more = adds-some parts (with_given g part.argument part.value) (λ a. Fits-add g part a (values a parts) (fits a)) in
    (more.0, ap (λ (o : Option Given). o >>= λ x. adds x parts) (add-none g part none) ∙ more.1)
