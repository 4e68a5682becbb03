-- Words are a command exactly where the reading from the left finds it.
use Rattle.std.proofs.Common.{◌≡◌, ℕ, Bool, true, false, List, [], ◌∷◌, refl, sym, ap, subst, ◌∙◌, arith, inl, inr, Some, None, if◌then◌else◌}
use Rattle.std.specs.Prelude.{◌⊎◌, Option, ◌==◌, All, IfSome, IfNone, unwrap_or}
use Rattle.std.proofs.lemmas.Bool.{eqb-true}
use Rattle.std.proofs.lemmas.List.Elements.{All-nil, All-cons, All-head}
use Rattle.std.proofs.lemmas.Option.{same_Some}
use Rattle.alg_core.specs.LimitRanges.{IsFrom, AreLimits}
use Rattle.alg_core.specs.declared.limits.Limits.{Limits}
use Rattle.invring_app.specs.declared.arguments.Argument.{Argument}
use Rattle.invring_app.specs.declared.arguments.Argument.TheVariants.{Number, MaxOrder, MaxDegree, MaxBasis, MaxTerms, MaxRank, Tries, MaxText}
use Rattle.invring_app.specs.declared.given.Given.{Given}
use Rattle.invring_app.specs.declared.commands.Command.{Command}
use Rattle.invring_app.specs.declared.words.Request.{Request}
use Rattle.invring_app.specs.Commands.{◌>>=◌, command_of, command_name, numbers_of, IsNumberOf}
use Rattle.invring_app.specs.Words.{Part, row, limit_at, option_name, least, most, IsOption, IsInRange, AreParts, place, values, IsChosen, IsRequest}
use Rattle.invring_app.specs.WordReading.{given_at, nothing_given, limit_of, limits_of, arguments_of, request_of}
use Rattle.invring_app.proofs.CommandCases.{listed, cell-listed, numbers-fit, IsCommandOf, command_of-some, command_of-is}
use Rattle.invring_app.proofs.GivenLaws.{place-injective, Cell, Fits, adds-some, adds-cells}
use Rattle.invring_app.proofs.WordLaws.{at-option, Number-only, read_from, AreParts-read, Written, read-written}

-- the value of one argument, by the values that were given for it

IsChosen-cell : (vs : List ℕ) (default : ℕ) (o : Option ℕ) → Cell None vs o → IsChosen vs default (unwrap_or o default)
IsChosen-cell [] default o cell = ap (λ (x : Option ℕ). unwrap_or x default) cell
IsChosen-cell (v ∷ []) default o cell = ap (λ (x : Option ℕ). unwrap_or x default) cell
IsChosen-cell (v ∷ w ∷ vs) default o cell = absurd cell

cell-chosen : (vs : List ℕ) (default : ℕ) (o : Option ℕ) (v : ℕ) → Cell None vs o → IsChosen vs default v → unwrap_or o default ≡ v
cell-chosen [] default o v cell chosen = ap (λ (x : Option ℕ). unwrap_or x default) cell ∙ sym chosen
cell-chosen (x ∷ []) default o v cell chosen = ap (λ (x : Option ℕ). unwrap_or x default) cell ∙ sym chosen
cell-chosen (x ∷ y ∷ xs) default o v cell chosen = absurd cell

Fits-chosen : (vs : List ℕ) (default v : ℕ) → IsChosen vs default v → Fits None vs
Fits-chosen [] default v chosen = tt
Fits-chosen (x ∷ []) default v chosen = tt
Fits-chosen (x ∷ y ∷ xs) default v chosen = absurd chosen

-- the request of what was given
abbrev asked : List ℕ → Given → Option Request
asked w g = command_of w g.number >>= λ c. Some (record { command = c; limits = limits_of g })

abbrev asked_after : List ℕ → List (List ℕ) → Option Request
asked_after w ws = read_from nothing_given None ws >>= asked w

request_of-after : (w : List ℕ) (ws : List (List ℕ)) → request_of (w ∷ ws) ≡ asked_after w ws
unfolding arguments_of
request_of-after w ws = refl

limits-same : (g : Given) (limits : Limits) → ((a : Argument) → IsOption a → limit_of g a ≡ limit_at limits a) → limits_of g ≡ limits
limits-same g limits same =
    let e0 = same MaxOrder (_, refl) in
    let e1 = same MaxDegree (_, refl) in
    let e2 = same MaxBasis (_, refl) in
    let e3 = same MaxTerms (_, refl) in
    let e4 = same MaxRank (_, refl) in
    let e5 = same Tries (_, refl) in
    let e6 = same MaxText (_, refl) in
    λ i. record { max_order = e0 i; max_degree = e1 i; max_basis = e2 i; max_terms = e3 i; max_rank = e4 i; tries = e5 i; max_text = e6 i }

limit-same : (g : Given) (a : Argument) → IsOption a → limit_at (limits_of g) a ≡ limit_of g a
limit-same g a some = at-option (λ a name. limit_at (limits_of g) a ≡ limit_of g a) refl refl refl refl refl refl refl a some.0 some.1

nothing-at : (a : Argument) → IsOption a → given_at nothing_given a ≡ None
nothing-at a some = at-option (λ a name. given_at nothing_given a ≡ None) refl refl refl refl refl refl refl a some.0 some.1

-- an argument of a command has at most one value
named-or-number : (a : Argument) → (a ≡ Number) ⊎ IsOption a
named-or-number a = go (option_name a) refl
  where
    go : (o : Option (List ℕ)) → option_name a ≡ o → (a ≡ Number) ⊎ IsOption a
    go None is = inl (Number-only a is)
    go (Some name) is = inr (name, is)

room : (words : List (List ℕ)) (r : Request) (is : IsRequest words r) (a : Argument) → Fits (given_at nothing_given a) (values a is.parts)
room words r is a = go (named-or-number a)
  where
    go : (a ≡ Number) ⊎ IsOption a → Fits (given_at nothing_given a) (values a is.parts)
    go (inl number) = subst (λ (b : Argument). Fits (given_at nothing_given b) (values b is.parts)) (sym number) (subst (λ (vs : List ℕ). Fits None vs) (sym is.numbers) (numbers-fit r.command))
    go (inr some) = subst (λ (o : Option ℕ). Fits o (values a is.parts)) (sym (nothing-at a some)) (Fits-chosen _ (row a).default _ (is.limits a some))

-- words that are a command are read
pub IsRequest-read : (words : List (List ℕ)) (r : Request) → IsRequest words r → request_of words ≡ Some r
IsRequest-read words r is =
    let added = adds-some is.parts nothing_given (room words r is) in
    let g : Given = added.0 in
    let cells = adds-cells is.parts nothing_given g added.1 in
    let numbers : listed g.number ≡ numbers_of r.command = cell-listed _ _ (cells Number) ∙ is.numbers in
    let at : (a : Argument) → IsOption a → Cell None (values a is.parts) (given_at g a) = λ a some. subst (λ (o : Option ℕ). Cell o (values a is.parts) (given_at g a)) (nothing-at a some) (cells a) in
    let same : limits_of g ≡ r.limits = limits-same g r.limits (λ a some. cell-chosen _ (row a).default _ _ (at a some) (is.limits a some)) in
    ap request_of is.command
    ∙ request_of-after (command_name r.command) is.rest
    ∙ ap (λ (o : Option Given). o >>= asked (command_name r.command)) (AreParts-read is.parts is.rest nothing_given is.written ∙ added.1)
    ∙ ap (λ (o : Option Command). o >>= λ c. Some (record { command = c; limits = limits_of g })) (command_of-is r.command g.number numbers is.range)
    ∙ ap (λ (l : Limits). Some (record { command = r.command; limits = l })) same

written-request : (w : List ℕ) (ws : List (List ℕ)) (g : Given) (c : Command) → IsCommandOf w g.number c → Written nothing_given ws g → IsRequest (w ∷ ws) (record { command = c; limits = limits_of g })
written-request w ws g c of written =
    let cells = adds-cells written.parts nothing_given g written.added in
    record {
      rest = ws;
      parts = written.parts;
      command = ap (λ (x : List ℕ). x ∷ ws) of.name;
      written = written.written;
      numbers = sym (cell-listed _ _ (cells Number)) ∙ of.numbers;
      range = of.range;
      limits = λ a some. subst (IsChosen (values a written.parts) (row a).default) (sym (limit-same g a some))
          (IsChosen-cell _ (row a).default _ (subst (λ (o : Option ℕ). Cell o (values a written.parts) (given_at g a)) (nothing-at a some) (cells a)));
    }

-- what is read is a command
pub read-IsRequest : (words : List (List ℕ)) (r : Request) → request_of words ≡ Some r → IsRequest words r
read-IsRequest [] r e = absurd cc
read-IsRequest (w ∷ ws) r e = given (read_from nothing_given None ws) refl (sym (request_of-after w ws) ∙ e)
  where
    command : (g : Given) (o : Option Command) → command_of w g.number ≡ o → Written nothing_given ws g → (o >>= λ c. Some (record { command = c; limits = limits_of g })) ≡ Some r → IsRequest (w ∷ ws) r
    command g None is written e = absurd cc
    command g (Some c) is written e = subst (λ (r : Request). IsRequest (w ∷ ws) r) (same_Some _ _ e) (written-request w ws g c (command_of-some w g.number c is) written)

    given : (o : Option Given) → read_from nothing_given None ws ≡ o → (o >>= asked w) ≡ Some r → IsRequest (w ∷ ws) r
    given None is e = absurd cc
    given (Some g) is e = command g (command_of w g.number) refl (read-written ws nothing_given None g is) e

pub IsRequest-decided : (words : List (List ℕ)) (o : Option Request) → o ≡ request_of words → IfSome o (IsRequest words) × IfNone o ((r : Request) → ¬ IsRequest words r)
IsRequest-decided words None is = (tt, λ r asks. let read : request_of words ≡ Some r = IsRequest-read words r asks in absurd cc)
IsRequest-decided words (Some r) is = (read-IsRequest words r (sym is), tt)

-- words are at most one command
pub IsRequest-unique : (words : List (List ℕ)) (r s : Request) → IsRequest words r → IsRequest words s → r ≡ s
IsRequest-unique words r s first second = same_Some r s (sym (IsRequest-read words r first) ∙ IsRequest-read words s second)

-- the ranges

values-range : (parts : List Part) (ws : List (List ℕ)) (a : Argument) → AreParts ws parts → All (IsInRange a) (values a parts)
values-range [] ws a written = All-nil (IsInRange a)
values-range (part ∷ parts) ws a written = go (place part.argument == place a) refl (values-range parts written.1 a written.4)
  where
    go : (t : Bool) → (place part.argument == place a) ≡ t → All (IsInRange a) (values a parts) → All (IsInRange a) (if t then part.value ∷ values a parts else values a parts)
    go true is others =
        let same : part.argument ≡ a = place-injective part.argument a (eqb-true _ _ is) in
        All-cons (IsInRange a) part.value (values a parts) (subst (λ (b : Argument). IsInRange b part.value) same written.3.range) others
    go false is others = others

chosen-range : (a : Argument) (vs : List ℕ) (default v : ℕ) → IsInRange a default → All (IsInRange a) vs → IsChosen vs default v → IsInRange a v
chosen-range a [] default v within all chosen = subst (IsInRange a) (sym chosen) within
chosen-range a (x ∷ []) default v within all chosen = subst (IsInRange a) (sym chosen) (All-head (IsInRange a) x [] all)
chosen-range a (x ∷ y ∷ xs) default v within all chosen = absurd chosen

default-range : (a : Argument) → IsOption a → IsInRange a (row a).default
default-range a some =
    at-option (λ a name. IsInRange a (row a).default) (omega arith, omega arith) (omega arith, omega arith) (omega arith, omega arith) (omega arith, omega arith) (omega arith, omega arith)
    (omega arith, omega arith) (omega arith, omega arith) a some.0 some.1

pub IsRequest-limits : (words : List (List ℕ)) (r : Request) → IsRequest words r → AreLimits r.limits
IsRequest-limits words r is =
    let at : (a : Argument) → IsOption a → IsFrom (least a) (most a) (limit_at r.limits a) =
    λ a some. let range = chosen-range a _ (row a).default _ (default-range a some) (values-range is.parts is.rest a is.written) (is.limits a some) in record { above = range.0; below = range.1 } in
    record { max_order = at MaxOrder (_, refl); max_degree = at MaxDegree (_, refl); max_basis = at MaxBasis (_, refl); max_terms = at MaxTerms (_, refl); max_rank = at MaxRank (_, refl); tries = at Tries (_, refl); max_text = at MaxText (_, refl) }

pub IsRequest-number : (words : List (List ℕ)) (r : Request) → IsRequest words r → IsNumberOf r.command
IsRequest-number words r is = is.range
