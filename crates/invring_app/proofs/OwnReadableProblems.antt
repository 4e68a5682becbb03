-- The values of a problem that a text sets: its characteristic is listed, and its variables are few, named, and none stands twice.
use Rattle.std.proofs.Common.{◌≡◌, ◌≢◌, ◌∙◌, ℕ, ◌≤◌, Bool, true, false, cond, List, [], ◌∷◌, ◌++◌, length, None, Some, refl, sym, subst, inl, inr, arith}
use Rattle.std.specs.Prelude.{All, AllPairs, Option, IsTrue, nat_le, ◌||◌}
use Rattle.std.specs.List.{flat_map}
use Rattle.std.specs.Option.{option_map}
use Rattle.std.specs.Str.{bytes_eq}
use Rattle.std.proofs.lemmas.Bool.{leb-true}
use Rattle.std.proofs.lemmas.List.Elements.{All-nil, All-cons}
use Rattle.std.proofs.lemmas.List.Kept.{AllPairs-cons}
use Rattle.std.proofs.lemmas.Slice.Eq.{bytes_eq-Decides}
use Rattle.alg_core.specs.Lists.{In, in_left, in_right}
use Rattle.alg_core.specs.Names.{is_name}
use Rattle.alg_core.specs.declared.input_fault.InputFault.{InputFault}
use Rattle.prime_field.specs.ListedPrimes.{is_listed}
use Rattle.finvar_text.specs.Conditions.{value, is_among, first_twice, first_of, names_of, declared_names, twice_fault, value_conditions, later_conditions, number_fault, field_fault, variables_fault, FaultFrom, HasFault}
use Rattle.finvar_text.specs.Problems.{Problem, IsProblemText}
use Rattle.finvar_text.specs.Syntax.{Script as Tree, IsSome}
use Rattle.finvar_text.proofs.ScriptSteps.{or_none}
use Rattle.finvar_text.proofs.SingularSteps.{fault_none}
use Rattle.certificate_io.specs.Syntax.{IsBetween}

no-first : (o : Option InputFault) (t : Tree) → FaultFrom o t None → o ≡ None
no-first None t h = refl
no-first (Some f) t h = absurd cc

name-none : (o : Option (List ℕ)) (f : List ℕ → InputFault) → option_map f o ≡ None → o ≡ None
name-none None f e = refl
name-none (Some w) f e = absurd cc

-- names of which none stands twice

first-none : (b : Bool) (w : List ℕ) (o : Option (List ℕ)) → cond b (Some w) o ≡ None → (b ≡ false) × (o ≡ None)
first-none true w o e = absurd cc
first-none false w o e = (refl, e)

or-false : (a b : Bool) → (a || b) ≡ false → (a ≡ false) × (b ≡ false)
or-false true b e = absurd cc
or-false false b e = (refl, e)

not-among : (w : List ℕ) (ws : List (List ℕ)) → is_among w ws ≡ false → (v : List ℕ) → In v ws → v ≢ w
not-among w [] e v i = absurd i
not-among w (x ∷ ws) e v (inl p) = λ same. apart (bytes_eq w x) ((bytes_eq-Decides w x).1 (sym same ∙ sym p)) (or-false (bytes_eq w x) (is_among w ws) e).0
  where
    apart : (b : Bool) → b ≡ true → b ≡ false → ⊥
    apart b p q = cc
not-among w (x ∷ ws) e v (inr i) = not-among w ws (or-false (bytes_eq w x) (is_among w ws) e).1 v i

-- what stands before is none of those after it
unlike : (ws l more : List (List ℕ)) → first_twice ws (l ++ more) ≡ None → (v : List ℕ) → In v ws → All (λ w. v ≢ w) l
unlike ws [] more e v i = All-nil (λ w. v ≢ w)
unlike ws (x ∷ l) more e v i =
    let p = first-none (is_among x ws) x (first_twice (ws ++ x ∷ []) (l ++ more)) e in
    All-cons (λ w. v ≢ w) x l (not-among x ws p.0 v i) (unlike (ws ++ x ∷ []) l more p.1 v (in_left v ws (x ∷ []) i))

pairs : (ws l more : List (List ℕ)) → first_twice ws (l ++ more) ≡ None → AllPairs (λ v w. v ≢ w) l
pairs ws [] more e = λ i j d before low. absurd (omega (arith, low))
pairs ws (x ∷ l) more e =
    let p = first-none (is_among x ws) x (first_twice (ws ++ x ∷ []) (l ++ more)) e in
    AllPairs-cons (λ v w. v ≢ w) x l (unlike (ws ++ x ∷ []) l more p.1 x (in_right x ws (x ∷ []) (inl refl))) (pairs (ws ++ x ∷ []) l more p.1)

some-length : {A : Type 0} (xs : List A) → IsSome xs → 1 ≤ length xs
some-length [] h = absurd h
some-length (x ∷ xs) h = omega arith

-- of a tree
module _ (t : Tree) (h : HasFault t None) where
  none : first_of (value_conditions t) ≡ None
  none = no-first (first_of (value_conditions t)) t h

  after-numbers : (field_fault t ≡ None) × (first_of (later_conditions t) ≡ None)
  after-numbers = or_none (field_fault t) _ (or_none (number_fault t) _ none).1

  tree-listed : is_listed (value t.characteristic) ≡ true
  tree-listed = fault_none (is_listed (value t.characteristic)) _ after-numbers.0

  tree-few : length t.variables ≤ 8
  tree-few = leb-true _ _ (fault_none (nat_le (length t.variables) 8) _ (or_none (variables_fault t) _ after-numbers.1).0)

  tree-distinct : AllPairs (λ v w. v ≢ w) t.variables
  tree-distinct =
      let twice = (or_none (twice_fault t) _ (or_none (variables_fault t) _ after-numbers.1).1).0 in
      let first = name-none (first_twice [] (declared_names t)) _ twice in
      pairs (t.ring ∷ []) t.variables (flat_map names_of t.items) first

-- of a problem
pub record IsNamed (q : Problem) : Type 0 where
  pub listed : is_listed q.characteristic ≡ true
  pub few : IsBetween 8 (length q.variables)
  pub names : All (λ w. IsTrue (is_name w)) q.variables
  pub distinct : AllPairs (λ v w. v ≢ w) q.variables

pub problem-named : (bytes : List ℕ) (q : Problem) → IsProblemText bytes q → IsNamed q
problem-named bytes q is =
    let t = is.tree in
    subst IsNamed (sym is.problem) (record {
      listed = tree-listed t is.values;
      few = (some-length t.variables is.text.script.some, tree-few t is.values);
      names = is.text.script.variables;
      distinct = tree-distinct t is.values;
    })
