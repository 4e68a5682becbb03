-- What is proved by cases of the command: its name and number, and that it ends in one way.
use Rattle.std.proofs.Common.{◌≡◌, ℕ, ◌≤◌, Bool, true, false, ◌&&◌, List, [], ◌∷◌, ◌++◌, refl, sym, ap, subst, ◌∙◌, arith, Some, None, if◌then◌else◌}
use Rattle.std.specs.Prelude.{nat_le, Option, codes, decimal, is_some}
use Rattle.std.specs.Str.{bytes_eq}
use Rattle.std.proofs.lemmas.Bool.{leb-true, le-leb}
use Rattle.std.proofs.lemmas.Option.{same_Some}
use Rattle.std.proofs.lemmas.Slice.Eq.{bytes_eq-Decides}
use Rattle.alg_core.specs.declared.limits.Limits.{Limits}
use Rattle.finvar_text.specs.Problems.{Problem}
use Rattle.invring_app.specs.declared.commands.Command.{Command}
use Rattle.invring_app.specs.declared.commands.Command.TheVariants.{Basis, Order, Primary, Ring, Check, Show, Demo}
use Rattle.invring_app.specs.Commands.{◌>>=◌, command_name, numbers_of, IsNumberOf, command_of, EndsAs}
use Rattle.invring_app.specs.Endings.{Ending, StopsAt, Rejects, Answers, AreAlike}
use Rattle.invring_app.specs.ErrorLines.{bound_pieces}
use Rattle.invring_app.specs.Inputs.{Input, NoInput, OfScript, OfCertificate}
use Rattle.invring_app.proofs.EndingLaws.{basis-text-one, order-one, order-over}
use Rattle.invring_app.proofs.CheckEnds.{check-one, show-one}
use Rattle.invring_app.proofs.DemoEnds.{demo-one}
use Rattle.invring_app.proofs.PrimaryEnds.{primary-one}
use Rattle.invring_app.proofs.RingEnds.{ring-one}
use Rattle.invring_app.proofs.GivenLaws.{Cell, Fits}

-- the number of a command, as a list
abbrev pub listed : Option ℕ → List ℕ
listed None = []
listed (Some d) = d ∷ []

pub cell-listed : (vs : List ℕ) (o : Option ℕ) → Cell None vs o → listed o ≡ vs
cell-listed [] o cell = ap listed cell
cell-listed (v ∷ []) o cell = ap listed cell
cell-listed (v ∷ w ∷ vs) o cell = absurd cell

listed-none : (o : Option ℕ) → listed o ≡ [] → o ≡ None
listed-none None e = refl
listed-none (Some d) e = absurd cc

listed-some : (o : Option ℕ) (d : ℕ) → listed o ≡ d ∷ [] → o ≡ Some d
listed-some None d e = absurd cc
listed-some (Some n) d e = let same : n ≡ d = cc in ap (λ (m : ℕ). Some m) same

pub numbers-fit : (c : Command) → Fits None (numbers_of c)
numbers-fit (Basis d) = tt
numbers-fit Order = tt
numbers-fit Primary = tt
numbers-fit Ring = tt
numbers-fit Check = tt
numbers-fit Show = tt
numbers-fit (Demo k) = tt

-- the command of a name and a number
pub record IsCommandOf (w : List ℕ) (o : Option ℕ) (c : Command) : Type 0 where
  pub name : w ≡ command_name c
  pub numbers : listed o ≡ numbers_of c
  pub range : IsNumberOf c

with-number : (w : List ℕ) (o : Option ℕ) (test : ℕ → Bool) (make : ℕ → Command) → ((d : ℕ) → test d ≡ true → (w ≡ command_name (make d)) × (d ∷ [] ≡ numbers_of (make d)) × IsNumberOf (make d))
    → (c : Command) → (o >>= λ d. if test d then Some (make d) else None) ≡ Some c → IsCommandOf w o c
with-number w None test make is c e = absurd cc
with-number w (Some d) test make is c e = go (test d) refl e
  where
    go : (t : Bool) → test d ≡ t → (if t then Some (make d) else None) ≡ Some c → IsCommandOf w (Some d) c
    go true within e = let made = is d within in subst (λ (x : Command). IsCommandOf w (Some d) x) (same_Some _ c e) (record { name = made.0; numbers = made.1; range = made.2 })
    go false within e = absurd cc

-- from 1 to 4
both-leb : (k : ℕ) → (nat_le 1 k && nat_le k 4) ≡ true → (1 ≤ k) × (k ≤ 4)
both-leb k test = go (nat_le 1 k) refl test
  where
    go : (t : Bool) → nat_le 1 k ≡ t → (t && nat_le k 4) ≡ true → (1 ≤ k) × (k ≤ 4)
    go true some few = (leb-true 1 k some, leb-true k 4 few)
    go false some few = absurd cc

without-number : (w : List ℕ) (o : Option ℕ) (made : Command) → w ≡ command_name made → [] ≡ numbers_of made → IsNumberOf made → (c : Command) → (if is_some o then None else Some made) ≡ Some c → IsCommandOf w o c
without-number w None made name numbers range c e = subst (λ (x : Command). IsCommandOf w None x) (same_Some _ c e) (record { name = name; numbers = numbers; range = range })
without-number w (Some d) made name numbers range c e = absurd cc

command-if : (w name : List ℕ) (o : Option ℕ) (first others : Option Command) → ((c : Command) → first ≡ Some c → IsCommandOf name o c) → ((c : Command) → others ≡ Some c → IsCommandOf w o c)
    → (c : Command) → (if bytes_eq w name then first else others) ≡ Some c → IsCommandOf w o c
command-if w name o first others this more c e = go (bytes_eq w name) refl e
  where
    go : (t : Bool) → bytes_eq w name ≡ t → (if t then first else others) ≡ Some c → IsCommandOf w o c
    go true same e = subst (λ (x : List ℕ). IsCommandOf x o c) (sym ((bytes_eq-Decides w name).0 same)) (this c e)
    go false same e = more c e

pub command_of-some : (w : List ℕ) (o : Option ℕ) (c : Command) → command_of w o ≡ Some c → IsCommandOf w o c
unfolding command_of
command_of-some w o =
    command-if w _ o _ _ (with-number _ o (λ (d : ℕ). nat_le d 1000) (λ (d : ℕ). Basis d) (λ d l. (refl, refl, leb-true d 1000 l)))
    (command-if w _ o _ _ (without-number _ o Order refl refl tt)
    (command-if w _ o _ _ (without-number _ o Primary refl refl tt)
    (command-if w _ o _ _ (without-number _ o Ring refl refl tt)
    (command-if w _ o _ _ (without-number _ o Check refl refl tt)
    (command-if w _ o _ _ (without-number _ o Show refl refl tt)
    (command-if w _ o _ _ (with-number _ o (λ (k : ℕ). nat_le 1 k && nat_le k 4) (λ (k : ℕ). Demo k) (λ k l. (refl, refl, both-leb k l))) (λ c e. absurd cc)))))))

pub command_of-is : (c : Command) (o : Option ℕ) → listed o ≡ numbers_of c → IsNumberOf c → command_of (command_name c) o ≡ Some c
unfolding command_of
command_of-is (Basis d) o e range = ap (command_of (codes "basis")) (listed-some o d e) ∙ ap (λ (t : Bool). if t then Some (Basis d) else None) (le-leb d 1000 range)
command_of-is Order o e range = ap (command_of (codes "order")) (listed-none o e)
command_of-is Primary o e range = ap (command_of (codes "primary")) (listed-none o e)
command_of-is Ring o e range = ap (command_of (codes "ring")) (listed-none o e)
command_of-is Check o e range = ap (command_of (codes "check")) (listed-none o e)
command_of-is Show o e range = ap (command_of (codes "show")) (listed-none o e)
command_of-is (Demo k) o e range =
    ap (command_of (codes "demo")) (listed-some o k e)
    ∙ ap (λ (t : Bool). if t && nat_le k 4 then Some (Demo k) else None) (le-leb 1 k range.0) ∙ ap (λ (t : Bool). if t then Some (Demo k) else None) (le-leb k 4 range.1)

-- a command ends in one way

basis-one : (d : ℕ) (l : Limits) (q : Problem) (e f : Ending) → EndsAs (Basis d) l (OfScript q) e → EndsAs (Basis d) l (OfScript q) f → AreAlike e f
basis-one d l q (StopsAt x) (StopsAt y) h g = ap bound_pieces (h.0 ∙ sym g.0)
basis-one d l q (StopsAt x) (Rejects a i text) h g = absurd g
basis-one d l q (StopsAt x) (Answers text) h g = let over = h.1 in let few = g.0 in omega arith
basis-one d l q (Rejects a i text) f h g = absurd h
basis-one d l q (Answers text) (StopsAt y) h g = let over = g.1 in let few = h.0 in omega arith
basis-one d l q (Answers text) (Rejects a i other) h g = absurd g
basis-one d l q (Answers text) (Answers other) h g = basis-text-one q d text other h.1 g.1

order-end-one : (l : Limits) (q : Problem) (e f : Ending) → EndsAs Order l (OfScript q) e → EndsAs Order l (OfScript q) f → AreAlike e f
order-end-one l q (StopsAt x) (StopsAt y) h g = ap bound_pieces (h.0 ∙ sym g.0)
order-end-one l q (StopsAt x) (Rejects a i text) h g = absurd g
order-end-one l q (StopsAt x) (Answers text) h g = let over = order-over q g.0 l.max_order g.1 h.1 in let few = g.2 in omega arith
order-end-one l q (Rejects a i text) f h g = absurd h
order-end-one l q (Answers text) (StopsAt y) h g = let over = order-over q h.0 l.max_order h.1 g.1 in let few = h.2 in omega arith
order-end-one l q (Answers text) (Rejects a i other) h g = absurd g
order-end-one l q (Answers text) (Answers other) h g = h.3 ∙ ap (λ (n : ℕ). decimal n ++ 10 ∷ []) (order-one q h.0 g.0 h.1 g.1) ∙ sym g.3

pub ending-one : (c : Command) (l : Limits) (i : Input) (e f : Ending) → EndsAs c l i e → EndsAs c l i f → AreAlike e f
ending-one (Basis d) l NoInput e f h g = absurd h
ending-one (Basis d) l (OfScript q) e f h g = basis-one d l q e f h g
ending-one (Basis d) l (OfCertificate c) e f h g = absurd h
ending-one Order l NoInput e f h g = absurd h
ending-one Order l (OfScript q) e f h g = order-end-one l q e f h g
ending-one Order l (OfCertificate c) e f h g = absurd h
ending-one Primary l NoInput e f h g = absurd h
ending-one Primary l (OfScript q) e f h g = primary-one q l e f h g
ending-one Primary l (OfCertificate c) e f h g = absurd h
ending-one Ring l NoInput e f h g = absurd h
ending-one Ring l (OfScript q) e f h g = ring-one q l e f h g
ending-one Ring l (OfCertificate c) e f h g = absurd h
ending-one Check l NoInput e f h g = absurd h
ending-one Check l (OfScript q) e f h g = absurd h
ending-one Check l (OfCertificate c) e f h g = check-one c l e f h g
ending-one Show l NoInput e f h g = absurd h
ending-one Show l (OfScript q) e f h g = absurd h
ending-one Show l (OfCertificate c) e f h g = show-one c l e f h g
ending-one (Demo k) l NoInput e f h g = demo-one k l e f h g
ending-one (Demo k) l (OfScript q) e f h g = absurd h
ending-one (Demo k) l (OfCertificate c) e f h g = absurd h
