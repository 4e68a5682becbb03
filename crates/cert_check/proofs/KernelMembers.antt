-- The members of the lines of a kernel.
use Rattle.std.proofs.Common.{◌≡◌, ◌∙◌, ◌+◌, ◌<◌, ◌≤◌, ℕ, Bool, List, [], ◌∷◌, ◌++◌, length, map, take, get_or, refl, sym, ap, ap₂, subst}
use Rattle.std.specs.Prelude.{All, is_some}
use Rattle.std.proofs.lemmas.List.{map-append, take_all, take_more}
use Rattle.std.proofs.lemmas.List.Elements.{All-map}
use Rattle.alg_core.specs.Spaces.{SpaceOver, entries}
use Rattle.alg_core.specs.Vectors.{Entry}
use Rattle.alg_core.specs.declared.term.Term.{Term}
use Rattle.primary_module.specs.PrimaryModules.{IsLowPoly}
use Rattle.certificate_io.specs.declared.evidence.Line.{Line}
use Rattle.syzygy_kernel.specs.declared.member.Member.{Member}
use Rattle.cert_check.specs.Parts.{members}

abbrev Terms : Type 0
Terms = List (Term ℕ (List ℕ))

-- terms are those of their entries
back : Entry ℕ → Term ℕ (List ℕ)
back e = record { coef = e.1; at = record { pos = e.0.0; mono = e.0.1 } }

backs : (v : Terms) → map back (entries (λ m. m) v) ≡ v
unfolding back
backs [] = refl
backs (t ∷ v) = ap (λ l. t ∷ l) (backs v)

same-terms : (v w : Terms) → entries (λ m. m) v ≡ entries (λ m. m) w → v ≡ w
same-terms v w e = sym (backs v) ∙ ap (map back) e ∙ backs w

abbrev member : Line ℕ → Member ℕ
member l = record { u = l.u; is_fixed = is_some l.comb }

pub members_more : (ls : List (Line ℕ)) (made new : List (Member ℕ)) (i : ℕ) (l : Line ℕ) (u : Terms) (b : Bool) → i < length ls → l ≡ get_or ls i l
    → entries (λ m. m) u ≡ entries (λ m. m) l.u → b ≡ is_some l.comb → new ≡ made ++ (record { u = u; is_fixed = b }) ∷ []
    → made ≡ members (take i ls) → new ≡ members (take (i + 1) ls)
members_more ls made new i l u b low read copied named pushed before =
    pushed ∙ ap₂ (λ ms m. ms ++ m ∷ []) before (ap₂ (λ (v : Terms) (t : Bool). record { u = v; is_fixed = t }) (same-terms u l.u copied) named)
    ∙ sym (ap members (take_more ls i l low ∙ ap (λ x. take i ls ++ x ∷ []) (sym read)) ∙ map-append member (take i ls) (l ∷ []))

pub members_all : (ls : List (Line ℕ)) (made : List (Member ℕ)) (i : ℕ) → length ls ≤ i → made ≡ members (take i ls) → made ≡ members ls
members_all ls made i past h = h ∙ ap members (take_all i ls past)

pub members_low : (M : SpaceOver ℕ) (ls : List (Line ℕ)) (ms : List (Member ℕ)) → ms ≡ members ls → All (λ l. IsLowPoly M l.u) ls → All (λ m. IsLowPoly M m.u) ms
members_low M ls ms e h = subst (All (λ (m : Member ℕ). IsLowPoly M m.u)) (sym e) (All-map (λ (m : Member ℕ). IsLowPoly M m.u) member ls h)
