-- What the chains over a list of offers come to.
use denote.Param.Members.{Mut}
use Rattle.std.proofs.Common.{◌≡◌, ℕ, ◌+◌, ◌*◌, ◌≤◌, Bool, true, false, ◌||◌, cond, List, [], ◌∷◌, length, map, Some, None, Option, fold, filter, sum, refl, sym, ap, ◌∙◌, subst, arith}
use Rattle.std.specs.Fn.{Called}
use Rattle.std.specs.Iterator.{Drains, FoldTurn, ReducesItems}
use Rattle.std.specs.List.{FoldsTo, list_any, reduce}
use Rattle.std.proofs.lemmas.Iterator.{YieldsList}
use Rattle.std.proofs.lemmas.Iterator.Consumers.{YieldsList-end}
use Rattle.std.proofs.lemmas.List.{map-id}
use Rattle.std.proofs.lemmas.List.Recursion.{same_from_clauses}
use Rattle.std.proofs.lemmas.List.Sums.{sum_by-cons}
use Rattle.measures.specs.declared.price.Price.{Price}
use Rattle.sheet.specs.declared.lines.Offer.{Offer}
use Rattle.sheet.specs.declared.lines.Direction.{Direction}
use Rattle.offers.specs.declared.span.Span.TheVariants.{Quarter}
use Rattle.offers.specs.Volumes.{picks, in_quarter}
use Rattle.offers.specs.Forming.{free, unconstrained, outer, farther, outermost}

pub any_free : (pick : Offer → Bool) (os : List Offer) → list_any (free pick) os ≡ unconstrained pick os
any_free pick = same_from_clauses (list_any (free pick)) (unconstrained pick) (λ o b. free pick o || b) refl (λ _ _. refl) (λ _ _. refl)

drained : {S A : Type 0} {steps : S → Option A → S → Type 0} {s : S} {all : List A} (xs : List A) → Drains steps s xs → YieldsList steps (λ x. x) s all → xs ≡ all
drained xs d e = sym (map-id xs) ∙ (YieldsList-end e xs d.1.0 d.1.1 None d.0 refl d.1.2).0

-- what `reduce` gives of a chain, where each call of its closure gives what h does
module _ {A F : Type 0} (g : Mut F (A × (A × Unit {0})) A) (h : A → A → A) {f : F} (acts : (a x b : A) (q : F) → Called g f (a, (x, tt)) b q → (q ≡ f) × (b ≡ h a x)) where
  folds : (xs : List A) (a : A) (q : F × A) → FoldsTo (FoldTurn g) (f, a) xs q → q.1 ≡ fold h a xs
  folds [] a q c = sym (ap (λ (v : F × A). v.1) c)
  folds (x ∷ xs) a q c =
      let m : (c.0.0 ≡ f) × (c.0.1 ≡ h a x) = acts a x c.0.1 c.0.0 c.1 in
      folds xs (h a x) q (subst (λ (v : F × A). FoldsTo (FoldTurn g) v xs q) {x = c.0} {y = (f, h a x)} (λ i. (m.0 i, m.1 i)) c.2)

  pub reduced : {S : Type 0} {steps : S → Option A → S → Type 0} {s : S} {all : List A} (r : Option A) → ReducesItems steps g s f r → YieldsList steps (λ x. x) s all → r ≡ reduce h all
  reduced None d e = ap (reduce h) (drained [] d e)
  reduced (Some y) d e = ap Some (folds d.1 d.0 (d.2, y) d.4) ∙ ap (reduce h) (drained (d.0 ∷ d.1) d.3 e)

module _ (d : Direction) (pick : Offer → Bool) where
  onward : (best : Price) (os : List Offer) → Some (fold (outer d) best (map (λ o. o.price) (filter pick os))) ≡ fold (farther d pick) (Some best) os
  onward best [] = refl
  onward best (o ∷ os) =
      let here : (b : Bool) → Some (fold (outer d) best (map (λ o. o.price) (cond b (o ∷ filter pick os) (filter pick os)))) ≡ fold (farther d pick) (cond b (Some (outer d best o.price)) (Some best)) os =
      elim [ true ↦ onward (outer d best o.price) os | false ↦ onward best os ] in
      here (pick o)

  pub outermost_of_picked : (os : List Offer) → reduce (outer d) (map (λ o. o.price) (filter pick os)) ≡ outermost d pick os
  outermost_of_picked [] = refl
  outermost_of_picked (o ∷ os) =
      let here : (b : Bool) → reduce (outer d) (map (λ o. o.price) (cond b (o ∷ filter pick os) (filter pick os))) ≡ fold (farther d pick) (cond b (Some o.price) None) os =
      elim [ true ↦ onward o.price os | false ↦ outermost_of_picked os ] in
      here (pick o)

pub sum_of_picked : (q : ℕ) (d : Direction) (os : List Offer) → sum (map (λ o. o.volume.kwh) (filter (picks (Quarter q) d) os)) ≡ in_quarter q d os
sum_of_picked q d [] = refl
sum_of_picked q d (o ∷ os) =
    let rest = filter (picks (Quarter q) d) os in
    let here : (b : Bool) → sum (map (λ o. o.volume.kwh) (cond b (o ∷ rest) rest)) ≡ cond b o.volume.kwh 0 + sum (map (λ o. o.volume.kwh) rest) =
    elim [ true ↦ sum_by-cons (λ x. x) o.volume.kwh (map (λ o. o.volume.kwh) rest) | false ↦ omega arith ] in
    here (picks (Quarter q) d o) ∙ ap (λ n. cond (picks (Quarter q) d o) o.volume.kwh 0 + n) (sum_of_picked q d os)

pub in_quarter_le : (q : ℕ) (d : Direction) (os : List Offer) → in_quarter q d os ≤ 1000000 * length os
in_quarter_le q d [] = omega arith
in_quarter_le q d (o ∷ os) =
    let here : (b : Bool) → cond b o.volume.kwh 0 ≤ 1000000 = elim [ true ↦ o.volume.limited | false ↦ omega arith ] in
    omega (arith, here (picks (Quarter q) d o), in_quarter_le q d os)
